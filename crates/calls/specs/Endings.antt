-- How an asking ends, as weighing and settling decide it.
use Rattle.std.specs.Prelude.{◌≡◌, ℕ, List}
use Rattle.field.specs.Field.{Ops}
use Rattle.refusal.specs.Rules.{Within}
use Rattle.scheme.specs.Askings.{asks}
use Rattle.scheme.specs.Closing.{Splits, Reports}
use Rattle.tally.specs.Rows.{signature_in}
use Rattle.tally.specs.declared.outcome.Outcome.{Outcome}
use Rattle.tally.specs.declared.outcome.Outcome.TheVariants as outcome
use Rattle.calls.specs.declared.terms.Terms.{Terms}
use Rattle.calls.specs.declared.ending.Ending.{Ending}
use Rattle.calls.specs.declared.ending.Ending.TheVariants.{Closes, Asks}
use Rattle.calls.specs.declared.phases.Verdict.{Verdict}
use Rattle.calls.specs.declared.phases.Verdict.TheVariants.{Report, Split, Over}
use Rattle.calls.specs.Closing.{WeighEnds, ClosesWith}

-- what rows that are filled close with
abbrev pub ClosesOn : (M N : ℕ) → (tally : List ℕ) → Verdict → Type 0
ClosesOn M N tally Report = Reports M N (signature_in tally N)
ClosesOn M N tally (Split n) = Splits M N (signature_in tally N) n
ClosesOn M N tally Over = ⊥

-- what an outcome of the rules ends in
abbrev pub EndsIn : (M N : ℕ) → (tally : List ℕ) → Outcome → Ending → Type 0
EndsIn M N tally outcome.Over e = e ≡ Closes Over
EndsIn M N tally (outcome.Split n) e = e ≡ Closes (Split n)
EndsIn M N tally outcome.Filled e = (v : Verdict) × (e ≡ Closes v) × ClosesOn M N tally v
EndsIn M N tally (outcome.Asks k) e = e ≡ Asks k

-- how the first asking ends
abbrev pub WeighedAs : Ops → Terms → (before after : List ℕ) → Ending → Type 0
WeighedAs f t before after (Closes v) = ClosesWith (WeighEnds f t before) t.farm.stations t.farm.pages before after v
WeighedAs f t before after (Asks k) = WeighEnds f t before (asks k) × (after ≡ before) × Within 2 t.farm.stations k
