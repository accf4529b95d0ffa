-- What the two askings of a check ask for.
use Rattle.std.specs.Prelude.{◌≡◌, ℕ, ◌+◌, ◌⊎◌}
use Rattle.wire.specs.declared.asked.Asked.{Asked}
use Rattle.wire.specs.declared.asked.Asked.TheVariants.{Sums, Signatures}
use Rattle.scheme.specs.Askings.{first_sums, all_sums, Plain}
use Rattle.calls.specs.declared.terms.Terms.{Terms}
use Rattle.calls.specs.declared.question.Question.{Question}

-- the question is for these, from the first index to the last
abbrev pub About : Question → Asked → (first last : ℕ) → Type 0
About q asked first last = (q.asked ≡ asked) × (q.first ≡ first) × (q.last ≡ last)

-- all signatures are asked for in a plain check
abbrev pub PlainTerms : Terms → Type 0
PlainTerms t = Plain t.farm.stations t.farm.pages t.farm.bound

-- the first asking is for all signatures in a plain check, and for the first sums in any other
abbrev pub FirstAsks : Terms → Question → Type 0
FirstAsks t q =
    (PlainTerms t × About q Signatures 1 t.farm.pages)
    ⊎ ((¬ PlainTerms t) × About q Sums 1 (first_sums t.farm.stations t.farm.bound))

-- the second asking is for the sums that are left
abbrev pub SecondAsks : Terms → Question → Type 0
SecondAsks t q = About q Sums (first_sums t.farm.stations t.farm.bound + 1) (all_sums t.farm.pages t.farm.bound)
