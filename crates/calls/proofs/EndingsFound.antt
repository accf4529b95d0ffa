-- How weighing and settling end is found by the rules: from what the rows come to and what the check closes on.
use Rattle.std.proofs.Common.{◌≡◌, ℕ, ◌≤◌, List, sym, refl, subst, inl, inr, arith}
use Rattle.field.specs.Field.{Ops, Laws, Spread, page_limit}
use Rattle.refusal.specs.Rules.{Within}
use Rattle.scheme.specs.Farm.{Table, Same}
use Rattle.scheme.specs.Askings.{filled, asks}
use Rattle.scheme.specs.Askings as rules
use Rattle.scheme.specs.Closing.{Splits, Reports}
use Rattle.scheme.proofs.Tables.{decided_same}
use Rattle.tally.specs.Rows.{signature_in, Filled}
use Rattle.tally.specs.Judging.{Ends}
use Rattle.tally.specs.declared.outcome.Outcome.{Outcome}
use Rattle.tally.specs.declared.outcome.Outcome.TheVariants as outcome
use Rattle.verdict.specs.Judging.{Weighs, Comes, Weighed, Settled}
use Rattle.calls.specs.declared.terms.Terms.{Terms}
use Rattle.calls.specs.declared.ending.Ending.{Ending}
use Rattle.calls.specs.declared.ending.Ending.TheVariants.{Closes, Asks}
use Rattle.calls.specs.declared.phases.Verdict.{Verdict}
use Rattle.calls.specs.declared.phases.Verdict.TheVariants.{Report, Split, Over}
use Rattle.calls.specs.Questions.{PlainTerms}
use Rattle.calls.specs.Closing.{WeighEnds, SettleEnds, ClosesWith}
use Rattle.calls.specs.Endings.{ClosesOn, EndsIn, WeighedAs}
use Rattle.calls.proofs.AsksOne.{asked_within, asks_one}

-- ── the same rows close with the same verdict
module _ (M N : ℕ) (Q R : Table) (same : Same M N Q R) where
  reports_same : Reports M N Q → Reports M N R
  reports_same all n page = decided_same M N Q R same n page (all n page)

  splits_same : (n : ℕ) → Splits M N Q n → Splits M N R n
  splits_same n split = (
    split.0,
    λ decided. split.1 (decided_same M N R Q (λ s m a b. sym (same s m a b)) n split.0 decided),
    λ m from less split_too. split.2 m from less (λ decided. split_too (decided_same M N Q R same m (omega (arith, split.0)) decided)),
  )

module _ (Says : rules.Outcome → Type 0) (M N : ℕ) (before after : List ℕ) where
  -- the check closes as is found, or the station that is asked again is the one that the rules name
  abbrev Found : Ending → Type 0
  Found (Closes v) = ClosesWith Says M N before after v
  Found (Asks k) = Says (asks k) × (after ≡ before)

  closes_filled : (R : Table) → Says (filled R) → Filled M N before after R → (v : Verdict) → ClosesOn M N after v → ClosesWith Says M N before after v
  closes_filled R says rows Report all = (R, says, rows, reports_same M N (signature_in after N) R rows.rows all)
  closes_filled R says rows (Split n) split = inr (R, says, rows, splits_same M N (signature_in after N) R rows.rows n split)
  closes_filled R says rows Over none = absurd none

  ending_found : (o : Outcome) (e : Ending) → Ends M N Says before after o → EndsIn M N after o e → Found e
  ending_found outcome.Over e ends is = subst Found (sym is) ends
  ending_found (outcome.Split n) e ends is = subst Found (sym is) (let found : ClosesWith Says M N before after (Split n) = inl ends in found)
  ending_found outcome.Filled e ends is = subst Found (sym is.1) (closes_filled ends.0 ends.1 ends.2 is.0 is.2)
  ending_found (outcome.Asks k) e ends is = subst Found (sym is) ends

-- nothing is written where the rows are at hand
rows_stay : (M N : ℕ) (before : List ℕ) → Filled M N before before (signature_in before N)
rows_stay M N before = record { size = refl; rows = λ s n a b. refl; rest = λ i off. refl }

ends_more : (Said Says : rules.Outcome → Type 0) (M N : ℕ) (before after : List ℕ) → ((o : rules.Outcome) → Said o → Says o) → (o : Outcome)
    → Ends M N Said before after o → Ends M N Says before after o
ends_more Said Says M N before after more outcome.Over ends = (more rules.over ends.0, ends.1)
ends_more Said Says M N before after more (outcome.Split n) ends = (more (rules.split n) ends.0, ends.1)
ends_more Said Says M N before after more outcome.Filled ends = (ends.0, more (filled ends.0) ends.1, ends.2)
ends_more Said Says M N before after more (outcome.Asks k) ends = (more (asks k) ends.0, ends.1)

module _ (f : Ops) (t : Terms) (before : List ℕ) where
  pub plain_found : PlainTerms t → (v : Verdict) → ClosesOn t.farm.stations t.farm.pages before v → ClosesWith (WeighEnds f t before) t.farm.stations t.farm.pages before before v
  plain_found plain v closes =
      let R : Table = signature_in before t.farm.pages in
      closes_filled (WeighEnds f t before) t.farm.stations t.farm.pages before before R (inl (R, refl, plain, λ s n a b. refl)) (rows_stay t.farm.stations t.farm.pages before) v closes

  module _ (after : List ℕ) where
    pub weighing_asks : Laws f → Spread f → t.farm.pages ≤ page_limit f → (o : Outcome) → Weighed f t.farm.stations t.farm.pages t.farm.bound before after o
        → (k : ℕ) → o ≡ outcome.Asks k → Within 2 t.farm.stations k
    weighing_asks laws spread narrow o weighed k is =
        asked_within f laws spread t narrow before k (subst (Weighed f t.farm.stations t.farm.pages t.farm.bound before after) is weighed).0

    pub weighed_found : Laws f → Spread f → t.farm.pages ≤ page_limit f → ¬ PlainTerms t → (o : Outcome) (e : Ending)
        → Weighed f t.farm.stations t.farm.pages t.farm.bound before after o → EndsIn t.farm.stations t.farm.pages after o e → WeighedAs f t before after e
    weighed_found laws spread narrow not_plain o e weighed is = with_station e found
      where
        found : Found (WeighEnds f t before) t.farm.stations t.farm.pages before after e
        found =
            ending_found (WeighEnds f t before) t.farm.stations t.farm.pages before after o e
            (ends_more (Weighs f t.farm.stations t.farm.pages t.farm.bound before before) (WeighEnds f t before) t.farm.stations t.farm.pages before after (λ o says. inr (not_plain, says)) o weighed) is

        with_station : (e : Ending) → Found (WeighEnds f t before) t.farm.stations t.farm.pages before after e → WeighedAs f t before after e
        with_station (Closes v) found = found
        with_station (Asks k) found = (found.0, found.1, (asks_one f laws spread t narrow before k found.0).1)

    pub settled_found : (o : Outcome) (v : Verdict) → Settled f t.farm.stations t.farm.pages t.farm.bound before after o → EndsIn t.farm.stations t.farm.pages after o (Closes v)
        → ClosesWith (SettleEnds f t before) t.farm.stations t.farm.pages before after v
    settled_found o v settled is =
        ending_found (SettleEnds f t before) t.farm.stations t.farm.pages before after o (Closes v)
        (ends_more (Comes f t.farm.stations t.farm.pages t.farm.bound before after) (SettleEnds f t before) t.farm.stations t.farm.pages before after comes o settled) is
      where
        comes : (o : rules.Outcome) → Comes f t.farm.stations t.farm.pages t.farm.bound before after o → SettleEnds f t before o
        comes rules.over x = x
        comes (rules.split n) x = x
        comes (rules.filled R) x = x
        comes (rules.asks k) x = x
