-- Weighing asks a station again only where a check is not plain; it is one of 2 .. M, and sums are left to ask it for.
use Rattle.std.proofs.Common.{ℕ, ◌<◌, ◌≤◌, List, inl, inr, sym, subst, arith}
use native.Mathlib.Decide.{dec_le}
use Rattle.field.specs.Field.{Ops, Laws, Spread, page_limit}
use Rattle.refusal.specs.Rules.{Within}
use Rattle.scheme.specs.Askings.{first_sums, all_sums, Plain, asks}
use Rattle.scheme.specs.Farm.{Table}
use Rattle.scheme.specs.Weighing.{Weighs}
use Rattle.scheme.proofs.AtLeastOne.{some_outcome}
use Rattle.tally.specs.Rows.{sum_in, signature_in}
use Rattle.calls.specs.declared.terms.Terms.{Terms}
use Rattle.calls.specs.Questions.{PlainTerms}
use Rattle.calls.specs.Closing.{WeighEnds}
use Rattle.calls.proofs.FirstSums.{first_sums_more}

module _ (f : Ops) (laws : Laws f) (spread : Spread f) (t : Terms) (narrow : t.farm.pages ≤ page_limit f) (tally : List ℕ) (k : ℕ) where
  pub asked_within : Weighs f t.farm.stations t.farm.pages t.farm.bound (sum_in tally t.farm.pages) (signature_in tally t.farm.pages 1) (asks k) → Within 2 t.farm.stations k
  asked_within weighs =
      let total =
      some_outcome f laws spread t.farm.stations t.farm.pages t.farm.bound t.farm.stations_in.0 (omega (arith, narrow)) (sum_in tally t.farm.pages) (sum_in tally t.farm.pages) (signature_in tally t.farm.pages 1)
      in
      let asked = total.1 k weighs in
      (asked.0, asked.1)

  pub asks_one : WeighEnds f t tally (asks k) → (¬ PlainTerms t) × Within 2 t.farm.stations k
  asks_one (inl at_hand) = absurd (cc at_hand.1)
  asks_one (inr weighs) = (weighs.0, asked_within weighs.1)

-- sums are left to ask for
pub sums_left : (f : Ops) (M N bound : ℕ) (T : Table) (own : ℕ → ℕ) (k : ℕ) → 1 ≤ bound → ¬ Plain M N bound → Weighs f M N bound T own (asks k)
    → first_sums M bound < all_sums N bound
sums_left f M N bound T own k some not (inl (four, w)) = elim (dec_le N bound) [
  | yes few ↦ absurd (not (inl (four, few)))
  | no many ↦ omega (arith, first_sums_more M bound (omega arith))
]
sums_left f M N bound T own k some not (inr (three, w)) = subst (λ M. first_sums M bound < all_sums N bound) (sym three) w.0
