-- A list of pages is no longer than there are pages, so that a listing of them is refused nowhere.
use Rattle.std.proofs.Common.{◌≡◌, ℕ, zero, suc, ◌-◌, ◌≤◌, ◌<◌, List, length, get_or, Some, Result, Ok, Err, refl, inl, inr, arith}
use Rattle.std.specs.Result.{IsOk}
use native.Mathlib.Decide.{dec_le}
use Rattle.refusal.specs.declared.Refusal.{Refusal}
use Rattle.refusal.specs.Rules.{Within, Refused}
use Rattle.tally.specs.Rows.{tally_size}
use Rattle.tally.specs.Listing.{Lists}
use Rattle.calls.specs.declared.terms.Terms.{Terms}
use Rattle.calls.specs.declared.phases.Verdict.TheVariants.{Report}
use Rattle.calls.specs.Listing.{listing, Listing}

module _ (N : ℕ) (Q : ℕ → Type 0) (xs : List ℕ) (l : Lists N Q xs) where
  -- a page is no less than its position
  page_least : (i : ℕ) → i < length xs → suc i ≤ get_or xs i 0
  page_least zero h = (l.each zero h).0.0
  page_least (suc i) h = omega (arith, page_least i (omega arith), l.rising i (suc i) (omega arith) h)

  pub lists_short : length xs ≤ N
  lists_short = elim (dec_le (length xs) 0) [
    | yes none ↦ omega arith
    | no some ↦
        let i = length xs - 1 in
        let h : i < length xs = omega arith in
        omega (arith, page_least i h, (l.each i h).0)
  ]

report_listed : (t : Terms) (s : ℕ) (tally : List ℕ) (room : ℕ) → tally_size t.farm.stations t.farm.pages ≤ length tally → Within 1 t.farm.stations s → t.farm.pages ≤ room
    → (e : Refusal) → Refused (listing t (Some Report) s tally room) e → ⊥
report_listed t s tally room fits station many e (inl x) = x.0 fits
report_listed t s tally room fits station many e (inr (_, inl x)) = x.0 (let same : ◌≡◌ {A = _} (Some Report) (Some Report) = refl in same)
report_listed t s tally room fits station many e (inr (_, inr (_, inl x))) = x.0 station
report_listed t s tally room fits station many e (inr (_, inr (_, inr (_, inl x)))) =
    omega (arith, many, x.0.2, lists_short t.farm.pages _ x.0.0 x.0.1)
report_listed t s tally room fits station many e (inr (_, inr (_, inr (_, inr x)))) = x.1

pub list_ok : (t : Terms) (s : ℕ) (tally before after : List ℕ) (r : Result ℕ Refusal) → tally_size t.farm.stations t.farm.pages ≤ length tally → Within 1 t.farm.stations s
    → t.farm.pages ≤ length before → Listing t (Some Report) s tally before r after → IsOk r
list_ok t s tally before after (Ok count) fits station many x = refl
list_ok t s tally before after (Err e) fits station many x = absurd (report_listed t s tally (length before) fits station many e x.0)
