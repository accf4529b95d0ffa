-- The rows of a check that is opened: cleared, then the signatures of the own copy put into row 1, then its sums.
use Rattle.std.proofs.Common.{◌≡◌, ℕ, ◌+◌, ◌-◌, ◌<◌, ◌≤◌, List, ◌++◌, length, get_or, take, drop, replicate, ap, ◌∙◌, length-append, length-take-le, length-drop, arith}
use Rattle.std.proofs.lemmas.List.{length-replicate, get_or-drop, get_or-replicate, get_or_append_left}
use Rattle.std.proofs.Math.Seq.{get_or-append_right}
use Rattle.field.specs.Field.{Ops}
use Rattle.field.specs.Sums.{entry, power_sum}
use Rattle.tally.specs.Rows.{signature_place, sum_place, tally_size}
use Rattle.calls.specs.Entering.{Placed, RowsOpened}
use Rattle.calls.proofs.Indices.{row_inside}

-- the first K words are 0, and the others what they were
record Cleared (K : ℕ) (before cleared : List ℕ) : Type 0 where
  size : length cleared ≡ length before
  each : (i : ℕ) → i < K → get_or cleared i 0 ≡ 0
  rest : (i : ℕ) → K ≤ i → get_or cleared i 0 ≡ get_or before i 0

front_cleared : (K : ℕ) (before front : List ℕ) → K ≤ length before → front ≡ replicate (length (take K before)) 0 → Cleared K before (front ++ drop K before)
front_cleared K before front fits is =
    let long : length front ≡ K = ap length is ∙ length-replicate (length (take K before)) 0 ∙ length-take-le K before fits in
    record {
      size = omega (arith, long, length-append front (drop K before), length-drop K before);
      each = λ i less.
          get_or_append_left front (drop K before) 0 i (omega (arith, long)) ∙ ap (λ xs. get_or xs i 0) is
          ∙ get_or-replicate (length (take K before)) i 0 0 (omega (arith, length-take-le K before fits));
      rest = λ i past.
          get_or-append_right front (drop K before) i 0 (omega (arith, long)) ∙ get_or-drop K before (i - length front) 0
          ∙ ap (λ k. get_or before k 0) (let e : K + (i - length front) ≡ i = omega (arith, long) in e);
    }

module _ (f : Ops) (row : List ℕ) (M N J K : ℕ) (some : 1 ≤ M) (told : J ≤ 128) (size_is : K ≡ tally_size M N)
    (before front signed after : List ℕ) (room : tally_size M N ≤ length before)
    (zeros : front ≡ replicate (length (take K before)) 0)
    (signatures_put : Placed (signature_place N 1) (entry row) 1 (N + 1) (front ++ drop K before) signed)
    (sums_put : Placed (sum_place N 1) (power_sum f N (entry row)) 1 (J + 1) signed after) where
  cleared : Cleared K before (front ++ drop K before)
  cleared = front_cleared K before front (omega arith) zeros

  -- row 1 is inside
  first_row : N + 128 ≤ tally_size M N
  first_row = omega (arith, row_inside M N 1 (tally_size M N) (omega arith) some (omega arith))

  pub rows_opened : RowsOpened f row M N J before after
  rows_opened = record {
    size = sums_put.size ∙ signatures_put.size ∙ cleared.size;
    signatures = λ n page.
        sums_put.rest (signature_place N 1 n) (λ j from to e. omega arith)
        ∙ signatures_put.each n page.0 (omega arith) (omega (arith, cleared.size, first_row));
    sums = λ j page. sums_put.each j page.0 (omega arith) (omega (arith, cleared.size, signatures_put.size, first_row));
    clear = λ i inside off_signatures off_sums.
        sums_put.rest i (λ j from to. off_sums j (from, omega arith))
        ∙ signatures_put.rest i (λ n from to. off_signatures n (from, omega arith))
        ∙ cleared.each i (omega arith);
    beyond = λ i past.
        sums_put.rest i (λ j from to e. omega (arith, first_row))
        ∙ signatures_put.rest i (λ n from to e. omega (arith, first_row))
        ∙ cleared.rest i (omega arith);
  }
