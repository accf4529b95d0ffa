-- The rows of three stations, written from row 1 and two differences.
use Rattle.std.proofs.Common.{◌≡◌, ℕ, ◌≤◌, cond, eqb, ◌≢◌, ◌⊎◌, List, length, sym, ap, ◌∙◌, inl, inr, arith, eq-eqb, ne_eqb}
use native.Mathlib.Decide.{ℕ_discrete}
use Rattle.field.specs.Field.{Ops}
use Rattle.algebra.specs.Vectors.{Page}
use Rattle.scheme.specs.Farm.{Station}
use Rattle.scheme.specs.Pairs.{Pair}
use Rattle.scheme.specs.Three.{third, row_of_three}
use Rattle.scheme.proofs.Taken.{third_is}
use Rattle.tally.specs.Rows.{signature_in, tally_size, Filled, RowPut}
use Rattle.tally.proofs.PlacesApart.{inside, fewer_rows}
use Rattle.tally.proofs.RowPutting.{other_row}

-- row 1 minus d is the third, and row s minus e is row t
module _ (f : Ops) (N s t : ℕ) (pair : Pair 3 s t) (e d : ℕ → ℕ) (before mid after : List ℕ)
    (room : tally_size 3 N ≤ length before)
    (one : RowPut N N (third s t) before mid (λ n. f.minus (signature_in before N 1 n) (d n))) (two : RowPut N N t mid after (λ n. f.minus (signature_in mid N s n) (e n))) where
  is_third : Pair 3 1 (third s t) × ((s ≡ 1) ⊎ ((s ≢ 1) × (s ≡ third s t))) × (t ≢ third s t)
  is_third = third_is s t pair

  third_put : (n : ℕ) → Page N n → signature_in mid N (third s t) n ≡ f.minus (signature_in before N 1 n) (d n)
  third_put n p = one.row_is n p (inside N (third s t) n (length before) (omega (arith, is_third.0)) p (fewer_rows N (third s t) 3 (length before) (omega (arith, is_third.0)) room))

  last_put : (n : ℕ) → Page N n → signature_in after N t n ≡ f.minus (signature_in mid N s n) (e n)
  last_put n p = two.row_is n p (inside N t n (length mid) (omega arith) p (fewer_rows N t 3 (length mid) (omega arith) (omega (arith, one.size))))

  -- the third row, and the remaining one
  abbrev row : ℕ → ℕ
  row n = f.minus (signature_in before N 1 n) (d n)

  abbrev last : ℕ → ℕ
  last n = f.minus (cond (eqb s 1) (signature_in before N 1 n) (row n)) (e n)

  mid_first : (n : ℕ) → Page N n → signature_in mid N 1 n ≡ signature_in before N 1 n
  mid_first n p = other_row N N (third s t) before mid _ one 1 n (omega arith) (omega arith) (omega (arith, is_third.0)) (λ e. omega (arith, is_third.0)) p

  mid_from : (n : ℕ) → Page N n → signature_in mid N s n ≡ cond (eqb s 1) (signature_in before N 1 n) (f.minus (signature_in before N 1 n) (d n))
  mid_from n p = elim is_third.1 [
    | inl is ↦ ap (λ r. signature_in mid N r n) is ∙ mid_first n p ∙ sym (ap (λ b. cond b (signature_in before N 1 n) (f.minus (signature_in before N 1 n) (d n))) (eq-eqb s 1 is))
    | inr x ↦ ap (λ r. signature_in mid N r n) x.1 ∙ third_put n p ∙ sym (ap (λ b. cond b (signature_in before N 1 n) (f.minus (signature_in before N 1 n) (d n))) (ne_eqb s 1 x.0))
  ]

  stays : (r n : ℕ) → 1 ≤ r → r ≢ t → Page N n → signature_in after N r n ≡ signature_in mid N r n
  stays r n lo d p = other_row N N t mid after _ two r n (omega arith) lo (omega arith) d p

  other_is : (r n : ℕ) → Station 3 r → r ≢ 1 → Page N n → signature_in after N r n ≡ cond (eqb r (third s t)) (row n) (last n)
  other_is r n st far p = elim (ℕ_discrete r (third s t)) [
    | yes is ↦
        stays r n st.0 (λ e. is_third.2 (sym e ∙ is)) p ∙ ap (λ r. signature_in mid N r n) is ∙ third_put n p
        ∙ sym (ap (λ b. cond b (row n) (last n)) (eq-eqb r (third s t) is))
    | no d ↦ (let is : r ≡ t = omega (arith, is_third.0, is_third.2) in
        ap (λ r. signature_in after N r n) is ∙ last_put n p ∙ ap (λ x. f.minus x (e n)) (mid_from n p)
        ∙ sym (ap (λ b. cond b (row n) (last n)) (ne_eqb r (third s t) d)))
  ]

  row_is : (r n : ℕ) → Station 3 r → Page N n → signature_in after N r n ≡ row_of_three f (signature_in before N 1) s t e d r n
  row_is r n st p = elim (ℕ_discrete r 1) [
    | yes is ↦
        ap (λ r. signature_in after N r n) is ∙ stays 1 n (omega arith) (λ e. omega arith) p ∙ mid_first n p
        ∙ sym (ap (λ b. cond b (signature_in before N 1 n) (cond (eqb r (third s t)) (row n) (last n))) (eq-eqb r 1 is))
    | no far ↦ other_is r n st far p ∙ sym (ap (λ b. cond b (signature_in before N 1 n) (cond (eqb r (third s t)) (row n) (last n))) (ne_eqb r 1 far))
  ]

  pub rows_filled : Filled 3 N before after (row_of_three f (signature_in before N 1) s t e d)
  rows_filled = record {
    size = two.size ∙ one.size;
    rows = row_is;
    rest = λ i off. two.rest i (λ n p. off t n (omega arith) p) ∙ one.rest i (λ n p. off (third s t) n (let q = is_third.0 in omega arith) p);
  }
