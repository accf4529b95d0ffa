-- Rows of a tally that are written row by row.
use Rattle.std.proofs.Common.{◌≡◌, ℕ, ◌+◌, ◌-◌, ◌≤◌, cond, ◌≢◌, List, length, refl, sym, ap, ◌∙◌, ⊎_elim, arith, eq-eqb, ne_eqb}
use Rattle.std.proofs.lemmas.Bool.{cases_lt}
use Rattle.algebra.specs.Vectors.{Page}
use Rattle.field.specs.Field.{Ops}
use Rattle.scheme.specs.Farm.{Table}
use Rattle.scheme.specs.Differences.{Gaps}
use Rattle.scheme.specs.Four.{row_from_first}
use Rattle.tally.specs.Rows.{signature_place, signature_in, tally_size, Filled, RowPut}
use Rattle.tally.proofs.PlacesApart.{rows_apart, inside, fewer_rows}
use Rattle.four.specs.Filling.{RowsPut}

pub none_put : (N : ℕ) (before : List ℕ) (R : Table) → RowsPut N (2 - 1) before before R
none_put N before R = record { size = refl; rows = λ s n lo up p. absurd (omega arith); rest = λ i off. refl }

-- what row t is to be on page n
abbrev pub due : Ops → ℕ → Gaps → List ℕ → Table
due f N E before t n = f.minus (signature_in before N 1 n) (E 1 t n)

module _ (f : Ops) (M N : ℕ) (E : Gaps) (before : List ℕ) (room : tally_size M N ≤ length before) where
  module _ (t k : ℕ) (middle after : List ℕ) (done : RowsPut N k before middle (due f N E before)) where
    own_stands : (n : ℕ) → Page N n → signature_in middle N 1 n ≡ signature_in before N 1 n
    own_stands n page = done.rest (signature_place N 1 n) (λ s m lo up q. rows_apart N 1 s n m (omega arith) (omega arith) (omega arith) page q)

    -- one more row
    pub rows_more : k + 1 ≡ t → 2 ≤ t → t ≤ M → RowPut N N t middle after (λ n. f.minus (signature_in middle N 1 n) (E 1 t n)) → RowsPut N t before after (due f N E before)
    rows_more next from to put = record {
      size = put.size ∙ done.size;
      rows = λ s n lo up page.
          ⊎_elim
          (λ earlier. put.rest (signature_place N s n) (λ m other. rows_apart N s t n m (omega arith) (omega arith) (omega arith) page other) ∙ done.rows s n lo (omega arith) page)
          (λ here.
          let same : s ≡ t = omega arith in
          ap (λ r. signature_in after N r n) same
          ∙ put.row_is n page (inside N t n (length middle) (omega arith) page (fewer_rows N t M (length middle) to (omega (arith, done.size))))
          ∙ ap (λ x. f.minus x (E 1 t n)) (own_stands n page) ∙ ap (λ r. due f N E before r n) (sym same))
          (cases_lt s t);
      rest = λ i apart. put.rest i (λ n page. apart t n (omega arith) (omega arith) page) ∙ done.rest i (λ s n lo up. apart s n lo (omega arith));
    }

  -- where all rows but row 1 are written, all are filled
  pub rows_filled : (after : List ℕ) → RowsPut N M before after (due f N E before) → Filled M N before after (row_from_first f (signature_in before N 1) E)
  rows_filled after done = record {
    size = done.size;
    rows = λ s n station page.
        ⊎_elim
        (λ later. done.rows s n later station.1 page ∙ sym (ap (λ b. cond b (signature_in before N 1 n) (due f N E before s n)) (ne_eqb s 1 (let ne : s ≢ 1 = omega arith in ne))))
        (λ first.
        let same : s ≡ 1 = omega arith in
        ap (λ t. signature_in after N t n) same
        ∙ own_stands 1 M after after done n page
        ∙ sym (ap (λ b. cond b (signature_in before N 1 n) (due f N E before s n)) (eq-eqb s 1 same)))
        (cases_lt 1 s);
    rest = λ i apart. done.rest i (λ s n lo up. apart s n (omega arith));
  }
