-- A row of a tally, written page by page.
use Rattle.std.proofs.Common.{◌≡◌, ℕ, ◌+◌, ◌-◌, ◌<◌, ◌≤◌, ◌≢◌, List, length, get_or, set, refl, sym, ap, ap₂, subst, ◌∙◌, arith, length-set, get_or-set_other, get_or-set_same}
use Rattle.field.specs.Field.{Ops}
use native.Mathlib.Decide.{ℕ_discrete}
use Rattle.algebra.specs.Vectors.{Page}
use Rattle.tally.specs.Rows.{signature_place, signature_in, RowPut}
use Rattle.tally.proofs.PlacesApart.{rows_apart, pages_apart}

pub none_put : (N t : ℕ) (before : List ℕ) (row : ℕ → ℕ) → RowPut N (1 - 1) t before before row
none_put N t before row = record { size = refl; row_is = λ n p h. absurd (omega arith); rest = λ i off. refl }

module _ (N k t : ℕ) (before middle : List ℕ) (row : ℕ → ℕ) (put : RowPut N k t before middle row) where
  -- a page is read before it is written
  pub unwritten : (s n : ℕ) → k < n → n ≤ N → signature_in middle N s n ≡ signature_in before N s n
  unwritten s n above few = put.rest (signature_place N s n) (λ m page. pages_apart N s t n m (omega arith) (omega arith) (omega arith))

  -- a row that is not the one written stays
  pub other_row : (s n : ℕ) → k ≤ N → 1 ≤ s → 1 ≤ t → s ≢ t → Page N n → signature_in middle N s n ≡ signature_in before N s n
  other_row s n few lo up other page = put.rest (signature_place N s n) (λ m q is. rows_apart N s t n m lo up other page (omega arith) is)

  pub row_more : (p : ℕ) → p ≡ k + 1 → p ≤ N → (v : ℕ) (after : List ℕ) → v ≡ row p → after ≡ set middle (signature_place N t p) v → RowPut N p t before after row
  row_more p next few v after v_is is = record {
    size = ap length is ∙ length-set middle _ v ∙ put.size;
    row_is = λ n page fits. elim (ℕ_discrete n p) [
      | yes same ↦
          ap (signature_in after N t) same ∙ ap (λ xs. get_or xs (signature_place N t p) 0) is
          ∙ get_or-set_same middle (signature_place N t p) v 0 (let here = ap (λ m. signature_place N t m) same in omega (arith, put.size)) ∙ v_is ∙ ap row (sym same)
      | no d ↦
          ap (λ xs. get_or xs (signature_place N t n) 0) is
          ∙ get_or-set_other middle (signature_place N t p) (signature_place N t n) v 0 (pages_apart N t t n p d (omega arith) (omega arith))
          ∙ put.row_is n (omega arith) fits
    ];
    rest = λ i off.
        ap (λ xs. get_or xs i 0) is ∙ get_or-set_other middle (signature_place N t p) i v 0 (off p (omega arith)) ∙ put.rest i (λ n page. off n (omega arith));
  }

-- one turn: page p of row s is read, and what it makes with e p is written to row t
pub row_turn : (f : Ops) (N s t p k : ℕ) (e : ℕ → ℕ) (before middle after : List ℕ) → 1 ≤ p → p ≤ N → p ≡ k →
    RowPut N (p - 1) t before middle (λ n. f.minus (signature_in before N s n) (e n)) →
    (a b v : ℕ) → a ≡ signature_in middle N s p → b ≡ e p → v ≡ f.minus a b → after ≡ set middle (signature_place N t p) v →
    RowPut N k t before after (λ n. f.minus (signature_in before N s n) (e n))
row_turn f N s t p k e before middle after from to same put a b v read told made is =
    subst (λ k. RowPut N k t before after (λ n. f.minus (signature_in before N s n) (e n))) same
    (row_more N (p - 1) t before middle _ put p (omega arith) to v after
    (made ∙ ap₂ f.minus (read ∙ unwritten N (p - 1) t before middle _ put s p (omega arith) to) told) is)

pub row_done : (N k t : ℕ) (before middle after : List ℕ) (row : ℕ → ℕ) → k ≡ N → after ≡ middle → RowPut N k t before middle row → RowPut N N t before after row
row_done N k t before middle after row all is put = subst (λ k. RowPut N k t before after row) all (subst (λ xs. RowPut N k t before xs row) (sym is) put)
