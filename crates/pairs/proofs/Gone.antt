-- A list of rising pages that is gone through page by page: which entries are passed, and what code the next page has.
use Rattle.std.proofs.Common.{◌≡◌, ℕ, ◌+◌, ◌<◌, ◌≤◌, ◌≢◌, ◌⊎◌, inl, inr, List, get_or, sym, ap, ◌∙◌, arith, subst}
use native.Mathlib.Decide.{ℕ_discrete, dec_lt}
use Rattle.solve.specs.declared.Entry.{Entry}
use Rattle.solve.specs.Answer.{blank, code_at, Entries}
use Rattle.solve.proofs.Listings.{code_at_none, code_at_first}

-- the entries before place k are of pages below p, the others of the first m are not
pub record Passed (m : ℕ) (list : List Entry) (k p : ℕ) : Type 0 where
  pub few : k ≤ m
  pub before : (i : ℕ) → i < k → (get_or list i blank).page < p
  pub after : (i : ℕ) → k ≤ i → i < m → p ≤ (get_or list i blank).page

module _ (N m : ℕ) (list : List Entry) (h : Entries N m list) where
  pub none_passed : Passed m list 0 1
  none_passed = record { few = omega arith; before = λ i lt. absurd (omega arith); after = λ i from to. (h.pages i to).0 }

  module _ (k p : ℕ) (one : 1 ≤ p) (passed : Passed m list k p) where
    -- past the list no page is listed
    blank_after : (i : ℕ) → m ≤ i → (get_or list i blank).page ≡ 0
    blank_after i le = ap (λ x. x.page) (h.rest i le)

    at_place : (get_or list k blank).page ≡ p → k < m
    at_place is = elim (dec_lt k m) [ yes lt ↦ lt | no d ↦ absurd (omega (arith, blank_after k (omega arith))) ]

    pub found : (get_or list k blank).page ≡ p → code_at list p ≡ (get_or list k blank).code
    found is = code_at_first list p k (λ z. omega arith) (λ i lt. ((λ z. omega (arith, h.pages i (omega (arith, at_place is)))), (λ z. omega (arith, passed.before i lt)))) is

    pub passes : (get_or list k blank).page ≡ p → Passed m list (k + 1) (p + 1)
    passes is = record {
      few = omega (arith, at_place is);
      before = λ i lt. elim (ℕ_discrete i k) [
        | yes e ↦ omega (arith, is, ap (λ j. (get_or list j blank).page) e)
        | no d ↦ omega (arith, passed.before i (omega arith))
      ];
      after = λ i from to. omega (arith, is, h.rising k i (omega arith) to);
    }

    later : (get_or list k blank).page ≢ p → (i : ℕ) → k ≤ i → i < m → p < (get_or list i blank).page
    later not i from to = elim (ℕ_discrete i k) [
      | yes e ↦ omega (arith, passed.after i from to, (let ne : (get_or list i blank).page ≢ p = (λ z. not (ap (λ j. (get_or list j blank).page) (sym e) ∙ z)) in ne))
      | no d ↦ omega (arith, passed.after k (omega arith) (omega arith), h.rising k i (omega arith) to)
    ]

    pub lacking : (get_or list k blank).page ≢ p → code_at list p ≡ 0
    lacking not = code_at_none list p (λ i is. elim (dec_lt i k) [
      | yes lt ↦ omega (arith, passed.before i lt)
      | no d ↦ elim (dec_lt i m) [
        | yes lt ↦ omega (arith, later not i (omega arith) lt)
        | no e ↦ omega (arith, blank_after i (omega arith))
      ]
    ])

    pub stays : (get_or list k blank).page ≢ p → Passed m list k (p + 1)
    stays not = record {
      few = passed.few;
      before = λ i lt. omega (arith, passed.before i lt);
      after = λ i from to. omega (arith, later not i from to);
    }

    -- one page on, whether it is listed or not
    pub turns : (next code : ℕ) → ((get_or list k blank).page ≡ p) × (next ≡ k + 1) × (code ≡ (get_or list k blank).code)
        ⊎ ((get_or list k blank).page ≢ p) × (next ≡ k) × (code ≡ 0) → Passed m list next (p + 1) × (code ≡ code_at list p)
    turns next code (inl x) = (subst (λ j. Passed m list j (p + 1)) (sym x.1) (passes x.0), x.2 ∙ sym (found x.0))
    turns next code (inr x) = (subst (λ j. Passed m list j (p + 1)) (sym x.1) (stays x.0), x.2 ∙ sym (lacking x.0))
