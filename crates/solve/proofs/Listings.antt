-- Listing the codes that are not 0, one by one; and what a list gives each page.
use Rattle.std.proofs.Common.{◌≡◌, ℕ, zero, suc, ◌+◌, ◌<◌, Bool, true, false, cond, eqb, ◌≢◌, List, [], ◌∷◌, get_or, sym, refl, ap, ap₂, ◌∙◌, arith, eq-eqb, ne_eqb}
use Rattle.std.proofs.Math.Decide.{ℕ_discrete}
use Rattle.solve.specs.declared.Entry.{Entry}
use Rattle.solve.specs.Answer.{blank, code_at}
use Rattle.solve.specs.Listing.{Nonzeros}

-- the page and the code at place i
abbrev page_of : List Entry → ℕ → ℕ
page_of list i = (get_or list i blank).page

abbrev code_of : List Entry → ℕ → ℕ
code_of list i = (get_or list i blank).code

pub none_listed : (g v : ℕ → ℕ) (list : List Entry) → ((i : ℕ) → get_or list i blank ≡ blank) → Nonzeros 0 g v 0 list
none_listed g v list is = record {
  few = omega arith;
  rising = λ i j a b. absurd (omega arith);
  stands = λ i b. absurd (omega arith);
  some = λ i b. absurd (omega arith);
  all = λ j b. absurd (omega arith);
  rest = λ i b. is i;
}

module _ (m : ℕ) (g v : ℕ → ℕ) (k : ℕ) (list : List Entry) (h : Nonzeros m g v k list) where
  pub leave : v m ≡ 0 → Nonzeros (m + 1) g v k list
  leave z = record {
    few = let few = h.few in omega arith;
    rising = h.rising;
    stands = λ i b. let s = h.stands i b in let lt = s.1 in (s.0, omega arith, s.2, s.3);
    some = h.some;
    all = λ j b d. elim (ℕ_discrete j m) [ yes e ↦ absurd (d (ap v e ∙ z)) | no e ↦ h.all j (omega arith) d ];
    rest = h.rest;
  }

  pub put : ((i : ℕ) → i < m → g i < g m) → ¬ (v m ≡ 0) → (list' : List Entry) → ((i : ℕ) → i ≢ k → get_or list' i blank ≡ get_or list i blank)
      → page_of list' k ≡ g m → code_of list' k ≡ v m → Nonzeros (m + 1) g v (k + 1) list'
  put rise some list' old page code = record {
    few = let few = h.few in omega arith;
    rising = λ i j ij jk. elim (ℕ_discrete j k) [
      | yes e ↦ (let s = h.stands i (omega arith) in let r = rise s.0 s.1 in let is = s.2 in let same = ap (λ x. x.page) (old i (λ w. omega arith)) in let last = ap (page_of list') e in omega arith)
      | no e ↦ (let r = h.rising i j ij (omega arith) in let si = ap (λ x. x.page) (old i (λ w. omega arith)) in let sj = ap (λ x. x.page) (old j e) in omega arith)
    ];
    stands = λ i b. elim (ℕ_discrete i k) [
      | yes e ↦ (m, omega arith, ap (page_of list') e ∙ page, ap (code_of list') e ∙ code)
      | no e ↦ (let s = h.stands i (omega arith) in let lt = s.1 in (s.0, omega arith, ap (λ x. x.page) (old i e) ∙ s.2, ap (λ x. x.code) (old i e) ∙ s.3))
    ];
    some = λ i b z. elim (ℕ_discrete i k) [
      | yes e ↦ some (sym code ∙ ap (code_of list') (sym e) ∙ z)
      | no e ↦ h.some i (omega arith) (ap (λ x. x.code) (sym (old i e)) ∙ z)
    ];
    all = λ j b d. elim (ℕ_discrete j m) [
      | yes e ↦ (k, omega arith, page ∙ ap g (sym e))
      | no e ↦ (let s = h.all j (omega arith) d in let lt = s.1 in (s.0, omega arith, ap (λ x. x.page) (old s.0 (λ w. omega arith)) ∙ s.2))
    ];
    rest = λ i b. old i (λ w. omega arith) ∙ h.rest i (omega arith);
  }

-- the code of the first entry counts, or the list after it
abbrev first_or : Entry → List Entry → ℕ → Bool → Bool → ℕ
first_or x xs n last found = cond last 0 (cond found x.code (code_at xs n))

pub code_at_none : (list : List Entry) (n : ℕ) → ((i : ℕ) → ¬ (page_of list i ≡ n)) → code_at list n ≡ 0
code_at_none [] n h = refl
code_at_none (x ∷ xs) n h =
    ap (first_or x xs n (eqb x.page 0)) (ne_eqb x.page n (h 0)) ∙ ap (cond (eqb x.page 0) 0) (code_at_none xs n (λ i. h (suc i))) ∙ both (eqb x.page 0)
  where
    both : (b : Bool) → ◌≡◌ {A = ℕ} (cond b 0 0) 0
    both true = refl
    both false = refl

-- the first place with page n, before any page 0
pub code_at_first : (list : List Entry) (n i : ℕ) → ¬ (n ≡ 0) → ((k : ℕ) → k < i → ¬ (page_of list k ≡ 0) × ¬ (page_of list k ≡ n)) → page_of list i ≡ n → code_at list n ≡ code_of list i
code_at_first [] n i some before is = absurd (some (sym is))
code_at_first (x ∷ xs) n zero some before is = ap₂ (first_or x xs n) (ne_eqb x.page 0 (λ z. some (sym is ∙ z))) (eq-eqb x.page n is)
code_at_first (x ∷ xs) n (suc i) some before is =
    let other = before 0 (omega arith) in
    ap₂ (first_or x xs n) (ne_eqb x.page 0 other.0) (ne_eqb x.page n other.1) ∙ code_at_first xs n i some (λ k b. before (suc k) (omega arith)) is
