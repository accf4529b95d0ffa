-- Polynomials of words are polynomials over the codes that the words count as: values, windows and quotients agree.
use Rattle.std.proofs.Common.{◌≡◌, ℕ, zero, suc, ◌+◌, ◌-◌, ◌<◌, List, [], ◌∷◌, length, refl, ap, ◌∙◌, ap₂, arith}
use Rattle.field.specs.Field.{Ops, Laws}
use Rattle.algebra.proofs.Polynomials as poly
use Rattle.algebra.proofs.Polynomials.{eval, Monic}
use Rattle.algebra.proofs.Ring.{ring, ◌⊞◌, ◌⊠◌}
use Rattle.algebra.proofs.Codes.{Code, codes, zero_code, el, el_plus, el_times, el_zero, el_one}
use Rattle.solve.specs.Polynomials.{value, window, quotient}

module _ {f : Ops} (l : Laws f) where
  abbrev pub E : Type 0
  E = Code f.size

  -- the k coefficients of p from place i on, as codes
  abbrev pub list : ℕ → (ℕ → ℕ) → ℕ → List E
  list zero p i = []
  list (suc k) p i = el l (p i) ∷ list k p (suc i)

  pub list_length : (k : ℕ) (p : ℕ → ℕ) (i : ℕ) → length (list k p i) ≡ k
  list_length zero p i = refl
  list_length (suc k) p i = ap suc (list_length k p (suc i))

  pub list_monic : (k : ℕ) (p : ℕ → ℕ) (i : ℕ) → p (i + k) ≡ 1 → Monic (codes l) (list (suc k) p i)
  list_monic zero p i h = ap (el l) (ap p (let e : i ≡ i + 0 = omega arith in e) ∙ h) ∙ el_one l
  list_monic (suc k) p i h = list_monic k p (suc i) (ap p (let e : suc i + k ≡ i + suc k = omega arith in e) ∙ h)

  pub el_value : (k : ℕ) (p : ℕ → ℕ) (i x : ℕ) → el l (value f k p i x) ≡ eval (codes l) (list k p i) (el l x)
  el_value zero p i x = el_zero l
  el_value (suc k) p i x =
      el_plus l _ (p i) ∙ ap (λ z. (codes l).add z (el l (p i))) (el_times l _ x ∙ ap (λ z. (codes l).mul z (el l x)) (el_value k p (suc i) x))
      ∙ ring (codes l) 3 (λ v x c. (v ⊠ x ⊞ c, c ⊞ x ⊠ v)) refl (eval (codes l) (list k p (suc i)) (el l x)) (el l x) (el l (p i))

  pub el_window : (k : ℕ) (p : ℕ → ℕ) (i : ℕ) (s : ℕ → ℕ) (j : ℕ) → el l (window f k p i s j) ≡ poly.window (codes l) (list k p i) (λ n. el l (s n)) j
  el_window zero p i s j = el_zero l
  el_window (suc k) p i s j = el_plus l _ _ ∙ ap₂ (codes l).add (el_times l (p i) (s j)) (el_window k p (suc i) s (suc j))

  pub value_code : (k : ℕ) (p : ℕ → ℕ) (i x : ℕ) → value f k p i x < f.size
  value_code zero p i x = zero_code l
  value_code (suc k) p i x = l.plus_code _ _

  pub window_code : (k : ℕ) (p : ℕ → ℕ) (i : ℕ) (s : ℕ → ℕ) (j : ℕ) → window f k p i s j < f.size
  window_code zero p i s j = zero_code l
  window_code (suc k) p i s j = l.plus_code _ _

  -- two rows that agree have the same windows
  pub window_agree : (p : List E) (u v : ℕ → E) (j k : ℕ) → ((i : ℕ) → i < length p → u (j + i) ≡ v (k + i))
      → poly.window (codes l) p u j ≡ poly.window (codes l) p v k
  window_agree [] u v j k h = refl
  window_agree (c ∷ p) u v j k h =
      ap₂ (λ x y. (codes l).add ((codes l).mul c x) y) (ap u (let e : j ≡ j + 0 = omega arith in e) ∙ h 0 (omega arith) ∙ ap v (let e : k + 0 ≡ k = omega arith in e))
      (window_agree p u v (suc j) (suc k) (λ i b. ap u (let e : suc j + i ≡ j + suc i = omega arith in e) ∙ h (suc i) (omega arith) ∙ ap v (let e : k + suc i ≡ suc k + i = omega arith in e)))

  pub list_quotient : (m : ℕ) (p : ℕ → ℕ) (a c i : ℕ) → i + c ≡ m → list c (quotient f m p a) i ≡ poly.quotient (codes l) (el l a) (list (suc c) p i)
  list_quotient m p a zero i e = refl
  list_quotient m p a (suc c) i e =
      ap₂ ◌∷◌ (ap (el l) (ap (λ k. value f k p (suc i) a) (let e : m - i ≡ suc c = omega arith in e)) ∙ el_value (suc c) p (suc i) a) (list_quotient m p a c (suc i) (omega arith))
