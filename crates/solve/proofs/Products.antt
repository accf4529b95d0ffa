-- The product of x - a over some points has these for roots.
use Rattle.std.proofs.Common.{◌≡◌, ℕ, zero, suc, ◌+◌, ◌-◌, ◌<◌, ◌≤◌, sym, refl, ap, ◌∙◌, ap₂, arith}
use Rattle.std.proofs.Math.Nat.{zero-mod}
use Rattle.std.proofs.Math.Decide.{ℕ_discrete}
use Rattle.field.specs.Field.{Ops, Laws, power}
use Rattle.field.proofs.Laws.{code_mod, one_code, one_times, times_mod_left, times_zero}
use Rattle.algebra.proofs.Ring.{ring, ◌⊞◌, ◌⊠◌}
use Rattle.algebra.proofs.Codes.{codes, zero_code, el, el_plus, el_times, el_injective}
use Rattle.solve.specs.Polynomials.{value, window, Product}
use Rattle.solve.proofs.Words.{value_code}
use Rattle.solve.proofs.Windows.{shifted_high, shifted_none, minus_self, minus_none, Difference, window_difference}
use Rattle.field.specs.declared.limits.TheConstants.{SUM_LIMIT}
use Rattle.solve.specs.declared.limits.TheConstants.{COEFFICIENTS}

-- p is the product of the first m factors
pub record Partial (f : Ops) (m : ℕ) (x p : ℕ → ℕ) : Type 0 where
  -- how many places there are: as a field, so that nothing computes with it
  pub n : ℕ
  pub is : n ≡ COEFFICIENTS
  pub monic : p m ≡ 1
  pub high : (i : ℕ) → m < i → i < n → p i ≡ 0
  pub roots : (i : ℕ) → i < m → value f n p 0 (x i) ≡ 0

module _ {f : Ops} (l : Laws f) where
  -- against the powers of x a polynomial is its value at x
  window_powers : (k : ℕ) (p : ℕ → ℕ) (i x j : ℕ) → window f k p i (power f x) j ≡ f.times (power f x j) (value f k p i x)
  window_powers zero p i x j = sym (times_zero l (power f x j))
  window_powers (suc k) p i x j =
      let t = el l in
      let y = power f x j in
      let v = value f k p (suc i) x in
      el_injective l _ _ (l.plus_code _ _) (l.times_code _ _)
      (el_plus l _ _ ∙ ap₂ (codes l).add (el_times l (p i) y) (ap t (window_powers k p (suc i) x (suc j)) ∙ el_times l (f.times y x) v ∙ ap (λ z. (codes l).mul z (t v)) (el_times l y x))
      ∙ ring (codes l) 4 (λ p y x v. (p ⊠ y ⊞ y ⊠ x ⊠ v, y ⊠ (v ⊠ x ⊞ p))) refl (t (p i)) (t y) (t x) (t v)
      ∙ sym (el_times l y _ ∙ ap ((codes l).mul (t y)) (el_plus l _ (p i) ∙ ap (λ z. (codes l).add z (t (p i))) (el_times l v x))))

  window_value : (n : ℕ) (p : ℕ → ℕ) (x : ℕ) → window f n p 0 (power f x) 0 ≡ value f n p 0 x
  window_value n p x = window_powers n p 0 x 0 ∙ one_times l (value f n p 0 x) ∙ code_mod l _ (value_code l n p 0 x)

  -- the value of (x - a) p
  value_times : (n : ℕ) (r p : ℕ → ℕ) (a : ℕ) → Difference f n r p 1 a p 0 → 1 ≤ n → ((i : ℕ) → n ≤ i + 1 → i < n → p i ≡ 0) → (x : ℕ)
      → value f n r 0 x ≡ f.minus (f.times x (value f n p 0 x)) (f.times a (value f n p 0 x))
  value_times n r p a is le z x =
      sym (window_value n r x) ∙ window_difference l n r p 1 a p 0 is le (omega arith) z (λ i u v. absurd (omega arith)) (power f x) 0
      ∙ ap₂ (λ u v. f.minus u (f.times a v))
      (window_powers n p 0 x 1 ∙ ap (λ y. f.times y (value f n p 0 x)) (one_times l x) ∙ times_mod_left l x (value f n p 0 x))
      (window_value n p x)

  pub first : (x p : ℕ → ℕ) → p 0 ≡ 1 → ((i : ℕ) → 0 < i → i < COEFFICIENTS → p i ≡ 0) → Partial f 0 x p
  first x p one z = record { n = COEFFICIENTS; is = refl; monic = one; high = z; roots = λ i b. absurd (omega arith) }

  pub next : (m : ℕ) (x p r : ℕ → ℕ) → m < SUM_LIMIT → Partial f m x p → Difference f COEFFICIENTS r p 1 (x m) p 0 → Partial f (m + 1) x r
  next m x p r lt h made =
      let n = h.n in
      let is = h.is in
      let a = x m in
      let made_n : Difference f n r p 1 a p 0 = λ i u. made i (omega arith) in
      let val = value_times n r p a made_n (omega arith) (λ i u v. h.high i (omega arith) v) in
      record {
        n = n;
        is = is;
        monic = made (m + 1) (omega arith) ∙ minus_none l 1 a _ _ (shifted_high 1 p (m + 1) (omega arith) ∙ ap p (let e : m + 1 - 1 ≡ m = omega arith in e) ∙ h.monic) (shifted_none p (m + 1) ∙ h.high (m + 1) (omega arith) (omega arith)) (one_code l);
        high = λ i u v. made i (omega arith) ∙ minus_none l 0 a _ _ (shifted_high 1 p i (omega arith) ∙ h.high (i - 1) (omega arith) (omega arith)) (shifted_none p i ∙ h.high i (omega arith) v) (zero_code l);
        roots = λ i u. elim (ℕ_discrete i m) [
          | yes e ↦ val (x i) ∙ ap (λ z. f.minus (f.times (x i) (value f n p 0 (x i))) (f.times z (value f n p 0 (x i)))) (ap x (sym e)) ∙ minus_self l _
          | no e ↦ val (x i) ∙ minus_none l 0 a _ _ (ap (f.times (x i)) (h.roots i (omega arith)) ∙ times_zero l _) (h.roots i (omega arith)) (zero_code l)
        ];
      }

  value_none : (k : ℕ) (p : ℕ → ℕ) (i x : ℕ) → ((n : ℕ) → n < k → p (i + n) ≡ 0) → value f k p i x ≡ 0
  value_none zero p i x h = refl
  value_none (suc k) p i x h =
      ap₂ (λ u v. f.plus (f.times v x) u) (ap p (let e : i ≡ i + 0 = omega arith in e) ∙ h 0 (omega arith)) (value_none k p (suc i) x (λ n b. ap p (let e : suc i + n ≡ i + suc n = omega arith in e) ∙ h (suc n) (omega arith)))
      ∙ ap (λ z. f.plus z 0) (l.times_comm 0 x ∙ times_zero l x) ∙ l.plus_zero 0 ∙ zero-mod f.size

  -- zeros at the end
  value_end : (k m : ℕ) (p : ℕ → ℕ) (i x : ℕ) → ((n : ℕ) → n < m → p (i + k + n) ≡ 0) → value f (k + m) p i x ≡ value f k p i x
  value_end zero m p i x h = ap (λ z. value f z p i x) (let e : 0 + m ≡ m = omega arith in e) ∙ value_none m p i x (λ n b. ap p (let e : i + n ≡ i + 0 + n = omega arith in e) ∙ h n b)
  value_end (suc k) m p i x h =
      ap (λ z. value f z p i x) (let e : suc k + m ≡ suc (k + m) = omega arith in e)
      ∙ ap (λ z. f.plus (f.times z x) (p i)) (value_end k m p (suc i) x (λ n b. ap p (let e : suc i + k + n ≡ i + suc k + n = omega arith in e) ∙ h n b))

  pub last : (m : ℕ) (x p : ℕ → ℕ) → m ≤ SUM_LIMIT → Partial f m x p → Product f m x p
  last m x p le h = record {
    monic = h.monic;
    roots = λ i u.
        let is = h.is in
        let j = h.n - suc m in
        sym (ap (λ z. value f z p 0 (x i)) (let e : h.n ≡ suc m + j = omega arith in e) ∙ value_end (suc m) j p 0 (x i) (λ y b. h.high (0 + suc m + y) (omega arith) (omega arith))) ∙ h.roots i u;
  }
