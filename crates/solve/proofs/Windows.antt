-- Windows of words: zeros at either end, polynomials moved up, and differences.
use Rattle.std.proofs.Common.{◌≡◌, ℕ, zero, suc, ◌+◌, ◌-◌, ◌<◌, ◌≤◌, cond, List, length, take, drop, add-one, length-take-le, get_or-take, get_or-drop, sym, refl, ap, ◌∙◌, ap₂, arith}
use Rattle.std.proofs.lemmas.Bool.{lt-ltb, le-ltb}
use Rattle.std.proofs.Math.Nat.{zero-mod}
use Rattle.field.specs.Field.{Ops, Laws}
use Rattle.field.proofs.Laws.{code_mod, zero_plus, times_zero, plus_cancel}
use Rattle.algebra.proofs.Ring.{ring, nought, ◌⊞◌, ◌⊟◌, ◌⊠◌}
use Rattle.algebra.proofs.Codes.{codes, el, el_plus, el_minus, el_times, el_zero, el_injective}
use Rattle.solve.specs.Polynomials.{at, window, shifted}
use Rattle.solve.proofs.Words.{window_code}

shifted_low : (a : ℕ) (p : ℕ → ℕ) (i : ℕ) → i < a → shifted a p i ≡ 0
shifted_low a p i h = ap (λ b. cond b 0 (p (i - a))) (lt-ltb i a h)

pub shifted_high : (a : ℕ) (p : ℕ → ℕ) (i : ℕ) → a ≤ i → shifted a p i ≡ p (i - a)
shifted_high a p i h = ap (λ b. cond b 0 (p (i - a))) (le-ltb i a h)

pub shifted_none : (p : ℕ → ℕ) (i : ℕ) → shifted 0 p i ≡ p i
shifted_none p i = shifted_high 0 p i (omega arith) ∙ ap p (let e : i - 0 ≡ i = omega arith in e)

-- r is x^a p - c x^b w, in its first n places
abbrev pub Difference : Ops → ℕ → (r p : ℕ → ℕ) → (a c : ℕ) → (w : ℕ → ℕ) → ℕ → Type 0
Difference f n r p a c w b = (i : ℕ) → i < n → r i ≡ f.minus (shifted a p i) (f.times c (shifted b w i))

-- the same coefficients against the same values give the same window
window_equal : (f : Ops) (k : ℕ) (p r : ℕ → ℕ) (i i' : ℕ) (s u : ℕ → ℕ) (j j' : ℕ) → ((n : ℕ) → n < k → p (i + n) ≡ r (i' + n)) → ((n : ℕ) → n < k → s (j + n) ≡ u (j' + n))
    → window f k p i s j ≡ window f k r i' u j'
window_equal f zero p r i i' s u j j' h v = refl
window_equal f (suc k) p r i i' s u j j' h v =
    let here : p i ≡ r i' = ap p (let e : i ≡ i + 0 = omega arith in e) ∙ h 0 (omega arith) ∙ ap r (let e : i' + 0 ≡ i' = omega arith in e) in
    let value : s j ≡ u j' = ap s (let e : j ≡ j + 0 = omega arith in e) ∙ v 0 (omega arith) ∙ ap u (let e : j' + 0 ≡ j' = omega arith in e) in
    ap₂ f.plus (ap₂ f.times here value)
    (window_equal f k p r (suc i) (suc i') s u (suc j) (suc j')
    (λ n b. ap p (let e : suc i + n ≡ i + suc n = omega arith in e) ∙ h (suc n) (omega arith) ∙ ap r (let e : i' + suc n ≡ suc i' + n = omega arith in e))
    (λ n b. ap s (let e : suc j + n ≡ j + suc n = omega arith in e) ∙ v (suc n) (omega arith) ∙ ap u (let e : j' + suc n ≡ suc j' + n = omega arith in e)))

window_same : (f : Ops) (k : ℕ) (p r : ℕ → ℕ) (i : ℕ) (s : ℕ → ℕ) (j i' : ℕ) → ((n : ℕ) → n < k → p (i + n) ≡ r (i' + n)) → window f k p i s j ≡ window f k r i' s j
window_same f k p r i s j i' h = window_equal f k p r i i' s s j j h (λ n b. refl)

-- the first d + 1 coefficients
pub window_front_of : (f : Ops) (p : List ℕ) (s : ℕ → ℕ) (d j : ℕ) → d < length p → window f (length (take (d + 1) p)) (at (take (d + 1) p)) 0 s j ≡ window f (suc d) (at p) 0 s j
window_front_of f p s d j lt =
    ap (λ n. window f n (at (take (d + 1) p)) 0 s j) (length-take-le (d + 1) p (omega arith) ∙ add-one d)
    ∙ window_same f (suc d) (at (take (d + 1) p)) (at p) 0 s j 0 (λ n b. get_or-take (d + 1) p (0 + n) 0 (omega arith))

-- and against n values from place k on
pub window_cut : (f : Ops) (p vs : List ℕ) (d k n : ℕ) → d < length p → d < n → window f (length (take (d + 1) p)) (at (take (d + 1) p)) 0 (at (take n (drop k vs))) 0 ≡ window f (suc d) (at p) 0 (at vs) k
window_cut f p vs d k n lt long =
    window_front_of f p (at (take n (drop k vs))) d 0 lt
    ∙ window_equal f (suc d) (at p) (at p) 0 0 (at (take n (drop k vs))) (at vs) 0 k (λ i b. refl)
    (λ i b. get_or-take n (drop k vs) (0 + i) 0 (omega arith) ∙ get_or-drop k vs (0 + i) 0 ∙ ap (at vs) (let e : k + (0 + i) ≡ k + i = omega arith in e))

module _ {f : Ops} (l : Laws f) where
  pub minus_zero : (x : ℕ) → x < f.size → f.minus x 0 ≡ x
  minus_zero x h = sym (code_mod l _ (l.minus_code x 0)) ∙ sym (l.plus_zero (f.minus x 0)) ∙ l.minus_plus x 0 ∙ code_mod l x h

  pub minus_self : (x : ℕ) → f.minus x x ≡ 0
  minus_self x = sym (code_mod l _ (l.minus_code x x)) ∙ plus_cancel l (f.minus x x) 0 x (l.minus_plus x x ∙ sym (zero_plus l x)) ∙ zero-mod f.size

  -- nothing is taken off
  pub minus_none : (x c u v : ℕ) → u ≡ x → v ≡ 0 → x < f.size → f.minus u (f.times c v) ≡ x
  minus_none x c u v eu ev h = ap₂ (λ a b. f.minus a (f.times c b)) eu ev ∙ ap (f.minus x) (times_zero l c) ∙ minus_zero x h

  zero_term : (a x y : ℕ) → a ≡ 0 → y < f.size → f.plus (f.times a x) y ≡ y
  zero_term a x y e h = ap (λ z. f.plus z y) (ap (λ z. f.times z x) e ∙ l.times_comm 0 x ∙ times_zero l x) ∙ zero_plus l y ∙ code_mod l y h

  -- zeros at the front
  window_front : (a k : ℕ) (p : ℕ → ℕ) (i : ℕ) (s : ℕ → ℕ) (j : ℕ) → ((n : ℕ) → n < a → p (i + n) ≡ 0) → window f (a + k) p i s j ≡ window f k p (i + a) s (j + a)
  window_front zero k p i s j h =
      ap₂ (λ (x y : ℕ). window f x p y s j) (let e : 0 + k ≡ k = omega arith in e) (let e : i ≡ i + 0 = omega arith in e)
      ∙ ap (λ y. window f k p (i + 0) s y) (let e : j ≡ j + 0 = omega arith in e)
  window_front (suc a) k p i s j h =
      ap (λ x. window f x p i s j) (let e : suc a + k ≡ suc (a + k) = omega arith in e)
      ∙ zero_term (p i) (s j) _ (ap p (let e : i ≡ i + 0 = omega arith in e) ∙ h 0 (omega arith)) (window_code l (a + k) p (suc i) s (suc j))
      ∙ window_front a k p (suc i) s (suc j) (λ n b. ap p (let e : suc i + n ≡ i + suc n = omega arith in e) ∙ h (suc n) (omega arith))
      ∙ ap₂ (λ x y. window f k p x s y) (let e : suc i + a ≡ i + suc a = omega arith in e) (let e : suc j + a ≡ j + suc a = omega arith in e)

  window_none : (k : ℕ) (p : ℕ → ℕ) (i : ℕ) (s : ℕ → ℕ) (j : ℕ) → ((n : ℕ) → n < k → p (i + n) ≡ 0) → window f k p i s j ≡ 0
  window_none zero p i s j h = refl
  window_none (suc k) p i s j h =
      zero_term (p i) (s j) _ (ap p (let e : i ≡ i + 0 = omega arith in e) ∙ h 0 (omega arith)) (window_code l k p (suc i) s (suc j))
      ∙ window_none k p (suc i) s (suc j) (λ n b. ap p (let e : suc i + n ≡ i + suc n = omega arith in e) ∙ h (suc n) (omega arith))

  -- zeros at the end
  pub window_end : (k m : ℕ) (p : ℕ → ℕ) (i : ℕ) (s : ℕ → ℕ) (j : ℕ) → ((n : ℕ) → n < m → p (i + k + n) ≡ 0) → window f (k + m) p i s j ≡ window f k p i s j
  window_end zero m p i s j h =
      ap (λ x. window f x p i s j) (let e : 0 + m ≡ m = omega arith in e) ∙ window_none m p i s j (λ n b. ap p (let e : i + n ≡ i + 0 + n = omega arith in e) ∙ h n b)
  window_end (suc k) m p i s j h =
      ap (λ x. window f x p i s j) (let e : suc k + m ≡ suc (k + m) = omega arith in e)
      ∙ ap (f.plus (f.times (p i) (s j))) (window_end k m p (suc i) s (suc j) (λ n b. ap p (let e : suc i + k + n ≡ i + suc k + n = omega arith in e) ∙ h n b))

  -- the window of x^a p is that of p, a further on
  window_shifted : (n a : ℕ) (p : ℕ → ℕ) (s : ℕ → ℕ) (j : ℕ) → a ≤ n → ((i : ℕ) → n ≤ i + a → i < n → p i ≡ 0) → window f n (shifted a p) 0 s j ≡ window f n p 0 s (j + a)
  window_shifted n a p s j le h =
      let k = n - a in
      ap (λ x. window f x (shifted a p) 0 s j) (let e : n ≡ a + k = omega arith in e)
      ∙ window_front a k (shifted a p) 0 s j (λ i b. shifted_low a p (0 + i) (omega arith))
      ∙ window_same f k (shifted a p) p (0 + a) s (j + a) 0 (λ i b. shifted_high a p (0 + a + i) (omega arith) ∙ ap p (let e : 0 + a + i - a ≡ 0 + i = omega arith in e))
      ∙ sym (window_end k a p 0 s (j + a) (λ i b. h (0 + k + i) (omega arith) (omega arith)))
      ∙ ap (λ x. window f x p 0 s (j + a)) (let e : k + a ≡ n = omega arith in e)

  -- the window of p - c w
  window_minus : (k : ℕ) (r p w : ℕ → ℕ) (c i : ℕ) (s : ℕ → ℕ) (j : ℕ) → ((n : ℕ) → i ≤ n → n < i + k → r n ≡ f.minus (p n) (f.times c (w n)))
      → window f k r i s j ≡ f.minus (window f k p i s j) (f.times c (window f k w i s j))
  window_minus k r p w c i s j h =
      el_injective l _ _ (window_code l k r i s j) (l.minus_code _ _)
      (go k i j h ∙ sym (el_minus l _ _ ∙ ap (λ z. (codes l).add (el l (window f k p i s j)) ((codes l).neg z)) (el_times l _ _)))
    where
      go : (k i j : ℕ) → ((n : ℕ) → i ≤ n → n < i + k → r n ≡ f.minus (p n) (f.times c (w n)))
          → el l (window f k r i s j) ≡ (codes l).add (el l (window f k p i s j)) ((codes l).neg ((codes l).mul (el l c) (el l (window f k w i s j))))
      go zero i j h =
          el_zero l ∙ ring (codes l) 1 (λ c. (nought, nought ⊟ c ⊠ nought)) refl (el l c) ∙ sym (ap (λ z. (codes l).add z ((codes l).neg ((codes l).mul (el l c) z))) (el_zero l))
      go (suc k) i j h =
          let t = el l in
          el_plus l _ _ ∙ ap₂ (codes l).add
          (el_times l (r i) (s j) ∙ ap (λ z. (codes l).mul z (t (s j))) (ap t (h i (omega arith) (omega arith)) ∙ el_minus l (p i) _ ∙ ap (λ z. (codes l).add (t (p i)) ((codes l).neg z)) (el_times l c (w i))))
          (go k (suc i) (suc j) (λ n lo hi. h n (omega arith) (omega arith)))
          ∙ ring (codes l) 6 (λ p c w s u v. ((p ⊟ c ⊠ w) ⊠ s ⊞ (u ⊟ c ⊠ v), (p ⊠ s ⊞ u) ⊟ c ⊠ (w ⊠ s ⊞ v))) refl
          (t (p i)) (t c) (t (w i)) (t (s j)) (t (window f k p (suc i) s (suc j))) (t (window f k w (suc i) s (suc j)))
          ∙ sym (ap₂ (λ x y. (codes l).add x ((codes l).neg ((codes l).mul (t c) y))) (el_plus l _ _ ∙ ap (λ z. (codes l).add z (t (window f k p (suc i) s (suc j)))) (el_times l _ _)) (el_plus l _ _ ∙ ap (λ z. (codes l).add z (t (window f k w (suc i) s (suc j)))) (el_times l _ _)))

  -- the window of x^a p - c x^b w
  pub window_difference : (n : ℕ) (r p : ℕ → ℕ) (a c : ℕ) (w : ℕ → ℕ) (b : ℕ) → Difference f n r p a c w b → a ≤ n → b ≤ n
      → ((i : ℕ) → n ≤ i + a → i < n → p i ≡ 0) → ((i : ℕ) → n ≤ i + b → i < n → w i ≡ 0)
      → (s : ℕ → ℕ) (j : ℕ) → window f n r 0 s j ≡ f.minus (window f n p 0 s (j + a)) (f.times c (window f n w 0 s (j + b)))
  window_difference n r p a c w b is la lb zp zw s j =
      window_minus n r (shifted a p) (shifted b w) c 0 s j (λ i lo hi. is i (omega arith))
      ∙ ap₂ (λ x y. f.minus x (f.times c y)) (window_shifted n a p s j la zp) (window_shifted n b w s j lb zw)
