-- What its first sums tell of a vector: its pages are roots of a locator, and its entries are those that are interpolated.
use Rattle.std.proofs.Common.{◌≡◌, ℕ, zero, suc, ◌+◌, ◌-◌, ◌<◌, ◌≤◌, ◌≢◌, List, length, sym, ap, ◌∙◌, subst, ap₂, arith}
use Rattle.std.proofs.Math.Decide.{ℕ_discrete, dec_le}
use Rattle.field.specs.Field.{Ops, Laws, Spread, power}
use Rattle.field.specs.Sums.{entry, power_sum}
use Rattle.field.proofs.Laws.{code_mod, one_code, zero_plus, times_zero}
use Rattle.algebra.specs.Vectors.{Page, Codes, weight}
use Rattle.algebra.proofs.Field.{nought_left, nought_right}
use Rattle.algebra.proofs.Polynomials as poly
use Rattle.algebra.proofs.Polynomials.{eval, Monic, quotient_root, few_roots}
use Rattle.algebra.proofs.Sums.{sum, entry_from_sums}
use Rattle.algebra.proofs.Sparse as sparse
use Rattle.algebra.proofs.Codes.{codes, el, el_times, el_inverse, el_zero, el_injective, el_injective_zero, point, points, el_power_sum}
use Rattle.solve.specs.Polynomials.{at, value, quotient, interpolated, Locates, Product}
use Rattle.solve.specs.Candidates.{Rising, Supported}
use Rattle.solve.proofs.Words.{E, list, list_length, list_monic, list_quotient, el_value, el_window, value_code, window_agree}

module _ {f : Ops} (l : Laws f) (spread : Spread f) (N : ℕ) (le : N ≤ f.places) where
  -- rising pages have different points
  points_apart : (m : ℕ) (g x : ℕ → ℕ) → Rising f N m g x → (i j : ℕ) → i < j → j < m → ¬ (el l (x i) ≡ el l (x j))
  points_apart m g x r i j ij jm z =
      let rise = r.rise i j ij jm in
      let same = (points l spread N le).apart (g i) (g j) (r.page i (omega arith)) (r.page j jm)
      (ap (el l) (sym (r.point i (omega arith))) ∙ z ∙ ap (el l) (r.point j jm)) in
      omega arith

  -- a monic polynomial of degree d is 0 at the points of at most d pages
  pub fewer_roots : (d : ℕ) (p : ℕ → ℕ) → p d ≡ 1 → (m : ℕ) (g x : ℕ → ℕ) → Rising f N m g x → ((i : ℕ) → i < m → value f (suc d) p 0 (x i) ≡ 0) → m ≤ d
  fewer_roots d p one m g x r z =
      omega (
        arith,
        list_length l (suc d) p 0,
        few_roots (codes l) m (λ i. el l (x i)) (points_apart m g x r) (list l (suc d) p 0)
            (list_monic l d p 0 (ap p (let e : 0 + d ≡ d = omega arith in e) ∙ one))
            (λ i b. sym (el_value l (suc d) p 0 (x i)) ∙ ap (el l) (z i b) ∙ el_zero l),
      )

  module _ (values : List ℕ) (J : ℕ) (e : ℕ → ℕ) (small : Codes f N e) (sums : (j : ℕ) → Page J j → power_sum f N e j ≡ entry values j) where
    abbrev S : ℕ → E l
    S = sum (codes l) (point l) N (λ n. el l (e n))

    abbrev V : ℕ → E l
    V n = el l (at values n)

    sum_is : (j : ℕ) → j < J → S (suc j) ≡ V j
    sum_is j b = sym (el_power_sum l N e (suc j)) ∙ ap (el l) (sums (suc j) (omega arith) ∙ ap (at values) (let w : suc j - 1 ≡ j = omega arith in w))

    windows : (p : List (E l)) (j : ℕ) → j + length p ≤ J → poly.window (codes l) p S (suc j) ≡ poly.window (codes l) p V j
    windows p j h = window_agree l p S V (suc j) j (λ i b. ap S (let w : suc j + i ≡ suc (j + i) = omega arith in w) ∙ sum_is (j + i) (omega arith))

    pub at_roots : (t : ℕ) → weight N e ≤ t → t + t ≤ J → (p : List ℕ) → Locates f t (at values) p
        → (n : ℕ) → Page N n → ¬ (e n ≡ 0) → value f (length p) (at p) 0 (power f f.alpha n) ≡ 0
    at_roots t light two p loc n b some =
        el_injective_zero l _ (value_code l (length p) (at p) 0 _)
        (el_value l (length p) (at p) 0 (power f f.alpha n)
        ∙ sparse.located (codes l) (point l) N (points l spread N le) t e light (λ n. el l (e n)) (λ m c z. ap (el l) z ∙ el_zero l) (list l (length p) (at p) 0) clear n b
        (λ z. some (el_injective_zero l (e n) (small n b) z)))
      where
        clear : (j : ℕ) → 1 ≤ j → j ≤ t → poly.window (codes l) (list l (length p) (at p) 0) S j ≡ (codes l).nought
        clear zero lo hi = absurd (omega arith)
        clear (suc j) lo hi =
            let short = loc.short in
            let terms = loc.terms in
            let len = list_length l (length p) (at p) 0 in
            windows (list l (length p) (at p) 0) j (omega arith) ∙ sym (el_window l (length p) (at p) 0 (at values) j) ∙ ap (el l) (loc.clears j (omega arith)) ∙ el_zero l

    module _ (m : ℕ) (g x p : ℕ → ℕ) (r : Rising f N m g x) (product : Product f m x p) (known : m ≤ J) (support : Supported N m g e) (i : ℕ) (im : i < m) where
      abbrev a : ℕ
      a = x i

      abbrev P : List (E l)
      P = list l (suc m) p 0

      abbrev Q : List (E l)
      Q = list l m (quotient f m p a) 0

      at_page : (k : ℕ) → k < m → point l (g k) ≡ el l (x k)
      at_page k b = ap (el l) (sym (r.point k b))

      root : (k : ℕ) → k < m → eval (codes l) P (el l (x k)) ≡ (codes l).nought
      root k b = sym (el_value l (suc m) p 0 (x k)) ∙ ap (el l) (product.roots k b) ∙ el_zero l

      apart : (k : ℕ) → k < m → k ≢ i → ¬ (el l (x k) ≡ el l a)
      apart k b d z = elim (dec_le k i) [ yes w ↦ points_apart m g x r k i (omega arith) im z | no w ↦ points_apart m g x r i k (omega arith) b (sym z) ]

      other : (k : ℕ) → k < m → k ≢ i → eval (codes l) Q (el l (x k)) ≡ (codes l).nought
      other k b d =
          ap (λ y. eval (codes l) y (el l (x k))) (list_quotient l m p a m 0 (omega arith))
          ∙ quotient_root (codes l) (el l a) P (root i im) (el l (x k)) (apart k b d) (root k b)

      top : quotient f m p a (0 + (m - 1)) ≡ 1
      top =
          ap₂ (λ y k. value f y p k a) (let w : m - (0 + (m - 1)) ≡ 1 = omega arith in w) (let w : suc (0 + (m - 1)) ≡ m = omega arith in w)
          ∙ ap₂ f.plus (l.times_comm 0 a ∙ times_zero l a) product.monic ∙ zero_plus l 1 ∙ code_mod l 1 (one_code l)

      own : ¬ (eval (codes l) Q (point l (g i)) ≡ (codes l).nought)
      own z =
          let fewer = few_roots (codes l) m (λ k. el l (x k)) (points_apart m g x r) Q
          (subst (λ (y : ℕ). Monic (codes l) (list l y (quotient f m p a) 0)) (let w : suc (m - 1) ≡ m = omega arith in w) (list_monic l (m - 1) (quotient f m p a) 0 top))
          (λ k b. elim (ℕ_discrete k i) [ yes u ↦ ap (λ y. eval (codes l) Q (el l (x y))) u ∙ ap (eval (codes l) Q) (sym (at_page i im)) ∙ z | no u ↦ other k b u ]) in
          omega (arith, list_length l m (quotient f m p a) 0, fewer)

      off : (n : ℕ) → Page N n → n ≢ g i → (codes l).mul (el l (e n)) (eval (codes l) Q (point l n)) ≡ (codes l).nought
      off n b d = elim (ℕ_discrete (e n) 0) [
        | yes z ↦ nought_left (codes l) (eval (codes l) Q (point l n)) (ap (el l) z ∙ el_zero l)
        | no z ↦ (let w = support n b z in
            nought_right (codes l) (el l (e n)) (ap (λ k. eval (codes l) Q (point l k)) (sym w.2) ∙ ap (eval (codes l) Q) (at_page w.0 w.1) ∙ other w.0 w.1 (λ u. d (sym w.2 ∙ ap g u))))
      ]

      pub entry_is : e (g i) ≡ interpolated f m p a (at values)
      entry_is = el_injective l _ _ (small (g i) (r.page i im)) (l.times_code _ _)
          (entry_from_sums (codes l) (point l) N (points l spread N le) (λ n. el l (e n)) Q (g i) (r.page i im) off own
          ∙ ap₂ (codes l).mul
          (windows Q 0 (let len = list_length l m (quotient f m p a) 0 in omega arith) ∙ sym (el_window l m (quotient f m p a) 0 (at values) 0))
          (ap (λ y. (codes l).inv ((codes l).mul y (eval (codes l) Q y))) (at_page i im)
          ∙ sym (el_inverse l _ ∙ ap (codes l).inv (el_times l a _ ∙ ap ((codes l).mul (el l a)) (el_value l m (quotient f m p a) 0 a))))
          ∙ sym (el_times l _ _))
