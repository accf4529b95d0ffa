-- Differences of codes: their identities, their sums and their weight.
use mathlib.Core.Path.{◌≡◌, refl, sym, ap, ap₂, ◌∙◌}
use mathlib.Core.Logic.{◌⊎◌}
use Prim.Native.Nat.{ℕ, zero, suc, ◌<◌, ◌≤◌, ◌+◌, ◌*◌}
use native.Mathlib.Omega.{arith}
use native.Mathlib.Decide.{ℕ_discrete}
use Rattle.field.specs.Field.{Ops, Laws, Spread, power}
use Rattle.field.specs.Sums.{power_sum, total}
use Rattle.field.proofs.Laws.{code_mod, zero_plus, total_code}
use Rattle.algebra.specs.Vectors.{Page, Codes, counted, weight, Solves}
use Rattle.algebra.proofs.Ring.{ring, nought, unit, minus, ◌⊞◌, ◌⊟◌, ◌⊠◌}
use Rattle.algebra.proofs.Sums.{total_linear, pow, sum}
use Rattle.algebra.proofs.Codes.{codes, el, el_injective, el_plus, el_minus, el_zero, el_power_sum, point, zero_code}
use Rattle.algebra.proofs.Theorems.{unique}
use Rattle.scheme.specs.Farm.{count, differ}
use Rattle.scheme.proofs.Counts.{differ_same, differ_apart, count_same}

-- vectors that are the same on the pages have the same sums
pub power_sum_same : (f : Ops) (N : ℕ) (d e : ℕ → ℕ) → ((n : ℕ) → Page N n → d n ≡ e n) → (j : ℕ) → power_sum f N d j ≡ power_sum f N e j
power_sum_same f N d e h j = total_same N _ _ (λ n b. ap (λ x. f.times x (power f f.alpha (j * n))) (h n b))
  where
    total_same : (k : ℕ) (d e : ℕ → ℕ) → ((n : ℕ) → Page k n → d n ≡ e n) → total f k d ≡ total f k e
    total_same zero d e h = refl
    total_same (suc k) d e h = ap₂ f.plus (total_same k d e (λ n b. h n (omega arith))) (h (suc k) (omega arith))

-- a lawful field with places for N pages
pub record Lawful (f : Ops) (N : ℕ) : Type 0 where
  pub laws : Laws f
  pub spread : Spread f
  pub places : N ≤ f.places

module _ {f : Ops} (l : Laws f) where
  pub minus_self : (a : ℕ) → f.minus a a ≡ 0
  minus_self a = el_injective l _ _ (l.minus_code a a) (zero_code l) (el_minus l a a ∙ (codes l).add_neg (el l a) ∙ sym (el_zero l))

  pub minus_minus : (a b c : ℕ) → f.minus (f.minus a c) (f.minus b c) ≡ f.minus a b
  minus_minus a b c =
      el_injective l _ _ (l.minus_code (f.minus a c) (f.minus b c)) (l.minus_code a b)
      (el_minus l (f.minus a c) (f.minus b c)
      ∙ ap₂ (λ x y. (codes l).add x ((codes l).neg y)) (el_minus l a c) (el_minus l b c)
      ∙ ring (codes l) 3 (λ a b c. ((a ⊟ c) ⊟ (b ⊟ c), a ⊟ b)) refl (el l a) (el l b) (el l c)
      ∙ sym (el_minus l a b))

  pub plus_minuses : (a b c : ℕ) → f.plus (f.minus a b) (f.minus b c) ≡ f.minus a c
  plus_minuses a b c =
      el_injective l _ _ (l.plus_code (f.minus a b) (f.minus b c)) (l.minus_code a c)
      (el_plus l (f.minus a b) (f.minus b c)
      ∙ ap₂ (codes l).add (el_minus l a b) (el_minus l b c)
      ∙ ring (codes l) 3 (λ a b c. (a ⊟ b ⊞ (b ⊟ c), a ⊟ c)) refl (el l a) (el l b) (el l c)
      ∙ sym (el_minus l a c))

  pub minus_back : (a b : ℕ) → b < f.size → f.minus a (f.minus a b) ≡ b
  minus_back a b h =
      el_injective l _ _ (l.minus_code a (f.minus a b)) h
      (el_minus l a (f.minus a b)
      ∙ ap (λ x. (codes l).add (el l a) ((codes l).neg x)) (el_minus l a b)
      ∙ ring (codes l) 2 (λ a b. (a ⊟ (a ⊟ b), b)) refl (el l a) (el l b))

  pub minus_flip : (a b : ℕ) → f.minus 0 (f.minus a b) ≡ f.minus b a
  minus_flip a b = ap (λ z. f.minus z (f.minus a b)) (sym (minus_self b)) ∙ minus_minus b a b

  pub plus_opposite : (a b : ℕ) → a < f.size → f.plus (f.plus a b) (f.minus 0 b) ≡ a
  plus_opposite a b h =
      el_injective l _ _ (l.plus_code _ _) h
      (el_plus l (f.plus a b) (f.minus 0 b)
      ∙ ap₂ (codes l).add (el_plus l a b) (el_minus l 0 b ∙ ap (λ z. (codes l).add z ((codes l).neg (el l b))) (el_zero l))
      ∙ ring (codes l) 2 (λ a b. (a ⊞ b ⊞ (nought ⊟ b), a)) refl (el l a) (el l b))

  pub opposite_plus : (a b : ℕ) → f.plus (f.minus 0 a) (f.minus 0 b) ≡ f.minus 0 (f.plus b a)
  opposite_plus a b =
      el_injective l _ _ (l.plus_code _ _) (l.minus_code _ _)
      (el_plus l (f.minus 0 a) (f.minus 0 b)
      ∙ ap₂ (codes l).add (el_minus l 0 a) (el_minus l 0 b)
      ∙ ap (λ z. (codes l).add ((codes l).add z ((codes l).neg (el l a))) ((codes l).add z ((codes l).neg (el l b)))) (el_zero l)
      ∙ ring (codes l) 2 (λ a b. ((nought ⊟ a) ⊞ (nought ⊟ b), nought ⊟ (b ⊞ a))) refl (el l a) (el l b)
      ∙ sym (el_minus l 0 (f.plus b a) ∙ ap₂ (λ z x. (codes l).add z ((codes l).neg x)) (el_zero l) (el_plus l b a)))

  pub less_more : (a b x : ℕ) → f.minus x (f.plus (f.minus a b) x) ≡ f.minus b a
  less_more a b x =
      el_injective l _ _ (l.minus_code _ _) (l.minus_code b a)
      (el_minus l x (f.plus (f.minus a b) x)
      ∙ ap (λ y. (codes l).add (el l x) ((codes l).neg y)) (el_plus l (f.minus a b) x ∙ ap (λ y. (codes l).add y (el l x)) (el_minus l a b))
      ∙ ring (codes l) 3 (λ a b x. (x ⊟ (a ⊟ b ⊞ x), b ⊟ a)) refl (el l a) (el l b) (el l x)
      ∙ sym (el_minus l b a))

  pub more_less : (a b c x : ℕ) → f.plus (f.plus (f.minus a b) x) (f.minus (f.minus b c) x) ≡ f.minus a c
  more_less a b c x =
      el_injective l _ _ (l.plus_code _ _) (l.minus_code a c)
      (el_plus l (f.plus (f.minus a b) x) (f.minus (f.minus b c) x)
      ∙ ap₂ (codes l).add
      (el_plus l (f.minus a b) x ∙ ap (λ y. (codes l).add y (el l x)) (el_minus l a b))
      (el_minus l (f.minus b c) x ∙ ap (λ y. (codes l).add y ((codes l).neg (el l x))) (el_minus l b c))
      ∙ ring (codes l) 4 (λ a b c x. (a ⊟ b ⊞ x ⊞ (b ⊟ c ⊟ x), a ⊟ c)) refl (el l a) (el l b) (el l c) (el l x)
      ∙ sym (el_minus l a c))

  pub plus_away : (x y : ℕ) → y < f.size → f.minus (f.plus x y) x ≡ y
  plus_away x y h =
      el_injective l _ _ (l.minus_code _ _) h
      (el_minus l (f.plus x y) x
      ∙ ap (λ z. (codes l).add z ((codes l).neg (el l x))) (el_plus l x y)
      ∙ ring (codes l) 2 (λ x y. (x ⊞ y ⊟ x, y)) refl (el l x) (el l y))

  pub minus_zero : (a b : ℕ) → a < f.size → b < f.size → f.minus a b ≡ 0 → a ≡ b
  minus_zero a b ha hb z =
      sym (code_mod l a ha) ∙ sym (l.minus_plus a b) ∙ ap (λ x. f.plus x b) z ∙ zero_plus l b ∙ code_mod l b hb

  pub differ_minus : (a b : ℕ) → a < f.size → b < f.size → differ (f.minus a b) 0 ≡ differ a b
  differ_minus a b ha hb = elim (ℕ_discrete a b) [
    | yes e ↦ differ_same (f.minus a b) 0 (ap (λ z. f.minus z b) e ∙ minus_self b) ∙ sym (differ_same a b e)
    | no d ↦ differ_apart (f.minus a b) 0 (λ z. d (minus_zero a b ha hb z)) ∙ sym (differ_apart a b d)
  ]

  weight_count : (N : ℕ) (e : ℕ → ℕ) → weight N e ≡ count N (λ n. differ (e n) 0)
  weight_count zero e = refl
  weight_count (suc N) e = last (e (suc N)) (weight_count N e)
    where
      last : (a : ℕ) → weight N e ≡ count N (λ n. differ (e n) 0) → counted a (weight N e) ≡ count N (λ n. differ (e n) 0) + differ a 0
      last zero ih = omega (arith, differ_same 0 0 refl)
      last (suc a) ih = omega (arith, differ_apart (suc a) 0 (omega arith))

  pub weight_difference : (N : ℕ) (d e : ℕ → ℕ) → Codes f N d → Codes f N e → weight N (λ n. f.minus (d n) (e n)) ≡ count N (λ n. differ (d n) (e n))
  weight_difference N d e cd ce = weight_count N _ ∙ count_same N _ _ (λ n b. differ_minus (d n) (e n) (cd n b) (ce n b))

  pub sum_code : (N : ℕ) (e : ℕ → ℕ) (j : ℕ) → power_sum f N e j < f.size
  sum_code N e j = total_code l N _

  pub sum_difference : (N : ℕ) (d e : ℕ → ℕ) (j : ℕ) → power_sum f N (λ n. f.minus (d n) (e n)) j ≡ f.minus (power_sum f N d j) (power_sum f N e j)
  sum_difference N d e j =
      el_injective l _ _ (sum_code N _ j) (l.minus_code _ _)
      (el_power_sum l N (λ n. f.minus (d n) (e n)) j
      ∙ sym (total_linear (codes l) N ((codes l).neg (codes l).unit) _ _ _ (λ m.
      ring (codes l) 3 (λ d e x. (minus unit ⊠ (e ⊠ x) ⊞ d ⊠ x, (d ⊟ e) ⊠ x)) refl (el l (d m)) (el l (e m)) (pow (codes l) (point l m) j)
      ∙ ap (λ z. (codes l).mul z (pow (codes l) (point l m) j)) (sym (el_minus l (d m) (e m)))))
      ∙ ring (codes l) 2 (λ x y. (minus unit ⊠ y ⊞ x, x ⊟ y)) refl (sum (codes l) (point l) N (λ n. el l (d n)) j) (sum (codes l) (point l) N (λ n. el l (e n)) j)
      ∙ sym (el_minus l (power_sum f N d j) (power_sum f N e j)
      ∙ ap₂ (λ x y. (codes l).add x ((codes l).neg y)) (el_power_sum l N d j) (el_power_sum l N e j)))

  pub sum_plus : (N : ℕ) (d e : ℕ → ℕ) (j : ℕ) → power_sum f N (λ n. f.plus (d n) (e n)) j ≡ f.plus (power_sum f N d j) (power_sum f N e j)
  sum_plus N d e j =
      el_injective l _ _ (sum_code N _ j) (l.plus_code _ _)
      (el_power_sum l N (λ n. f.plus (d n) (e n)) j
      ∙ sym (total_linear (codes l) N (codes l).unit _ _ _ (λ m.
      ring (codes l) 3 (λ d e x. (unit ⊠ (e ⊠ x) ⊞ d ⊠ x, (d ⊞ e) ⊠ x)) refl (el l (d m)) (el l (e m)) (pow (codes l) (point l m) j)
      ∙ ap (λ z. (codes l).mul z (pow (codes l) (point l m) j)) (sym (el_plus l (d m) (e m)))))
      ∙ ring (codes l) 2 (λ x y. (unit ⊠ y ⊞ x, x ⊞ y)) refl (sum (codes l) (point l) N (λ n. el l (d n)) j) (sum (codes l) (point l) N (λ n. el l (e n)) j)
      ∙ sym (el_plus l (power_sum f N d j) (power_sum f N e j)
      ∙ ap₂ (codes l).add (el_power_sum l N d j) (el_power_sum l N e j)))

  -- a vector that is 0 has the sums 0
  pub sum_zero : (N : ℕ) (e : ℕ → ℕ) → ((n : ℕ) → Page N n → e n ≡ 0) → (j : ℕ) → power_sum f N e j ≡ 0
  sum_zero N e h j =
      power_sum_same f N e (λ n. f.minus (e n) (e n)) (λ n b. h n b ∙ sym (minus_self (e n))) j ∙ sum_difference N e e j ∙ minus_self (power_sum f N e j)

-- two solutions are one, if they are light enough or all sums are told
pub solutions_one : {f : Ops} {N : ℕ} → Lawful f N → (t u J : ℕ) (s d e : ℕ → ℕ) → Solves f N t J s d → Solves f N u J s e
    → (weight N d + weight N e ≤ J) ⊎ (N ≤ J) → (n : ℕ) → Page N n → d n ≡ e n
solutions_one {f} {N} F t u J s d e x y enough =
    unique f F.laws F.spread N F.places d e x.codes y.codes J (λ j lo hi. x.sums j (lo, hi) ∙ sym (y.sums j (lo, hi))) enough
