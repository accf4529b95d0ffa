-- Totals of numbers, where two numbers agree or differ, and the place of the greatest.
use mathlib.Core.Path.{◌≡◌, refl, sym, ap, ap₂, ◌∙◌}
use mathlib.Core.Bool.{cond}
use mathlib.Core.Logic.{◌≢◌}
use Prim.Native.Nat.{ℕ, zero, suc, ◌<◌, ◌≤◌, ◌+◌}
use native.Mathlib.Omega.{arith}
use native.Mathlib.Decide.{ℕ_discrete, dec_lt}
use lib.Dec.{ltb}
use borrow.Author.Tests.{eq-eqb, ne_eqb, lt-ltb, le-ltb}
use Rattle.algebra.specs.Vectors.{Page}
use Rattle.scheme.specs.Farm.{Table, count, agree, differ, higher, top}
use Rattle.scheme.specs.Four.{except}

-- ── agreeing and differing
pub agree_same : (a b : ℕ) → a ≡ b → agree a b ≡ 1
agree_same a b e = ap (λ t. cond t 1 0) (eq-eqb a b e)

pub agree_apart : (a b : ℕ) → a ≢ b → agree a b ≡ 0
agree_apart a b d = ap (λ t. cond t 1 0) (ne_eqb a b d)

pub agree_most : (a b : ℕ) → agree a b ≤ 1
agree_most a b = elim (ℕ_discrete a b) [ yes e ↦ omega (arith, agree_same a b e) | no d ↦ omega (arith, agree_apart a b d) ]

pub differ_same : (a b : ℕ) → a ≡ b → differ a b ≡ 0
differ_same a b e = ap (λ t. cond t 0 1) (eq-eqb a b e)

pub differ_apart : (a b : ℕ) → a ≢ b → differ a b ≡ 1
differ_apart a b d = ap (λ t. cond t 0 1) (ne_eqb a b d)

-- two that differ do not both agree with a third
pub differ_third : (a b c : ℕ) → differ a b ≤ differ a c + differ b c
differ_third a b c = elim (ℕ_discrete a b) [
  | yes e ↦ omega (arith, differ_same a b e)
  | no d ↦ elim (ℕ_discrete a c) [
    | yes x ↦ omega (arith, differ_apart a b d, differ_apart b c (λ y. d (x ∙ sym y)))
    | no x ↦ omega (arith, differ_apart a b d, differ_apart a c x)
  ]
]

-- ── totals
pub count_same : (k : ℕ) (d e : ℕ → ℕ) → ((n : ℕ) → Page k n → d n ≡ e n) → count k d ≡ count k e
count_same zero d e h = refl
count_same (suc k) d e h = ap₂ ◌+◌ (count_same k d e (λ n b. h n (omega arith))) (h (suc k) (omega arith))

pub count_le : (k : ℕ) (d e : ℕ → ℕ) → ((n : ℕ) → Page k n → d n ≤ e n) → count k d ≤ count k e
count_le zero d e h = omega arith
count_le (suc k) d e h = omega (arith, count_le k d e (λ n b. h n (omega arith)), h (suc k) (omega arith))

pub count_add : (k : ℕ) (d e : ℕ → ℕ) → count k (λ n. d n + e n) ≡ count k d + count k e
count_add zero d e = omega arith
count_add (suc k) d e = let ih = count_add k d e in omega arith

count_zero : (k : ℕ) → count k (λ _. 0) ≡ 0
count_zero zero = refl
count_zero (suc k) = let ih = count_zero k in omega arith

pub count_swap : (k m : ℕ) (g : Table) → count k (λ s. count m (g s)) ≡ count m (λ n. count k (λ s. g s n))
count_swap zero m g = sym (count_zero m)
count_swap (suc k) m g = ap (λ x. x + count m (g (suc k))) (count_swap k m g) ∙ sym (count_add m (λ n. count k (λ s. g s n)) (g (suc k)))

pub count_some : (k : ℕ) (e : ℕ → ℕ) → 1 ≤ count k e → (n : ℕ) × Page k n × (1 ≤ e n)
count_some zero e h = absurd (omega arith)
count_some (suc k) e h = elim (dec_lt 0 (e (suc k))) [
  | yes y ↦ (suc k, omega arith, y)
  | no d ↦ let r = count_some k e (omega arith) in (r.0, omega (arith, r.1), r.2)
]

-- ── all but one
pub except_at : (i : ℕ) (e : ℕ → ℕ) → except i e i ≡ 0
except_at i e = ap (λ b. cond b 0 (e i)) (eq-eqb i i refl)

pub except_other : (i : ℕ) (e : ℕ → ℕ) (s : ℕ) → s ≢ i → except i e s ≡ e s
except_other i e s d = ap (λ b. cond b 0 (e s)) (ne_eqb s i d)

pub except_same : (i : ℕ) (d e : ℕ → ℕ) (s : ℕ) → (s ≢ i → d s ≡ e s) → except i d s ≡ except i e s
except_same i d e s h = elim (ℕ_discrete s i) [
  | yes is ↦ ap (except i d) is ∙ except_at i d ∙ sym (ap (except i e) is ∙ except_at i e)
  | no x ↦ except_other i d s x ∙ h x ∙ sym (except_other i e s x)
]

pub count_except : (k i : ℕ) (e : ℕ → ℕ) → Page k i → count k e ≡ e i + count k (except i e)
count_except zero i e b = absurd (omega arith)
count_except (suc k) i e b = elim (ℕ_discrete i (suc k)) [
  | yes is ↦
      omega (arith, count_same k (except i e) e (λ n c. except_other i e n (omega arith)), ap (except i e) is, except_at i e, ap e is)
  | no d ↦ omega (arith, count_except k i e (omega arith), except_other i e (suc k) (λ is. d (sym is)))
]

pub count_one : (k i : ℕ) (e : ℕ → ℕ) → Page k i → e i ≤ count k e
count_one k i e b = omega (arith, count_except k i e b)

pub count_two : (k i j : ℕ) (e : ℕ → ℕ) → Page k i → Page k j → i ≢ j → e i + e j ≤ count k e
count_two k i j e b c d = omega (arith, count_except k i e b, count_one k j (except i e) c, except_other i e j (λ is. d (sym is)))

pub count_three : (k i j s : ℕ) (e : ℕ → ℕ) → Page k i → Page k j → Page k s → i ≢ j → i ≢ s → j ≢ s → e i + e j + e s ≤ count k e
count_three k i j s e b c p ij is js =
    omega (arith, count_except k i e b, count_two k j s (except i e) c p js, except_other i e j (λ x. ij (sym x)), except_other i e s (λ x. is (sym x)))

pub count_four : (k i j s t : ℕ) (e : ℕ → ℕ) → Page k i → Page k j → Page k s → Page k t
    → i ≢ j → i ≢ s → i ≢ t → j ≢ s → j ≢ t → s ≢ t → e i + e j + e s + e t ≤ count k e
count_four k i j s t e b c p r ij is it js jt st =
    omega (
      arith,
      count_except k i e b,
      count_three k j s t (except i e) c p r js jt st,
      except_other i e j (λ x. ij (sym x)),
      except_other i e s (λ x. is (sym x)),
      except_other i e t (λ x. it (sym x)),
    )

-- ── the place of the greatest
pub higher_first : (e : ℕ → ℕ) (s t : ℕ) → e t < e s → higher e s t ≡ s
higher_first e s t l = ap (λ b. cond b s t) (lt-ltb (e t) (e s) l)

pub higher_second : (e : ℕ → ℕ) (s t : ℕ) → e s ≤ e t → higher e s t ≡ t
higher_second e s t l = ap (λ b. cond b s t) (le-ltb (e t) (e s) l)

pub top_page : (e : ℕ → ℕ) (k : ℕ) → 1 ≤ k → Page k (top e k)
top_page e zero h = absurd (omega arith)
top_page e (suc zero) h = omega (arith, higher_second e 1 1 (omega arith))
top_page e (suc (suc k)) h = elim (dec_lt (e (top e (suc k))) (e (suc (suc k)))) [
  | yes l ↦ omega (arith, higher_first e (suc (suc k)) (top e (suc k)) l)
  | no d ↦ omega (arith, higher_second e (suc (suc k)) (top e (suc k)) (omega arith), top_page e (suc k) (omega arith))
]

pub top_most : (e : ℕ → ℕ) (k s : ℕ) → Page k s → e s ≤ e (top e k)
top_most e zero s b = absurd (omega arith)
top_most e (suc k) s b = elim (ℕ_discrete s (suc k)) [
  | yes is ↦ omega (arith, up, ap e is)
  | no d ↦ omega (arith, kept, top_most e k s (omega arith))
]
  where
    up : e (suc k) ≤ e (top e (suc k))
    up = elim (dec_lt (e (top e k)) (e (suc k))) [
      | yes l ↦ omega (arith, ap e (higher_first e (suc k) (top e k) l))
      | no d ↦ omega (arith, ap e (higher_second e (suc k) (top e k) (omega arith)))
    ]

    kept : e (top e k) ≤ e (top e (suc k))
    kept = elim (dec_lt (e (top e k)) (e (suc k))) [
      | yes l ↦ omega (arith, ap e (higher_first e (suc k) (top e k) l))
      | no d ↦ omega (arith, ap e (higher_second e (suc k) (top e k) (omega arith)))
    ]

pub top_same : (d e : ℕ → ℕ) (k : ℕ) → 1 ≤ k → ((s : ℕ) → Page k s → d s ≡ e s) → top d k ≡ top e k
top_same d e zero p h = absurd (omega arith)
top_same d e (suc zero) p h = omega (arith, top_page d 1 (omega arith), top_page e 1 (omega arith))
top_same d e (suc (suc k)) p h =
    ap₂ (λ x y. cond (ltb x y) (suc (suc k)) (top d (suc k))) (h (top d (suc k)) (omega (arith, top_page d (suc k) (omega arith)))) (h (suc (suc k)) (omega arith))
    ∙ ap (higher e (suc (suc k))) (top_same d e (suc k) (omega arith) (λ s b. h s (omega arith)))
