-- Finite searches: numbers, pairs of stations, and vectors of codes; so whether there is a solution is decided.
use mathlib.Core.Path.{◌≡◌, sym, ap, ◌∙◌}
use mathlib.Core.Bool.{cond}
use mathlib.Core.Logic.{◌≢◌, ◌⊎◌, inl, inr}
use Prim.Native.Nat.{ℕ, zero, suc, ◌≤◌, ◌-◌}
use native.Mathlib.Omega.{arith}
use native.Mathlib.Decide.{ℕ_discrete, dec_le}
use lib.Dec.{eqb}
use borrow.Author.Tests.{eq-eqb, ne_eqb}
use Rattle.field.specs.Field.{Ops}
use Rattle.field.specs.Sums.{power_sum}
use Rattle.algebra.specs.Vectors.{Page, Codes, weight, Solves}
use Rattle.algebra.proofs.Weights.{weight_same}
use Rattle.scheme.specs.Farm.{Lowest}
use Rattle.scheme.specs.Pairs.{Pair, Disjoint}
use Rattle.scheme.proofs.Codes.{power_sum_same}

pub dec_and : {A B : Type 0} → Dec A → Dec B → Dec (A × B)
dec_and (no a) _ = no (λ r. a r.0)
dec_and (yes a) (no b) = no (λ r. b r.1)
dec_and (yes a) (yes b) = yes (a, b)

pub dec_not : {A : Type 0} → Dec A → Dec (¬ A)
dec_not (yes a) = no (λ k. k a)
dec_not (no a) = yes a

pub sure : {A : Type 0} → Dec A → ¬ ¬ A → A
sure (yes a) h = a
sure (no a) h = absurd (h a)

-- ── numbers from 1 to k
pub lowest : (k : ℕ) (Q : ℕ → Type 0) → ((n : ℕ) → Page k n → Dec (Q n)) → ((n : ℕ) × Lowest k Q n) ⊎ ((n : ℕ) → Page k n → ¬ Q n)
lowest zero Q dec = inr (λ n b. absurd (omega arith))
lowest (suc k) Q dec = elim (lowest k Q (λ n b. dec n (omega arith))) [
  | inl r ↦ inl (r.0, (omega (arith, r.1.0), r.1.1, r.1.2))
  | inr none ↦ elim (dec (suc k) (omega arith)) [
    | yes y ↦ inl (suc k, (omega arith, y, λ m a b. none m (omega arith)))
    | no d ↦ inr (λ n b. elim (ℕ_discrete n (suc k)) [ yes e ↦ λ x. d (rw e at x) | no c ↦ none n (omega arith) ])
  ]
]

pub find : (k : ℕ) (Q : ℕ → Type 0) → ((n : ℕ) → Page k n → Dec (Q n)) → Dec ((n : ℕ) × Page k n × Q n)
find k Q dec = elim (lowest k Q dec) [ inl r ↦ yes (r.0, r.1.0, r.1.1) | inr none ↦ no (λ r. none r.0 r.1 r.2) ]

pub all : (k : ℕ) (Q : ℕ → Type 0) → ((n : ℕ) → Page k n → Dec (Q n)) → Dec ((n : ℕ) → Page k n → Q n)
all k Q dec = elim (lowest k (λ n. ¬ Q n) (λ n b. dec_not (dec n b))) [
  | inl r ↦ no (λ h. r.1.1 (h r.0 r.1.0))
  | inr none ↦ yes (λ n b. sure (dec n b) (none n b))
]

-- the lowest is one
pub lowest_one : (k : ℕ) (Q R : ℕ → Type 0) (m n : ℕ) → ((s : ℕ) → Page k s → Q s → R s) → ((s : ℕ) → Page k s → R s → Q s) → Lowest k Q m
    → Lowest k R n → m ≡ n
lowest_one k Q R m n there back x y =
    let a = x.0 in let b = y.0 in
    elim (dec_le m n) [
      | no h ↦ absurd (x.2 n (omega arith) (omega arith) (back n b y.1))
      | yes h ↦ elim (dec_le n m) [ no g ↦ absurd (y.2 m (omega arith) (omega arith) (there m a x.1)) | yes g ↦ omega arith ]
    ]

-- ── pairs
pub find_pair : (M : ℕ) (Q : ℕ → ℕ → Type 0) → ((s t : ℕ) → Pair M s t → Dec (Q s t)) → Dec ((s : ℕ) × (t : ℕ) × Pair M s t × Q s t)
find_pair M Q dec = elim (find M (λ t. (s : ℕ) × Page (t - 1) s × Q s t) (λ t b. find (t - 1) (λ s. Q s t) (λ s c. dec s t (omega arith)))) [
  | yes r ↦ let s = r.2 in yes (s.0, r.0, omega (arith, r.1, s.1), s.2)
  | no none ↦ no (λ r. let p = r.2 in none (r.1, omega arith, (r.0, omega arith, r.3)))
]

pub decide_disjoint : (s t u v : ℕ) → Dec (Disjoint s t u v)
decide_disjoint s t u v = go (ℕ_discrete s u) (ℕ_discrete s v) (ℕ_discrete t u) (ℕ_discrete t v)
  where
    go : Dec (s ≡ u) → Dec (s ≡ v) → Dec (t ≡ u) → Dec (t ≡ v) → Dec (Disjoint s t u v)
    go (yes e) _ _ _ = no (λ d. d.0 e)
    go (no a) (yes e) _ _ = no (λ d. d.1 e)
    go (no a) (no b) (yes e) _ = no (λ d. d.2 e)
    go (no a) (no b) (no c) (yes e) = no (λ d. d.3 e)
    go (no a) (no b) (no c) (no d) = yes (a, b, c, d)

-- ── vectors
-- e with v on page k
abbrev put : ℕ → ℕ → (ℕ → ℕ) → ℕ → ℕ
put k v e n = cond (eqb n k) v (e n)

put_at : (k v : ℕ) (e : ℕ → ℕ) (n : ℕ) → n ≡ k → put k v e n ≡ v
put_at k v e n is = ap (λ b. cond b v (e n)) (eq-eqb n k is)

put_other : (k v : ℕ) (e : ℕ → ℕ) (n : ℕ) → n ≢ k → put k v e n ≡ e n
put_other k v e n d = ap (λ b. cond b v (e n)) (ne_eqb n k d)

find_vector : (f : Ops) (N : ℕ) (Q : (ℕ → ℕ) → Type 0) → ((d e : ℕ → ℕ) → ((n : ℕ) → Page N n → d n ≡ e n) → Q d → Q e) → ((e : ℕ → ℕ) → Dec (Q e))
    → Dec ((e : ℕ → ℕ) × Codes f N e × Q e)
find_vector f zero Q same dec = elim (dec (λ _. 0)) [
  | yes y ↦ yes ((λ _. 0), (λ n b. absurd (omega arith)), y)
  | no k ↦ no (λ r. k (same r.0 (λ _. 0) (λ n b. absurd (omega arith)) r.2))
]
find_vector f (suc N) Q same dec = elim (find f.size (λ v. (e : ℕ → ℕ) × Codes f N e × Q (put (suc N) (v - 1) e))
    (λ v b. find_vector f N (λ e. Q (put (suc N) (v - 1) e)) (kept v) (λ e. dec (put (suc N) (v - 1) e)))) [
      | yes r ↦ let s = r.2 in yes (put (suc N) (r.0 - 1) s.0, code r.0 s.0 r.1 s.1, s.2)
      | no none ↦ no (λ r.
          let e = r.0 in
          let q = same e (put (suc N) (suc (e (suc N)) - 1) e) (λ n b. sym (back e n)) r.2 in
          none (suc (e (suc N)), omega (arith, r.1 (suc N) (omega arith)), (e, (λ n b. r.1 n (omega arith)), q)))
    ]
  where
    kept : (v : ℕ) (d e : ℕ → ℕ) → ((n : ℕ) → Page N n → d n ≡ e n) → Q (put (suc N) (v - 1) d) → Q (put (suc N) (v - 1) e)
    kept v d e h = same (put (suc N) (v - 1) d) (put (suc N) (v - 1) e) (λ n c. elim (ℕ_discrete n (suc N)) [
      | yes is ↦ put_at (suc N) (v - 1) d n is ∙ sym (put_at (suc N) (v - 1) e n is)
      | no x ↦ put_other (suc N) (v - 1) d n x ∙ h n (omega arith) ∙ sym (put_other (suc N) (v - 1) e n x)
    ])

    code : (v : ℕ) (e : ℕ → ℕ) → Page f.size v → Codes f N e → Codes f (suc N) (put (suc N) (v - 1) e)
    code v e b small n c = elim (ℕ_discrete n (suc N)) [
      | yes is ↦ omega (arith, put_at (suc N) (v - 1) e n is)
      | no x ↦ omega (arith, put_other (suc N) (v - 1) e n x, small n (omega arith))
    ]

    back : (e : ℕ → ℕ) (n : ℕ) → put (suc N) (suc (e (suc N)) - 1) e n ≡ e n
    back e n = elim (ℕ_discrete n (suc N)) [
      | yes is ↦ put_at (suc N) _ e n is ∙ omega (arith, ap e is)
      | no x ↦ put_other (suc N) _ e n x
    ]

module _ (f : Ops) (N t J : ℕ) (s : ℕ → ℕ) where
  -- light, and with the sums s
  abbrev LightWithSums : (ℕ → ℕ) → Type 0
  LightWithSums e = (weight N e ≤ t) × ((j : ℕ) → Page J j → power_sum f N e j ≡ s j)

  -- whatever the sums, there is a solution or there is none
  pub solvable : Dec ((e : ℕ → ℕ) × Solves f N t J s e)
  solvable = elim (find_vector f N LightWithSums same dec) [
    | yes r ↦ yes (r.0, record { codes = r.1; light = r.2.0; sums = r.2.1 })
    | no none ↦ no (λ r. none (r.0, r.1.codes, (r.1.light, r.1.sums)))
  ]
    where
      same : (d e : ℕ → ℕ) → ((n : ℕ) → Page N n → d n ≡ e n) → LightWithSums d → LightWithSums e
      same d e h r = (omega (arith, r.0, weight_same N d e h), λ j b. sym (power_sum_same f N d e h j) ∙ r.1 j b)

      dec : (e : ℕ → ℕ) → Dec (LightWithSums e)
      dec e = dec_and (dec_le (weight N e) t) (all J (λ j. power_sum f N e j ≡ s j) (λ j b. ℕ_discrete (power_sum f N e j) (s j)))
