-- Suspect pairs: they are decided, solved differences are there whatever is told, and those of the other pairs are one.
use mathlib.Core.Path.{◌≡◌, refl, sym, ap, subst, ◌∙◌}
use mathlib.Core.Bool.{Bool, true, false, cond}
use mathlib.Core.Logic.{◌⊎◌, inl, inr}
use Prim.Native.Nat.{ℕ, ◌<◌, ◌≤◌, ◌/◌}
use native.Mathlib.Omega.{arith}
use native.Mathlib.Decide.{dec_lt}
use lib.Dec.{ltb}
use borrow.Author.Tests.{lt-ltb, le-ltb}
use Rattle.field.specs.Field.{Ops}
use Rattle.algebra.specs.Vectors.{Page, weight}
use Rattle.algebra.proofs.Weights.{weight_same}
use Rattle.scheme.specs.Farm.{Table, Station}
use Rattle.scheme.specs.Pairs.{Pair, Disjoint}
use Rattle.scheme.specs.Differences.{Gaps, gap, Solution, Unsolved, Suspect, Differences}
use Rattle.scheme.specs.Theorem.{SuspectByAnswers}
use Rattle.scheme.proofs.Codes.{Lawful, solutions_one}
use Rattle.scheme.proofs.Search.{dec_and, dec_not, sure, find_pair, decide_disjoint, solvable}

-- D and G are the same on pairs that are not suspect
abbrev pub AgreeUnlessSuspect : (f : Ops) (M N h : ℕ) (T : Table) (D G : Gaps) → Type 0
AgreeUnlessSuspect f M N h T D G =
    (s t n : ℕ) → Station M s → Station M t → Page N n → (s < t → ¬ Suspect f M N h T s t) → (t < s → ¬ Suspect f M N h T t s) → D s t n ≡ G s t n

-- it is enough to know it of s < t
pub agree_by_pairs : (f : Ops) (M N h : ℕ) (T : Table) (D G : Gaps) → Differences f M N h T D
    → ((s t n : ℕ) → Pair M s t → Page N n → G t s n ≡ f.minus 0 (G s t n)) → ((s n : ℕ) → Station M s → Page N n → G s s n ≡ 0)
    → ((s t n : ℕ) → Pair M s t → Page N n → ¬ Suspect f M N h T s t → D s t n ≡ G s t n) → AgreeUnlessSuspect f M N h T D G
agree_by_pairs f M N h T D G d turned same pairs s t n a b p x y = elim (dec_lt s t) [
  | yes l ↦ pairs s t n (omega arith) p (x l)
  | no g ↦ elim (dec_lt t s) [
    | yes l ↦ d.turned t s n (omega arith) p ∙ ap (f.minus 0) (pairs t s n (omega arith) p (y l)) ∙ sym (turned t s n (omega arith) p)
    | no k ↦ let is : s ≡ t = omega arith in ap (λ u. D u t n) is ∙ d.same t n b p ∙ sym (ap (λ u. G u t n) is ∙ same t n b p)
  ]
]

module _ {f : Ops} {N : ℕ} (F : Lawful f N) (h : ℕ) (T : Table) where
  pub one_solution : (s t : ℕ) (d e : ℕ → ℕ) → Solution f N h T s t d → Solution f N h T s t e → (n : ℕ) → Page N n → d n ≡ e n
  one_solution s t d e x y = solutions_one F (h / 2) (h / 2) h (gap f T s t) d e x y (inl (omega (arith, x.light, y.light)))

  pub one_weight : (s t : ℕ) (d e : ℕ → ℕ) → Solution f N h T s t d → Solution f N h T s t e → weight N d ≡ weight N e
  one_weight s t d e x y = weight_same N d e (one_solution s t d e x y)

  pub solved : (s t : ℕ) → Dec ((e : ℕ → ℕ) × Solution f N h T s t e)
  solved s t = solvable f N (h / 2) h (gap f T s t)

  module _ (M : ℕ) where
    abbrev Lighter : ℕ → ℕ → ℕ → Type 0
    Lighter w u v = (d : ℕ → ℕ) × Solution f N h T u v d × (weight N d < w)

    lighter : (w u v : ℕ) → Dec (Lighter w u v)
    lighter w u v = elim (solved u v) [
      | no none ↦ no (λ r. none (r.0, r.1))
      | yes r ↦ elim (dec_lt (weight N r.0) w) [
        | yes y ↦ yes (r.0, r.1, y)
        | no y ↦ no (λ q. y (omega (arith, q.2, one_weight u v r.0 q.0 r.1 q.1)))
      ]
    ]

    pub suspect : (s t : ℕ) → Dec (Suspect f M N h T s t)
    suspect s t = elim (solved s t) [
      | no none ↦ yes (inl (λ e x. none (e, x)))
      | yes r ↦ elim (find_pair M (λ u v. Disjoint s t u v × (¬ Lighter (weight N r.0) u v))
          (λ u v p. dec_and (decide_disjoint s t u v) (dec_not (lighter (weight N r.0) u v)))) [
            | no none ↦ yes (inr (r.0, r.1, λ u v p d. sure (lighter (weight N r.0) u v) (λ k. none (u, v, p, (d, k)))))
            | yes q ↦ no (λ x. elim x [
              | inl none ↦ none r.0 r.1
              | inr y ↦
                  let d = y.2 q.0 q.1 q.2 q.3.0 in
                  q.3.1 (d.0, d.1, omega (arith, d.2, one_weight s t y.0 r.0 y.1 r.1))
            ])
          ]
    ]

    -- ── differences
    abbrev solution : (s t : ℕ) → Dec ((e : ℕ → ℕ) × Solution f N h T s t e) → ℕ → ℕ
    solution s t (yes r) = r.0
    solution s t (no none) = λ _. 0

    abbrev pub differences : Gaps
    differences s t =
        cond (ltb s t) (solution s t (solved s t)) (cond (ltb t s) (λ n. f.minus 0 (solution t s (solved t s) n)) (λ _. 0))

    up : (s t : ℕ) → s < t → differences s t ≡ solution s t (solved s t)
    up s t k = ap (λ b. cond b (solution s t (solved s t)) (cond (ltb t s) (λ n. f.minus 0 (solution t s (solved t s) n)) (λ _. 0))) (lt-ltb s t k)

    down : (s t : ℕ) → t ≤ s → differences s t ≡ cond (ltb t s) (λ n. f.minus 0 (solution t s (solved t s) n)) (λ _. 0)
    down s t k = ap (λ b. cond b (solution s t (solved s t)) (cond (ltb t s) (λ n. f.minus 0 (solution t s (solved t s) n)) (λ _. 0))) (le-ltb s t k)

    pub differences_are : Differences f M N h T differences
    differences_are = record {
      pairs = λ s t p. is s t p (solved s t) (up s t p.1);
      turned = λ s t n p b.
          ap (λ e. e n) (down t s (omega arith) ∙ ap (λ b. cond b (λ n. f.minus 0 (solution s t (solved s t) n)) (λ _. 0)) (lt-ltb s t p.1))
          ∙ sym (ap (λ e. f.minus 0 (e n)) (up s t p.1));
      same = λ s n a b. ap (λ e. e n) (down s s (omega arith) ∙ ap (λ b. cond b (λ n. f.minus 0 (solution s s (solved s s) n)) (λ _. 0)) (le-ltb s s (omega arith)));
    }
      where
        is : (s t : ℕ) → Pair M s t → (x : Dec ((e : ℕ → ℕ) × Solution f N h T s t e)) → differences s t ≡ solution s t x
            → Solution f N h T s t (differences s t) ⊎ Unsolved f N h T s t
        is s t p (yes r) e = inl (subst (Solution f N h T s t) (sym e) r.1)
        is s t p (no none) e = inr (λ d x. none (d, x))

    pub differences_agree : (D G : Gaps) → Differences f M N h T D → Differences f M N h T G → AgreeUnlessSuspect f M N h T D G
    differences_agree D G d g = agree_by_pairs f M N h T D G d g.turned g.same (λ s t n p b k. pair s t n b k (d.pairs s t p) (g.pairs s t p))
      where
        pair : (s t n : ℕ) → Page N n → ¬ Suspect f M N h T s t → Solution f N h T s t (D s t) ⊎ Unsolved f N h T s t
            → Solution f N h T s t (G s t) ⊎ Unsolved f N h T s t → D s t n ≡ G s t n
        pair s t n b k (inl x) (inl y) = one_solution s t (D s t) (G s t) x y n b
        pair s t n b k (inr none) _ = absurd (k (inl none))
        pair s t n b k (inl x) (inr none) = absurd (k (inl none))

pub suspect_by_answers : SuspectByAnswers
suspect_by_answers f l spread M N h le T none D answers s t p = (there (none s t) refl, back)
  where
    F : Lawful f N
    F = record { laws = l; spread = spread; places = le }

    By : Type 0
    By = (none s t ≡ true) ⊎ ((none s t ≡ false) × ((u v : ℕ) → Pair M u v → Disjoint s t u v → (none u v ≡ false) × (weight N (D u v) < weight N (D s t))))

    pair : (u v : ℕ) → Pair M u v → (w : ℕ) → (d : ℕ → ℕ) → Solution f N h T u v d → weight N d < w → (b : Bool) → none u v ≡ b
        → (none u v ≡ false) × (weight N (D u v) < w)
    pair u v c w d x k true e = absurd ((answers u v c).0 e d x)
    pair u v c w d x k false e = (e, omega (arith, k, one_weight F h T u v d (D u v) x ((answers u v c).1 e)))

    there : (b : Bool) → none s t ≡ b → Suspect f M N h T s t → By
    there true e x = inl e
    there false e (inl unsolved) = absurd (unsolved (D s t) ((answers s t p).1 e))
    there false e (inr x) = inr (
      e,
      λ u v c d.
          let r = x.2 u v c d in
          pair u v c _ r.0 r.1 (omega (arith, r.2, one_weight F h T s t x.0 (D s t) x.1 ((answers s t p).1 e))) (none u v) refl,
    )

    back : By → Suspect f M N h T s t
    back (inl e) = inl ((answers s t p).0 e)
    back (inr x) = inr (D s t, (answers s t p).1 x.0, λ u v c d. let r = x.1 u v c d in (D u v, (answers u v c).1 r.0, r.1))
