-- The shape of a family of pairs without two disjoint ones, from its first pair and from pairs without one of that pair's stations.
use Rattle.std.proofs.Common.{◌≡◌, ℕ, ◌<◌, ◌≤◌, Some, sym, ◌∙◌, subst, subst₂, inl, inr, arith}
use native.Mathlib.Decide.{ℕ_discrete, dec_lt}
use Rattle.scheme.specs.Farm.{Lowest}
use Rattle.scheme.specs.Pairs.{Pair, Empty, TwoApart, Triangle, InAll}
use Rattle.scheme.proofs.Pairs.{shape, triangle_pairs, among_true}
use Rattle.pairs.specs.Seeking.{Before}
use Rattle.pairs.specs.Searching.{Apart, FirstApart}
use Rattle.pairs.specs.Doubts.{Outside}

module _ {M : ℕ} {Ω : ℕ → ℕ → Type 0} where
  in_all : (i : ℕ) → ((u v : ℕ) → Pair M u v → ¬ Apart M Ω i i u v) → InAll M Ω i
  in_all i none u v p o = elim (ℕ_discrete i u) [
    | yes e ↦ inl e
    | no a ↦ elim (ℕ_discrete i v) [ yes e ↦ inr e | no b ↦ absurd (none u v p ((a, b, a, b), o)) ]
  ]

  -- ── through the first pair's lower or higher station
  pub through_lower : (s t : ℕ) → Pair M s t → Ω s t → ((u v : ℕ) → Pair M u v → ¬ Apart M Ω s s u v) → (¬ Empty M Ω) × Lowest M (InAll M Ω) s
  through_lower s t p o none = ((λ empty. empty s t p o), (omega arith, in_all s none, λ m lo lt all. omega (arith, all s t p o)))

  pub through_higher : (s t c d : ℕ) → Pair M s t → Ω s t → Pair M c d → Apart M Ω s s c d → ((u v : ℕ) → Pair M u v → ¬ Apart M Ω t t u v)
      → (¬ Empty M Ω) × Lowest M (InAll M Ω) t
  through_higher s t c d p o r q none = (
    (λ empty. empty s t p o),
    (omega arith, in_all t none, λ m lo lt all. omega (arith, all s t p o, all c d r q.1, q.0.0, q.0.1)),
  )

  -- ── the triangle
  module _ (few : M ≤ 8) (dec : (s t : ℕ) → Pair M s t → Dec (Ω s t)) (meeting : ¬ TwoApart M Ω) where
    is_triangle : (s t c d e g : ℕ) → FirstApart M Ω 0 0 (Some (s, t)) → Pair M c d → Apart M Ω s s c d → Pair M e g → Apart M Ω t t e g → Triangle M Ω s t d
    is_triangle s t c d e g first a q b r = elim (shape dec meeting) [
      | inl none ↦ absurd (none s t first.0 first.1.1)
      | inr k ↦ elim k [
        | inl x ↦ at x.0 x.1 x.2 x.3
        | inr x ↦ absurd (star x.1.0 x.1.1.1)
      ]
    ]
      where
        star : (i : ℕ) → ¬ InAll M Ω i
        star i all = elim (all s t first.0 first.1.1) [
          | inl k ↦ elim (all c d a q.1) [ inl h ↦ q.0.0 (sym k ∙ h) | inr h ↦ q.0.1 (sym k ∙ h) ]
          | inr k ↦ elim (all e g b r.1) [ inl h ↦ r.0.0 (sym k ∙ h) | inr h ↦ r.0.1 (sym k ∙ h) ]
        ]

        at : (x y z : ℕ) → Triangle M Ω x y z → Triangle M Ω s t d
        at x y z tri = subst (Triangle M Ω s t) (sym is.2) (subst₂ (λ a b. Triangle M Ω a b z) (sym is.0) (sym is.1) tri)
          where
            p : Pair M s t
            p = first.0

            xy : Pair M x y
            xy = (tri.0, tri.1, omega (arith, tri.2, tri.3))

            ge : ¬ Before x y s t
            ge before = first.2 x y xy before ((omega (arith, tri.0, tri.1)), (triangle_pairs x y z tri).0)

            low : s ≤ x
            low = elim (dec_lt x s) [ no n ↦ omega arith | yes lt ↦ absurd (ge (inl lt)) ]

            high : s ≡ x → t ≤ y
            high e = elim (dec_lt y t) [ no n ↦ omega arith | yes lt ↦ absurd (ge (inr (sym e, lt))) ]

            is : (s ≡ x) × (t ≡ y) × (d ≡ z)
            is =
                let st = (tri.4 s t p).0 first.1.1 in
                let cd = (tri.4 c d a).0 q.1 in
                let os = among_true x y z s st.0 in
                let ot = among_true x y z t st.1 in
                let oc = among_true x y z c cd.0 in
                let od = among_true x y z d cd.1 in
                let b = tri.1 in let h = tri.2 in let l = tri.3 in let n = q.0 in
                let ex : s ≡ x = omega (arith, low, p) in
                let ey : t ≡ y = omega (arith, high ex, p) in
                (ex, ey, omega (arith, a, n.0, n.1))

    pub triangle_shape : (s t c d e g r : ℕ) → FirstApart M Ω 0 0 (Some (s, t)) → Pair M c d → Apart M Ω s s c d → Pair M e g → Apart M Ω t t e g
        → (1 ≤ s → s < t → t < d → Outside 4 s t d r) → Triangle M Ω s t d × (4 ≤ M → Outside M s t d r)
    triangle_shape s t c d e g r first a q b k out =
        let tri = is_triangle s t c d e g first a q b k in
        let o = out tri.0 tri.1 tri.2 in
        (tri, λ four. (omega (arith, o.0), o.1, o.2))
