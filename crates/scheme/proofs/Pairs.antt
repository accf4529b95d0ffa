-- Families of pairs without two disjoint ones: empty, a triangle, or through one station; and only one of the three.
use mathlib.Core.Path.{◌≡◌, refl, sym, subst₂}
use mathlib.Core.Bool.{Bool, true, false, ◌||◌}
use mathlib.Core.Logic.{◌≢◌, ◌⊎◌, inl, inr}
use Prim.Native.Nat.{ℕ, ◌<◌, ◌≤◌}
use native.Mathlib.Omega.{arith}
use native.Mathlib.Decide.{ℕ_discrete}
use lib.Dec.{eqb}
use borrow.Author.Tests.{eqb-true, eqb-false, both_ways}
use Rattle.scheme.specs.Farm.{Station, Lowest}
use Rattle.scheme.specs.Pairs.{Pair, Disjoint, among, Empty, TwoApart, Triangle, InAll}
use Rattle.scheme.proofs.Search.{dec_and, dec_not, lowest, find_pair, decide_disjoint}

-- ── one of three
pub among_true : (x y z s : ℕ) → among x y z s ≡ true → (s ≡ x) ⊎ ((s ≡ y) ⊎ (s ≡ z))
among_true x y z s = go (eqb s x) (eqb s y) (eqb s z) refl refl refl
  where
    go : (a b c : Bool) → eqb s x ≡ a → eqb s y ≡ b → eqb s z ≡ c → (a || (b || c)) ≡ true → (s ≡ x) ⊎ ((s ≡ y) ⊎ (s ≡ z))
    go true b c p q r h = inl (eqb-true s x p)
    go false true c p q r h = inr (inl (eqb-true s y q))
    go false false true p q r h = inr (inr (eqb-true s z r))
    go false false false p q r h = absurd (both_ways false refl h)

pub among_false : (x y z s : ℕ) → among x y z s ≡ false → (s ≢ x) × (s ≢ y) × (s ≢ z)
among_false x y z s = go (eqb s x) (eqb s y) (eqb s z) refl refl refl
  where
    go : (a b c : Bool) → eqb s x ≡ a → eqb s y ≡ b → eqb s z ≡ c → (a || (b || c)) ≡ false → (s ≢ x) × (s ≢ y) × (s ≢ z)
    go true b c p q r h = absurd (both_ways true h refl)
    go false true c p q r h = absurd (both_ways true h refl)
    go false false true p q r h = absurd (both_ways true h refl)
    go false false false p q r h = (eqb-false s x p, eqb-false s y q, eqb-false s z r)

pub decide_bool : (b : Bool) → (b ≡ true) ⊎ (b ≡ false)
decide_bool true = inl refl
decide_bool false = inr refl

pub among_of : (x y z s : ℕ) → (s ≡ x) ⊎ ((s ≡ y) ⊎ (s ≡ z)) → among x y z s ≡ true
among_of x y z s h = elim (decide_bool (among x y z s)) [
  | inl e ↦ e
  | inr e ↦ let d = among_false x y z s e in absurd (elim h [ inl p ↦ d.0 p | inr k ↦ elim k [ inl p ↦ d.1 p | inr p ↦ d.2 p ] ])
]

module _ {M : ℕ} {Ω : ℕ → ℕ → Type 0} where
  -- ── what a triangle has
  pub triangle_pairs : (x y z : ℕ) → Triangle M Ω x y z → Ω x y × Ω x z × Ω y z
  triangle_pairs x y z t =
      let h = t.1 in let k = t.2 in let l = t.0 in let m = t.3 in (
        (t.4 x y (omega arith)).1 (among_of x y z x (inl refl), among_of x y z y (inr (inl refl))),
        (t.4 x z (omega arith)).1 (among_of x y z x (inl refl), among_of x y z z (inr (inr refl))),
        (t.4 y z (omega arith)).1 (among_of x y z y (inr (inl refl)), among_of x y z z (inr (inr refl))),
      )

  pub triangle_some : (x y z : ℕ) → Triangle M Ω x y z → ¬ Empty M Ω
  triangle_some x y z t none = none x y (omega (arith, t.0, t.1, t.2, t.3)) (triangle_pairs x y z t).0

  pub triangle_through : (x y z i : ℕ) → Triangle M Ω x y z → ¬ InAll M Ω i
  triangle_through x y z i t all =
      let o = triangle_pairs x y z t in
      let h = t.1 in let k = t.2 in let l = t.0 in let m = t.3 in
      omega (arith, all x y (omega arith) o.0, all x z (omega arith) o.1, all y z (omega arith) o.2)

  pub triangle_one : (x y z u v w : ℕ) → Triangle M Ω x y z → Triangle M Ω u v w → (x ≡ u) × (y ≡ v) × (z ≡ w)
  triangle_one x y z u v w t r =
      let o = triangle_pairs x y z t in
      let h = t.1 in let k = t.2 in let l = t.0 in let m = t.3 in let g = r.1 in let j = r.2 in
      let xy = (r.4 x y (omega arith)).0 o.0 in
      let yz = (r.4 y z (omega arith)).0 o.2 in
      let a = among_true u v w x xy.0 in
      let b = among_true u v w y xy.1 in
      let c = among_true u v w z yz.1 in
      (omega arith, omega arith, omega arith)

  -- ── which of the three
  module _ (dec : (s t : ℕ) → Pair M s t → Dec (Ω s t)) where
    pub two_apart : Dec (TwoApart M Ω)
    two_apart = elim (find_pair M Crossed (λ s t p. dec_and (dec s t p) (other s t))) [
      | yes r ↦
          let x = r.3.1 in
          yes (record { s = r.0; t = r.1; u = x.0; v = x.1; one = (r.2, r.3.0); other = (x.2, x.3.1); disjoint = x.3.0 })
      | no none ↦ no (λ x. none (x.s, x.t, x.one.0, (x.one.1, (x.u, x.v, x.other.0, (x.disjoint, x.other.1)))))
    ]
      where
        Crossed : ℕ → ℕ → Type 0
        Crossed s t = Ω s t × ((u : ℕ) × (v : ℕ) × Pair M u v × (Disjoint s t u v × Ω u v))

        other : (s t : ℕ) → Dec ((u : ℕ) × (v : ℕ) × Pair M u v × (Disjoint s t u v × Ω u v))
        other s t = find_pair M (λ u v. Disjoint s t u v × Ω u v) (λ u v q. dec_and (decide_disjoint s t u v) (dec u v q))

    -- a pair without i, or i is in all
    without : (i : ℕ) → ((s : ℕ) × (t : ℕ) × Pair M s t × (Ω s t × ((i ≢ s) × (i ≢ t)))) ⊎ InAll M Ω i
    without i = elim (find_pair M (λ s t. Ω s t × ((i ≢ s) × (i ≢ t))) decide) [
      | yes r ↦ inl r
      | no none ↦ inr (λ s t p o. elim (ℕ_discrete i s) [
        | yes e ↦ inl e
        | no a ↦ elim (ℕ_discrete i t) [ yes e ↦ inr e | no b ↦ absurd (none (s, t, p, (o, (a, b)))) ]
      ])
    ]
      where
        decide : (s t : ℕ) → Pair M s t → Dec (Ω s t × ((i ≢ s) × (i ≢ t)))
        decide s t p = dec_and (dec s t p) (dec_and (dec_not (ℕ_discrete i s)) (dec_not (ℕ_discrete i t)))

    pub in_all : (i : ℕ) → Dec (InAll M Ω i)
    in_all i = elim (without i) [
      | inr all ↦ yes all
      | inl r ↦ no (λ all. elim (all r.0 r.1 r.2 r.3.0) [ inl e ↦ r.3.1.0 e | inr e ↦ r.3.1.1 e ])
    ]

    module _ (cross : ¬ TwoApart M Ω) where
      meet : (a b c d : ℕ) → Pair M a b → Pair M c d → Ω a b → Ω c d → ((a ≡ c) ⊎ (a ≡ d)) ⊎ ((b ≡ c) ⊎ (b ≡ d))
      meet a b c d p r x y = go (ℕ_discrete a c) (ℕ_discrete a d) (ℕ_discrete b c) (ℕ_discrete b d)
        where
          go : Dec (a ≡ c) → Dec (a ≡ d) → Dec (b ≡ c) → Dec (b ≡ d) → ((a ≡ c) ⊎ (a ≡ d)) ⊎ ((b ≡ c) ⊎ (b ≡ d))
          go (yes e) _ _ _ = inl (inl e)
          go (no _) (yes e) _ _ = inl (inr e)
          go (no _) (no _) (yes e) _ = inr (inl e)
          go (no _) (no _) (no _) (yes e) = inr (inr e)
          go (no i) (no j) (no k) (no h) = absurd (cross (record { s = a; t = b; u = c; v = d; one = (p, x); other = (r, y); disjoint = (i, j, k, h) }))

      -- a pair that meets each of the three pairs of x < y < z is one of them
      triangle : (x y z : ℕ) → 1 ≤ x → x < y → y < z → z ≤ M → Ω x y → Ω x z → Ω y z → Triangle M Ω x y z
      triangle x y z a b c d xy xz yz = (a, b, c, d, λ s t p. (inside s t p, back s t p))
        where
          inside : (s t : ℕ) → Pair M s t → Ω s t → (among x y z s ≡ true) × (among x y z t ≡ true)
          inside s t p o =
              let k = meet x y s t (omega arith) p xy o in
              let l = meet x z s t (omega arith) p xz o in
              let m = meet y z s t (omega arith) p yz o in (
                elim (decide_bool (among x y z s)) [ inl e ↦ e | inr e ↦ let n = among_false x y z s e in absurd (omega arith) ],
                elim (decide_bool (among x y z t)) [ inl e ↦ e | inr e ↦ let n = among_false x y z t e in absurd (omega arith) ],
              )

          back : (s t : ℕ) → Pair M s t → (among x y z s ≡ true) × (among x y z t ≡ true) → Ω s t
          back s t p h = pick (among_true x y z s h.0) (among_true x y z t h.1)
            where
              pick : (s ≡ x) ⊎ ((s ≡ y) ⊎ (s ≡ z)) → (t ≡ x) ⊎ ((t ≡ y) ⊎ (t ≡ z)) → Ω s t
              pick (inl e) (inl g) = absurd (omega arith)
              pick (inl e) (inr (inl g)) = subst₂ Ω (sym e) (sym g) xy
              pick (inl e) (inr (inr g)) = subst₂ Ω (sym e) (sym g) xz
              pick (inr (inl e)) (inl g) = absurd (omega arith)
              pick (inr (inl e)) (inr (inl g)) = absurd (omega arith)
              pick (inr (inl e)) (inr (inr g)) = subst₂ Ω (sym e) (sym g) yz
              pick (inr (inr e)) (inl g) = absurd (omega arith)
              pick (inr (inr e)) (inr (inl g)) = absurd (omega arith)
              pick (inr (inr e)) (inr (inr g)) = absurd (omega arith)

      abbrev pub SomeTriangle : Type 0
      SomeTriangle = (x : ℕ) × (y : ℕ) × (z : ℕ) × Triangle M Ω x y z

      -- a pair of a < b, one without a, and one without b
      three : (a b c d e g : ℕ) → Pair M a b → Pair M c d → Pair M e g → Ω a b → Ω c d → Ω e g → (a ≢ c) × (a ≢ d) → (b ≢ e) × (b ≢ g) → SomeTriangle
      three a b c d e g p r t x y z na nb = pick (ℕ_discrete b c) (ℕ_discrete a e)
        where
          k : ((a ≡ c) ⊎ (a ≡ d)) ⊎ ((b ≡ c) ⊎ (b ≡ d))
          k = meet a b c d p r x y

          h : ((a ≡ e) ⊎ (a ≡ g)) ⊎ ((b ≡ e) ⊎ (b ≡ g))
          h = meet a b e g p t x z

          m : ((c ≡ e) ⊎ (c ≡ g)) ⊎ ((d ≡ e) ⊎ (d ≡ g))
          m = meet c d e g r t y z

          pick : Dec (b ≡ c) → Dec (a ≡ e) → SomeTriangle
          pick (yes bc) (yes ae) =
              let ad : g ≡ d = omega (arith, k, h, m) in
              (a, b, d, triangle a b d (omega arith) (omega arith) (omega arith) (omega arith) x (subst₂ Ω (sym ae) ad z) (subst₂ Ω (sym bc) refl y))
          pick (yes bc) (no ae) = absurd (omega (arith, k, h, m))
          pick (no bc) (yes ae) =
              let ac : g ≡ c = omega (arith, k, h, m) in
              let bd : d ≡ b = omega (arith, k, h, m) in
              (a, c, b, triangle a c b (omega arith) (omega arith) (omega arith) (omega arith) (subst₂ Ω (sym ae) ac z) x (subst₂ Ω refl bd y))
          pick (no bc) (no ae) =
              let ec : e ≡ c = omega (arith, k, h, m) in
              let ga : g ≡ a = omega (arith, k, h, m) in
              let bd : d ≡ b = omega (arith, k, h, m) in
              (c, a, b, triangle c a b (omega arith) (omega arith) (omega arith) (omega arith) (subst₂ Ω ec ga z) (subst₂ Ω refl bd y) x)

      pub shape : Empty M Ω ⊎ (SomeTriangle ⊎ ((¬ Empty M Ω) × ((i : ℕ) × Lowest M (InAll M Ω) i)))
      shape = elim (find_pair M Ω dec) [
        | no none ↦ inl (λ s t p o. none (s, t, p, o))
        | yes r ↦ inr (from r.0 r.1 r.2 r.3 (without r.0) (without r.1))
      ]
        where
          through : (i s t : ℕ) → Station M i → InAll M Ω i → Pair M s t → Ω s t → SomeTriangle ⊎ ((¬ Empty M Ω) × ((i : ℕ) × Lowest M (InAll M Ω) i))
          through i s t b all p o = elim (lowest M (InAll M Ω) (λ k _. in_all k)) [
            | inl r ↦ inr ((λ none. none s t p o), r)
            | inr none ↦ absurd (none i b all)
          ]

          from : (a b : ℕ) → Pair M a b → Ω a b
              → ((s : ℕ) × (t : ℕ) × Pair M s t × (Ω s t × ((a ≢ s) × (a ≢ t)))) ⊎ InAll M Ω a
              → ((s : ℕ) × (t : ℕ) × Pair M s t × (Ω s t × ((b ≢ s) × (b ≢ t)))) ⊎ InAll M Ω b
              → SomeTriangle ⊎ ((¬ Empty M Ω) × ((i : ℕ) × Lowest M (InAll M Ω) i))
          from a b p o (inr all) _ = through a a b (omega arith) all p o
          from a b p o (inl _) (inr all) = through b a b (omega arith) all p o
          from a b p o (inl r) (inl t) = inl (three a b r.0 r.1 t.0 t.1 p r.2 t.2 o r.3.0 t.3.0 r.3.1 t.3.1)
