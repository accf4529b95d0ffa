-- Four stations and more: the differences to be relied on are there unless two suspect pairs are disjoint, and they are one.
use mathlib.Core.Path.{◌≡◌, refl, sym, ap, ap₂, ◌∙◌}
use mathlib.Core.Bool.{Bool, true, false, cond, ◌&&◌}
use mathlib.Core.Logic.{◌⊎◌, inl, inr}
use Prim.Native.Nat.{ℕ, ◌≤◌}
use native.Mathlib.Omega.{arith}
use borrow.Author.Tests.{both_ways}
use Rattle.field.specs.Field.{Ops}
use Rattle.algebra.specs.Vectors.{Page}
use Rattle.scheme.specs.Farm.{Table, Station, Lowest}
use Rattle.scheme.specs.Pairs.{among, Empty, TwoApart, Triangle, InAll}
use Rattle.scheme.specs.Differences.{Gaps, Suspect, Differences}
use Rattle.scheme.specs.Four.{by_way, Known, none_suspect, three_suspect, one_suspect}
use Rattle.scheme.proofs.Codes.{Lawful}
use Rattle.scheme.proofs.Search.{lowest, lowest_one}
use Rattle.scheme.proofs.Pairs.{decide_bool, among_true, triangle_some, triangle_through, triangle_one, shape}
use Rattle.scheme.proofs.Suspects.{AgreeUnlessSuspect, suspect, differences, differences_are, differences_agree}
use Rattle.scheme.proofs.Others.{AgreeBut}

module _ (f : Ops) (x y z m : ℕ) (D : Gaps) (s t n : ℕ) where
  pub by_way_inside : among x y z s ≡ true → among x y z t ≡ true → by_way f x y z m D s t n ≡ f.minus (D s m n) (D t m n)
  by_way_inside a b = ap₂ (λ a b. cond (a && b) (f.minus (D s m n) (D t m n)) (D s t n)) a b

  pub by_way_outside : (among x y z s ≡ false) ⊎ (among x y z t ≡ false) → by_way f x y z m D s t n ≡ D s t n
  by_way_outside (inl a) = ap (λ a. cond (a && among x y z t) (f.minus (D s m n) (D t m n)) (D s t n)) a
  by_way_outside (inr b) = ap (λ b. cond (among x y z s && b) (f.minus (D s m n) (D t m n)) (D s t n)) b ∙ go (among x y z s)
    where
      go : (a : Bool) → cond (a && false) (f.minus (D s m n) (D t m n)) (D s t n) ≡ D s t n
      go true = refl
      go false = refl

module _ (f : Ops) (M N h : ℕ) (T : Table) (D G : Gaps) (agree : AgreeUnlessSuspect f M N h T D G) where
  pub agree_empty : Empty M (Suspect f M N h T) → AgreeBut M N 0 D G
  agree_empty none s t n a b _ _ p = agree s t n a b p (λ k. none s t (omega arith)) (λ k. none t s (omega arith))

  pub agree_through : (i : ℕ) → InAll M (Suspect f M N h T) i → AgreeBut M N i D G
  agree_through i all s t n a b si ti p =
      agree s t n a b p (λ k o. omega (arith, all s t (omega arith) o)) (λ k o. omega (arith, all t s (omega arith) o))

  module _ (x y z m : ℕ) (tri : Triangle M (Suspect f M N h T) x y z) (low : Lowest M (λ s. among x y z s ≡ false) m) where
    -- a pair that is not inside the triangle
    pub agree_outside : (s t n : ℕ) → Station M s → Station M t → Page N n → (among x y z s ≡ false) ⊎ (among x y z t ≡ false) → D s t n ≡ G s t n
    agree_outside s t n a b p out =
        agree s t n a b p
        (λ k o. let r = (tri.4 s t (omega arith)).0 o in clash out r.0 r.1)
        (λ k o. let r = (tri.4 t s (omega arith)).0 o in clash out r.1 r.0)
      where
        clash : (among x y z s ≡ false) ⊎ (among x y z t ≡ false) → among x y z s ≡ true → among x y z t ≡ true → ⊥
        clash (inl e) g h = both_ways _ e g
        clash (inr e) g h = both_ways _ e h

    pub agree_triangle : AgreeBut M N 0 (by_way f x y z m D) (by_way f x y z m G)
    agree_triangle s t n a b _ _ p = go (decide_bool (among x y z s)) (decide_bool (among x y z t))
      where
        out : (among x y z s ≡ false) ⊎ (among x y z t ≡ false) → by_way f x y z m D s t n ≡ by_way f x y z m G s t n
        out o = by_way_outside f x y z m D s t n o ∙ agree_outside s t n a b p o ∙ sym (by_way_outside f x y z m G s t n o)

        go : (among x y z s ≡ true) ⊎ (among x y z s ≡ false) → (among x y z t ≡ true) ⊎ (among x y z t ≡ false)
            → by_way f x y z m D s t n ≡ by_way f x y z m G s t n
        go (inl e) (inl g) =
            by_way_inside f x y z m D s t n e g
            ∙ ap₂ f.minus (agree_outside s m n a low.0 p (inr low.1)) (agree_outside t m n b low.0 p (inr low.1))
            ∙ sym (by_way_inside f x y z m G s t n e g)
        go (inr e) _ = out (inl e)
        go (inl e) (inr g) = out (inr g)

module _ {f : Ops} {M N bound : ℕ} {T : Table} where
  pub known_station : {E : Gaps} {i : ℕ} → Known f M N bound T E i → 1 ≤ i → Station M i
  known_station (none_suspect _ _) h = absurd (omega arith)
  known_station (three_suspect _ _ _ _ _ _ _) h = absurd (omega arith)
  known_station (one_suspect _ _ low) h = low.0

  pub known_self : {E : Gaps} {i : ℕ} → Known f M N bound T E i → 1 ≤ i → (s n : ℕ) → Station M s → Page N n → E s s n ≡ 0
  known_self (none_suspect _ _) h = absurd (omega arith)
  known_self (three_suspect _ _ _ _ _ _ _) h = absurd (omega arith)
  known_self (one_suspect d _ _) h = d.same

  pub known_apart : {E : Gaps} {i : ℕ} → Known f M N bound T E i → ¬ TwoApart M (Suspect f M N bound T)
  known_apart (none_suspect _ none) w = none w.s w.t w.one.0 w.one.1
  known_apart (three_suspect x y z _ _ tri _) w =
      let d = w.disjoint in let p = w.one.0 in let q = w.other.0 in
      let a = (tri.4 w.s w.t p).0 w.one.1 in let b = (tri.4 w.u w.v q).0 w.other.1 in
      omega (arith, among_true x y z w.s a.0, among_true x y z w.t a.1, among_true x y z w.u b.0, among_true x y z w.v b.1)
  known_apart (one_suspect _ _ low) w =
      let d = w.disjoint in
      omega (arith, low.1 w.s w.t w.one.0 w.one.1, low.1 w.u w.v w.other.0 w.other.1)

module _ {f : Ops} {N : ℕ} (F : Lawful f N) (M bound : ℕ) (T : Table) where
  pub known_one : {E G : Gaps} {i k : ℕ} → Known f M N bound T E i → Known f M N bound T G k → (i ≡ k) × AgreeBut M N i E G
  known_one (none_suspect {D} d none) (none_suspect {D = G} g _) =
      (refl, agree_empty f M N bound T D G (differences_agree F bound T M D G d g) none)
  known_one (none_suspect d none) (three_suspect x y z _ _ tri _) = absurd (triangle_some x y z tri none)
  known_one (none_suspect d none) (one_suspect _ some _) = absurd (some none)
  known_one (three_suspect x y z _ _ tri _) (none_suspect _ none) = absurd (triangle_some x y z tri none)
  known_one (three_suspect {D} x y z m d tri low) (three_suspect {D = G} u v w k g tri' low') =
      let e = triangle_one x y z u v w tri tri' in
      let there : (s : ℕ) → among x y z s ≡ among u v w s = λ s. ap (λ a. among a y z s) e.0 ∙ ap (λ a. among u a z s) e.1 ∙ ap (λ a. among u v a s) e.2 in
      let mk = lowest_one M (λ s. among x y z s ≡ false) (λ s. among u v w s ≡ false) m k (λ s _ h. sym (there s) ∙ h) (λ s _ h. there s ∙ h) low low' in (
        refl,
        λ s t n a b si ti p.
            agree_triangle f M N bound T D G (differences_agree F bound T M D G d g) x y z m tri low s t n a b si ti p
            ∙ ap (λ a. by_way f a y z m G s t n) e.0
            ∙ ap (λ a. by_way f u a z m G s t n) e.1
            ∙ ap (λ a. by_way f u v a m G s t n) e.2
            ∙ ap (λ a. by_way f u v w a G s t n) mk,
      )
  known_one (three_suspect x y z _ _ tri _) (one_suspect {i} _ _ low) = absurd (triangle_through x y z i tri low.1)
  known_one (one_suspect _ some _) (none_suspect _ none) = absurd (some none)
  known_one (one_suspect {i} _ _ low) (three_suspect x y z _ _ tri _) = absurd (triangle_through x y z i tri low.1)
  known_one (one_suspect {D} {i} d _ low) (one_suspect {D = G} {i = k} g _ low') = (
    lowest_one M (InAll M (Suspect f M N bound T)) (InAll M (Suspect f M N bound T)) i k (λ s _ h. h) (λ s _ h. h) low low',
    agree_through f M N bound T D G (differences_agree F bound T M D G d g) i low.1,
  )

  pub known_some : 4 ≤ M → ¬ TwoApart M (Suspect f M N bound T) → (E : Gaps) × (i : ℕ) × Known f M N bound T E i
  known_some four cross = elim (shape (λ s t p. suspect F bound T M s t) cross) [
    | inl none ↦ (D, 0, none_suspect d none)
    | inr r ↦ elim r [
      | inl t ↦ elim (lowest M (λ s. among t.0 t.1 t.2 s ≡ false) (λ s b. outside t.0 t.1 t.2 s)) [
        | inl m ↦ (by_way f t.0 t.1 t.2 m.0 D, 0, three_suspect t.0 t.1 t.2 m.0 d t.3 m.1)
        | inr none ↦ absurd (full t.0 t.1 t.2 none)
      ]
      | inr i ↦ (D, i.1.0, one_suspect d i.0 i.1.1)
    ]
  ]
    where
      D : Gaps
      D = differences F bound T M

      d : Differences f M N bound T D
      d = differences_are F bound T M

      outside : (x y z s : ℕ) → Dec (among x y z s ≡ false)
      outside x y z s = elim (decide_bool (among x y z s)) [ inl e ↦ no (λ g. both_ways _ g e) | inr e ↦ yes e ]

      -- four stations are not among three
      full : (x y z : ℕ) → ((s : ℕ) → Station M s → ¬ (among x y z s ≡ false)) → ⊥
      full x y z none =
          let in_three : (s : ℕ) → Station M s → (s ≡ x) ⊎ ((s ≡ y) ⊎ (s ≡ z)) = λ s b.
          elim (decide_bool (among x y z s)) [ inl e ↦ among_true x y z s e | inr e ↦ absurd (none s b e) ] in
          omega (arith, in_three 1 (omega arith), in_three 2 (omega arith), in_three 3 (omega arith), in_three 4 (omega arith))
