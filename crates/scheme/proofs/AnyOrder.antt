-- Differences to be relied on that add up for any three stations in order add up in every order.
use mathlib.Core.Path.{◌≡◌, sym, ap, ap₂, subst, ◌∙◌}
use mathlib.Core.Bool.{true, false}
use mathlib.Core.Logic.{◌≢◌, ◌⊎◌, inl, inr}
use Prim.Native.Nat.{ℕ, ◌<◌, ◌≤◌}
use native.Mathlib.Omega.{arith}
use native.Mathlib.Decide.{ℕ_discrete, dec_lt}
use Rattle.field.specs.Field.{Ops, Laws}
use Rattle.algebra.specs.Vectors.{Page}
use Rattle.scheme.specs.Farm.{Table, Station}
use Rattle.scheme.specs.Pairs.{among}
use Rattle.scheme.specs.Differences.{Gaps, Solution, Unsolved, Suspect, Differences}
use Rattle.scheme.specs.Four.{by_way, Known, none_suspect, three_suspect, one_suspect, Fails}
use Rattle.scheme.specs.Theorem.{Additive}
use Rattle.scheme.proofs.Codes.{minus_self, minus_back, minus_flip, plus_opposite, opposite_plus, plus_away}
use Rattle.scheme.proofs.Pairs.{decide_bool}
use Rattle.scheme.proofs.Suspects.{AgreeUnlessSuspect, agree_by_pairs}
use Rattle.scheme.proofs.Others.{AgreeBut}
use Rattle.scheme.proofs.Known.{by_way_inside, by_way_outside, agree_empty, agree_through, agree_outside, known_self}

-- D turned and taken negative
abbrev opposite : Ops → Gaps → Gaps
opposite f D s t n = f.minus 0 (D t s n)

module _ {f : Ops} (l : Laws f) {M N bound : ℕ} {T : Table} where
  differences_skew : (D : Gaps) → Differences f M N bound T D → AgreeUnlessSuspect f M N bound T D (opposite f D)
  differences_skew D d =
      agree_by_pairs f M N bound T D (opposite f D) d
      (λ s t n p b. sym (ap (λ x. f.minus 0 (f.minus 0 x)) (d.turned s t n p b) ∙ minus_back l 0 (f.minus 0 (D s t n)) (l.minus_code 0 (D s t n))))
      (λ s n a b. ap (f.minus 0) (d.same s n a b) ∙ minus_self l 0)
      (λ s t n p b k. sym (ap (f.minus 0) (d.turned s t n p b) ∙ minus_back l 0 (D s t n) (code s t n b k (d.pairs s t p))))
    where
      code : (s t n : ℕ) → Page N n → ¬ Suspect f M N bound T s t → Solution f N bound T s t (D s t) ⊎ Unsolved f N bound T s t → D s t n < f.size
      code s t n b k (inl x) = x.codes n b
      code s t n b k (inr none) = absurd (k (inl none))

  known_skew : {E : Gaps} {i : ℕ} → Known f M N bound T E i → AgreeBut M N i E (opposite f E)
  known_skew (none_suspect {D} d none) = agree_empty f M N bound T D (opposite f D) (differences_skew D d) none
  known_skew (one_suspect {D} {i} d _ low) = agree_through f M N bound T D (opposite f D) (differences_skew D d) i low.1
  known_skew (three_suspect {D} x y z m d tri low) = λ s t n a b _ _ p. way s t n a b p (decide_bool (among x y z s)) (decide_bool (among x y z t))
    where
      way : (s t n : ℕ) → Station M s → Station M t → Page N n → (among x y z s ≡ true) ⊎ (among x y z s ≡ false)
          → (among x y z t ≡ true) ⊎ (among x y z t ≡ false) → by_way f x y z m D s t n ≡ opposite f (by_way f x y z m D) s t n
      way s t n a b p (inl e) (inl g) =
          by_way_inside f x y z m D s t n e g ∙ sym (ap (f.minus 0) (by_way_inside f x y z m D t s n g e) ∙ minus_flip l (D t m n) (D s m n))
      way s t n a b p (inr e) _ =
          by_way_outside f x y z m D s t n (inl e)
          ∙ agree_outside f M N bound T D (opposite f D) (differences_skew D d) x y z m tri low s t n a b p (inl e)
          ∙ sym (ap (f.minus 0) (by_way_outside f x y z m D t s n (inr e)))
      way s t n a b p (inl _) (inr g) =
          by_way_outside f x y z m D s t n (inr g)
          ∙ agree_outside f M N bound T D (opposite f D) (differences_skew D d) x y z m tri low s t n a b p (inr g)
          ∙ sym (ap (f.minus 0) (by_way_outside f x y z m D t s n (inl g)))

  module _ {E : Gaps} {i : ℕ} (known : Known f M N bound T E i) (adds : ¬ Fails f M N E i) (n : ℕ) (p : Page N n) where
    -- one of the stations other than i
    abbrev pub Other : ℕ → Type 0
    Other s = Station M s × (s ≢ i)

    skew : (s t : ℕ) → Other s → Other t → E s t n ≡ f.minus 0 (E t s n)
    skew s t a b = known_skew known s t n a.0 b.0 a.1 b.1 p

    code : (s t : ℕ) → Other s → Other t → E s t n < f.size
    code s t a b = subst (λ x. x < f.size) (sym (skew s t a b)) (l.minus_code 0 (E t s n))

    in_order : (s t u : ℕ) → Other s → Other t → Other u → s < t → t < u → f.plus (E s t n) (E t u n) ≡ E s u n
    in_order s t u a b c st tu = elim (ℕ_discrete (f.plus (E s t n) (E t u n)) (E s u n)) [
      | yes e ↦ e
      | no d ↦
          let x = a.0 in let z = c.0 in
          absurd (adds (record { s = s; t = t; u = u; n = n; stations = omega arith; others = (a.1, b.1, c.1); page = p; wrong = d }))
    ]

    first_away : (x y : ℕ) → y < f.size → f.plus (f.minus 0 x) (f.plus x y) ≡ y
    first_away x y h = l.plus_comm (f.minus 0 x) (f.plus x y) ∙ ap (λ z. f.plus z (f.minus 0 x)) (l.plus_comm x y) ∙ plus_opposite l y x h

    last_away : (x y : ℕ) → y < f.size → f.plus y (f.minus 0 (f.plus x y)) ≡ f.minus 0 x
    last_away x y h =
        ap₂ f.plus (sym (minus_back l 0 y h)) (sym (opposite_plus l y x)) ∙ first_away (f.minus 0 y) (f.minus 0 x) (l.minus_code 0 x)

    any_order : (s t u : ℕ) → Other s → Other t → Other u → s ≢ t → t ≢ u → s ≢ u → f.plus (E s t n) (E t u n) ≡ E s u n
    any_order s t u a b c st tu su = go (dec_lt s t) (dec_lt t u) (dec_lt s u)
      where
        go : Dec (s < t) → Dec (t < u) → Dec (s < u) → f.plus (E s t n) (E t u n) ≡ E s u n
        go (yes x) (yes y) _ = in_order s t u a b c x y
        go (yes x) (no y) (yes z) =
            ap₂ f.plus (sym (in_order s u t a c b z (omega arith))) (skew t u b c) ∙ plus_opposite l (E s u n) (E u t n) (code s u a c)
        go (yes x) (no y) (no z) =
            ap (f.plus (E s t n)) (skew t u b c ∙ ap (f.minus 0) (sym (in_order u s t c a b (omega arith) x)))
            ∙ last_away (E u s n) (E s t n) (code s t a b)
            ∙ sym (skew s u a c)
        go (no x) (yes y) (yes z) =
            ap₂ f.plus (skew s t a b) (sym (in_order t s u b a c (omega arith) z)) ∙ first_away (E t s n) (E s u n) (code s u a c)
        go (no x) (yes y) (no z) =
            ap (λ z. f.plus z (E t u n)) (skew s t a b ∙ ap (f.minus 0) (sym (in_order t u s b c a y (omega arith)) ∙ l.plus_comm (E t u n) (E u s n)))
            ∙ l.plus_comm _ _
            ∙ last_away (E u s n) (E t u n) (code t u b c)
            ∙ sym (skew s u a c)
        go (no x) (no y) _ =
            ap₂ f.plus (skew s t a b) (skew t u b c) ∙ opposite_plus l (E t s n) (E u t n)
            ∙ ap (f.minus 0) (in_order u t s c b a (omega arith) (omega arith)) ∙ sym (skew s u a c)

    -- the difference of t from u by way of s
    pub from_one : 1 ≤ i → (s t u : ℕ) → Other s → Other t → Other u → E t u n ≡ f.minus (E s u n) (E s t n)
    from_one some s t u a b c = go (ℕ_discrete s t) (ℕ_discrete t u) (ℕ_discrete s u)
      where
        self : (s : ℕ) → Other s → E s s n ≡ 0
        self s a = known_self known some s n a.0 p

        go : Dec (s ≡ t) → Dec (t ≡ u) → Dec (s ≡ u) → E t u n ≡ f.minus (E s u n) (E s t n)
        go (yes st) _ _ =
            ap (λ t. E t u n) (sym st)
            ∙ sym (ap (f.minus (E s u n)) (ap (λ t. E s t n) (sym st) ∙ self s a ∙ sym (minus_self l (E s u n))) ∙ minus_back l (E s u n) (E s u n) (code s u a c))
        go (no _) (yes tu) _ = ap (λ u. E t u n) (sym tu) ∙ self t b ∙ sym (ap (λ u. f.minus (E s u n) (E s t n)) (sym tu) ∙ minus_self l (E s t n))
        go (no _) (no _) (yes su) =
            ap (λ u. E t u n) (sym su) ∙ skew t s b a ∙ sym (ap (λ x. f.minus x (E s t n)) (ap (λ u. E s u n) (sym su) ∙ self s a))
        go (no st) (no tu) (no su) = sym (ap (λ x. f.minus x (E s t n)) (sym (any_order s t u a b c st tu su)) ∙ plus_away l (E s t n) (E t u n) (code t u b c))

pub additive : Additive
additive f l M N bound T E i known adds s t u n a b c si ti ui st tu su p = any_order l known adds n p s t u (a, si) (b, ti) (c, ui) st tu su
