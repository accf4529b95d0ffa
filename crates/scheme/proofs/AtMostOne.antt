-- Whatever is told, weighing has at most one outcome, so has settling, and so have the two one after the other.
use mathlib.Core.Bool.{cond}
use lib.Dec.{eqb}
use mathlib.Core.Path.{◌≡◌, sym, ap, ap₂, subst, ◌∙◌}
use mathlib.Core.Logic.{◌⊎◌, inl, inr}
use Prim.Native.Nat.{ℕ, ◌≤◌}
use native.Mathlib.Omega.{arith}
use Rattle.field.specs.Field.{Ops}
use Rattle.scheme.specs.Farm.{Table, Lowest}
use Rattle.scheme.specs.Askings.{first_sums, all_sums, Outcome, over, split, filled, asks}
use Rattle.scheme.specs.Differences.{Gaps, gap}
use Rattle.scheme.specs.Four.{Known, Fails, Scattered, Doubted, asked, sum_from_leads, FromLeads, row_from_leads}
use Rattle.scheme.specs.Three.{Taken, third, FromFirst, row_of_three}
use Rattle.scheme.specs.Settling.{SettlesFour, SettlesThree, Settles}
use Rattle.scheme.specs.Weighing.{WeighsFour, WeighsThree, Weighs}
use Rattle.scheme.specs.Ending.{Concludes}
use Rattle.scheme.specs.Theorem.{Alike, both_over, same_page, same_rows, same_station, One}
use Rattle.scheme.proofs.Codes.{Lawful}
use Rattle.scheme.proofs.Search.{lowest_one}
use Rattle.scheme.proofs.Others.{AgreeBut, scattered_same, fails_same, from_leads_same, row_same}
use Rattle.scheme.proofs.Known.{known_self, known_apart, known_one}
use Rattle.scheme.proofs.Taken.{second_one, taken_one}

alike_split : (M N : ℕ) {m n : ℕ} → m ≡ n → Alike M N (split m) (split n)
alike_split M N {m} e = subst (λ n. Alike M N (split m) (split n)) e same_page

alike_asks : (M N : ℕ) {k l : ℕ} → k ≡ l → Alike M N (asks k) (asks l)
alike_asks M N {k} e = subst (λ l. Alike M N (asks k) (asks l)) e same_station

module _ {f : Ops} {N : ℕ} (F : Lawful f N) (bound : ℕ) (T : Table) (own : ℕ → ℕ) where
  -- ── four stations and more
  module _ (M : ℕ) (four : 4 ≤ M) where
    -- what is known is known of the same station
    one : {E G : Gaps} {i k : ℕ} → Known f M N bound T E i → Known f M N bound T G k → (k ≡ i) × AgreeBut M N i E G × AgreeBut M N i G E
    one x y =
        let r = known_one F M bound T x y in
        (sym r.0, r.1, λ s t n a b si ti p. sym (r.1 s t n a b si ti p))

    over_alone : WeighsFour f M N bound T own over → {E : Gaps} {i : ℕ} → Known f M N bound T E i → ¬ Fails f M N E i → ⊥
    over_alone (inl w) known adds = known_apart known w
    over_alone (inr x) {E} {i} known adds =
        let r = one known x.2 in
        adds (fails_same M N i (omega arith) x.0 E r.2 f (subst (Fails f M N x.0) r.0 x.3))

    -- a station in doubt is one, and so is its difference from the leads
    doubt_one : (U : Table) → {E G : Gaps} {i k : ℕ} → Doubted f M N bound T E i → Doubted f M N bound T G k → (e : ℕ → ℕ)
        → FromLeads f M N bound U G k e → FromLeads f M N bound U E i e
    doubt_one U {E} {G} {i} {k} x y e z =
        let r = one x.known y.known in
        from_leads_same M N i (omega arith) G E r.2 (λ s n a _ p. known_self x.known x.station s n a p) f bound U e
        (subst (λ k. FromLeads f M N bound U G k e) r.0 z)

    weighs_four : (o p : Outcome) → WeighsFour f M N bound T own o → WeighsFour f M N bound T own p → Alike M N o p
    weighs_four over over x y = both_over
    weighs_four over (split n) x y = absurd (over_alone x y.2 y.4)
    weighs_four over (filled R) x y = absurd (over_alone x y.1 y.2)
    weighs_four over (asks k) x y = absurd (over_alone x y.2.known y.2.adds)
    weighs_four (split m) over x y = absurd (over_alone y x.2 x.4)
    weighs_four (split m) (split n) x y =
        let r = one x.2 y.2 in
        alike_split M N (lowest_one N (Scattered M x.0 x.1) (Scattered M y.0 x.1) m n
        (scattered_same M N x.1 (omega arith) x.0 y.0 r.1)
        (scattered_same M N x.1 (omega arith) y.0 x.0 r.2) x.5 (subst (λ k. Lowest N (Scattered M y.0 k) n) r.0 y.5))
    weighs_four (split m) (filled R) x y = absurd (omega (arith, x.3, (one x.2 y.1).0))
    weighs_four (split m) (asks k) x y =
        let r = one y.2.known x.2 in let low = subst (λ k. Lowest N (Scattered M x.0 k) m) r.0 x.5 in
        absurd (y.2.gathered m low.0 (scattered_same M N y.1 (omega arith) x.0 y.0 r.2 m low.0 low.1))
    weighs_four (filled Q) over x y = absurd (over_alone y x.1 x.2)
    weighs_four (filled Q) (split n) x y = absurd (omega (arith, y.3, (one y.2 x.1).0))
    weighs_four (filled Q) (filled R) x y = same_rows (λ s n a p.
        x.3 s n a p ∙ ap (λ x. cond (eqb s 1) (own n) (f.minus (own n) x)) ((one x.1 y.1).1 1 s n (omega arith) a (omega arith) (omega arith) p) ∙ sym (y.3 s n a p))
    weighs_four (filled Q) (asks k) x y = absurd (omega (arith, y.2.station, (one y.2.known x.1).0))
    weighs_four (asks k) over x y = absurd (over_alone y x.2.known x.2.adds)
    weighs_four (asks k) (split n) x y =
        let r = one x.2.known y.2 in let low = subst (λ k. Lowest N (Scattered M y.0 k) n) r.0 y.5 in
        absurd (x.2.gathered n low.0 (scattered_same M N x.1 (omega arith) y.0 x.0 r.2 n low.0 low.1))
    weighs_four (asks k) (filled R) x y = absurd (omega (arith, x.2.station, (one x.2.known y.1).0))
    weighs_four (asks k) (asks j) x y = alike_asks M N (x.3 ∙ ap asked (sym (one x.2.known y.2.known).0) ∙ sym y.3)

    settles_four : (U : Table) (o p : Outcome) → SettlesFour f M N bound T U own o → SettlesFour f M N bound T U own p → Alike M N o p
    settles_four U over over x y = both_over
    settles_four U over (filled R) x y = absurd (x.3 y.2 (doubt_one U x.2 y.3 y.2 y.4))
    settles_four U (filled Q) over x y = absurd (y.3 x.2 (doubt_one U y.2 x.3 x.2 x.4))
    settles_four U (filled Q) (filled R) x y =
        let r = one x.3.known y.3.known in
        let e = second_one F bound (sum_from_leads f M N bound U x.0 x.1) x.2 y.2 x.4 (doubt_one U x.3 y.3 y.2 y.4) in
        same_rows (λ s n a p.
        x.5 s n a p
        ∙ row_same M N x.1 (omega arith) x.0 y.0 r.1 (λ s n a _ p. known_self y.3.known y.3.station s n a p) f own x.2 y.2 e s n a p
        ∙ ap (λ k. row_from_leads f M own y.0 k y.2 s n) (sym r.0)
        ∙ sym (y.5 s n a p))
    settles_four U (split n) p x y = absurd x
    settles_four U (asks k) p x y = absurd x
    settles_four U over (split n) x y = absurd y
    settles_four U over (asks k) x y = absurd y
    settles_four U (filled Q) (split n) x y = absurd y
    settles_four U (filled Q) (asks k) x y = absurd y

  -- ── three stations
  third_one : {s t u v : ℕ} {d e : ℕ → ℕ} → Taken f N bound T s t d → Taken f N bound T u v e → third s t ≡ third u v
  third_one x y = let r = taken_one F bound T x y in ap₂ third r.0 r.1

  over_or_filled : (U : Table) (R : Table) → SettlesThree f N bound T U own over → SettlesThree f N bound T U own (filled R) → ⊥
  over_or_filled U R x y = x.4 y.3 (subst (λ k. FromFirst f N bound U k y.3) (third_one y.4 x.3) y.5)

  settles_three : (U : Table) (o p : Outcome) → SettlesThree f N bound T U own o → SettlesThree f N bound T U own p → Alike 3 N o p
  settles_three U over over x y = both_over
  settles_three U over (filled R) x y = absurd (over_or_filled U R x y)
  settles_three U (filled Q) over x y = absurd (over_or_filled U Q y x)
  settles_three U (filled Q) (filled R) x y =
      let r = taken_one F bound T x.4 y.4 in
      let z = subst (λ k. FromFirst f N bound U k y.3) (third_one y.4 x.4) y.5 in
      let d = second_one F bound (gap f U 1 (third x.0 x.1)) x.3 y.3 x.5 z in
      same_rows (λ s n a p.
      x.6 s n a p
      ∙ ap₂ (λ e d. row_of_three f own x.0 x.1 (λ _. e) (λ _. d) s n) (r.2 n p) (d n p)
      ∙ ap₂ (λ u v. row_of_three f own u v y.2 y.3 s n) r.0 r.1
      ∙ sym (y.6 s n a p))
  settles_three U (split n) p x y = absurd x
  settles_three U (asks k) p x y = absurd x
  settles_three U over (split n) x y = absurd y
  settles_three U over (asks k) x y = absurd y
  settles_three U (filled Q) (split n) x y = absurd y
  settles_three U (filled Q) (asks k) x y = absurd y

  over_alone_three : WeighsThree f N bound T own over → (all_sums N bound ≤ first_sums 3 bound → SettlesThree f N bound T T own over → ⊥)
      → {s t : ℕ} {e : ℕ → ℕ} → Taken f N bound T s t e → ⊥
  over_alone_three (inl none) _ {s} {t} {e} x = none s t x.pair e x.solved
  over_alone_three (inr y) h x = h y.0 y.1

  weighs_three : (o p : Outcome) → WeighsThree f N bound T own o → WeighsThree f N bound T own p → Alike 3 N o p
  weighs_three over over x y = both_over
  weighs_three over (filled R) x y = absurd (over_alone_three x (λ _ z. over_or_filled T R z y.1) y.1.4)
  weighs_three over (asks k) x y = absurd (over_alone_three x (λ h _. omega (arith, y.0)) y.1.3)
  weighs_three (filled Q) over x y = absurd (over_alone_three y (λ _ z. over_or_filled T Q z x.1) x.1.4)
  weighs_three (filled Q) (filled R) x y = settles_three T (filled Q) (filled R) x.1 y.1
  weighs_three (filled Q) (asks k) x y = absurd (omega (arith, x.0, y.0))
  weighs_three (asks k) over x y = absurd (over_alone_three y (λ h _. omega (arith, x.0)) x.1.3)
  weighs_three (asks k) (filled R) x y = absurd (omega (arith, x.0, y.0))
  weighs_three (asks k) (asks j) x y = alike_asks 3 N (x.1.4 ∙ third_one x.1.3 y.1.3 ∙ sym y.1.4)
  weighs_three (split n) p x y = absurd x
  weighs_three over (split n) x y = absurd y
  weighs_three (filled Q) (split n) x y = absurd y
  weighs_three (asks k) (split n) x y = absurd y

-- ── one after the other
module _ (M N : ℕ) (W S : Outcome → Type 0) (weighs : (o p : Outcome) → W o → W p → Alike M N o p) (settles : (o p : Outcome) → S o → S p → Alike M N o p) where
  abbrev Either : Outcome → Type 0
  Either o = W o ⊎ (((k : ℕ) × W (asks k)) × S o)

  -- an outcome that asks nobody
  abbrev Last : Outcome → Type 0
  Last (asks k) = ⊥
  Last over = Unit {0}
  Last (split n) = Unit {0}
  Last (filled R) = Unit {0}

  last : (o : Outcome) → Concludes W S o → Last o × Either o
  last over x = (tt, x)
  last (split n) x = (tt, x)
  last (filled R) x = (tt, x)
  last (asks k) x = absurd x

  asks_none : (o : Outcome) (k : ℕ) → Last o → W o → ¬ W (asks k)
  asks_none o k end x y = apart o (weighs o (asks k) x y) end
    where
      apart : (o : Outcome) → Alike M N o (asks k) → Last o → ⊥
      apart (asks j) a e = e
      apart over a e = elim a [ ]
      apart (split n) a e = elim a [ ]
      apart (filled R) a e = elim a [ ]

  either_one : (o p : Outcome) → Last o × Either o → Last p × Either p → Alike M N o p
  either_one o p (_, inl x) (_, inl y) = weighs o p x y
  either_one o p (e, inl x) (_, inr y) = absurd (asks_none o y.0.0 e x y.0.1)
  either_one o p (_, inr x) (e, inl y) = absurd (asks_none p x.0.0 e y x.0.1)
  either_one o p (_, inr x) (_, inr y) = settles o p x.1 y.1

  concludes_one : (o p : Outcome) → Concludes W S o → Concludes W S p → Alike M N o p
  concludes_one o p x y = either_one o p (last o x) (last p y)

pub one_outcome : One
one_outcome f l spread M N bound le T U own o p = (
  weighs o p,
  settles o p,
  concludes_one M N (Weighs f M N bound T own) (Settles f M N bound T U own) weighs settles o p,
)
  where
    F : Lawful f N
    F = record { laws = l; spread = spread; places = le }

    of_three : (o p : Outcome) → M ≡ 3 → Alike 3 N o p → Alike M N o p
    of_three o p e a = subst (λ M. Alike M N o p) (sym e) a

    weighs : (o p : Outcome) → Weighs f M N bound T own o → Weighs f M N bound T own p → Alike M N o p
    weighs o p (inl x) (inl y) = weighs_four F bound T own M x.0 o p x.1 y.1
    weighs o p (inr x) (inr y) = of_three o p x.0 (weighs_three F bound T own o p x.1 y.1)
    weighs o p (inl x) (inr y) = absurd (omega (arith, x.0, y.0))
    weighs o p (inr x) (inl y) = absurd (omega (arith, x.0, y.0))

    settles : (o p : Outcome) → Settles f M N bound T U own o → Settles f M N bound T U own p → Alike M N o p
    settles o p (inl x) (inl y) = settles_four F bound T own M x.0 U o p x.1 y.1
    settles o p (inr x) (inr y) = of_three o p x.0 (settles_three F bound T own U o p x.1 y.1)
    settles o p (inl x) (inr y) = absurd (omega (arith, x.0, y.0))
    settles o p (inr x) (inl y) = absurd (omega (arith, x.0, y.0))
