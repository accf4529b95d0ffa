-- The lightest of the three pairs, pair by pair in the order of their totals.
use Rattle.std.proofs.Common.{◌≡◌, ℕ, ◌+◌, ◌<◌, ◌≤◌, Bool, true, false, cond, ltb, Some, None, Option, sym, refl, subst, subst₂, arith, ltb-false, ltb-true}
use native.Mathlib.Decide.{dec_le}
use Rattle.scheme.specs.Pairs.{Pair}
use Rattle.pairs.specs.declared.pair_gaps.PairGaps.{PairGaps}
use Rattle.pairs.specs.Held.{answered_weight}
use Rattle.three.specs.declared.taking.TakenPair.{TakenPair}
use Rattle.three.specs.Pairs.{lighter, WeighedOf, Lightest}

module _ (g : PairGaps) where
  abbrev W : ℕ → ℕ → Option ℕ
  W = answered_weight g

  -- x is the lightest of the pairs with totals up to n
  record Best (n : ℕ) (x : TakenPair) : Type 0 where
    pair : Pair 3 x.first x.second
    low : x.first + x.second ≤ n
    solved : W x.first x.second ≡ Some x.weight
    least : (u v w : ℕ) → Pair 3 u v → u + v ≤ n → W u v ≡ Some w → x.weight ≤ w
    foremost : (u v w : ℕ) → Pair 3 u v → u + v ≤ n → W u v ≡ Some w → u + v < x.first + x.second → x.weight < w

  abbrev BestOf : ℕ → Option TakenPair → Type 0
  BestOf n (Some x) = Best n x
  BestOf n None = (u v w : ℕ) → Pair 3 u v → u + v ≤ n → W u v ≡ Some w → ⊥

  module _ (n s t : ℕ) (p : Pair 3 s t) (next : s + t ≡ n + 1) where
    same : (u v w : ℕ) → Pair 3 u v → ¬ (u + v ≤ n) → u + v ≤ n + 1 → W u v ≡ Some w → W s t ≡ Some w
    same u v w q far b x =
        let us : u ≡ s = omega arith in let vt : v ≡ t = omega arith in
        subst₂ (λ u v. W u v ≡ Some w) us vt x

    one_weight : (a b : ℕ) → W s t ≡ Some a → W s t ≡ Some b → a ≡ b
    one_weight a b x y = cc

    none_weight : (a : ℕ) → W s t ≡ None → W s t ≡ Some a → ⊥
    none_weight a x y = cc

    alone : (y : TakenPair) → WeighedOf g s t (Some y) → ((u v w : ℕ) → Pair 3 u v → u + v ≤ n → W u v ≡ Some w → y.weight < w) → Best (n + 1) y
    alone y h old = record {
      pair = subst₂ (Pair 3) (sym h.0) (sym h.1) p;
      low = let a = h.0 in let b = h.1 in omega arith;
      solved = subst₂ (λ u v. W u v ≡ Some y.weight) (sym h.0) (sym h.1) h.2;
      least = λ u v w q b x. elim (dec_le (u + v) n) [
        | yes k ↦ omega (arith, old u v w q k x)
        | no k ↦ omega (arith, one_weight y.weight w h.2 (same u v w q k b x))
      ];
      foremost = λ u v w q b x less. let a = h.0 in let c = h.1 in old u v w q (omega arith) x;
    }

    keep : (x : TakenPair) → Best n x → ((w : ℕ) → W s t ≡ Some w → x.weight ≤ w) → Best (n + 1) x
    keep x h new = record {
      pair = h.pair;
      low = let a = h.low in omega arith;
      solved = h.solved;
      least = λ u v w q b y. elim (dec_le (u + v) n) [
        | yes k ↦ h.least u v w q k y
        | no k ↦ new w (same u v w q k b y)
      ];
      foremost = λ u v w q b y less. let a = h.low in h.foremost u v w q (omega arith) y less;
    }

    one_more : (x y : Option TakenPair) → BestOf n x → WeighedOf g s t y → BestOf (n + 1) (lighter x y)
    one_more None None a b = λ u v w q k x. elim (dec_le (u + v) n) [ yes l ↦ a u v w q l x | no l ↦ none_weight w b (same u v w q l k x) ]
    one_more None (Some y) a b = alone y b (λ u v w q k x. absurd (a u v w q k x))
    one_more (Some x) None a b = keep x a (λ w z. absurd (none_weight w b z))
    one_more (Some x) (Some y) a b = by (ltb y.weight x.weight) refl
      where
        by : (r : Bool) → ltb y.weight x.weight ≡ r → BestOf (n + 1) (cond r (Some y) (Some x))
        by true e = alone y b (λ u v w q k z. omega (arith, a.least u v w q k z, ltb-true y.weight x.weight e))
        by false e = keep x a (λ w z. omega (arith, one_weight y.weight w b.2 z, ltb-false y.weight x.weight e))

  best_of_all : (x : Option TakenPair) → BestOf 5 x → Lightest g x
  best_of_all None h = λ u v w p x. h u v w p (omega arith) x
  best_of_all (Some x) h = record {
    pair = h.pair;
    solved = h.solved;
    least = λ u v w q y. h.least u v w q (omega arith) y;
    foremost = λ u v w q y less. h.foremost u v w q (omega arith) y less;
  }

  pub lightest : (x y z v w : Option TakenPair) → WeighedOf g 1 2 x → WeighedOf g 1 3 y → WeighedOf g 2 3 z → v ≡ lighter x y → w ≡ lighter v z → Lightest g w
  lightest x y z v w a b c v_is w-is =
      best_of_all w
      (subst (BestOf 5) (sym w-is)
      (one_more 4 2 3 (omega arith) refl v z
      (subst (BestOf 4) (sym v_is)
      (one_more 3 1 3 (omega arith) refl x y
      (one_more 2 1 2 (omega arith) refl None x (λ u v w q k x. absurd (let z : ⊥ = omega arith in z)) a) b)) c))
