-- Suspect pairs: what the first pair that is not lighter says, and that they are decided.
use Rattle.std.proofs.Common.{◌≡◌, ℕ, Bool, true, false, not, MatchBool, refl, inl, inr}
use native.Mathlib.Decide.{dec_lt}
use borrow.Author.Tests.{both_ways}
use Rattle.scheme.specs.Pairs.{Pair, Disjoint}
use Rattle.scheme.proofs.Search.{dec_and, dec_not, sure, find_pair, decide_disjoint}
use Rattle.pairs.specs.declared.pair_gaps.PairGaps.{PairGaps}
use Rattle.pairs.specs.Held.{unsolved_in, weight_in}
use Rattle.pairs.specs.Suspects.{LighterIn, AllLighter, SuspectIn}

module _ (M : ℕ) (g : PairGaps) (w s t : ℕ) where
  -- a pair that is disjoint from s and t and not lighter
  abbrev pub Counters : ℕ → ℕ → Type 0
  Counters u v = Disjoint s t u v × ¬ LighterIn g w u v

  pub none_counters : (b : Bool) → MatchBool b ((u : ℕ) × (v : ℕ) × Pair M u v × Counters u v) ((u v : ℕ) → Pair M u v → Disjoint s t u v → LighterIn g w u v)
      → (r : Bool) → b ≡ not r → MatchBool r (AllLighter M g w s t) (¬ AllLighter M g w s t)
  none_counters true h false is = λ all. h.3.1 (all h.0 h.1 h.2 h.3.0)
  none_counters false h true is = h
  none_counters true h true is = absurd cc
  none_counters false h false is = absurd cc

-- whether a pair is suspect is decided
pub decide_suspect : (M : ℕ) (g : PairGaps) (s t : ℕ) → Dec (SuspectIn M g s t)
decide_suspect M g s t = go (unsolved_in g s t) refl
  where
    w : ℕ
    w = weight_in g s t

    lighter : (u v : ℕ) → Dec (LighterIn g w u v)
    lighter u v = dec_and (is_false (unsolved_in g u v)) (dec_lt (weight_in g u v) w)
      where
        is_false : (b : Bool) → Dec (b ≡ false)
        is_false true = no (λ e. both_ways true e refl)
        is_false false = yes refl

    go : (b : Bool) → unsolved_in g s t ≡ b → Dec (SuspectIn M g s t)
    go true e = yes (inl e)
    go false e = elim (find_pair M (λ u v. Disjoint s t u v × ¬ LighterIn g w u v) (λ u v _. dec_and (decide_disjoint s t u v) (dec_not (lighter u v)))) [
      | yes r ↦ no (λ x. elim x [ inl z ↦ both_ways (unsolved_in g s t) e z | inr y ↦ r.3.1 (y.1 r.0 r.1 r.2 r.3.0) ])
      | no none ↦ yes (inr (e, λ u v p d. sure (lighter u v) (λ n. none (u, v, p, (d, n)))))
    ]
