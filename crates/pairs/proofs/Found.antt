-- The shape that is found of the suspects by what is held is the shape of the suspects by the sums.
use Rattle.std.proofs.Common.{ℕ, ◌↔◌, subst}
use Rattle.field.specs.Field.{Ops}
use Rattle.scheme.specs.Farm.{Table}
use Rattle.scheme.specs.Pairs.{Pair, InAll}
use Rattle.scheme.specs.Differences.{Suspect}
use Rattle.pairs.specs.declared.doubt.Doubt.{Doubt}
use Rattle.pairs.specs.declared.doubt.Doubt.TheVariants.{TwoApart, Nobody, Triangle, Station}
use Rattle.pairs.specs.declared.pair_gaps.PairGaps.{PairGaps}
use Rattle.pairs.specs.Suspects.{SuspectIn}
use Rattle.pairs.specs.Solving.{PairsSolved}
use Rattle.pairs.specs.Doubts.{Shape}

module _ {M : ℕ} {Ω Ψ : ℕ → ℕ → Type 0} (same : (s t : ℕ) → Pair M s t → Ω s t ↔ Ψ s t) where
  in_all_there : (i : ℕ) → InAll M Ω i → InAll M Ψ i
  in_all_there i all s t p o = all s t p ((same s t p).1 o)

  in_all_back : (i : ℕ) → InAll M Ψ i → InAll M Ω i
  in_all_back i all s t p o = all s t p ((same s t p).0 o)

  -- families with the same pairs have the same shape
  pub same_shape : (d : Doubt) → Shape M Ω d → Shape M Ψ d
  same_shape TwoApart x = record {
    s = x.s;
    t = x.t;
    u = x.u;
    v = x.v;
    one = (x.one.0, (same x.s x.t x.one.0).0 x.one.1);
    other = (x.other.0, (same x.u x.v x.other.0).0 x.other.1);
    disjoint = x.disjoint;
  }
  same_shape Nobody none = λ s t p o. none s t p ((same s t p).1 o)
  same_shape (Triangle x y z outside) r =
      let tri = r.0 in (
        (tri.0, tri.1, tri.2, tri.3, λ s t p. (λ o. (tri.4 s t p).0 ((same s t p).1 o), λ h. (same s t p).0 ((tri.4 s t p).1 h))),
        r.1,
      )
  same_shape (Station i) r =
      let low = r.1 in (
        (λ none. r.0 (λ s t p o. none s t p ((same s t p).0 o))),
        (low.0, in_all_there i low.1, λ m lo lt all. low.2 m lo lt (in_all_back m all)),
      )

pub found_shape : (f : Ops) (M N h : ℕ) (T : Table) (g : PairGaps) (d : Doubt) → PairsSolved f M N h T g
    → Shape g.stations (SuspectIn g.stations g) d → Shape M (Suspect f M N h T) d
found_shape f M N h T g d solved x =
    same_shape {M = M} {Ω = SuspectIn M g} {Ψ = Suspect f M N h T} (λ s t p. ((solved.suspects s t p).1, (solved.suspects s t p).0)) d
    (subst (λ m. Shape m (SuspectIn m g) d) solved.size x)
