-- From the shape of the suspect pairs to the differences that are relied on.
use Rattle.std.proofs.Common.{◌≡◌, ℕ, ◌≤◌, Some, refl, sym, ap, ◌∙◌, subst, arith}
use Rattle.std.specs.Option.{unwrap_or}
use Rattle.field.specs.Field.{Ops}
use Rattle.scheme.specs.Farm.{Table}
use Rattle.scheme.specs.Pairs as shape
use Rattle.scheme.specs.Pairs.{Pair}
use Rattle.scheme.specs.Differences.{Suspect}
use Rattle.scheme.specs.Four.{Known, none_suspect, three_suspect, one_suspect}
use Rattle.pairs.specs.declared.doubt.Doubt.{Doubt}
use Rattle.pairs.specs.declared.doubt.Doubt.TheVariants.{TwoApart, Nobody, Triangle, Station}
use Rattle.pairs.specs.declared.pair_gaps.PairGaps.{PairGaps}
use Rattle.pairs.specs.Doubts.{Shape}
use Rattle.pairs.specs.Held.{gaps_in}
use Rattle.pairs.specs.Suspects.{SuspectIn}
use Rattle.pairs.specs.Solving.{PairsSolved}
use Rattle.four.specs.declared.relied.Relied.{Relied}
use Rattle.four.specs.Relied.{relied, doubted, Relies}

module _ (f : Ops) (M N bound : ℕ) (T : Table) (g : PairGaps) (solved : PairsSolved f M N bound T g) where
  -- the shape that is found is that for M stations
  shaped : (d : Doubt) → Shape g.stations (SuspectIn g.stations g) d → Shape M (SuspectIn M g) d
  shaped d x = let P : ℕ → Type 0 = λ k. Shape k (SuspectIn k g) d in subst P solved.size x

  pub apart_by_sums : Shape g.stations (SuspectIn g.stations g) TwoApart → shape.TwoApart M (Suspect f M N bound T)
  apart_by_sums x =
      let a = shaped TwoApart x in
      record {
        s = a.s;
        t = a.t;
        u = a.u;
        v = a.v;
        one = (a.one.0, (solved.suspects a.s a.t a.one.0).1 a.one.1);
        other = (a.other.0, (solved.suspects a.u a.v a.other.0).1 a.other.1);
        disjoint = a.disjoint;
      }

  known_by_shape : 4 ≤ M → (d : Doubt) → Shape M (SuspectIn M g) d → (d ≡ TwoApart → ⊥) → Known f M N bound T (relied f d (gaps_in f g)) (unwrap_or (doubted d) 0)
  known_by_shape four TwoApart x ne = absurd (ne refl)
  known_by_shape four Nobody x ne = none_suspect solved.differences (λ s t p y. x s t p ((solved.suspects s t p).0 y))
  known_by_shape four (Triangle a b c m) x ne =
      three_suspect a b c m solved.differences (
        x.0.0,
        x.0.1,
        x.0.2,
        x.0.3,
        λ s t p. (
          (λ y. (x.0.4 s t p).0 ((solved.suspects s t p).0 y)),
          (λ y. (solved.suspects s t p).1 ((x.0.4 s t p).1 y)),
        ),
      )
      (x.1 four)
  known_by_shape four (Station i) x ne =
      one_suspect solved.differences (λ empty. x.0 (λ s t p y. empty s t p ((solved.suspects s t p).1 y))) (
        x.1.0,
        (λ s t p y. x.1.1 s t p ((solved.suspects s t p).0 y)),
        (λ m from less all. x.1.2 m from less (λ s t p y. all s t p ((solved.suspects s t p).1 y))),
      )

  pub known_by_sums : 4 ≤ M → (d : Doubt) → Shape g.stations (SuspectIn g.stations g) d → (d ≡ TwoApart → ⊥) → Known f M N bound T (relied f d (gaps_in f g)) (unwrap_or (doubted d) 0)
  known_by_sums four d x ne = known_by_shape four d (shaped d x) ne

-- the station in doubt is a station
pub station_from : (g : PairGaps) (d : Doubt) → Shape g.stations (SuspectIn g.stations g) d → (i : ℕ) → doubted d ≡ Some i → 1 ≤ i
station_from g TwoApart x i e = absurd (cc)
station_from g Nobody x i e = absurd (cc)
station_from g (Triangle a b c m) x i e = absurd (cc)
station_from g (Station k) x i e = let same : k ≡ i = cc in omega (arith, x.1.0)

-- by what is relied on
module _ (f : Ops) (M N bound : ℕ) (T : Table) (g : PairGaps) (solved : PairsSolved f M N bound T g) (r : Relied) (x : Relies g (Some r)) where
  pub known_relied : 4 ≤ M → Known f M N bound T (relied f r.doubt (gaps_in f r.gaps.now)) (unwrap_or (doubted r.doubt) 0)
  known_relied four =
      subst (λ (h : PairGaps). Known f M N bound T (relied f r.doubt (gaps_in f h)) (unwrap_or (doubted r.doubt) 0)) (sym x.0)
      (known_by_sums f M N bound T g solved four r.doubt x.1 x.2)

  pub station_relied : (i : ℕ) → doubted r.doubt ≡ Some i → 1 ≤ i
  station_relied = station_from g r.doubt x.1

  -- where a station is in doubt, as they are held
  pub as_held : (i : ℕ) → doubted r.doubt ≡ Some i → relied f r.doubt (gaps_in f r.gaps.now) ≡ gaps_in f g
  as_held i is = by r.doubt is ∙ ap (gaps_in f) x.0
    where
      by : (d : Doubt) → doubted d ≡ Some i → relied f d (gaps_in f r.gaps.now) ≡ gaps_in f r.gaps.now
      by TwoApart e = absurd cc
      by Nobody e = absurd cc
      by (Triangle a b c m) e = absurd cc
      by (Station k) e = refl
