-- From what holds of each station in a range to what holds of every other station after one; and to three stations that fail.
use Rattle.std.proofs.Common.{ℕ, ◌+◌, ◌≢◌, Bool, true, false, arith}
use Rattle.std.specs.Bool.{MatchBool}
use Rattle.field.specs.Field.{Ops}
use Rattle.algebra.proofs.Ranges.{In}
use Rattle.scheme.specs.Differences.{Gaps}
use Rattle.scheme.specs.Four.{Fails}
use Rattle.four.specs.Adding.{Adds, After, PagesAdd, PageBreaks, SecondsAdd, SecondBreaks}

pub pages_told : (f : Ops) (N : ℕ) (E : Gaps) (s t u : ℕ) (r : Bool) → MatchBool r ((n : ℕ) → In 1 N n → Adds f E s t u n) ((n : ℕ) × In 1 N n × (¬ Adds f E s t u n)) → MatchBool r (PagesAdd f N E s t u) (PageBreaks f N E s t u)
pages_told f N E s t u true h = h
pages_told f N E s t u false h = h

pub others_told : (M i s : ℕ) (Yes No : ℕ → Type 0) (r : Bool) → MatchBool r ((t : ℕ) → In (s + 1) M t → t ≢ i → Yes t) ((t : ℕ) × In (s + 1) M t × ((t ≢ i) × No t))
    → MatchBool r ((t : ℕ) → After M i s t → Yes t) ((t : ℕ) × After M i s t × No t)
others_told M i s Yes No true h = λ t a. h t (omega arith, a.1) a.2
others_told M i s Yes No false h = (h.0, (omega (arith, h.1), h.1.1, h.2.0), h.2.1)

pub stations_told : (f : Ops) (M N : ℕ) (E : Gaps) (i : ℕ) (r : Bool) → MatchBool r ((s : ℕ) → In 1 M s → s ≢ i → SecondsAdd f N E M i s) ((s : ℕ) × In 1 M s × ((s ≢ i) × SecondBreaks f N E M i s))
    → MatchBool r (¬ Fails f M N E i) (Fails f M N E i)
stations_told f M N E i true h = λ x.
    x.wrong (h x.s (omega (arith, x.stations)) x.others.0 x.t (x.stations.1, omega (arith, x.stations), x.others.1) x.u (x.stations.2, x.stations.3, x.others.2) x.n x.page)
stations_told f M N E i false h =
    let t = h.2.1 in
    let u = t.2 in
    let n = u.2 in
    record {
      s = h.0;
      t = t.0;
      u = u.0;
      n = n.0;
      stations = (h.1.0, t.1.0, u.1.0, u.1.1);
      others = (h.2.0, t.1.2, u.1.2);
      page = n.1;
      wrong = n.2;
    }
