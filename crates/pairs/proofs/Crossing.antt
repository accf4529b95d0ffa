-- Two disjoint pairs of a family: one that is crossed, that is has another disjoint from it.
use Rattle.std.proofs.Common.{◌≡◌, ℕ, Bool, true, false, is_some, Some, None, Option, MatchBool}
use Rattle.scheme.specs.Pairs.{Pair, TwoApart}
use Rattle.pairs.specs.Searching.{Apart, FirstApart}

module _ (M : ℕ) (Ω : ℕ → ℕ → Type 0) where
  -- s < t is in Ω, and Ω has a pair without them
  abbrev pub Crossed : ℕ → ℕ → Type 0
  Crossed s t = Ω s t × ((u : ℕ) × (v : ℕ) × Pair M u v × Apart M Ω s t u v)

  pub crossed : (s t : ℕ) (r : Option (ℕ × ℕ)) → FirstApart M Ω s t r → true ≡ is_some r → Ω s t → Crossed s t
  crossed s t (Some p) h is o = (o, (p.0, p.1, h.0, h.1))
  crossed s t None h is o = absurd cc

  pub uncrossed : (s t : ℕ) (r : Option (ℕ × ℕ)) → FirstApart M Ω s t r → false ≡ is_some r → ¬ Crossed s t
  uncrossed s t (Some p) h is x = absurd cc
  uncrossed s t None h is x = h x.1.0 x.1.1 x.1.2 x.1.3

  pub two_apart : (b : Bool) → MatchBool b ((s : ℕ) × (t : ℕ) × Pair M s t × Crossed s t) ((s t : ℕ) → Pair M s t → ¬ Crossed s t)
      → MatchBool b (TwoApart M Ω) (¬ TwoApart M Ω)
  two_apart true h = record {
    s = h.0;
    t = h.1;
    u = h.3.1.0;
    v = h.3.1.1;
    one = (h.2, h.3.0);
    other = (h.3.1.2, h.3.1.3.1);
    disjoint = h.3.1.3.0;
  }
  two_apart false h = λ a. h a.s a.t a.one.0 (a.one.1, (a.u, a.v, a.other.0, (a.disjoint, a.other.1)))
