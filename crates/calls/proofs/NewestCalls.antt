-- The newest accepted call about a request, as one call more is made.
use Rattle.std.proofs.Common.{◌≡◌, ℕ, ◌<◌, ◌↔◌, List, ◌∷◌, length, set, Ok, refl, sym, ap, ◌∙◌, inl, inr}
use native.Mathlib.Decide.{ℕ_discrete}
use Rattle.wire.specs.declared.request.Request.{Request}
use Rattle.wire.specs.Requests.{Same}
use Rattle.calls.specs.declared.standing.Standing.{Standing}
use Rattle.calls.specs.declared.slip.Returned.{Returned}
use Rattle.calls.specs.declared.book.Book.{Book}
use Rattle.calls.specs.Slips.{standing, OfAsking, Keeps}
use Rattle.calls.specs.Runs.{Call, slip, take, return}
use Rattle.calls.specs.States.{IsSlip, IsReply, IsReturn, IsAbout, Newest}
use Rattle.calls.proofs.StandingsSet.{standing_other, standing_same}

-- each of the three is about its request
pub slip_about : (c : Call) (q : Request) → IsSlip c q → IsAbout c q
slip_about (slip s w (Ok p) w') q h = h
slip_about _ q h = absurd h

pub reply_about : (c : Call) (q : Request) → IsReply c q → IsAbout c q
reply_about (take p w t (Ok u) t') q h = h
reply_about _ q h = absurd h

pub return_about : (said : Returned) (c : Call) (q : Request) → IsReturn said c q → IsAbout c q
return_about said (return p (Ok r)) q h = h.0
return_about said _ q h = absurd h

-- a call that is not about q
pub newest_same : (Does : Call → Request → Type 0) → ((c : Call) (q : Request) → Does c q → IsAbout c q) → (c : Call) (ks : List Call) (q : Request)
    → ¬ IsAbout c q → Newest Does (c ∷ ks) q → Newest Does ks q
newest_same Does about c ks q not (inl d) = absurd (not (about c q d))
newest_same Does about c ks q not (inr n) = n.1

-- requests of one asking to one station are the same
pub same_asked : (b : Book) (s : ℕ) (p q : Request) → OfAsking b s p → OfAsking b q.station q → q.station ≡ s → Same p q
same_asked b s p q a c e = (a.0 ∙ sym c.0, a.1 ∙ sym e, a.2 ∙ sym c.2, a.3 ∙ sym c.3, a.4 ∙ sym c.4)

pub asks_same : (b : Book) (s : ℕ) (p q : Request) → OfAsking b s p → Same p q → OfAsking b q.station q
asks_same b s p q a e = (sym e.0 ∙ a.0, refl, sym e.2 ∙ a.2, sym e.3 ∙ a.3, sym e.4 ∙ a.4)

pub asks_kept : (b b' : Book) → Keeps b b' → (s : ℕ) (q : Request) → OfAsking b' s q → OfAsking b s q
asks_kept b b' keeps s q a =
    (a.0 ∙ ap (λ t. t.number) keeps.terms, a.1, a.2 ∙ ap (λ t. t.asked) keeps.question, a.3 ∙ ap (λ t. t.first) keeps.question, a.4 ∙ ap (λ t. t.last) keeps.question)

-- ── an accepted call about p, a request of this asking to station s, and its station moves
module _ (b b' : Book) (s : ℕ) (p : Request) (y : Standing) (keeps : Keeps b b') (is : b'.standings ≡ set b.standings s y) (inside : s < length b.standings)
    (asks : OfAsking b s p) (c : Call) (ks : List Call) (about : (q : Request) → IsAbout c q → Same p q) (same_about : (q : Request) → Same p q → IsAbout c q) where
  pub moved : (Does : Call → Request → Type 0) (x : Standing) → ((q : Request) → Does c q → Same p q × (y ≡ x)) → ((q : Request) → Same p q → y ≡ x → Does c q)
      → (q : Request) → (OfAsking b q.station q → (standing b q.station ≡ x) ↔ Newest Does ks q)
      → OfAsking b' q.station q → (standing b' q.station ≡ x) ↔ Newest Does (c ∷ ks) q
  moved Does x does made q old asked = (there, back)
    where
      this : OfAsking b q.station q
      this = asks_kept b b' keeps q.station q asked

      here : q.station ≡ s → standing b' q.station ≡ y
      here e = ap (standing b') e ∙ standing_same b.standings s y is inside

      other : (q.station ≡ s → ⊥) → standing b' q.station ≡ standing b q.station
      other d = standing_other b.standings s y is q.station d

      there : standing b' q.station ≡ x → Newest Does (c ∷ ks) q
      there st = elim (ℕ_discrete q.station s) [
        | yes e ↦ inl (made q (same_asked b s p q asks this e) (sym (here e) ∙ st))
        | no d ↦ inr ((λ a. d (sym (about q a).1 ∙ asks.1)), (old this).0 (sym (other d) ∙ st))
      ]

      back : Newest Does (c ∷ ks) q → standing b' q.station ≡ x
      back (inl d) = let m = does q d in here (sym m.0.1 ∙ asks.1) ∙ m.1
      back (inr n) = elim (ℕ_discrete q.station s) [
        | yes e ↦ absurd (n.0 (same_about q (same_asked b s p q asks this e)))
        | no d ↦ other d ∙ (old this).1 n.1
      ]
