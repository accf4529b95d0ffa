-- What was replied while an asking is on: what each station whose reply is in was asked for, and nothing of one whose reply is not.
use Rattle.std.proofs.Common.{◌≡◌, ℕ, ◌-◌, ◌<◌, List, ◌∷◌, drop, slice_index, length, set, Ok, Option, refl, sym, ap, ◌∙◌, subst, inl, inr, arith}
use native.Mathlib.Decide.{ℕ_discrete}
use Rattle.refusal.specs.Rules.{Within}
use Rattle.wire.specs.Words.{value_of}
use Rattle.wire.specs.declared.asked.Asked.{Asked}
use Rattle.wire.specs.declared.asked.Asked.TheVariants.{Sums, Signatures}
use Rattle.calls.specs.declared.standing.Standing.{Standing}
use Rattle.calls.specs.declared.standing.Standing.TheVariants.{Heard as Took}
use Rattle.calls.specs.declared.terms.Terms.{Terms}
use Rattle.calls.specs.declared.question.Question.{Question}
use Rattle.calls.specs.declared.slip.Slip.{Slip}
use Rattle.calls.specs.declared.phases.Way.TheVariants.{ByWeighing, BySettling}
use Rattle.calls.specs.Standings.{standing_of}
use Rattle.calls.specs.Runs.{Stage, first, second, closed, Call, take, AsksOnly}
use Rattle.calls.specs.Replies.{Gives, Replied, RepliedTo, FirstReplied, AllReplied, FirstAsked, SecondAsked, AskedFor}
use Rattle.calls.specs.States.{AskedAt}
use Rattle.calls.proofs.Shapes.{StageAsks}
use Rattle.calls.proofs.RepliesIn.{reply_in}
use Rattle.calls.proofs.StandingsSet.{standing_other, standing_same}
use Rattle.calls.proofs.Indices.{Index}
use Rattle.calls.proofs.FirstSums.{first_sums_between}

-- all that was replied is
abbrev pub More : (ks more : List Call) → Type 0
More ks more = (a : Asked) (s i v : ℕ) → Replied ks a s i v → Replied more a s i v

module _ (ks more : List Call) (up : More ks more) where
  replied_to_more : (a : Asked) (s from to : ℕ) → RepliedTo ks a s from to → RepliedTo more a s from to
  replied_to_more a s from to h i w = let x = h i w in (x.0, up a s i x.0 x.1)

  first_more : (t : Terms) → FirstReplied ks t → FirstReplied more t
  first_more t h s w = elim (h s w) [
    | inl x ↦ inl (x.0, replied_to_more Signatures s _ _ x.1)
    | inr x ↦ inr (x.0, replied_to_more Sums s _ _ x.1)
  ]

  all_more : (t : Terms) (g : Stage) → AllReplied ks t g → AllReplied more t g
  all_more t first h = tt
  all_more t (second k) h = first_more t h
  all_more t (closed ByWeighing v) h = first_more t h
  all_more t (closed (BySettling k) v) h = (first_more t h.0, replied_to_more Sums k _ _ h.1)

pub record Heard (t : Terms) (q : Question) (xs : List Standing) (g : Stage) (ks : List Call) : Type 0 where
  pub due : (a : Asked) (s i v : ℕ) → Replied ks a s i v → Within 2 t.farm.stations s × AskedFor t g a s i
  pub none : (s i v : ℕ) → AskedAt g s → reply_in (standing_of xs s) ≡ 0 → Within q.first q.last i → ¬ Replied ks q.asked s i v
  pub heard : (s : ℕ) → Within 2 t.farm.stations s → AskedAt g s → reply_in (standing_of xs s) ≡ 1 → RepliedTo ks q.asked s q.first q.last
  pub ended : AllReplied ks t g

-- what is asked for now
asked_now : (t : Terms) (q : Question) (g : Stage) (only : Option ℕ) → AsksOnly g only → StageAsks t g q → (a : Asked) (s i : ℕ) → AskedAt g s → a ≡ q.asked
    → Within q.first q.last i → AskedFor t g a s i
asked_now t q first only o (inl x) a s i here is w = inl (x.0, is ∙ x.1.0, omega (arith, w, x.1.1, x.1.2))
asked_now t q first only o (inr x) a s i here is w = inr (x.0, is ∙ x.1.0, omega (arith, w, x.1.1, x.1.2))
asked_now t q (second k) only o x a s i here is w = inr (here, is ∙ x.2.0, omega (arith, w, x.2.1, x.2.2))
asked_now t q (closed way v) only o x a s i here is w = absurd o

-- what is asked for may be
first_index : (t : Terms) (a : Asked) (i : ℕ) → FirstAsked t a i → Index a t.farm.pages i
first_index t a i (inl x) = subst (λ a. Index a t.farm.pages i) (sym x.1) x.2
first_index t a i (inr x) =
    subst (λ a. Index a t.farm.pages i) (sym x.1) (omega (arith, x.2, first_sums_between t.farm.stations t.farm.bound t.farm.bound_in.0, t.farm.bound_in.1))

second_index : (t : Terms) (k : ℕ) (a : Asked) (s i : ℕ) → SecondAsked t k a s i → Index a t.farm.pages i
second_index t k a s i x = subst (λ a. Index a t.farm.pages i) (sym x.1) (omega (arith, x.2, t.farm.bound_in.1))

pub due_index : (t : Terms) (g : Stage) (a : Asked) (s i : ℕ) → AskedFor t g a s i → Index a t.farm.pages i
due_index t first a s i d = first_index t a i d
due_index t (second k) a s i (inl d) = first_index t a i d
due_index t (second k) a s i (inr d) = second_index t k a s i d
due_index t (closed ByWeighing v) a s i d = first_index t a i d
due_index t (closed (BySettling k) v) a s i (inl d) = first_index t a i d
due_index t (closed (BySettling k) v) a s i (inr d) = second_index t k a s i d

module _ (t : Terms) (q : Question) (g : Stage) where
  -- nothing is replied
  pub same_heard : (xs : List Standing) (ks more : List Call) → More ks more → More more ks → Heard t q xs g ks → Heard t q xs g more
  same_heard xs ks more up down h = record {
    due = λ a s i v r. h.due a s i v (down a s i v r);
    none = λ s i v asked out w r. h.none s i v asked out w (down q.asked s i v r);
    heard = λ s w asked r_in. replied_to_more ks more up q.asked s q.first q.last (h.heard s w asked r_in);
    ended = all_more ks more up t g h.ended;
  }

  -- a call that takes no reply
  pub quiet : (xs : List Standing) (ks : List Call) (c : Call) → ((a : Asked) (s i v : ℕ) → ¬ Gives c a s i v) → Heard t q xs g ks → Heard t q xs g (c ∷ ks)
  quiet xs ks c nothing = same_heard xs ks (c ∷ ks) (λ a s i v. inr) (λ a s i v r. elim r [ inl x ↦ absurd (nothing a s i v x) | inr r ↦ r ])

  module _ (xs ys : List Standing) (s : ℕ) (x : Standing) (is : ys ≡ set xs s x) (inside : s < length xs) where
    stays_in : reply_in (standing_of xs s) ≡ reply_in x → (u : ℕ) → reply_in (standing_of ys u) ≡ reply_in (standing_of xs u)
    stays_in same u = elim (ℕ_discrete u s) [
      | yes e ↦ ap (λ u. reply_in (standing_of ys u)) e ∙ ap reply_in (standing_same xs s x is inside) ∙ sym same ∙ ap (λ u. reply_in (standing_of xs u)) (sym e)
      | no d ↦ ap reply_in (standing_other xs s x is u d)
    ]

    -- a station moves, and its reply is in as before
    pub moved_heard : (ks : List Call) → reply_in (standing_of xs s) ≡ reply_in x → Heard t q xs g ks → Heard t q ys g ks
    moved_heard ks same h = record {
      due = h.due;
      none = λ u i v asked out. h.none u i v asked (sym (stays_in same u) ∙ out);
      heard = λ u w asked r_in. h.heard u w asked (sym (stays_in same u) ∙ r_in);
      ended = h.ended;
    }

    -- its reply is taken
    pub taken_heard : (only : Option ℕ) → AsksOnly g only → StageAsks t g q → (ks : List Call) (p : Slip) (words before after : List ℕ) (u : Unit {0})
        → (p.request.station ≡ s) × (p.request.asked ≡ q.asked) × (p.request.first ≡ q.first) × (p.request.last ≡ q.last)
        → Within 2 t.farm.stations s → AskedAt g s → x ≡ Took → Heard t q xs g ks → Heard t q ys g (take p words before (Ok u) after ∷ ks)
    taken_heard only o asks ks p words before after u same within here took h = record { due = due; none = none; heard = heard; ended = all_more ks now (λ a s i v. inr) t g h.ended }
      where
        now : List Call
        now = take p words before (Ok u) after ∷ ks

        due : (a : Asked) (s i v : ℕ) → Replied now a s i v → Within 2 t.farm.stations s × AskedFor t g a s i
        due a y i v (inl r) = (subst (λ s. Within 2 t.farm.stations s) (sym same.0 ∙ r.0) within, asked_now t q g only o asks a y i (subst (AskedAt g) (sym same.0 ∙ r.0) here) (sym r.1 ∙ same.1) (omega (arith, r.2, same.2, same.3)))
        due a y i v (inr r) = h.due a y i v r

        none : (y i v : ℕ) → AskedAt g y → reply_in (standing_of ys y) ≡ 0 → Within q.first q.last i → ¬ Replied now q.asked y i v
        none y i v asked out w r = elim (ℕ_discrete y s) [
          | yes e ↦ omega (arith, out, ap (λ y. reply_in (standing_of ys y)) e, ap reply_in (standing_same xs s x is inside), ap reply_in took)
          | no d ↦ elim r [
            | inl r ↦ d (sym r.0 ∙ same.0)
            | inr r ↦ h.none y i v asked (sym (ap reply_in (standing_other xs s x is y d)) ∙ out) w r
          ]
        ]

        heard : (y : ℕ) → Within 2 t.farm.stations y → AskedAt g y → reply_in (standing_of ys y) ≡ 1 → RepliedTo now q.asked y q.first q.last
        heard y within asked r_in i w = elim (ℕ_discrete y s) [
          | yes e ↦ (value_of (slice_index (drop 4 words) (i - p.request.first)), inl (same.0 ∙ sym e, same.1, (omega (arith, w, same.2), omega (arith, w, same.3)), refl))
          | no d ↦
              let x = h.heard y within asked (sym (ap reply_in (standing_other xs s x is y d)) ∙ r_in) i w in
              (x.0, inr x.1)
        ]
