-- At every moment of every run it is known what was replied.
use Rattle.std.proofs.Common.{◌≡◌, ℕ, ◌-◌, ◌<◌, drop, get_or, List, ◌∷◌, length, Ok, Err, Option, refl, sym, ap, ◌∙◌, subst, inl, inr, arith}
use native.Mathlib.Decide.{ℕ_discrete}
use Rattle.field.specs.Field.{Ops, Laws, Spread}
use Rattle.refusal.specs.Rules.{Within}
use Rattle.wire.specs.Words.{value_of}
use Rattle.wire.specs.declared.asked.Asked.{Asked}
use Rattle.calls.specs.declared.standing.Standing.{Standing}
use Rattle.calls.specs.declared.standing.Standing.TheVariants.{Free, Out, Heard as Took, Done}
use Rattle.calls.specs.declared.terms.Terms.{Terms}
use Rattle.calls.specs.declared.question.Question.{Question}
use Rattle.calls.specs.declared.book.Book.{Book}
use Rattle.calls.specs.declared.phases.Verdict.{Verdict}
use Rattle.calls.specs.declared.phases.Way.{Way}
use Rattle.calls.specs.declared.phases.Way.TheVariants.{ByWeighing, BySettling}
use Rattle.calls.specs.Questions.{PlainTerms, FirstAsks}
use Rattle.calls.specs.Slips.{standing, standing_after}
use Rattle.calls.specs.Closing.{WeighAsks}
use Rattle.calls.specs.Runs.{Stage, first, second, closed, AsksOnly, Call, Step, Run, slips, takes, returns, weigh_closes, weigh_asks, weigh_refused, settle_closes, settle_refused, lists, opened, called}
use Rattle.calls.specs.Replies.{Gives, Replied, OnlyReplied, RepliedTo, FirstReplied, SecondReplied, AllReplied, AskedFor}
use Rattle.calls.proofs.Cleared.{slip_cleared, take_cleared, return_cleared}
use Rattle.calls.proofs.AsksOne.{asks_one}
use Rattle.calls.specs.States.{AskedAt}
use Rattle.calls.proofs.Shapes.{StageAsks, Shape}
use Rattle.calls.proofs.ShapesKept.{shape_kept, all_done, terms_stay}
use Rattle.calls.proofs.StandingsSet.{place_inside, standing_same, standing_start, not_free, not_done}
use Rattle.calls.proofs.RepliesIn.{reply_in, reply_stays}
use Rattle.calls.proofs.Heard.{Heard, quiet, moved_heard, taken_heard}

-- what was replied, by a book at a stage
abbrev pub Hears : Terms → Book → Stage → List Call → Type 0
Hears t b g ks = Heard t b.question b.standings g ks

-- a station that told the question of its asking
replied_as : (ks : List Call) (s : ℕ) {a a' : Asked} {from to from' to' : ℕ} → a ≡ a' → from ≡ from' → to ≡ to' → RepliedTo ks a s from to → RepliedTo ks a' s from' to'
replied_as ks s is lo up h i w = let x = h i (omega arith) in (x.0, subst (λ a. Replied ks a s i x.0) is x.1)

-- all are done with the first asking
pub firsts_replied : (t : Terms) (b : Book) (ks : List Call) → FirstAsks t b.question → ((s : ℕ) → Within 2 t.farm.stations s → standing b s ≡ Done)
    → Hears t b first ks → FirstReplied ks t
firsts_replied t b ks (inl x) done h s w = inl (x.0, replied_as ks s x.1.0 x.1.1 x.1.2 (h.heard s w tt (ap reply_in (done s w))))
firsts_replied t b ks (inr x) done h s w = inr (x.0, replied_as ks s x.1.0 x.1.1 x.1.2 (h.heard s w tt (ap reply_in (done s w))))

-- and station k with the second
pub seconds_replied : (t : Terms) (b : Book) (k : ℕ) (ks : List Call) → StageAsks t (second k) b.question → Hears t b (second k) ks → standing b k ≡ Done
    → SecondReplied ks t k
seconds_replied t b k ks a h done = replied_as ks k a.2.0 a.2.1 a.2.2 (h.heard k a.1 refl (ap reply_in done))

closed_heard : {t : Terms} {q : Question} {xs : List Standing} {g : Stage} {ks : List Call} (way : Way) (v : Verdict)
    → ((a : Asked) (s i : ℕ) → AskedFor t g a s i → AskedFor t (closed way v) a s i) → AllReplied ks t (closed way v)
    → Heard t q xs g ks → Heard t q xs (closed way v) ks
closed_heard way v asked all h = record {
  due = λ a s i v r. let d = h.due a s i v r in (d.0, asked a s i d.1);
  none = λ s i v asked. absurd asked;
  heard = λ s w asked. absurd asked;
  ended = all;
}

-- who replies is asked
pub asked_here : (f : Ops) (b : Book) (g : Stage) → Shape f b g → (s : ℕ) → Within 2 b.terms.farm.stations s → ¬ (standing b s ≡ Done) → (only : Option ℕ)
    → AsksOnly g only → AskedAt g s
asked_here f b first shape s w off only asked = tt
asked_here f b (second k) shape s w off only asked = elim (ℕ_discrete k s) [
  | yes e ↦ e
  | no d ↦ absurd (off (shape.others s w d))
]
asked_here f b (closed way v) shape s w off only asked = absurd asked

module _ (f : Ops) (l : Laws f) (spread : Spread f) (b : Book) (ks : List Call) where
  with_question : (b' : Book) {g : Stage} {ks' : List Call} → b'.question ≡ b.question → Heard b.terms b.question b'.standings g ks' → Hears b.terms b' g ks'
  with_question b' {g} {ks'} e h = subst (λ q. Heard b.terms q b'.standings g ks') (sym e) h

  with_book : {b' : Book} {g : Stage} {ks' : List Call} → b' ≡ b → Hears b.terms b g ks' → Hears b.terms b' g ks'
  with_book {b'} {g} {ks'} e h = subst (λ b'. Hears b.terms b' g ks') (sym e) h

  asked_now : (k : ℕ) (b' : Book) (t t' : List ℕ) → WeighAsks f b t k b' t' → Shape f b first → Hears b.terms b first ks → Hears b.terms b' (second k) ks
  asked_now k b' t t' x shape h = record { due = due; none = none; heard = heard; ended = firsts_replied b.terms b ks shape.question (all_done b (length t) x.accepted) h }
    where
      asked : (¬ PlainTerms b.terms) × Within 2 b.terms.farm.stations k
      asked = asks_one f l spread b.terms shape.pages.1 t k x.ends

      free : standing b' k ≡ Free
      free = standing_same b.standings k Free x.again.standings (place_inside b k asked.1)

      due : (a : Asked) (s i v : ℕ) → Replied ks a s i v → Within 2 b.terms.farm.stations s × AskedFor b.terms (second k) a s i
      due a s i v r = let d = h.due a s i v r in (d.0, inl d.1)

      none : (s i v : ℕ) → AskedAt (second k) s → reply_in (standing b' s) ≡ 0 → Within b'.question.first b'.question.last i → ¬ Replied ks b'.question.asked s i v
      none s i v a out w r = elim (h.due b'.question.asked s i v r).1 [
        | inl y ↦ asked.0 y.0
        | inr y ↦ omega (arith, y.2, w, x.again.question.1)
      ]

      heard : (s : ℕ) → Within 2 b.terms.farm.stations s → AskedAt (second k) s → reply_in (standing b' s) ≡ 1
          → RepliedTo ks b'.question.asked s b'.question.first b'.question.last
      heard s w a r_in = absurd (omega (arith, r_in, ap (λ s. reply_in (standing b' s)) (sym a), ap reply_in free))

  step_heard : {c : Call} {b' : Book} {g g' : Stage} → Step f b g c b' g' → Shape f b g → Hears b.terms b g ks → Hears b.terms b' g' (c ∷ ks)
  step_heard (slips {b' = b'} {g = g} only {s = s} {q = w} {r = Ok p} asked x) shape h =
      let cleared = slip_cleared b only s (length w) x.0 in
      quiet b.terms b'.question g b'.standings ks _ (λ a s i v r. r)
      (with_question b' x.1.keeps.question
      (moved_heard b.terms b.question g b.standings b'.standings s Out x.1.standings (place_inside b s cleared.station) ks
      (ap reply_in cleared.free) h))
  step_heard (slips {b' = b'} {g = g} only {r = Err e} asked x) shape h = quiet b.terms b'.question g b'.standings ks _ (λ a s i v r. r) (with_book x.1 h)
  step_heard (takes {b' = b'} {g = g} only {p = p} {w = w} {t = t} {t' = t'} {r = Ok u} asked x) shape h =
      let a = (take_cleared f b p.request w (length t) x.0).here in
      let within = shape.stations p.request.station (not_free (standing b p.request.station) a.1) in
      with_question b' x.1.keeps.question
      (taken_heard b.terms b.question g b.standings b'.standings p.request.station Took x.1.standings (place_inside b p.request.station within)
      only asked shape.question ks p w t t' u (refl, a.0.2, a.0.3, a.0.4) within
      (asked_here f b g shape p.request.station within (not_done (standing b p.request.station) a.1) only asked) refl h)
  step_heard (takes {b' = b'} {g = g} only {r = Err e} asked x) shape h = quiet b.terms b'.question g b'.standings ks _ (λ a s i v r. r) (with_book x.1 h)
  step_heard (returns {b' = b'} {g = g} {p = p} {r = Ok r} x) shape h =
      let s = p.request.station in
      let here = return_cleared b p.request x.0 in
      quiet b.terms b'.question g b'.standings ks _ (λ a s i v r. r)
      (with_question b' x.1.keeps.question
      (moved_heard b.terms b.question g b.standings b'.standings s (standing_after r) x.1.standings
      (place_inside b s (shape.stations s (not_free (standing b s) here.1))) ks
      (reply_stays (standing b s) r here.1 x.1.says) h))
  step_heard (returns {b' = b'} {g = g} {r = Err e} x) shape h = quiet b.terms b'.question g b'.standings ks _ (λ a s i v r. r) (with_book x.1 h)
  step_heard (weigh_closes {b' = b'} {v = v} {t = t} x) shape h =
      quiet b.terms b'.question (closed ByWeighing v) b'.standings ks _ (λ a s i v r. r)
      (with_book x.book (closed_heard ByWeighing v (λ a s i d. d) (firsts_replied b.terms b ks shape.question (all_done b (length t) x.accepted) h) h))
  step_heard (weigh_asks {b' = b'} {k = k} {t = t} {t' = t'} x) shape h =
      quiet b.terms b'.question (second k) b'.standings ks _ (λ a s i v r. r) (asked_now k b' t t' x shape h)
  step_heard (weigh_refused {b' = b'} e x) shape h = quiet b.terms b'.question first b'.standings ks _ (λ a s i v r. r) (with_book x.1 h)
  step_heard (settle_closes {b' = b'} {k = k} {v = v} {t = t} x) shape h =
      let done = all_done b (length t) x.accepted k shape.question.1 in
      quiet b.terms b'.question (closed (BySettling k) v) b'.standings ks _ (λ a s i v r. r)
      (with_book x.book (closed_heard (BySettling k) v (λ a s i d. d) (h.ended, seconds_replied b.terms b k ks shape.question h done) h))
  step_heard (settle_refused {b' = b'} {k = k} e x) shape h = quiet b.terms b'.question (second k) b'.standings ks _ (λ a s i v r. r) (with_book x.1 h)
  step_heard (lists {g = g} x) shape h = quiet b.terms b.question g b.standings ks _ (λ a s i v r. r) h

pub run_heard : (f : Ops) → Laws f → Spread f → (own tally : List ℕ) (ks : List Call) (b : Book) (g : Stage) → Run f own tally ks b g → Hears b.terms b g ks
run_heard f l spread own tally _ b _ (opened o) = record {
  due = λ a s i v r. absurd r;
  none = λ s i v asked out w r. r;
  heard = λ s w asked r_in. absurd (omega (arith, r_in, ap reply_in (standing_start b.standings o.starts.standings s)));
  ended = tt;
}
run_heard f l spread own tally _ b' g' (called {ks = ks} {c = c} {b = b} {g = g} run step) =
    subst (λ t. Hears t b' g' (c ∷ ks)) (sym (terms_stay step))
    (step_heard f l spread b ks step (shape_kept f l spread own tally ks b g run) (run_heard f l spread own tally ks b g run))

-- the values of an accepted reply are codes
step_codes : (f : Ops) {b b' : Book} {g g' : Stage} {c : Call} → Step f b g c b' g' → (a : Asked) (s i v : ℕ) → Gives c a s i v → v < f.size
step_codes f (takes only {p = p} {w = w} {r = Ok u} asked x) a s i v r =
    let reply = x.1.reply in
    let values = x.1.values in
    subst (λ v. v < f.size) (ap (λ xs. value_of (get_or xs (i - p.request.first) 0)) (sym (ap (λ w. drop 4 w) reply.parts)) ∙ r.3)
    (reply.codes (i - p.request.first) (omega (arith, reply.count, r.2)))
step_codes f (takes only {r = Err e} asked x) a s i v r = absurd r
step_codes f (slips only asked x) a s i v r = absurd r
step_codes f (returns x) a s i v r = absurd r
step_codes f (weigh_closes x) a s i v r = absurd r
step_codes f (weigh_asks x) a s i v r = absurd r
step_codes f (weigh_refused e x) a s i v r = absurd r
step_codes f (settle_closes x) a s i v r = absurd r
step_codes f (settle_refused e x) a s i v r = absurd r
step_codes f (lists x) a s i v r = absurd r

pub run_codes : (f : Ops) (own tally : List ℕ) (ks : List Call) (b : Book) (g : Stage) → Run f own tally ks b g → (a : Asked) (s i v : ℕ) → Replied ks a s i v
    → v < f.size
run_codes f own tally _ b _ (opened o) a s i v r = absurd r
run_codes f own tally _ b' g' (called run step) a s i v (inl r) = step_codes f step a s i v r
run_codes f own tally _ b' g' (called {ks = ks} {b = b} {g = g} run step) a s i v (inr r) = run_codes f own tally ks b g run a s i v r

pub only_replied : (f : Ops) → Laws f → Spread f → (own tally : List ℕ) (ks : List Call) (b : Book) (g : Stage) → Run f own tally ks b g
    → OnlyReplied f ks b.terms g
only_replied f l spread own tally ks b g run a s i v r =
    let d = (run_heard f l spread own tally ks b g run).due a s i v r in (d.0, d.1, run_codes f own tally ks b g run a s i v r)
