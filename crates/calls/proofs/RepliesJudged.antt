-- In every run whose calls share one tally its rows are as told, and weighing and settling did what the rules say of what accepted replies gave.
use Rattle.std.proofs.Common.{◌≡◌, ℕ, List, [], ◌∷◌, length, Ok, Err, Option, refl, sym, ap, ◌∙◌, subst, inl, inr}
use Rattle.field.specs.Field.{Ops, Laws, Spread}
use Rattle.refusal.specs.Rules.{Within}
use Rattle.wire.specs.declared.asked.Asked.{Asked}
use Rattle.wire.specs.declared.asked.Asked.TheVariants.{Sums, Signatures}
use Rattle.scheme.specs.Farm.{Table}
use Rattle.tally.specs.Rows.{sum_in, signature_in}
use Rattle.calls.specs.declared.terms.Terms.{Terms}
use Rattle.calls.specs.declared.question.Question.{Question}
use Rattle.calls.specs.declared.book.Book.{Book}
use Rattle.calls.specs.declared.phases.Way.TheVariants.{ByWeighing, BySettling}
use Rattle.calls.specs.Questions.{PlainTerms}
use Rattle.calls.specs.Slips.{standing}
use Rattle.calls.specs.Closing.{WeighEnds, SettleEnds, WeighsBy}
use Rattle.calls.specs.Runs.{Stage, first, second, closed, AsksOnly, Call, take, Step, Run, slips, takes, returns, weigh_closes, weigh_asks, weigh_refused, settle_closes, settle_refused, lists, opened, called}
use Rattle.calls.specs.Steady.{OneTally}
use Rattle.calls.specs.Replies.{Gives, Replied, AsTold, Unfilled, JudgedBy, SettlesBy, RepliesJudged}
use Rattle.calls.proofs.Cleared.{take_cleared}
use Rattle.calls.proofs.AsksOne.{asks_one}
use Rattle.calls.proofs.Shapes.{StageAsks, Shape}
use Rattle.calls.proofs.ShapesKept.{shape_kept, all_done, terms_stay}
use Rattle.calls.proofs.StandingsSet.{not_free, not_done}
use Rattle.calls.proofs.RepliesIn.{reply_in}
use Rattle.calls.proofs.Indices.{Index}
use Rattle.calls.proofs.Heard.{due_index}
use Rattle.calls.proofs.HeardKept.{Hears, firsts_replied, seconds_replied, asked_here, only_replied, run_heard}
use Rattle.calls.proofs.Stands.{Stands, fewer_told, same_stands, opened_stands, opened_unfilled, taken_stands, taken_unfilled}
use Rattle.calls.proofs.ClosedStands.{weigh_keeps, settle_keeps, signatures_plain, finds_stands}
use Rattle.calls.proofs.JudgedBy.{closes_as, over_not_plain, split_not_plain, weigh_as, asks_as, settle_ends_as}

-- while sums are asked for there are no signatures
abbrev NoneYet : Terms → Stage → (tally : List ℕ) → Type 0
NoneYet t first tally = (¬ PlainTerms t) → Unfilled t tally
NoneYet t (second k) tally = Unfilled t tally
NoneYet t (closed way v) tally = Unit {0}

-- the rows are as told, and what is judged is judged by any tables that are
abbrev Moment : Ops → (own : List ℕ) → Terms → Stage → List Call → (tally : List ℕ) → Type 0
Moment f own t g ks tally = Stands f own t ks tally × NoneYet t g tally × ((T P : Table) → AsTold f own t ks T P → JudgedBy f t T P tally g)

still_none : (t : Terms) (q : Question) (g : Stage) (only : Option ℕ) → AsksOnly g only → StageAsks t g q → (before after : List ℕ)
    → (q.asked ≡ Sums → Unfilled t before → Unfilled t after) → NoneYet t g before → NoneYet t g after
still_none t q first only asked (inl x) before after keeps none = λ not. absurd (not x.0)
still_none t q first only asked (inr x) before after keeps none = λ not. keeps x.1.0 (none not)
still_none t q (second k) only asked x before after keeps none = keeps x.2.0 none
still_none t q (closed way v) only asked x before after keeps none = tt

module _ (f : Ops) (l : Laws f) (spread : Spread f) (own : List ℕ) where
  module _ (b : Book) (ks : List Call) where
    -- a call that takes no reply and writes nothing
    quiet : (g : Stage) (c : Call) (tally tally' : List ℕ) → ((a : Asked) (s i v : ℕ) → ¬ Gives c a s i v) → tally' ≡ tally → Moment f own b.terms g ks tally
        → Moment f own b.terms g (c ∷ ks) tally'
    quiet g c tally tally' nothing e m = subst (Moment f own b.terms g (c ∷ ks)) (sym e) (
      same_stands f own b.terms ks (c ∷ ks) tally (λ a s i v r. elim r [ inl x ↦ absurd (nothing a s i v x) | inr r ↦ r ]) m.0,
      m.1,
      λ T P told. m.2 T P (fewer_told f own b.terms ks (c ∷ ks) T P (λ a s i v. inr) told),
    )

    -- the stage as it is judged before, if it asks
    still_judged : (g : Stage) (only : Option ℕ) → AsksOnly g only → (T P : Table) (tally after : List ℕ) → JudgedBy f b.terms T P tally g
        → JudgedBy f b.terms T P after g
    still_judged first only asked T P tally after j = tt
    still_judged (second k) only asked T P tally after j = j
    still_judged (closed way v) only asked T P tally after j = absurd asked

    module _ (g : Stage) (h : Hears b.terms b g ks) where
      due_here : (a : Asked) (s i v : ℕ) → Replied ks a s i v → Within 2 b.terms.farm.stations s × Index a b.terms.farm.pages i
      due_here a s i v r = let d = h.due a s i v r in (d.0, due_index b.terms g a s i d.1)

      plain_here : (s n v : ℕ) → Replied ks Signatures s n v → PlainTerms b.terms
      plain_here s n v r = signatures_plain b.terms g s n (h.due Signatures s n v r).1

    step_judged : (tally : List ℕ) {c : Call} {b' : Book} {g g' : Stage} → Step f b g c b' g' → Shape f b g → Hears b.terms b g ks
        → ((last : List ℕ) → OneTally tally ks last → Moment f own b.terms g ks last)
        → (last : List ℕ) → OneTally tally (c ∷ ks) last → Moment f own b.terms g' (c ∷ ks) last
    step_judged tally (slips {g = g} only {r = r} asked x) shape h before last one = quiet g _ last last (λ a s i v r. r) refl (before last one)
    step_judged tally (takes {g = g} only {p = p} {w = w} {t = t} {t' = t'} {r = Ok u} asked x) shape h before last (is, one) =
        let m = before t one in
        let cleared = take_cleared f b p.request w (length t) x.0 in
        let a = cleared.here in
        let s = p.request.station in
        let within = shape.stations s (not_free (standing b s) a.1) in
        let out = ap reply_in cleared.asked in
        let here = asked_here f b g shape s within (not_done (standing b s) a.1) only asked in
        subst (Moment f own b.terms g (take p w t (Ok u) t' ∷ ks)) (sym is) (
          taken_stands f own b.terms b.question b.standings g only asked shape.question ks h p w x.1.values t t' u (a.0.2, a.0.3, a.0.4) within
              here out x.1.reply x.1.entered m.0,
          still_none b.terms b.question g only asked shape.question t t'
              (taken_unfilled f own b.terms b.question b.standings g only asked shape.question ks h p w x.1.values t t' u (a.0.2, a.0.3, a.0.4) within
              here out x.1.reply x.1.entered m.0) m.1,
          λ T P told. still_judged g only asked T P t t' (m.2 T P (fewer_told f own b.terms ks (take p w t (Ok u) t' ∷ ks) T P (λ a s i v. inr) told)),
        )
    step_judged tally (takes {g = g} only {t = t} {t' = t'} {r = Err e} asked x) shape h before last (is, one) =
        quiet g _ t last (λ a s i v r. r) (is ∙ x.2) (before t one)
    step_judged tally (returns {g = g} x) shape h before last one = quiet g _ last last (λ a s i v r. r) refl (before last one)
    step_judged tally (weigh_closes {v = v} {t = t} {t' = t'} x) shape h before last (is, one) =
        let m = before t one in
        let done = firsts_replied b.terms b ks shape.question (all_done b (length t) x.accepted) h in
        quiet (closed ByWeighing v) _ t' last (λ a s i v r. r) is (
          finds_stands f own b.terms ks (due_here first h) (plain_here first h) t t' m.0 (WeighEnds f b.terms t)
              (weigh_keeps f b.terms t) v x.finds,
          tt,
          λ T P told. closes_as b.terms (WeighEnds f b.terms t) (WeighsBy f b.terms T P)
              (weigh_as f own b.terms ks (sum_in t b.terms.farm.pages) (signature_in t b.terms.farm.pages) T P m.0.told told done) t t'
              (λ w. m.1 (over_not_plain f b.terms (sum_in t b.terms.farm.pages) (signature_in t b.terms.farm.pages) w))
              (λ n w. m.1 (split_not_plain f b.terms (sum_in t b.terms.farm.pages) (signature_in t b.terms.farm.pages) n w)) v x.finds,
        )
    step_judged tally (weigh_asks {k = k} {t = t} {t' = t'} x) shape h before last (is, one) =
        let m = before t one in
        let done = firsts_replied b.terms b ks shape.question (all_done b (length t) x.accepted) h in
        quiet (second k) _ t last (λ a s i v r. r) (is ∙ x.written) (
          m.0,
          m.1 (asks_one f l spread b.terms shape.pages.1 t k x.ends).0,
          λ T P told. asks_as f own b.terms ks (sum_in t b.terms.farm.pages) (signature_in t b.terms.farm.pages) T P m.0.told told done k x.ends,
        )
    step_judged tally (weigh_refused {t = t} {t' = t'} e x) shape h before last (is, one) =
        quiet first _ t last (λ a s i v r. r) (is ∙ x.2) (before t one)
    step_judged tally (settle_closes {b' = b'} {k = k} {v = v} {t = t} {t' = t'} x) shape h before last (is, one) =
        let m = before t one in
        let seconds = seconds_replied b.terms b k ks shape.question h (all_done b (length t) x.accepted k shape.question.1) in
        quiet (closed (BySettling k) v) _ t' last (λ a s i v r. r) is (
          finds_stands f own b.terms ks (due_here (second k) h) (plain_here (second k) h) t t' m.0 (SettleEnds f b.terms t)
              (settle_keeps f b.terms t shape.question.0) v x.finds,
          tt,
          λ T P told.
              let judged = m.2 T P told in (
                judged,
                closes_as b.terms (SettleEnds f b.terms t) (SettlesBy f b.terms T P)
                    (settle_ends_as f own b.terms ks t T P m.0.told told h.ended l spread shape.pages k shape.question.1 seconds judged)
                    t t' (λ w. m.1) (λ n w. m.1) v x.finds,
              ),
        )
    step_judged tally (settle_refused {k = k} {t = t} {t' = t'} e x) shape h before last (is, one) =
        quiet (second k) _ t last (λ a s i v r. r) (is ∙ x.2) (before t one)
    step_judged tally (lists {g = g} {t = t} x) shape h before last (is, one) = quiet g _ t last (λ a s i v r. r) is (before t one)

run_judged : (f : Ops) → Laws f → Spread f → (own tally : List ℕ) (ks : List Call) (b : Book) (g : Stage) → Run f own tally ks b g
    → (last : List ℕ) → OneTally tally ks last → Moment f own b.terms g ks last
run_judged f l spread own tally _ b _ (opened {number = number} {M = M} {N = N} {bound = bound} {t = t} o) last is = (
  subst (Stands f own b.terms []) (sym is) (opened_stands f own number M N bound t tally b o),
  λ not. subst (Unfilled b.terms) (sym is) (opened_unfilled f own number M N bound t tally b o),
  λ T P told. tt,
)
run_judged f l spread own tally _ b' _ (called {ks = ks} {c = c} {b = b} {g = g} {g' = g'} run step) last one =
    subst (λ t. Moment f own t g' (c ∷ ks) last) (sym (terms_stay step))
    (step_judged f l spread own b ks tally step (shape_kept f l spread own tally ks b g run) (run_heard f l spread own tally ks b g run)
    (λ last one. run_judged f l spread own tally ks b g run last one) last one)

pub replies_judged : RepliesJudged
replies_judged f l spread own tally ks b g run =
    ((run_heard f l spread own tally ks b g run).ended, only_replied f l spread own tally ks b g run, λ last one. let m = run_judged f l spread own tally ks b g run last one in (m.0.told, m.2))
