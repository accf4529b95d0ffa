-- A check has the shape of its stage at every moment of every run.
use Rattle.std.proofs.Common.{◌≡◌, ℕ, List, length, set, ◌≢◌, Ok, Err, refl, sym, ap, ◌∙◌, subst}
use native.Mathlib.Decide.{ℕ_discrete}
use Rattle.field.specs.Field.{Ops, Laws, Spread, page_limit}
use Rattle.refusal.specs.Rules.{Within, Accepted}
use Rattle.calls.specs.declared.standing.Standing.{Standing}
use Rattle.calls.specs.declared.standing.Standing.TheVariants.{Free, Out, Heard, Done}
use Rattle.calls.specs.declared.terms.Terms.{Terms}
use Rattle.calls.specs.declared.question.Question.{Question}
use Rattle.calls.specs.declared.book.Book.{Book}
use Rattle.calls.specs.Questions.{PlainTerms, SecondAsks}
use Rattle.calls.specs.Standings.{SlipOut}
use Rattle.calls.specs.declared.phases.Verdict.{Verdict}
use Rattle.calls.specs.declared.phases.Way.{Way}
use Rattle.calls.specs.declared.phases.Way.TheVariants.{ByWeighing, BySettling}
use Rattle.calls.specs.Slips.{standing, standing_after, Keeps}
use Rattle.calls.specs.Closing.{closing}
use Rattle.calls.specs.Runs.{Stage, closed, Call, Step, Run, slips, takes, returns, weigh_closes, weigh_asks, weigh_refused, settle_closes, settle_refused, lists, opened, called}
use Rattle.calls.proofs.Cleared.{open_cleared, slip_cleared, take_cleared, return_cleared, close_cleared}
use Rattle.calls.proofs.AsksOne.{asks_one}
use Rattle.calls.proofs.Shapes.{StageAsks, Shape}
use Rattle.calls.proofs.StandingsSet.{standing_other, standing_start, not_free, not_done}

-- where an asking ends every reply is in
pub all_done : (b : Book) (room : ℕ) → Accepted (closing b room) → (s : ℕ) → Within 2 b.terms.farm.stations s → standing b s ≡ Done
all_done b room accepted = (close_cleared b room accepted).done

-- one station of 2 .. M moves
stations_then : (b b' : Book) (s : ℕ) (x : Standing) → b'.terms ≡ b.terms → b'.standings ≡ set b.standings s x → Within 2 b.terms.farm.stations s
    → ((t : ℕ) → standing b t ≢ Free → Within 2 b.terms.farm.stations t) → (t : ℕ) → standing b' t ≢ Free → Within 2 b'.terms.farm.stations t
stations_then b b' s x terms is within h t off = subst (λ (u : Terms). Within 2 u.farm.stations t) (sym terms) (elim (ℕ_discrete t s) [
  | yes e ↦ subst (λ t. Within 2 b.terms.farm.stations t) (sym e) within
  | no d ↦ h t (λ free. off (standing_other b.standings s x is t d ∙ free))
])

module _ (f : Ops) where
  stays : {b b' : Book} {g : Stage} → b' ≡ b → Shape f b g → Shape f b' g
  stays {g = g} e h = subst (λ (b : Book). Shape f b g) (sym e) h

  -- its reply was not in
  moved : {b b' : Book} {g : Stage} (s : ℕ) (x : Standing) → Keeps b b' → b'.standings ≡ set b.standings s x → Within 2 b.terms.farm.stations s
      → standing b s ≢ Done → Shape f b g → Shape f b' g
  moved {b} {b'} {g} s x keeps is within off h = record {
    pages = subst (λ (t : Terms). Within 1 (page_limit f) t.farm.pages) (sym keeps.terms) h.pages;
    question =
        subst (λ (q : Question). StageAsks b'.terms g q) (sym keeps.question) (subst (λ (t : Terms). StageAsks t g b.question) (sym keeps.terms) h.question);
    stations = stations_then b b' s x keeps.terms is within h.stations;
    others = λ t inside d.
        let done = h.others t (subst (λ (u : Terms). Within 2 u.farm.stations t) keeps.terms inside) d in
        standing_other b.standings s x is t (λ e. off (ap (standing b) (sym e) ∙ done)) ∙ done;
  }

  -- the slip of a station is out
  slip_moved : {b b' : Book} {g : Stage} (s : ℕ) (x : Standing) → Keeps b b' → b'.standings ≡ set b.standings s x → SlipOut (standing b s)
      → Shape f b g → Shape f b' g
  slip_moved {b} s x keeps is out h = moved s x keeps is (h.stations s (not_free (standing b s) out)) (not_done (standing b s) out) h

  -- a check closes where every reply is in
  closes : {b b' : Book} {g : Stage} (way : Way) (v : Verdict) (room : ℕ) → b' ≡ b → Accepted (closing b room) → Shape f b g → Shape f b' (closed way v)
  closes {b} way v room is accepted h =
      let here : Shape f b (closed way v) = record { pages = h.pages; question = tt; stations = h.stations; others = λ s within _. all_done b room accepted s within } in
      stays is here

  module _ (laws : Laws f) (spread : Spread f) where
    step_kept : {b b' : Book} {g g' : Stage} {c : Call} → Step f b g c b' g' → Shape f b g → Shape f b' g'
    step_kept (slips {b = b} only {s = s} {q = w} {r = Ok slip} asked r) h =
        let cleared = slip_cleared b only s (length w) r.0 in
        moved s Out r.1.keeps r.1.standings cleared.station (λ e. let free = cleared.free in cc) h
    step_kept (slips only {r = Err e} asked r) h = stays r.1 h
    step_kept (takes {b = b} only {p = p} {w = w} {t = t} {r = Ok u} asked r) h =
        slip_moved p.request.station Heard r.1.keeps r.1.standings (take_cleared f b p.request w (length t) r.0).here.1 h
    step_kept (takes only {r = Err e} asked r) h = stays r.1 h
    step_kept (returns {b = b} {p = p} {r = Ok a} r) h =
        slip_moved p.request.station (standing_after a) r.1.keeps r.1.standings (return_cleared b p.request r.0).1 h
    step_kept (returns {r = Err e} r) h = stays r.1 h
    step_kept (weigh_closes {v = v} {t = t} x) h = closes ByWeighing v (length t) x.book x.accepted h
    step_kept (weigh_asks {b = b} {b' = b'} {k = k} {t = t} x) h =
        let asked : (¬ PlainTerms b.terms) × Within 2 b.terms.farm.stations k = asks_one f laws spread b.terms h.pages.1 t k x.ends in
        record {
          pages = subst (λ (t : Terms). Within 1 (page_limit f) t.farm.pages) (sym x.again.terms) h.pages;
          question =
              subst (λ (t : Terms). (¬ PlainTerms t) × Within 2 t.farm.stations k × SecondAsks t b'.question) (sym x.again.terms)
              (asked.0, asked.1, x.again.question);
          stations = stations_then b b' k Free x.again.terms x.again.standings asked.1 h.stations;
          others = λ s within d.
              standing_other b.standings k Free x.again.standings s (λ e. d (sym e))
              ∙ all_done b (length t) x.accepted s (subst (λ (t : Terms). Within 2 t.farm.stations s) x.again.terms within);
        }
    step_kept (weigh_refused e x) h = stays x.1 h
    step_kept (settle_closes {k = k} {v = v} {t = t} x) h = closes (BySettling k) v (length t) x.book x.accepted h
    step_kept (settle_refused e x) h = stays x.1 h
    step_kept (lists x) h = h

-- the terms stay
pub terms_stay : {f : Ops} {b b' : Book} {g g' : Stage} {c : Call} → Step f b g c b' g' → b'.terms ≡ b.terms
terms_stay (slips only {r = Ok p} asked x) = x.1.keeps.terms
terms_stay (slips only {r = Err e} asked x) = ap (λ (b : Book). b.terms) x.1
terms_stay (takes only {r = Ok u} asked x) = x.1.keeps.terms
terms_stay (takes only {r = Err e} asked x) = ap (λ (b : Book). b.terms) x.1
terms_stay (returns {r = Ok r} x) = x.1.keeps.terms
terms_stay (returns {r = Err e} x) = ap (λ (b : Book). b.terms) x.1
terms_stay (weigh_closes x) = ap (λ (b : Book). b.terms) x.book
terms_stay (weigh_asks x) = x.again.terms
terms_stay (weigh_refused e x) = ap (λ (b : Book). b.terms) x.1
terms_stay (settle_closes x) = ap (λ (b : Book). b.terms) x.book
terms_stay (settle_refused e x) = ap (λ (b : Book). b.terms) x.1
terms_stay (lists x) = refl

pub shape_kept : (f : Ops) → Laws f → Spread f → (own tally : List ℕ) (ks : List Call) (b : Book) (g : Stage) → Run f own tally ks b g → Shape f b g
shape_kept f laws spread own tally _ b _ (opened {number = number} {M = M} {N = N} {bound = bound} {t = t} o) = record {
  pages =
      subst (λ N. Within 1 (page_limit f) N) (sym o.terms.2) (open_cleared f number M N bound (length own) (length t) o.accepted).pages;
  question = o.starts.question;
  stations = λ s off. absurd (off (standing_start b.standings o.starts.standings s));
  others = λ s within unasked. absurd (unasked tt);
}
shape_kept f laws spread own tally _ b' _ (called {ks = ks} {b = b} {g = g} r x) = step_kept f laws spread x (shape_kept f laws spread own tally ks b g r)
