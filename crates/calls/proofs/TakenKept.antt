-- At every moment of every run a check has taken what its stage says, and so never more than the most.
use Rattle.std.proofs.Common.{◌≡◌, ℕ, ◌+◌, ◌-◌, ◌*◌, ◌≤◌, List, length, set, Option, Ok, Err, sym, refl, ap, ap₂, ◌∙◌, subst, arith}
use Rattle.std.proofs.Math.Nat.{mul-add}
use native.Mathlib.Decide.{ℕ_discrete}
use Rattle.field.specs.Field.{Ops, Laws, Spread}
use Rattle.refusal.specs.Rules.{Within}
use Rattle.scheme.specs.Askings.{first_sums}
use Rattle.calls.specs.declared.standing.Standing.{Standing}
use Rattle.calls.specs.declared.standing.Standing.TheVariants.{Free, Out, Heard}
use Rattle.calls.specs.declared.terms.Terms.{Terms}
use Rattle.calls.specs.declared.counts.Counts.{Counts}
use Rattle.calls.specs.declared.slip.Returned.{Returned}
use Rattle.calls.specs.declared.slip.Returned.TheVariants.{Answered, Blank}
use Rattle.calls.specs.declared.book.Book.{Book}
use Rattle.calls.specs.Questions.{PlainTerms}
use Rattle.calls.specs.Slips.{standing, standing_after, one_back, Keeps}
use Rattle.calls.specs.Closing.{WeighAsks}
use Rattle.calls.specs.Runs.{Stage, first, second, closed, AsksOnly, Call, Step, Run, slips, takes, returns, weigh_closes, weigh_asks, weigh_refused, settle_closes, settle_refused, lists, opened, called}
use Rattle.calls.proofs.Cleared.{slip_cleared, take_cleared, return_cleared}
use Rattle.calls.proofs.AsksOne.{asks_one}
use Rattle.calls.proofs.Shapes.{Shape}
use Rattle.calls.proofs.ShapesKept.{shape_kept, all_done}
use Rattle.calls.proofs.StandingsSet.{place_inside, standing_other, standing_same, standing_start, not_free}
use Rattle.calls.proofs.RepliesIn.{reply_in, reply_stays, replies_in, replies_moved, no_replies_in, all_replies_in}
use Rattle.calls.proofs.ValuesPerReply.{per_reply, values_per_reply}
use Rattle.calls.proofs.TakenByStage.{most_of, all_first, TakenBy, sums_due, taken_few}

-- ── one station moves, and the terms and the question stay
module _ (b b' : Book) (s : ℕ) (x : Standing) (keeps : Keeps b b') (is : b'.standings ≡ set b.standings s x) (within : Within 2 b.terms.farm.stations s) where
  -- how many replies are in
  replies_then : replies_in b'.terms.farm.stations b'.standings + reply_in (standing b s) ≡ replies_in b.terms.farm.stations b.standings + reply_in x
  replies_then =
      omega (
        arith,
        ap (λ (t : Terms). replies_in t.farm.stations b'.standings) keeps.terms,
        replies_moved b.terms.farm.stations b.standings s x is within (place_inside b s within),
      )

  here : standing b' s ≡ x
  here = standing_same b.standings s x is (place_inside b s within)

  -- the same question is for as many
  due_then : per_reply b'.question ≡ per_reply b.question
  due_then = ap per_reply keeps.question

  reply_then : (k : ℕ) → reply_in (standing b s) ≡ reply_in x → reply_in (standing b' k) ≡ reply_in (standing b k)
  reply_then k same = elim (ℕ_discrete k s) [
    | yes e ↦ ap (λ t. reply_in (standing b' t)) e ∙ ap reply_in here ∙ sym same ∙ ap (λ t. reply_in (standing b t)) (sym e)
    | no d ↦ ap reply_in (standing_other b.standings s x is k d)
  ]

  -- a slip is handed out or comes back
  nothing_taken : (g : Stage) → reply_in (standing b s) ≡ reply_in x → b'.counts.taken ≡ b.counts.taken → TakenBy b g → TakenBy b' g
  nothing_taken first same taken h =
      let as_many : replies_in b.terms.farm.stations b.standings ≡ replies_in b'.terms.farm.stations b'.standings = omega (arith, replies_then) in
      taken ∙ h ∙ ap₂ ◌*◌ (sym due_then) as_many
  nothing_taken (second k) same taken h =
      taken ∙ h ∙ ap₂ ◌+◌ (ap all_first (sym keeps.terms)) (ap₂ ◌*◌ (sym due_then) (sym (reply_then k same)))
  nothing_taken (closed way v) same taken h = omega (arith, ap most_of keeps.terms)

  -- a reply is taken; in the second asking only the station that is asked again has none in
  reply_taken : (f : Ops) (g : Stage) (only : Option ℕ) → AsksOnly g only → standing b s ≡ Out → x ≡ Heard
      → b'.counts.taken ≡ b.counts.taken + per_reply b.question → Shape f b g → TakenBy b g → TakenBy b' g
  reply_taken f first only asked out heard taken shape h =
      let n = replies_in b.terms.farm.stations b.standings in
      let d = per_reply b.question in
      let one_more : replies_in b'.terms.farm.stations b'.standings ≡ n + 1 = omega (arith, replies_then, ap reply_in out, ap reply_in heard) in
      omega (arith, ap₂ ◌*◌ due_then one_more, mul-add d n 1)
  reply_taken f (second k) only asked out heard taken shape h = elim (ℕ_discrete s k) [
    | yes e ↦
        let before : reply_in (standing b k) ≡ 0 = ap (λ t. reply_in (standing b t)) (sym e) ∙ ap reply_in out in
        let after : reply_in (standing b' k) ≡ 1 = ap (λ t. reply_in (standing b' t)) (sym e) ∙ ap reply_in (here ∙ heard) in
        let d = per_reply b.question in
        omega (arith, ap (λ m. d * m) before, ap₂ ◌*◌ due_then after, ap all_first keeps.terms)
    | no d ↦ absurd (let done = shape.others s within (λ e. d (sym e)) in cc)
  ]
  reply_taken f (closed way v) only asked out heard taken shape h = absurd asked

taken_back : (r : Returned) (c : Counts) → (one_back r c).taken ≡ c.taken
taken_back Answered c = refl
taken_back Blank c = refl

-- all first sums are in, and the station that is asked again told none of the others yet
asked_again : (f : Ops) → Laws f → Spread f → (b b' : Book) (k : ℕ) (t t' : List ℕ) → WeighAsks f b t k b' t' → Shape f b first
    → TakenBy b first → TakenBy b' (second k)
asked_again f laws spread b b' k t t' x shape taken =
    let again = x.again in
    let asked : (¬ PlainTerms b.terms) × Within 2 b.terms.farm.stations k = asks_one f laws spread b.terms shape.pages.1 t k x.ends in
    let due : per_reply b.question ≡ first_sums b.terms.farm.stations b.terms.farm.bound = sums_due b.terms b.question shape.question asked.0 in
    let all : replies_in b.terms.farm.stations b.standings ≡ b.terms.farm.stations - 1 =
    all_replies_in b.terms.farm.stations b.standings (all_done b (length t) x.accepted) in
    let free : standing b' k ≡ Free = standing_same b.standings k Free again.standings (place_inside b k asked.1) in
    omega (arith, ap (λ (c : Counts). c.taken) again.counts, taken, ap₂ ◌*◌ due all, ap all_first again.terms, ap (λ x. per_reply b'.question * reply_in x) free)

stays : {b b' : Book} (g : Stage) → b' ≡ b → TakenBy b g → TakenBy b' g
stays g e h = subst (λ (b : Book). TakenBy b g) (sym e) h

step_kept : (f : Ops) → Laws f → Spread f → {b b' : Book} {g g' : Stage} {c : Call} → Step f b g c b' g' → Shape f b g → TakenBy b g → TakenBy b' g'
step_kept f laws spread (slips {b = b} {b' = b'} {g = g} only {s = s} {q = w} {r = Ok slip} asked r) shape h =
    let cleared = slip_cleared b only s (length w) r.0 in
    nothing_taken b b' s Out r.1.keeps r.1.standings cleared.station g (ap reply_in cleared.free)
    (ap (λ (c : Counts). c.taken) r.1.counts) h
step_kept f laws spread (slips {g = g} only {r = Err e} asked r) shape h = stays g r.1 h
step_kept f laws spread (takes {b = b} {b' = b'} {g = g} only {p = p} {w = w} {t = t} {r = Ok u} asked r) shape h =
    let q = p.request in
    let s = q.station in
    let cleared = take_cleared f b q w (length t) r.0 in
    reply_taken b b' s Heard r.1.keeps r.1.standings (shape.stations s (not_free (standing b s) cleared.here.1)) f g only asked cleared.asked refl
    (ap (λ (c : Counts). c.taken) r.1.counts ∙ ap (λ n. b.counts.taken + n) (values_per_reply f b q w r.1.values cleared.here r.1.reply)) shape h
step_kept f laws spread (takes {g = g} only {r = Err e} asked r) shape h = stays g r.1 h
step_kept f laws spread (returns {b = b} {b' = b'} {g = g} {p = p} {r = Ok a} r) shape h =
    let s = p.request.station in
    let here = return_cleared b p.request r.0 in
    nothing_taken b b' s (standing_after a) r.1.keeps r.1.standings (shape.stations s (not_free (standing b s) here.1)) g
    (reply_stays (standing b s) a here.1 r.1.says)
    (ap (λ (c : Counts). c.taken) r.1.counts ∙ taken_back a b.counts) h
step_kept f laws spread (returns {g = g} {r = Err e} r) shape h = stays g r.1 h
step_kept f laws spread (weigh_closes {b = b} x) shape h =
    subst (λ (b : Book). b.counts.taken ≤ most_of b.terms) (sym x.book) (taken_few f b first shape h)
step_kept f laws spread (weigh_asks {b = b} {b' = b'} {k = k} {t = t} {t' = t'} x) shape h = asked_again f laws spread b b' k t t' x shape h
step_kept f laws spread (weigh_refused e x) shape h = stays first x.1 h
step_kept f laws spread (settle_closes {b = b} {k = k} x) shape h =
    subst (λ (b : Book). b.counts.taken ≤ most_of b.terms) (sym x.book) (taken_few f b (second k) shape h)
step_kept f laws spread (settle_refused {k = k} e x) shape h = stays (second k) x.1 h
step_kept f laws spread (lists x) shape h = h

pub taken_kept : (f : Ops) → Laws f → Spread f → (own tally : List ℕ) (ks : List Call) (b : Book) (g : Stage) → Run f own tally ks b g → TakenBy b g
taken_kept f laws spread own tally _ b _ (opened o) =
    omega (
      arith,
      ap (λ (c : Counts). c.taken) o.starts.counts,
      ap (λ n. per_reply b.question * n) (no_replies_in b.terms.farm.stations b.standings (standing_start b.standings o.starts.standings)),
    )
taken_kept f laws spread own tally _ b' g' (called {ks = ks} {c = c} {b = b} {g = g} r x) =
    step_kept f laws spread x (shape_kept f laws spread own tally ks b g r) (taken_kept f laws spread own tally ks b g r)
