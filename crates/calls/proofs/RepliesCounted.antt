-- Accepted replies are those of the slips that came back answered and of those that are still out.
use Rattle.std.proofs.Common.{◌≡◌, ℕ, ◌+◌, ◌<◌, List, length, set, Ok, Err, sym, ap, ◌∙◌, arith}
use Rattle.std.proofs.lemmas.List.Sums.{sum_by-set}
use Rattle.field.specs.Field.{Ops, Laws, Spread}
use Rattle.calls.specs.declared.standing.Standing.{Standing}
use Rattle.calls.specs.declared.standing.Standing.TheVariants.{Free, Out, Heard, Done}
use Rattle.calls.specs.declared.counts.Counts.{Counts}
use Rattle.calls.specs.declared.slip.Returned.{Returned}
use Rattle.calls.specs.declared.slip.Returned.TheVariants.{Answered, Blank}
use Rattle.calls.specs.declared.book.Book.{Book}
use Rattle.calls.specs.Standings.{SlipOut, reply_out, replies_out}
use Rattle.calls.specs.Slips.{standing, standing_after, returned_as, one_back}
use Rattle.calls.specs.Promise.{replied_by, all_calls}
use Rattle.calls.specs.Runs.{Stage, Call, Step, Run, slips, takes, returns, weigh_closes, weigh_asks, weigh_refused, settle_closes, settle_refused, lists, opened, called}
use Rattle.calls.proofs.Cleared.{slip_cleared, take_cleared, return_cleared}
use Rattle.calls.proofs.AsksOne.{asks_one}
use Rattle.calls.proofs.Shapes.{Shape}
use Rattle.calls.proofs.ShapesKept.{shape_kept, all_done}
use Rattle.calls.proofs.StandingsSet.{place_inside, not_free, out_if, heard_if}

-- replies that were returned, or are out with their slips
abbrev kept : Book → ℕ
kept b = b.counts.answered + replies_out b.standings

-- one station moves
replies_set : (b b' : Book) (s : ℕ) (x : Standing) → b'.standings ≡ set b.standings s x → s < length b.standings
    → replies_out b'.standings + reply_out (standing b s) ≡ replies_out b.standings + reply_out x
replies_set b b' s x is inside = ap (λ xs. replies_out xs + reply_out (standing b s)) is ∙ sum_by-set reply_out b.standings s x Free inside

same_kept : (b b' : Book) → b' ≡ b → kept b' ≡ kept b
same_kept b b' e = ap kept e

-- a reply leaves with its slip, and is counted as answered
back : (b b' : Book) (s : ℕ) (r : Returned) → SlipOut (standing b s) → r ≡ returned_as (standing b s) → b'.counts ≡ one_back r b.counts
    → b'.standings ≡ set b.standings s (standing_after r) → s < length b.standings → kept b' ≡ kept b
back b b' s Answered out says counts is inside =
    let heard : standing b s ≡ Heard = heard_if (standing b s) out (sym says) in
    omega (arith, replies_set b b' s Done is inside, ap reply_out heard, ap (λ (c : Counts). c.answered) counts)
back b b' s Blank out says counts is inside =
    let asked : standing b s ≡ Out = out_if (standing b s) out (λ e. let z = ap returned_as e in cc) in
    omega (arith, replies_set b b' s Free is inside, ap reply_out asked, ap (λ (c : Counts). c.answered) counts)

module _ (f : Ops) (l : Laws f) (spread : Spread f) where
  step_kept : {b b' : Book} {g g' : Stage} {c : Call} → Step f b g c b' g' → Shape f b g → kept b' ≡ replied_by c + kept b
  step_kept (slips {b = b} {b' = b'} only {s = s} {q = w} {r = Ok p} asked x) shape =
      let cleared = slip_cleared b only s (length w) x.0 in
      omega (arith, replies_set b b' s Out x.1.standings (place_inside b s cleared.station), ap reply_out cleared.free, ap (λ (c : Counts). c.answered) x.1.counts)
  step_kept (slips {b = b} {b' = b'} only {r = Err e} asked x) shape = omega (arith, same_kept b b' x.1)
  step_kept (takes {b = b} {b' = b'} only {p = p} {w = w} {t = t} {r = Ok u} asked x) shape =
      let s = p.request.station in
      let cleared = take_cleared f b p.request w (length t) x.0 in
      omega (
        arith,
        replies_set b b' s Heard x.1.standings (place_inside b s (shape.stations s (not_free (standing b s) cleared.here.1))),
        ap reply_out cleared.asked,
        ap (λ (c : Counts). c.answered) x.1.counts,
      )
  step_kept (takes {b = b} {b' = b'} only {r = Err e} asked x) shape = omega (arith, same_kept b b' x.1)
  step_kept (returns {b = b} {b' = b'} {p = p} {r = Ok r} x) shape =
      let s = p.request.station in
      let here = return_cleared b p.request x.0 in
      omega (arith, back b b' s r here.1 x.1.says x.1.counts x.1.standings (place_inside b s (shape.stations s (not_free (standing b s) here.1))))
  step_kept (returns {b = b} {b' = b'} {r = Err e} x) shape = omega (arith, same_kept b b' x.1)
  step_kept (weigh_closes {b = b} {b' = b'} x) shape = omega (arith, same_kept b b' x.book)
  step_kept (weigh_asks {b = b} {b' = b'} {k = k} {t = t} x) shape =
      let one = (asks_one f l spread b.terms shape.pages.1 t k x.ends).1 in
      omega (arith, replies_set b b' k Free x.again.standings (place_inside b k one), ap reply_out (all_done b (length t) x.accepted k one), ap (λ (c : Counts). c.answered) x.again.counts)
  step_kept (weigh_refused {b = b} {b' = b'} e x) shape = omega (arith, same_kept b b' x.1)
  step_kept (settle_closes {b = b} {b' = b'} x) shape = omega (arith, same_kept b b' x.book)
  step_kept (settle_refused {b = b} {b' = b'} e x) shape = omega (arith, same_kept b b' x.1)
  step_kept (lists x) shape = omega arith

  pub replies_counted : (own tally : List ℕ) (ks : List Call) (b : Book) (g : Stage) → Run f own tally ks b g
      → b.counts.answered + replies_out b.standings ≡ all_calls replied_by ks
  replies_counted own tally _ b _ (opened o) =
      ap (λ (c : Counts). c.answered + replies_out b.standings) o.starts.counts ∙ ap (λ xs. 0 + replies_out xs) o.starts.standings
  replies_counted own tally _ b' g' (called {ks = ks} {c = c} {b = b} {g = g} r x) =
      step_kept x (shape_kept f l spread own tally ks b g r) ∙ ap (λ n. replied_by c + n) (replies_counted own tally ks b g r)
