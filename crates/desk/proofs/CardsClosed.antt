-- How a check of cards ends: by weighing, or by one more exchange and settling.
use Rattle.std.proofs.Common.{◌≡◌, ℕ, suc, ◌+◌, ◌-◌, ◌*◌, ◌≤◌, ◌<◌, ◌≢◌, ◌⊎◌, List, ◌∷◌, length, Some, inl, inr, zero-add, sym, refl, ap, ap₂, ◌∙◌, subst, arith}
use Rattle.field.specs.Field.{Ops, Laws, Spread}
use native.Mathlib.Decide.{ℕ_discrete}
use Rattle.refusal.specs.declared.Refusal.{Refusal}
use Rattle.refusal.specs.Numbers.{place}
use Rattle.refusal.specs.Rules.{Within, Refused}
use Rattle.scheme.specs.Askings.{first_sums, all_sums, Plain, Outcome, over, split, filled, asks}
use Rattle.scheme.specs.Farm.{strays}
use Rattle.scheme.specs.Weighing.{Weighs}
use Rattle.station.specs.Serving.{index_limit}
use Rattle.tally.specs.Rows.{tally_size}
use Rattle.calls.specs.declared.book.Book.{Book}
use Rattle.calls.specs.declared.phases.Verdict.{Verdict}
use Rattle.calls.specs.declared.phases.Way.TheVariants.{ByWeighing, BySettling}
use Rattle.calls.specs.declared.phases.Verdict.TheVariants.{Report, Split, Over}
use Rattle.calls.specs.declared.standing.Standing.TheVariants.{Free, Done}
use Rattle.calls.specs.Questions.{PlainTerms}
use Rattle.calls.specs.declared.terms.Terms.{Terms}
use Rattle.calls.specs.Opening.{Stands}
use Rattle.calls.proofs.StandingsSet.{standing_other, standing_same, not_done}
use Rattle.calls.specs.Closing.{closing, WeighCloses, WeighAsks, WeighEnds, SettleEnds, SettleCloses, ClosesWith}
use Rattle.calls.specs.Slips.{standing}
use Rattle.calls.specs.Runs.{Stage, second, closed, weigh, settle, called, weigh_closes, weigh_asks, settle_closes}
use Rattle.calls.specs.Steady.{copies, sums, FarmHolds}
use Rattle.calls.specs.Promise.{taken_by, all_calls, TrulyWeighs, TrulyAsks, Judged, Right, EveryRun}
use Rattle.calls.specs.Replies.{ClosedAs}
use Rattle.desk.specs.Copies.{cards}
use Rattle.desk.specs.Exchange.{Ready, Exchange}
use Rattle.desk.specs.Going.{Calls, Going, FirstDue, AsksAgain, Checked}
use Rattle.calls.proofs.Shapes.{Shape}
use Rattle.calls.proofs.ShapesKept.{shape_kept}
use Rattle.scheme.proofs.AtMostOne.{one_outcome}
use Rattle.calls.proofs.JudgedBy.{alike_asks}
use Rattle.calls.proofs.AsksOne.{sums_left}
use Rattle.desk.proofs.Asked.{by_terms}
use Rattle.desk.proofs.CardsHeld.{cards_held}
use Rattle.desk.proofs.Exchanged.{three_calls, terms_kept, size_kept, heard, others_stay, taken_more, run_longer, steady_longer}

-- what the promise says of calls on a check of cards
module _ (f : Ops) (laws : Laws f) (spread : Spread f) (promise : EveryRun) (M N bound : ℕ) (words before : List ℕ) (whole : length words ≡ M * N)
    (b : Book) (g : Stage) (after : List ℕ) (stands : Stands b.terms 1 M N bound) (calls : Calls f M N bound words before b g after) where
  held : FarmHolds f b.terms.farm.stations b.terms.farm.pages (cards f N words)
  held = by_terms (λ M' N' bound'. FarmHolds f M' N' (cards f N words) → FarmHolds f b.terms.farm.stations b.terms.farm.pages (cards f N words)) b.terms 1 M N bound stands (λ h. h) (cards_held f M N words whole laws)

  -- the check's count of what was taken is that of its calls
  pub taken_counted : b.counts.taken ≡ all_calls taken_by calls.calls
  taken_counted = (promise f laws spread (cards f N words 1) calls.opened calls.calls b g calls.run).counted.taken

  pub judged_right : Judged f (cards f N words) b.terms after g
      × (Plain M N bound ⊎ (strays M (copies (cards f N words)) N ≤ bound) → Right (copies (cards f N words)) b.terms after g)
  judged_right =
      let r = (promise f laws spread (cards f N words 1) calls.opened calls.calls b g calls.run).steady (cards f N words) after held calls.steady in (
        r.0,
        λ given. r.1 (by_terms (λ M' N' bound'. Plain M' N' bound' ⊎ (strays M' (copies (cards f N words)) N' ≤ bound') → PlainTerms b.terms ⊎ (strays b.terms.farm.stations (copies (cards f N words)) b.terms.farm.pages ≤ b.terms.farm.bound))
            b.terms 1 M N bound stands (λ h. h) given),
      )

-- a check closes by an outcome that asks nobody
pub closing_outcome : (f : Ops) (holds : ℕ → List ℕ) (t : Terms) (tally : List ℕ) (v : Verdict) → ClosedAs t tally (TrulyWeighs f holds t) v
    → (o : Outcome) × TrulyWeighs f holds t o × ((k : ℕ) → o ≢ asks k)
closing_outcome f holds t tally Over x = (over, x.0, λ k e. cc)
closing_outcome f holds t tally (Split n) (inl x) = (split n, x.0, λ k e. cc)
closing_outcome f holds t tally (Split n) (inr x) = (filled x.0, x.1, λ k e. cc)
closing_outcome f holds t tally Report x = (filled x.0, x.1, λ k e. cc)

-- closing keeps the tally's length
finds_size : (Ends : Outcome → Type 0) (M N : ℕ) (before after : List ℕ) (v : Verdict) → ClosesWith Ends M N before after v → length after ≡ length before
finds_size Ends M N before after Over x = ap length x.1
finds_size Ends M N before after (Split n) (inl x) = ap length x.1
finds_size Ends M N before after (Split n) (inr x) = x.2.size
finds_size Ends M N before after Report x = x.2.size

module _ (f : Ops) (laws : Laws f) (spread : Spread f) (promise : EveryRun) (M N bound : ℕ) (words : List ℕ) (whole : length words ≡ M * N)
    (b : Book) (tally : List ℕ) where
  module _ (before : List ℕ) (going : Going M N bound f words before (M + 1) b tally) where
    -- what the first asking asks for
    first_asked : (d : ℕ) × FirstDue M N bound d
    first_asked = by_terms (λ M N bound. (d : ℕ) × FirstDue M N bound d) b.terms 1 M N bound going.terms (elim going.question [
      | inl x ↦ (b.terms.farm.pages, inl (x.0, refl))
      | inr x ↦ (first_sums b.terms.farm.stations b.terms.farm.bound, inr (x.0, refl))
    ])

    all_taken : all_calls taken_by going.so_far.calls ≡ (M - 1) * first_asked.0
    all_taken = going.due first_asked.0 first_asked.1 ∙ ap (λ k. k * first_asked.0) (let e : M + 1 - 2 ≡ M - 1 = omega arith in e)

    module _ (v : Verdict) (b' : Book) (after : List ℕ) (w : WeighCloses f b tally v b' after) where
      calls_weighed : Calls f M N bound words before b' (closed ByWeighing v) after
      calls_weighed =
          let so = going.so_far in
          record {
            start = so.start;
            opened = so.opened;
            calls = weigh tally after ∷ so.calls;
            opens = so.opens;
            run = called so.run (weigh_closes w);
            steady = (so.steady.0, (refl, so.steady.1), (tt, so.steady.2));
          }

      stands_closed : Stands b'.terms 1 M N bound
      stands_closed = subst (λ (b : Book). Stands b.terms 1 M N bound) (sym w.book) going.terms

      -- weighing, by the promise, came to an outcome that asks nobody, and it comes to no other
      nobody_again : ¬ AsksAgain M N bound f words
      nobody_again again =
          let t = b'.terms in
          let holds = cards f N words in
          let o = closing_outcome f holds t after v (judged_right f laws spread promise M N bound words before whole b' (closed ByWeighing v) after stands_closed calls_weighed).0 in
          let shape = shape_kept f laws spread (holds 1) calls_weighed.opened calls_weighed.calls b' (closed ByWeighing v) calls_weighed.run in
          let there : (k : ℕ) × TrulyAsks f holds t k
          = by_terms (λ M' N' bound'. ((¬ Plain M' N' bound') × ((k : ℕ) × Weighs f M' N' bound' (sums f N' holds) (copies holds 1) (asks k))) → (k : ℕ) × TrulyAsks f holds t k)
          t 1 M N bound stands_closed (λ a. (a.1.0, (a.0, a.1.1))) again in
          elim o.1 [
            | inl hand ↦ there.1.0 hand.2
            | inr x ↦
                o.2 there.0 (alike_asks o.0 ((one_outcome f laws spread t.farm.stations t.farm.pages t.farm.bound (omega (arith, shape.pages)) (sums f t.farm.pages holds) (sums f t.farm.pages holds) (copies holds 1)
                o.0 (asks there.0)).0 x.1 there.1.1))
          ]

      pub by_weighing : Checked M N bound f words before b' v after
      unfolding first_asked calls_weighed
      by_weighing =
          let r = judged_right f laws spread promise M N bound words before whole b' (closed ByWeighing v) after stands_closed calls_weighed in
          record {
            way = ByWeighing;
            terms = stands_closed;
            fits = omega (arith, going.fits, finds_size (WeighEnds f b.terms tally) b.terms.farm.stations b.terms.farm.pages tally after v w.finds);
            by_calls = calls_weighed;
            taken = (first_asked.0, first_asked.1, inr (nobody_again, taken_counted f laws spread promise M N bound words before whole b' (closed ByWeighing v) after stands_closed calls_weighed ∙ zero-add _ ∙ all_taken));
            judged = r.0;
            right = r.1;
          }

    -- a station is asked again, and its slip is the next
    module _ (k : ℕ) (b' : Book) (asked : List ℕ) (w : WeighAsks f b tally k b' asked) where
      stands_again : Stands b'.terms 1 M N bound
      stands_again = subst (λ t. Stands t 1 M N bound) (sym w.again.terms) going.terms

      calls_asked : Calls f M N bound words before b' (second k) asked
      calls_asked =
          let so = going.so_far in
          record {
            start = so.start;
            opened = so.opened;
            calls = weigh tally asked ∷ so.calls;
            opens = so.opens;
            run = called so.run (weigh_asks w);
            steady = (so.steady.0, (refl, so.steady.1), (tt, so.steady.2));
          }

      shape : Shape f b' (second k)
      shape = shape_kept f laws spread (cards f N words 1) calls_asked.opened calls_asked.calls b' (second k) calls_asked.run

      pub one_of : Within 2 M k
      one_of = subst (λ M. Within 2 M k) stands_again.1 shape.question.1

      again : AsksAgain M N bound f words
      again = by_terms (λ M N' bound. (¬ Plain M N' bound) × ((k : ℕ) × Weighs f M N' bound (sums f N' (cards f N words)) (copies (cards f N words) 1) (asks k))) b'.terms 1 M N bound stands_again
          (let r = (judged_right f laws spread promise M N bound words before whole b' (second k) asked stands_again calls_asked).0 in (r.0, (k, r.1)))

      more : first_sums M bound < all_sums N bound
      more = sums_left f M N bound (sums f N (cards f N words)) (copies (cards f N words) 1) again.1.0 (omega (arith, going.terms.3, b.terms.farm.bound_in)) again.0 again.1.1

      second_from : b'.question.first ≡ first_sums M bound + 1
      second_from = w.again.question.1 ∙ by_terms (λ M' N' bound'. first_sums b.terms.farm.stations b.terms.farm.bound + 1 ≡ first_sums M' bound' + 1) b.terms 1 M N bound going.terms refl

      second_to : b'.question.last ≡ all_sums N bound
      second_to = w.again.question.2 ∙ by_terms (λ M' N' bound'. all_sums b.terms.farm.pages b.terms.farm.bound ≡ all_sums N' bound') b.terms 1 M N bound going.terms refl

      second_short : b'.question.last ≤ 128
      second_short = omega (arith, second_to, going.terms.3, b.terms.farm.bound_in)

      pub second_ready : (row : List ℕ) → Ready row (Some k) k b' (length asked)
      second_ready row = record {
        station = omega (arith, one_of, stands_again.1);
        concerned = refl;
        free = standing_same b.standings k Free w.again.standings (omega (arith, one_of, b.full, going.terms.1, b.terms.farm.stations_in));
        few = omega (arith, ap (λ c. c.handed) w.again.counts, going.handed, going.terms.1, b.terms.farm.stations_in);
        rising = omega (arith, more, second_from, second_to);
        answered = subst (λ asked. b'.question.last ≤ index_limit asked row) (sym w.again.question.0) second_short;
        short = second_short;
        fits = omega (arith, going.fits, by_terms (λ M N bound. tally_size b'.terms.farm.stations b'.terms.farm.pages ≡ tally_size M N) b'.terms 1 M N bound stands_again refl, ap length w.written);
      }

      module _ (e : Book) (told : List ℕ) (x : Exchange f (cards f N words k) (Some k) k b' asked e told) where
        all_heard : (t : ℕ) → Within 2 e.terms.farm.stations t → standing e t ≡ Done
        all_heard t within = elim (ℕ_discrete t k) [
          | yes same ↦ ap (standing e) same ∙ heard x
          | no other ↦
              others_stay x t other ∙ standing_other b.standings k Free w.again.standings t other
              ∙ going.heard t within.0 (omega (arith, within, ap (λ t. t.farm.stations) (terms_kept x), stands_again.0, stands_again.1))
        ]

        pub settles_ready : (r : Refusal) → Refused (closing e (length told)) r → ⊥
        settles_ready r (inl short) = short.0 (omega (arith, size_kept x, ap length w.written, going.fits, fits_e))
          where
            fits_e : tally_size e.terms.farm.stations e.terms.farm.pages ≡ tally_size M N
            fits_e =
                by_terms (λ M N bound. tally_size e.terms.farm.stations e.terms.farm.pages ≡ tally_size M N) e.terms 1 M N bound
                (subst (λ t. Stands t 1 M N bound) (sym (terms_kept x)) stands_again) refl
        settles_ready r (inr (_, inl out)) = not_done (standing e (place r)) out.1.1.1 (all_heard (place r) out.1.1.0)
        settles_ready r (inr (_, inr (_, inl lacking))) = lacking.1.1.1 (all_heard (place r) lacking.1.1.0)
        settles_ready r (inr (_, inr (_, inr y))) = y.1

      module _ (e : Book) (told : List ℕ) (x : Exchange f (cards f N words k) (Some k) k b' asked e told) (v : Verdict) (d : Book) (after : List ℕ)
          (s : SettleCloses f e told v d after) where
        calls_settled : Calls f M N bound words before d (closed (BySettling k) v) after
        calls_settled =
            let so = calls_asked in
            record {
              start = so.start;
              opened = so.opened;
              calls = settle told after ∷ three_calls x so.calls;
              opens = so.opens;
              run = called (run_longer x (cards f N words 1) so.opened so.calls refl so.run) (settle_closes s);
              steady =
                  let asked = steady_longer x (cards f N words 1) so.opened so.calls (cards f N words) refl so.steady in
                  (asked.0, (refl, asked.1), (tt, asked.2));
            }

        stands_settled : Stands d.terms 1 M N bound
        stands_settled = subst (λ (b : Book). Stands b.terms 1 M N bound) (sym s.book) (subst (λ t. Stands t 1 M N bound) (sym (terms_kept x)) stands_again)

        rest_taken : d.counts.taken ≡ (M - 1) * first_asked.0 + (all_sums N bound - first_sums M bound)
        unfolding first_asked calls_asked calls_settled
        rest_taken =
            taken_counted f laws spread promise M N bound words before whole d (closed (BySettling k) v) after stands_settled calls_settled
            ∙ zero-add _ ∙ taken_more x calls_asked.calls ∙ ap₂ ◌+◌ (zero-add _ ∙ all_taken)
            (let from = x.slips.1.request.3 in let to = x.slips.1.request.4 in
            let r : suc x.slip.request.last - x.slip.request.first ≡ all_sums N bound - first_sums M bound = omega (arith, from, to, second_from, second_to) in r)

        pub by_settling : Checked M N bound f words before d v after
        by_settling =
            let r = judged_right f laws spread promise M N bound words before whole d (closed (BySettling k) v) after stands_settled calls_settled in
            record {
              way = BySettling k;
              terms = stands_settled;
              fits = omega (arith, going.fits, ap length w.written, size_kept x, finds_size (SettleEnds f e.terms told) e.terms.farm.stations e.terms.farm.pages told after v s.finds);
              by_calls = calls_settled;
              taken = (first_asked.0, first_asked.1, inl (again, rest_taken));
              judged = r.0;
              right = r.1;
            }
