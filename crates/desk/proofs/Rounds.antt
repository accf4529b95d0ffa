-- The round of the first asking: what is ready before each exchange, and how far it is after it.
use Rattle.std.proofs.Common.{◌≡◌, ℕ, ◌+◌, ◌-◌, ◌*◌, ◌≤◌, ◌<◌, List, [], suc, suc-mul, zero-mul, length, None, sym, refl, ap, ap₂, ◌∙◌, subst, arith}
use native.Mathlib.Decide.{ℕ_discrete}
use Rattle.field.specs.Field.{Ops}
use Rattle.refusal.specs.Rules.{Within}
use Rattle.wire.specs.Requests.{values_due}
use Rattle.tally.specs.Rows.{tally_size}
use Rattle.calls.specs.declared.book.Book.{Book}
use Rattle.calls.specs.declared.standing.Standing.TheVariants.{Free, Done}
use Rattle.calls.specs.Questions.{FirstAsks}
use Rattle.calls.specs.Slips.{standing}
use Rattle.calls.specs.Runs.{first, opened}
use Rattle.calls.specs.Opening.{Stands, Opens}
use Rattle.calls.specs.Promise.{taken_by, all_calls}
use Rattle.calls.proofs.StandingsSet.{standing_start}
use Rattle.desk.proofs.Asked.{by_terms, first_rising, first_short, first_answered, first_due}
use Rattle.desk.specs.Copies.{cards}
use Rattle.desk.specs.Exchange.{Ready, Exchange}
use Rattle.desk.specs.Going.{Calls, Going, FirstDue}
use Rattle.desk.proofs.Exchanged.{three_calls, terms_kept, question_kept, size_kept, handed_more, taken_more, heard, others_stay, run_longer, steady_longer}

module _ (f : Ops) (M N bound : ℕ) (words before : List ℕ) (next : ℕ) (b : Book) (tally : List ℕ)
    (going : Going M N bound f words before next b tally) (within : Within 2 M next) where
  stands : Stands b.terms 1 M N bound
  stands = going.terms

  pub ready : (row : List ℕ) → length row ≡ N → Ready row None next b (length tally)
  ready row size = record {
    station = omega (arith, stands.1);
    concerned = record {};
    free = going.free next (omega arith) (omega arith);
    few = omega (arith, going.handed, b.terms.farm.stations_in, stands.1);
    rising = first_rising b.terms b.question going.question;
    answered = first_answered b.terms b.question going.question row (size ∙ sym stands.2);
    short = first_short b.terms b.question going.question;
    fits = by_terms (λ M N bound. tally_size M N ≤ length tally → tally_size b.terms.farm.stations b.terms.farm.pages ≤ length tally) b.terms 1 M N bound stands (λ le. le) going.fits;
  }

  module _ (row : List ℕ) (is : cards f N words next ≡ row) (b' : Book) (after : List ℕ) (x : Exchange f row None next b tally b' after) where
    calls_on : Calls f M N bound words before b' first after
    calls_on =
        let so = going.so_far in
        record {
          start = so.start;
          opened = so.opened;
          calls = three_calls x so.calls;
          opens = so.opens;
          run = run_longer x (cards f N words 1) so.opened so.calls refl so.run;
          steady = steady_longer x (cards f N words 1) so.opened so.calls (cards f N words) is so.steady;
        }

    heard_on : (s : ℕ) → 2 ≤ s → s < next + 1 → standing b' s ≡ Done
    heard_on s from to = elim (ℕ_discrete s next) [
      | yes same ↦ ap (standing b') same ∙ heard x
      | no other ↦ others_stay x s other ∙ going.heard s from (omega arith)
    ]

    free_on : (s : ℕ) → next + 1 ≤ s → s ≤ M → standing b' s ≡ Free
    free_on s from to = others_stay x s (λ same. omega arith) ∙ going.free s (omega arith) to

    values_first : (d : ℕ) → FirstDue M N bound d → values_due x.slip.request ≡ d
    values_first d due =
        let asks = x.slips.1.request in
        ap₂ (λ from to. suc to - from) asks.3 asks.4 ∙ first_due b.terms b.question M N bound stands going.question d due

    due_on : (d : ℕ) → FirstDue M N bound d → all_calls taken_by (three_calls x going.so_far.calls) ≡ (next + 1 - 2) * d
    due_on d due =
        let one : suc (next - 2) * d ≡ (next - 2) * d + d = suc-mul (next - 2) d in
        let same : next + 1 - 2 ≡ suc (next - 2) = omega arith in
        taken_more x going.so_far.calls ∙ ap₂ ◌+◌ (going.due d due) (values_first d due) ∙ sym one ∙ sym (ap (λ k. k * d) same)

    pub going_on : Going M N bound f words before (next + 1) b' after
    unfolding calls_on
    going_on = record {
      so_far = calls_on;
      terms = subst (λ t. Stands t 1 M N bound) (sym (terms_kept x)) stands;
      question = subst (λ t. FirstAsks t b'.question) (sym (terms_kept x)) (subst (FirstAsks b.terms) (sym (question_kept x)) going.question);
      fits = omega (arith, size_kept x, going.fits);
      heard = heard_on;
      free = free_on;
      handed = omega (arith, handed_more x, going.handed);
      due = due_on;
    }

-- a check that was just opened has asked nobody
pub going_starts : (f : Ops) (M N bound : ℕ) (words before own : List ℕ) → own ≡ cards f N words 1 → (b : Book) (tally : List ℕ)
    → Opens f own 1 M N bound before b tally → Going M N bound f words before 2 b tally
going_starts f M N bound words before own is b tally opens = record {
  so_far = record {
    start = b;
    opened = tally;
    calls = [];
    opens = here;
    run = opened here;
    steady = (refl, refl, tt);
  };
  terms = opens.terms;
  question = opens.starts.question;
  fits = omega (arith, opens.accepted, opens.rows.size);
  heard = λ s from to. absurd (omega arith);
  free = λ s from to. standing_start b.standings opens.starts.standings s;
  handed = ap (λ c. c.handed) opens.starts.counts;
  due = λ d due. sym (zero-mul d);
}
  where
    here : Opens f (cards f N words 1) 1 M N bound before b tally
    here = subst (λ row. Opens f row 1 M N bound before b tally) is opens
