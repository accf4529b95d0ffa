-- A check of a farm's cards, from opening to close: the run that its calls form, and how many sums are taken.
use Rattle.std.specs.Prelude.{◌≡◌, ℕ, ◌+◌, ◌-◌, ◌*◌, ◌<◌, ◌≤◌, ◌⊎◌, List, length}
use Rattle.field.specs.Field.{Ops}
use Rattle.scheme.specs.Askings.{first_sums, all_sums, Plain, asks}
use Rattle.scheme.specs.Farm.{strays}
use Rattle.scheme.specs.Weighing.{Weighs}
use Rattle.tally.specs.Rows.{tally_size}
use Rattle.calls.specs.declared.book.Book.{Book}
use Rattle.calls.specs.declared.phases.Way.{Way}
use Rattle.calls.specs.declared.phases.Verdict.{Verdict}
use Rattle.calls.specs.declared.standing.Standing.TheVariants.{Free, Done}
use Rattle.calls.specs.Opening.{Opens, Stands}
use Rattle.calls.specs.Questions.{FirstAsks}
use Rattle.calls.specs.Runs.{Stage, first, closed, Call, Run}
use Rattle.calls.specs.Slips.{standing}
use Rattle.calls.specs.Steady.{copies, sums, Steady}
use Rattle.calls.specs.Promise.{taken_by, all_calls, Judged, Right}
use Rattle.desk.specs.Copies.{cards}

-- a steady run of calls on one check, from its opening, by which the tally before became the tally after
pub record Calls (f : Ops) (M N bound : ℕ) (words before : List ℕ) (b : Book) (g : Stage) (after : List ℕ) : Type 0 where
  pub start : Book
  pub opened : List ℕ
  pub calls : List Call
  pub opens : Opens f (cards f N words 1) 1 M N bound before start opened
  pub run : Run f (cards f N words 1) opened calls b g
  pub steady : Steady f (cards f N words) (cards f N words 1) opened calls after

module _ (M N bound : ℕ) where
  -- how many values the first asking asks a station for
  abbrev pub FirstDue : ℕ → Type 0
  FirstDue d = (Plain M N bound × (d ≡ N)) ⊎ ((¬ Plain M N bound) × (d ≡ first_sums M bound))

  -- one station has been asked after the other, as far as next
  pub record Going (f : Ops) (words before : List ℕ) (next : ℕ) (b : Book) (after : List ℕ) : Type 0 where
    pub so_far : Calls f M N bound words before b first after
    pub terms : Stands b.terms 1 M N bound
    pub question : FirstAsks b.terms b.question
    pub fits : tally_size M N ≤ length after
    pub heard : (s : ℕ) → 2 ≤ s → s < next → standing b s ≡ Done
    pub free : (s : ℕ) → next ≤ s → s ≤ M → standing b s ≡ Free
    pub handed : b.counts.handed ≡ next - 2
    pub due : (d : ℕ) → FirstDue d → all_calls taken_by so_far.calls ≡ (next - 2) * d

  module _ (f : Ops) (words : List ℕ) where
    -- some station is asked again
    abbrev pub AsksAgain : Type 0
    AsksAgain = (¬ Plain M N bound) × ((k : ℕ) × Weighs f M N bound (sums f N (cards f N words)) (copies (cards f N words) 1) (asks k))

    -- how many sums and signatures are taken: the first asking's of all stations but the first, and of one that is asked again the sums that are left
    abbrev pub Taken : ℕ → Type 0
    Taken count =
        (d : ℕ) × FirstDue d
        × ((AsksAgain × (count ≡ (M - 1) * d + (all_sums N bound - first_sums M bound))) ⊎ ((¬ AsksAgain) × (count ≡ (M - 1) * d)))

    -- the check closed with this verdict, by weighing or by settling: by its calls, with so many sums taken, and as the promise says of every run
    pub record Checked (before : List ℕ) (b : Book) (v : Verdict) (after : List ℕ) : Type 0 where
      pub way : Way
      pub terms : Stands b.terms 1 M N bound
      pub fits : tally_size M N ≤ length after
      pub by_calls : Calls f M N bound words before b (closed way v) after
      pub taken : Taken b.counts.taken
      pub judged : Judged f (cards f N words) b.terms after (closed way v)
      pub right : Plain M N bound ⊎ (strays M (copies (cards f N words)) N ≤ bound) → Right (copies (cards f N words)) b.terms after (closed way v)
