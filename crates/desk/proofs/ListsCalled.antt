-- The list calls of a report are steps of its check's run; what each wrote is by its own contract, and by the promise.
use Rattle.std.proofs.Common.{◌≡◌, ℕ, List, ◌++◌, Some, Ok, refl}
use Rattle.field.specs.Field.{Ops}
use Rattle.tally.specs.Listing.{Listed}
use Rattle.calls.specs.declared.book.Book.{Book}
use Rattle.calls.specs.declared.terms.Terms.{Terms}
use Rattle.calls.specs.declared.phases.Way.{Way}
use Rattle.calls.specs.declared.phases.Verdict.TheVariants.{Report}
use Rattle.calls.specs.Listing.{Listing}
use Rattle.calls.specs.Runs.{Call, closed, Run, called, lists}
use Rattle.calls.specs.Steady.{OneTally, AllYielded}
use Rattle.desk.specs.Copies.{cards}
use Rattle.desk.specs.Going.{Calls}
use Rattle.desk.specs.Lines.{LinesOf, no_station, one_more}
use Rattle.desk.specs.Listings.{Listings, none_listed, one_listed}
use Rattle.desk.proofs.LinesWritten.{listed_first}

module _ (f : Ops) (own opened : List ℕ) (b : Book) (way : Way) (tally : List ℕ) (ks : List Call) where
  run_listed : (k : ℕ) (made : List Call) (text : List ℕ) → Listings b.terms tally k made text → Run f own opened ks b (closed way Report)
      → Run f own opened (made ++ ks) b (closed way Report)
  run_listed k made text none_listed run = run
  run_listed k made text (one_listed before listing) run = called (run_listed _ _ _ before run) (lists listing)

  one_listed_tally : (k : ℕ) (made : List Call) (text : List ℕ) → Listings b.terms tally k made text → OneTally opened ks tally → OneTally opened (made ++ ks) tally
  one_listed_tally k made text none_listed one = one
  one_listed_tally k made text (one_listed before listing) one = (refl, one_listed_tally _ _ _ before one)

  yielded_listed : (holds : ℕ → List ℕ) (k : ℕ) (made : List Call) (text : List ℕ) → Listings b.terms tally k made text → AllYielded f holds ks → AllYielded f holds (made ++ ks)
  yielded_listed holds k made text none_listed yielded = yielded
  yielded_listed holds k made text (one_listed before listing) yielded = (tt, yielded_listed holds _ _ _ before yielded)

-- the run with its list calls
pub calls_listed : (f : Ops) (M N bound : ℕ) (words before : List ℕ) (b : Book) (way : Way) (tally : List ℕ) (k : ℕ) (made : List Call) (text : List ℕ)
    → Listings b.terms tally k made text → Calls f M N bound words before b (closed way Report) tally
    → (longer : Calls f M N bound words before b (closed way Report) tally) × (earlier : List Call) × (longer.calls ≡ made ++ earlier)
calls_listed f M N bound words before b way tally k made text listings so = (
  record {
    start = so.start;
    opened = so.opened;
    calls = made ++ so.calls;
    opens = so.opens;
    run = run_listed f (cards f N words 1) so.opened b way tally so.calls k made text listings so.run;
    steady = (
      so.steady.0,
      one_listed_tally f (cards f N words 1) so.opened b way tally so.calls k made text listings so.steady.1,
      yielded_listed f (cards f N words 1) so.opened b way tally so.calls (cards f N words) k made text listings so.steady.2,
    );
  },
  so.calls,
  refl,
)

-- what is known of each listing's pages is known of the lines
pub lines_listed : (t : Terms) (tally : List ℕ) (Q : ℕ → ℕ → Type 0)
    → ((s count : ℕ) (room out : List ℕ) → Listing t (Some Report) s tally room (Ok count) out → Listed t.farm.pages (Q s) room out count)
    → (k : ℕ) (made : List Call) (text : List ℕ) → Listings t tally k made text → LinesOf t.farm.pages Q k text
lines_listed t tally Q says k made text none_listed = no_station
lines_listed t tally Q says k made text (one_listed before listing) =
    one_more (lines_listed t tally Q says _ _ _ before) (listed_first t.farm.pages (Q _) _ _ _ (says _ _ _ _ listing))
