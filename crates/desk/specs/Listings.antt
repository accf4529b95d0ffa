-- The list calls by which a report is written, and what is written of a verdict.
use Rattle.std.specs.Prelude.{◌≡◌, ℕ, suc, List, [], ◌∷◌, ◌++◌, take, Some, Ok}
use Rattle.calls.specs.declared.terms.Terms.{Terms}
use Rattle.calls.specs.declared.phases.Verdict.{Verdict}
use Rattle.calls.specs.declared.phases.Verdict.TheVariants.{Report, Split, Over}
use Rattle.calls.specs.Listing.{Listing}
use Rattle.calls.specs.Runs.{Call, list}
use Rattle.desk.specs.Lines.{copy_lines, split_line, over_line}

-- After a report the stations 1 .. k are listed, one after the other: the calls, the newest first, and the lines of what they wrote.
pub data Listings (t : Terms) (tally : List ℕ) : (k : ℕ) → List Call → (text : List ℕ) → Type 0 where
  none_listed : Listings t tally 0 [] []
  one_listed : {k : ℕ} {calls : List Call} {text room out : List ℕ} {count : ℕ} → Listings t tally k calls text
      → Listing t (Some Report) (suc k) tally room (Ok count) out
      → Listings t tally (suc k) (list (suc k) tally room (Ok count) out ∷ calls) (text ++ copy_lines (suc k) (take count out))

-- what is written of a verdict, and the calls for it
abbrev pub VerdictText : Terms → (tally : List ℕ) → Verdict → List Call → (text : List ℕ) → Type 0
VerdictText t tally Over calls text = (calls ≡ []) × (text ≡ over_line)
VerdictText t tally (Split n) calls text = (calls ≡ []) × (text ≡ split_line n)
VerdictText t tally Report calls text = Listings t tally t.farm.stations calls text
