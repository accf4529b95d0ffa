-- Opening a check: what is refused, and what a check knows at its start.
use Rattle.std.specs.Prelude.{◌≡◌, ℕ, ◌-◌, ◌^◌, ◌≤◌, List, [], ◌∷◌, ◌++◌, length, replicate, Ok, Err, Result}
use Rattle.field.specs.Field.{Ops, page_limit}
use Rattle.field.specs.declared.Field.{Ghosts}
use Rattle.refusal.specs.declared.Refusal.{Refusal}
use Rattle.refusal.specs.Rules.{Rule, Within, unless, Refused, Accepted}
use Rattle.scheme.specs.Askings.{all_sums}
use Rattle.tally.specs.Rows.{tally_size}
use Rattle.calls.specs.declared.standing.Standing.TheVariants.{Free}
use Rattle.calls.specs.declared.terms.Terms.{Terms}
use Rattle.calls.specs.declared.counts.Counts.{Counts}
use Rattle.calls.specs.declared.book.Book.{Book}
use Rattle.calls.specs.declared.phases.First.{First}
use Rattle.calls.specs.declared.check.Check.{Check}
use Rattle.calls.specs.Questions.{FirstAsks}
use Rattle.calls.specs.Entering.{RowsOpened}

-- the number, the stations, the pages, the bound, then an own copy of another number of pages
abbrev pub terms_in : Ops → (number M N bound own : ℕ) → List Rule
terms_in f number M N bound own =
    unless (Within 1 (2 ^ 28 - 1) number) 1 1 ∷ unless (Within 3 8 M) 1 2 ∷ unless (Within 1 (page_limit f) N) 1 3 ∷ unless (Within 1 64 bound) 1 4
    ∷ unless (own ≡ N) 1 5 ∷ []

-- the same, then a tally that is too short
abbrev pub opening : Ops → (number M N bound own room : ℕ) → List Rule
opening f number M N bound own room = terms_in f number M N bound own ++ (unless (tally_size M N ≤ room) 2 1 ∷ [])

abbrev pub Stands : Terms → (number M N bound : ℕ) → Type 0
Stands t number M N bound = (t.number ≡ number) × (t.farm.stations ≡ M) × (t.farm.pages ≡ N) × (t.farm.bound ≡ bound)

abbrev pub no_counts : Counts
no_counts = record { handed = 0; answered = 0; blank = 0; out = 0; taken = 0 }

-- a check at its start: the first asking, no slip out, no reply in, nothing counted
pub record Starts (b : Book) : Type 0 where
  pub question : FirstAsks b.terms b.question
  pub standings : b.standings ≡ replicate 9 Free
  pub counts : b.counts ≡ no_counts

-- a check is open, and its rows are clear but for the own copy's
pub record Opens (f : Ops) (own : List ℕ) (number M N bound : ℕ) (before : List ℕ) (b : Book) (after : List ℕ) : Type 0 where
  pub accepted : Accepted (opening f number M N bound (length own) (length before))
  pub terms : Stands b.terms number M N bound
  pub starts : Starts b
  pub rows : RowsOpened f own M N (all_sums N bound) before after

-- what opening gives
abbrev pub Opened : {F : Type 0} {g : Ghosts F} → Ops → (own : List ℕ) (number M N bound : ℕ) → (before : List ℕ)
    → Result (Check F First g) Refusal → (after : List ℕ) → Type 0
Opened f own number M N bound before (Ok check) after = Opens f own number M N bound before check.book after
Opened f own number M N bound before (Err refusal) after =
    Refused (opening f number M N bound (length own) (length before)) refusal × (after ≡ before)
