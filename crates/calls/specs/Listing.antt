-- Listing the bad pages of one station.
use Rattle.std.specs.Prelude.{◌≡◌, ℕ, ◌<◌, ◌≤◌, List, [], ◌∷◌, length, Some, Ok, Err, Option, Result}
use Rattle.std.proofs.Common.{arith}
use Rattle.refusal.specs.declared.Refusal.{Refusal}
use Rattle.refusal.specs.Numbers.{number, place}
use Rattle.refusal.specs.Rules.{Rule, Within, unless, Refused, Accepted}
use Rattle.scheme.specs.Farm.{Bad}
use Rattle.tally.specs.Rows.{signature_in, tally_size}
use Rattle.tally.specs.Listing.{Lists, Listed}
use Rattle.calls.specs.RisingLists.{no_longer}
use Rattle.calls.specs.declared.terms.Terms.{Terms}
use Rattle.calls.specs.declared.phases.Verdict.{Verdict}
use Rattle.calls.specs.declared.phases.Verdict.TheVariants.{Report}

-- all lists of these pages are equally long
pub fits_or_not : (N : ℕ) (Q : ℕ → Type 0) (room : ℕ) (r : Refusal) → ((xs : List ℕ) × Lists N Q xs × (length xs ≤ room)) →
    ((xs : List ℕ) × Lists N Q xs × (room < length xs)) × (number r ≡ 2) × (place r ≡ 2) → ⊥
fits_or_not N Q room r (xs, short, fits) ((ys, long, more), _, _) = omega (arith, no_longer long short)

-- more of these pages than room
abbrev pub crowded : (N : ℕ) → (ℕ → Type 0) → (room : ℕ) → Rule
crowded N Q room = record {
  due = λ r. ((xs : List ℕ) × Lists N Q xs × (room < length xs)) × (number r ≡ 2) × (place r ≡ 2);
  clear = (xs : List ℕ) × Lists N Q xs × (length xs ≤ room);
  apart = fits_or_not N Q room;
}

-- a short tally, no report, no such station, then too little room for this station's bad pages
abbrev pub listing : Terms → Option Verdict → (s : ℕ) → (tally : List ℕ) → (room : ℕ) → List Rule
listing t found s tally room =
    unless (tally_size t.farm.stations t.farm.pages ≤ length tally) 2 1 ∷ unless (found ≡ Some Report) 12 0 ∷ unless (Within 1 t.farm.stations s) 3 s
    ∷ crowded t.farm.pages (Bad t.farm.stations (signature_in tally t.farm.pages) s) room ∷ []

-- what listing gives, and what the buffer then holds
abbrev pub Listing : Terms → Option Verdict → (s : ℕ) → (tally before : List ℕ) → Result ℕ Refusal → (after : List ℕ) → Type 0
Listing t found s tally before (Ok count) after =
    Accepted (listing t found s tally (length before)) × Listed t.farm.pages (Bad t.farm.stations (signature_in tally t.farm.pages) s) before after count
Listing t found s tally before (Err refusal) after = Refused (listing t found s tally (length before)) refusal × (after ≡ before)
