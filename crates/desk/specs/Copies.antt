-- The cards of a farm as one list of words, station by station.
use Rattle.std.specs.Prelude.{◌≡◌, ℕ, suc, ◌-◌, ◌*◌, ◌≤◌, min, List, [], ◌∷◌, take, drop}
use Rattle.field.specs.Field.{Ops, page_limit}
use Rattle.refusal.specs.Rules.{Rule, Within, unless}
use Rattle.station.specs.Kinds.{card_row}
use Rattle.tally.specs.Rows.{tally_size}

-- so many are there as are due, or 8 at the first position that is missing or surplus
abbrev pub length_is : (due count : ℕ) → List Rule
length_is due count = unless (count ≡ due) 8 (suc (min due count)) ∷ []

-- more pages than the field has, another number of words than M cards of N pages have, then a tally that is too short
abbrev pub checking : Ops → (M N count room : ℕ) → List Rule
checking f M N count room =
    unless (Within 1 (page_limit f) N) 1 3 ∷ unless (count ≡ M * N) 8 (suc (min (M * N) count)) ∷ unless (tally_size M N ≤ room) 2 1 ∷ []

-- the words of the card of station s
abbrev pub words_of : (N : ℕ) → List ℕ → ℕ → List ℕ
words_of N words s = take N (drop ((s - 1) * N) words)

-- what the stations hold
abbrev pub cards : Ops → (N : ℕ) → List ℕ → ℕ → List ℕ
cards f N words s = card_row f (words_of N words s)
