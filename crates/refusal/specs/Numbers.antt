-- The number and the place of each refusal, and how it is written.
use Rattle.std.specs.Prelude.{ℕ, List, ◌++◌, codes, decimal}
use Rattle.refusal.specs.declared.Buffer.{Buffer}
use Rattle.refusal.specs.declared.Buffer.TheVariants.{Tally, Other}
use Rattle.refusal.specs.declared.Limit.{Limit}
use Rattle.refusal.specs.declared.Limit.TheVariants.{Number, Stations, Pages, Bound, OwnCopy, Sums, PageLength}
use Rattle.refusal.specs.declared.Refusal.{Refusal}
use Rattle.refusal.specs.declared.Refusal.TheVariants.{Size, Cramped, Unknown, Out, In, Unasked, Missing, Garbled, Foreign, Stray, Range, Silent}

abbrev pub number : Refusal → ℕ
number (Size limit) = 1
number (Cramped buffer) = 2
number (Unknown station) = 3
number (Out station) = 4
number (In station) = 5
number (Unasked station) = 6
number (Missing station) = 7
number (Garbled position) = 8
number (Foreign position) = 9
number (Stray station) = 10
number Range = 11
number Silent = 12

abbrev pub limit_place : Limit → ℕ
limit_place Number = 1
limit_place Stations = 2
limit_place Pages = 3
limit_place Bound = 4
limit_place OwnCopy = 5
limit_place Sums = 6
limit_place PageLength = 7

abbrev pub buffer_place : Buffer → ℕ
buffer_place Tally = 1
buffer_place Other = 2

abbrev pub place : Refusal → ℕ
place (Size limit) = limit_place limit
place (Cramped buffer) = buffer_place buffer
place (Unknown station) = station
place (Out station) = station
place (In station) = station
place (Unasked station) = station
place (Missing station) = station
place (Garbled position) = position
place (Foreign position) = position
place (Stray station) = station
place Range = 0
place Silent = 0

abbrev pub refusal_text : Refusal → List ℕ
refusal_text r = codes "refused " ++ (decimal (number r) ++ (codes " " ++ decimal (place r)))
