-- Where stations stand in an asking: whose slip is out, and whose reply was taken.
use Rattle.std.specs.Prelude.{◌≡◌, ℕ, ◌⊎◌, List, sum_by, slice_index_or}
use Rattle.calls.specs.declared.standing.Standing.{Standing}
use Rattle.calls.specs.declared.standing.Standing.TheVariants.{Free, Out, Heard, Done}

-- where station s stands
abbrev pub standing_of : List Standing → ℕ → Standing
standing_of standings s = slice_index_or standings s Free

-- its slip is out
abbrev pub SlipOut : Standing → Type 0
SlipOut x = (x ≡ Out) ⊎ (x ≡ Heard)

-- 1 where a slip is out
abbrev pub slip_out : Standing → ℕ
slip_out Free = 0
slip_out Out = 1
slip_out Heard = 1
slip_out Done = 0

-- 1 where a slip is out whose reply was taken
abbrev pub reply_out : Standing → ℕ
reply_out Free = 0
reply_out Out = 0
reply_out Heard = 1
reply_out Done = 0

-- how many slips are out
abbrev pub still_out : List Standing → ℕ
still_out standings = sum_by slip_out standings

-- how many of them have a reply
abbrev pub replies_out : List Standing → ℕ
replies_out standings = sum_by reply_out standings
