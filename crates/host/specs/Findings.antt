-- How another program's call for the findings on a farm ends.
use Rattle.std.specs.Prelude.{ℕ, List, length, Option}
use Rattle.refusal.specs.declared.Refusal.{Refusal}
use Rattle.lines.specs.Text.{writing}
use Rattle.desk.specs.Findings.{FindingsText}
use Rattle.host.specs.Ending.{Lent, Counted, Front, Fills}

-- all that the program of a desk writes for the input; refused where the buffer is too short for it
abbrev pub Finds : (input : List ℕ) → (before after : Lent Counted) → (status : ℕ) → Type 0
Finds input before after status =
    (refused : Option Refusal) × (text : List ℕ) × FindingsText input refused text
    × Fills (writing (length text) (length before.filled.words)) (Front (length text) text) before after status
