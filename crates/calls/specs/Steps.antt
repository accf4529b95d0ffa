-- That weighing and settling are steps of a run, by the stages that the phases show.
use Rattle.std.specs.Prelude.{ℕ, List, Ok, Err, Result}
use Rattle.field.specs.Field.{Ops}
use Rattle.field.specs.declared.Field.{Ghosts}
use Rattle.calls.specs.declared.phases.First.{First}
use Rattle.calls.specs.declared.phases.Second.{Second}
use Rattle.calls.specs.declared.phases.Closed.{Closed}
use Rattle.calls.specs.declared.check.Check.{Check}
use Rattle.calls.specs.declared.weighed.Weighed.{Weighed}
use Rattle.calls.specs.declared.weighed.Weighed.TheVariants.{Closes, Asks}
use Rattle.calls.specs.declared.weighed.Declined.{Declined}
use Rattle.calls.specs.Runs.{Stage, Step, weigh, settle}

-- weighing takes a check in its first asking to a closed one, to one in its second asking, or, refused, to the one that comes back
abbrev pub WeighSteps : {F : Type 0} {g : Ghosts F} → Ops → (First → Stage) → (Second → Stage) → (Closed → Stage)
    → Check F First g → (before : List ℕ) → Result (Weighed F g) (Declined (Check F First g)) → (after : List ℕ) → Type 0
WeighSteps f in_first in_second in_closed c before (Ok (Closes d)) after =
    Step f c.book (in_first c.phase) (weigh before after) d.book (in_closed d.phase)
WeighSteps f in_first in_second in_closed c before (Ok (Asks d)) after =
    Step f c.book (in_first c.phase) (weigh before after) d.book (in_second d.phase)
WeighSteps f in_first in_second in_closed c before (Err e) after =
    Step f c.book (in_first c.phase) (weigh before after) e.check.book (in_first e.check.phase)

-- settling takes one in its second asking to a closed one, or, refused, to the one that comes back
abbrev pub SettleSteps : {F : Type 0} {g : Ghosts F} → Ops → (Second → Stage) → (Closed → Stage)
    → Check F Second g → (before : List ℕ) → Result (Check F Closed g) (Declined (Check F Second g)) → (after : List ℕ) → Type 0
SettleSteps f in_second in_closed c before (Ok d) after =
    Step f c.book (in_second c.phase) (settle before after) d.book (in_closed d.phase)
SettleSteps f in_second in_closed c before (Err e) after =
    Step f c.book (in_second c.phase) (settle before after) e.check.book (in_second e.check.phase)
