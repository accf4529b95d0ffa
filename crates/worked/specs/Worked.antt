-- All worked examples as one theorem: which numbers the limits are, what the definitions give on small inputs, and what two checks come to through their calls.
use Rattle.worked.specs.Examples.{WorkedExamples}
use Rattle.worked.specs.Checks.{WorkedChecks}
use Rattle.worked.specs.Limits.{Limits}

pub record Worked : Type 0 where
  pub limits : Limits
  pub definitions : WorkedExamples
  pub checks : WorkedChecks
