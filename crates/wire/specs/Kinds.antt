-- The kinds of a word, each with its number.
use Rattle.std.specs.Prelude.{ℕ}
use Rattle.wire.specs.Requests.{asked_kind}
use Rattle.wire.specs.declared.kind.Kind.{Kind}
use Rattle.wire.specs.declared.kind.Kind.TheVariants.{Check, Station, First, Last, Value}

abbrev pub kind_number : Kind → ℕ
kind_number Check = 1
kind_number Station = 2
kind_number (First asked) = asked_kind asked
kind_number Last = 5
kind_number Value = 6
