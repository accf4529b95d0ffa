use Rattle.std.proofs.Common.{◌≡◌, take}
use Rattle.desk.proofs.text.widen.Given as goal

abbrev pub invariant-loop-byte : goal.invariant-loop-byte
invariant-loop-byte l = l.words.items ≡ take l.byte-index l.bytes
