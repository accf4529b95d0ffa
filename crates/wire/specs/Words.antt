-- A word on the link has 32 bits: a kind in the top 4, a value in the other 28.
use Rattle.std.specs.Prelude.{ℕ, ◌+◌, ◌*◌, ◌/◌, ◌%◌}
use Rattle.field.specs.declared.limits.TheConstants.{VALUE_LIMIT}

abbrev pub word : ℕ → ℕ → ℕ
word kind value = kind * VALUE_LIMIT + value

abbrev pub kind_of : ℕ → ℕ
kind_of w = w / VALUE_LIMIT

abbrev pub value_of : ℕ → ℕ
value_of w = w % VALUE_LIMIT
