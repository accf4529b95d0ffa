-- Who agrees with a station, among the stations other than one.
use Rattle.std.specs.Prelude.{ℕ, Bool, not, ◌&&◌, ◌==◌}
use Rattle.scheme.specs.Differences.{Gaps}

-- t is not i, and agrees with s on page n
abbrev pub agreeing : Gaps → (i n s t : ℕ) → Bool
agreeing E i n s t = not (t == i) && (E t s n == 0)
