-- Rows of a tally, written one by one.
use Rattle.std.specs.Prelude.{◌≡◌, ℕ, ◌<◌, ◌≤◌, List, length, ◌≢◌, slice_index}
use Rattle.algebra.specs.Vectors.{Page}
use Rattle.scheme.specs.Farm.{Table}
use Rattle.tally.specs.Rows.{signature_place, signature_in}

-- after is before, but that the signatures of the rows 2 .. t on the pages 1 .. N are those of R
pub record RowsPut (N t : ℕ) (before after : List ℕ) (R : Table) : Type 0 where
  pub size : length after ≡ length before
  pub rows : (s n : ℕ) → 1 < s → s ≤ t → Page N n → signature_in after N s n ≡ R s n
  pub rest : (i : ℕ) → ((s n : ℕ) → 1 < s → s ≤ t → Page N n → i ≢ signature_place N s n) → slice_index after i ≡ slice_index before i
