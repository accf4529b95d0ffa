-- A tally: a row for each station, counted from 1; a row has N signatures, by page, and then the sums 1 to 128.
use Rattle.std.specs.Prelude.{◌≡◌, ℕ, ◌+◌, ◌-◌, ◌*◌, ◌<◌, List, length, ◌≢◌, slice_index}
use Rattle.algebra.specs.Vectors.{Page}
use Rattle.scheme.specs.Farm.{Table, Station, Same}

-- where row s starts
abbrev pub row_start : ℕ → ℕ → ℕ
row_start N s = (s - 1) * (N + 128)

-- where the signature of page n stands, and where sum j does
abbrev pub signature_place : ℕ → ℕ → ℕ → ℕ
signature_place N s n = row_start N s + (n - 1)

abbrev pub sum_place : ℕ → ℕ → ℕ → ℕ
sum_place N s j = row_start N s + (N + (j - 1))

abbrev pub signature_in : List ℕ → ℕ → ℕ → ℕ → ℕ
signature_in tally N s n = slice_index tally (signature_place N s n)

abbrev pub sum_in : List ℕ → ℕ → ℕ → ℕ → ℕ
sum_in tally N s j = slice_index tally (sum_place N s j)

-- after is before, but that the signatures of the stations 1 .. M on the pages 1 .. N are those of R
pub record Filled (M N : ℕ) (before after : List ℕ) (R : Table) : Type 0 where
  pub size : length after ≡ length before
  pub rows : Same M N (signature_in after N) R
  pub rest : (i : ℕ) → ((s n : ℕ) → Station M s → Page N n → i ≢ signature_place N s n) → slice_index after i ≡ slice_index before i

-- how many words M rows are
abbrev pub tally_size : ℕ → ℕ → ℕ
tally_size M N = M * (N + 128)

-- after is before, but that the signatures of row t on the pages 1 .. k are those of the row, as far as the tally reaches
pub record RowPut (N k t : ℕ) (before after : List ℕ) (row : ℕ → ℕ) : Type 0 where
  pub size : length after ≡ length before
  pub row_is : (n : ℕ) → Page k n → signature_place N t n < length before → signature_in after N t n ≡ row n
  pub rest : (i : ℕ) → ((n : ℕ) → Page k n → i ≢ signature_place N t n) → slice_index after i ≡ slice_index before i
