-- The lines that a desk writes, as bytes.
use Rattle.std.specs.Prelude.{ℕ, suc, List, [], ◌++◌, codes, decimal}
use Rattle.std.specs.List.{flat_map}
use Rattle.tally.specs.Listing.{Lists}

abbrev pub copy_line : (s n : ℕ) → List ℕ
copy_line s n = decimal s ++ (codes " " ++ (decimal n ++ codes "\n"))

-- a line for each of the pages of station s
abbrev pub copy_lines : ℕ → List ℕ → List ℕ
copy_lines s pages = flat_map (copy_line s) pages

abbrev pub over_line : List ℕ
over_line = codes "over\n"

abbrev pub split_line : ℕ → List ℕ
split_line n = codes "split " ++ (decimal n ++ codes "\n")

abbrev pub sums_line : ℕ → List ℕ
sums_line count = codes "sums " ++ (decimal count ++ codes "\n")

-- the lines of the stations 1 .. k, in that order: for each a line for each of its pages, rising, of which Q holds
pub data LinesOf (N : ℕ) (Q : ℕ → ℕ → Type 0) : (k : ℕ) → (text : List ℕ) → Type 0 where
  no_station : LinesOf N Q 0 []
  one_more : {k : ℕ} {text pages : List ℕ} → LinesOf N Q k text → Lists N (Q (suc k)) pages → LinesOf N Q (suc k) (text ++ copy_lines (suc k) pages)
