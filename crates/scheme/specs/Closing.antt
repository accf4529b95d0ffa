-- On rows that are filled: the page that is split, or a report.
use Rattle.std.specs.Prelude.{ℕ}
use Rattle.algebra.specs.Vectors.{Page}
use Rattle.scheme.specs.Farm.{Table, Lowest, Decided}

module _ (M N : ℕ) (R : Table) where
  -- n is the lowest page on which no signature is held by more than half
  abbrev pub Splits : ℕ → Type 0
  Splits = Lowest N (λ n. ¬ Decided M R n)

  -- every page has a signature held by more than half
  abbrev pub Reports : Type 0
  Reports = (n : ℕ) → Page N n → Decided M R n
