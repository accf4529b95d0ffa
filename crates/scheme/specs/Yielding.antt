-- Rows that are filled give back all that was told, whatever was told.
use Rattle.std.specs.Prelude.{◌≡◌, ℕ, ◌<◌, ◌≤◌}
use Rattle.field.specs.Field.{Ops, Laws, Spread}
use Rattle.field.specs.Sums.{power_sum}
use Rattle.algebra.specs.Vectors.{Page}
use Rattle.scheme.specs.Farm.{Table, Station}
use Rattle.scheme.specs.Askings.{first_sums, all_sums, filled, asks}
use Rattle.scheme.specs.Weighing.{Weighs}
use Rattle.scheme.specs.Ending.{Comes}
use Rattle.scheme.specs.Theorem.{Told}

-- What is told has the form of an answer, true or not: sums are codes, those of row 1 are its own, and a row that is asked again tells its first sums again.
pub record Coherent (f : Ops) (M N bound : ℕ) (T U : Table) (own : ℕ → ℕ) : Type 0 where
  pub own_first : (j : ℕ) → Page (first_sums M bound) j → T 1 j ≡ power_sum f N own j
  pub own_all : (j : ℕ) → Page (all_sums N bound) j → U 1 j ≡ power_sum f N own j
  pub first_codes : (s j : ℕ) → Station M s → Page (first_sums M bound) j → T s j < f.size
  pub second_codes : (k j : ℕ) → Weighs f M N bound T own (asks k) → Page (all_sums N bound) j → U k j < f.size
  pub told_again : (k j : ℕ) → Weighs f M N bound T own (asks k) → Page (first_sums M bound) j → U k j ≡ T k j

-- Whatever is told, it is what the rows that are filled would tell.
abbrev pub FilledYields : Type 0
FilledYields =
    (f : Ops) → Laws f → Spread f → (M N bound : ℕ) → N ≤ f.places → (T U : Table) (own : ℕ → ℕ) → Coherent f M N bound T U own →
    (R : Table) → Comes f M N bound T U own (filled R) → Told f M N bound R T U own
