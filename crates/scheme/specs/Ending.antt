-- The rules from the first asking to the end: over, a split or a report.
use Rattle.std.specs.Prelude.{◌⊎◌, ℕ}
use Rattle.field.specs.Field.{Ops}
use Rattle.scheme.specs.Farm.{Table, Same}
use Rattle.scheme.specs.Askings.{Plain, Outcome, over, split, filled, asks}
use Rattle.scheme.specs.Settling.{Settles}
use Rattle.scheme.specs.Weighing.{Weighs}
use Rattle.scheme.specs.Closing.{Splits, Reports}

-- what a judgement comes to, by what weighing and what settling do: weighing to o, or it asks a station again and settling comes to o; nobody is
-- asked again after that
abbrev pub Concludes : (Weighing Settling : Outcome → Type 0) → Outcome → Type 0
Concludes Weighing Settling (asks k) = ⊥
Concludes Weighing Settling over = Weighing over ⊎ (((k : ℕ) × Weighing (asks k)) × Settling over)
Concludes Weighing Settling (split n) = Weighing (split n) ⊎ (((k : ℕ) × Weighing (asks k)) × Settling (split n))
Concludes Weighing Settling (filled R) = Weighing (filled R) ⊎ (((k : ℕ) × Weighing (asks k)) × Settling (filled R))

-- T and U are the sums that the two askings tell, own is row 1.
module _ (f : Ops) (M N bound : ℕ) (T U : Table) (own : ℕ → ℕ) where
  -- weighing comes to o, or it asks again and settling does
  abbrev pub Comes : Outcome → Type 0
  Comes o =
      (¬ Plain M N bound)
      × (Weighs f M N bound T own o ⊎ (((k : ℕ) × Weighs f M N bound T own (asks k)) × Settles f M N bound T U own o))

  module _ (P : Table) where
    -- the rows R are at hand: those of the table P where all are told, else those that are filled
    abbrev pub Fills : Table → Type 0
    Fills R = (Plain M N bound × Same M N R P) ⊎ Comes (filled R)

    -- page n is split before the rows are at hand, or by them
    abbrev pub EndsSplit : ℕ → Type 0
    EndsSplit n = Comes (split n) ⊎ ((R : Table) × Fills R × Splits M N R n)

    abbrev pub EndsReport : Table → Type 0
    EndsReport R = Fills R × Reports M N R
