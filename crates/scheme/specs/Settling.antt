-- After the second asking: over, or the rows.
use Rattle.std.specs.Prelude.{◌≡◌, ◌⊎◌, ℕ, ◌≤◌}
use Rattle.field.specs.Field.{Ops}
use Rattle.scheme.specs.Differences.{Gaps}
use Rattle.scheme.specs.Farm.{Table, Same}
use Rattle.scheme.specs.Askings.{Outcome, over, split, filled, asks}
use Rattle.scheme.specs.Four.{Doubted, FromLeads, row_from_leads}
use Rattle.scheme.specs.Three.{Taken, third, FromFirst, row_of_three}

-- T has the first sums, of every row, and U all sums, of row 1 and of the row asked again; own is row 1.
module _ (f : Ops) (M N bound : ℕ) (T U : Table) (own : ℕ → ℕ) where
  -- four stations and more
  abbrev pub SettlesFour : Outcome → Type 0
  SettlesFour over = (E : Gaps) × (i : ℕ) × Doubted f M N bound T E i × ((e : ℕ → ℕ) → ¬ FromLeads f M N bound U E i e)
  SettlesFour (filled R) =
      (E : Gaps) × (i : ℕ) × (e : ℕ → ℕ) × Doubted f M N bound T E i × FromLeads f M N bound U E i e
      × Same M N R (row_from_leads f M own E i e)
  SettlesFour (split n) = ⊥
  SettlesFour (asks k) = ⊥

module _ (f : Ops) (N bound : ℕ) (T U : Table) (own : ℕ → ℕ) where
  -- three stations
  abbrev pub SettlesThree : Outcome → Type 0
  SettlesThree over = (s : ℕ) × (t : ℕ) × (e : ℕ → ℕ) × Taken f N bound T s t e × ((d : ℕ → ℕ) → ¬ FromFirst f N bound U (third s t) d)
  SettlesThree (filled R) =
      (s : ℕ) × (t : ℕ) × (e : ℕ → ℕ) × (d : ℕ → ℕ) × Taken f N bound T s t e × FromFirst f N bound U (third s t) d
      × Same 3 N R (row_of_three f own s t e d)
  SettlesThree (split n) = ⊥
  SettlesThree (asks k) = ⊥

abbrev pub Settles : (f : Ops) (M N bound : ℕ) (T U : Table) (own : ℕ → ℕ) → Outcome → Type 0
Settles f M N bound T U own o = ((4 ≤ M) × SettlesFour f M N bound T U own o) ⊎ ((M ≡ 3) × SettlesThree f N bound T U own o)
