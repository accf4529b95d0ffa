-- After the first asking: over, a split, the rows, or a station to be asked again.
use Rattle.std.specs.Prelude.{◌≡◌, ◌⊎◌, ℕ, ◌<◌, ◌≤◌}
use Rattle.field.specs.Field.{Ops}
use Rattle.scheme.specs.Farm.{Table, Lowest, Same}
use Rattle.scheme.specs.Askings.{first_sums, all_sums, Outcome, over, split, filled, asks}
use Rattle.scheme.specs.Pairs.{Pair, TwoApart}
use Rattle.scheme.specs.Differences.{Gaps, Suspect, Unsolved}
use Rattle.scheme.specs.Four.{Known, Fails, Scattered, Doubted, asked, row_from_first}
use Rattle.scheme.specs.Three.{Taken, third}
use Rattle.scheme.specs.Settling.{SettlesThree}

-- T has the first sums, of every row; own is row 1.
module _ (f : Ops) (M N bound : ℕ) (T : Table) (own : ℕ → ℕ) where
  -- four stations and more
  abbrev pub WeighsFour : Outcome → Type 0
  WeighsFour over =
      TwoApart M (Suspect f M N bound T)
      ⊎ ((E : Gaps) × (i : ℕ) × Known f M N bound T E i × Fails f M N E i)
  WeighsFour (split n) =
      (E : Gaps) × (i : ℕ) × Known f M N bound T E i × (1 ≤ i) × (¬ Fails f M N E i) × Lowest N (Scattered M E i) n
  WeighsFour (filled R) =
      (E : Gaps) × Known f M N bound T E 0 × (¬ Fails f M N E 0) × Same M N R (row_from_first f own E)
  WeighsFour (asks k) = (E : Gaps) × (i : ℕ) × Doubted f M N bound T E i × (k ≡ asked i)

module _ (f : Ops) (N bound : ℕ) (T : Table) (own : ℕ → ℕ) where
  -- three stations: without more sums to ask for, weighing settles too
  abbrev pub WeighsThree : Outcome → Type 0
  WeighsThree over =
      ((s t : ℕ) → Pair 3 s t → Unsolved f N (first_sums 3 bound) T s t)
      ⊎ ((all_sums N bound ≤ first_sums 3 bound) × SettlesThree f N bound T T own over)
  WeighsThree (split n) = ⊥
  WeighsThree (filled R) = (all_sums N bound ≤ first_sums 3 bound) × SettlesThree f N bound T T own (filled R)
  WeighsThree (asks k) =
      (first_sums 3 bound < all_sums N bound) × ((s : ℕ) × (t : ℕ) × (e : ℕ → ℕ) × Taken f N bound T s t e × (k ≡ third s t))

abbrev pub Weighs : (f : Ops) (M N bound : ℕ) (T : Table) (own : ℕ → ℕ) → Outcome → Type 0
Weighs f M N bound T own o = ((4 ≤ M) × WeighsFour f M N bound T own o) ⊎ ((M ≡ 3) × WeighsThree f N bound T own o)
