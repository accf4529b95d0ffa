-- Worked examples: what the definitions give on small inputs.
use Rattle.std.specs.Prelude.{◌≡◌, ℕ, cond, List, [], ◌∷◌, ◌==◌}
use Rattle.field.specs.Sums.{entry, power_sum}
use Rattle.binary.specs.Binary.{small, wide}
use Rattle.prime.specs.Prime.{prime}
use Rattle.page.specs.Pages.{signature, signed_bytes}
use Rattle.scheme.specs.Farm.{Table, Bad}
use Rattle.scheme.specs.Askings.{over}
use Rattle.scheme.specs.Weighing.{Weighs}

-- a page of three bytes, and a row of three signatures
abbrev pub page : List ℕ
page = 1 ∷ 2 ∷ 3 ∷ []

abbrev pub row : List ℕ
row = 3 ∷ 0 ∷ 5 ∷ []

-- four stations, the last with another page 2
abbrev pub farm : Table
farm s = entry (cond (s == 4) (3 ∷ 7 ∷ 5 ∷ []) row)

-- four stations, two of them with another page: too many for the bound 1
abbrev pub far : Table
far s = entry (cond (s == 2) (4 ∷ 0 ∷ 5 ∷ []) (cond (s == 3) (3 ∷ 1 ∷ 5 ∷ []) row))

pub record WorkedExamples : Type 0 where
  pub small_product : small.times 2 128 ≡ 29
  pub small_inverse : small.inverse 2 ≡ 142
  pub wide_product : wide.times 2 32768 ≡ 4107
  pub prime_inverse : prime.inverse 3 ≡ 21846
  pub small_signature : signature small (signed_bytes 3 page) ≡ 3
  pub prime_signature : signature prime (signed_bytes 3 page) ≡ 18
  pub small_sum_1 : power_sum small 3 (entry row) 1 ≡ 46
  pub small_sum_2 : power_sum small 3 (entry row) 2 ≡ 81
  pub prime_sum_1 : power_sum prime 3 (entry row) 1 ≡ 144
  pub prime_sum_2 : power_sum prime 3 (entry row) 2 ≡ 3672
  pub farm_sum : power_sum prime 3 (farm 4) 1 ≡ 207
  pub farm_bad : Bad 4 farm 4 2
  pub far_over : Weighs prime 4 3 1 (λ s. power_sum prime 3 (far s)) (far 1) over
