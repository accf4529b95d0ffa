-- A table with few stray copies whose sums are told as they are: the true difference of two rows solves theirs, and nothing near it else does.
use mathlib.Core.Path.{◌≡◌, sym, ap₂, ◌∙◌}
use mathlib.Core.Logic.{◌⊎◌}
use Prim.Native.Nat.{ℕ, ◌≤◌, ◌+◌}
use native.Mathlib.Omega.{arith}
use Rattle.field.specs.Field.{Ops}
use Rattle.field.specs.Sums.{power_sum}
use Rattle.algebra.specs.Vectors.{Page, Codes, weight, Solves}
use Rattle.scheme.specs.Farm.{Table, Station, count, stray, strays}
use Rattle.scheme.specs.Differences.{gap}
use Rattle.scheme.proofs.Codes.{Lawful, weight_difference, sum_difference, solutions_one}
use Rattle.scheme.proofs.Tables.{differ_strays}

-- a table of codes with at most as many stray copies as the bound says, in a lawful field
pub record Farm (f : Ops) (M N bound : ℕ) (P : Table) : Type 0 where
  pub field : Lawful f N
  pub codes : (s : ℕ) → Station M s → Codes f N (P s)
  pub few : strays M P N ≤ bound

-- row s tells sums 1 .. h as they are
abbrev pub Tells : Ops → (N : ℕ) (P T : Table) → ℕ → ℕ → Type 0
Tells f N P T h s = (j : ℕ) → Page h j → T s j ≡ power_sum f N (P s) j

module _ {f : Ops} {M N bound : ℕ} {P : Table} (farm : Farm f M N bound P) where
  pub gap_light : (s t : ℕ) → Station M s → Station M t → weight N (gap f P s t) ≤ count N (stray M P s) + count N (stray M P t)
  gap_light s t a b =
      omega (arith, weight_difference farm.field.laws N (P s) (P t) (farm.codes s a) (farm.codes t b), differ_strays M P N s t)

  module _ (T : Table) (w h s t : ℕ) (ts : Tells f N P T h s) (tt : Tells f N P T h t) where
    pub gap_solves : weight N (gap f P s t) ≤ w → Solves f N w h (gap f T s t) (gap f P s t)
    gap_solves light = record {
      codes = λ n b. farm.field.laws.minus_code (P s n) (P t n);
      light = light;
      sums = λ j c. sum_difference farm.field.laws N (P s) (P t) j ∙ sym (ap₂ f.minus (ts j c) (tt j c));
    }

  pub gap_only : (T : Table) (w h s t : ℕ) → Tells f N P T h s → Tells f N P T h t → (e : ℕ → ℕ) → Solves f N w h (gap f T s t) e
      → (weight N e + weight N (gap f P s t) ≤ h) ⊎ (N ≤ h) → (n : ℕ) → Page N n → e n ≡ gap f P s t n
  gap_only T w h s t ts tt e x =
      solutions_one farm.field w (weight N (gap f P s t)) h (gap f T s t) e (gap f P s t) x
      (gap_solves T (weight N (gap f P s t)) h s t ts tt (omega arith))
