-- A table of the powers of alpha, and the one test that it passes.
use Rattle.std.specs.Prelude.{◌≡◌, Bool, true, ℕ, ◌<◌, List, [], ◌∷◌, length, slice_index, IsTrue, ◌==◌, ◌&&◌}
use Rattle.field.specs.Field.{Ops, power}

-- the first of the list is x, and each other is alpha times the one before it
abbrev pub steps : Ops → ℕ → List ℕ → Bool
steps f x [] = true
steps f x (y ∷ ys) = (y == x) && steps f (f.times x f.alpha) ys

-- the list has alpha^n at n, for as many powers as there are places; one computed test over all of it shows that
pub record Tabled (f : Ops) (table : List ℕ) : Type 0 where
  pub size : length table ≡ f.places
  pub stepped : IsTrue (steps f 1 table)
  pub entries : (n : ℕ) → n < length table → slice_index table n ≡ power f f.alpha n
