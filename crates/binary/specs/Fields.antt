-- The two fields: what is computed of each, its laws, and that its powers of alpha are different.
use Rattle.std.specs.Prelude.{◌≡◌, refl, List, [], ◌∷◌, ℕ}
use Rattle.std.proofs.Common.{arith, lit≤}
use Rattle.field.specs.Field.{Laws, Spread}
use Rattle.field.specs.declared.limits.TheConstants.{PAGE_LIMIT}
use Rattle.field.proofs.Walk.{spread}
use Rattle.binary.specs.Binary.{Degree, product, squared, small, wide}
use Rattle.binary.specs.Inverses.{Computed, laws}

two_nonzero : ◌≡◌ {A = ℕ} 2 0 → ⊥
two_nonzero e = omega arith

-- what undoes x^2 + x, at 1, 2, 4, ..
abbrev small_back : List ℕ
small_back = 214 ∷ 232 ∷ 234 ∷ 44 ∷ 238 ∷ 0 ∷ 36 ∷ 80 ∷ []

small_computed : Computed 8 285 small_back
unfolding product squared
small_computed = record { least = lit≤ tt; most = lit≤ tt; degree = refl; round = tt; undone = tt }

pub small_laws : Laws small
small_laws = laws 8 285 small_back small_computed 255

pub small_spread : Spread small
unfolding product
small_spread = spread small_laws two_nonzero 254 refl tt

-- what undoes x^2 + x, at 1, 2, 4, ..
abbrev wide_back : List ℕ
wide_back = 350 ∷ 42420 ∷ 42422 ∷ 7412 ∷ 42418 ∷ 10272 ∷ 7420 ∷ 1328 ∷ 42402 ∷ 38610 ∷ 10240 ∷ 5068 ∷ 7356 ∷ 0 ∷ 1456 ∷ 21936 ∷ []

wide_computed : Computed 16 69643 wide_back
unfolding product squared
wide_computed = record { least = lit≤ tt; most = lit≤ tt; degree = refl; round = tt; undone = tt }

pub wide_laws : Laws wide
wide_laws = laws 16 69643 wide_back wide_computed PAGE_LIMIT

pub wide_spread : Spread wide
unfolding product
wide_spread = spread wide_laws two_nonzero 1919 refl tt

pub small_degree : Degree 8 285
small_degree = record { some = lit≤ tt; few = lit≤ tt; top = refl }

pub wide_degree : Degree 16 69643
wide_degree = record { some = lit≤ tt; few = lit≤ tt; top = refl }
