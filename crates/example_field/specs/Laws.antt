-- The field of 2^24 elements keeps the laws of a field, and its powers of alpha are different. All of it is computed from the numbers below.
use Rattle.std.specs.Prelude.{◌≡◌, refl, List, [], ◌∷◌, ℕ}
use Rattle.std.proofs.Common.{arith, lit≤}
use Rattle.field.specs.Field.{Ops, Laws, Spread}
use Rattle.field.proofs.Walk as walk
use Rattle.binary.specs.Binary.{Degree, binary, product, squared}
use Rattle.binary.specs.Inverses as inverses

-- the width, the polynomial and the places
abbrev large : Ops
large = binary 24 16777351 1920

-- the linear function that undoes x^2 + x, by its values at 1, 2, 4, ..
abbrev back : List ℕ
back = 2692808 ∷ 8411270 ∷ 8411268 ∷ 11214562 ∷ 8411264 ∷ 254428 ∷ 11214570 ∷ 8525920 ∷ 8411280 ∷ 15087774 ∷ 254460 ∷ 11206486 ∷ 11214506 ∷ 5047928 ∷ 8526048 ∷ 14997602 ∷ 8411536 ∷ 0 ∷ 15088286 ∷ 8796844 ∷ 255484 ∷ 6857662 ∷ 11204438 ∷ 7702258 ∷ []

-- each word is its own power 2^24, and x^2 + x tells x but for its last bit
computed : inverses.Computed 24 16777351 back
unfolding product squared
computed = record { least = lit≤ tt; most = lit≤ tt; degree = refl; round = tt; undone = tt }

-- the degree of the polynomial is the width
pub degree : Degree 24 16777351
degree = record { some = lit≤ tt; few = lit≤ tt; top = refl }

-- so the words of 24 bits are a field
pub laws : Laws large
laws = inverses.laws 24 16777351 back computed 1920

alpha_nonzero : ◌≡◌ {A = ℕ} 2 0 → ⊥
alpha_nonzero e = omega arith

-- alpha, alpha^2, .., alpha^1920 are different: 1,919 steps from alpha do not come to 1
pub spread : Spread large
unfolding product
spread = walk.spread laws alpha_nonzero 1919 refl tt
