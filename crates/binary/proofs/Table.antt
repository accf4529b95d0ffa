-- A table of the powers of alpha in the small field, by one test over the whole table.
use Rattle.std.proofs.Common.{◌≡◌, refl, sym, ap, ◌∙◌, Bool, true, false, ◌&&◌, IsTrue, List, [], ◌∷◌, ℕ, zero, suc, ◌+◌, ◌*◌, ◌/◌, ◌%◌, ◌<◌, add-zero, zero-add, add-suc, suc-add, mod-lt, le_of_suc-le-suc, not-suc-le-zero, arith, eqb, eqb-true, lit<, length, get_or}
use Rattle.std.proofs.Math.Nat.{div-add-mod}
use Rattle.field.specs.Field.{Ops, Laws, power}
use Rattle.field.proofs.Laws.{times_one_code, power_code, power_add, power_mul}
use Rattle.binary.specs.Binary.{product, small}
use Rattle.binary.specs.Powers.{Tabled, steps}
use Rattle.binary.specs.Fields.{small_laws}
use Rattle.binary.specs.declared.powers.TheConstants.{POWERS}

both_left : (a b : Bool) → IsTrue (a && b) → IsTrue a
both_left true b t = refl
both_left false b t = t

both_right : (a b : Bool) → IsTrue (a && b) → IsTrue b
both_right true b t = t
both_right false b t = absurd (cc)

stepped : (f : Ops) (m : ℕ) (xs : List ℕ) → IsTrue (steps f (power f f.alpha m) xs) → (k : ℕ) → k < length xs → get_or xs k 0 ≡ power f f.alpha (m + k)
stepped f m [] t k h = absurd (not-suc-le-zero h)
stepped f m (x ∷ xs) t zero h = eqb-true x (power f f.alpha m) (both_left _ _ t) ∙ ap (power f f.alpha) (sym (add-zero m))
stepped f m (x ∷ xs) t (suc k) h =
    stepped f (suc m) xs (both_right (eqb x (power f f.alpha m)) _ t) k (le_of_suc-le-suc h)
    ∙ ap (power f f.alpha) (suc-add m k ∙ sym (add-suc m k))

module _ {f : Ops} (l : Laws f) where
  power_one : (n : ℕ) → power f 1 n ≡ 1
  power_one zero = refl
  power_one (suc n) = times_one_code l _ (power_code l 1 n) ∙ power_one n

  -- where a^m is 1, the exponents count modulo m
  power_mod : (a m n : ℕ) → power f a m ≡ 1 → power f a (n % m) ≡ power f a n
  power_mod a m n e =
      let r = n % m in
      let k = n / m in
      let is : r + m * k ≡ n = omega (arith, div-add-mod n m) in
      cc (times_one_code l (power f a r) (power_code l a r), power_mul l a m k, power_one k, power_add l a r (m * k))

-- the table passes the test, so it has the powers
pub tabled : Tabled small POWERS
unfolding product
tabled = record { size = refl; stepped = refl; entries = λ n h. stepped small 0 POWERS refl n h ∙ ap (power small 2) (zero-add n) }

-- it has alpha^n at n % 255
pub looked_up : (n : ℕ) → get_or POWERS (n % 255) 0 ≡ power small 2 n
unfolding product
looked_up n = tabled.entries (n % 255) (mod-lt n (lit< tt)) ∙ power_mod small_laws 2 255 n refl
