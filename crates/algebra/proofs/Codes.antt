-- The codes of a field of words are a field, and the words' operations, powers, totals and sums are those of the codes that they count as.
use mathlib.Core.Path.{◌≡◌, refl, sym, ap, ◌∙◌, fun_ext}
use mathlib.Core.HLevel.{Σ_prop_path}
use Prim.Native.Nat.{ℕ, zero, suc, ◌<◌, ◌≤◌, ◌*◌, ◌%◌}
use native.Mathlib.Bridge.{le_prop}
use native.Mathlib.Nat.{mod-lt, mod-mod, mul_comm, zero-mod}
use native.Mathlib.Omega.{arith}
use Rattle.field.specs.Field.{Ops, Laws, Spread, power}
use Rattle.field.specs.Sums.{power_sum, total as total-words}
use Rattle.field.proofs.Laws.{code_mod, one_code, modular, power_code, power_mul}
use Rattle.algebra.proofs.Field.{Field, add_cancel}
use Rattle.algebra.proofs.Ring.{ring, ◌⊞◌, ◌⊟◌}
use Rattle.algebra.proofs.Sums.{pow, total, Points, sum}

-- the codes of a field of q elements
abbrev pub Code : ℕ → Type 0
Code q = (a : ℕ) × (a < q)

pub code_path : {q : ℕ} {x y : Code q} → x.0 ≡ y.0 → x ≡ y
code_path h = Σ_prop_path (λ a. le_prop) h

module _ {f : Ops} (l : Laws f) where
  pub zero_code : 0 < f.size
  zero_code = omega (arith, one_code l)

  abbrev pub codes : Field
  codes = record {
    El = Code f.size;
    nought = (0, zero_code);
    unit = (1, one_code l);
    add = λ x y. (f.plus x.0 y.0, l.plus_code x.0 y.0);
    neg = λ x. (f.minus 0 x.0, l.minus_code 0 x.0);
    mul = λ x y. (f.times x.0 y.0, l.times_code x.0 y.0);
    inv = λ x. (f.inverse x.0, l.inverse_code x.0);
    add_comm = λ x y. code_path (l.plus_comm x.0 y.0);
    add_assoc = λ x y z. code_path (l.plus_assoc x.0 y.0 z.0);
    add_nought = λ x. code_path (l.plus_zero x.0 ∙ code_mod l x.0 x.1);
    add_neg = λ x. code_path (l.plus_comm x.0 (f.minus 0 x.0) ∙ l.minus_plus 0 x.0 ∙ zero-mod f.size);
    mul_comm = λ x y. code_path (l.times_comm x.0 y.0);
    mul_assoc = λ x y z. code_path (l.times_assoc x.0 y.0 z.0);
    mul_unit = λ x. code_path (l.times_one x.0 ∙ code_mod l x.0 x.1);
    mul_add = λ x y z. code_path (l.times_plus x.0 y.0 z.0);
    mul_inv = λ x some. code_path (l.times_inverse x.0 (λ z. some (code_path (sym (code_mod l x.0 x.1) ∙ z))));
    unit_some = λ p. let z : ◌≡◌ {A = ℕ} 1 0 = ap (λ x. x.0) p in omega arith;
  }

  -- the element that a word counts as
  abbrev pub el : ℕ → Code f.size
  el a = (a % f.size, mod-lt a zero_code)

  pub el_injective : (a b : ℕ) → a < f.size → b < f.size → el a ≡ el b → a ≡ b
  el_injective a b ha hb e = sym (code_mod l a ha) ∙ ap (λ x. x.0) e ∙ code_mod l b hb

  pub el_zero : el 0 ≡ codes.nought
  el_zero = code_path (zero-mod f.size)

  pub el_injective_zero : (a : ℕ) → a < f.size → el a ≡ codes.nought → a ≡ 0
  el_injective_zero a h e = sym (code_mod l a h) ∙ ap (λ x. x.0) e

  pub el_one : el 1 ≡ codes.unit
  el_one = code_path (code_mod l 1 (one_code l))

  pub el_plus : (a b : ℕ) → el (f.plus a b) ≡ codes.add (el a) (el b)
  el_plus a b = code_path (code_mod l _ (l.plus_code a b) ∙ sym ((modular l).plus_mod a b))

  pub el_times : (a b : ℕ) → el (f.times a b) ≡ codes.mul (el a) (el b)
  el_times a b = code_path (code_mod l _ (l.times_code a b) ∙ sym ((modular l).times_mod a b))

  pub el_inverse : (a : ℕ) → el (f.inverse a) ≡ codes.inv (el a)
  el_inverse a = code_path (code_mod l _ (l.inverse_code a) ∙ sym (l.inverse_mod a))

  pub el_minus : (a b : ℕ) → el (f.minus a b) ≡ codes.add (el a) (codes.neg (el b))
  el_minus a b =
      add_cancel codes (el b) (el (f.minus a b)) (codes.add (el a) (codes.neg (el b)))
      (sym (el_plus b (f.minus a b))
      ∙ code_path (ap (λ x. x % f.size) (l.plus_comm b (f.minus a b) ∙ l.minus_plus a b) ∙ mod-mod a f.size)
      ∙ ring codes 2 (λ x y. (x, y ⊞ (x ⊟ y))) refl (el a) (el b))

  pub el_power : (a j : ℕ) → el (power f a j) ≡ pow codes (el a) j
  el_power a zero = el_one
  el_power a (suc j) = el_times (power f a j) a ∙ ap (λ x. codes.mul x (el a)) (el_power a j)

  pub el_total : (N : ℕ) (e : ℕ → ℕ) → el (total-words f N e) ≡ total codes N (λ n. el (e n))
  el_total zero e = el_zero
  el_total (suc N) e = el_plus _ _ ∙ ap (λ x. codes.add x (el (e (suc N)))) (el_total N e)

  -- the point of page n
  abbrev pub point : ℕ → Code f.size
  point n = el (power f f.alpha n)

  pub points : Spread f → (N : ℕ) → N ≤ f.places → Points codes point N
  points spread N le = record {
    apart = λ m n b c e. spread.apart m n (omega arith) (omega arith) (omega arith) (omega arith) (el_injective _ _ (power_code l _ m) (power_code l _ n) e);
    some = λ n b z. spread.nonzero n (omega arith) (omega arith) (el_injective_zero _ (power_code l _ n) z);
  }

  pub el_point_power : (n j : ℕ) → el (power f f.alpha (j * n)) ≡ pow codes (point n) j
  el_point_power n j = ap el (ap (power f f.alpha) (mul_comm j n) ∙ power_mul l f.alpha n j) ∙ el_power (power f f.alpha n) j

  pub el_power_sum : (N : ℕ) (e : ℕ → ℕ) (j : ℕ) → el (power_sum f N e j) ≡ sum codes point N (λ n. el (e n)) j
  el_power_sum N e j =
      el_total N _ ∙ ap (total codes N) (fun_ext (λ n. el_times (e n) _ ∙ ap (codes.mul (el (e n))) (el_point_power n j)))
