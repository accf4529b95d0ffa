-- What a finite field is: its numbers, its operations and their laws.
use Rattle.std.specs.Prelude.{◌≡◌, ℕ, zero, suc, ◌%◌, ◌<◌, ◌≤◌, min}
use Rattle.field.specs.declared.limits.TheConstants.{PAGE_LIMIT, VALUE_LIMIT}

-- The elements are the codes 0 to size - 1. An operation takes any word and counts it modulo the size.
pub record Ops : Type 0 where
  pub size : ℕ
  -- how many powers of alpha serve as places of pages
  pub places : ℕ
  pub plus : ℕ → ℕ → ℕ
  pub minus : ℕ → ℕ → ℕ
  pub times : ℕ → ℕ → ℕ
  pub inverse : ℕ → ℕ
  pub alpha : ℕ

-- how many pages a job may have
abbrev pub page_limit : Ops → ℕ
page_limit f = min PAGE_LIMIT f.places

-- a to the power n
abbrev pub power : Ops → ℕ → ℕ → ℕ
power f a zero = 1
power f a (suc n) = f.times (power f a n) a

-- the numbers that a field names are those of its operations
pub record Named (f : Ops) (size places alpha : ℕ) : Type 0 where
  pub size_is : size ≡ f.size
  pub places_are : places ≡ f.places
  pub alpha_is : alpha ≡ f.alpha

pub record Laws (f : Ops) : Type 0 where
  pub size_least : 256 ≤ f.size
  pub size_most : f.size ≤ VALUE_LIMIT
  pub alpha_code : f.alpha < f.size
  pub plus_code : (a b : ℕ) → f.plus a b < f.size
  pub minus_code : (a b : ℕ) → f.minus a b < f.size
  pub times_code : (a b : ℕ) → f.times a b < f.size
  pub inverse_code : (a : ℕ) → f.inverse a < f.size
  pub plus_comm : (a b : ℕ) → f.plus a b ≡ f.plus b a
  pub plus_assoc : (a b c : ℕ) → f.plus (f.plus a b) c ≡ f.plus a (f.plus b c)
  pub plus_zero : (a : ℕ) → f.plus a 0 ≡ a % f.size
  pub minus_plus : (a b : ℕ) → f.plus (f.minus a b) b ≡ a % f.size
  pub times_comm : (a b : ℕ) → f.times a b ≡ f.times b a
  pub times_assoc : (a b c : ℕ) → f.times (f.times a b) c ≡ f.times a (f.times b c)
  pub times_one : (a : ℕ) → f.times a 1 ≡ a % f.size
  pub times_plus : (a b c : ℕ) → f.times a (f.plus b c) ≡ f.plus (f.times a b) (f.times a c)
  pub times_inverse : (a : ℕ) → (a % f.size ≡ 0 → ⊥) → f.times a (f.inverse a) ≡ 1
  pub inverse_zero : (a : ℕ) → a % f.size ≡ 0 → f.inverse a ≡ 0
  pub inverse_mod : (a : ℕ) → f.inverse (a % f.size) ≡ f.inverse a

-- alpha, alpha^2, .., alpha^places are pairwise different, and none is 0
pub record Spread (f : Ops) : Type 0 where
  pub apart : (i j : ℕ) → 1 ≤ i → i ≤ f.places → 1 ≤ j → j ≤ f.places → power f f.alpha i ≡ power f f.alpha j → i ≡ j
  pub nonzero : (i : ℕ) → 1 ≤ i → i ≤ f.places → power f f.alpha i ≡ 0 → ⊥

-- A word counts as the code that it leaves modulo the size.
pub record Modular (f : Ops) : Type 0 where
  pub plus_mod : (a b : ℕ) → f.plus (a % f.size) (b % f.size) ≡ f.plus a b
  pub minus_mod : (a b : ℕ) → f.minus (a % f.size) (b % f.size) ≡ f.minus a b
  pub times_mod : (a b : ℕ) → f.times (a % f.size) (b % f.size) ≡ f.times a b
  pub inverse_mod : (a : ℕ) → f.inverse (a % f.size) ≡ f.inverse a
