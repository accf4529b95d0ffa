-- How a call ends for another program: in the field that it chose, by a status, with what it lent filled, or with the place of a refusal.
use Rattle.std.specs.Prelude.{◌≡◌, ◌⊎◌, ℕ, List, ◌++◌, drop}
use Rattle.field.specs.Field.{Ops}
use Rattle.fields.specs.declared.FieldName.{FieldName}
use Rattle.fields.specs.Names.{ops_of, number_of}
use Rattle.refusal.specs.declared.Refusal.{Refusal}
use Rattle.refusal.specs.Numbers.{number, place}
use Rattle.refusal.specs.Rules.{Rule, Accepted, Refused}

-- what the caller lends: what is to be filled, and the place of a refusal
pub record Lent (A : Type 0) : Type 0 where
  pub filled : A
  pub place : ℕ

module _ {A : Type 0} where
  -- a refusal's number, with its place; nothing else is written
  abbrev pub Refuses : List Rule → (before after : Lent A) → (status : ℕ) → Type 0
  Refuses rules before after status =
      (refusal : Refusal) × Refused rules refusal × (status ≡ number refusal) × (after.filled ≡ before.filled) × (after.place ≡ place refusal)

  -- 0 where no rule refuses, and filled as said; or refused
  abbrev pub Fills : List Rule → (said : A → A → Type 0) → (before after : Lent A) → (status : ℕ) → Type 0
  Fills rules said before after status =
      (Accepted rules × (status ≡ 0) × said before.filled after.filled × (after.place ≡ before.place)) ⊎ Refuses rules before after status

  -- in the field with this number it ends so; where there is none by 255, and nothing is written
  abbrev pub EndsIn : ℕ → (so : Ops → (before after : Lent A) → (status : ℕ) → Type 0) → (before after : Lent A) → (status : ℕ) → Type 0
  EndsIn field so before after status =
      ((name : FieldName) × (field ≡ number_of name) × so (ops_of name) before after status)
      ⊎ (((name : FieldName) → field ≡ number_of name → ⊥) × (status ≡ 255) × (after ≡ before))

-- a buffer of words or bytes, and how many are written
pub record Counted : Type 0 where
  pub words : List ℕ
  pub count : ℕ

abbrev pub lent : (words : List ℕ) (count place : ℕ) → Lent Counted
lent words count place = record { filled = record { words = words; count = count }; place = place }

-- so many are written at the front; those past them stay
abbrev pub Front : ℕ → (written : List ℕ) → (before after : Counted) → Type 0
Front n written before after = (after.count ≡ n) × (after.words ≡ written ++ drop n before.words)
