-- How words are read: one after the other, each for what it is written as.
use Rattle.std.specs.Prelude.{◌≡◌, ℕ, List, ◌∷◌, codes}
use Rattle.std.specs.Str.Parse.{digits_value, without_leading_plus}
use Rattle.commands.specs.declared.opening.Scheme.{Scheme}
use Rattle.commands.specs.declared.opening.Scheme.TheVariants.{Two, One}

-- the decimal number that a text is written as
abbrev pub Denotes : (text : List ℕ) → ℕ → Type 0
Denotes text n = n ≡ digits_value 10 (without_leading_plus text)

abbrev pub scheme_name : Scheme → List ℕ
scheme_name Two = codes "two"
scheme_name One = codes "one"

module _ {W : Type 0} (text : W → List ℕ) where
  -- one word was read, of whose text P holds
  abbrev pub ReadsWord : (before after : List W) → (List ℕ → Type 0) → Type 0
  ReadsWord before after P = (w : W) × (before ≡ w ∷ after) × P (text w)

  abbrev pub ReadsNumber : (before after : List W) → ℕ → Type 0
  ReadsNumber before after number = ReadsWord before after (λ text. Denotes text number)

  -- a name was read, and then a number
  abbrev pub ReadsNamed : (before after : List W) → (name : W) → (number : ℕ) → Type 0
  ReadsNamed before after name number = (rest : List W) × (before ≡ name ∷ rest) × ReadsNumber rest after number

  -- the numbers that a check is opened with were read, in this order
  abbrev pub ReadsTerms : (before after : List W) → (number stations pages bound : ℕ) → Type 0
  ReadsTerms before after number stations pages bound =
      (a b c : List W) × ReadsNumber before a number × ReadsNumber a b stations × ReadsNumber b c pages × ReadsNumber c after bound

  -- the check's name, its terms, its scheme, and the own copy's name
  abbrev pub ReadsOpen : (before after : List W) → (name own : W) → (number stations pages bound : ℕ) → Scheme → Type 0
  ReadsOpen before after name own number stations pages bound scheme =
      (a b c : List W) × (before ≡ name ∷ a) × ReadsTerms a b number stations pages bound
      × ReadsWord b c (λ text. text ≡ scheme_name scheme) × (c ≡ own ∷ after)
