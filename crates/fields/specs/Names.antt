-- The three fields: what they are, what they are called, and the number by which another program asks for one.
use Rattle.std.specs.Prelude.{◌≡◌, ◌≢◌, ℕ, List, codes, Result, MatchResult}
use Rattle.field.specs.Field.{Ops}
use Rattle.binary.specs.Binary.{small, wide}
use Rattle.prime.specs.Prime.{prime}
use Rattle.fields.specs.declared.FieldName.{FieldName}
use Rattle.fields.specs.declared.FieldName.TheVariants.{Small, Wide, Prime}
use Rattle.fields.specs.declared.UnknownField.{UnknownField}

abbrev pub ops_of : FieldName → Ops
ops_of Small = small
ops_of Wide = wide
ops_of Prime = prime

abbrev pub name_of : FieldName → List ℕ
name_of Small = codes "small"
name_of Wide = codes "wide"
name_of Prime = codes "prime"

abbrev pub number_of : FieldName → ℕ
number_of Small = 1
number_of Wide = 2
number_of Prime = 3

-- the field that has the name, or that none has it; and so for a number
abbrev pub NamedBy : List ℕ → Result FieldName UnknownField → Type 0
NamedBy text r = MatchResult r (λ field. text ≡ name_of field) (λ _. (field : FieldName) → text ≢ name_of field)

abbrev pub NumberedBy : ℕ → Result FieldName UnknownField → Type 0
NumberedBy number r = MatchResult r (λ field. number ≡ number_of field) (λ _. (field : FieldName) → number ≢ number_of field)
