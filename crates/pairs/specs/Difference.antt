-- What a solved difference says of the sums that it was solved from.
use Rattle.std.specs.Prelude.{◌≡◌, ℕ, List, Some, None, Option}
use Rattle.field.specs.Field.{Ops}
use Rattle.algebra.specs.Vectors.{weight, Solves}
use Rattle.solve.specs.declared.Entry.{Entry}
use Rattle.solve.specs.Answer.{code_at, Entries}
use Rattle.pairs.specs.declared.difference.Difference.{Difference}

module _ (f : Ops) (N w J : ℕ) (sums : ℕ → ℕ) where
  -- the list has m pages, and is a vector of weight at most w with those J sums; any such vector has weight m
  pub record SolvedBy (m : ℕ) (list : List Entry) : Type 0 where
    pub listed : Entries N m list
    pub solves : Solves f N w J sums (code_at list)
    pub weighs : (e : ℕ → ℕ) → Solves f N w J sums e → weight N e ≡ m

  -- what is answered: the vector, or that there is none
  abbrev pub AnsweredBy : Option ℕ → List Entry → Type 0
  AnsweredBy (Some m) list = SolvedBy m list
  AnsweredBy None list = (e : ℕ → ℕ) → ¬ Solves f N w J sums e

  abbrev pub Answered : Difference → Type 0
  Answered x = AnsweredBy x.weight x.list
