-- Words by kind and value, and a whole request as the words of one.
use Rattle.std.proofs.Common.{◌≡◌, ℕ, ◌≤◌, List, [], ◌∷◌, ◌++◌, get_or, drop, ap, ◌∙◌, arith}
use Rattle.std.proofs.lemmas.List.{drop_all}
use Rattle.field.specs.Sums.{entry}
use Rattle.wire.specs.Words.{word, kind_of, value_of}
use Rattle.wire.specs.Reading.{WellFormed, Whole}
use Rattle.wire.proofs.Header.{header, header_rest}

pub kind_word : (kind w : ℕ) → kind_of w ≡ kind → w ≡ word kind (value_of w)
kind_word kind w e = omega arith

module _ (words : List ℕ) (whole : Whole 0 0 words) where
  at : (k : ℕ) → 1 ≤ k → k ≤ 4 → WellFormed 0 k (entry words k)
  at k from to = whole.each k from (omega (arith, whole.count))

  pub third_kind : (kind_of (get_or words 2 0) ≡ 3 → ⊥) → kind_of (get_or words 2 0) ≡ 4
  third_kind other = omega (arith, at 3 (omega arith) (omega arith))

  pub four_words : (kind : ℕ) → kind_of (get_or words 2 0) ≡ kind →
      words ≡ word 1 (value_of (get_or words 0 0)) ∷ word 2 (value_of (get_or words 1 0)) ∷ word kind (value_of (get_or words 2 0)) ∷ word 5 (value_of (get_or words 3 0)) ∷ []
  four_words kind third =
      let a = kind_word 1 (get_or words 0 0) (omega (arith, at 1 (omega arith) (omega arith))) in
      let b = kind_word 2 (get_or words 1 0) (omega (arith, at 2 (omega arith) (omega arith))) in
      let c = kind_word kind (get_or words 2 0) third in
      let d = kind_word 5 (get_or words 3 0) (omega (arith, at 4 (omega arith) (omega arith))) in
      let none : drop 4 words ≡ [] = drop_all 4 words (omega (arith, whole.count)) in
      let parts = header_rest words (omega (arith, whole.count)) ∙ ap (λ xs. header words ++ xs) none in
      cc
