-- The four header words of a reply, and the words after them.
use Rattle.std.proofs.Common.{◌≡◌, ℕ, zero, suc, ◌+◌, ◌≤◌, List, [], ◌∷◌, ◌++◌, length, get_or, drop, refl, ap, ◌∙◌, arith}
use Rattle.std.proofs.lemmas.List.{get_or-drop, drop_more}
use Rattle.field.specs.Sums.{entry}

abbrev pub header : List ℕ → List ℕ
header words = get_or words 0 0 ∷ get_or words 1 0 ∷ get_or words 2 0 ∷ get_or words 3 0 ∷ []

pub header_rest : (words : List ℕ) → 4 ≤ length words → words ≡ header words ++ drop 4 words
header_rest words four = grind (arith, drop_more words 0 0, drop_more words 1 0, drop_more words 2 0, drop_more words 3 0)

pub header_entry : (words : List ℕ) (k : ℕ) → 1 ≤ k → k ≤ 4 → entry (header words) k ≡ entry words k
header_entry words zero from to = absurd (omega arith)
header_entry words (suc zero) from to = refl
header_entry words (suc (suc zero)) from to = refl
header_entry words (suc (suc (suc zero))) from to = refl
header_entry words (suc (suc (suc (suc zero)))) from to = refl
header_entry words (suc (suc (suc (suc (suc k))))) from to = absurd (omega arith)

pub rest_entry : (words : List ℕ) (k : ℕ) → get_or (drop 4 words) k 0 ≡ entry words (k + 5)
rest_entry words k = get_or-drop 4 words k 0 ∙ ap (λ i. get_or words i 0) (omega arith)
