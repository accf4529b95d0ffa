-- A list that holds g of each index is what g gives of them.
use Rattle.std.proofs.Common.{◌≡◌, ℕ, ◌<◌, List, map, length, get_or, sym, ◌∙◌, arith}
use Rattle.std.specs.List.{range_with_len}
use Rattle.std.proofs.lemmas.Grind.{same_number_lists}
use Rattle.std.proofs.lemmas.List.FromFn.{length-map-range_with_len, get_or-map-range_with_len}

pub written : (g : ℕ → ℕ) (n : ℕ) (xs : List ℕ) → length xs ≡ n → ((i : ℕ) → i < n → get_or xs i 0 ≡ g i) → xs ≡ map g (range_with_len 0 n)
written g n xs count each =
    same_number_lists xs (map g (range_with_len 0 n)) (count ∙ sym (length-map-range_with_len g 0 n))
    (λ i h. let low : i < n = rw count at h in each i low ∙ sym (get_or-map-range_with_len g 0 n i i 0 low (omega arith)))
