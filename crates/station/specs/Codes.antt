-- The rows of cards and shelves hold codes.
use Rattle.std.specs.Prelude.{ℕ, zero, suc, ◌-◌, ◌%◌, ◌<◌, List, [], ◌∷◌, map, get_or}
use Rattle.std.specs.List.{range_with_len}
use Rattle.std.proofs.Common.{mod-lt, arith}
use Rattle.field.specs.Field.{Ops, Laws}
use Rattle.field.specs.Sums.{entry}
use Rattle.page.specs.Pages.{page_bytes, signed_bytes, page_signature}
use Rattle.page.proofs.Parts.{signature_code}
use Rattle.station.specs.Kinds.{card_row, job_row}

mapped : (limit : ℕ) (g : ℕ → ℕ) → 0 < limit → ((x : ℕ) → g x < limit) → (xs : List ℕ) (i : ℕ) → get_or (map g xs) i 0 < limit
mapped limit g some below [] i = some
mapped limit g some below (x ∷ xs) zero = below x
mapped limit g some below (x ∷ xs) (suc i) = mapped limit g some below xs i

module _ {f : Ops} (l : Laws f) where
  some : 0 < f.size
  some = omega (arith, l.size_least)

  pub card_codes : (words : List ℕ) (k : ℕ) → entry (card_row f words) k < f.size
  card_codes words k = mapped f.size (λ word. word % f.size) some (λ word. mod-lt word some) words (k - 1)

  pub job_codes : (L N : ℕ) (job : List ℕ) (k : ℕ) → entry (job_row f L N job) k < f.size
  job_codes L N job k =
      mapped f.size (λ n. page_signature f L job (suc n)) some (λ n. signature_code l (signed_bytes L (page_bytes L job (suc n)))) (range_with_len 0 N) (k - 1)
