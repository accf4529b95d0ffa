-- The rows that cards and shelves mean, by page.
use Rattle.std.proofs.Common.{◌≡◌, ℕ, zero, suc, ◌-◌, ◌%◌, ◌≤◌, List, [], ◌∷◌, map, length, get_or, sym, refl, ap, ◌∙◌, arith}
use Rattle.std.proofs.Math.Nat.{zero-mod, mod-mod}
use Rattle.std.proofs.lemmas.List.{length-map}
use Rattle.std.proofs.lemmas.List.FromFn.{length-map-range_with_len, get_or-map-range_with_len}
use Rattle.field.specs.Field.{Ops, Laws}
use Rattle.field.specs.Sums.{entry, power_sum}
use Rattle.field.proofs.Sums.{sum_mod}
use Rattle.page.specs.Pages.{page_signature}
use Rattle.station.specs.Kinds.{card_row, job_row}

-- a function that keeps 0, at each place of a list
mapped : (g : ℕ → ℕ) → g 0 ≡ 0 → (xs : List ℕ) (i : ℕ) → get_or (map g xs) i 0 ≡ g (get_or xs i 0)
mapped g z [] i = sym z
mapped g z (x ∷ xs) zero = refl
mapped g z (x ∷ xs) (suc i) = mapped g z xs i

module _ {f : Ops} (l : Laws f) where
  -- sums count entries modulo the size
  same_sum : (e : ℕ → ℕ) (row : List ℕ) (n j : ℕ) → length row ≡ n → ((k : ℕ) → 1 ≤ k → k ≤ n → e k % f.size ≡ entry row k % f.size) →
      power_sum f n e j ≡ power_sum f (length row) (entry row) j
  same_sum e row n j count same = sum_mod l n e (entry row) j same ∙ ap (λ m. power_sum f m (entry row) j) (sym count)

  pub card_sum : (words : List ℕ) (j : ℕ) → power_sum f (length words) (entry words) j ≡ power_sum f (length (card_row f words)) (entry (card_row f words)) j
  card_sum words j =
      same_sum (entry words) (card_row f words) (length words) j (length-map words (λ word. word % f.size))
      (λ k from to. simp (mapped (λ word. word % f.size) (zero-mod f.size) words (k - 1), mod-mod))

  pub shelf_length : (L N : ℕ) (job : List ℕ) → length (job_row f L N job) ≡ N
  shelf_length L N job = length-map-range_with_len (λ k. page_signature f L job (suc k)) 0 N

  pub shelf_entry : (L N : ℕ) (job : List ℕ) (k : ℕ) → 1 ≤ k → k ≤ N → entry (job_row f L N job) k ≡ page_signature f L job k
  shelf_entry L N job k from to =
      get_or-map-range_with_len (λ k. page_signature f L job (suc k)) 0 N (k - 1) (k - 1) 0 (omega arith) (omega arith)
      ∙ ap (page_signature f L job) (let e : suc (k - 1) ≡ k = omega arith in e)

  pub shelf_sum : (L N : ℕ) (job : List ℕ) (j : ℕ) → power_sum f N (page_signature f L job) j ≡ power_sum f (length (job_row f L N job)) (entry (job_row f L N job)) j
  shelf_sum L N job j =
      same_sum (page_signature f L job) (job_row f L N job) N j (shelf_length L N job)
      (λ k from to. ap (λ x. x % f.size) (sym (shelf_entry L N job k from to)))
