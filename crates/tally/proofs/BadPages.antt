-- The bad pages of a row are listed page by page.
use Rattle.std.proofs.Common.{◌≡◌, ℕ, zero, suc, ◌+◌, ◌*◌, ◌<◌, ◌≤◌, Bool, true, false, cond, nat_lt, filter, ap₂, List, [], ◌∷◌, ◌++◌, length, get_or, drop, set, sym, refl, ap, ◌∙◌, subst, add-one, arith, le-ltb, lt-ltb}
use Rattle.std.specs.Bool.{MatchBool}
use Rattle.std.specs.List.{range_with_len}
use Rattle.std.proofs.lemmas.List.Elements.{filter-append}
use native.Mathlib.Decide.{ℕ_discrete, dec_lt}
use Rattle.std.proofs.lemmas.List.{append-nil, append_assoc, length_push, get_or_push, get_or_append_left, drop_more, set_at}
use Rattle.algebra.specs.Vectors.{Page}
use Rattle.scheme.specs.Farm.{Table, Bad, group}
use Rattle.scheme.proofs.Ranges.{one_more}
use Rattle.scheme.proofs.Search.{dec_not}
use Rattle.tally.specs.Listing.{Lists, bad_pages}
use Rattle.tally.proofs.Halves.{not_bad}

-- ── lists of pages
module _ (N : ℕ) (Q : ℕ → Type 0) (xs : List ℕ) (l : Lists N Q xs) where
  lists_pass : ¬ Q (suc N) → Lists (suc N) Q xs
  lists_pass d = record {
    each = λ i h. let e = l.each i h in (omega (arith, e.0), e.1);
    rising = l.rising;
    every = λ n b q. elim (ℕ_discrete n (suc N)) [ yes e ↦ absurd (d (subst Q e q)) | no k ↦ l.every n (omega arith) q ];
  }

  -- the new page stands last
  lists_push : Q (suc N) → Lists (suc N) Q (xs ++ suc N ∷ [])
  lists_push q = record {
    each = λ i h. elim (dec_lt i (length xs)) [
      | yes lt ↦ let e = l.each i lt in subst (λ n. Page (suc N) n × Q n) (sym (old i lt)) (omega (arith, e.0), e.1)
      | no k ↦ subst (λ n. Page (suc N) n × Q n) (sym (new i (omega (arith, size)))) (omega arith, q)
    ];
    rising = λ i j lt h. elim (dec_lt j (length xs)) [
      | yes k ↦ omega (arith, old i (omega arith), old j k, l.rising i j lt k)
      | no k ↦ omega (arith, old i (omega (arith, size)), new j (omega (arith, size)), (l.each i (omega (arith, size))).0)
    ];
    every = λ n b p. elim (ℕ_discrete n (suc N)) [
      | yes e ↦ (length xs, omega (arith, size), new (length xs) refl ∙ sym e)
      | no k ↦ let r = l.every n (omega arith) p in (r.0, omega (arith, size, r.1), old r.0 r.1 ∙ r.2)
    ];
  }
    where
      size : length (xs ++ suc N ∷ []) ≡ length xs + 1
      size = length_push xs (suc N)

      old : (i : ℕ) → i < length xs → get_or (xs ++ suc N ∷ []) i 0 ≡ get_or xs i 0
      old i lt = get_or_append_left xs (suc N ∷ []) 0 i lt

      new : (i : ℕ) → length xs ≡ i → get_or (xs ++ suc N ∷ []) i 0 ≡ suc N
      new i e = get_or_push xs (suc N) 0 i e

-- one more word after those that are written
pub write_more : (xs out : List ℕ) (n v : ℕ) → length xs ≡ n → n < length out → set (xs ++ drop n out) n v ≡ (xs ++ v ∷ []) ++ drop (n + 1) out
write_more xs out n v e lt =
    ap (λ ys. set (xs ++ ys) n v) (drop_more out n 0 lt) ∙ set_at xs (get_or out n 0) (drop (n + 1) out) v n e ∙ sym (append_assoc xs (v ∷ []) (drop (n + 1) out))

-- ── bad pages
module _ (M : ℕ) (R : Table) (s : ℕ) where
  bad_next : (k : ℕ) → Bad M R s (suc k) → bad_pages M R s (suc k) ≡ bad_pages M R s k ++ suc k ∷ []
  bad_next k bad = ap (λ b. bad_pages M R s k ++ cond b [] (suc k ∷ [])) (le-ltb M (2 * group M R (suc k) s) (omega arith))

  good_next : (k : ℕ) → ¬ Bad M R s (suc k) → bad_pages M R s (suc k) ≡ bad_pages M R s k
  good_next k good =
      ap (λ b. bad_pages M R s k ++ cond b [] (suc k ∷ [])) (lt-ltb M (2 * group M R (suc k) s) (not_bad M R s (suc k) good)) ∙ append-nil (bad_pages M R s k)

  -- what a test says of a page
  abbrev pub is_bad : ℕ → Bool
  is_bad n = cond (nat_lt M (2 * group M R n s)) false true

  kept : (b : Bool) (n : ℕ) → cond (cond b false true) (n ∷ []) [] ≡ cond b [] (n ∷ [])
  kept true n = refl
  kept false n = refl

  pub bad_filtered : (N : ℕ) → filter is_bad (range_with_len 1 N) ≡ bad_pages M R s N
  bad_filtered zero = refl
  bad_filtered (suc N) =
      ap (filter is_bad) (one_more 1 N (suc N) (omega arith)) ∙ filter-append is_bad (range_with_len 1 N) (suc N ∷ [])
      ∙ ap₂ (λ xs ys. xs ++ ys) (bad_filtered N) (kept (nat_lt M (2 * group M R (suc N) s)) (suc N))

  pub bad_answered : (n : ℕ) (b : Bool) → MatchBool b (Bad M R s n) (¬ Bad M R s n) → b ≡ is_bad n
  bad_answered n true bad = ap (λ t. cond t false true) (sym (le-ltb M (2 * group M R n s) (omega arith)))
  bad_answered n false good = ap (λ t. cond t false true) (sym (lt-ltb M (2 * group M R n s) (not_bad M R s n good)))

  pub bad_more : (k : ℕ) → Bad M R s (k + 1) → bad_pages M R s (k + 1) ≡ bad_pages M R s k ++ (k + 1) ∷ []
  bad_more k = subst (λ m. Bad M R s m → bad_pages M R s m ≡ bad_pages M R s k ++ m ∷ []) (sym (add-one k)) (bad_next k)

  pub good_more : (k : ℕ) → ¬ Bad M R s (k + 1) → bad_pages M R s (k + 1) ≡ bad_pages M R s k
  good_more k = subst (λ m. ¬ Bad M R s m → bad_pages M R s m ≡ bad_pages M R s k) (sym (add-one k)) (good_next k)

  decide_bad : (n : ℕ) → Dec (Bad M R s n)
  decide_bad n = dec_not (dec_lt M (2 * group M R n s))

  pub bad_lists : (N : ℕ) → Lists N (Bad M R s) (bad_pages M R s N)
  bad_lists zero = record { each = λ i h. absurd (omega arith); rising = λ i j lt h. absurd (omega arith); every = λ n b q. absurd (omega arith) }
  bad_lists (suc N) = elim (decide_bad (suc N)) [
    | yes bad ↦ subst (Lists (suc N) (Bad M R s)) (sym (bad_next N bad)) (lists_push N (Bad M R s) (bad_pages M R s N) (bad_lists N) bad)
    | no good ↦ subst (Lists (suc N) (Bad M R s)) (sym (good_next N good)) (lists_pass N (Bad M R s) (bad_pages M R s N) (bad_lists N) good)
  ]

  -- a page adds at most one
  next_longer : (k : ℕ) → (length (bad_pages M R s k) ≤ length (bad_pages M R s (suc k))) × (length (bad_pages M R s (suc k)) ≤ length (bad_pages M R s k) + 1)
  next_longer k = elim (decide_bad (suc k)) [
    | yes bad ↦ let e = ap length (bad_next k bad) ∙ length_push (bad_pages M R s k) (suc k) in (omega arith, omega arith)
    | no good ↦ let e = ap length (good_next k good) in (omega arith, omega arith)
  ]

  pub pages_most : (k : ℕ) → length (bad_pages M R s k) ≤ k
  pages_most zero = omega arith
  pages_most (suc k) = omega (arith, pages_most k, (next_longer k).1)

  pub pages_longer : (j k : ℕ) → j ≤ k → length (bad_pages M R s j) ≤ length (bad_pages M R s k)
  pages_longer j zero le = let e : j ≡ 0 = omega arith in omega (arith, ap (λ i. length (bad_pages M R s i)) e)
  pages_longer j (suc k) le = elim (ℕ_discrete j (suc k)) [
    | yes e ↦ omega (arith, ap (λ i. length (bad_pages M R s i)) e)
    | no d ↦ omega (arith, pages_longer j k (omega arith), (next_longer k).0)
  ]

  pub page_fits : (k N : ℕ) → Bad M R s (k + 1) → k < N → length (bad_pages M R s k) < length (bad_pages M R s N)
  page_fits k N bad lt =
      omega (arith, ap length (bad_more k bad), length_push (bad_pages M R s k) (k + 1), pages_longer (k + 1) N (omega arith))
