-- Lines that are written one after another, for the pages of a station and for the stations, and how long they are at most.
use Rattle.std.proofs.Common.{◌≡◌, ℕ, suc, ◌+◌, ◌-◌, ◌^◌, ◌<◌, ◌≤◌, List, [], ◌∷◌, ◌++◌, length, take, drop, get_or, decimal, Some, Ok, lit<, sym, ap, subst, ◌∙◌, append-nil, length-append, arith}
use Rattle.std.proofs.Math.Seq.{take-suc, take-append_seam}
use Rattle.std.proofs.lemmas.Fmt.{length-decimal-le}
use Rattle.std.proofs.lemmas.Grind.{flat_map-append}
use Rattle.tally.specs.Listing.{Lists, Listed}
use Rattle.calls.specs.declared.terms.Terms.{Terms}
use Rattle.calls.specs.declared.phases.Verdict.TheVariants.{Report}
use Rattle.calls.specs.Listing.{Listing}
use Rattle.calls.specs.Runs.{Call, list}
use Rattle.desk.specs.Lines.{copy_line, copy_lines, split_line, sums_line}
use Rattle.desk.specs.Listings.{Listings, one_listed}

-- the line of one more page
pub copy_lines_more : (s : ℕ) (pages : List ℕ) (i : ℕ) → i < length pages
    → copy_lines s (take i pages) ++ copy_line s (get_or pages i 0) ≡ copy_lines s (take (i + 1) pages)
copy_lines_more s pages i inside =
    sym (ap (λ k. copy_lines s (take k pages)) (let next : i + 1 ≡ suc i = omega arith in next) ∙ ap (copy_lines s) (take-suc pages i 0 inside)
    ∙ flat_map-append (copy_line s) (take i pages) (get_or pages i 0 ∷ [])
    ∙ ap (λ line. copy_lines s (take i pages) ++ line) (append-nil (copy_line s (get_or pages i 0))))

pub copy_line_short : (s n : ℕ) → s ≤ 8 → n ≤ 255 → length (copy_line s n) ≤ 6
copy_line_short s n station page =
    let one : length (decimal s) ≤ 1 = length-decimal-le 1 s (lit< tt) (omega arith) (omega arith) in
    let three : length (decimal n) ≤ 3 = length-decimal-le 3 n (lit< tt) (omega arith) (omega arith) in
    simp length-append (omega arith)

pub split_line_short : (n : ℕ) → n < 2 ^ 64 → length (split_line n) ≤ 27
split_line_short n fits =
    let digits : length (decimal n) ≤ 20 = length-decimal-le 20 n (lit< tt) (omega arith) fits in
    simp length-append (omega arith)

pub sums_line_short : (count : ℕ) → count < 2 ^ 64 → length (sums_line count) ≤ 26
sums_line_short count fits =
    let digits : length (decimal count) ≤ 20 = length-decimal-le 20 count (lit< tt) (omega arith) fits in
    simp length-append (omega arith)

-- what a listing writes first
pub listed_first : (N : ℕ) (Q : ℕ → Type 0) (before after : List ℕ) (count : ℕ) → Listed N Q before after count → Lists N Q (take count after)
listed_first N Q before after count x =
    subst (Lists N Q) (sym (ap (take count) x.written ∙ subst (λ n. take n (x.listed ++ drop count before) ≡ x.listed) x.size (take-append_seam x.listed (drop count before)))) x.lists

-- one station's listing, written behind those of the stations before it
pub listings_turn : (t : Terms) (tally : List ℕ) (s k : ℕ) → 1 ≤ s → s ≡ k → (calls : List Call) (text room out : List ℕ) (count : ℕ)
    → Listings t tally (s - 1) calls text → Listing t (Some Report) s tally room (Ok count) out → (after : List ℕ) → after ≡ text ++ copy_lines s (take count out)
    → (more : List Call) × Listings t tally k more after
listings_turn t tally s k some same calls text room out count before listing after is =
    let one : suc (s - 1) ≡ s = omega arith in (
      list (suc (s - 1)) tally room (Ok count) out ∷ calls,
      subst (λ k. Listings t tally k (list (suc (s - 1)) tally room (Ok count) out ∷ calls) after) (one ∙ same)
          (subst (Listings t tally (suc (s - 1)) (list (suc (s - 1)) tally room (Ok count) out ∷ calls)) (sym (is ∙ ap (λ s. text ++ copy_lines s (take count out)) (sym one)))
          (one_listed before (subst (λ s. Listing t (Some Report) s tally room (Ok count) out) (sym one) listing))),
    )
