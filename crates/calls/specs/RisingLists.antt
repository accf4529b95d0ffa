-- Two rising lists of the same pages are equally long.
use Rattle.std.specs.Prelude.{◌≡◌, ℕ, zero, suc, ◌<◌, ◌≤◌, List, length, slice_index}
use Rattle.std.proofs.Common.{subst, arith}
use native.Mathlib.Decide.{dec_le}
use Rattle.tally.specs.Listing.{Lists}

module _ {N : ℕ} {Q : ℕ → Type 0} {xs ys : List ℕ} (x : Lists N Q xs) (y : Lists N Q ys) where
  -- what stands at place i of the one stands at place i of the other or later
  no_earlier : (i j : ℕ) → i < length xs → j < length ys → slice_index ys j ≡ slice_index xs i → i ≤ j
  no_earlier zero j a b e = omega arith
  no_earlier (suc i) j a b e =
      let here = x.each i (omega arith) in
      let there = y.every (slice_index xs i) here.0 here.1 in
      let before : i ≤ there.0 = no_earlier i there.0 (omega arith) there.1 there.2 in
      let up : slice_index xs i < slice_index xs (suc i) = x.rising i (suc i) (omega arith) a in
      elim (dec_le (suc there.0) j) [
        | yes less ↦ omega arith
        | no not ↦ elim (dec_le (suc j) there.0) [
          | yes more ↦ (let down = y.rising j there.0 more there.1 in omega (arith, down, e, there.2, up))
          | no neither ↦ (let same : there.0 ≡ j = omega arith in
              let stands : slice_index ys j ≡ slice_index xs i = subst (λ k. slice_index ys k ≡ slice_index xs i) same there.2 in
              omega (arith, stands, e, up))
        ]
      ]

  pub no_longer : length xs ≤ length ys
  no_longer = elim (dec_le (length xs) (length ys)) [
    | yes fits ↦ fits
    | no longer ↦
        let m = length ys in
        let here = x.each m (omega arith) in
        let there = y.every (slice_index xs m) here.0 here.1 in
        let late : m ≤ there.0 = no_earlier m there.0 (omega arith) there.1 there.2 in
        omega (arith, late, there.1)
  ]
