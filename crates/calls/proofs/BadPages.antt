-- On a page with a majority a copy is bad where it differs from it.
use Rattle.std.proofs.Common.{◌≡◌, ℕ, ◌+◌, ◌≤◌, ◌≢◌, List, sym, ◌∙◌, subst, arith}
use native.Mathlib.Decide.{ℕ_discrete}
use Rattle.algebra.specs.Vectors.{Page}
use Rattle.scheme.specs.Farm.{Table, Majority, Decided, Bad, count, agree}
use Rattle.scheme.proofs.Counts.{count_add, agree_most, agree_apart}
use Rattle.tally.specs.Listing.{Lists, Listed}
use Rattle.calls.specs.Promise.{Differs}
use Rattle.calls.proofs.Totals.{count_most}

agree_once : (a v w : ℕ) → v ≢ w → agree a v + agree a w ≤ 1
agree_once a v w apart = elim (ℕ_discrete a v) [
  | yes e ↦ omega (arith, agree_most a v, agree_apart a w (λ x. apart (sym e ∙ x)))
  | no d ↦ omega (arith, agree_most a w, agree_apart a v d)
]

module _ (M : ℕ) (P : Table) (n : ℕ) where
  -- no two signatures are held by more than half
  one_majority : (v w : ℕ) → Majority M P n v → Majority M P n w → v ≡ w
  one_majority v w a b = elim (ℕ_discrete v w) [
    | yes e ↦ e
    | no d ↦
        let most = count_most M (λ s. agree (P s n) v + agree (P s n) w) (λ s. agree_once (P s n) v w d) in
        let both = count_add M (λ s. agree (P s n) v) (λ s. agree (P s n) w) in
        absurd (omega (arith, a, b, most, both))
  ]

  pub bad_differs : (s : ℕ) → Decided M P n → Bad M P s n → Differs M P s n
  bad_differs s d bad = (d.0, d.1, λ e. bad (subst (Majority M P n) (sym e) d.1))

  pub differs_bad : (s : ℕ) → Differs M P s n → Bad M P s n
  differs_bad s x most = x.2 (one_majority (P s n) x.0 most x.1)

-- lists of the same pages
pub lists_as : (N : ℕ) (Q P : ℕ → Type 0) → ((n : ℕ) → Page N n → Q n → P n) → ((n : ℕ) → Page N n → P n → Q n) → (xs : List ℕ) → Lists N Q xs → Lists N P xs
lists_as N Q P to from xs l = record {
  each = λ i h. let e = l.each i h in (e.0, to _ e.0 e.1);
  rising = l.rising;
  every = λ n p x. l.every n p (from n p x);
}

pub listed_as : (N : ℕ) (Q P : ℕ → Type 0) → ((n : ℕ) → Page N n → Q n → P n) → ((n : ℕ) → Page N n → P n → Q n) → (before after : List ℕ) (count : ℕ)
    → Listed N Q before after count → Listed N P before after count
listed_as N Q P to from before after count x =
    record { listed = x.listed; lists = lists_as N Q P to from x.listed x.lists; size = x.size; room = x.room; written = x.written }
