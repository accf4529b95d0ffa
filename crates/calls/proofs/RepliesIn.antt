-- Which stations have their reply in, how many these are, and what one station's move changes of that.
use Rattle.std.proofs.Common.{◌≡◌, ℕ, suc, ◌+◌, ◌-◌, ◌<◌, ◌≤◌, List, length, set, refl, sym, ap, ◌∙◌, arith}
use Rattle.algebra.specs.Vectors.{Page}
use Rattle.refusal.specs.Rules.{Within}
use Rattle.scheme.specs.Farm.{count}
use Rattle.scheme.specs.Four.{except}
use Rattle.scheme.proofs.Counts.{count_same, count_except, except_same}
use Rattle.calls.specs.declared.standing.Standing.{Standing}
use Rattle.calls.specs.declared.standing.Standing.TheVariants.{Free, Out, Heard, Done}
use Rattle.calls.specs.Standings.{standing_of, SlipOut}
use Rattle.calls.specs.declared.slip.Returned.{Returned}
use Rattle.calls.specs.Slips.{returned_as, standing_after}
use Rattle.calls.proofs.Totals.{count_none, count_ones, count_most}
use Rattle.calls.proofs.StandingsSet.{standing_other, standing_same, not_done}

-- 1 where a reply was taken
abbrev pub reply_in : Standing → ℕ
reply_in Free = 0
reply_in Out = 0
reply_in Heard = 1
reply_in Done = 1

pub reply_in_most : (x : Standing) → reply_in x ≤ 1
reply_in_most Free = omega arith
reply_in_most Out = omega arith
reply_in_most Heard = omega arith
reply_in_most Done = omega arith

-- a slip comes back answered if its reply was taken, so what is in stays
pub reply_stays : (x : Standing) (r : Returned) → SlipOut x → r ≡ returned_as x → reply_in x ≡ reply_in (standing_after r)
reply_stays Free r out says = ap (λ r. reply_in (standing_after r)) (sym says)
reply_stays Out r out says = ap (λ r. reply_in (standing_after r)) (sym says)
reply_stays Heard r out says = ap (λ r. reply_in (standing_after r)) (sym says)
reply_stays Done r out says = absurd (not_done Done out refl)

-- of the stations 2 .. M
abbrev pub replies_in : ℕ → List Standing → ℕ
replies_in M xs = count (M - 1) (λ i. reply_in (standing_of xs (suc i)))

pub replies_in_most : (M : ℕ) (xs : List Standing) → replies_in M xs ≤ M - 1
replies_in_most M xs = count_most (M - 1) (λ i. reply_in (standing_of xs (suc i))) (λ i. reply_in_most (standing_of xs (suc i)))

-- one station moves
pub replies_moved : (M : ℕ) (xs : List Standing) {ys : List Standing} (s : ℕ) (x : Standing) → ys ≡ set xs s x → Within 2 M s → s < length xs
    → replies_in M ys + reply_in (standing_of xs s) ≡ replies_in M xs + reply_in x
replies_moved M xs {ys} s x is within inside =
    let i = s - 1 in
    let d : ℕ → ℕ = λ i. reply_in (standing_of ys (suc i)) in
    let e : ℕ → ℕ = λ i. reply_in (standing_of xs (suc i)) in
    let place : suc i ≡ s = omega arith in
    let page : Page (M - 1) i = omega arith in
    let at_d : d i ≡ reply_in x = ap (λ t. reply_in (standing_of ys t)) place ∙ ap reply_in (standing_same xs s x is inside) in
    let at_e : e i ≡ reply_in (standing_of xs s) = ap (λ t. reply_in (standing_of xs t)) place in
    let others : count (M - 1) (except i d) ≡ count (M - 1) (except i e) =
    count_same (M - 1) (except i d) (except i e)
    (λ n _. except_same i d e n (λ ne. ap reply_in (standing_other xs s x is (suc n) (λ same. ne (let z : n ≡ s - 1 = omega arith in z))))) in
    omega (arith, count_except (M - 1) i d page, count_except (M - 1) i e page, others, at_d, at_e)

-- nobody was asked yet
pub no_replies_in : (M : ℕ) (xs : List Standing) → ((s : ℕ) → standing_of xs s ≡ Free) → replies_in M xs ≡ 0
no_replies_in M xs h = count_none (M - 1) (λ i. reply_in (standing_of xs (suc i))) (λ i. ap reply_in (h (suc i)))

-- all replies are in
pub all_replies_in : (M : ℕ) (xs : List Standing) → ((s : ℕ) → Within 2 M s → standing_of xs s ≡ Done) → replies_in M xs ≡ M - 1
all_replies_in M xs h = count_ones (M - 1) (λ i. reply_in (standing_of xs (suc i))) (λ i page. ap reply_in (h (suc i) (omega arith)))
