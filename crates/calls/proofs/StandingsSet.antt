-- Where stations stand once one of them moved, and what a standing is when it is not some other.
use Rattle.std.proofs.Common.{◌≡◌, ℕ, zero, suc, ◌<◌, ◌≢◌, List, length, set, replicate, refl, ap, ◌∙◌, inl, inr, arith}
use Rattle.std.proofs.lemmas.List.{get_or-set_same, get_or-set_other}
use Rattle.refusal.specs.Rules.{Within}
use Rattle.calls.specs.declared.book.Book.{Book}
use Rattle.calls.specs.declared.standing.Standing.{Standing}
use Rattle.calls.specs.declared.standing.Standing.TheVariants.{Free, Out, Heard, Done}
use Rattle.calls.specs.declared.slip.Returned.TheVariants.{Answered}
use Rattle.calls.specs.Standings.{standing_of, SlipOut}
use Rattle.calls.specs.Slips.{returned_as}

pub standing_other : (xs : List Standing) {ys : List Standing} (s : ℕ) (x : Standing) → ys ≡ set xs s x → (t : ℕ) → t ≢ s → standing_of ys t ≡ standing_of xs t
standing_other xs s x is t d = ap (λ ys. standing_of ys t) is ∙ get_or-set_other xs s t x Free d

pub standing_same : (xs : List Standing) {ys : List Standing} (s : ℕ) (x : Standing) → ys ≡ set xs s x → s < length xs → standing_of ys s ≡ x
standing_same xs s x is inside = ap (λ ys. standing_of ys s) is ∙ get_or-set_same xs s x Free inside

-- every station's place is one of the standings
pub place_inside : (b : Book) (s : ℕ) → Within 2 b.terms.farm.stations s → s < length b.standings
place_inside b s within = omega (arith, b.full, b.terms.farm.stations_in)

standing_all_free : (n s : ℕ) → standing_of (replicate n Free) s ≡ Free
standing_all_free zero s = refl
standing_all_free (suc n) zero = refl
standing_all_free (suc n) (suc s) = standing_all_free n s

pub standing_start : (xs : List Standing) → xs ≡ replicate 9 Free → (s : ℕ) → standing_of xs s ≡ Free
standing_start xs e s = ap (λ ys. standing_of ys s) e ∙ standing_all_free 9 s

-- ── what a standing is not

pub not_free : (x : Standing) → SlipOut x → x ≡ Free → ⊥
not_free x (inl e) z = cc
not_free x (inr e) z = cc

pub not_done : (x : Standing) → SlipOut x → x ≡ Done → ⊥
not_done x (inl e) z = cc
not_done x (inr e) z = cc

pub done_if : (x : Standing) → (x ≢ Done → ⊥) → x ≡ Done
done_if Free h = absurd (h (λ e. cc))
done_if Out h = absurd (h (λ e. cc))
done_if Heard h = absurd (h (λ e. cc))
done_if Done h = refl

-- no slip out and not done is free
pub free_if : (x : Standing) → (SlipOut x → ⊥) → (x ≡ Done → ⊥) → x ≡ Free
free_if Free h k = refl
free_if Out h k = absurd (h (inl refl))
free_if Heard h k = absurd (h (inr refl))
free_if Done h k = absurd (k refl)

-- a slip is out whose reply was not taken
pub out_if : (x : Standing) → SlipOut x → (x ≡ Heard → ⊥) → x ≡ Out
out_if x (inl e) h = e
out_if x (inr e) h = absurd (h e)

-- what comes back answered was heard
pub heard_if : (x : Standing) → SlipOut x → returned_as x ≡ Answered → x ≡ Heard
heard_if Free o e = cc
heard_if Out o e = cc
heard_if Heard o e = refl
heard_if Done o e = cc
