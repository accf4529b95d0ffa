-- How many of the stations other than one agree with a station, counted by a filter.
use Rattle.std.proofs.Common.{◌≡◌, ℕ, zero, suc, ◌+◌, Bool, true, false, not, ◌&&◌, nat_eq, cond, length, filter, refl, ap₂, ◌∙◌}
use Rattle.std.specs.List.{range_with_len}
use Rattle.scheme.specs.Farm.{count, agree}
use Rattle.scheme.specs.Differences.{Gaps}
use Rattle.scheme.specs.Four.{except}
use Rattle.scheme.proofs.Ranges.{passed}
use Rattle.four.specs.Groups.{agreeing}

one : (a b : Bool) → ◌≡◌ {A = ℕ} (cond (not a && b) 1 0) (cond a 0 (cond b 1 0))
one true b = refl
one false true = refl
one false false = refl

same : (E : Gaps) (i n s k : ℕ) → count k (λ t. cond (agreeing E i n s t) 1 0) ≡ count k (except i (λ t. agree (E t s n) 0))
same E i n s zero = refl
same E i n s (suc k) = ap₂ (λ a b. a + b) (same E i n s k) (one (nat_eq (suc k) i) (nat_eq (E (suc k) s n) 0))

pub agreeing_count : (E : Gaps) (i n s M : ℕ) → length (filter (agreeing E i n s) (range_with_len 1 M)) ≡ count M (except i (λ t. agree (E t s n) 0))
agreeing_count E i n s M = passed (agreeing E i n s) M ∙ same E i n s M
