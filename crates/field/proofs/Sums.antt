-- Sums: one page more, the weight of the page after it, and sums of the same terms.
use Rattle.std.proofs.Common.{◌≡◌, refl, ℕ, zero, suc, ◌+◌, ◌*◌, ◌%◌, ◌≤◌, mul-suc, add-one, arith}
use Rattle.field.specs.Field.{Ops, Laws, power}
use Rattle.field.specs.Sums.{total, power_sum}
use Rattle.field.proofs.Laws.{power_add, times_mod_left}

module _ {f : Ops} (l : Laws f) (e : ℕ → ℕ) (j n : ℕ) where
  pub sum_more : (code weight total : ℕ) → code ≡ e (suc n) → weight ≡ power f f.alpha (j * suc n) → total ≡ power_sum f n e j →
      f.plus (f.times code weight) total ≡ power_sum f (n + 1) e j
  sum_more code weight total c w t = rw add-one (cc (l.plus_comm (f.times code weight) total))

  pub weight_more : (weight : ℕ) → weight ≡ power f f.alpha (j * suc n) →
      f.times weight (power f f.alpha j) ≡ power f f.alpha (j * suc (n + 1))
  weight_more weight w = rw (add-one, mul-suc j (suc n)) (cc (power_add l f.alpha (j * suc n) j))

-- totals of the same terms
pub total_same : (f : Ops) (n : ℕ) (d e : ℕ → ℕ) → ((k : ℕ) → 1 ≤ k → k ≤ n → d k ≡ e k) → total f n d ≡ total f n e
total_same f zero d e same = refl
total_same f (suc n) d e same =
    cc (total_same f n d e (λ k from to. same k from (omega arith)), same (suc n) (omega arith) (omega arith))

-- a sum counts its words modulo the size
pub sum_mod : {f : Ops} → Laws f → (n : ℕ) (d e : ℕ → ℕ) (j : ℕ) → ((k : ℕ) → 1 ≤ k → k ≤ n → d k % f.size ≡ e k % f.size) → power_sum f n d j ≡ power_sum f n e j
sum_mod {f} l n d e j same =
    let w : ℕ → ℕ = λ k. power f f.alpha (j * k) in
    total_same f n _ _ (λ k from to. cc (times_mod_left l (d k) (w k), same k from to, times_mod_left l (e k) (w k)))
