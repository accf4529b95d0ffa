-- Places capped at the machine's largest number: products, and lists that are shorter.
use Rattle.std.proofs.Common.{◌≡◌, ℕ, zero, suc, ◌*◌, ◌≤◌, min, List, length, set, sym, ap, ◌∙◌, ⊎_elim, suc-mul, zero-mul, arith}
use Rattle.std.proofs.lemmas.List.{set_past}
use Rattle.std.proofs.lemmas.Bool.{cases_lt}

pub capped_product : (a b c m : ℕ) → b ≡ min c m → min (a * b) m ≡ min (a * c) m
capped_product zero b c m e = ap (λ x. min x m) (zero-mul b ∙ sym (zero-mul c))
capped_product (suc a) b c m e =
    ⊎_elim
    (λ past. let p : m ≤ suc a * b = omega (arith, suc-mul a b) in let q : m ≤ suc a * c = omega (arith, suc-mul a c) in omega arith)
    (λ within. ap (λ x. min (suc a * x) m) (let q : b ≡ c = omega arith in q))
    (cases_lt m c)

module _ (xs : List ℕ) (m : ℕ) (short : length xs ≤ m) where
  pub set_capped : (i p v : ℕ) → i ≡ min p m → set xs i v ≡ set xs p v
  set_capped i p v e =
      ⊎_elim
      (λ past. set_past xs i v (omega arith) ∙ sym (set_past xs p v (omega arith)))
      (λ within. ap (λ k. set xs k v) (let q : i ≡ p = omega arith in q))
      (cases_lt m p)
