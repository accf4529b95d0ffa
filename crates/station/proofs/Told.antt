-- A row whose entries at its pages are codes holds codes everywhere.
use Rattle.std.proofs.Common.{◌≡◌, ℕ, suc, ◌-◌, ◌<◌, ◌≤◌, List, length, get_or, sym, ap, subst, ⊎_elim, arith}
use Rattle.std.proofs.lemmas.List.{get_or_past}
use Rattle.std.proofs.lemmas.Bool.{cases_lt}
use Rattle.field.specs.Field.{Ops, Laws}
use Rattle.field.specs.Sums.{entry}

pub told : {f : Ops} → Laws f → (row : List ℕ) → ((k : ℕ) → 1 ≤ k → k ≤ length row → entry row k < f.size) → (k : ℕ) → entry row k < f.size
told {f} l row h k =
    let P : ℕ → Type 0 = λ x. x < f.size in
    ⊎_elim
    (λ inside. subst P (ap (λ i. get_or row i 0) (let e : suc (k - 1) - 1 ≡ k - 1 = omega arith in e)) (h (suc (k - 1)) (omega arith) (omega (arith, inside))))
    (λ past. subst P (sym (get_or_past row (k - 1) 0 past)) (let z : 0 < f.size = omega (arith, l.size_least) in z))
    (cases_lt (k - 1) (length row))
