-- A farm on which two disjoint pairs have no solution.
use Rattle.std.proofs.Common.{◌≡◌, ℕ, inl, arith}
use Rattle.field.specs.Sums.{power_sum}
use Rattle.prime.specs.Prime.{prime}
use Rattle.scheme.specs.Farm.{Table}
use Rattle.scheme.specs.Askings.{over}
use Rattle.scheme.specs.Weighing.{Weighs}
use Rattle.worked.specs.Examples.{far}
use Rattle.worked.proofs.OneSum.{unsolved}

abbrev told : Table
told s = power_sum prime 3 (far s)

pub far_over : Weighs prime 4 3 1 told (far 1) over
far_over = inl (
  omega arith,
  inl (record {
    s = 1;
    t = 2;
    u = 3;
    v = 4;
    one = ((omega arith, omega arith, omega arith), inl (unsolved told 1 2 (λ z. let k : ◌≡◌ {A = ℕ} 65534 0 = z in omega arith)));
    other = ((omega arith, omega arith, omega arith), inl (unsolved told 3 4 (λ z. let k : ◌≡◌ {A = ℕ} 9 0 = z in omega arith)));
    disjoint = ((λ e. omega arith), (λ e. omega arith), (λ e. omega arith), (λ e. omega arith));
  }),
)
