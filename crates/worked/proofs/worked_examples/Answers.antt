use Rattle.std.proofs.Common.{◌<◌, refl, arith}
use Rattle.binary.specs.Binary.{product, squared, chain}
use Rattle.worked.proofs.Over.{far_over}
use Rattle.worked.proofs.worked_examples.Goals as goal

pub returns : goal.returns
unfolding product squared chain
returns c = record {
  small_product = refl;
  small_inverse = refl;
  wide_product = refl;
  prime_inverse = refl;
  small_signature = refl;
  prime_signature = refl;
  small_sum_1 = refl;
  small_sum_2 = refl;
  prime_sum_1 = refl;
  prime_sum_2 = refl;
  farm_sum = refl;
  farm_bad = λ more. let z : ◌<◌ 4 2 = more in omega arith;
  far_over = far_over;
}
