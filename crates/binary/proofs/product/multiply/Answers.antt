-- One turn of the loop takes one bit of the product that is left.
use Rattle.std.proofs.Common.{◌≡◌, ap, sym, ◌∙◌, suc, ◌+◌, ◌-◌, ◌*◌, ◌/◌, ◌%◌, one-mul, zero-mul, arith, bit_xor}
use Rattle.std.specs.Int.Bits.{xor_assoc, xor_zero_r}
use Rattle.binary.specs.Binary.{shifted, product}
use Rattle.binary.specs.Products.{shifted_code}
use Rattle.binary.proofs.product.multiply.Goals as goal
use Rattle.binary.proofs.product.multiply.Goals.{then-y-eq1, else-y-eq1}

pub loop-k-preserved : goal.loop-k-preserved
unfolding product
loop-k-preserved g c =
    let w = g.M.Modulus.WIDTH in
    let l = c.loop-k in
    let bit = l.y % 2 * l.x in
    let left = w - (l._k + 1) in
    let is : w - l._k ≡ suc left = omega arith in
    let rest = product w g.M.Modulus.POLY left (shifted w g.M.Modulus.POLY l.x) (l.y / 2) in
    let taken : c.if-y-eq1.sum ≡ bit_xor l.sum bit = elim c.if-y-eq1.branch [
      | then-y-eq1 v ↦ (let one : l.y % 2 ≡ 1 = omega arith in v.sum-is ∙ ap (bit_xor l.sum) (sym (ap (λ b. b * l.x) one ∙ one-mul l.x)))
      | else-y-eq1 v ↦ (let none : l.y % 2 ≡ 0 = omega arith in v.sum-is ∙ sym (ap (bit_xor l.sum) (ap (λ b. b * l.x) none ∙ zero-mul l.x) ∙ xor_zero_r l.sum))
    ] in (
      cc (taken, xor_assoc l.sum bit rest, ap (λ n. bit_xor l.sum (product w g.M.Modulus.POLY n l.x l.y)) is),
      rw c.shift-x.ensures (shifted_code w g.M.Modulus.POLY g.met.M.Modulus.degree.top l.x l.invariant.1),
    )

pub returns : goal.returns
unfolding product
returns g c =
    let l = c.loop-k in
    let done : g.M.Modulus.WIDTH - l._k ≡ 0 = omega arith in
    cc (ap (λ n. bit_xor l.sum (product g.M.Modulus.WIDTH g.M.Modulus.POLY n l.x l.y)) done, xor_zero_r l.sum)
