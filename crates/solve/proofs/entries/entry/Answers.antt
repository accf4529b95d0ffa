use Rattle.std.proofs.Common.{◌≡◌, ℕ, suc, ◌+◌, ◌-◌, length, sym, ap, ◌∙◌, arith}
use Rattle.field.specs.Field.{Ops}
use Rattle.solve.specs.Polynomials.{at, value, window, quotient}
use Rattle.solve.proofs.entries.entry.Goals as goal

-- one coefficient more, below those so far
value_more : (f : Ops) (p : ℕ → ℕ) (k i x v : ℕ) (k' i' : ℕ) → k' ≡ suc k → i ≡ suc i' → v ≡ value f k p i x → f.plus (f.times v x) (p i') ≡ value f k' p i' x
value_more f p k i x v k' i' ek ei h = ap (λ z. f.plus (f.times z x) (p i')) (h ∙ ap (λ n. value f k p n x) ei) ∙ sym (ap (λ n. value f n p i' x) ek)

window_more : (f : Ops) (p s : ℕ → ℕ) (k i v : ℕ) (k' i' : ℕ) → k' ≡ suc k → i ≡ suc i' → v ≡ window f k p i s i → f.plus (f.times (p i') (s i')) v ≡ window f k' p i' s i'
window_more f p s k i v k' i' ek ei h = ap (f.plus (f.times (p i') (s i'))) (h ∙ ap (λ n. window f k p n s n) ei) ∙ sym (ap (λ n. window f n p i' s i') ek)

pub loop-k-preserved : goal.loop-k-preserved
loop-k-preserved g c =
    let f = g.F.Field.ops in
    let p = at c.args.product.now in
    let s = at c.args.values.now in
    let m = length c.args.values.now in
    let x = c.args.x in
    let k = c.loop-k.k in
    let q = quotient f m p x in
    let em : m - (k - 1) ≡ suc (m - k) = omega arith in
    let ek : k ≡ suc (k - 1) = omega arith in
    let place : p (k - 1 + 1) ≡ p (suc (k - 1)) = ap p (let e : k - 1 + 1 ≡ suc (k - 1) = omega arith in e) in
    let turn = value_more f p (m - k) (suc k) x c.loop-k.quotient (m - (k - 1)) (suc (k - 1)) em (ap suc ek) c.loop-k.invariant.quotient in
    let here : c.mul_add-quotient.result ≡ value f (m - (k - 1)) p (suc (k - 1)) x = cc in
    let is : q (k - 1) ≡ c.mul_add-quotient.result = sym here in
    let turn_values = window_more f q s (m - k) k c.loop-k.against_values (m - (k - 1)) (k - 1) em ek c.loop-k.invariant.against_values in
    let turn_x = value_more f q (m - k) k x c.loop-k.at_x (m - (k - 1)) (k - 1) em ek c.loop-k.invariant.at_x in
    record { quotient = here; against_values = cc; at_x = cc }
