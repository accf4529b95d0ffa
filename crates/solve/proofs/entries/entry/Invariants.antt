use Rattle.std.proofs.Common.{◌≡◌, suc, ◌-◌, length}
use Rattle.solve.specs.Polynomials.{at, value, window, quotient}
use Rattle.solve.proofs.entries.entry.Given as goal

abbrev pub invariant-loop-k : goal.invariant-loop-k
invariant-loop-k g l =
    let f = g.F.Field.ops in
    let m = length l.values in
    let q = quotient f m (at l.product) l.x in
    record {
      quotient : l.quotient ≡ value f (m - l.k) (at l.product) (suc l.k) l.x;
      against_values : l.against_values ≡ window f (m - l.k) q l.k (at l.values) l.k;
      at_x : l.at_x ≡ value f (m - l.k) q l.k l.x;
    }
