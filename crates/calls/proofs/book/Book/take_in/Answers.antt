use Rattle.std.proofs.Common.{length, refl, arith}
use Rattle.std.proofs.lemmas.Result.{err_from_is_err_and}
use Rattle.calls.proofs.Cleared.{take_cleared}
use Rattle.calls.proofs.TakenFits.{taken_fits}
use Rattle.calls.proofs.book.Book.take_in.Goals as goal

pub returns-in_err-values : goal.returns-in_err-values
returns-in_err-values g c =
    let p = err_from_is_err_and c.from_residual.result c.from_residual.ensures.1 in
    rw (p.1, p.2) (c.in_err-values.ensures, refl, refl)

pub overflow_add-self : goal.overflow_add-self
overflow_add-self g c =
    let b = c.args.self.now in
    let q = c.args.request.now in
    let cleared = take_cleared g.F.Field.ops b q c.args.reply.now (length c.args.tally.now) c.in_ok-values.ensures.0 in
    omega (arith, taken_fits b q cleared.here _ c.in_ok-values.ensures.1.count)
