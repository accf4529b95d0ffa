-- What a check takes fits its count: a reply has few values, and no more replies were taken than slips handed out.
use Rattle.std.proofs.Common.{◌≡◌, ℕ, ◌+◌, ◌^◌, ◌<◌, ◌≤◌, List, [], ◌∷◌, arith}
use Rattle.std.proofs.lemmas.List.Sums.{sum_by-cons}
use Rattle.wire.specs.declared.request.Request.{Request}
use Rattle.wire.specs.Requests.{values_due}
use Rattle.calls.specs.declared.standing.Standing.{Standing}
use Rattle.calls.specs.declared.standing.Standing.TheVariants.{Free, Out, Heard, Done}
use Rattle.calls.specs.declared.book.Book.{Book}
use Rattle.calls.specs.Standings.{slip_out, reply_out, still_out, replies_out}
use Rattle.calls.specs.Slips.{OutHere}

reply_in_slip : (x : Standing) → reply_out x ≤ slip_out x
reply_in_slip Free = omega arith
reply_in_slip Out = omega arith
reply_in_slip Heard = omega arith
reply_in_slip Done = omega arith

fewer_replies : (xs : List Standing) → replies_out xs ≤ still_out xs
fewer_replies [] = omega arith
fewer_replies (x ∷ xs) = omega (arith, sum_by-cons reply_out x xs, sum_by-cons slip_out x xs, reply_in_slip x, fewer_replies xs)

pub taken_fits : (b : Book) (q : Request) → OutHere b q → (n : ℕ) → n ≡ values_due q → b.counts.taken + n < 2 ^ 64
taken_fits b q out n is = omega (arith, out.0, is, b.question, b.countable, b.balance, b.outs, b.modest, fewer_replies b.standings)
