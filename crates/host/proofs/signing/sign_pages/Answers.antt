use Rattle.std.proofs.Common.{suc, length, arith}
use Rattle.page.specs.Pages.{page_signature}
use Rattle.host.proofs.Written.{written}
use Rattle.host.proofs.signing.sign_pages.Goals as goal

pub returns : goal.returns
returns g c =
    written (λ k. page_signature g.F.Field.ops c.args.page_length c.args.job.now (suc k)) (length c.args.words.now) c.loop-k.words (omega arith)
    (λ i h. c.loop-k.invariant i (omega arith))
