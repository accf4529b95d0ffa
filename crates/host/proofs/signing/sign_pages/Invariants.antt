use Rattle.std.proofs.Common.{◌≡◌, ℕ, suc, ◌<◌, get_or}
use Rattle.page.specs.Pages.{page_signature}
use Rattle.host.proofs.signing.sign_pages.Given as goal

abbrev pub invariant-loop-k : goal.invariant-loop-k
invariant-loop-k g l = (i : ℕ) → i < l.k → get_or l.words i 0 ≡ page_signature g.F.Field.ops l.page_length l.job (suc i)
