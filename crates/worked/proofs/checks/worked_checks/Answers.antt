use Rattle.std.proofs.Common.{refl, subst, arith}
use Rattle.calls.specs.declared.phases.Verdict.TheVariants.{Report, Split}
use Rattle.desk.specs.Going.{Checked}
use Rattle.prime.specs.Prime.{prime}
use Rattle.worked.specs.Checks.{one_bad, two_halves}
use Rattle.worked.proofs.FourCards.{one_stray, two_stray, one_bad_differs}
use Rattle.worked.proofs.AskedAgain.{asked_four}
use Rattle.worked.proofs.Replied.{replied}
use Rattle.worked.proofs.ChecksClosed.{closes, one_bad_reports, one_bad_taken, two_halves_splits}
use Rattle.worked.proofs.checks.worked_checks.Goals as goal

pub returns : goal.returns
returns c =
    let one = c.check_four.ensures in
    let two = c.check_four-2.ensures in
    let b = c.check_four.result.book in
    let d = c.check_four-2.result.book in
    let reports = subst (λ v. Checked 4 3 1 prime one_bad one.0 b v one.1) (one_bad_reports one.0 one.1 b _ one.2) one.2 in
    let splits = subst (λ v. Checked 4 3 2 prime two_halves two.0 d v two.1) (two_halves_splits two.0 two.1 d _ two.2) two.2 in
    record {
      report = closes 1 (omega arith) one_bad refl one_stray one.0 one.1 b Report reports;
      asked = asked_four b.terms reports.terms one.1 reports.way Report reports.judged;
      taken = one_bad_taken _ reports.taken;
      reply = replied;
      bad = one_bad_differs;
      split = closes 2 (omega arith) two_halves refl two_stray two.0 two.1 d (Split 1) splits;
    }
