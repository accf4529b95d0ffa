-- The promise about every run of calls on a check.
use Rattle.std.proofs.Common.{refl, arith}
use Rattle.field.specs.Sums.{power_sum}
use Rattle.scheme.specs.Farm.{Table}
use Rattle.calls.specs.Steady.{copies}
use Rattle.calls.specs.Promise.{EveryRun, RepliesRight, ByReplies}
use Rattle.calls.proofs.Counted.{counted}
use Rattle.calls.proofs.SlipsKnown.{slips_known}
use Rattle.calls.proofs.ShapesKept.{shape_kept}
use Rattle.calls.proofs.HeardKept.{run_heard}
use Rattle.calls.proofs.Yielded.{yielded_told}
use Rattle.calls.proofs.RepliesJudged.{replies_judged}
use Rattle.calls.proofs.RepliesDecide.{replies_decide}
use Rattle.calls.proofs.ReportYields.{report_yields}
use Rattle.calls.proofs.TrueReports.{true_reports}

-- what was found is right of any table that yields all that was told and has few strays
pub replies_right : RepliesRight
replies_right f laws spread own tally ks b g run last one P yields =
    let T : Table = λ s. power_sum f b.terms.farm.pages (P s) in
    let judged = ((replies_judged f laws spread own tally ks b g run).2 last one).1 T P yields.told in
    (judged, λ few. true_reports f laws spread b.terms (shape_kept f laws spread own tally ks b g run).pages T P yields.codes (λ s j. refl) few last g judged)

pub by_replies : ByReplies
by_replies = (replies_judged, replies_right, replies_decide, report_yields)

-- over a steady farm what the stations hold is such a table
pub every_run : EveryRun
every_run f laws spread own tally ks b g run = record {
  counted = counted f laws spread own tally ks b g run;
  known = slips_known f laws spread own tally ks b g run;
  steady = λ holds last farm steady.
      let heard = run_heard f laws spread own tally ks b g run in
      let told =
      yielded_told f laws holds b.terms farm own steady.0 ks (λ a s i v r. omega (arith, (heard.due a s i v r).0)) steady.2 in
      replies_right f laws spread own tally ks b g run last steady.1 (copies holds) (record { codes = farm.codes; told = told });
}
