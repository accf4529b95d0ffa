-- Each call adds to a check's counts what it answered.
use Rattle.std.proofs.Common.{◌≡◌, ◌+◌, length, Ok, Err, sym, ap, subst, arith}
use Rattle.field.specs.Field.{Ops}
use Rattle.calls.specs.declared.counts.Counts.{Counts}
use Rattle.calls.specs.declared.slip.Returned.TheVariants.{Answered, Blank}
use Rattle.calls.specs.declared.book.Book.{Book}
use Rattle.calls.specs.Slips.{one_handed, more_taken, one_back}
use Rattle.calls.specs.Promise.{handed_by, answered_by, blank_by, taken_by}
use Rattle.calls.specs.Runs.{Stage, Call, Step, slips, takes, returns, weigh_closes, weigh_asks, weigh_refused, settle_closes, settle_refused, lists}
use Rattle.calls.proofs.ValuesPerReply.{values_after_header}

pub record Adds (before : Counts) (c : Call) (after : Counts) : Type 0 where
  pub handed : after.handed ≡ handed_by c + before.handed
  pub answered : after.answered ≡ answered_by c + before.answered
  pub blank : after.blank ≡ blank_by c + before.blank
  pub taken : after.taken ≡ taken_by c + before.taken

-- the counts that a book then has, by what they are
now : {c : Call} (before after : Counts) {n : Counts} → n ≡ after → Adds before c after → Adds before c n
now {c} before after e h = subst (λ (n : Counts). Adds before c n) (sym e) h

-- a call that changes no book adds nothing
same : {c : Call} (b : Book) {b' : Book} → b' ≡ b → Adds b.counts c b.counts → Adds b.counts c b'.counts
same b e h = now b.counts b.counts (ap (λ (b : Book). b.counts) e) h

pub calls_added : (f : Ops) {b b' : Book} {g g' : Stage} {c : Call} → Step f b g c b' g' → Adds b.counts c b'.counts
calls_added f (slips {b = b} only {r = Ok p} asked r) = now b.counts (one_handed b.counts) r.1.counts (grind arith)
calls_added f (slips {b = b} only {r = Err e} asked r) = same b r.1 (grind arith)
calls_added f (takes {b = b} only {p = p} {w = w} {r = Ok u} asked r) =
    let words = values_after_header f p.request w r.1.values r.1.reply in
    now b.counts (more_taken (length r.1.values) b.counts) r.1.counts (grind arith)
calls_added f (takes {b = b} only {r = Err e} asked r) = same b r.1 (grind arith)
calls_added f (returns {b = b} {r = Ok Answered} r) = now b.counts (one_back Answered b.counts) r.1.counts (grind arith)
calls_added f (returns {b = b} {r = Ok Blank} r) = now b.counts (one_back Blank b.counts) r.1.counts (grind arith)
calls_added f (returns {b = b} {r = Err e} r) = same b r.1 (grind arith)
calls_added f (weigh_closes {b = b} x) = same b x.book (grind arith)
calls_added f (weigh_asks {b = b} x) = now b.counts b.counts x.again.counts (grind arith)
calls_added f (weigh_refused {b = b} e x) = same b x.1 (grind arith)
calls_added f (settle_closes {b = b} x) = same b x.book (grind arith)
calls_added f (settle_refused {b = b} e x) = same b x.1 (grind arith)
calls_added f (lists x) = grind arith
