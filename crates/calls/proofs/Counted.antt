-- At every moment of every run a check's counts are those of its calls, and it has taken no more than the most.
use Rattle.std.proofs.Common.{◌≡◌, ℕ, List, [], ◌∷◌, sym, subst, arith}
use Rattle.field.specs.Field.{Ops, Laws, Spread}
use Rattle.calls.specs.declared.counts.Counts.{Counts}
use Rattle.calls.specs.declared.book.Book.{Book}
use Rattle.calls.specs.Promise.{handed_by, answered_by, blank_by, taken_by, all_calls, Counted}
use Rattle.calls.specs.Runs.{Stage, Call, Run, opened, called}
use Rattle.calls.proofs.ShapesKept.{shape_kept}
use Rattle.calls.proofs.TakenByStage.{taken_few}
use Rattle.calls.proofs.TakenKept.{taken_kept}
use Rattle.calls.proofs.RepliesCounted.{replies_counted}
use Rattle.calls.proofs.CallsAdded.{Adds, calls_added}

record Totals (ks : List Call) (n : Counts) : Type 0 where
  handed : n.handed ≡ all_calls handed_by ks
  answered : n.answered ≡ all_calls answered_by ks
  blank : n.blank ≡ all_calls blank_by ks
  taken : n.taken ≡ all_calls taken_by ks

-- a call more
one_call : (c : Call) (ks : List Call) (before after : Counts) → Totals ks before → Adds before c after → Totals (c ∷ ks) after
one_call c ks before after h x = grind arith

totals : (f : Ops) (own tally : List ℕ) (ks : List Call) (b : Book) (g : Stage) → Run f own tally ks b g → Totals ks b.counts
totals f own tally _ b _ (opened o) = subst (λ (n : Counts). Totals [] n) (sym o.starts.counts) (grind arith)
totals f own tally _ b' _ (called {ks = ks} {c = c} {b = b} {g = g} r x) =
    one_call c ks b.counts b'.counts (totals f own tally ks b g r) (calls_added f x)

pub counted : (f : Ops) → Laws f → Spread f → (own tally : List ℕ) (ks : List Call) (b : Book) (g : Stage) → Run f own tally ks b g → Counted ks b
counted f laws spread own tally ks b g run =
    let all = totals f own tally ks b g run in
    record {
      handed = all.handed;
      answered = all.answered;
      blank = all.blank;
      taken = all.taken;
      out = b.balance;
      replied = replies_counted f laws spread own tally ks b g run;
      few = taken_few f b g (shape_kept f laws spread own tally ks b g run) (taken_kept f laws spread own tally ks b g run);
    }
