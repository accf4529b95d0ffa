-- Where weighing and settling did what the rules say, and strays are few or the check is plain, what was found is right.
use Rattle.std.proofs.Common.{◌≡◌, ℕ, ◌≤◌, ◌⊎◌, List, length, Some, sym, ◌∙◌, refl, inl, inr, arith}
use Rattle.field.specs.Field.{Ops, Laws, Spread, page_limit}
use Rattle.refusal.specs.Rules.{Within}
use Rattle.field.specs.Sums.{power_sum}
use Rattle.algebra.specs.Vectors.{Codes}
use Rattle.scheme.specs.Farm.{Table, Station, Same, Bad, strays}
use Rattle.scheme.specs.Ending.{Fills}
use Rattle.scheme.specs.Theorem.{Told, Finds}
use Rattle.scheme.proofs.Tables.{bad_same}
use Rattle.scheme.proofs.Truth.{right}
use Rattle.tally.specs.Rows.{signature_in}
use Rattle.calls.specs.declared.terms.Terms.{Terms}
use Rattle.calls.specs.declared.phases.Verdict.{Verdict}
use Rattle.calls.specs.declared.phases.Verdict.TheVariants.{Report, Split, Over}
use Rattle.calls.specs.declared.phases.Way.{Way}
use Rattle.calls.specs.Questions.{PlainTerms}
use Rattle.calls.specs.Runs.{Stage, first, second, closed}
use Rattle.calls.specs.Replies.{JudgedBy}
use Rattle.calls.specs.Promise.{Differs, ReportRight, SplitRight, Right}
use Rattle.calls.proofs.Cleared.{list_cleared}
use Rattle.calls.proofs.RulesCome.{Ended, split_rows, rules_come}
use Rattle.calls.proofs.BadPages.{bad_differs, differs_bad, listed_as}

module _ (f : Ops) (l : Laws f) (spread : Spread f) (t : Terms) (pages : Within 1 (page_limit f) t.farm.pages) (T P : Table)
    (codes : (s : ℕ) → Station t.farm.stations s → Codes f t.farm.pages (P s)) (true : (s j : ℕ) → T s j ≡ power_sum f t.farm.pages (P s) j)
    (few : PlainTerms t ⊎ (strays t.farm.stations P t.farm.pages ≤ t.farm.bound)) where
  finds : Finds f t.farm.stations t.farm.pages t.farm.bound P T T (P 1)
  finds =
      right f l spread t.farm.stations t.farm.pages t.farm.bound t.farm.stations_in.0 (omega (arith, pages.1)) P T T (P 1) codes
      (elim few [ inl plain ↦ inl plain | inr le ↦ inr (le, told) ])
    where
      told : Told f t.farm.stations t.farm.pages t.farm.bound P T T (P 1)
      told = record { own_row = λ n p. refl; first = λ s j a p. true s j; own_sums = λ j p. true 1 j; second = λ k j w p. true k j }

  -- rows that the rules fill are those of P
  rows_of : (tally : List ℕ) (R : Table) → Fills f t.farm.stations t.farm.pages t.farm.bound T T (P 1) P R → Same t.farm.stations t.farm.pages (signature_in tally t.farm.pages) R
      → Same t.farm.stations t.farm.pages (signature_in tally t.farm.pages) P
  rows_of tally R x same s n a p = same s n a p ∙ finds.rows_true R x s n a p

  report_right : (tally : List ℕ) → Ended f t T P tally Report → ReportRight P t tally
  report_right tally (R, x, same) = record {
    decided = (finds.report_true R x).0;
    rows = rows;
    lists = λ s count before after h.
        listed_as t.farm.pages (Bad t.farm.stations (signature_in tally t.farm.pages) s) (Differs t.farm.stations P s)
        (λ n p bad. bad_differs t.farm.stations P n s ((finds.report_true R x).0 n p)
        (bad_same t.farm.stations t.farm.pages P (signature_in tally t.farm.pages) (λ s n a p. sym (rows s n a p)) n p s (list_cleared t (Some Report) s tally (length before) h.0).station bad))
        (λ n p d. bad_same t.farm.stations t.farm.pages (signature_in tally t.farm.pages) P rows n p s (list_cleared t (Some Report) s tally (length before) h.0).station (differs_bad t.farm.stations P n s d))
        before after count h.1;
  }
    where
      rows : Same t.farm.stations t.farm.pages (signature_in tally t.farm.pages) P
      rows = rows_of tally R x.0 same

  split_right : (tally : List ℕ) (way : Way) (n : ℕ) → JudgedBy f t T P tally (closed way (Split n)) → SplitRight P t tally n
  split_right tally way n x =
      let found = finds.split_true n (rules_come f t T P tally way (Split n) x) in
      record {
        page = found.0;
        undecided = found.1;
        rows = elim (split_rows f t T P tally way n x) [ inl r ↦ inl (rows_of tally r.0 r.1 r.2) | inr none ↦ inr none ];
      }

  closed_right : (tally : List ℕ) (way : Way) (v : Verdict) → JudgedBy f t T P tally (closed way v) → Right P t tally (closed way v)
  closed_right tally way Over x = finds.never_over (rules_come f t T P tally way Over x)
  closed_right tally way (Split n) x = split_right tally way n x
  closed_right tally way Report x = report_right tally (rules_come f t T P tally way Report x)

  pub true_reports : (tally : List ℕ) (g : Stage) → JudgedBy f t T P tally g → Right P t tally g
  true_reports tally first x = tt
  true_reports tally (second k) x = tt
  true_reports tally (closed way v) x = closed_right tally way v x
