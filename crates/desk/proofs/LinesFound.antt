-- What a verdict's text says: what the rules find of the cards and, where the promise says that it is right, what is true of them.
use Rattle.std.proofs.Common.{◌≡◌, ℕ, List, [], ◌++◌, inl, inr, refl, sym, subst}
use Rattle.field.specs.Field.{Ops}
use Rattle.binary.specs.Binary.{small}
use Rattle.scheme.specs.Farm.{Bad}
use Rattle.scheme.proofs.Tables.{bad_same}
use Rattle.tally.specs.Rows.{signature_in}
use Rattle.calls.specs.declared.book.Book.{Book}
use Rattle.calls.specs.declared.terms.Terms.{Terms}
use Rattle.calls.specs.declared.phases.Way.{Way}
use Rattle.calls.specs.declared.phases.Verdict.{Verdict}
use Rattle.calls.specs.declared.phases.Verdict.TheVariants.{Report, Split, Over}
use Rattle.calls.specs.Runs.{Call, closed}
use Rattle.calls.specs.Steady.{copies, sums}
use Rattle.calls.proofs.RulesCome.{Ended, rules_come}
use Rattle.calls.specs.Promise.{Right, Differs}
use Rattle.calls.proofs.BadPages.{listed_as}
use Rattle.desk.proofs.Asked.{by_terms}
use Rattle.desk.proofs.ListsCalled.{calls_listed, lines_listed}
use Rattle.desk.specs.Copies.{cards}
use Rattle.desk.specs.Going.{Calls, Checked}
use Rattle.desk.specs.Lines.{sums_line}
use Rattle.desk.specs.Listings.{VerdictText}
use Rattle.desk.specs.Findings.{RulesFind, TrueFind, ByCalls, FarmText}

module _ (f : Ops) (holds : ℕ → List ℕ) (t : Terms) (tally : List ℕ) (lists : List Call) (text : List ℕ) where
  rules_found : (v : Verdict) → Ended f t (sums f t.farm.pages holds) (copies holds) tally v → VerdictText t tally v lists text
      → RulesFind f t.farm.stations t.farm.pages t.farm.bound holds text
  rules_found Over judged is = inl (judged, is.1)
  rules_found (Split n) judged is = inr (inl (n, judged, is.1))
  rules_found Report (R, ends, same) listings =
      let held = signature_in tally t.farm.pages in
      inr (inr (
        R,
        ends,
        lines_listed t tally (Bad t.farm.stations R) (λ s count room out l.
            listed_as t.farm.pages (Bad t.farm.stations held s) (Bad t.farm.stations R s)
            (λ n p. bad_same t.farm.stations t.farm.pages R held (λ s n a p. sym (same s n a p)) n p s l.0.1.1.0)
            (λ n p. bad_same t.farm.stations t.farm.pages held R same n p s l.0.1.1.0) room out count l.1) t.farm.stations lists text listings,
      ))

  truth_found : (way : Way) (v : Verdict) → Right (copies holds) t tally (closed way v) → VerdictText t tally v lists text
      → TrueFind t.farm.stations t.farm.pages holds text
  truth_found way Over right is = absurd right
  truth_found way (Split n) right is = inl (n, right.page, right.undecided, is.1)
  truth_found way Report right listings =
      inr (right.decided, lines_listed t tally (Differs t.farm.stations (copies holds)) (λ s count room out l. right.lists s count room out l) t.farm.stations lists text listings)

module _ (M N bound : ℕ) (words before : List ℕ) (b : Book) (way : Way) (tally : List ℕ) (lists : List Call) (text : List ℕ) where
  by_calls : (v : Verdict) → Calls small M N bound words before b (closed way v) tally → VerdictText b.terms tally v lists text → ByCalls M N bound words text
  by_calls Over so is = record {
    before = before;
    book = b;
    way = way;
    verdict = Over;
    tally = tally;
    run = so;
    lists = [];
    earlier = so.calls;
    last = refl;
    says = (refl, is.1);
  }
  by_calls (Split n) so is = record {
    before = before;
    book = b;
    way = way;
    verdict = Split n;
    tally = tally;
    run = so;
    lists = [];
    earlier = so.calls;
    last = refl;
    says = (refl, is.1);
  }
  by_calls Report so listings =
      let longer = calls_listed small M N bound words before b way tally b.terms.farm.stations lists text listings so in
      record {
        before = before;
        book = b;
        way = way;
        verdict = Report;
        tally = tally;
        run = longer.0;
        lists = lists;
        earlier = longer.1;
        last = longer.2;
        says = listings;
      }

-- the lines of a verdict and the count of sums are the text of the farm
pub farm_text : (M N bound : ℕ) (signatures words : List ℕ) → words ≡ signatures → (before : List ℕ) (b : Book) (v : Verdict) (after : List ℕ)
    → Checked M N bound small words before b v after → (lists : List Call) (body : List ℕ) → VerdictText b.terms after v lists body → (out : List ℕ)
    → out ≡ body ++ sums_line b.counts.taken → FarmText M N bound signatures out
farm_text M N bound signatures words same before b v after checked lists body says out is =
    let holds = cards small N words in
    subst (λ signatures. FarmText M N bound signatures out) same (record {
      body = body;
      count = b.counts.taken;
      text = is;
      by_calls = by_calls M N bound words before b checked.way after lists body v checked.by_calls says;
      taken = checked.taken;
      rules =
          by_terms (λ M N' bound. RulesFind small M N' bound holds body) b.terms 1 M N bound checked.terms
          (rules_found small holds b.terms after lists body v
          (rules_come small b.terms (sums small b.terms.farm.pages holds) (copies holds) after checked.way v checked.judged) says);
      truth = λ given.
          by_terms (λ M N' bound. TrueFind M N' holds body) b.terms 1 M N bound checked.terms
          (truth_found small holds b.terms after lists body checked.way v (checked.right given) says);
    })
