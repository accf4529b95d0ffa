-- The shape of a check at each stage of a run: what its question asks for, and where its stations stand.
use Rattle.std.proofs.Common.{◌≡◌, ℕ, ◌≢◌}
use Rattle.field.specs.Field.{Ops, page_limit}
use Rattle.refusal.specs.Rules.{Within}
use Rattle.calls.specs.declared.standing.Standing.TheVariants.{Free, Done}
use Rattle.calls.specs.declared.terms.Terms.{Terms}
use Rattle.calls.specs.declared.question.Question.{Question}
use Rattle.calls.specs.declared.book.Book.{Book}
use Rattle.calls.specs.Questions.{PlainTerms, FirstAsks, SecondAsks}
use Rattle.calls.specs.Slips.{standing}
use Rattle.calls.specs.Runs.{Stage, first, second, closed}
use Rattle.calls.specs.States.{AskedAt}

-- what the asking of a stage asks for
abbrev pub StageAsks : Terms → Stage → Question → Type 0
StageAsks t first q = FirstAsks t q
StageAsks t (second k) q = (¬ PlainTerms t) × Within 2 t.farm.stations k × SecondAsks t q
StageAsks t (closed way v) q = Unit {0}

-- every number but the stations 2 .. M stands free, and of these all that are not asked have told
pub record Shape (f : Ops) (b : Book) (g : Stage) : Type 0 where
  pub pages : Within 1 (page_limit f) b.terms.farm.pages
  pub question : StageAsks b.terms g b.question
  pub stations : (s : ℕ) → standing b s ≢ Free → Within 2 b.terms.farm.stations s
  pub others : (s : ℕ) → Within 2 b.terms.farm.stations s → ¬ AskedAt g s → standing b s ≡ Done
