-- How answers are printed; nothing is said here of those that are lists.
use Rattle.std.specs.Prelude.{ℕ, List, ◌++◌, Option, Some, None, Bool, true, false, Result, Ok, Err, codes, decimal}
use Rattle.refusal.specs.declared.Refusal.{Refusal}
use Rattle.refusal.specs.Numbers.{refusal_text}
use Rattle.calls.specs.declared.phases.Verdict.TheVariants as verdict
use Rattle.calls.specs.declared.slip.Returned.{Returned}
use Rattle.calls.specs.declared.slip.Returned.TheVariants as returned
use Rattle.commands.specs.declared.ending.Ending.{Ending}
use Rattle.commands.specs.declared.ending.Ending.TheVariants as ending
use Rattle.commands.specs.declared.answer.Answer.{Answer}
use Rattle.commands.specs.declared.answer.Answer.TheVariants as answer

abbrev pub ending_text : Ending → List ℕ
ending_text (ending.Closes verdict.Report) = codes "report"
ending_text (ending.Closes (verdict.Split page)) = codes "split " ++ decimal page
ending_text (ending.Closes verdict.Over) = codes "over"
ending_text (ending.Asks station) = codes "asks " ++ decimal station

abbrev pub returned_text : Returned → List ℕ
returned_text returned.Answered = codes "answered"
returned_text returned.Blank = codes "blank"

-- a refusal is printed by its number and its place, whatever was refused
abbrev pub answer_text : Answer → Option (List ℕ)
answer_text answer.Card = Some (codes "card")
answer_text answer.Shelf = Some (codes "shelf")
answer_text (answer.Pages count) = Some (codes "pages " ++ decimal count)
answer_text (answer.Signature code) = Some (codes "sig " ++ decimal code)
answer_text (answer.Sum code) = Some (codes "sum " ++ decimal code)
answer_text answer.NoSolution = Some (codes "none")
answer_text answer.Opened = Some (codes "open")
answer_text answer.Taken = Some (codes "taken")
answer_text (answer.Returned outcome) = Some (returned_text outcome)
answer_text (answer.Ended ending) = Some (ending_text ending)
answer_text answer.NotClosed = Some (codes "not closed")
answer_text (answer.Refused refusal) = Some (refusal_text refusal)
answer_text (answer.ServingRefused refusal) = Some (codes "serving " ++ refusal_text refusal)
answer_text _ = None

abbrev pub reply_text : (spoilt : Bool) → Option (List ℕ) → Option (List ℕ)
reply_text false text = text
reply_text true None = None
reply_text true (Some text) = Some (text ++ codes " spoilt")

-- what is answered to a call: what it gave, or its refusal
abbrev pub answer_of : Result Answer Refusal → Answer
answer_of (Ok answer) = answer
answer_of (Err refusal) = answer.Refused refusal
