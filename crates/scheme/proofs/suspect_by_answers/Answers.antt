use Rattle.scheme.proofs.Suspects.{suspect_by_answers}
use Rattle.scheme.proofs.suspect_by_answers.Goals as goal

pub returns : goal.returns
returns c = suspect_by_answers
