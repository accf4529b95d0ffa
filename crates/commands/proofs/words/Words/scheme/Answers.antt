use Rattle.std.proofs.Common.{rules}
use Rattle.commands.proofs.words.Words.scheme.Goals as goal

pub returns-in-Some : goal.returns-in-Some
returns-in-Some c = (c.in_ok-word.word, search rules, search rules)
