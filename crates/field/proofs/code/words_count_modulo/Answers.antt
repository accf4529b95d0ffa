use Rattle.field.proofs.Laws.{modular}
use Rattle.field.proofs.code.words_count_modulo.Goals as goal

pub returns : goal.returns
returns g c = modular g.met.F.Field.lawful
