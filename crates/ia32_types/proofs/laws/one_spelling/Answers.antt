use Rattle.ia32_types.proofs.SpellsLemmas.{one_spelling}
use Rattle.ia32_types.proofs.laws.one_spelling.Goals as goal

pub returns : goal.returns
returns c = one_spelling
