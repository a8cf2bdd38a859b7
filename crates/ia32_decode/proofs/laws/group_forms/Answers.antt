use Rattle.ia32_decode.proofs.PrefixListLemmas.{groups_are_their_forms}
use Rattle.ia32_decode.proofs.laws.group_forms.Goals as goal

pub returns : goal.returns
returns c = record { exactly = groups_are_their_forms }
