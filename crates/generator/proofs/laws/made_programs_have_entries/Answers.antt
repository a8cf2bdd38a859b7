use Rattle.generator.proofs.FileLaws.{entry_is_code}
use Rattle.generator.proofs.laws.made_programs_have_entries.Goals as goal

pub returns : goal.returns
returns c = record { entry = entry_is_code }
