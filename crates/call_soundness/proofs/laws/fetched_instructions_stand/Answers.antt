use Rattle.call_soundness.proofs.ContentLaws.{fetched_stands}
use Rattle.call_soundness.proofs.laws.fetched_instructions_stand.Goals as goal

pub returns : goal.returns
returns c = fetched_stands
