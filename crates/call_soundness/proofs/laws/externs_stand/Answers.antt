use Rattle.call_soundness.proofs.ContentLaws.{extern_stands}
use Rattle.call_soundness.proofs.laws.externs_stand.Goals as goal

pub returns : goal.returns
returns c = extern_stands
