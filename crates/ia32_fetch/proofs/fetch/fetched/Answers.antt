use Rattle.std.proofs.Common.{refl}
use Rattle.std.specs.Prelude.{Ok, Err}
use Rattle.ia32_fetch.proofs.FetchLaws.{window_decoded, begun_spelled, decoded_none, decoded_some}
use Rattle.ia32_fetch.proofs.fetch.fetched.Goals as goal

pub returns-in-Err-clause-value : goal.returns-in-Err-clause-value
returns-in-Err-clause-value c = window_decoded c.args.image.now c.args.at _ (Err c.in-Err.field-0) c.read_window-window.ensures.run c.in-Err.ensures.value

pub returns-in-Err-clause-exact : goal.returns-in-Err-clause-exact
returns-in-Err-clause-exact c = decoded_none c.args.image.now c.args.at _ c.in-Err.field-0 c.read_window-window.ensures.run c.in-Err.ensures.ok

pub returns-in-Ok-clause-value : goal.returns-in-Ok-clause-value
returns-in-Ok-clause-value c = window_decoded c.args.image.now c.args.at _ (Ok c.in-Ok.instr) c.read_window-window.ensures.run c.in-Ok.ensures.value

pub returns-in-Ok-clause-exact : goal.returns-in-Ok-clause-exact
returns-in-Ok-clause-exact c = decoded_some c.args.image.now c.args.at _ c.in-Ok.instr c.read_window-window.ensures.run c.in-Ok.ensures.ok

pub returns-in-Ok-clause-spelled : goal.returns-in-Ok-clause-spelled
returns-in-Ok-clause-spelled c = begun_spelled _ c.args.at c.in-Ok.instr ((c.in-Ok.ensures.ok c.in-Ok.instr).0 refl)
