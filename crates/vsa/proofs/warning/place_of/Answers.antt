use Rattle.std.proofs.Common.{sym, ◌∙◌}
use Rattle.abs_state.proofs.PutLemmas.{at_end}
use Rattle.vsa.specs.Warned.{same_warning, warning_before}
use Rattle.vsa.proofs.warning.place_of.Goals as goal

pub returns-in-None : goal.returns-in-None
returns-in-None c = let w = c.args.w.now in at_end (λ x. same_warning x w) (λ x. warning_before x w) (λ x. w) w c.args.ws.now (sym c.in-None.is ∙ c.first_place.ensures)
