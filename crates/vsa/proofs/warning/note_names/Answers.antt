use Rattle.vsa.specs.Warned.{with_warning, named_at}
use Rattle.vsa.proofs.NoteLemmas.{names_step, names_end}
use Rattle.vsa.proofs.warning.note_names.Goals as goal

pub loop-i-preserved : goal.loop-i-preserved
loop-i-preserved c =
    names_step with_warning (named_at c.args.at) c.args.names.now c.loop-i.i c.name_at-name.result c.loop-i.ws.items _ _ c.loop-i-test.true c.name_at-name.ensures c.in_ok-note.ensures c.loop-i.invariant

pub returns : goal.returns
returns c = names_end with_warning (named_at c.args.at) c.args.names.now c.loop-i.i c.loop-i.ws.items _ c.loop-i-test.false c.loop-i.invariant
