use Rattle.access_facts.specs.Kept.{frame_list}
use Rattle.access_facts.proofs.KeptLemmas.{number_step, number_end}
use Rattle.access_facts.proofs.kept.push_frames.Goals as goal

pub loop-procedure-preserved : goal.loop-procedure-preserved
loop-procedure-preserved c = number_step frame_list c.args.procedures.now c.loop-procedure.procedure-index c.loop-procedure.lists.items c.push_frame.new.lists.items _ c.loop-procedure-test.true c.in_ok-push_frame.ensures c.loop-procedure.invariant

pub returns : goal.returns
returns c = number_end frame_list c.args.procedures.now c.loop-procedure.procedure-index c.loop-procedure.lists.items _ c.loop-procedure-test.false c.loop-procedure.invariant
