use Rattle.std.proofs.Common.{append_assoc}
use Rattle.ia32_print.specs.Text.{memory_text}
use Rattle.ia32_print.proofs.print.push_memory.Goals as goal

pub returns-clause-text : goal.returns-clause-text
unfolding memory_text
returns-clause-text c =
    rw (c.push-3.ensures, c.push_sum.ensures.text, c.push-2.ensures, c.segment_name.ensures.name, c.push.ensures) (simp append_assoc)
