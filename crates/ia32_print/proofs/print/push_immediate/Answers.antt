use Rattle.std.proofs.Common.{refl, append_assoc}
use Rattle.ia32_print.specs.Text.{immediate_text}
use Rattle.ia32_print.proofs.print.push_immediate.Goals as goal

pub returns-clause-text : goal.returns-clause-text
unfolding immediate_text
returns-clause-text c =
    rw (c.push-2.ensures, c.push.ensures, c.significant.ensures.digits, c.hex8.ensures.digits, c.at_width.ensures, append_assoc) refl
