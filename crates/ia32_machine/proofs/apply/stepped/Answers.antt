use Rattle.ia32_types.specs.Numbers.{size}
use Rattle.ia32_machine.proofs.CoreLemmas.{stepped_wraps}
use Rattle.ia32_machine.proofs.apply.stepped.Goals as goal

pub returns : goal.returns
returns c = stepped_wraps c.args.down (size c.args.width) c.args.count c.args.address c.step.result c.step.ensures
