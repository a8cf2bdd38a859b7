use Rattle.std.proofs.Common.{sym, ◌∙◌}
use Rattle.ia32_semantics.specs.Operands.{bits}
use Rattle.abs_alu.specs.Results.{value, flags}
use Rattle.transfer.proofs.StepLemmas.{sets_seen}
use Rattle.transfer.proofs.arithmetic.operate.Goals as goal

pub returns-clause-value : goal.returns-clause-value
returns-clause-value c =
    let x = c.args.x.now in
    c.in_ok-value.ensures.value
    ∙ (λ i. value (bits (c.operation_of.ensures i).width) (c.operation_of.ensures i).op x.first x.second (sym (sets_seen c.args.a.now.flags) i))

pub returns-clause-flags : goal.returns-clause-flags
returns-clause-flags c =
    let x = c.args.x.now in
    c.in_ok-value.ensures.flags
    ∙ (λ i. flags (bits (c.operation_of.ensures i).width) (c.operation_of.ensures i).op x.first x.second (sym (sets_seen c.args.a.now.flags) i))
