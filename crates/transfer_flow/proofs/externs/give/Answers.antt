use Rattle.std.proofs.Common.{◌≡◌, sym, ◌∙◌, ap}
use Rattle.ia32_semantics.specs.Effects.{Whole}
use Rattle.abs_semantics.specs.States.{AbsState}
use Rattle.abs_semantics.specs.Operands.{with_register}
use Rattle.abs_steps.specs.Accesses.{argument}
use Rattle.abs_steps.specs.Calls.{allocated, block_or_none}
use Rattle.abs_steps.specs.Externs.{block_key}
use Rattle.abs_state.specs.Views.{seen}
use Rattle.transfer_flow.specs.Successors.{view_at}
use Rattle.transfer_flow.proofs.ExternLemmas.{block_given, no_block}
use Rattle.transfer_flow.proofs.externs.give.Goals as goal

pub returns-then-not-gives_block : goal.returns-then-not-gives_block
returns-then-not-gives_block c =
    let site = c.args.site.now in
    no_block (block_key site.program.now.lane site.node.now) (argument (view_at site) 1) (seen c.args.a.now) c.args.kind.now (sym c.gives_block.ensures ∙ c.if-not-gives_block.true)

pub returns : goal.returns
returns c =
    let site = c.args.site.now in
    let a : AbsState = seen c.args.a.now in
    let asked : c.in_ok-asked.asked ≡ argument (view_at site) 1 = c.in_ok-asked.ensures ∙ ap (λ v. argument v 1) c.view.ensures in
    c.in_ok-give_block.ensures
    ∙ (λ i. with_register (allocated (c.block_key-key.ensures i) (asked i) a) Whole 0 (block_or_none (c.block_key-key.ensures i)))
    ∙ block_given (block_key site.program.now.lane site.node.now) (argument (view_at site) 1) a c.args.kind.now (sym c.gives_block.ensures ∙ c.if-not-gives_block.false)
