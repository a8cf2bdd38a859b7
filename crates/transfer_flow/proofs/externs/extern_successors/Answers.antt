use Rattle.std.proofs.Common.{sym, ◌∙◌, ap}
use Rattle.abs_state.specs.Views.{seen}
use Rattle.transfer_flow.specs.Successors.{all_placed, states_of}
use Rattle.transfer_flow.proofs.ExternLemmas.{come_back, stay_away}
use Rattle.transfer_flow.proofs.externs.extern_successors.Goals as goal

pub returns-then-not-comes_back : goal.returns-then-not-comes_back
returns-then-not-comes_back c =
    let site = c.args.site.now in
    let p = site.program.now in
    ap all_placed c.new.ensures.items
    ∙ stay_away p.image.now p.settings.now (states_of p c.args.others.now) site.node.now (seen site.state.now) c.args.kind.now (sym c.comes_back.ensures ∙ c.if-not-comes_back.true)

pub returns : goal.returns
returns c =
    let site = c.args.site.now in
    let p = site.program.now in
    c.in_ok-placed.ensures
    ∙ come_back p.image.now p.settings.now (states_of p c.args.others.now) site.node.now (seen site.state.now) c.args.kind.now (sym c.comes_back.ensures ∙ c.if-not-comes_back.false)
