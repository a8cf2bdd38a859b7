use Rattle.std.proofs.Common.{length, ◌∙◌, ap}
use Rattle.std.specs.Prelude.{map}
use Rattle.std.proofs.lemmas.List.{length-map}
use Rattle.abs_state.specs.Views.{seen}
use Rattle.call_states.specs.Values.{renamed}
use Rattle.call_states.proofs.LifeLemmas.{registers_renamed}
use Rattle.call_states.proofs.values.rename.Goals as goal

pub new-requires : goal.new-requires
new-requires c = ap length c.in_ok-registers.ensures ∙ length-map c.values.result.now (renamed c.args.renaming.now) ∙ c.values.ensures.eight

pub returns : goal.returns
returns c =
    let a = c.args.a.now in
    let r = c.args.renaming.now in
    let is = c.new.ensures ∙ c.in_ok-registers.ensures ∙ ap (map (renamed r)) c.values.ensures.value in
    λ i. record (seen a) { registers = registers_renamed r a.registers c.new.result is i; cells = c.in_ok-change.ensures i }
