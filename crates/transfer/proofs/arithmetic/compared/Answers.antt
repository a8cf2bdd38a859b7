use Rattle.std.proofs.Common.{◌∙◌}
use Rattle.ia32_semantics.specs.Operands.{bits}
use Rattle.abs_alu.specs.Results.{flags}
use Rattle.abs_steps.specs.Flags.{sets_of}
use Rattle.abs_steps.specs.Rows.{flag_effects, learned_by}
use Rattle.abs_steps.specs.Views.{value_of}
use Rattle.abs_state.specs.Views.{seen}
use Rattle.transfer.specs.Steps.{view_in, turned, noted}
use Rattle.transfer.proofs.StepLemmas.{both_done}
use Rattle.transfer.proofs.arithmetic.compared.Goals as goal

pub returns : goal.returns
returns c =
    let m = c.args.memory.now in
    let i = c.args.i.now in
    let s = seen c.args.a.now in
    let v = view_in m s in
    let x = value_of v i.width i.dst in
    let y = value_of v i.width i.src in
    let both = c.in_ok-x.ensures in
    let told = c.in_ok-given.ensures.flags ∙ (λ k. flags (bits i.width) i.op (both k).first (both k).second (sets_of s.flags)) in
    let fact = c.in_ok-fact.ensures ∙ (λ k. learned_by v i.op i.width i.dst i.src (both k).second) in
    both_done m (flag_effects v (bits i.width) i.op x y) (turned i c.in_ok-x.x.second c.in_ok-given.given.flags)
    (learned_by v i.op i.width i.dst i.src y) (noted c.in_ok-fact.fact) s (seen c.turn.new.a) (seen c.note.new.a)
    (λ k. turned i (both k).second (told k)) (c.turn.ensures m) fact (c.note.ensures m)
