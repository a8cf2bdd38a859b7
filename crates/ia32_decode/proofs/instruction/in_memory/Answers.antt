use Rattle.std.proofs.Common.{sym, ◌∙◌}
use Rattle.ia32_decode.proofs.RunLemmas.{run_in_memory}
use Rattle.ia32_decode.proofs.instruction.in_memory.Goals as goal

pub returns : goal.returns
returns c =
    c.ending.ensures
    ∙ sym (run_in_memory c.args.prefixes.now c.args.form.now c.args.modrm c.args.bytes.now c.args.read c.in_ok-memory.memory c.in_ok-memory.read
    c.width_of.result c.form_bytes-end.result c.is_gs.result c.width_of.ensures c.form_bytes-end.ensures.bytes c.is_gs.ensures (sym c.in_ok-memory.ensures))
