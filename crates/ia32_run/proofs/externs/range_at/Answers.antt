use Rattle.std.proofs.Common.{◌≡◌, sym, ◌∙◌, ap, ◌+◌, ◌*◌, arith}
use Rattle.std.specs.Prelude.{max, true}
use Rattle.ia32_semantics.specs.Effects.{all_among, is_mapped}
use Rattle.ia32_memory.specs.Mapped.{bytes_of}
use Rattle.ia32_run.proofs.RangeLemmas.{argument_missing, argument_found}
use Rattle.ia32_run.proofs.externs.range_at.Goals as goal

pub returns-in-None : goal.returns-in-None
returns-in-None c = λ low. argument_missing (bytes_of c.args.memory.now) low c.args.sp (max c.args.buffer c.args.len) c.args.buffer (omega arith) c.in-None.ensures

pub returns-in-None-word : goal.returns-in-None-word
returns-in-None-word c = λ low. argument_missing (bytes_of c.args.memory.now) low c.args.sp (max c.args.buffer c.args.len) c.args.len (omega arith) c.in-None-word.ensures

pub returns-in-Some-word : goal.returns-in-Some-word
returns-in-Some-word c = λ low.
    let mapped : all_among (is_mapped (bytes_of c.args.memory.now)) c.args.sp (4 + 4 * max c.args.buffer c.args.len) ≡ true
    = ap (λ n. all_among (is_mapped (bytes_of c.args.memory.now)) c.args.sp (4 + 4 * n)) (sym c.max.ensures) ∙ sym c.is_mapped.ensures ∙ c.if-not-is_mapped.false in (
      mapped,
      argument_found (bytes_of c.args.memory.now) low c.args.sp (max c.args.buffer c.args.len) c.args.buffer c.in-Some.to mapped (omega arith) c.in-Some.ensures,
      argument_found (bytes_of c.args.memory.now) low c.args.sp (max c.args.buffer c.args.len) c.args.len c.in-Some-word.count mapped (omega arith) c.in-Some-word.ensures,
    )
