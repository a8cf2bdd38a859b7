use Rattle.std.proofs.Common.{◌-◌, sym, ◌∙◌, arith}
use Rattle.ia32_memory.specs.Mapped.{bytes_of}
use Rattle.ia32_run.proofs.PlainLemmas.{place_there}
use Rattle.ia32_run.proofs.externs.place_at.Goals as goal

pub returns : goal.returns
returns c = place_there (bytes_of c.args.memory.now) c.args.sp c.args.bytes (c.args.bytes - 4) c.word.result c.word.ensures (omega arith) (sym c.is_mapped.ensures ∙ c.if-not-is_mapped.false)
