use Rattle.std.proofs.Common.{◌/◌}
use Rattle.std.proofs.lemmas.Result.{err_from_is_err_and}
use Rattle.elf32.specs.Relocating.{relocation}
use Rattle.elf32.specs.Programs.{shown}
use Rattle.elf32.proofs.Folding.{row_applied, row_refused, cause}
use Rattle.elf32.proofs.relocate.relocate_section.Goals as goal

pub returns-in_err-relocate-clause-err : goal.returns-in_err-relocate-clause-err
returns-in_err-relocate-clause-err c =
    let p = err_from_is_err_and c.from_residual.result c.from_residual.ensures.1 in
    rw (p.1, p.2)
    (cause (λ h. row_refused c.args.bias c.args.loads.now (relocation c.args.bytes.now c.args.section.now c.args.table.now) (c.args.section.now.sh_size / 8) c.args.index.now (shown c.args.program.now) c.loop-at.at c.loop-at.index (shown c.loop-at.program) c.relocation_at-r.result c.in_err-relocate.field-0.0 c.loop-at-test.true c.relocation_at-r.ensures h c.loop-at.invariant.1)
    c.in_err-relocate.ensures.err)

pub loop-at-preserved : goal.loop-at-preserved
loop-at-preserved c = (
  c.in_ok-relocate.ensures.fits,
  row_applied c.args.bias c.args.loads.now (relocation c.args.bytes.now c.args.section.now c.args.table.now) (c.args.section.now.sh_size / 8) c.args.index.now (shown c.args.program.now) c.loop-at.at c.loop-at.index (shown c.loop-at.program) (shown c.relocate.new.program) c.relocation_at-r.result c.loop-at-test.true c.relocation_at-r.ensures c.in_ok-relocate.ensures.ok c.loop-at.invariant.1,
)
