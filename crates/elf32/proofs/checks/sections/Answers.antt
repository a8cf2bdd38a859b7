use Rattle.std.proofs.Common.{◌++◌, ◌∷◌, [], ap, ◌∙◌}
use Rattle.elf32.specs.Fields.{section_header}
use Rattle.elf32.proofs.Rows.{row_pushed}
use Rattle.elf32.proofs.checks.sections.Goals as goal

pub loop-index-preserved : goal.loop-index-preserved
loop-index-preserved c =
    row_pushed (section_header c.args.bytes.now c.word-table.result) c.loop-index.index c.half-count.result _ _ _ c.loop-index-test.true
    (c.in_ok-push.ensures.items ∙ ap (λ v. c.loop-index.sections.items ++ v ∷ []) c.section_header.ensures) c.loop-index.invariant
