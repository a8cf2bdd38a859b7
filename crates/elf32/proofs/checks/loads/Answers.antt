use Rattle.std.proofs.Common.{◌≡◌, ◌++◌, ◌∷◌, [], ap, sym, ◌∙◌}
use Rattle.elf32.specs.Fields.{program_header}
use Rattle.elf32.specs.Checks.{is_load}
use Rattle.elf32.proofs.Rows.{row_kept, row_skipped}
use Rattle.elf32.proofs.checks.loads.Goals as goal
use Rattle.elf32.proofs.checks.loads.Goals.{then-is_load+in_ok-push, else-is_load}

pub loop-index-preserved : goal.loop-index-preserved
loop-index-preserved c =
    let row = program_header c.args.bytes.now c.word-table.result in
    let test : is_load (row c.loop-index.index) ≡ c.is_load.result = ap is_load (sym c.program_header-header.ensures) ∙ sym c.is_load.ensures in
    elim c.if-is_load.branch [
      | then-is_load+in_ok-push w ↦ row_kept is_load row c.loop-index.index c.half-count.result _ _ _ c.loop-index-test.true (test ∙ w.if-is_load.true) (ap (λ v. v.items) w.loads-is ∙ (w.in_ok-push.ensures.items ∙ ap (λ v. c.loop-index.loads.items ++ v ∷ []) c.program_header-header.ensures)) c.loop-index.invariant
      | else-is_load w ↦ row_skipped is_load row c.loop-index.index c.half-count.result _ _ _ c.loop-index-test.true (test ∙ w.if-is_load.false) (ap (λ v. v.items) w.loads-is) c.loop-index.invariant
    ]
