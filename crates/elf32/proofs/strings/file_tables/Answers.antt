use Rattle.std.proofs.Common.{◌+◌, subst, sym}
use Rattle.std.proofs.lemmas.Option.{slice_get-get_or}
use Rattle.elf32.specs.Strings.{HaveTables}
use Rattle.elf32.proofs.TableLemmas.{file_more}
use Rattle.elf32.proofs.strings.file_tables.Goals as goal

pub loop-index-preserved : goal.loop-index-preserved
loop-index-preserved c =
    let f = c.args.bytes.now in
    let ss = c.args.sections.now in
    let i = c.loop-index.index in
    subst (λ v. HaveTables f ss f v (i + 1)) (sym c.in_ok-push.ensures.items)
    (file_more f ss c.linked_bytes.result.now c.loop-index.tables.items i c.string_len-len.result _ (slice_get-get_or ss i _ c.loop-index-test.true) c.linked_bytes.ensures.part c.string_len-len.ensures c.loop-index.invariant)
