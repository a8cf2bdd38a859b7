use Rattle.std.proofs.Common.{ap, ◌∙◌, eq-eqb}
use Rattle.std.specs.Prelude.{OnOk}
use Rattle.elf32.specs.Strings.{table_at}
use Rattle.elf32.proofs.StringLemmas.{section_adds}
use Rattle.elf32.proofs.symbols.add_section.Goals as goal

pub returns-clause-adds : goal.returns-clause-adds
returns-clause-adds c =
    let s = c.args.section.now in
    let table = c.table_at-table.ensures ∙ ap (λ v. table_at v s.sh_link) c.as_slice.ensures.value in
    section_adds (OnOk c.add_table.result) c.args.bytes.now c.args.bias c.args.sections.now c.args.strings.now.buffer.items c.as_slice-buffer.result.now c.args.strings.now.tables.items c.table_at-table.result s c.args.sh_type c.args.found.now.places.items c.add_table.new.found.places.items
    c.as_slice-buffer.ensures.value table (eq-eqb _ _ c.if-section-sh_type.false) c.requires.strings c.requires.linked c.add_table.ensures.adds
