use Rattle.std.proofs.Common.{ap, refl, sym, ◌∙◌, length, ltb-true}
use Rattle.std.proofs.lemmas.Option.{slice_get_read}
use Rattle.image_map.specs.Texts.{text_at}
use Rattle.elf32.specs.Strings.{table_at}
use Rattle.elf32.proofs.StringLemmas.{ends_empty, extern_text}
use Rattle.elf32.proofs.TableLemmas.{links_at}
use Rattle.elf32.proofs.read.extern_start.Goals as goal

pub returns-in-None-name_start : goal.returns-in-None-name_start
returns-in-None-name_start c =
    let ss = c.args.sections.now in
    let buffer = c.args.strings.now.buffer.items in
    let view = c.as_slice-buffer.ensures.value in
    let section = c.in-Some.section.now in
    let found = slice_get_read ss (length ss) c.args.id.now.table section refl (ltb-true _ _ (sym c.in-Some.ensures.lookup.0)) c.in-Some.ensures.lookup.1 in
    ap (λ v. text_at buffer (length v)) view
    ∙ (sym (ends_empty buffer)
    ∙ extern_text c.args.bytes.now ss buffer c.as_slice-buffer.result.now c.args.strings.now.tables.items c.args.id.now section _ _ _ c.requires.strings found (links_at ss section c.args.id.now.table found) view (c.table_at-table.ensures ∙ ap (λ v. table_at v section.sh_link) c.as_slice.ensures.value) c.symbol_entry-entry.ensures c.in-None-name_start.ensures.start)

pub returns-in-Some-name_start : goal.returns-in-Some-name_start
returns-in-Some-name_start c =
    let ss = c.args.sections.now in
    let buffer = c.args.strings.now.buffer.items in
    let section = c.in-Some.section.now in
    let found = slice_get_read ss (length ss) c.args.id.now.table section refl (ltb-true _ _ (sym c.in-Some.ensures.lookup.0)) c.in-Some.ensures.lookup.1 in
    extern_text c.args.bytes.now ss buffer c.as_slice-buffer.result.now c.args.strings.now.tables.items c.args.id.now section _ _ _ c.requires.strings found (links_at ss section c.args.id.now.table found) c.as_slice-buffer.ensures.value (c.table_at-table.ensures ∙ ap (λ v. table_at v section.sh_link) c.as_slice.ensures.value) c.symbol_entry-entry.ensures c.in-Some-name_start.ensures.start
