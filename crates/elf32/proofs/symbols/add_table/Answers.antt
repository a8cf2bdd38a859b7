use Rattle.std.proofs.Common.{◌/◌, subst}
use Rattle.std.specs.List.{cons_option}
use Rattle.std.specs.Prelude.{[]}
use Rattle.image_map.specs.Names.{symbols_at}
use Rattle.elf32.specs.Fields.{symbol_entry, rows}
use Rattle.elf32.specs.Found.{Adds}
use Rattle.elf32.specs.Strings.{placed}
use Rattle.elf32.proofs.Values.{row_added}
use Rattle.elf32.proofs.StringLemmas.{none_added}
use Rattle.elf32.proofs.symbols.add_table.Goals as goal

pub loop-index-preserved : goal.loop-index-preserved
loop-index-preserved c =
    let buffer = c.args.buffer.now in
    let now = symbols_at buffer c.loop-index.found.places.items in
    let next = symbols_at buffer c.add_symbol.new.found.places.items in (
      c.in_ok-add_symbol.ensures.found,
      row_added (placed buffer c.args.bias c.args.strings.now) (symbol_entry c.args.bytes.now c.args.table.now.sh_offset) (c.args.table.now.sh_size / 16) c.loop-index.index
          (symbols_at buffer c.args.found.now.places.items) now next c.loop-index-test.true
          (subst (λ e. Adds now next (cons_option (placed buffer c.args.bias c.args.strings.now e) [])) c.symbol_entry-entry.ensures c.in_ok-add_symbol.ensures.adds) c.loop-index.invariant.1,
    )

pub returns-then-strings-eq0-clause-adds : goal.returns-then-strings-eq0-clause-adds
returns-then-strings-eq0-clause-adds c =
    none_added c.args.buffer.now c.args.bias c.args.strings.now (rows (symbol_entry c.args.bytes.now c.args.table.now.sh_offset) (c.args.table.now.sh_size / 16)) (symbols_at c.args.buffer.now c.args.found.now.places.items) c.if-strings-eq0.true
