-- Names in string tables, and the symbols of a file (System V ABI, "String Table", "Symbol Table").
use Rattle.std.specs.Prelude.{ℕ, ◌+◌, ◌/◌, ◌%◌, ◌^◌, Bool, ◌==◌, if◌then◌else◌, Option, Some, None, List, [], ◌∷◌, ◌++◌, filter, take, drop, position, slice_get}
use Rattle.std.specs.List.{flat_map, filter_map, list_any}
use Rattle.std.specs.Option.{option_and_then, option_map_or}
use Rattle.image_map.specs.Names.{Symbol}
use Rattle.image_map.specs.Texts.{is_nul}
use Rattle.elf32.specs.declared.fields.SectionHeader.{SectionHeader}
use Rattle.elf32.specs.declared.fields.SymbolEntry.{SymbolEntry}
use Rattle.elf32.specs.Fields.{symbol_entry, rows}
use Rattle.elf32.specs.Checks.{bias, has_type, sections}

-- section number i, where it has a type
abbrev pub section_of : List SectionHeader → ℕ → ℕ → Option SectionHeader
section_of ss t i = option_and_then (λ s. if has_type t s then Some s else None) (slice_get ss i)

-- the bytes before the first NUL, and none where there is no NUL
abbrev pub c_string : List ℕ → List ℕ
c_string bytes = option_map_or (λ n. take n bytes) (position is_nul bytes) []

-- the bytes of the string table (SHT_STRTAB) that a link names, and none where it names another section
unfoldable pub string_bytes : List ℕ → List SectionHeader → ℕ → List ℕ
string_bytes f ss link = option_map_or (λ s. take s.sh_size (drop s.sh_offset f)) (section_of ss 3 link) []

-- the name at an index of the string table that a link names
abbrev pub name : List ℕ → List SectionHeader → ℕ → ℕ → List ℕ
name f ss link at = c_string (drop at (string_bytes f ss link))

-- a section links the one with a number
abbrev pub is_linked : List SectionHeader → ℕ → Bool
is_linked ss i = list_any (λ s. s.sh_link == i) ss

-- the symbol of an entry, where it has a name and is defined; a value is moved by the bias
abbrev pub symbol_of : ℕ → List ℕ → SymbolEntry → Option Symbol
symbol_of b [] e = None
symbol_of b (x ∷ xs) e = if e.st_shndx == 0 then None else Some (record { name = x ∷ xs; value = (e.st_value + b) % 2 ^ 32 })

-- the symbol of an entry of a table, by its name in the table's strings
abbrev pub symbol_in : List ℕ → ℕ → List SectionHeader → SectionHeader → SymbolEntry → Option Symbol
symbol_in f b ss t e = symbol_of b (name f ss t.sh_link e.st_name) e

-- the symbols of a table
abbrev pub symbols_of : List ℕ → ℕ → List SectionHeader → SectionHeader → List Symbol
symbols_of f b ss t = filter_map (symbol_in f b ss t) (rows (symbol_entry f t.sh_offset) (t.sh_size / 16))

-- the symbols of tables of type SHT_SYMTAB first, and of SHT_DYNSYM after
abbrev pub symbols_in : List ℕ → ℕ → List SectionHeader → List Symbol
symbols_in f b ss = flat_map (symbols_of f b ss) (filter (has_type 2) ss) ++ flat_map (symbols_of f b ss) (filter (has_type 11) ss)

-- the symbols of a file
abbrev pub symbols : List ℕ → List Symbol
symbols f = symbols_in f (bias f) (sections f)
