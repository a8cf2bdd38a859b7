-- The strings of a file in one buffer, and for each section where its own begin and end there. The project's own.
use Rattle.std.specs.Prelude.{ℕ, ◌≡◌, ◌+◌, ◌%◌, ◌^◌, ◌<◌, ◌≤◌, nat_lt, ◌==◌, if◌then◌else◌, Option, Some, None, List, [], length, take, drop, slice_index, slice_index_or}
use Rattle.std.specs.Option.{option_map}
use Rattle.image_map.specs.declared.symbols.SymbolPlace.{SymbolPlace}
use Rattle.image_map.specs.Names.{Symbol, symbol_at}
use Rattle.image_map.specs.Texts.{text_at}
use Rattle.elf32.specs.declared.fields.SectionHeader.{SectionHeader}
use Rattle.elf32.specs.declared.fields.SymbolEntry.{SymbolEntry}
use Rattle.elf32.specs.declared.strings.StringTable.{StringTable}
use Rattle.elf32.specs.Names.{is_linked, string_bytes}

-- so many bytes stand up to the last NUL, and with it
pub record IsStringLen (bytes : List ℕ) (n : ℕ) : Type 0 where
  pub within : n ≤ length bytes
  pub last : (k : ℕ) → n ≡ k + 1 → slice_index bytes k ≡ 0
  pub behind : (k : ℕ) → n ≤ k → k < length bytes → slice_index bytes k ≡ 0 → ⊥

-- the strings that a section links
abbrev pub linked_bytes : List ℕ → List SectionHeader → ℕ → List ℕ
linked_bytes f ss i = if is_linked ss i then string_bytes f ss i else []

-- where the strings of section number i stand
pub record IsTable (f : List ℕ) (ss : List SectionHeader) (buffer : List ℕ) (i : ℕ) (t : StringTable) : Type 0 where
  pub len : IsStringLen (linked_bytes f ss i) t.len
  pub same : take t.len (drop t.start buffer) ≡ take t.len (linked_bytes f ss i)

abbrev pub no_table : StringTable
no_table = record { start = 0; len = 0 }

abbrev pub table_at : List StringTable → ℕ → StringTable
table_at tables i = slice_index_or tables i no_table

-- where the strings of the first n sections stand
pub record HaveTables (f : List ℕ) (ss : List SectionHeader) (buffer : List ℕ) (tables : List StringTable) (n : ℕ) : Type 0 where
  pub all : length tables ≡ n
  pub each : (i : ℕ) → i < n → IsTable f ss buffer i (table_at tables i)

pub record AreStrings (f : List ℕ) (ss : List SectionHeader) (buffer : List ℕ) (ts : List StringTable) : Type 0 where
  pub few : length buffer ≤ length f
  pub tables : HaveTables f ss buffer ts (length ss)

-- where the name at an index of a table begins in the buffer, if it isn't empty
unfoldable pub name_start : List ℕ → StringTable → ℕ → Option ℕ
name_start buffer t at =
    if nat_lt at t.len then (if slice_index buffer (t.start + at) == 0 then None else Some (t.start + at)) else None

-- the name that begins there
abbrev pub name_from : List ℕ → Option ℕ → List ℕ
name_from buffer None = []
name_from buffer (Some start) = text_at buffer start

-- the symbol of an entry, where it is defined and its name begins somewhere; a value is moved by the bias
abbrev pub place_of : ℕ → Option ℕ → SymbolEntry → Option SymbolPlace
place_of b None e = None
place_of b (Some start) e = if e.st_shndx == 0 then None else Some (record { start = start; value = (e.st_value + b) % 2 ^ 32 })

-- the same as a symbol, by the table in which the name stands
abbrev pub placed : List ℕ → ℕ → StringTable → SymbolEntry → Option Symbol
placed buffer b t e = option_map (symbol_at buffer) (place_of b (name_start buffer t e.st_name) e)
