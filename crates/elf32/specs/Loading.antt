-- The image of a file (System V ABI, "Program Loading"), and the first check that fails where it has none.
use Rattle.std.specs.Prelude.{ℕ, ◌≡◌, ◌+◌, ◌-◌, ◌%◌, ◌^◌, Option, Some, None, Result, Ok, Err, IfOk, List, [], ◌∷◌, ◌++◌, map, take, drop, replicate}
use Rattle.std.specs.List.{flat_map}
use Rattle.std.specs.Option.{option_map_or}
use Rattle.std.specs.Prelude.{slice_get}
use Rattle.image_map.specs.declared.image.Segment.{Segment}
use Rattle.image_map.specs.declared.image.Extern.{Extern}
use Rattle.image_map.specs.declared.image.Image.{Image}
use Rattle.image_map.specs.Memory.{byte_of}
use Rattle.image_map.specs.Names.{value_of}
use Rattle.image_map.specs.Shapes.{shapes}
use Rattle.elf32.specs.declared.error.ElfError.{ElfError}
use Rattle.elf32.specs.declared.fields.ProgramHeader.{ProgramHeader}
use Rattle.elf32.specs.declared.fields.SectionHeader.{SectionHeader}
use Rattle.elf32.specs.declared.fields.SymbolId.{SymbolId}
use Rattle.elf32.specs.declared.fields.Relocation.{Relocation}
use Rattle.elf32.specs.Fields.{e_entry, symbol_entry}
use Rattle.elf32.specs.Checks.{or_else, no_header, wrong_identity, wrong_header, short_tables, wrong_segments, short_sections, bias, loads, sections, start_of}
use Rattle.elf32.specs.Names.{name, symbols}
use Rattle.elf32.specs.Relocating.{Relocated, relocated, relocations_of}
use Rattle.elf32.specs.Shapes.{load_shape}

-- a segment before relocation: its bytes in the file, and zeros after them
abbrev pub segment : List ℕ → ℕ → ProgramHeader → Segment
segment f b h = record { start = start_of b h; bytes = take h.p_filesz (drop h.p_offset f) ++ replicate (h.p_memsz - h.p_filesz) 0; flags = h.p_flags }

-- the state before the first relocation
abbrev pub begun : List ℕ → ℕ → List ProgramHeader → Relocated
begun f b hs = record { memory = byte_of (map (segment f b) hs) []; externs = []; words = [] }

-- all relocations of a file
abbrev pub relocations : List ℕ → List Relocation
relocations f = flat_map (relocations_of f (sections f)) (sections f)

-- the state after the last relocation, or the cause to refuse one
unfoldable pub outcome : List ℕ → Result Relocated ElfError
outcome f = relocated (bias f) (loads f) 0 (begun f (bias f) (loads f)) (relocations f)

abbrev pub error_of : Result Relocated ElfError → Option ElfError
error_of (Ok st) = None
error_of (Err e) = Some e

-- 7. Each relocation is of a kind that is read, with a symbol and a place; and no limit is passed.
abbrev pub wrong_relocation : List ℕ → Option ElfError
wrong_relocation f = error_of (outcome f)

abbrev pub first_some : List (Option ElfError) → Option ElfError
first_some [] = None
first_some (c ∷ cs) = or_else c (first_some cs)

-- the cause of the first check on the headers that fails
abbrev pub header_failure : List ℕ → Option ElfError
header_failure f = or_else (no_header f) (or_else (wrong_identity f) (or_else (wrong_header f) (short_tables f)))

-- the cause of the first check that fails
abbrev pub failure : List ℕ → Option ElfError
failure f = first_some (no_header f ∷ wrong_identity f ∷ wrong_header f ∷ short_tables f ∷ wrong_segments f ∷ short_sections f ∷ wrong_relocation f ∷ [])

-- the name of an extern: that of its symbol
abbrev pub extern_name : List ℕ → List SectionHeader → SymbolId → List ℕ
extern_name f ss id = option_map_or (λ t. name f ss t.sh_link (symbol_entry f t.sh_offset id.index).st_name) (slice_get ss id.table) []

-- an image shows a file and the state after its last relocation
pub record Shows (f : List ℕ) (st : Relocated) (i : Image) : Type 0 where
  pub segments : shapes i.segments ≡ map (load_shape (bias f)) (loads f)
  pub memory : (a : ℕ) → byte_of i.segments i.any_bytes a ≡ st.memory a
  pub externs : map (λ (e : Extern). e.name) i.externs ≡ map (extern_name f (sections f)) st.externs
  pub symbols : (n : List ℕ) → value_of i.symbols n ≡ value_of (symbols f) n
  pub words : i.words ≡ st.words
  pub entry : i.entry ≡ (e_entry f + bias f) % 2 ^ 32
  pub bias : i.bias ≡ bias f

-- the image of a file: no check fails, and it shows what the file says
pub record Loads (f : List ℕ) (i : Image) : Type 0 where
  pub passes : failure f ≡ None
  pub shows : IfOk (outcome f) (λ st. Shows f st i)
