-- Relocations, folded in the order of their entries (System V ABI, "Relocation"; Intel386 supplement, "Relocation Types"). What an undefined symbol and a copied variable stand for is the project's own.
use Rattle.std.specs.Prelude.{ℕ, ◌≡◌, suc, ◌+◌, ◌*◌, ◌-◌, ◌/◌, ◌%◌, ◌^◌, min, Bool, ◌&&◌, ◌||◌, nat_lt, nat_le, ◌==◌, if◌then◌else◌, Option, Some, None, unwrap_or, Result, Ok, Err, List, [], ◌∷◌, ◌++◌, length, find, position}
use Rattle.std.specs.List.{list_any}
use Rattle.std.specs.Option.{option_and_then, option_map, option_map_or}
use Rattle.image_map.specs.Names.{extern_address}
use Rattle.item_list.specs.Ranges.{within}
use Rattle.elf32.specs.declared.error.ElfError.{ElfError}
use Rattle.elf32.specs.declared.error.ElfError.TheVariants as errors
use Rattle.elf32.specs.declared.fields.ProgramHeader.{ProgramHeader}
use Rattle.elf32.specs.declared.fields.SectionHeader.{SectionHeader}
use Rattle.elf32.specs.declared.fields.SymbolEntry.{SymbolEntry}
use Rattle.elf32.specs.declared.fields.SymbolId.{SymbolId}
use Rattle.elf32.specs.declared.fields.Relocation.{Relocation}
use Rattle.elf32.specs.Fields.{word, symbol_entry, rows}
use Rattle.elf32.specs.Checks.{has_type, start_of, end_of}
use Rattle.elf32.specs.Names.{section_of}

-- Elf32_Rel number i of a section, with its symbol where the symbol table has it. r_info is the symbol's index in the high 24 bits and the kind in the low 8.
abbrev pub relocation : List ℕ → SectionHeader → SectionHeader → ℕ → Relocation
relocation f section table i =
    let at = section.sh_offset + 8 * i in
    let index = word f (at + 4) / 256 in
    record {
      r_offset = word f at;
      kind = word f (at + 4) % 256;
      id = record { table = section.sh_link; index = index };
      symbol = if nat_lt index (table.sh_size / 16) then Some (symbol_entry f table.sh_offset index) else None;
    }

-- the symbol table (SHT_DYNSYM) of a section of relocations (SHT_REL)
abbrev pub linked_table : List SectionHeader → SectionHeader → Option SectionHeader
linked_table ss s = if has_type 9 s then section_of ss 11 s.sh_link else None

-- the relocations of a section
abbrev pub entries : List ℕ → SectionHeader → Option SectionHeader → List Relocation
entries f s None = []
entries f s (Some t) = rows (relocation f s t) (s.sh_size / 8)

abbrev pub relocations_of : List ℕ → List SectionHeader → SectionHeader → List Relocation
relocations_of f ss s = entries f s (linked_table ss s)

-- Memory tells for each address its byte, or none where it has none or may have any.
abbrev pub Memory : Type 0
Memory = ℕ → Option ℕ

-- the memory after a word, its low byte first, was stored
abbrev pub stored : ℕ → ℕ → Memory → Memory
stored place value m = λ a. if within place (place + 4) a then Some (value / 256 ^ (a - place) % 256) else m a

-- the memory after the bytes from start up to end may be any
abbrev pub lost : ℕ → ℕ → Memory → Memory
lost start end m = λ a. if within start end a then None else m a

-- the word at an address, where its four bytes are known
abbrev pub word_in : Memory → ℕ → Option ℕ
word_in m at =
    option_and_then (λ b0. option_and_then (λ b1. option_and_then (λ b2. option_map (λ b3. b0 + 256 * b1 + 65536 * b2 + 16777216 * b3)
    (m (at + 3))) (m (at + 2))) (m (at + 1))) (m at)

-- the memory after a number was added to the word in place, or after it is lost where that isn't known
abbrev pub added : ℕ → ℕ → Memory → Memory
added place value m = option_map_or (λ w. stored place ((value + w) % 2 ^ 32) m) (word_in m place) (lost place (place + 4) m)

-- what relocations have made of the memory, which undefined symbols they used, by first use, and which words they stored
pub record Relocated : Type 0 where
  pub memory : Memory
  pub externs : List SymbolId
  pub words : List ℕ

abbrev pub same_symbol : SymbolId → SymbolId → Bool
same_symbol a b = (a.table == b.table) && (a.index == b.index)

-- where a relocation writes, as an integer
abbrev pub place_of : ℕ → Relocation → ℕ
place_of b r = r.r_offset + b

-- the segment that has the whole word
abbrev pub has_word : ℕ → ℕ → ProgramHeader → Bool
has_word b place h = nat_le (start_of b h) place && nat_le (place + 4) (end_of b h)

abbrev pub target : ℕ → List ProgramHeader → Relocation → Option ProgramHeader
target b hs r = find (has_word b (place_of b r)) hs

-- R_386_NONE 0, R_386_32 1, R_386_COPY 5, R_386_GLOB_DAT 6, R_386_JMP_SLOT 7, R_386_RELATIVE 8
abbrev pub is_kind : ℕ → Bool
is_kind kind = ((kind == 0) || (kind == 1)) || (nat_le 5 kind && nat_le kind 8)

abbrev pub uses_symbol : ℕ → Bool
uses_symbol kind = (kind == 1) || ((kind == 6) || (kind == 7))

abbrev pub is_undefined : SymbolEntry → Bool
is_undefined s = s.st_shndx == 0

-- the externs after a relocation: an undefined symbol that it uses is one, once
unfoldable pub externs_after : List SymbolId → Relocation → SymbolEntry → List SymbolId
externs_after es r s =
    if uses_symbol r.kind && is_undefined s then (if list_any (same_symbol r.id) es then es else es ++ r.id ∷ []) else es

-- the value of a symbol: moved by the bias, or the address of its extern
unfoldable pub symbol_value : ℕ → List SymbolId → Relocation → SymbolEntry → ℕ
symbol_value b es r s =
    if is_undefined s then extern_address (unwrap_or (position (same_symbol r.id) es) 0) else (s.st_value + b) % 2 ^ 32

-- what a relocation does to the memory, where its symbol has a value
unfoldable pub memory_after : ℕ → ProgramHeader → ℕ → Relocation → SymbolEntry → Memory → Memory
memory_after b h value r s m =
    if r.kind == 0 then m
    else (if r.kind == 5 then lost (place_of b r) (min (place_of b r + s.st_size) (end_of b h)) m
    else (if r.kind == 8 then added (place_of b r) b m
    else (if r.kind == 1 then added (place_of b r) value m
    else stored (place_of b r) value m)))

unfoldable pub words_after : ℕ → List ℕ → Relocation → List ℕ
words_after b ws r = if (r.kind == 0) || (r.kind == 5) then ws else ws ++ place_of b r ∷ []

-- one relocation with its index, its symbol and its target: a bad kind is refused first, then a limit that is passed
abbrev pub step_at : ℕ → ℕ → Relocated → Relocation → SymbolEntry → ProgramHeader → Result Relocated ElfError
step_at b i st r s h =
    if nat_lt 65535 i || nat_lt 1024 (length (externs_after st.externs r s)) then Err errors.TooMany
    else Ok (record { memory = memory_after b h (symbol_value b (externs_after st.externs r s) r s) r s st.memory; externs = externs_after st.externs r s; words = words_after b st.words r })

abbrev pub step_with : ℕ → List ProgramHeader → ℕ → Relocated → Relocation → Option SymbolEntry → Option ProgramHeader → Result Relocated ElfError
step_with b hs i st r None h = Err (errors.Relocation i r.kind)
step_with b hs i st r (Some s) None = Err (errors.Relocation i r.kind)
step_with b hs i st r (Some s) (Some h) = if is_kind r.kind then step_at b i st r s h else Err (errors.Relocation i r.kind)

unfoldable pub step : ℕ → List ProgramHeader → ℕ → Relocated → Relocation → Result Relocated ElfError
step b hs i st r = step_with b hs i st r r.symbol (target b hs r)

abbrev pub and_then : Result Relocated ElfError → (Relocated → Result Relocated ElfError) → Result Relocated ElfError
and_then (Ok st) next = next st
and_then (Err e) next = Err e

-- the relocations of a list in order, the first with an index; the first that is refused gives the cause
abbrev pub relocated : ℕ → List ProgramHeader → ℕ → Relocated → List Relocation → Result Relocated ElfError
relocated b hs i st [] = Ok st
relocated b hs i st (r ∷ rs) = and_then (step b hs i st r) (λ next. relocated b hs (suc i) next rs)

-- relocations bring one state to another, and their count from i to j, whatever relocations follow
abbrev pub Advances : ℕ → List ProgramHeader → ℕ → Relocated → List Relocation → ℕ → Relocated → Type 0
Advances b hs i st rs j after = (rest : List Relocation) → relocated b hs i st (rs ++ rest) ≡ relocated b hs j after rest

-- one of the relocations is refused, whatever relocations follow
abbrev pub Stops : ℕ → List ProgramHeader → ℕ → Relocated → List Relocation → ElfError → Type 0
Stops b hs i st rs e = (rest : List Relocation) → relocated b hs i st (rs ++ rest) ≡ Err e
