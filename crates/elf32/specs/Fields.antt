-- The fields of an ELF32 file by their offsets (System V ABI, "Object Files": Elf32_Ehdr, Elf32_Phdr, Elf32_Shdr, Elf32_Sym).
use Rattle.std.specs.Prelude.{ℕ, suc, zero, ◌+◌, ◌*◌, nat_lt, if◌then◌else◌, List, [], ◌∷◌, length, drop, slice_index}
use Rattle.byteorder.specs.Endian.{little_number}
use Rattle.elf32.specs.declared.fields.ProgramHeader.{ProgramHeader}
use Rattle.elf32.specs.declared.fields.SectionHeader.{SectionHeader}
use Rattle.elf32.specs.declared.fields.SymbolEntry.{SymbolEntry}

-- the byte, the half word and the word at an offset, with the low byte first; 0 where the file ends before
abbrev pub octet : List ℕ → ℕ → ℕ
octet f at = slice_index f at

unfoldable pub half : List ℕ → ℕ → ℕ
half f at = if nat_lt (length f) (at + 2) then 0 else little_number 2 (drop at f)

unfoldable pub word : List ℕ → ℕ → ℕ
word f at = if nat_lt (length f) (at + 4) then 0 else little_number 4 (drop at f)

-- Elf32_Ehdr
abbrev pub e_type : List ℕ → ℕ
e_type f = half f 16

abbrev pub e_machine : List ℕ → ℕ
e_machine f = half f 18

abbrev pub e_entry : List ℕ → ℕ
e_entry f = word f 24

abbrev pub e_phoff : List ℕ → ℕ
e_phoff f = word f 28

abbrev pub e_shoff : List ℕ → ℕ
e_shoff f = word f 32

abbrev pub e_phentsize : List ℕ → ℕ
e_phentsize f = half f 42

abbrev pub e_phnum : List ℕ → ℕ
e_phnum f = half f 44

abbrev pub e_shentsize : List ℕ → ℕ
e_shentsize f = half f 46

abbrev pub e_shnum : List ℕ → ℕ
e_shnum f = half f 48

-- Elf32_Phdr number i of the table at an offset
abbrev pub program_header : List ℕ → ℕ → ℕ → ProgramHeader
program_header f table i =
    let at = table + 32 * i in
    record { index = i; p_type = word f at; p_offset = word f (at + 4); p_vaddr = word f (at + 8); p_filesz = word f (at + 16); p_memsz = word f (at + 20); p_flags = word f (at + 24) }

-- Elf32_Shdr number i of the table at an offset
abbrev pub section_header : List ℕ → ℕ → ℕ → SectionHeader
section_header f table i =
    let at = table + 40 * i in
    record { sh_type = word f (at + 4); sh_offset = word f (at + 16); sh_size = word f (at + 20); sh_link = word f (at + 24) }

-- Elf32_Sym number i of the table at an offset
abbrev pub symbol_entry : List ℕ → ℕ → ℕ → SymbolEntry
symbol_entry f table i =
    let at = table + 16 * i in
    record { st_name = word f at; st_value = word f (at + 4); st_size = word f (at + 8); st_shndx = half f (at + 14) }

-- what stands in rows i, i + 1, .. of a table, for n rows
abbrev pub rows_from : {A : Type 0} → (ℕ → A) → ℕ → ℕ → List A
rows_from row i zero = []
rows_from row i (suc n) = row i ∷ rows_from row (i + 1) n

-- the n rows of a table
abbrev pub rows : {A : Type 0} → (ℕ → A) → ℕ → List A
rows row n = rows_from row 0 n
