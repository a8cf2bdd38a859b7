-- Which files have an image: seven checks in a fixed order, of which the first that fails is the answer. The order, the ranges and the limits are the project's own; the fields are those of the System V ABI.
use Rattle.std.specs.Prelude.{ℕ, ◌+◌, ◌*◌, bit_and, Bool, not, ◌&&◌, ◌||◌, nat_lt, nat_eq, ◌==◌, if◌then◌else◌, Option, Some, None, List, [], ◌∷◌, ◌++◌, length, filter, find, sum_by}
use Rattle.std.specs.List.{list_any, starts_with}
use Rattle.elf32.specs.declared.error.ElfError.{ElfError}
use Rattle.elf32.specs.declared.error.ElfError.TheVariants as errors
use Rattle.elf32.specs.declared.fields.ProgramHeader.{ProgramHeader}
use Rattle.elf32.specs.declared.fields.SectionHeader.{SectionHeader}
use Rattle.elf32.specs.Fields.{octet, e_type, e_machine, e_phoff, e_phnum, e_phentsize, e_shoff, e_shnum, e_shentsize, program_header, section_header, rows}

-- a cause, where a test fails
abbrev pub when : Bool → ElfError → Option ElfError
when bad e = if bad then Some e else None

-- the first cause of two
abbrev pub or_else : Option ElfError → Option ElfError → Option ElfError
or_else None next = next
or_else (Some e) next = Some e

-- 1. There is a whole file header.
unfoldable pub no_header : List ℕ → Option ElfError
no_header f = when (nat_lt (length f) 52) (errors.Short (length f))

-- 2. The file is an ELF file of 32 bits with low bytes first, for the i386, and an executable or a shared object.
abbrev pub is_low_32 : List ℕ → Bool
is_low_32 f = (octet f 4 == 1) && (octet f 5 == 1)

unfoldable pub wrong_identity : List ℕ → Option ElfError
wrong_identity f =
    if starts_with nat_eq f (127 ∷ 69 ∷ 76 ∷ 70 ∷ []) then
    (if is_low_32 f then
    (if e_machine f == 3 then
    (if (e_type f == 2) || (e_type f == 3) then None else Some errors.Kind)
    else Some errors.Machine)
    else Some errors.Class)
    else Some errors.Magic

-- 3. The tables have entries of the right size, and not too many.
abbrev pub has_sections : List ℕ → Bool
has_sections f = not (e_shoff f == 0) && not (e_shnum f == 0)

abbrev pub wrong_sizes : List ℕ → Bool
wrong_sizes f = (e_phnum f == 0) || (not (e_phentsize f == 32) || (has_sections f && not (e_shentsize f == 40)))

unfoldable pub wrong_header : List ℕ → Option ElfError
wrong_header f =
    if wrong_sizes f then Some (errors.Header 65535)
    else when (nat_lt 64 (e_phnum f) || nat_lt 1024 (e_shnum f)) errors.TooMany

-- 4. The tables end in the file.
unfoldable pub short_tables : List ℕ → Option ElfError
short_tables f =
    when (nat_lt (length f) (e_phoff f + 32 * e_phnum f) || (has_sections f && nat_lt (length f) (e_shoff f + 40 * e_shnum f)))
    (errors.Short (length f))

-- 5. What is loaded: the program headers of type PT_LOAD that take memory, in order. A shared object is moved up by a bias.
unfoldable pub bias : List ℕ → ℕ
bias f = if e_type f == 3 then 0x400000 else 0

abbrev pub is_load : ProgramHeader → Bool
is_load h = (h.p_type == 1) && nat_lt 0 h.p_memsz

unfoldable pub loads : List ℕ → List ProgramHeader
loads f = filter is_load (rows (program_header f (e_phoff f)) (e_phnum f))

-- the addresses of a loaded segment, as integers
abbrev pub start_of : ℕ → ProgramHeader → ℕ
start_of b h = h.p_vaddr + b

abbrev pub end_of : ℕ → ProgramHeader → ℕ
end_of b h = h.p_vaddr + b + h.p_memsz

abbrev pub shares_address : ℕ → ProgramHeader → ProgramHeader → Bool
shares_address b h g = nat_lt (start_of b g) (end_of b h) && nat_lt (start_of b h) (end_of b g)

abbrev pub memory_of : List ProgramHeader → ℕ
memory_of hs = sum_by (λ h. h.p_memsz) hs

-- the flags PF_W (2) and PF_X (1) are both set
abbrev pub is_writable_code : ProgramHeader → Bool
is_writable_code h = (bit_and h.p_flags 2 == 2) && (bit_and h.p_flags 1 == 1)

abbrev pub overlap : ProgramHeader → Option ProgramHeader → Option ElfError
overlap h None = None
overlap h (Some g) = Some (errors.Overlap g.index h.index)

-- the first cause to refuse a loaded segment by itself; n is the file's length
unfoldable pub own_cause : ℕ → ℕ → ProgramHeader → Option ElfError
own_cause n b h =
    if nat_lt h.p_memsz h.p_filesz then Some (errors.Header h.index)
    else (if nat_lt 0 h.p_filesz && nat_lt n (h.p_offset + h.p_filesz) then Some (errors.Short n)
    else (if nat_lt (start_of b h) 0x1000 || nat_lt 0x7FFFFFFF (end_of b h) then Some (errors.Range h.index)
    else when (is_writable_code h) (errors.WritableCode h.index)))

-- the first cause to refuse it after the segments before it
abbrev pub load_cause : ℕ → ℕ → List ProgramHeader → ProgramHeader → Option ElfError
load_cause n b before h =
    or_else (own_cause n b h)
    (or_else (overlap h (find (shares_address b h) before))
    (when (nat_lt 67108864 (memory_of before + h.p_memsz)) errors.TooMany))

abbrev pub loads_cause : ℕ → ℕ → List ProgramHeader → List ProgramHeader → Option ElfError
loads_cause n b before [] = None
loads_cause n b before (h ∷ hs) = or_else (load_cause n b before h) (loads_cause n b (before ++ h ∷ []) hs)

abbrev pub segments_cause : ℕ → ℕ → List ProgramHeader → Option ElfError
segments_cause n b [] = Some (errors.Header 0)
segments_cause n b (h ∷ hs) = loads_cause n b [] (h ∷ hs)

unfoldable pub wrong_segments : List ℕ → Option ElfError
wrong_segments f = segments_cause (length f) (bias f) (loads f)

-- 6. The sections that are read end in the file: those of the types SHT_SYMTAB (2), SHT_STRTAB (3), SHT_REL (9) and SHT_DYNSYM (11).
abbrev pub has_type : ℕ → SectionHeader → Bool
has_type t s = s.sh_type == t

abbrev pub is_read : SectionHeader → Bool
is_read s = (has_type 2 s || has_type 3 s) || (has_type 9 s || has_type 11 s)

abbrev pub ends_outside : ℕ → SectionHeader → Bool
ends_outside n s = is_read s && (nat_lt 0 s.sh_size && nat_lt n (s.sh_offset + s.sh_size))

unfoldable pub sections : List ℕ → List SectionHeader
sections f = if has_sections f then rows (section_header f (e_shoff f)) (e_shnum f) else []

unfoldable pub short_sections : List ℕ → Option ElfError
short_sections f = when (list_any (ends_outside (length f)) (sections f)) (errors.Short (length f))
