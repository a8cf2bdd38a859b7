-- The file of a made program: an executable of one segment (System V ABI, "Object Files": Elf32_Ehdr, Elf32_Phdr).
use Rattle.std.specs.Prelude.{ℕ, List, [], ◌∷◌, ◌++◌, length}
use Rattle.std.specs.Int.{to_le_bytes, w16, w32}
use Rattle.std.specs.List.{flat_map}
use Rattle.generator.specs.Items.{code}

-- half words and words, the low byte first
abbrev pub halves : List ℕ → List ℕ
halves ns = flat_map (to_le_bytes w16) ns

abbrev pub words : List ℕ → List ℕ
words ns = flat_map (to_le_bytes w32) ns

-- an ELF file of 32 bits with low bytes first
abbrev pub identity : List ℕ
identity = 0x7F ∷ 0x45 ∷ 0x4C ∷ 0x46 ∷ 1 ∷ 1 ∷ 1 ∷ 0 ∷ 0 ∷ 0 ∷ 0 ∷ 0 ∷ 0 ∷ 0 ∷ 0 ∷ 0 ∷ []

-- an executable (2) for the i386 (3), entered at 08049000, with one program header behind this one and no section
abbrev pub file_header : List ℕ
file_header = identity ++ (halves (2 ∷ 3 ∷ []) ++ (words (1 ∷ 0x08049000 ∷ 52 ∷ 0 ∷ 0 ∷ []) ++ halves (52 ∷ 32 ∷ 1 ∷ 0 ∷ 0 ∷ 0 ∷ [])))

-- so many bytes, from 84 on, are loaded (1) at 08049000, to be read and run (5)
abbrev pub program_header : ℕ → List ℕ
program_header len = words (1 ∷ 84 ∷ 0x08049000 ∷ 0x08049000 ∷ len ∷ len ∷ 5 ∷ 1 ∷ [])

-- the file of a seed, with so many items
unfoldable pub made_image : ℕ → ℕ → List ℕ
made_image seed n = file_header ++ (program_header (length (code seed n)) ++ code seed n)
