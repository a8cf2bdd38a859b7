-- The code of a made program: items that words of chance tell. The project's own.
use Rattle.std.specs.Prelude.{ℕ, zero, suc, ◌+◌, ◌-◌, ◌*◌, ◌/◌, ◌%◌, ◌^◌, ◌==◌, if◌then◌else◌, List, [], ◌∷◌, ◌++◌}
use Rattle.generator.specs.declared.items.Asked.{Asked}

-- the word behind another
abbrev pub next_word : ℕ → ℕ
next_word x = (1664525 * x + 1013904223) % 2 ^ 32

-- so many bits of a word, the lowest of them first
abbrev pub bits_of : ℕ → ℕ → ℕ → ℕ
bits_of x lowest count = x / 2 ^ lowest % 2 ^ count

-- what a word asks for: a kind of item, registers, and a number
abbrev pub asked_of : ℕ → Asked
asked_of x = record { kind = bits_of x 24 2; first = bits_of x 16 2; second = bits_of x 18 2; number = bits_of x 20 4 }

-- A number into a register (B8); a register added to another (01); a register into the frame (89), up to 16 words below EBP; or a
-- comparison with a number (83 /7), which a branch (7C) follows that jumps over an increment (40).
unfoldable pub item_of : Asked → List ℕ
item_of a =
    if a.kind == 0 then (0xB8 + a.first) ∷ a.number ∷ 0 ∷ 0 ∷ 0 ∷ []
    else (if a.kind == 1 then 0x01 ∷ (0xC0 + 8 * a.second + a.first) ∷ []
    else (if a.kind == 2 then 0x89 ∷ (0x45 + 8 * a.first) ∷ (256 - 4 * (1 + a.number)) ∷ []
    else 0x83 ∷ (0xF8 + a.first) ∷ a.number ∷ 0x7C ∷ 0x01 ∷ (0x40 + a.first) ∷ []))

-- the item of a word
abbrev pub item : ℕ → List ℕ
item x = item_of (asked_of x)

-- so many items, each of the word behind the one before
unfoldable pub items : ℕ → ℕ → List ℕ
items zero x = []
items (suc n) x = item (next_word x) ++ items n (next_word x)

-- a frame of 256 bytes is set up, and left at the end: push ebp; mov ebp, esp; sub esp, 256; .. leave; ret
abbrev pub code : ℕ → ℕ → List ℕ
code seed n = 0x55 ∷ 0x89 ∷ 0xE5 ∷ 0x81 ∷ 0xEC ∷ 0x00 ∷ 0x01 ∷ 0x00 ∷ 0x00 ∷ (items n seed ++ 0xC9 ∷ 0xC3 ∷ [])
