-- What a reading gives, told together with the addresses of the bytes that it asked for. The project's own.
use Rattle.std.specs.Prelude.{ℕ, List, [], ◌∷◌, Option, Some, None}
use Rattle.ia32_semantics.specs.State.{State}
use Rattle.ia32_semantics.specs.Reading.{Reading, gives, faults, register, flag, byte, choice, with_byte}

-- What a reading gives in a state with these words of choice, the words that are left, and the addresses of the bytes asked
-- for, the newest first, in front of those asked for before; none where it faults.
abbrev pub told : {A : Type 0} → Reading A → State → List ℕ → List ℕ → Option (A × List ℕ × List ℕ)
told (gives x) s words asked = Some (x, words, asked)
told faults s words asked = None
told (register n more) s words asked = told (more (s.registers n)) s words asked
told (flag n more) s words asked = told (more (s.flags n)) s words asked
told (byte a more) s words asked = with_byte (s.memory a) None (λ v. told (more v) s words (a ∷ asked))
told (choice more) s [] asked = None
told (choice more) s (word ∷ words) asked = told (more word) s words asked

-- something beside words and addresses
abbrev pub with_words : {A : Type 0} → Option A → List ℕ → List ℕ → Option (A × List ℕ × List ℕ)
with_words None words asked = None
with_words (Some x) words asked = Some (x, words, asked)

-- what a reading gives that asks for registers and flags alone; none where it faults or asks for more
abbrev pub given_by_registers : {A : Type 0} → Reading A → State → Option A
given_by_registers (gives x) s = Some x
given_by_registers faults s = None
given_by_registers (register n more) s = given_by_registers (more (s.registers n)) s
given_by_registers (flag n more) s = given_by_registers (more (s.flags n)) s
given_by_registers (byte a more) s = None
given_by_registers (choice more) s = None
