-- Texts in a buffer, each of which ends at a NUL (System V ABI, "String Table").
use Rattle.std.specs.Prelude.{ℕ, Bool, true, ◌==◌, List, [], ◌∷◌, drop}
use Rattle.std.specs.List.{before_first}

abbrev pub is_nul : ℕ → Bool
is_nul byte = byte == 0

-- a text ends where these bytes begin
abbrev pub is_end : List ℕ → Bool
is_end [] = true
is_end (byte ∷ rest) = is_nul byte

-- the bytes before the first NUL, or all where there is none
abbrev pub first_text : List ℕ → List ℕ
first_text bytes = before_first is_nul bytes

-- the text that begins at a place of a buffer
abbrev pub text_at : List ℕ → ℕ → List ℕ
text_at buffer start = first_text (drop start buffer)
