-- A list of files: names, one a line. The project's own.
use Rattle.std.specs.Prelude.{◌≡◌, ⊤, ℕ, ◌+◌, ◌&&◌, nat_le, nat_lt, Bool, true, false, List, [], ◌∷◌, length, map, Option, Some, None, Result, Ok, Err, Vec, String, if◌then◌else◌}
use Rattle.std.specs.List.{list_all}
use Rattle.std.specs.String.{string_bytes}
use Rattle.std.specs.declared.alloc.Global.{Global}
use Rattle.surf_base.specs.Sink.{lines_of}
use Rattle.requests.specs.Lines.{content}
use Rattle.program_shelf.specs.declared.list.ListError.{ListError}
use Rattle.program_shelf.specs.declared.list.ListError.TheVariants as errors

-- 1 to 255 bytes of ASCII
abbrev pub is_name_length : ℕ → Bool
is_name_length n = nat_le 1 n && nat_le n 255

abbrev pub is_ascii : List ℕ → Bool
is_ascii line = list_all (λ byte. nat_lt byte 128) line

abbrev pub is_name : List ℕ → Bool
is_name line = is_name_length (length line) && is_ascii line

-- the name that a line is
abbrev pub name_in : List ℕ → Option (List ℕ)
name_in line = if is_name line then Some line else None

-- a line with this number may stand: it is a name, and one of the first four
abbrev pub may_stand : ℕ → List ℕ → Bool
may_stand number line = nat_le number 4 && is_name (content line)

-- names, or the first line that isn't one
abbrev pub Listing : Type 0
Listing = Result (List (List ℕ)) ℕ

abbrev pub name_before : List ℕ → Listing → Listing
name_before name (Ok others) = Ok (name ∷ others)
name_before name (Err number) = Err number

-- the lines from this number on, of which the fourth is the last that may stand
unfoldable pub names_from : ℕ → List (List ℕ) → Listing
names_from number [] = Ok []
names_from number (line ∷ lines) =
    if may_stand number line then name_before (content line) (names_from (number + 1) lines) else Err number

-- there is a line
abbrev pub some_names : List (List ℕ) → Listing
some_names [] = Err 1
some_names (line ∷ lines) = names_from 1 (line ∷ lines)

-- what bytes list
abbrev pub listing : List ℕ → Listing
listing bytes = some_names (lines_of bytes)

-- what is told of one line
abbrev pub TellsLine : ℕ → List ℕ → Result (String Global) ListError → Type 0
TellsLine number line (Ok name) = (may_stand number line ≡ true) × (string_bytes name ≡ content line)
TellsLine number line (Err errors.Memory) = ⊤
TellsLine number line (Err (errors.Line other)) = (may_stand number line ≡ false) × (other ≡ number)

-- a call tells this, unless memory is wanting
abbrev pub Tells : List ℕ → Result (Vec (String Global) Global) ListError → Type 0
Tells bytes (Ok names) = listing bytes ≡ Ok (map string_bytes names.items)
Tells bytes (Err errors.Memory) = ⊤
Tells bytes (Err (errors.Line number)) = listing bytes ≡ Err number
