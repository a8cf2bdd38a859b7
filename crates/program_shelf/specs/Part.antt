-- What a script asks of one of several programs. The project's own.
use Rattle.std.specs.Prelude.{ℕ, ◌==◌, ◌&&◌, not, Bool, true, false, List, [], ◌∷◌, ◌++◌, fold, if◌then◌else◌}
use Rattle.requests.specs.declared.request.Request.{Request}
use Rattle.requests.specs.declared.request.Request.TheVariants as requests

-- a session's program after one more line
abbrev pub program_after : ℕ → ℕ → ℕ × Request → ℕ
program_after session before (asker, requests.Program program) = if asker == session then program else before
program_after session before (asker, other) = before

-- a session's program after some lines; at first it is the one with number 1
abbrev pub program_of : List (ℕ × Request) → ℕ → ℕ
program_of lines session = fold (program_after session) 1 lines

abbrev pub is_program : Request → Bool
is_program (requests.Program program) = true
is_program other = false

-- a line after others asks something of the program, and not for another one
abbrev pub is_of : ℕ → List (ℕ × Request) → ℕ × Request → Bool
is_of program before line = not (is_program line.1) && program_of before line.0 == program

-- of the lines that stand after others, those that ask something of the program
unfoldable pub part_after : ℕ → List (ℕ × Request) → List (ℕ × Request) → List (ℕ × Request)
part_after program before [] = []
part_after program before (line ∷ lines) =
    (if is_of program before line then line ∷ [] else []) ++ part_after program (before ++ line ∷ []) lines

abbrev pub part : ℕ → List (ℕ × Request) → List (ℕ × Request)
part program lines = part_after program [] lines
