-- A script: lines, each ended by LF, which the last may lack. The project's own.
use Rattle.std.specs.Prelude.{◌≡◌, ◌⊎◌, ℕ, ◌+◌, ◌==◌, List, [], ◌∷◌, Option, Some, None, Result, Ok, Err, if◌then◌else◌}
use Rattle.surf_base.specs.Sink.{lines_of}
use Rattle.requests.specs.declared.request.Request.{Request}
use Rattle.requests.specs.declared.request.LineCause.{LineCause}
use Rattle.requests.specs.declared.request.Script.{Script}
use Rattle.requests.specs.declared.request.ScriptError.{ScriptError}
use Rattle.requests.specs.declared.request.ScriptError.TheVariants as errors
use Rattle.requests.specs.Lines.{content, line_request}

-- the requests of a script with their sessions, or why it is refused
abbrev pub Reading : Type 0
Reading = Result (List (ℕ × Request)) ScriptError

-- a request before the others
abbrev pub before_others : ℕ × Request → Reading → Reading
before_others asked (Ok others) = Ok (asked ∷ others)
before_others asked (Err error) = Err error

-- One line, and then the others, which are told how many requests stand before them: a bad line is refused with its number,
-- and the 1,025th request as too many.
abbrev pub line_then : Result (Option (ℕ × Request)) LineCause → ℕ → ℕ → (ℕ → Reading) → Reading
line_then (Err cause) number count others = Err (errors.Line number cause)
line_then (Ok None) number count others = others count
line_then (Ok (Some asked)) number count others = if count == 1024 then Err (errors.TooLong 1024) else before_others asked (others (count + 1))

-- lines from this number on, after so many requests
unfoldable pub lines_read : ℕ → Option ℕ → List (List ℕ) → ℕ → ℕ → Reading
lines_read sessions programs [] number count = Ok []
lines_read sessions programs (line ∷ lines) number count =
    line_then (line_request sessions programs (content line)) number count (λ more. lines_read sessions programs lines (number + 1) more)

-- the script of so many sessions, and of so many programs or of one program alone
abbrev pub script : ℕ → Option ℕ → List ℕ → Reading
script sessions programs bytes = lines_read sessions programs (lines_of bytes) 1 0

-- a call tells this, unless memory is wanting
abbrev pub Tells : Reading → Result Script ScriptError → Type 0
Tells told (Ok read) = told ≡ Ok read.lines
Tells told (Err error) = (error ≡ errors.Memory) ⊎ (told ≡ Err error)
