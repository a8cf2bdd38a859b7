-- A line of a script. The project's own.
use Rattle.std.specs.Prelude.{ℕ, ◌+◌, ◌-◌, ◌==◌, ◌&&◌, nat_le, nat_eq, Bool, true, List, [], ◌∷◌, length, take, Option, Some, None, Result, Ok, Err, if◌then◌else◌}
use Rattle.std.specs.List.{list_any, ends_with}
use Rattle.requests.specs.declared.request.Request.{Request}
use Rattle.requests.specs.declared.request.LineCause.{LineCause}
use Rattle.requests.specs.declared.request.LineCause.TheVariants as causes
use Rattle.requests.specs.declared.words.Word.{Word}
use Rattle.requests.specs.Words.{is_space, front, behind, word_of, request}

-- the line without its LF (10), and without a CR (13) before that
abbrev pub content : List ℕ → List ℕ
content line =
    if ends_with nat_eq line (13 ∷ 10 ∷ []) then take (length line - 2) line
    else if ends_with nat_eq line (10 ∷ []) then take (length line - 1) line
    else line

-- a byte that isn't ASCII
abbrev pub has_other_byte : List ℕ → Bool
has_other_byte line = list_any (λ byte. nat_le 128 byte) line

-- an empty line and a comment, which begins with # (35), ask for nothing
abbrev pub asks_nothing : List ℕ → Bool
asks_nothing [] = true
asks_nothing (byte ∷ rest) = byte == 35

-- the session, one digit from 1 ('1' is 49) to the number of sessions, and what stands behind the space after it
abbrev pub session : ℕ → List ℕ → Option (ℕ × List ℕ)
session sessions (digit ∷ space ∷ rest) =
    if (nat_le 49 digit && nat_le digit (48 + sessions)) && is_space space then Some (digit - 48, rest) else None
session sessions other = None

-- the request of a text that begins with a word
abbrev pub request_of : Option ℕ → List ℕ → Option Word → Result Request LineCause
request_of programs text None = Err causes.Word
request_of programs text (Some word) = request programs word (behind text)

-- a request with its session
abbrev pub with_session : ℕ → Result Request LineCause → Result (Option (ℕ × Request)) LineCause
with_session number (Ok asked) = Ok (Some (number, asked))
with_session number (Err cause) = Err cause

abbrev pub session_request : Option ℕ → Option (ℕ × List ℕ) → Result (Option (ℕ × Request)) LineCause
session_request programs None = Err causes.Session
session_request programs (Some begun) = with_session begun.0 (request_of programs begun.1 (word_of (front begun.1)))

-- what a line asks for, if it asks for anything, or the first cause against it
unfoldable pub line_request : ℕ → Option ℕ → List ℕ → Result (Option (ℕ × Request)) LineCause
line_request sessions programs line =
    if has_other_byte line then Err causes.NotText
    else if asks_nothing line then Ok None
    else session_request programs (session sessions line)
