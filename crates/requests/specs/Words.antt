-- A request: a word, and what follows it after a space. The project's own.
use Rattle.std.specs.Prelude.{ℕ, ◌+◌, ◌-◌, ◌==◌, ◌&&◌, nat_lt, nat_le, Bool, true, false, List, [], ◌∷◌, length, take, drop, codes, Option, Some, None, Result, Ok, Err, if◌then◌else◌}
use Rattle.std.specs.List.{list_all, position}
use Rattle.std.specs.Option.{option_map, option_map_or, option_and_then, ok_or}
use Rattle.std.specs.Char.{digit_value}
use Rattle.std.specs.Str.{bytes_eq}
use Rattle.std.specs.Str.Parse.{digits_value}
use Rattle.requests.specs.declared.request.Request.{Request}
use Rattle.requests.specs.declared.request.Request.TheVariants as requests
use Rattle.requests.specs.declared.request.LineCause.{LineCause}
use Rattle.requests.specs.declared.request.LineCause.TheVariants as causes
use Rattle.requests.specs.declared.words.Word.{Word}
use Rattle.requests.specs.declared.words.Word.TheVariants as words

-- a space is 32
abbrev pub is_space : ℕ → Bool
is_space byte = byte == 32

-- what stands before the first space, or all of it
abbrev pub front : List ℕ → List ℕ
front text = option_map_or (λ at. take at text) (position is_space text) text

-- what stands behind the first space, where there is one
abbrev pub behind : List ℕ → Option (List ℕ)
behind text = option_map (λ at. drop (at + 1) text) (position is_space text)

-- the word that a text is
abbrev pub word_of : List ℕ → Option Word
word_of text =
    if bytes_eq text (codes "slice") then Some words.Slice
    else if bytes_eq text (codes "slice-skip") then Some words.SliceSkip
    else if bytes_eq text (codes "values") then Some words.Values
    else if bytes_eq text (codes "warnings") then Some words.Warnings
    else if bytes_eq text (codes "locations") then Some words.Locations
    else if bytes_eq text (codes "step") then Some words.Step
    else if bytes_eq text (codes "lane") then Some words.Lane
    else if bytes_eq text (codes "forward") then Some words.Forward
    else if bytes_eq text (codes "forward-skip") then Some words.ForwardSkip
    else if bytes_eq text (codes "chop") then Some words.Chop
    else if bytes_eq text (codes "chop-skip") then Some words.ChopSkip
    else if bytes_eq text (codes "why") then Some words.Why
    else if bytes_eq text (codes "why-skip") then Some words.WhySkip
    else if bytes_eq text (codes "matched") then Some words.Matched
    else if bytes_eq text (codes "matched-skip") then Some words.MatchedSkip
    else if bytes_eq text (codes "program") then Some words.Program
    else None

-- what 1 to 8 hexadecimal digits of either case write
unfoldable pub address : List ℕ → Option ℕ
address digits =
    if nat_lt 0 (length digits) && (nat_le (length digits) 8 && list_all (λ digit. nat_lt (digit_value digit) 16) digits)
    then Some (digits_value 16 digits) else None

-- the one address that follows
abbrev pub one_address : Option (List ℕ) → Option ℕ
one_address rest = option_and_then address rest

-- the two addresses that follow, with one space between them
abbrev pub two_addresses : Option (List ℕ) → Option (ℕ × ℕ)
two_addresses rest =
    option_and_then (λ text. option_and_then (λ from. option_map (λ to. (from, to)) (one_address (behind text))) (address (front text))) rest

-- the one digit that follows, where it lies between two numbers ('0' is 48)
abbrev pub one_digit : ℕ → ℕ → Option (List ℕ) → Option ℕ
one_digit least greatest (Some (digit ∷ [])) = if nat_le (48 + least) digit && nat_le digit (48 + greatest) then Some (digit - 48) else None
one_digit least greatest other = None

-- the requests of the words that take addresses
abbrev pub addressed : Word → Option (List ℕ) → Option Request
addressed words.Slice rest = option_map (λ at. requests.Slice at false) (one_address rest)
addressed words.SliceSkip rest = option_map (λ at. requests.Slice at true) (one_address rest)
addressed words.Values rest = option_map (λ at. requests.Values at) (one_address rest)
addressed words.Forward rest = option_map (λ at. requests.Forward at false) (one_address rest)
addressed words.ForwardSkip rest = option_map (λ at. requests.Forward at true) (one_address rest)
addressed words.Matched rest = option_map (λ at. requests.Matched at false) (one_address rest)
addressed words.MatchedSkip rest = option_map (λ at. requests.Matched at true) (one_address rest)
addressed words.Chop rest = option_map (λ (ends : ℕ × ℕ). requests.Chop ends.0 ends.1 false) (two_addresses rest)
addressed words.ChopSkip rest = option_map (λ (ends : ℕ × ℕ). requests.Chop ends.0 ends.1 true) (two_addresses rest)
addressed words.Why rest = option_map (λ (ends : ℕ × ℕ). requests.Why ends.0 ends.1 false) (two_addresses rest)
addressed words.WhySkip rest = option_map (λ (ends : ℕ × ℕ). requests.Why ends.0 ends.1 true) (two_addresses rest)
addressed other rest = None

-- a word that stands alone
abbrev pub alone : Request → Option (List ℕ) → Result Request LineCause
alone request None = Ok request
alone request (Some rest) = Err causes.Word

-- the lane that follows, from 0 to 3
abbrev pub lane : Option (List ℕ) → Result Request LineCause
lane rest = ok_or (option_map (λ number. requests.Lane number) (one_digit 0 3 rest)) causes.Lane

-- the program that follows, where the script is one of several programs
abbrev pub program : Option ℕ → Option (List ℕ) → Result Request LineCause
program None rest = Err causes.Word
program (Some programs) rest = ok_or (option_map (λ p. requests.Program p) (one_digit 1 programs rest)) causes.Program

-- the request of a word and what follows it, in a script of so many programs or of one program alone
abbrev pub request : Option ℕ → Word → Option (List ℕ) → Result Request LineCause
request programs words.Warnings rest = alone requests.Warnings rest
request programs words.Locations rest = alone requests.Locations rest
request programs words.Step rest = alone requests.Step rest
request programs words.Lane rest = lane rest
request programs words.Program rest = program programs rest
request programs word rest = ok_or (addressed word rest) causes.Address
