-- The values of options, as text. The project's own.
use Rattle.std.specs.Prelude.{ℕ, ◌-◌, ◌==◌, ◌&&◌, nat_lt, nat_le, nat_eq, Bool, List, [], ◌∷◌, length, drop, codes, Option, Some, None, if◌then◌else◌}
use Rattle.std.specs.List.{list_all, starts_with, position_or_len, before_first, after_first, slice_split}
use Rattle.std.specs.Char.{digit_value}
use Rattle.std.specs.Borrow.{Bor}
use Rattle.std.specs.Str.{bytes_eq}
use Rattle.std.specs.Str.Parse.{digits_value}
use Rattle.clap.specs.Walk.{Text}
use Rattle.image_map.specs.declared.region.Kind.{Kind}
use Rattle.image_map.specs.declared.region.Kind.TheVariants as kinds
use Rattle.command_words.specs.declared.line.Entry.{Entry}
use Rattle.command_words.specs.declared.line.Entry.TheVariants as entries
use Rattle.command_words.specs.declared.line.ExternKind.{ExternKind}
use Rattle.command_words.specs.Reading.{◌>>=◌}

-- what 1 to `most` digits of a base write, of either case
abbrev pub numeral : ℕ → ℕ → Text → Option ℕ
numeral base most text =
    if nat_lt 0 (length text) && (nat_le (length text) most && list_all (λ digit. nat_lt (digit_value digit) base) text)
    then Some (digits_value base text) else None

-- a number of 1 to 10 decimal digits that lies between two numbers
abbrev pub number : ℕ → ℕ → Text → Option ℕ
number least greatest text = do
  value ← numeral 10 10 text
  if nat_le least value && nat_le value greatest then Some value else None

-- what follows some text at the front
abbrev pub after : Text → Text → Option Text
after front text = if starts_with nat_eq text front then Some (drop (length front) text) else None

-- an address: 0x and 1 to 8 hexadecimal digits
abbrev pub address : Text → Option ℕ
address text = do
  digits ← after (codes "0x") text
  numeral 16 8 digits

-- an address where it begins as one, else a symbol's name
abbrev pub entry : Text → Option Entry
entry text = if starts_with nat_eq text (codes "0x")
    then (do
      at ← address text
      Some (entries.Address at))
    else Some (entries.Symbol text)

-- a digit from 1 to 8 (49 is '1', and 56 is '8')
abbrev pub place : ℕ → Option ℕ
place digit = if nat_le 49 digit && nat_le digit 56 then Some (digit - 48) else None

-- the places of the buffer and of its length among the arguments
abbrev pub places : Text → Option Kind
places (buffer ∷ len ∷ []) = do
  i ← place buffer
  l ← place len
  Some (kinds.Fills i l)
places other = None

-- a number of argument words
abbrev pub words : (ℕ → Kind) → Text → Option Kind
words kind text = do
  n ← number 0 8 text
  Some (kind n)

-- pureN, readerN or fillsIL, by what follows each of the three words
abbrev pub numbered_kind : Option Text → Option Text → Option Text → Option Kind
numbered_kind (Some n) reader fills = words kinds.Pure n
numbered_kind None (Some n) fills = words kinds.Reader n
numbered_kind None None (Some at) = places at
numbered_kind None None None = None

-- pureN, readerN, fillsIL, alloc or stop
unfoldable pub kind : Text → Option Kind
kind text =
    if bytes_eq text (codes "alloc") then Some kinds.Alloc
    else (if bytes_eq text (codes "stop") then Some kinds.Stop
    else numbered_kind (after (codes "pure") text) (after (codes "reader") text) (after (codes "fills") text))

abbrev pub is_comma : ℕ → Bool
is_comma byte = byte == 44

abbrev pub is_colon : ℕ → Bool
is_colon byte = byte == 58

-- NAME:KIND: the first colon ends the name, which has one character or more
unfoldable pub extern_kind : Text → Option ExternKind
extern_kind text =
    if nat_lt (position_or_len is_colon text) (length text) && nat_lt 0 (length (before_first is_colon text))
    then (do
      k ← kind (after_first is_colon text)
      Some (record { name = before_first is_colon text; kind = k }))
    else None

-- the parts between commas, and no part in empty text
abbrev pub parts : Text → List Text
parts [] = []
parts (byte ∷ text) = slice_split is_comma (byte ∷ text)

-- the parts of the text that is left
abbrev pub parts_left : Option (Bor Text) → List Text
parts_left None = []
parts_left (Some text) = slice_split is_comma text.now

-- each of the parts read
abbrev pub extern_kinds : List Text → Option (List ExternKind)
extern_kinds [] = Some []
extern_kinds (part ∷ others) = do
  first ← extern_kind part
  rest ← extern_kinds others
  Some (first ∷ rest)

-- parts joined by commas
abbrev pub externs : Text → Option (List ExternKind)
externs text = extern_kinds (parts text)
