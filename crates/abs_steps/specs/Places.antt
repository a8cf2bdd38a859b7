-- What stands at an address, and where a jump or a call may go. The rules are the project's own.
use Rattle.std.specs.Prelude.{ℕ, ◌||◌, nat_lt, Bool, true, false, if◌then◌else◌, List, [], ◌∷◌, length, map, filter, Option, Some, None, is_some, option_and_then, slice_get}
use Rattle.std.specs.List.{list_any}
use Rattle.image_map.specs.declared.image.Image.{Image}
use Rattle.image_map.specs.declared.region.Kind.{Kind}
use Rattle.image_map.specs.declared.region.Settings.{Settings}
use Rattle.image_map.specs.Names.{extern_number}
use Rattle.image_map.specs.Queries.{is_code}
use Rattle.image_map.specs.declared.region.Cell.{Cell}
use Rattle.ia32_types.specs.declared.Width.TheVariants.{D32}
use Rattle.ia32_types.specs.declared.Operand.{Operand}
use Rattle.ia32_types.specs.declared.Operand.TheVariants as operand
use Rattle.ia32_types.specs.declared.Instr.{Instr}
use Rattle.ia32_fetch.specs.Fetched.{instruction_at}
use Rattle.strided.specs.Interval.{Interval}
use Rattle.strided.specs.Operations.{count}
use Rattle.si_bits.specs.Concrete.{word}
use Rattle.vset.specs.Values.{Values, Top, only_number}
use Rattle.abs_semantics.specs.States.{AbsState, value_at}
use Rattle.abs_semantics.specs.Joins.{numbers_of}
use Rattle.abs_semantics.specs.Touching.{members}
use Rattle.abs_semantics.specs.Accesses.{cells_read}
use Rattle.abs_semantics.specs.Operands.{address}
use Rattle.abs_steps.specs.Views.{View, value_of}

-- -- What stands at an address

pub data Content : Type 0 where
  Extern : Kind → Content
  Instruction : Instr → Content
  Nothing : Content

-- the kind of the extern that stands there
unfoldable pub kind_at : Image → Settings → ℕ → Option Kind
kind_at image settings a = option_and_then (slice_get settings.kinds) (extern_number (length image.externs) a)

abbrev pub content_of : Option Kind → Option Instr → Content
content_of (Some k) i = Extern k
content_of None (Some i) = Instruction i
content_of None None = Nothing

unfoldable pub content_at : Image → Settings → ℕ → Content
content_at image settings a = content_of (kind_at image settings a) (instruction_at image a)

-- control may go on there
abbrev pub is_place : Image → ℕ → Bool
is_place image a = is_code image a || is_some (extern_number (length image.externs) a)

-- -- Where a jump or a call may go

-- a target of which nothing is known, in the place of cells that aren't
abbrev pub values_of : AbsState → Option (List Cell) → List Values
values_of a None = Top ∷ []
values_of a (Some cs) = map (value_at a) cs

-- the values of the target: those of each cell that it is read from, or the operand's
unfoldable pub target_values : View → Option Operand → List Values
target_values v (Some (operand.Mem m)) = if m.gs then Top ∷ [] else values_of v.state (cells_read v.state v.cells v.procedure (address v.state m) 4)
target_values v o = value_of v D32 o ∷ []

abbrev pub number_before : Option Interval → Option (List Interval) → Option (List Interval)
number_before None rest = None
number_before (Some x) None = None
number_before (Some x) (Some xs) = Some (x ∷ xs)

-- where each is of numbers alone
unfoldable pub all_numbers : List Values → Option (List Interval)
all_numbers [] = Some []
all_numbers (v ∷ vs) = number_before (only_number v) (all_numbers vs)

abbrev pub words_in : Interval → List ℕ
words_in x = map word (members x)

-- the different words of all, rising
unfoldable pub all_words : List Interval → List ℕ
all_words [] = []
all_words (x ∷ xs) = numbers_of (words_in x) (all_words xs)

abbrev pub if_few : List ℕ → Option (List ℕ)
if_few words = if nat_lt 1024 (length words) then None else Some words

-- at most 1,024 of them
abbrev pub few_words : Option (List Interval) → Option (List ℕ)
few_words None = None
few_words (Some xs) = if list_any (λ (x : Interval). nat_lt 1024 (count x)) xs then None else if_few (all_words xs)

-- the target is no number of the instruction's own
abbrev pub is_indirect : Option Operand → Bool
is_indirect (Some (operand.Imm n)) = false
is_indirect _ = true

-- the addresses to which a jump or a call may go, rising; None where they aren't known
unfoldable pub known_targets : View → Option Operand → Option (List ℕ)
known_targets v (Some (operand.Imm n)) = Some (n ∷ [])
known_targets v o = few_words (all_numbers (target_values v o))

abbrev pub or_none : Option (List ℕ) → List ℕ
or_none None = []
or_none (Some words) = words

unfoldable pub targets : View → Option Operand → List ℕ
targets v o = or_none (known_targets v o)

-- those that are followed: where the target is indirect, the places
unfoldable pub followed : Image → View → Option Operand → List ℕ
followed image v o = if is_indirect o then filter (is_place image) (targets v o) else targets v o
