-- How a run takes what may be any from one list of words, the first first. The project's own.
use Rattle.std.specs.Prelude.{◌≡◌, ℕ, ◌+◌, ◌*◌, ◌/◌, ◌%◌, ◌&&◌, nat_le, max, true, if◌then◌else◌, List, [], ◌∷◌, ◌++◌, length, replicate, Some}
use Rattle.image_map.specs.declared.image.Image.{Image}
use Rattle.image_map.specs.declared.region.Block.{Block}
use Rattle.image_map.specs.declared.region.Kind.TheVariants as kind
use Rattle.image_map.specs.declared.region.Settings.{Settings}
use Rattle.ia32_semantics.specs.State.{State, word_at, esp}
use Rattle.ia32_semantics.specs.Machine.{Occurrence}
use Rattle.ia32_semantics.specs.Operands.{is_set}
use Rattle.ia32_semantics.specs.Outcome.{heap_low, stack_low, is_any}
use Rattle.ia32_semantics.specs.Step.{Act, Executes, Answers, Happens}

-- -- What an extern makes of its words

-- the first address behind all blocks, and the next multiple of 16 from there on
unfoldable pub heap_end : List Block → ℕ
heap_end [] = heap_low
heap_end (block ∷ others) = max (block.base + block.size) (heap_end others)

abbrev pub next_base : List Block → ℕ
next_base blocks = (heap_end blocks + 15) / 16 * 16

-- where a block of a size goes that a word of choice wants, and 0 where it wants none or no room is left
abbrev pub base_given : List Block → ℕ → ℕ → ℕ
base_given blocks word size = if is_set word && nat_le (next_base blocks + size) stack_low then next_base blocks else 0

-- the byte that fills: bits 16 to 23 of a word
abbrev pub fill_byte : ℕ → ℕ
fill_byte word = word / 65536 % 256

-- the n-th argument of an extern that a state stands at, counted from 1
abbrev pub IsArgument : State → ℕ → ℕ → Type 0
IsArgument s n value = word_at s.memory (s.registers esp + 4 * n) ≡ Some value

-- -- The words of a step

-- The words of choice of a step, of which the first come from a list and the others of the list are left. An instruction and most
-- externs take them as they are. An extern that allocates takes eight, and the block's base stands for the first. One that
-- fills takes eight; it fills its whole range, and each byte is that of the first word.
abbrev pub Spreads : Act → State → List ℕ → List ℕ → List ℕ → Type 0
Spreads (Executes i) s words left choices = words ≡ choices ++ left
Spreads (Answers at kind.Alloc) s words left choices =
    (first : ℕ) × (others : List ℕ) × (size : ℕ) × IsArgument s 1 size × (length others ≡ 7)
    × (words ≡ (first ∷ others) ++ left) × (choices ≡ base_given s.blocks first size ∷ others)
Spreads (Answers at (kind.Fills buffer len)) s words left choices =
    (first : ℕ) × (others : List ℕ) × (count : ℕ) × IsArgument s len count × (length others ≡ 7)
    × (words ≡ (first ∷ others) ++ left) × (choices ≡ (first ∷ others) ++ count ∷ replicate count (fill_byte first))
Spreads (Answers at other) s words left choices = words ≡ choices ++ left

-- a step that a run makes with the first of some words, where what may be any of memory is 0
pub record Makes (image : Image) (settings : Settings) (words left : List ℕ) (o : Occurrence Act) : Type 0 where
  pub happens : Happens image settings o
  pub spread : Spreads o.act o.before words left o.choices
  pub zeros : (a : ℕ) → is_any happens.step.done o.before a ≡ true → o.after.memory a ≡ Some 0
