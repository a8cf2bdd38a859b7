-- What the code's machine stands for: a state of the definitions. The project's own.
use Rattle.std.specs.Prelude.{◌≡◌, ℕ, ◌<◌, ◌==◌, ◌||◌, Bool, false, if◌then◌else◌, List, [], ◌∷◌, ◌++◌, reverse, slice_index, Some, is_some}
use Rattle.image_map.specs.declared.image.Image.{Image}
use Rattle.image_map.specs.declared.region.Block.{Block}
use Rattle.image_map.specs.declared.region.Settings.{Settings}
use Rattle.image_map.specs.Queries.{byte_at, is_in_segment}
use Rattle.ia32_semantics.specs.State.{State, Bytes, word_at}
use Rattle.ia32_semantics.specs.Operands.{is_set, number_bytes}
use Rattle.ia32_semantics.specs.Outcome.{is_in_stack}
use Rattle.ia32_semantics.specs.Step.{HALT}
use Rattle.ia32_semantics.specs.CallModel.{IsLaidOut, IsEntrySlot, entry_activation}
use Rattle.ia32_memory.specs.Mapped.{Mapped, bytes_of, is_in_first}
use Rattle.ia32_memory.specs.Changes.{with_bytes, with_zeros}
use Rattle.ia32_memory.specs.Start.{start_bytes}
use Rattle.ia32_plan.specs.declared.state.Core.{Core}
use Rattle.ia32_plan.specs.Views as views
use Rattle.ia32_machine.specs.Opens.{KnowsOpen}
use Rattle.ia32_machine.specs.declared.machine.Machine.{Machine}

-- the activations stand in the code with the newest last
abbrev pub state_of : Machine → State
state_of m =
    record (views.state_of m.core) {
      activations = reverse m.frames.items;
      blocks = m.blocks.items;
      allocs = m.allocs.items;
      slot = m.slot;
    }

-- A machine that runs this image: segments, stack and blocks lie as they should, and its memory knows what may be written and
-- where the stack is.
pub record RunsImage (image : Image) (m : Machine) : Type 0 where
  pub laid_out : IsLaidOut image (state_of m)
  pub knows : KnowsOpen image m.core.memory
  pub stack : (a : ℕ) → is_in_first m.core.memory a ≡ is_in_stack m.slot a

-- -- The start

-- the address of the entry's return slot
abbrev pub entry_slot : ℕ
entry_slot = 0xBFF0000C

-- EAX, ECX, EDX, EBX, EBP, ESI and EDI are the first of twelve words, and ESP is the address of the return slot
abbrev pub start_registers : List ℕ → List ℕ
start_registers words =
    slice_index words 0 ∷ slice_index words 1 ∷ slice_index words 2 ∷ slice_index words 3 ∷ entry_slot
    ∷ slice_index words 4 ∷ slice_index words 5 ∷ slice_index words 6 ∷ []

-- CF, PF, ZF, SF and OF are set by the others, and DF is clear
abbrev pub start_flag : List ℕ → ℕ → Bool
start_flag words n =
    (if n == 0 then is_set (slice_index words 7) else
    (if n == 1 then is_set (slice_index words 8) else
    (if n == 2 then is_set (slice_index words 9) else
    (if n == 3 then is_set (slice_index words 10) else
    (if n == 4 then is_set (slice_index words 11) else false)))))

-- the bytes of image and stack, with 0 where a byte may be any, and the place to which the entry returns in its slot
abbrev pub start_memory : Image → Bytes
start_memory image = with_bytes (start_bytes image entry_slot) entry_slot (number_bytes 4 HALT)

-- the state in which a run with these twelve words starts
abbrev pub start_state : Image → Settings → List ℕ → State
start_state image settings words =
    record {
      registers = slice_index (start_registers words);
      flags = start_flag words;
      eip = settings.entry;
      memory = start_memory image;
      activations = entry_activation settings entry_slot ∷ [];
      blocks = [];
      allocs = [];
      slot = entry_slot;
    }

-- a core has the registers and flags of twelve words
pub record HasWords (words : List ℕ) (core : Core) : Type 0 where
  pub registers : core.regs ≡ start_registers words
  pub cf : core.flags.cf ≡ is_set (slice_index words 7)
  pub pf : core.flags.pf ≡ is_set (slice_index words 8)
  pub zf : core.flags.zf ≡ is_set (slice_index words 9)
  pub sf : core.flags.sf ≡ is_set (slice_index words 10)
  pub of : core.flags.of ≡ is_set (slice_index words 11)

-- the memory in which a run of an image starts, with the return word
pub record IsStartMemory (image : Image) (memory : Mapped) : Type 0 where
  pub is : bytes_of memory ≡ start_memory image
  pub bytes : (a byte : ℕ) → bytes_of memory a ≡ Some byte → byte < 256
  pub halt : word_at (bytes_of memory) 0xBFF0000C ≡ Some 0xFFFF0000
  pub mapped : (a : ℕ) → is_some (bytes_of memory a) ≡ (is_in_segment image a || is_in_stack 0xBFF0000C a)
  pub known : (a byte : ℕ) → byte_at image a ≡ Some byte → bytes_of memory a ≡ Some byte
  pub knows : KnowsOpen image memory
  pub stack : (a : ℕ) → is_in_first memory a ≡ is_in_stack 0xBFF0000C a

-- the state with a block of zeros more
abbrev pub with_new_block : Block → State → State
with_new_block block s = record s { memory = with_zeros s.memory block.base block.size; blocks = s.blocks ++ block ∷ [] }

-- a machine whose entry's return slot lies as it should, and that was given no block
pub record HasNoBlocks (m : Machine) : Type 0 where
  pub slot : IsEntrySlot m.slot
  pub blocks : m.blocks.items ≡ []
