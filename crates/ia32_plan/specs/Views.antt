-- What the code's values stand for: the state of registers, flags and memory, the words of choice that are left, and the bytes
-- that were read. The project's own.
use Rattle.std.specs.Prelude.{◌≡◌, ℕ, zero, suc, ◌+◌, ◌==◌, ◌||◌, Bool, false, if◌then◌else◌, List, [], ◌∷◌, drop, slice_index, Option, Some, None}
use Rattle.ia32_memory.specs.Mapped.{bytes_of}
use Rattle.ia32_semantics.specs.State.{State}
use Rattle.ia32_semantics.specs.Reading.{Reading}
use Rattle.ia32_semantics.specs.Effects.{is_among}
use Rattle.ia32_types.specs.Numbers.{size}
use Rattle.ia32_plan.specs.declared.state.Core.{Core}
use Rattle.ia32_plan.specs.declared.words.Read.{Read}
use Rattle.ia32_plan.specs.declared.words.Reads.{Reads}
use Rattle.ia32_plan.specs.declared.words.Reads.TheVariants as reads
use Rattle.ia32_plan.specs.declared.words.Words.{Words}
use Rattle.ia32_plan.specs.Told.{told}

-- a flag by its number, and none set past the last
abbrev pub flag_at : Core → ℕ → Bool
flag_at core n =
    (if n == 0 then core.flags.cf else
    (if n == 1 then core.flags.pf else
    (if n == 2 then core.flags.zf else
    (if n == 3 then core.flags.sf else
    (if n == 4 then core.flags.of else
    (if n == 5 then core.df else false))))))

-- the state of a core, with nothing called or allocated
abbrev pub state_of : Core → State
state_of core =
    record {
      registers = slice_index core.regs;
      flags = flag_at core;
      eip = core.eip;
      memory = bytes_of core.memory;
      activations = [];
      blocks = [];
      allocs = [];
      slot = 0;
    }

-- the words of choice that no part of the instruction has taken
abbrev pub words_left : Words → List ℕ
words_left words = drop words.used words.words

-- n addresses from one on, the highest first, in front of others
abbrev pub addresses_on : ℕ → ℕ → List ℕ → List ℕ
addresses_on zero a others = others
addresses_on (suc n) a others = addresses_on n (a + 1) (a ∷ others)

abbrev pub read_before : Read → List ℕ → List ℕ
read_before read others = addresses_on (size read.width) read.at others

-- the addresses of the bytes that were read, the newest first
abbrev pub addresses_read : Reads → List ℕ
addresses_read reads.Nothing = []
addresses_read (reads.One first) = read_before first []
addresses_read (reads.Two first second) = read_before second (read_before first [])

-- the byte at an address was read
abbrev pub covers : Read → ℕ → Bool
covers read a = is_among read.at (size read.width) a

abbrev pub has_read : Reads → ℕ → Bool
has_read reads.Nothing a = false
has_read (reads.One first) a = covers first a
has_read (reads.Two first second) a = covers first a || covers second a

-- how many numbers were read
abbrev pub read_count : Reads → ℕ
read_count reads.Nothing = 0
read_count (reads.One first) = 1
read_count (reads.Two first second) = 2

-- what a function answers, beside the words left and the bytes read after it
abbrev pub answered : {A B : Type 0} → (B → A) → Option B → Words → Option (A × List ℕ × List ℕ)
answered meaning None after = None
answered meaning (Some result) after = Some (meaning result, words_left after, addresses_read after.reads)

-- A function that took words and read bytes answers what a reading gives in the core's state.
abbrev pub Tells : {A B : Type 0} → Reading A → Core → Words → (B → A) → Option B → Words → Type 0
Tells reading core before meaning result after =
    told reading (state_of core) (words_left before) (addresses_read before.reads) ≡ answered meaning result after
