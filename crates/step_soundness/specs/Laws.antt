-- That what an abstract step gives of values holds what the machine gives, and that an abstract state after a change of registers and
-- flags stands for the machine's state after the same change. The laws are the project's own.
use Rattle.std.specs.Prelude.{◌≡◌, ℕ, ◌+◌, ◌-◌, ◌/◌, ◌%◌, ◌^◌, ◌<◌, ◌≤◌, Bool, true, false, if◌then◌else◌, List, Some}
use Rattle.image_map.specs.declared.image.Image.{Image}
use Rattle.ia32_types.specs.declared.Instr.{Instr}
use Rattle.ia32_types.specs.declared.Mem.{Mem}
use Rattle.ia32_types.specs.declared.Operand.{Operand}
use Rattle.ia32_types.specs.declared.Width.{Width}
use Rattle.ia32_types.specs.Operands.{IsWide, IsNarrow, IsTarget}
use Rattle.ia32_semantics.specs.declared.flags.Flags.{Flags}
use Rattle.ia32_semantics.specs.Alu.{sign}
use Rattle.ia32_semantics.specs.Condition.{holds}
use Rattle.ia32_semantics.specs.Effects.{Part, Effect, sets, turns as turns_flag, stores, changed, all_changed, effect_fits, effects_fit, with_part}
use Rattle.ia32_types.specs.Numbers.{size}
use Rattle.ia32_semantics.specs.Operands.{bits, low_part, number_bytes, value, store as machine_store}
use Rattle.ia32_semantics.specs.Reading.{outcome}
use Rattle.ia32_semantics.specs.Product.{extended}
use Rattle.ia32_semantics.specs.Machine.{Occurrence}
use Rattle.ia32_semantics.specs.State.{State}
use Rattle.ia32_semantics.specs.Step.{Act}
use Rattle.ia32_semantics.specs.Strings.{stepped as steps}
use Rattle.si_bits.specs.Concrete as concrete
use Rattle.strided.specs.Interval.{Interval, IsMember, IsCanonical}
use Rattle.alocs.specs.Cells.{Division}
use Rattle.vset.specs.declared.facts.AbsFlags.{AbsFlags}
use Rattle.vset.specs.declared.facts.CmpFact.{CmpFact}
use Rattle.vset.specs.Members.{HasValue}
use Rattle.vset.specs.Values.{Values, CanonicalValues}
use Rattle.vset.specs.World.{World}
use Rattle.abs_alu.specs.Operands.{known}
use Rattle.abs_semantics.specs.States.{AbsState, HasCanonical}
use Rattle.abs_semantics.specs.Ownership.{IsKnown}
use Rattle.abs_semantics.specs.Operands.{address, operand_value, low_of, second_byte, with_part_value}
use Rattle.abs_semantics.specs.StandsFor.{StandsFor, world_of, HoldsFact}
use Rattle.abs_steps.specs.Effects.{puts, turns, frees, steers, saves, learns, done, all_done}
use Rattle.abs_steps.specs.Flags.{MayBe, allows, may_hold}
use Rattle.abs_steps.specs.Results.{chosen_by, sign_of, truth_of, widened}
use Rattle.abs_steps.specs.Rows.{pushed_at, risen, view_of}
use Rattle.abs_steps.specs.Views.{store}
use Rattle.abs_steps.specs.Strings.{grown, stepped}
use Rattle.step_soundness.specs.Steps.{is_plain, IsExecuted, Advances, KeepsToAccesses}
use Rattle.step_soundness.specs.Terms.{IsPart, IsOperand, AreAllowed, RegistersHold, address_in}

-- -- Values

-- the low part of a word, and its second byte
abbrev pub LowPartsAreHeld : Type 0
LowPartsAreHeld =
    (lane : ℕ) (w : World) (v : Values) (n : ℕ) (width : Width) → CanonicalValues v → n < 4294967296 → HasValue lane w n v → HasValue lane w (low_part width n) (low_of width v)

abbrev pub SecondBytesAreHeld : Type 0
SecondBytesAreHeld =
    (lane : ℕ) (w : World) (v : Values) (n : ℕ) → CanonicalValues v → n < 4294967296 → HasValue lane w n v → HasValue lane w (n / 256 % 256) (second_byte (known 32 v))

-- a register of which a part takes a number
abbrev pub WrittenPartsAreHeld : Type 0
WrittenPartsAreHeld =
    (lane : ℕ) (w : World) (old new : Values) (n m : ℕ) (part : Part) → CanonicalValues old → n < 4294967296 → m < 4294967296 → HasValue lane w n old → HasValue lane w m new → IsPart part m
    → HasValue lane w (with_part part n m) (with_part_value part old new)

-- a byte or a word with zeros or with its sign above it
abbrev pub ExtensionsAreHeld : Type 0
ExtensionsAreHeld =
    (lane : ℕ) (w : World) (v : Values) (n : ℕ) (signed : Bool) (from to : Width) → CanonicalValues v → HasValue lane w n v → IsNarrow from → IsWide to → n < 2 ^ bits from
    → HasValue lane w (extended signed (bits from) (bits to) n) (widened signed from to v)

abbrev pub SignsAreHeld : Type 0
SignsAreHeld =
    (lane : ℕ) (w : World) (v : Values) (n : ℕ) → n < 4294967296 → HasValue lane w n v → HasValue lane w (if sign 32 n then 4294967295 else 0) (sign_of v)

-- -- Conditions

-- a condition may come out as it does on flags that may be so
abbrev pub ConditionsMayHold : Type 0
ConditionsMayHold = (may : MayBe) (f : Flags) (c : ℕ) → AreAllowed may f → may_hold c may (holds c f) ≡ true

abbrev pub TruthsAreHeld : Type 0
TruthsAreHeld =
    (lane : ℕ) (w : World) (may : MayBe) (f : Flags) (c : ℕ) → AreAllowed may f → HasValue lane w (if holds c f then 1 else 0) (truth_of c may)

abbrev pub ChoicesAreHeld : Type 0
ChoicesAreHeld =
    (lane : ℕ) (w : World) (may : MayBe) (f : Flags) (c : ℕ) (new old : Values) (m n : ℕ) → AreAllowed may f → CanonicalValues new → CanonicalValues old → HasValue lane w m new → HasValue lane w n old
    → HasValue lane w (if holds c f then m else n) (chosen_by c may new old)

-- -- Pointers and addresses

-- the stack pointer after a push and after a pop
abbrev pub PushedPointersAreHeld : Type 0
PushedPointersAreHeld =
    (lane : ℕ) (w : World) (v : Values) (n : ℕ) → CanonicalValues v → HasValue lane w n v → HasValue lane w ((n + 4294967296 - 4) % 4294967296) (pushed_at v)

abbrev pub RisenPointersAreHeld : Type 0
RisenPointersAreHeld = (lane : ℕ) (w : World) (v : Values) (n : ℕ) → CanonicalValues v → HasValue lane w n v → HasValue lane w ((n + 4) % 4294967296) (risen v)

-- a pointer after an element of a string, and after so many upwards
abbrev pub SteppedPointersAreHeld : Type 0
SteppedPointersAreHeld =
    (lane : ℕ) (w : World) (v : Values) (n : ℕ) (may : MayBe) (down : Bool) (z : ℕ) → CanonicalValues v → HasValue lane w n v → may 5 down ≡ true → z ≤ 4
    → HasValue lane w (steps down z 1 n) (stepped may z v)

abbrev pub GrownPointersAreHeld : Type 0
GrownPointersAreHeld =
    (lane : ℕ) (w : World) (c : Interval) (count : ℕ) (v : Values) (n z : ℕ) → IsCanonical c → count < 4294967296 → IsMember (concrete.number count) c → z < 2147483648
    → CanonicalValues v → HasValue lane w n v → HasValue lane w (steps false z count n) (grown z c v)

-- the address of a memory operand
abbrev pub AddressesAreHeld : Type 0
AddressesAreHeld =
    (lane : ℕ) (w : World) (a : AbsState) (s : State) (m : Mem) → RegistersHold lane w a s → m.scale < 2147483648 → m.disp < 4294967296 → HasValue lane w (address_in s m) (address a m)

-- -- Operands

-- what the machine reads of an operand
abbrev pub OperandsAreHeld : Type 0
OperandsAreHeld =
    (image : Image) (lane : ℕ) (a : AbsState) (p : ℕ) (s : State) (d : Division) (width : Width) (o : Operand) (words rest : List ℕ) (n : ℕ) → IsKnown image lane a p s → HasCanonical a → IsOperand o
    → outcome (value width o) s words ≡ Some (n, rest) → HasValue lane (world_of s) n (operand_value a d p width o)

-- -- States

-- a part of a register takes a number
abbrev pub WrittenRegistersStand : Type 0
WrittenRegistersStand =
    (lane : ℕ) (d : Division) (image : Image) (p : ℕ) (a : AbsState) (s : State) (part : Part) (n m : ℕ) (v : Values) → StandsFor lane a s
    → CanonicalValues (a.registers n) → n < 8 → s.registers n < 4294967296 → IsPart part m → m < 4294967296 → HasValue lane (world_of s) m v
    → StandsFor lane (done d image p (puts part n v) a) (changed (sets part n m) s)

-- the five flags are written: with what some sets allow, or with anything
abbrev pub WrittenFlagsStand : Type 0
WrittenFlagsStand =
    (lane : ℕ) (d : Division) (image : Image) (p : ℕ) (a : AbsState) (s : State) (flags : ℕ → Bool) (f : AbsFlags) → StandsFor lane a s → flags 5 ≡ s.flags 5
    → ((n : ℕ) → n < 5 → allows f n (flags n) ≡ true) → StandsFor lane (done d image p (turns f) a) (record s { flags = flags })

abbrev pub FreedFlagsStand : Type 0
FreedFlagsStand =
    (lane : ℕ) (d : Division) (image : Image) (p : ℕ) (a : AbsState) (s : State) (flags : ℕ → Bool) → StandsFor lane a s → flags 5 ≡ s.flags 5
    → StandsFor lane (done d image p frees a) (record s { flags = flags })

-- DF is written
abbrev pub WrittenDirectionsStand : Type 0
WrittenDirectionsStand =
    (lane : ℕ) (d : Division) (image : Image) (p : ℕ) (a : AbsState) (s : State) (set : Bool) → StandsFor lane a s
    → StandsFor lane (done d image p (steers set) a) (changed (turns_flag 5 set) s)

-- a comparison that was made is remembered
abbrev pub LearnedFactsStand : Type 0
LearnedFactsStand =
    (lane : ℕ) (d : Division) (image : Image) (p : ℕ) (a : AbsState) (s : State) (f : CmpFact) → StandsFor lane a s → HoldsFact lane s (Some f)
    → StandsFor lane (done d image p (learns f) a) s

-- a number is stored at an address that a value has
abbrev pub SavedValuesStand : Type 0
SavedValuesStand =
    (image : Image) (lane : ℕ) (a : AbsState) (p : ℕ) (s : State) (d : Division) (width : Width) (at n : ℕ) (v w : Values) → IsKnown image lane a p s → HasCanonical a
    → CanonicalValues v → CanonicalValues w → at < 4294967296 → n < 2 ^ bits width → HasValue lane (world_of s) at v → HasValue lane (world_of s) n w
    → effect_fits image s.memory (stores at (number_bytes (size width) n)) ≡ true
    → StandsFor lane (done d image p (saves v (size width) w) a) (changed (stores at (number_bytes (size width) n)) s)

-- a number is stored into an operand, as the machine stores it
abbrev pub StoredOperandsStand : Type 0
StoredOperandsStand =
    (image : Image) (lane : ℕ) (a : AbsState) (p : ℕ) (s : State) (d : Division) (width : Width) (o : Operand) (n : ℕ) (w : Values) (words rest : List ℕ) (effects : List Effect)
    → IsKnown image lane a p s → HasCanonical a → IsTarget width o → IsOperand o → n < 2 ^ bits width → CanonicalValues w → HasValue lane (world_of s) n w
    → outcome (machine_store width o n) s words ≡ Some (effects, rest) → effects_fit image s.memory effects ≡ true
    → StandsFor lane (all_done d image p (store (view_of a d p) width o w) a) (all_changed effects s)

-- -- Instructions

-- moves, arithmetic and the stack: what they leave, and which bytes they read and write
abbrev pub PlainStepsAdvance : Type 0
PlainStepsAdvance =
    (image : Image) (lane : ℕ) (a : AbsState) (p : ℕ) (d : Division) (i : Instr) (o : Occurrence Act) → IsExecuted image lane a p d i o → is_plain i.op ≡ true → Advances image lane a p d i o

abbrev pub PlainStepsKeepToAccesses : Type 0
PlainStepsKeepToAccesses =
    (image : Image) (lane : ℕ) (a : AbsState) (p : ℕ) (d : Division) (i : Instr) (o : Occurrence Act) → IsExecuted image lane a p d i o → is_plain i.op ≡ true → KeepsToAccesses lane a i o
