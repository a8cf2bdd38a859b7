-- That each step from a state that a map knows is one of the map's. The laws are the project's own.
use Rattle.std.specs.Prelude.{◌≡◌, ℕ, ◌+◌, ◌^◌, ◌<◌, ◌≤◌, Bool, true, false, ℤ, pos, ◌+ℤ◌, ◌-ℤ◌, List, length, None}
use Rattle.image_map.specs.declared.image.Image.{Image}
use Rattle.image_map.specs.declared.region.Kind.{Kind}
use Rattle.image_map.specs.declared.region.Settings.{Settings}
use Rattle.image_map.specs.CallModel.{AreSettings, IsKind}
use Rattle.image_map.specs.Whole.{IsImage}
use Rattle.image_map.specs.declared.region.Activation.{Activation}
use Rattle.image_map.specs.declared.region.RegionId.TheVariants.{Heap, OldHeap}
use Rattle.ia32_semantics.specs.declared.state.Allocation.{Allocation}
use Rattle.ia32_types.specs.declared.Instr.{Instr}
use Rattle.ia32_types.specs.declared.Op.{Op}
use Rattle.ia32_types.specs.declared.Op.TheVariants as op
use Rattle.ia32_semantics.specs.CallModel.{IsLaidOut, IsWhole}
use Rattle.ia32_semantics.specs.Fetch.{IsFetched}
use Rattle.ia32_semantics.specs.Ia32.{machine}
use Rattle.ia32_semantics.specs.Machine.{Occurrence}
use Rattle.ia32_semantics.specs.State.{State}
use Rattle.ia32_semantics.specs.Step.{Act, Executes, Answers, IsExternAt}
use Rattle.alocs.specs.Cells.{Division}
use Rattle.abs_semantics.specs.States.{AbsState, HasCanonical, known_of}
use Rattle.abs_semantics.specs.StandsFor.{StandsFor, world_of}
use Rattle.strided.specs.Interval.{Interval, IsMember}
use Rattle.vset.specs.Members.{HasValue}
use Rattle.vset.specs.Values.{Values}
use Rattle.vset.specs.World.{key_of}
use Rattle.abs_steps.specs.Calls.{called, returned, allocated}
use Rattle.abs_steps.specs.Places.{Instruction, Extern, content_at}
use Rattle.abs_steps.specs.Successors.{States}
use Rattle.slice_soundness.specs.Premises.{GoesOn, Stays, Calls, Returns, Row, AbstractSteps, SlotsAreKept}
use Rattle.slice_soundness.specs.Located.{MovesBytes}
use Rattle.step_soundness.specs.Steps.{is_plain, IsExecuted, KeepsToAccesses}
use Rattle.call_soundness.specs.Calls.{IsCalled, IsReturned, IsAllocated}
use Rattle.call_soundness.specs.Externs.{returns_from, IsAnswered, KeepsAnswer}
use Rattle.call_soundness.specs.Maps.{Drawn, map_of}

-- an instruction that is fetched at an address is what stands there
abbrev pub FetchedInstructionsStand : Type 0
FetchedInstructionsStand =
    (image : Image) (settings : Settings) (a : ℕ) (i : Instr) → IsImage image → IsFetched image a i → content_at image settings a ≡ Instruction i

-- and so is an extern
abbrev pub ExternsStand : Type 0
ExternsStand = (image : Image) (settings : Settings) (a : ℕ) (k : Kind) → IsExternAt image settings a k → content_at image settings a ≡ Extern k

-- an instruction after which control stays in its context: a plain one, a jump or a branch
abbrev pub is_staying : Op → Bool
is_staying op.Jmp = true
is_staying (op.Jcc c) = true
is_staying o = is_plain o

-- From a state that the map knows such an instruction goes to a successor of its node, whose abstract state stands for the state after it;
-- and that state is whole.
abbrev pub StayingStepsAreRows : Type 0
StayingStepsAreRows =
    (image : Image) (settings : Settings) (states : States) (drawn : Drawn) (o : Occurrence Act) (i : Instr) → IsImage image
    → GoesOn (machine image settings) (map_of image settings states drawn) o → o.act ≡ Executes i → is_staying i.op ≡ true
    → Stays (machine image settings) (map_of image settings states drawn) o × IsWhole image o.after

-- From a state that the map knows a call goes to one of the targets of its node, and to a successor, whose abstract state stands for the
-- state in which the callee begins; and that state is whole.
abbrev pub CallsAreRows : Type 0
CallsAreRows =
    (image : Image) (settings : Settings) (states : States) (drawn : Drawn) (o : Occurrence Act) (i : Instr) → IsImage image
    → GoesOn (machine image settings) (map_of image settings states drawn) o → o.act ≡ Executes i → i.op ≡ op.Call
    → Calls (machine image settings) (map_of image settings states drawn) o × IsWhole image o.after

-- From a state that the map knows a return goes to the place after the call of the newest activation: behind each call of the map to
-- which it may go back there is a successor, whose one abstract state stands for the state after it; and that state is whole.
abbrev pub ReturnsAreRows : Type 0
ReturnsAreRows =
    (image : Image) (settings : Settings) (states : States) (drawn : Drawn) (o : Occurrence Act) (i : Instr) → IsImage image
    → GoesOn (machine image settings) (map_of image settings states drawn) o → o.act ≡ Executes i → i.op ≡ op.Ret
    → Returns (machine image settings) (map_of image settings states drawn) o × IsWhole image o.after

-- So does the answer of an extern.
abbrev pub AnswersAreRows : Type 0
AnswersAreRows =
    (image : Image) (settings : Settings) (states : States) (drawn : Drawn) (o : Occurrence Act) (at : ℕ) (k : Kind) → IsImage image → AreSettings (length image.externs) settings
    → GoesOn (machine image settings) (map_of image settings states drawn) o → o.act ≡ Answers at k → returns_from k ≡ true
    → Returns (machine image settings) (map_of image settings states drawn) o × IsWhole image o.after

-- From a state that the map knows each step that isn't the last of a run is a row, and leaves a whole state.
abbrev pub StepsAreRows : Type 0
StepsAreRows =
    (image : Image) (settings : Settings) (states : States) (drawn : Drawn) (o : Occurrence Act) → IsImage image → AreSettings (length image.externs) settings
    → GoesOn (machine image settings) (map_of image settings states drawn) o
    → Row (machine image settings) (map_of image settings states drawn) o × IsWhole image o.after

-- So all that the argument on slices asks of single steps is met.
abbrev pub AbstractStepsAreMet : Type 0
AbstractStepsAreMet =
    (image : Image) (settings : Settings) (states : States) (drawn : Drawn) → IsImage image → AreSettings (length image.externs) settings
    → AbstractSteps (machine image settings) (map_of image settings states drawn)

-- From a state that the map knows a step leaves the stack where it is and what was allocated, and a call or a return writes or forgets what it
-- takes of the stack.
abbrev pub StepsMoveBytes : Type 0
StepsMoveBytes =
    (image : Image) (settings : Settings) (states : States) (drawn : Drawn) (o : Occurrence Act) → IsImage image → AreSettings (length image.externs) settings
    → GoesOn (machine image settings) (map_of image settings states drawn) o → MovesBytes (machine image settings) o

-- No occurrence at a state that the map knows writes a return slot, and none forgets one but that of the activation that it ends; also where it is
-- the last of a run.
abbrev pub SlotsStay : Type 0
SlotsStay =
    (image : Image) (settings : Settings) (states : States) (drawn : Drawn) → IsImage image → AreSettings (length image.externs) settings
    → SlotsAreKept (machine image settings) (map_of image settings states drawn)

-- After a call the abstract state after it stands for the state: at a node of procedure p, where the return slot lies so far from the base
-- of p's newest activation.
abbrev pub CalledStatesStand : Type 0
CalledStatesStand =
    (image : Image) (lane : ℕ) (a : AbsState) (d : Division) (s t : State) (new newest : Activation) (others : List Activation) (next : ℕ) (offset : ℤ)
    → IsImage image → IsLaidOut image s → HasCanonical a → StandsFor lane a s → IsCalled s t new newest others next
    → pos new.base ≡ pos newest.base +ℤ offset → next < 2 ^ 32 → StandsFor lane (called d newest.callee offset new.callee next a) t

-- After a return, too: by a link that has the distance of the two activations, where it takes no bytes of the caller's caller.
abbrev pub ReturnedStatesStand : Type 0
ReturnedStatesStand =
    (image : Image) (lane : ℕ) (a : AbsState) (s t : State) (ending parent : Activation) (others : List Activation) (off : Interval) (extra : ℕ)
    → IsImage image → IsWhole image s → StandsFor lane a s → IsReturned s t ending parent others extra
    → IsMember (pos ending.base -ℤ pos parent.base) off → ending.base + 4 + extra ≤ parent.base → StandsFor lane (returned ending.callee parent.callee off extra a) t

-- After an allocation, too, where nothing is remembered of a comparison, and of no block of the key how its base is aligned.
abbrev pub AllocatedStatesStand : Type 0
AllocatedStatesStand =
    (lane : ℕ) (a : AbsState) (s t : State) (new : Allocation) (argument : Values) → HasCanonical a → StandsFor lane a s → IsAllocated s t new
    → HasValue lane (world_of s) new.size argument → new.size < 2 ^ 32 → a.fact ≡ None
    → (known_of (Heap (key_of lane new)) a.aligns ≡ None) × (known_of (OldHeap (key_of lane new)) a.aligns ≡ None) → StandsFor lane (allocated (key_of lane new) argument a) t

-- jumps, branches, calls and returns
abbrev pub is_control : Op → Bool
is_control op.Jmp = true
is_control (op.Jcc c) = true
is_control op.Call = true
is_control op.Ret = true
is_control _ = false

-- each byte that such an instruction reads or writes is accessed, and what it writes in any case was written
abbrev pub ControlStepsKeepToAccesses : Type 0
ControlStepsKeepToAccesses =
    (image : Image) (lane : ℕ) (a : AbsState) (p : ℕ) (d : Division) (i : Instr) (o : Occurrence Act) → IsExecuted image lane a p d i o → is_control i.op ≡ true → KeepsToAccesses lane a i o

-- so does the answer of an extern: but for one that may read every byte
abbrev pub AnswersKeepToAccesses : Type 0
AnswersKeepToAccesses =
    (image : Image) (lane : ℕ) (a : AbsState) (p : ℕ) (d : Division) (at : ℕ) (k : Kind) (o : Occurrence Act) → IsKind k → IsAnswered image lane a p d at k o → KeepsAnswer lane a p d k o
