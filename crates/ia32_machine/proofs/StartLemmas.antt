-- The machine in which a run starts.
use Rattle.std.proofs.Common.{◌≡◌, ℕ, ◌+◌, ◌<◌, ◌≤◌, ◌^◌, List, [], ◌∷◌, refl, sym, ap, subst, ◌∙◌, arith}
use Rattle.std.specs.Prelude.{Bool, true, false, if◌then◌else◌, not, ◌&&◌, ◌||◌, ◌==◌, slice_index, Some, is_some, option_map}
use Rattle.std.proofs.lemmas.Bool.Decides.{nat_tests}
use Rattle.std.proofs.lemmas.Bool.{or_right}
use mathlib.Core.Path.{fun_ext}
use Rattle.image_map.specs.declared.image.Image.{Image}
use Rattle.image_map.specs.declared.region.Activation.{Activation}
use Rattle.image_map.specs.declared.region.Block.{Block}
use Rattle.image_map.specs.declared.region.Settings.{Settings}
use Rattle.image_map.specs.Queries.{is_in_segment, is_writable}
use Rattle.image_map.specs.Whole.{IsImage}
use Rattle.ia32_semantics.specs.declared.state.Allocation.{Allocation}
use Rattle.ia32_semantics.specs.State.{State, Bytes, word_at, little_endian}
use Rattle.ia32_semantics.specs.Effects.{is_open, is_of_bytes}
use Rattle.ia32_semantics.specs.Outcome.{is_in_stack, IsFarFrom}
use Rattle.ia32_semantics.specs.CallModel.{IsEntrySlot, IsStart, entry_activation}
use Rattle.ia32_memory.specs.Mapped.{Mapped, bytes_of, is_open_at, is_in_first}
use Rattle.ia32_memory.specs.Changes.{with_bytes}
use Rattle.ia32_memory.specs.Start.{start_bytes}
use Rattle.ia32_memory.proofs.ShapeLaws.{same_open, same_first}
use Rattle.ia32_memory.proofs.WrittenLaws.{with_bytes_maps, with_bytes_other, with_bytes_small, read_back}
use Rattle.ia32_memory.proofs.StartLaws.{start_mapped, start_known, start_apart, segment_low}
use Rattle.image_map.proofs.SegmentLaws.{known_there}
use Rattle.image_map.specs.Shapes.{shapes}
use Rattle.ia32_plan.specs.declared.state.Core.{Core}
use Rattle.ia32_plan.specs.Views.{flag_at}
use Rattle.ia32_plan.specs.Views as views
use Rattle.ia32_machine.proofs.StepLemmas.{with_calls}
use Rattle.ia32_machine.specs.Machines as machines
use Rattle.ia32_machine.specs.Machines.{IsStartMemory, HasWords, start_flag, start_registers, start_state}

pub entry_slot : IsEntrySlot 0xBFF0000C
entry_slot = record { aligned = refl; above = omega arith; below = omega arith }

or_false : (p q : Bool) → p ≡ false → q ≡ false → (p || q) ≡ false
or_false true q e f = e
or_false false q e f = f

below_none : (a : ℕ) (bytes : List ℕ) (x : ℕ) → x < a → is_of_bytes a bytes x ≡ false
below_none a [] x low = refl
below_none a (byte ∷ rest) x low =
    let apart : (a == x) ≡ false = grind (arith, nat_tests) in or_false (a == x) (is_of_bytes (a + 1) rest x) apart (below_none (a + 1) rest x (omega arith))

in_stack : (slot x : ℕ) → slot ≤ x → x < slot + 4 → is_in_stack slot x ≡ true
in_stack slot x low high = grind (arith, nat_tests)

halt_number : option_map little_endian (Some (0 ∷ 0 ∷ 255 ∷ 255 ∷ [])) ≡ Some 0xFFFF0000
unfolding little_endian
halt_number = refl

slot_mapped : (image : Image) (slot x : ℕ) → slot ≤ x → x < slot + 4 → is_some (start_bytes image slot x) ≡ true
slot_mapped image slot x low high = start_mapped image slot x ∙ or_right (is_in_segment image x) (is_in_stack slot x) (in_stack slot x low high)

halt_read : (image : Image) (slot : ℕ) (m : Bytes) → m ≡ start_bytes image slot → word_at (with_bytes m slot (0 ∷ 0 ∷ 255 ∷ 255 ∷ [])) slot ≡ Some 0xFFFF0000
halt_read image slot m is =
    ap (option_map little_endian) (read_back m slot (0 ∷ 0 ∷ 255 ∷ 255 ∷ []) (λ x low high. ap (λ (f : Bytes). is_some (f x)) is ∙ slot_mapped image slot x low high)) ∙ halt_number

open_same : (image : Image) (m n : Bytes) (a : ℕ) → is_some (m a) ≡ is_some (n a) → is_open image m a ≡ is_open image n a
open_same image m n a same = ap (λ b. b && (not (is_in_segment image a) || is_writable image a)) same

-- the return word is put into memory that is otherwise as at the start
pub start_memory : (image : Image) (old new : Mapped) → IsImage image → bytes_of old ≡ start_bytes image 0xBFF0000C
    → ((a : ℕ) → is_open_at old a ≡ is_open image (bytes_of old) a) → ((a : ℕ) → is_in_first old a ≡ is_in_stack 0xBFF0000C a)
    → ((a byte : ℕ) → bytes_of old a ≡ Some byte → byte < 256)
    → bytes_of new ≡ with_bytes (bytes_of old) 0xBFF0000C (0 ∷ 0 ∷ 255 ∷ 255 ∷ []) → shapes new ≡ shapes old → IsStartMemory image new
start_memory image old new whole is opened stack small write same =
    let at : (a : ℕ) → bytes_of new a ≡ with_bytes (bytes_of old) 0xBFF0000C (0 ∷ 0 ∷ 255 ∷ 255 ∷ []) a = λ a. ap (λ (f : Bytes). f a) write in
    let maps : (a : ℕ) → is_some (bytes_of new a) ≡ is_some (bytes_of old a) = λ a. ap is_some (at a) ∙ with_bytes_maps (bytes_of old) 0xBFF0000C (0 ∷ 0 ∷ 255 ∷ 255 ∷ []) a in
    record {
      is = write ∙ ap (λ (f : Bytes). with_bytes f 0xBFF0000C (0 ∷ 0 ∷ 255 ∷ 255 ∷ [])) is;
      bytes = λ a byte e. with_bytes_small (bytes_of old) 0xBFF0000C (0 ∷ 0 ∷ 255 ∷ 255 ∷ []) small a byte (sym (at a) ∙ e);
      halt = ap (λ (f : Bytes). word_at f 0xBFF0000C) write ∙ halt_read image 0xBFF0000C (bytes_of old) is;
      mapped = λ a. maps a ∙ ap (λ (f : Bytes). is_some (f a)) is ∙ start_mapped image 0xBFF0000C a;
      known = λ a byte e.
          let low = segment_low image a whole (known_there image a byte e) in
          at a ∙ with_bytes_other (bytes_of old) 0xBFF0000C (0 ∷ 0 ∷ 255 ∷ 255 ∷ []) a (below_none 0xBFF0000C (0 ∷ 0 ∷ 255 ∷ 255 ∷ []) a (omega arith))
          ∙ ap (λ (f : Bytes). f a) is ∙ start_known image 0xBFF0000C a byte whole entry_slot e;
      knows = record { opens = λ a. same_open new old same a ∙ opened a ∙ open_same image (bytes_of old) (bytes_of new) a (sym (maps a)) };
      stack = λ a. same_first new old same a ∙ stack a;
    }

-- the state of a core with such memory is one in which a run starts
pub is_start : (image : Image) (settings : Settings) (s : State) (memory : Mapped) → IsImage image → IsStartMemory image memory → s.memory ≡ bytes_of memory
    → ((n : ℕ) → s.registers n < 2 ^ 32) → settings.entry < 2 ^ 32 → s.eip ≡ settings.entry → s.flags 5 ≡ false → s.slot ≡ 0xBFF0000C → s.registers 4 ≡ 0xBFF0000C
    → s.activations ≡ entry_activation settings 0xBFF0000C ∷ [] → s.blocks ≡ [] → s.allocs ≡ [] → IsStart image settings s
is_start image settings s memory whole starts is small fits eip df slot sp activations blocks allocs =
    let at : (a : ℕ) → s.memory a ≡ bytes_of memory a = λ a. ap (λ (f : Bytes). f a) is in
    record {
      sized = record {
        registers = small;
        eip = subst (λ n. n < 2 ^ 32) (sym eip) fits;
        memory = λ a byte e. starts.bytes a byte (sym (at a) ∙ e);
      };
      eip = eip;
      df = df;
      slot = subst IsEntrySlot (sym slot) entry_slot;
      esp_is = sp ∙ sym slot;
      halt = ap (λ (f : Bytes). word_at f s.slot) is ∙ ap (word_at (bytes_of memory)) slot ∙ starts.halt;
      mapped = λ a. ap is_some (at a) ∙ starts.mapped a ∙ ap (λ n. is_in_segment image a || is_in_stack n a) (sym slot);
      known = λ a byte e. at a ∙ starts.known a byte e;
      apart = λ a there. subst (λ n. IsFarFrom n a) (sym slot) (start_apart image 0xBFF0000C a whole entry_slot there);
      activations = activations ∙ ap (λ n. entry_activation settings n ∷ []) (sym slot);
      blocks = blocks;
      allocs = allocs;
    }

flags_go : (b0 b1 b2 b3 b4 b5 : Bool) (c0 c1 c2 c3 c4 c5 d0 d1 d2 d3 d4 : Bool) → c0 ≡ d0 → c1 ≡ d1 → c2 ≡ d2 → c3 ≡ d3 → c4 ≡ d4 → c5 ≡ false
    → (if b0 then c0 else (if b1 then c1 else (if b2 then c2 else (if b3 then c3 else (if b4 then c4 else (if b5 then c5 else false))))))
    ≡ (if b0 then d0 else (if b1 then d1 else (if b2 then d2 else (if b3 then d3 else (if b4 then d4 else false)))))
flags_go true b1 b2 b3 b4 b5 c0 c1 c2 c3 c4 c5 d0 d1 d2 d3 d4 e0 e1 e2 e3 e4 e5 = e0
flags_go false true b2 b3 b4 b5 c0 c1 c2 c3 c4 c5 d0 d1 d2 d3 d4 e0 e1 e2 e3 e4 e5 = e1
flags_go false false true b3 b4 b5 c0 c1 c2 c3 c4 c5 d0 d1 d2 d3 d4 e0 e1 e2 e3 e4 e5 = e2
flags_go false false false true b4 b5 c0 c1 c2 c3 c4 c5 d0 d1 d2 d3 d4 e0 e1 e2 e3 e4 e5 = e3
flags_go false false false false true b5 c0 c1 c2 c3 c4 c5 d0 d1 d2 d3 d4 e0 e1 e2 e3 e4 e5 = e4
flags_go false false false false false true c0 c1 c2 c3 c4 c5 d0 d1 d2 d3 d4 e0 e1 e2 e3 e4 e5 = e5
flags_go false false false false false false c0 c1 c2 c3 c4 c5 d0 d1 d2 d3 d4 e0 e1 e2 e3 e4 e5 = refl

flags_are : (core : Core) (words : List ℕ) → HasWords words core → core.df ≡ false → flag_at core ≡ start_flag words
flags_are core words has df =
    fun_ext (λ n. flags_go (n == 0) (n == 1) (n == 2) (n == 3) (n == 4) (n == 5) core.flags.cf core.flags.pf core.flags.zf core.flags.sf core.flags.of core.df
    (start_flag words 0) (start_flag words 1) (start_flag words 2) (start_flag words 3) (start_flag words 4) has.cf has.pf has.zf has.sf has.of df)

same_state : (registers registers_ : ℕ → ℕ) (flags flags_ : ℕ → Bool) (eip eip_ : ℕ) (memory memory_ : Bytes) (activations activations_ : List Activation)
    (blocks blocks_ : List Block) (allocs allocs_ : List Allocation) (slot : ℕ)
    → registers ≡ registers_ → flags ≡ flags_ → eip ≡ eip_ → memory ≡ memory_ → activations ≡ activations_ → blocks ≡ blocks_ → allocs ≡ allocs_
    → ◌≡◌ {A = State} (record { registers = registers; flags = flags; eip = eip; memory = memory; activations = activations; blocks = blocks; allocs = allocs; slot = slot })
    (record { registers = registers_; flags = flags_; eip = eip_; memory = memory_; activations = activations_; blocks = blocks_; allocs = allocs_; slot = slot })
same_state registers registers_ flags flags_ eip eip_ memory memory_ activations activations_ blocks blocks_ allocs allocs_ slot r f e m a b l = cc

-- the machine's state is the one in which the run starts
pub is_start_state : (image : Image) (settings : Settings) (words : List ℕ) (core : Core) (memory : Mapped) (activations : List Activation) (blocks : List Block) (allocs : List Allocation)
    → HasWords words core → core.eip ≡ settings.entry → core.df ≡ false → core.memory ≡ memory → IsStartMemory image memory
    → activations ≡ entry_activation settings 0xBFF0000C ∷ [] → blocks ≡ [] → allocs ≡ []
    → with_calls (views.state_of core) activations blocks allocs 0xBFF0000C ≡ start_state image settings words
is_start_state image settings words core memory activations blocks allocs has eip df same starts calls none none_ =
    same_state (slice_index core.regs) (slice_index (start_registers words)) (flag_at core) (start_flag words) core.eip settings.entry (bytes_of core.memory) (machines.start_memory image)
    activations (entry_activation settings 0xBFF0000C ∷ []) blocks [] allocs [] 0xBFF0000C
    (ap (λ (l : List ℕ). slice_index l) has.registers) (flags_are core words has df) eip (ap (λ (m : Mapped). bytes_of m) same ∙ starts.is) calls none none_
