-- The memory in which a run of an image starts has the image's known bytes, apart from the stack.
use Rattle.std.proofs.Common.{◌≡◌, ℕ, ◌<◌, ◌≤◌, refl, sym, ap, ◌∙◌, arith, inl}
use Rattle.std.specs.Prelude.{Bool, true, false, cond, ◌||◌, nat_lt, Some, None, is_some}
use Rattle.std.proofs.lemmas.Bool.{false≢true}
use Rattle.std.proofs.lemmas.Bool.Decides.{nat_tests}
use Rattle.image_map.specs.declared.image.Image.{Image}
use Rattle.image_map.specs.Queries.{byte_at, is_in_segment}
use Rattle.image_map.specs.Whole.{IsImage}
use Rattle.ia32_semantics.specs.Effects.{byte_or_zero}
use Rattle.ia32_semantics.specs.Outcome.{is_in_stack, IsFarFrom}
use Rattle.ia32_semantics.specs.CallModel.{IsEntrySlot}
use Rattle.ia32_semantics.proofs.EffectLemmas.{by_test}
use Rattle.image_map.proofs.SegmentLaws.{known_there}
use Rattle.ia32_memory.specs.Start.{start_bytes}
use Rattle.ia32_memory.proofs.StartLemmas.{segments_low, stack_in}

mapped_go : (stack in_segment : Bool) (known : ℕ) → is_some (cond stack (Some 0) (cond in_segment (Some known) None)) ≡ (in_segment || stack)
mapped_go true true known = refl
mapped_go true false known = refl
mapped_go false true known = refl
mapped_go false false known = refl

pub start_mapped : (image : Image) (slot a : ℕ) → is_some (start_bytes image slot a) ≡ (is_in_segment image a || is_in_stack slot a)
start_mapped image slot a = mapped_go (is_in_stack slot a) (is_in_segment image a) (byte_or_zero (byte_at image a))

low_go : (in_segment : Bool) (a : ℕ) → (0x7FFFFFFF ≤ a → in_segment ≡ false) → in_segment ≡ true → a < 0x7FFFFFFF
low_go in_segment a high there =
    by_test (nat_lt a 0x7FFFFFFF) (λ e. let low : a < 0x7FFFFFFF = grind (arith, nat_tests) in low)
    (λ e. let up : 0x7FFFFFFF ≤ a = grind (arith, nat_tests) in absurd (false≢true (sym (high up) ∙ there)))

-- a segment's address is low
pub segment_low : (image : Image) (a : ℕ) → IsImage image → is_in_segment image a ≡ true → a < 0x7FFFFFFF
segment_low image a whole there = low_go (is_in_segment image a) a (segments_low image.segments a whole.segments) there

pub start_apart : (image : Image) (slot a : ℕ) → IsImage image → IsEntrySlot slot → is_in_segment image a ≡ true → IsFarFrom slot a
start_apart image slot a whole entry there =
    let low = segment_low image a whole there in
    let above = entry.above in
    inl (omega arith)

stack_no : (slot a : ℕ) (stack : Bool) → (stack ≡ true → 0x7FFFFFFF ≤ a) → a < 0x7FFFFFFF → stack ≡ false
stack_no slot a true high low = absurd (let up = high refl in omega arith)
stack_no slot a false high low = refl

pub segment_not_stack : (image : Image) (slot a : ℕ) → IsImage image → IsEntrySlot slot → is_in_segment image a ≡ true → is_in_stack slot a ≡ false
segment_not_stack image slot a whole entry there = stack_no slot a (is_in_stack slot a) (stack_in slot a entry) (segment_low image a whole there)

pub start_known : (image : Image) (slot a byte : ℕ) → IsImage image → IsEntrySlot slot → byte_at image a ≡ Some byte → start_bytes image slot a ≡ Some byte
start_known image slot a byte whole entry e =
    let there = known_there image a byte e in
    ap (λ b. cond b (Some 0) (cond (is_in_segment image a) (Some (byte_or_zero (byte_at image a))) None)) (segment_not_stack image slot a whole entry there)
    ∙ ap (λ b. cond b (Some (byte_or_zero (byte_at image a))) None) there ∙ ap (λ v. Some (byte_or_zero v)) e
