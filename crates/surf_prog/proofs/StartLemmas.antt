-- Each image has a start.
use Rattle.std.proofs.Common.{◌≡◌, ℕ, ◌+◌, ◌-◌, ◌^◌, ◌<◌, [], ◌∷◌, Option, Some, None, refl, ap, subst, ◌∙◌, inl, cond, arith}
use Rattle.std.specs.Prelude.{Bool, true, false, ◌&&◌, ◌||◌, ◌==◌, if◌then◌else◌, nat_le, nat_lt, is_some, unwrap_or}
use Rattle.std.proofs.lemmas.Option.{none-some, same_Some}
use borrow.Author.Tests.{lt-leb}
use Rattle.image_map.specs.declared.image.Image.{Image}
use Rattle.image_map.specs.Queries.{is_in_segment, byte_at}
use Rattle.image_map.specs.Whole.{ArePlaced}
use Rattle.image_map.specs.declared.region.Settings.{Settings}
use Rattle.ia32_semantics.specs.State.{Bytes, State, esp, bytes_at, little_endian}
use Rattle.ia32_semantics.specs.Outcome.{is_in_stack}
use Rattle.ia32_semantics.specs.CallModel.{entry_activation}
use Rattle.image_map.proofs.SegmentLaws.{known_there, segments_below}
use Rattle.surf_prog.specs.Starts.{ImagesStart}

-- segments lie below this address
abbrev image_end : ℕ
image_end = 0x7FFFFFFF

-- a place for the entry's return slot
abbrev slot : ℕ
slot = 0xBFF0000C

-- HALT in the slot, and 0 elsewhere
abbrev stack_byte : ℕ → ℕ
stack_byte a = if a == slot + 2 then 255 else (if a == slot + 3 then 255 else 0)

-- 0 where any byte may stand
abbrev segment_byte : Image → ℕ → ℕ
segment_byte image a = unwrap_or (byte_at image a) 0

abbrev start_memory : Image → Bytes
start_memory image a = if is_in_stack slot a then Some (stack_byte a) else (if is_in_segment image a then Some (segment_byte image a) else None)

abbrev start_state : Settings → Image → State
start_state settings image = record {
  registers = λ n. if n == esp then slot else 0;
  flags = λ n. false;
  eip = settings.entry;
  memory = start_memory image;
  activations = entry_activation settings slot ∷ [];
  blocks = [];
  allocs = [];
  slot = slot;
}

-- -- Choices

-- what is chosen of three is there where one of the first two is
is_there : (in_stack known_there : Bool) (x y : ℕ) → is_some (cond in_stack (Some x) (cond known_there (Some y) None)) ≡ (known_there || in_stack)
is_there true true x y = refl
is_there true false x y = refl
is_there false true x y = refl
is_there false false x y = refl

chosen_below : (in_stack known_there : Bool) (x y byte bound : ℕ) → x < bound → y < bound → cond in_stack (Some x) (cond known_there (Some y) None) ≡ Some byte → byte < bound
chosen_below true known_there x y byte bound x_below y_below e = subst (λ v. v < bound) (same_Some x byte e) x_below
chosen_below false true x y byte bound x_below y_below e = subst (λ v. v < bound) (same_Some y byte e) y_below
chosen_below false false x y byte bound x_below y_below e = absurd (none-some byte e)

number_below : (b : Bool) (x y bound : ℕ) → x < bound → y < bound → cond b x y < bound
number_below true x y bound p q = p
number_below false x y bound p q = q

known_below : (o : Option ℕ) (bound : ℕ) → 0 < bound → ((byte : ℕ) → o ≡ Some byte → byte < bound) → unwrap_or o 0 < bound
known_below None bound some below = some
known_below (Some byte) bound some below = below byte refl

-- -- The image's bytes

outside : (a : ℕ) → a < image_end → is_in_stack slot a ≡ false
outside a h =
    let before : nat_le (slot - 2 ^ 20) a ≡ false = lt-leb (slot - 2 ^ 20) a (omega arith) in
    ap (λ b. b && nat_lt a (slot + 2 ^ 16)) before

-- a known byte is in the memory of the start
known : (image : Image) (a byte : ℕ) → ArePlaced image.segments → byte_at image a ≡ Some byte → start_memory image a ≡ Some byte
known image a byte placed e =
    let there = known_there image a byte e in
    let no_stack = outside a (segments_below image.segments a placed there) in
    ap (λ b. if b then Some (stack_byte a) else (if is_in_segment image a then Some (segment_byte image a) else None)) no_stack
    ∙ ap (λ b. if b then Some (segment_byte image a) else None) there
    ∙ ap (λ o. Some (unwrap_or o 0)) e

stack_byte_below : (a : ℕ) → stack_byte a < 256
stack_byte_below a = number_below (a == slot + 2) 255 _ 256 (omega arith) (number_below (a == slot + 3) 255 0 256 (omega arith) (omega arith))

memory_below : (image : Image) → ((a byte : ℕ) → byte_at image a ≡ Some byte → byte < 256) → (a byte : ℕ) → start_memory image a ≡ Some byte → byte < 256
memory_below image below a byte e =
    chosen_below (is_in_stack slot a) (is_in_segment image a) (stack_byte a) (segment_byte image a) byte 256
    (stack_byte_below a) (known_below (byte_at image a) 256 (omega arith) (λ b is. below a b is)) e

pub images_start : ImagesStart
unfolding bytes_at little_endian
images_start image settings is_image entry below = (
  start_state settings image,
  record {
    sized = record {
      registers = λ n. number_below (n == esp) slot 0 (2 ^ 32) (omega arith) (omega arith);
      eip = entry;
      memory = memory_below image below;
    };
    eip = refl;
    df = refl;
    slot = record { aligned = refl; above = omega arith; below = omega arith };
    esp_is = refl;
    halt = refl;
    mapped = λ a. is_there (is_in_stack slot a) (is_in_segment image a) (stack_byte a) (segment_byte image a);
    known = λ a byte e. known image a byte is_image.segments e;
    apart = λ a h. (let low = segments_below image.segments a is_image.segments h in inl (omega arith));
    activations = refl;
    blocks = refl;
    allocs = refl;
  },
)
