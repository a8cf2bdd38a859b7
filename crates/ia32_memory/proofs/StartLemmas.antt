-- The memory in which a run of an image starts is that of the definition.
use Rattle.std.proofs.Common.{get_or, take, ◌≡◌, ℕ, ◌+◌, ◌-◌, max, ◌<◌, ◌≤◌, ◌^◌, List, [], ◌∷◌, ◌++◌, length, refl, ap, sym, subst, ◌∙◌, arith}
use Rattle.std.specs.Prelude.{Bool, true, false, cond, not, ◌&&◌, ◌||◌, ◌==◌, nat_le, nat_lt, Option, Some, None, slice_get, is_some}
use Rattle.std.specs.List.{find}
use Rattle.std.proofs.lemmas.Bool.Decides.{nat_tests}
use Rattle.std.proofs.lemmas.Option.{none-some, same_Some, slice_get-get_or}
use Rattle.std.proofs.lemmas.List.{take_more}
use mathlib.Core.Path.{fun_ext}
use Rattle.std.proofs.Math.Bool.{or_assoc, or-false}
use Rattle.image_map.specs.declared.image.Segment.{Segment}
use Rattle.image_map.specs.declared.image.Image.{Image}
use Rattle.image_map.specs.declared.spans.Span.{Span}
use Rattle.image_map.specs.Memory.{holds, has_flag, byte_in, segment_at}
use Rattle.image_map.specs.Ranges.{is_any}
use Rattle.image_map.specs.Queries.{byte_at, is_in_segment, is_writable}
use Rattle.image_map.specs.Whole.{end_of, ArePlaced, IsImage}
use Rattle.ia32_semantics.specs.State.{Bytes}
use Rattle.ia32_semantics.specs.Effects.{byte_or_zero, is_open}
use Rattle.ia32_semantics.specs.Outcome.{is_in_stack}
use Rattle.ia32_semantics.specs.CallModel.{IsEntrySlot}
use Rattle.ia32_semantics.proofs.EffectLemmas.{by_test}
use Rattle.item_list.proofs.RangeLaws.{none_within}
use Rattle.image_map.proofs.SegmentLaws.{offset_within, head_in}
use Rattle.item_list.specs.Ranges.{within}
use Rattle.ia32_memory.specs.Mapped.{bytes_of, is_open_at, AreWithin, HasBytes, HaveBytes, zeros_from}
use Rattle.ia32_memory.specs.Changes.{with_byte, cleared}
use Rattle.ia32_memory.specs.Start.{start_bytes}
use Rattle.ia32_memory.proofs.ShapeLaws.{open_head}
use Rattle.ia32_memory.proofs.MakeLemmas.{zeros_hold, zeros_byte, zeros_open, is_some_held}

-- -- Segments of an image

pub image_within : (ss : List Segment) → ArePlaced ss → AreWithin ss
image_within [] placed = tt
image_within (s ∷ ss) placed = (let high = placed.0.high in let low : end_of s ≤ 2 ^ 32 = omega arith in low, image_within ss placed.2)

-- an address of a segment has a byte
mapped_go : (h : Bool) (s : Segment) (rest : Option Segment) (v w : Option ℕ) → (h ≡ true → is_some v ≡ true) → is_some w ≡ is_some rest → is_some (cond h v w) ≡ is_some (cond h (Some s) rest)
mapped_go true s rest v w there same = there refl
mapped_go false s rest v w there same = same

pub mapped_in : (ss : List Segment) (x : ℕ) → is_some (byte_in ss x) ≡ is_some (segment_at ss x)
mapped_in [] x = refl
mapped_in (s ∷ ss) x =
    ap is_some (head_in s ss x)
    ∙ mapped_go (holds x s) s (find (holds x) ss) (slice_get s.bytes (x - s.start)) (byte_in ss x) (is_some_held s x) (mapped_in ss x)

-- -- The bytes

start_go : (stack any : Bool) (old known : Option ℕ) (in_segment : Bool) → is_some old ≡ in_segment → known ≡ cond any None old
    → cond (any && is_some (cond stack (Some 0) old)) (Some 0) (cond stack (Some 0) old) ≡ cond stack (Some 0) (cond in_segment (Some (byte_or_zero known)) None)
start_go true true old known in_segment same is = refl
start_go true false old known in_segment same is = refl
start_go false true None known in_segment same is = ap (λ b. cond b (Some (byte_or_zero known)) None) same
start_go false true (Some b) known in_segment same is = ap (λ k. Some (byte_or_zero k)) (sym is) ∙ ap (λ t. cond t (Some (byte_or_zero known)) None) same
start_go false false None known in_segment same is = ap (λ b. cond b (Some (byte_or_zero known)) None) same
start_go false false (Some b) known in_segment same is = ap (λ k. Some (byte_or_zero k)) (sym is) ∙ ap (λ t. cond t (Some (byte_or_zero known)) None) same

stack_go : (h t : Bool) (v w : Option ℕ) → h ≡ t → (h ≡ true → v ≡ Some 0) → cond h v w ≡ cond t (Some 0) w
stack_go true t v w same zero_ = zero_ refl ∙ ap (λ b. cond b (Some 0) w) same
stack_go false t v w same zero_ = ap (λ b. cond b (Some 0) w) same

stack_tests : (slot x : ℕ) → 2 ^ 20 ≤ slot → within (slot - 1048576) (slot - 1048576 + 1114112) x ≡ is_in_stack slot x
stack_tests slot x above = grind (arith, nat_tests)

pub stack_holds : (slot x : ℕ) → 2 ^ 20 ≤ slot → holds x (zeros_from (slot - 1048576) 1114112) ≡ is_in_stack slot x
stack_holds slot x above = zeros_hold (slot - 1048576) 1114112 x ∙ stack_tests slot x above

stack_first : (ss : List Segment) (slot x : ℕ) → 2 ^ 20 ≤ slot → byte_in (zeros_from (slot - 1048576) 1114112 ∷ ss) x ≡ cond (is_in_stack slot x) (Some 0) (byte_in ss x)
stack_first ss slot x above =
    head_in (zeros_from (slot - 1048576) 1114112) ss x
    ∙ stack_go (holds x (zeros_from (slot - 1048576) 1114112)) (is_in_stack slot x) _ (byte_in ss x) (stack_holds slot x above) (zeros_byte (slot - 1048576) 1114112 x)

pub started_bytes : (image : Image) (slot : ℕ) (new : Bytes) → IsEntrySlot slot
    → new ≡ cleared (λ a. is_any image.any_bytes a) (bytes_of (zeros_from (slot - 1048576) 1114112 ∷ image.segments)) → new ≡ start_bytes image slot
started_bytes image slot new entry is =
    let above = entry.above in
    is ∙ fun_ext (λ x.
    ap (λ v. cond (is_any image.any_bytes x && is_some v) (Some 0) v) (stack_first image.segments slot x (omega arith))
    ∙ start_go (is_in_stack slot x) (is_any image.any_bytes x) (byte_in image.segments x) (byte_at image x) (is_in_segment image x) (mapped_in image.segments x) refl)

-- -- What may be written

pub segments_low : (ss : List Segment) (x : ℕ) → ArePlaced ss → 0x7FFFFFFF ≤ x → is_some (segment_at ss x) ≡ false
segments_low [] x placed high = refl
segments_low (s ∷ ss) x placed high =
    let end = placed.0.high in
    let out : holds x s ≡ false = grind (arith, nat_tests) in
    ap (λ h. is_some (cond h (Some s) (find (holds x) ss))) out ∙ segments_low ss x placed.2 high

open_go : (stack in_segment writable : Bool) (start : Option ℕ) (known : ℕ) → (stack ≡ true → in_segment ≡ false) → (in_segment ≡ false → writable ≡ false)
    → start ≡ cond stack (Some 0) (cond in_segment (Some known) None) → cond stack true writable ≡ (is_some start && (not in_segment || writable))
open_go true true writable start known apart none is = absurd (let e = apart refl in cc)
open_go true false writable start known apart none is = ap (λ v. is_some v && true) (sym is)
open_go false true writable start known apart none is = ap (λ v. is_some v && writable) (sym is)
open_go false false writable start known apart none is = none refl ∙ ap (λ v. is_some v && true) (sym is)

unheld_go : (ss : List Segment) (x : ℕ) → is_some (segment_at ss x) ≡ false → is_open_at ss x ≡ false
unheld_go [] x out = refl
unheld_go (s ∷ ss) x out = open_head s ss x ∙ by_test (holds x s)
    (λ h. absurd (let e : is_some (cond (holds x s) (Some s) (find (holds x) ss)) ≡ false = out in let f = ap (λ b. is_some (cond b (Some s) (find (holds x) ss))) h in cc))
    (λ h. ap (λ b. cond b (has_flag 2 s) (is_open_at ss x)) h ∙ unheld_go ss x (sym (ap (λ b. is_some (cond b (Some s) (find (holds x) ss))) h) ∙ out))

pub stack_in : (slot x : ℕ) → IsEntrySlot slot → is_in_stack slot x ≡ true → 0x7FFFFFFF ≤ x
stack_in slot x entry h = let above = entry.above in grind (arith, nat_tests)

pub started_open : (image : Image) (slot x : ℕ) (new : Bytes) (ss : List Segment) → IsImage image → IsEntrySlot slot → new ≡ start_bytes image slot
    → ((a : ℕ) → is_open_at ss a ≡ is_open_at (zeros_from (slot - 1048576) 1114112 ∷ image.segments) a)
    → is_open_at ss x ≡ is_open image new x
started_open image slot x new ss whole entry is same =
    let above = entry.above in
    same x ∙ open_head (zeros_from (slot - 1048576) 1114112) image.segments x
    ∙ ap (λ f. cond (holds x (zeros_from (slot - 1048576) 1114112)) f (is_open_at image.segments x)) (zeros_open (slot - 1048576) 1114112)
    ∙ ap (λ h. cond h true (is_open_at image.segments x)) (stack_holds slot x (omega arith))
    ∙ open_go (is_in_stack slot x) (is_in_segment image x) (is_writable image x) (new x) (byte_or_zero (byte_at image x))
    (λ h. segments_low image.segments x whole.segments (stack_in slot x entry h)) (unheld_go image.segments x) (ap (λ m. m x) is)

-- -- Bytes cleared one after another

range_go : (eq more within_ : Bool) (v : Option ℕ) → more ≡ (within_ || eq)
    → cond (eq && is_some (cond (within_ && is_some v) (Some 0) v)) (Some 0) (cond (within_ && is_some v) (Some 0) v) ≡ cond (more && is_some v) (Some 0) v
range_go true more true None is = rw is refl
range_go true more true (Some b) is = rw is refl
range_go true more false None is = rw is refl
range_go true more false (Some b) is = rw is refl
range_go false more true None is = rw is refl
range_go false more true (Some b) is = rw is refl
range_go false more false None is = rw is refl
range_go false more false (Some b) is = rw is refl

one_more : (start a x : ℕ) → start ≤ a → within start (a + 1) x ≡ (within start a x || a == x)
one_more start a x low = grind (arith, nat_tests)

pub range_more : (m : Bytes) (start a : ℕ) → start ≤ a → with_byte (cleared (λ x. within start a x) m) a 0 ≡ cleared (λ x. within start (a + 1) x) m
range_more m start a low = fun_ext (λ x. range_go (a == x) (within start (a + 1) x) (within start a x) (m x) (one_more start a x low))

same_lt : (start end last x : ℕ) → start ≤ x → last ≡ max end start → nat_lt x last ≡ nat_lt x end
same_lt start end last x low is =
    by_test (nat_lt x end)
    (λ e. let less : x < end = grind (arith, nat_tests) in let also : x < last = omega arith in grind (arith, nat_tests))
    (λ e. let more : end ≤ x = grind (arith, nat_tests) in let also : last ≤ x = omega arith in grind (arith, nat_tests))

within_max : (start end last x : ℕ) → last ≡ max end start → within start last x ≡ within start end x
within_max start end last x is =
    by_test (nat_le start x)
    (λ e. ap (λ b. nat_le start x && b) (same_lt start end last x (grind (arith, nat_tests)) is))
    (λ e. ap (λ b. b && nat_lt x last) e ∙ sym (ap (λ b. b && nat_lt x end) e))

pub range_all : (m : Bytes) (start end last at : ℕ) → last ≡ max end start → at ≤ last → last ≤ at → cleared (λ x. within start at x) m ≡ cleared (λ x. within start end x) m
range_all m start end last at is below above =
    let e : at ≡ last = omega arith in
    ap (λ n. cleared (λ x. within start n x) m) e ∙ fun_ext (λ x. ap (λ b. cond (b && is_some (m x)) (Some 0) (m x)) (within_max start end last x is))

none_go : (w : Bool) (v : Option ℕ) → w ≡ false → v ≡ cond (w && is_some v) (Some 0) v
none_go w v none = rw none refl

pub range_start : (m : Bytes) (start : ℕ) → m ≡ cleared (λ x. within start start x) m
range_start m start = fun_ext (λ x. none_go (within start start x) (m x) (none_within start x))

any_push : (before : List Span) (s : Span) (x : ℕ) → is_any (before ++ s ∷ []) x ≡ (is_any before x || within s.start s.end x)
any_push [] s x = or-false (within s.start s.end x)
any_push (t ∷ ts) s x = ap (λ r. within t.start t.end x || r) (any_push ts s x) ∙ sym (or_assoc (within t.start t.end x) (is_any ts x) (within s.start s.end x))

spans_go : (here before more : Bool) (v : Option ℕ) → more ≡ (before || here)
    → cond (here && is_some (cond (before && is_some v) (Some 0) v)) (Some 0) (cond (before && is_some v) (Some 0) v) ≡ cond (more && is_some v) (Some 0) v
spans_go here before more v is = range_go here more before v is

-- the spans that are left are still to be cleared
pub spans_more : (m : Bytes) (before : List Span) (s : Span)
    → cleared (λ a. within s.start s.end a) (cleared (λ a. is_any before a) m) ≡ cleared (λ a. is_any (before ++ s ∷ []) a) m
spans_more m before s = fun_ext (λ x. spans_go (within s.start s.end x) (is_any before x) (is_any (before ++ s ∷ []) x) (m x) (any_push before s x))

pub spans_none : (m : Bytes) → m ≡ cleared (λ a. is_any [] a) m
spans_none m = refl

-- -- The sizes of bytes

byte_small : (ss : List Segment) → HaveBytes ss → (a byte : ℕ) → byte_in ss a ≡ Some byte → byte < 256
byte_small [] small a byte e = absurd (none-some byte e)
byte_small (s ∷ ss) small a byte e =
    by_test (holds a s)
    (λ h. let there = slice_get-get_or s.bytes (a - s.start) 0 (offset_within s a h) in
    let here : slice_get s.bytes (a - s.start) ≡ Some byte = sym (head_in s ss a ∙ ap (λ t. cond t (slice_get s.bytes (a - s.start)) (byte_in ss a)) h) ∙ e in
    subst (λ v. v < 256) (same_Some (get_or s.bytes (a - s.start) 0) byte (sym there ∙ here)) (small.0 (a - s.start)))
    (λ h. byte_small ss small.1 a byte (sym (head_in s ss a ∙ ap (λ t. cond t (slice_get s.bytes (a - s.start)) (byte_in ss a)) h) ∙ e))

known_small : (any : Bool) (v : Option ℕ) → ((byte : ℕ) → v ≡ Some byte → byte < 256) → byte_or_zero (cond any None v) < 256
known_small true v small = omega arith
known_small false None small = omega arith
known_small false (Some b) small = small b refl

pub start_small : (stack in_segment : Bool) (known byte : ℕ) → known < 256 → cond stack (Some 0) (cond in_segment (Some known) None) ≡ Some byte → byte < 256
start_small true in_segment known byte small e = let zero_ : 0 < 256 = omega arith in subst (λ v. v < 256) (same_Some 0 byte e) zero_
start_small false true known byte small e = subst (λ v. v < 256) (same_Some known byte e) small
start_small false false known byte small e = absurd (none-some byte e)

pub started_sized : (image : Image) (slot : ℕ) (new : Bytes) → HaveBytes image.segments → new ≡ start_bytes image slot → (a byte : ℕ) → new a ≡ Some byte → byte < 256
started_sized image slot new small is a byte e =
    start_small (is_in_stack slot a) (is_in_segment image a) (byte_or_zero (byte_at image a)) byte
    (known_small (is_any image.any_bytes a) (byte_in image.segments a) (byte_small image.segments small a))
    (sym (ap (λ m. m a) is) ∙ e)

-- one more segment was copied
pub copied_more : (before image : List Segment) (first : Segment) (i : ℕ) (s d : Segment) (new : List Segment) → before ≡ first ∷ take i image → i < length image
    → s ≡ get_or image i d → new ≡ before ++ s ∷ [] → new ≡ first ∷ take (i + 1) image
copied_more before image first i s d new old lt is push =
    push ∙ ap (λ b. b ++ s ∷ []) old ∙ ap (λ x. first ∷ (take i image ++ x ∷ [])) is ∙ ap (λ t. first ∷ t) (sym (take_more image i d lt))

all_push : (ss : List Segment) (s : Segment) → HaveBytes ss → HasBytes s → HaveBytes (ss ++ s ∷ [])
all_push [] s all one = (one, tt)
all_push (t ∷ ss) s all one = (all.0, all_push ss s all.1 one)

pub small_more : (image : List Segment) (i : ℕ) (d : Segment) → i < length image → HaveBytes (take i image) → HasBytes (get_or image i d) → HaveBytes (take (i + 1) image)
small_more image i d lt all one = subst HaveBytes (sym (take_more image i d lt)) (all_push (take i image) (get_or image i d) all one)
