-- What the checks on segments leave.
use Rattle.std.proofs.Common.{◌≡◌, ℕ, suc, zero, ◌+◌, ◌-◌, ◌≤◌, ◌<◌, min, Bool, true, false, cond, ◌&&◌, ◌||◌, nat_lt, Option, Some, None, List, [], ◌∷◌, ◌++◌, refl, ap, sym, ◌∙◌, arith, map, length, get_or, length-append, length-drop}
use Rattle.std.proofs.lemmas.List.{length-replicate, length-take}
use Rattle.std.proofs.lemmas.Bool.Decides.{nat_tests}
use Rattle.std.proofs.lemmas.Option.{none-some}
use Rattle.image_map.specs.Shapes.{shape, shapes}
use Rattle.elf32.specs.declared.error.ElfError.{ElfError}
use Rattle.elf32.specs.declared.fields.ProgramHeader.{ProgramHeader}
use Rattle.elf32.specs.Checks.{or_else, own_cause, load_cause, loads_cause, segments_cause, start_of, end_of, is_writable_code}
use Rattle.elf32.specs.Loading.{segment}
use Rattle.elf32.specs.Shapes.{load_shape, AreLow}

-- a loaded segment of a file of n bytes that is no cause to refuse the file
pub record IsSound (n b : ℕ) (h : ProgramHeader) : Type 0 where
  pub within : h.p_filesz ≤ h.p_memsz
  pub inside : 0 < h.p_filesz → h.p_offset + h.p_filesz ≤ n
  pub low : 0x1000 ≤ start_of b h
  pub high : end_of b h ≤ 0x7FFFFFFF
  pub flags : is_writable_code h ≡ false

abbrev pub AreSound : ℕ → ℕ → List ProgramHeader → Type 0
AreSound n b [] = Unit {0}
AreSound n b (h ∷ hs) = IsSound n b h × AreSound n b hs

-- no cause of two: neither is there
pub neither : (x y : Option ElfError) → or_else x y ≡ None → (x ≡ None) × (y ≡ None)
neither None y h = (refl, h)
neither (Some e) y h = absurd (none-some e (sym h))

guard : (t : Bool) (e : ElfError) (x : Option ElfError) → cond t (Some e) x ≡ None → (t ≡ false) × (x ≡ None)
guard true e x h = absurd (none-some e (sym h))
guard false e x h = (refl, h)

facts_within : (m f : ℕ) → nat_lt m f ≡ false → f ≤ m
facts_within m f h = grind (arith, nat_tests)

facts_inside : (f n e : ℕ) → (nat_lt 0 f && nat_lt n e) ≡ false → 0 < f → e ≤ n
facts_inside f n e h p = grind (arith, nat_tests)

facts_low : (s e : ℕ) → (nat_lt s 0x1000 || nat_lt 0x7FFFFFFF e) ≡ false → 0x1000 ≤ s
facts_low s e h = grind (arith, nat_tests)

facts_high : (s e : ℕ) → (nat_lt s 0x1000 || nat_lt 0x7FFFFFFF e) ≡ false → e ≤ 0x7FFFFFFF
facts_high s e h = grind (arith, nat_tests)

pub own_sound : (n b : ℕ) (h : ProgramHeader) → own_cause n b h ≡ None → IsSound n b h
unfolding own_cause
own_sound n b h none =
    let one = guard _ _ _ none in
    let two = guard _ _ _ one.1 in
    let three = guard _ _ _ two.1 in
    let four = guard _ _ _ three.1 in
    record {
      within = facts_within h.p_memsz h.p_filesz one.0;
      inside = facts_inside h.p_filesz n (h.p_offset + h.p_filesz) two.0;
      low = facts_low (start_of b h) (end_of b h) three.0;
      high = facts_high (start_of b h) (end_of b h) three.0;
      flags = four.0;
    }

pub loads_sound : (n b : ℕ) (before hs : List ProgramHeader) → loads_cause n b before hs ≡ None → AreSound n b hs
loads_sound n b before [] none = tt
loads_sound n b before (h ∷ hs) none =
    let both = neither (load_cause n b before h) (loads_cause n b (before ++ h ∷ []) hs) none in
    (own_sound n b h (neither (own_cause n b h) _ both.0).0, loads_sound n b (before ++ h ∷ []) hs both.1)

pub segments_sound : (n b : ℕ) (hs : List ProgramHeader) → segments_cause n b hs ≡ None → AreSound n b hs
segments_sound n b [] none = tt
segments_sound n b (h ∷ hs) none = loads_sound n b [] (h ∷ hs) none

pub sound_low : (n b : ℕ) (hs : List ProgramHeader) → AreSound n b hs → AreLow b hs
sound_low n b [] s = tt
sound_low n b (h ∷ hs) s = (s.0.high, sound_low n b hs s.1)

filled : (f m o n : ℕ) → f ≤ m → (0 < f → o + f ≤ n) → min f (n - o) + (m - f) ≡ m
filled zero m o n h k = omega arith
filled (suc f) m o n h k = let e : o + suc f ≤ n = k (omega arith) in omega arith

-- a segment has as many bytes as its header says
segment_len : (f : List ℕ) (b : ℕ) (h : ProgramHeader) → IsSound (length f) b h → length (segment f b h).bytes ≡ h.p_memsz
segment_len f b h s =
    simp (length-append, length-take, length-drop, length-replicate) (filled h.p_filesz h.p_memsz h.p_offset (length f) s.within s.inside)

pub segments_shapes : (f : List ℕ) (b : ℕ) (hs : List ProgramHeader) → AreSound (length f) b hs → shapes (map (segment f b) hs) ≡ map (load_shape b) hs
segments_shapes f b [] s = refl
segments_shapes f b (h ∷ hs) s =
    let one : shape (segment f b h) ≡ load_shape b h = ap (λ n. record { start = start_of b h; len = n; flags = h.p_flags }) (segment_len f b h s.0) in
    ap (λ v. v ∷ map shape (map (segment f b) hs)) one ∙ ap (λ v. load_shape b h ∷ v) (segments_shapes f b hs s.1)

-- each of the segments ends in the lower half of the addresses
pub low_at : (b : ℕ) (hs : List ProgramHeader) (i : ℕ) (d : ProgramHeader) → AreLow b hs → i < length hs → end_of b (get_or hs i d) ≤ 0x7FFFFFFF
low_at b [] i d low lt = absurd (omega arith)
low_at b (h ∷ hs) zero d low lt = low.0
low_at b (h ∷ hs) (suc i) d low lt = low_at b hs i d low.1 (omega arith)
