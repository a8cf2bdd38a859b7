-- The segment that has the word of a relocation.
use Rattle.std.proofs.Common.{◌≡◌, ℕ, ◌+◌, ◌≤◌, ◌<◌, Bool, true, false, cond, ◌||◌, Option, Some, List, [], ◌∷◌, refl, ap, subst, arith, map}
use Rattle.std.specs.List.{list_any, find}
use Rattle.std.proofs.lemmas.Bool.Decides.{nat_tests}
use Rattle.std.proofs.lemmas.Option.{none-some}
use Rattle.std.proofs.lemmas.Bool.{or_right}
use Rattle.elf32.specs.declared.fields.ProgramHeader.{ProgramHeader}
use Rattle.elf32.specs.Checks.{end_of}
use Rattle.elf32.specs.Relocating.{has_word}
use Rattle.elf32.specs.Shapes.{in_shape, load_shape, AreLow, has_whole_word}

in_word : (b place k : ℕ) (h : ProgramHeader) → has_word b place h ≡ true → k < 4 → in_shape (place + k) (load_shape b h) ≡ true
in_word b place k h w lt = grind (arith, nat_tests)

inside : (b place : ℕ) (h : ProgramHeader) → has_word b place h ≡ true → place + 4 ≤ end_of b h
inside b place h w = grind (arith, nat_tests)

-- what holds of the first element that passes, from what holds of each that passes
found_go : {A : Type 0} (t : Bool) (x y : A) (rest : Option A) (P : Type 0) → cond t (Some x) rest ≡ Some y → (t ≡ true → x ≡ y → P) → (t ≡ false → rest ≡ Some y → P) → P
found_go true x y rest P h here there = here refl (cc)
found_go false x y rest P h here there = there refl h

-- each byte of the word lies in a segment
pub target_whole : (b place : ℕ) (hs : List ProgramHeader) (g : ProgramHeader) → find (has_word b place) hs ≡ Some g → has_whole_word (map (load_shape b) hs) place
target_whole b place [] g h = λ k lt. absurd (none-some g h)
target_whole b place (x ∷ hs) g h = λ k lt.
    found_go (has_word b place x) x g (find (has_word b place) hs) (list_any (in_shape (place + k)) (map (load_shape b) (x ∷ hs)) ≡ true) h
    (λ w e. ap (λ v. v || list_any (in_shape (place + k)) (map (load_shape b) hs)) (in_word b place k x w lt))
    (λ w e. or_right (in_shape (place + k) (load_shape b x)) _ (target_whole b place hs g e k lt))

-- the word ends in its segment
pub target_inside : (b place : ℕ) (hs : List ProgramHeader) (g : ProgramHeader) → find (has_word b place) hs ≡ Some g → place + 4 ≤ end_of b g
target_inside b place [] g h = absurd (none-some g h)
target_inside b place (x ∷ hs) g h =
    found_go (has_word b place x) x g (find (has_word b place) hs) (place + 4 ≤ end_of b g) h
    (λ w e. let P : ProgramHeader → Type 0 = λ v. place + 4 ≤ end_of b v in subst P e (inside b place x w))
    (λ w e. target_inside b place hs g e)

-- the segment ends in the lower half of the addresses
pub target_low : (b place : ℕ) (hs : List ProgramHeader) (g : ProgramHeader) → AreLow b hs → find (has_word b place) hs ≡ Some g → end_of b g ≤ 0x7FFFFFFF
target_low b place [] g low h = absurd (none-some g h)
target_low b place (x ∷ hs) g low h =
    found_go (has_word b place x) x g (find (has_word b place) hs) (end_of b g ≤ 0x7FFFFFFF) h
    (λ w e. let P : ProgramHeader → Type 0 = λ v. end_of b v ≤ 0x7FFFFFFF in subst P e low.0)
    (λ w e. target_low b place hs g low.1 e)
