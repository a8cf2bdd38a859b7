-- A file has one image, as far as its addresses show: images of one file have the same entry, the same code and the same bytes.
use Rattle.std.proofs.Common.{◌≡◌, ℕ, zero, suc, ◌+◌, Bool, true, false, cond, List, [], ◌∷◌, Option, Some, None, Result, Ok, Err, refl, sym, ◌∙◌, ap, arith}
use Rattle.std.specs.Prelude.{IfOk, MatchOption, bit_and, ◌==◌, ◌||◌, is_some, map, length}
use Rattle.std.specs.List.{list_any}
use Rattle.std.proofs.lemmas.Bool.{false≢true}
use Rattle.std.specs.Option.{option_map_or}
use Rattle.image_map.specs.declared.image.Segment.{Segment}
use Rattle.image_map.specs.declared.image.Extern.{Extern}
use Rattle.image_map.specs.declared.image.Image.{Image}
use Rattle.image_map.specs.Memory.{holds, has_flag, segment_at, is_in}
use Rattle.image_map.specs.Queries.{byte_at, is_code, is_in_segment}
use Rattle.image_map.specs.Whole.{IsImage}
use Rattle.elf32.specs.declared.error.ElfError.{ElfError}
use Rattle.elf32.specs.Checks.{sections, no_header, wrong_identity, wrong_header, short_tables, wrong_segments, short_sections}
use Rattle.elf32.specs.Shapes.{in_shape}
use Rattle.elf32.specs.Relocating.{Relocated}
use Rattle.elf32.specs.Loading.{outcome, error_of, wrong_relocation, failure, extern_name, Shows, Loads}
use Rattle.elf32.proofs.Whole.{shown_image}
use Rattle.ia32_semantics.specs.Fetch.{code_byte, begun_by, code_run}
use Rattle.command_words.specs.declared.line.Entry.{Entry}
use Rattle.command_words.specs.declared.line.Entry.TheVariants as entries
use Rattle.elf32.proofs.Sound.{neither}
use Rattle.image_map.specs.Shapes.{Shape, shapes}
use Rattle.surf_prog.specs.Entry.{entry_place, Enters, IsNoEntry}
use Rattle.std.proofs.lemmas.Option.{same_Some}

-- -- A file with an image passes each check

pub record Passes (file : List ℕ) : Type 0 where
  pub segments : wrong_segments file ≡ None
  pub relocations : wrong_relocation file ≡ None

passes : (file : List ℕ) → failure file ≡ None → Passes file
passes file none =
    let one = neither (no_header file) _ none in
    let two = neither (wrong_identity file) _ one.1 in
    let three = neither (wrong_header file) _ two.1 in
    let four = neither (short_tables file) _ three.1 in
    let five = neither (wrong_segments file) _ four.1 in
    let six = neither (short_sections file) _ five.1 in
    let seven = neither (wrong_relocation file) None six.1 in
    record { segments = five.0; relocations = seven.0 }

-- what an image of a file shows
pub record Shown (file : List ℕ) (image : Image) : Type 0 where
  pub state : Relocated
  pub done : outcome file ≡ Ok state
  pub shows : Shows file state image

done_shown : (file : List ℕ) (image : Image) (r : Result Relocated ElfError) → outcome file ≡ r → error_of r ≡ None → IfOk r (λ st. Shows file st image) → Shown file image
done_shown file image (Ok st) is none shows = record { state = st; done = is; shows = shows }
done_shown file image (Err e) is none shows = absurd (cc)

pub shown : (file : List ℕ) (image : Image) → Loads file image → Shown file image
shown file image loads = done_shown file image (outcome file) refl (passes file loads.passes).relocations loads.shows

-- it is an image
pub loaded_image : (file : List ℕ) (image : Image) → Loads file image → IsImage image
loaded_image file image loads =
    let found = shown file image loads in
    shown_image file found.state image (passes file loads.passes).segments found.done found.shows

-- the state after the last relocation is one
one_state : (file : List ℕ) (i j : Image) (p : Shown file i) (q : Shown file j) → p.state ≡ q.state
one_state file i j p q =
    let same : ◌≡◌ {A = Result Relocated ElfError} (Ok p.state) (Ok q.state) = sym p.done ∙ q.done in
    cc

-- -- What images of one file share

pub same_entry : (file : List ℕ) (i j : Image) → Loads file i → Loads file j → i.entry ≡ j.entry
same_entry file i j p q = (shown file i p).shows.entry ∙ sym (shown file j q).shows.entry

-- symbols have one value
pub same_place : (file : List ℕ) (i j : Image) → Loads file i → Loads file j → (entry : Option Entry) → entry_place i entry ≡ entry_place j entry
same_place file i j p q None = ap Some (same_entry file i j p q)
same_place file i j p q (Some (entries.Address at)) = refl
same_place file i j p q (Some (entries.Symbol name)) = (shown file i p).shows.symbols name ∙ sym ((shown file j q).shows.symbols name)

-- whether an address lies in a segment with a flag, told by where segments stand
abbrev in_shapes : List Shape → ℕ → ℕ → Bool
in_shapes [] bit a = false
in_shapes (s ∷ ss) bit a = cond (in_shape a s) (bit_and s.flags bit == bit) (in_shapes ss bit a)

in_go : (b : Bool) (s : Segment) (rest : Option Segment) (r : Bool) (bit : ℕ) → option_map_or (has_flag bit) rest false ≡ r → option_map_or (has_flag bit) (cond b (Some s) rest) false ≡ cond b (has_flag bit s) r
in_go true s rest r bit e = refl
in_go false s rest r bit e = e

is_in_by_shapes : (ss : List Segment) (bit a : ℕ) → is_in ss bit a ≡ in_shapes (shapes ss) bit a
is_in_by_shapes [] bit a = refl
is_in_by_shapes (s ∷ ss) bit a = in_go (holds a s) s (segment_at ss a) (in_shapes (shapes ss) bit a) bit (is_in_by_shapes ss bit a)

pub same_code : (file : List ℕ) (i j : Image) → Loads file i → Loads file j → (a : ℕ) → is_code i a ≡ is_code j a
same_code file i j p q a =
    let shape_is : shapes i.segments ≡ shapes j.segments = (shown file i p).shows.segments ∙ sym (shown file j q).shows.segments in
    is_in_by_shapes i.segments 1 a ∙ ap (λ ss. in_shapes ss 1 a) shape_is ∙ sym (is_in_by_shapes j.segments 1 a)

pub same_flag : (file : List ℕ) (i j : Image) (bit : ℕ) → Loads file i → Loads file j → (a : ℕ) → is_in i.segments bit a ≡ is_in j.segments bit a
same_flag file i j bit p q a =
    let shape_is : shapes i.segments ≡ shapes j.segments = (shown file i p).shows.segments ∙ sym (shown file j q).shows.segments in
    is_in_by_shapes i.segments bit a ∙ ap (λ ss. in_shapes ss bit a) shape_is ∙ sym (is_in_by_shapes j.segments bit a)

there_go : (b : Bool) (s : Segment) (rest : Option Segment) (r : Bool) → is_some rest ≡ r → is_some (cond b (Some s) rest) ≡ (b || r)
there_go true s rest r e = refl
there_go false s rest r e = e

there_by_shapes : (ss : List Segment) (a : ℕ) → is_some (segment_at ss a) ≡ list_any (in_shape a) (shapes ss)
there_by_shapes [] a = refl
there_by_shapes (s ∷ ss) a = there_go (holds a s) s (segment_at ss a) (list_any (in_shape a) (shapes ss)) (there_by_shapes ss a)

-- an address lies in a segment of each
pub same_there : (file : List ℕ) (i j : Image) → Loads file i → Loads file j → (a : ℕ) → is_in_segment i a ≡ is_in_segment j a
same_there file i j p q a =
    let shape_is : shapes i.segments ≡ shapes j.segments = (shown file i p).shows.segments ∙ sym (shown file j q).shows.segments in
    there_by_shapes i.segments a ∙ ap (λ ss. list_any (in_shape a) ss) shape_is ∙ sym (there_by_shapes j.segments a)

names_alike : (xs ys : List Extern) → map (λ (e : Extern). e.name) xs ≡ map (λ (e : Extern). e.name) ys → xs ≡ ys
names_alike [] [] same = refl
names_alike [] (y ∷ ys) same = absurd (let long = ap length same in omega arith)
names_alike (x ∷ xs) [] same = absurd (let long = ap length same in omega arith)
names_alike (x ∷ xs) (y ∷ ys) same =
    let first : x.name ≡ y.name = cc in
    let rest : map (λ (e : Extern). e.name) xs ≡ map (λ (e : Extern). e.name) ys = cc in
    ap (λ n. record x { name = n } ∷ xs) first ∙ ap (λ l. y ∷ l) (names_alike xs ys rest)

pub same_externs : (file : List ℕ) (i j : Image) → Loads file i → Loads file j → i.externs ≡ j.externs
same_externs file i j p q =
    let one = shown file i p in
    let two = shown file j q in
    names_alike i.externs j.externs (one.shows.externs ∙ ap (λ (st : Relocated). map (extern_name file (sections file)) st.externs) (one_state file i j one two) ∙ sym two.shows.externs)

pub same_bytes : (file : List ℕ) (i j : Image) → Loads file i → Loads file j → (a : ℕ) → byte_at i a ≡ byte_at j a
same_bytes file i j p q a =
    let one = shown file i p in
    let two = shown file j q in
    one.shows.memory a ∙ ap (λ (st : Relocated). st.memory a) (one_state file i j one two) ∙ sym (two.shows.memory a)

same_code_byte : (file : List ℕ) (i j : Image) → Loads file i → Loads file j → (a : ℕ) → code_byte i a ≡ code_byte j a
same_code_byte file i j p q a = let code = same_code file i j p q a in let byte = same_bytes file i j p q a in λ k. cond (code k) (byte k) None

pub same_run : (file : List ℕ) (i j : Image) → Loads file i → Loads file j → (a n : ℕ) → code_run i a n ≡ code_run j a n
unfolding code_run
same_run file i j p q a zero = refl
same_run file i j p q a (suc n) = let byte = same_code_byte file i j p q a in let rest = same_run file i j p q (a + 1) n in λ k. begun_by (byte k) (rest k)

-- images of one file are entered at one place
pub one_place : (file : List ℕ) (entry : Option Entry) (i j : Image) (a b : ℕ) → Loads file i → Loads file j → Enters i entry a → Enters j entry b → a ≡ b
one_place file entry i j a b l m p q =
    let same : ◌≡◌ {A = Option ℕ} (Some a) (Some b) = sym p.finds ∙ same_place file i j l m entry ∙ q.finds in
    cc

-- an image is entered at one place
pub entered_once : (image : Image) (entry : Option Entry) (a b : ℕ) → Enters image entry a → Enters image entry b → a ≡ b
entered_once image entry a b p q = same_Some a b (sym p.finds ∙ q.finds)

-- where it is entered in code, it isn't so that it is entered nowhere
place_lacks : (image : Image) (found : Option ℕ) (place : ℕ) → found ≡ Some place → is_code image place ≡ true → MatchOption found (Unit {0}) (λ a. is_code image a ≡ false) → ⊥
place_lacks image None place is code lacks = absurd (cc)
place_lacks image (Some a) place is code lacks = let same : a ≡ place = cc in false≢true (sym lacks ∙ ap (is_code image) same ∙ code)

pub not_lacking : (image : Image) (entry : Option Entry) (place : ℕ) → Enters image entry place → ¬ IsNoEntry image entry
not_lacking image entry place entered lacks = place_lacks image (entry_place image entry) place entered.finds entered.enters lacks
