-- What a file says is an image: its segments are placed and share no address, and its externs are few.
use Rattle.std.proofs.Common.{◌≡◌, ◌⊎◌, inl, inr, ℕ, suc, ◌+◌, ◌≤◌, Bool, true, false, cond, ◌&&◌, ◌||◌, nat_lt, Option, Some, None, Result, Ok, Err, List, [], ◌∷◌, ◌++◌, refl, ap, sym, subst, ◌∙◌, arith, map, length}
use Rattle.std.specs.Prelude.{bit_and, ◌==◌}
use Rattle.std.specs.List.{find}
use Rattle.std.proofs.lemmas.Bool.{ltb-false, cond_both}
use Rattle.std.proofs.lemmas.Bool.Decides.{nat_tests}
use Rattle.std.proofs.lemmas.List.{length-map}
use Rattle.std.proofs.lemmas.Option.{none-some}
use Rattle.image_map.specs.declared.image.Segment.{Segment}
use Rattle.image_map.specs.declared.image.Image.{Image}
use Rattle.image_map.specs.declared.image.Extern.{Extern}
use Rattle.image_map.specs.Whole.{IsApartFrom, ArePlaced, IsImage}
use Rattle.image_map.specs.Shapes.{Shape, shape, shapes}
use Rattle.elf32.specs.declared.error.ElfError.{ElfError}
use Rattle.elf32.specs.declared.error.ElfError.TheVariants as errors
use Rattle.elf32.specs.declared.fields.ProgramHeader.{ProgramHeader}
use Rattle.elf32.specs.declared.fields.SymbolEntry.{SymbolEntry}
use Rattle.elf32.specs.declared.fields.Relocation.{Relocation}
use Rattle.elf32.specs.Checks.{or_else, when, overlap, shares_address, own_cause, load_cause, loads_cause, segments_cause, start_of, end_of, memory_of, wrong_segments, bias, loads, sections}
use Rattle.elf32.specs.Relocating.{Relocated, step, step_at, step_with, relocated, and_then, externs_after, is_kind, target}
use Rattle.elf32.specs.Shapes.{load_shape}
use Rattle.elf32.specs.Loading.{extern_name, outcome, begun, relocations, Shows}
use Rattle.elf32.proofs.Sound.{neither, own_sound}

record IsPlacedShape (s : Shape) : Type 0 where
  low : 0x1000 ≤ s.start
  high : s.start + s.len ≤ 0x7FFFFFFF
  flags : ((bit_and s.flags 2 == 2) && (bit_and s.flags 1 == 1)) ≡ false

abbrev ApartShapes : List Shape → Shape → Type 0
ApartShapes [] s = Unit {0}
ApartShapes (t ∷ ts) s = ((t.start + t.len ≤ s.start) ⊎ (s.start + s.len ≤ t.start)) × ApartShapes ts s

abbrev PlacedShapes : List Shape → Type 0
PlacedShapes [] = Unit {0}
PlacedShapes (s ∷ ss) = IsPlacedShape s × ApartShapes ss s × PlacedShapes ss

apart_from : (ss : List Segment) (s : Segment) → ApartShapes (shapes ss) (shape s) → IsApartFrom ss s
apart_from [] s h = tt
apart_from (t ∷ ts) s h = (h.0, apart_from ts s h.1)

placed_from : (ss : List Segment) → PlacedShapes (shapes ss) → ArePlaced ss
placed_from [] h = tt
placed_from (s ∷ ss) h = (record { low = h.0.low; high = h.0.high; flags = h.0.flags }, apart_from ss s h.1, placed_from ss h.2)

-- an element of a list, by the tests that none of its elements passes
abbrev Among : List ProgramHeader → ProgramHeader → Type 0
Among hs g = (p : ProgramHeader → Bool) → find p hs ≡ None → p g ≡ false

front_go : (b : Bool) (x : ProgramHeader) (one two : Option ProgramHeader) → (two ≡ None → one ≡ None) → cond b (Some x) two ≡ None → cond b (Some x) one ≡ None
front_go true x one two f h = h
front_go false x one two f h = f h

find_front : (p : ProgramHeader → Bool) (xs : List ProgramHeader) (y : ProgramHeader) → find p (xs ++ y ∷ []) ≡ None → find p xs ≡ None
find_front p [] y h = refl
find_front p (x ∷ xs) y h = front_go (p x) x (find p xs) (find p (xs ++ y ∷ [])) (find_front p xs y) h

last_go : (b : Bool) (x : ProgramHeader) (rest : Option ProgramHeader) (P : Type 0) → (rest ≡ None → P) → cond b (Some x) rest ≡ None → P
last_go true x rest P f h = absurd (none-some x (sym h))
last_go false x rest P f h = f h

alone_go : (b : Bool) (x : ProgramHeader) → cond b (Some x) None ≡ None → b ≡ false
alone_go true x h = absurd (none-some x (sym h))
alone_go false x h = refl

find_last : (p : ProgramHeader → Bool) (xs : List ProgramHeader) (y : ProgramHeader) → find p (xs ++ y ∷ []) ≡ None → p y ≡ false
find_last p [] y h = alone_go (p y) y h
find_last p (x ∷ xs) y h = last_go (p x) x (find p (xs ++ y ∷ [])) (p y ≡ false) (find_last p xs y) h

overlap_none : (h : ProgramHeader) (o : Option ProgramHeader) → overlap h o ≡ None → o ≡ None
overlap_none h None e = refl
overlap_none h (Some g) e = absurd (none-some _ (sym e))

apart_go : (s t e f : ℕ) → (nat_lt t e && nat_lt s f) ≡ false → (e ≤ t) ⊎ (f ≤ s)
apart_go s t e f h =
    cond_both {A = Bool} (nat_lt t e) true true (λ _. (e ≤ t) ⊎ (f ≤ s))
    (λ yea. inr (ltb-false s f (ap (λ v. v && nat_lt s f) (sym yea) ∙ h)))
    (λ nay. inl (ltb-false t e nay))

shape_apart : (b : ℕ) (h g : ProgramHeader) → shares_address b h g ≡ false → ((load_shape b h).start + (load_shape b h).len ≤ (load_shape b g).start) ⊎ ((load_shape b g).start + (load_shape b g).len ≤ (load_shape b h).start)
shape_apart b h g e = apart_go (start_of b h) (start_of b g) (end_of b h) (end_of b g) e

apart_later : (n b : ℕ) (before hs : List ProgramHeader) (g : ProgramHeader) → Among before g → loads_cause n b before hs ≡ None → ApartShapes (map (load_shape b) hs) (load_shape b g)
apart_later n b before [] g among none = tt
apart_later n b before (h ∷ hs) g among none =
    let both = neither (load_cause n b before h) (loads_cause n b (before ++ h ∷ []) hs) none in
    let later = neither (own_cause n b h) (or_else (overlap h (find (shares_address b h) before)) (when (nat_lt 67108864 (memory_of before + h.p_memsz)) errors.TooMany)) both.0 in
    let alone = neither (overlap h (find (shares_address b h) before)) (when (nat_lt 67108864 (memory_of before + h.p_memsz)) errors.TooMany) later.1 in (
      shape_apart b h g (among (shares_address b h) (overlap_none h (find (shares_address b h) before) alone.0)),
      apart_later n b (before ++ h ∷ []) hs g (λ p e. among p (find_front p before h e)) both.1,
    )

loads_placed : (n b : ℕ) (before hs : List ProgramHeader) → loads_cause n b before hs ≡ None → PlacedShapes (map (load_shape b) hs)
loads_placed n b before [] none = tt
loads_placed n b before (h ∷ hs) none =
    let both = neither (load_cause n b before h) (loads_cause n b (before ++ h ∷ []) hs) none in
    let own = own_sound n b h (neither (own_cause n b h) _ both.0).0 in (
      record { low = own.low; high = own.high; flags = own.flags },
      apart_later n b (before ++ h ∷ []) hs h (λ p e. find_last p before h e) both.1,
      loads_placed n b (before ++ h ∷ []) hs both.1,
    )

segments_placed : (n b : ℕ) (hs : List ProgramHeader) → segments_cause n b hs ≡ None → PlacedShapes (map (load_shape b) hs)
segments_placed n b [] none = tt
segments_placed n b (h ∷ hs) none = loads_placed n b [] (h ∷ hs) none

err_ok : (r : Result Relocated ElfError) (e : ElfError) (st : Relocated) → r ≡ Err e → r ≡ Ok st → ⊥
err_ok r e st a b = cc

-- no relocation leaves more than 1,024 externs
at_go : (t : Bool) (a next : Relocated) (e : ElfError) (P : Type 0) → (t ≡ false → a ≡ next → P) → cond t (Err e) (Ok a) ≡ Ok next → P
at_go true a next e P f h = absurd (err_ok (Err e) e next refl h)
at_go false a next e P f h = f refl (cc)

few_go : (i n : ℕ) → (nat_lt 65535 i || nat_lt 1024 n) ≡ false → n ≤ 1024
few_go i n h = grind (arith, nat_tests)

at_few : (b i : ℕ) (st next : Relocated) (r : Relocation) (s : SymbolEntry) (h : ProgramHeader) → step_at b i st r s h ≡ Ok next → length next.externs ≤ 1024
at_few b i st next r s h e =
    at_go (nat_lt 65535 i || nat_lt 1024 (length (externs_after st.externs r s))) _ next errors.TooMany (length next.externs ≤ 1024)
    (λ t is. subst (λ (v : Relocated). length v.externs ≤ 1024) is (few_go i (length (externs_after st.externs r s)) t)) e

kind_go : (t : Bool) (a : Result Relocated ElfError) (next : Relocated) (e : ElfError) (P : Type 0) → (a ≡ Ok next → P) → cond t a (Err e) ≡ Ok next → P
kind_go true a next e P f h = f h
kind_go false a next e P f h = absurd (err_ok (Err e) e next refl h)

with_few : (b : ℕ) (hs : List ProgramHeader) (i : ℕ) (st next : Relocated) (r : Relocation) (o : Option SymbolEntry) (t : Option ProgramHeader) → step_with b hs i st r o t ≡ Ok next → length next.externs ≤ 1024
with_few b hs i st next r None t e = absurd (err_ok (Err (errors.Relocation i r.kind)) (errors.Relocation i r.kind) next refl e)
with_few b hs i st next r (Some s) None e = absurd (err_ok (Err (errors.Relocation i r.kind)) (errors.Relocation i r.kind) next refl e)
with_few b hs i st next r (Some s) (Some h) e = kind_go (is_kind r.kind) (step_at b i st r s h) next (errors.Relocation i r.kind) (length next.externs ≤ 1024) (at_few b i st next r s h) e

step_few : (b : ℕ) (hs : List ProgramHeader) (i : ℕ) (st next : Relocated) (r : Relocation) → step b hs i st r ≡ Ok next → length next.externs ≤ 1024
unfolding step
step_few b hs i st next r e = with_few b hs i st next r r.symbol (target b hs r) e

then_go : (x : Result Relocated ElfError) (next : Relocated → Result Relocated ElfError) (last : Relocated) (P : Type 0) → ((st : Relocated) → x ≡ Ok st → next st ≡ Ok last → P) → and_then x next ≡ Ok last → P
then_go (Ok st) next last P f e = f st refl e
then_go (Err c) next last P f e = absurd (err_ok (Err c) c last refl e)

relocated_few : (b : ℕ) (hs : List ProgramHeader) (i : ℕ) (st last : Relocated) (rs : List Relocation) → length st.externs ≤ 1024 → relocated b hs i st rs ≡ Ok last → length last.externs ≤ 1024
relocated_few b hs i st last [] few e = at_go false st last errors.Magic (length last.externs ≤ 1024) (λ t is. subst (λ (v : Relocated). length v.externs ≤ 1024) is few) e
relocated_few b hs i st last (r ∷ rs) few e =
    then_go (step b hs i st r) (λ next. relocated b hs (suc i) next rs) last (length last.externs ≤ 1024)
    (λ next one rest. relocated_few b hs (suc i) next last rs (step_few b hs i st next r one) rest) e

outcome_few : (f : List ℕ) (last : Relocated) → outcome f ≡ Ok last → length last.externs ≤ 1024
unfolding outcome
outcome_few f last e = relocated_few (bias f) (loads f) 0 (begun f (bias f) (loads f)) last (relocations f) (omega arith) e

segments_none : (f : List ℕ) → wrong_segments f ≡ None → PlacedShapes (map (load_shape (bias f)) (loads f))
unfolding wrong_segments
segments_none f none = segments_placed (length f) (bias f) (loads f) none

-- an image that shows what a file says is an image
pub shown_image : (f : List ℕ) (st : Relocated) (i : Image) → wrong_segments f ≡ None → outcome f ≡ Ok st → Shows f st i → IsImage i
shown_image f st i none done shows = record {
  segments = placed_from i.segments (subst (λ v. PlacedShapes v) (sym shows.segments) (segments_none f none));
  externs =
      let few : length st.externs ≤ 1024 = outcome_few f st done in
      let same : length i.externs ≡ length st.externs = sym (length-map i.externs (λ (e : Extern). e.name)) ∙ (ap length shows.externs ∙ length-map st.externs (extern_name f (sections f))) in
      omega (arith, few, same);
}
