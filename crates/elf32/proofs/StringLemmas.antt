-- Texts that end in a NUL, in a part of a file and where that part stands in a buffer.
use Rattle.std.proofs.Common.{◌≡◌, ℕ, suc, zero, ◌+◌, ◌-◌, ◌≤◌, ◌<◌, min, Bool, true, false, not, cond, nat_lt, Option, Some, None, List, [], ◌∷◌, ◌++◌, length, take, drop, refl, ap, sym, subst, ◌∙◌, arith, length-drop, get_or, eqb-true, eq-eqb}
use Rattle.std.specs.Prelude.{◌/◌, ◌==◌, slice_get}
use Rattle.std.specs.List.{cons_option, filter_map, prefix_len, position_or_len}
use Rattle.std.specs.Option.{option_map, option_map_or}
use Rattle.std.proofs.lemmas.List.{get_or-drop, get_or_past, drop-drop}
use Rattle.std.proofs.lemmas.Bool.{cond_both, ltb-true, ltb-false, le-ltb}
use Rattle.std.proofs.lemmas.Bool.Decides.{nat_tests}
use Rattle.std.proofs.lemmas.Option.{slice_get_past}
use Rattle.std.proofs.Math.Seq.{drop-nil}
use Rattle.image_map.specs.declared.symbols.SymbolPlace.{SymbolPlace}
use Rattle.image_map.specs.Names.{Symbol, symbol_at, symbols_at, value_of}
use Rattle.image_map.specs.Texts.{is_nul, first_text, text_at}
use Rattle.image_map.proofs.TextLemmas.{first_text-cons}
use Rattle.elf32.specs.declared.fields.SectionHeader.{SectionHeader}
use Rattle.elf32.specs.declared.fields.SymbolEntry.{SymbolEntry}
use Rattle.elf32.specs.declared.fields.SymbolId.{SymbolId}
use Rattle.elf32.specs.declared.strings.StringTable.{StringTable}
use Rattle.elf32.specs.Fields.{symbol_entry, rows}
use Rattle.elf32.specs.Checks.{has_type}
use Rattle.elf32.specs.Found.{Adds}
use Rattle.elf32.specs.Loading.{extern_name}
use Rattle.elf32.specs.Names.{c_string, is_linked, name, string_bytes, symbol_of, symbol_in, symbols_of}
use Rattle.elf32.specs.Strings.{IsStringLen, linked_bytes, table_at, no_table, AreStrings, name_start, name_from, place_of, placed}

-- how many bytes stand before the first NUL
abbrev pub text_len : List ℕ → ℕ
text_len bytes = position_or_len is_nul bytes

-- -- Parts of lists

shorter : (b : Bool) (m k r : ℕ) → r ≡ min m k → cond b (1 + r) 0 ≡ min (suc m) (cond b (1 + k) 0)
shorter true m k r h = omega (arith, h)
shorter false m k r h = omega arith

prefix_take : {A : Type 0} (p : A → Bool) (m : ℕ) (xs : List A) → prefix_len p (take m xs) ≡ min m (prefix_len p xs)
prefix_take p zero xs = omega arith
prefix_take p (suc m) [] = omega arith
prefix_take p (suc m) (x ∷ xs) = shorter (p x) m (prefix_len p xs) (prefix_len p (take m xs)) (prefix_take p m xs)

pub take_take : {A : Type 0} (z m : ℕ) (xs : List A) → z ≤ m → take z (take m xs) ≡ take z xs
take_take zero m xs h = refl
take_take (suc z) zero xs h = absurd (omega arith)
take_take (suc z) (suc m) [] h = refl
take_take (suc z) (suc m) (x ∷ xs) h = ap (λ v. x ∷ v) (take_take z m xs (omega arith))

take_nil : {A : Type 0} (n : ℕ) → take {A = A} n [] ≡ []
take_nil zero = refl
take_nil (suc n) = refl

drop_take : {A : Type 0} (n m : ℕ) (xs : List A) → drop n (take m xs) ≡ take (m - n) (drop n xs)
drop_take zero m xs = let e : m - 0 ≡ m = omega arith in rw e refl
drop_take (suc n) zero xs = let e : 0 - suc n ≡ 0 = omega arith in rw e refl
drop_take (suc n) (suc m) [] = sym (take_nil (suc m - suc n))
drop_take (suc n) (suc m) (x ∷ xs) = let e : suc m - suc n ≡ m - n = omega arith in rw e (drop_take n m xs)

-- -- Texts

form_go : (b : Bool) (n : ℕ) (xs : List ℕ) → option_map_or (λ n. take n xs) (cond b (Some n) None) [] ≡ cond b (take n xs) []
form_go true n xs = refl
form_go false n xs = refl

c_form : (xs : List ℕ) → c_string xs ≡ cond (nat_lt (text_len xs) (length xs)) (first_text xs) []
c_form xs = form_go (nat_lt (text_len xs) (length xs)) (text_len xs) xs

below : (z n : ℕ) → z < n → nat_lt z n ≡ true
below z n h = grind (arith, nat_tests)

c_at : (xs : List ℕ) → text_len xs < length xs → c_string xs ≡ first_text xs
c_at xs lt = c_form xs ∙ ap (λ t. cond t (first_text xs) []) (below (text_len xs) (length xs) lt)

c_none : (xs : List ℕ) → length xs ≤ text_len xs → c_string xs ≡ []
c_none xs le = c_form xs ∙ ap (λ t. cond t (first_text xs) []) (le-ltb (text_len xs) (length xs) le)

here_go : (b : Bool) (n : ℕ) → b ≡ true → cond (not b) (1 + n) 0 ≤ 0
here_go true n h = omega arith
here_go false n h = absurd (cc)

later_go : (b : Bool) (n k : ℕ) → n ≤ k → cond (not b) (1 + n) 0 ≤ suc k
later_go true n k h = omega arith
later_go false n k h = omega arith

-- a text ends at the first NUL
nul_within : (xs : List ℕ) (k : ℕ) → k < length xs → get_or xs k 0 ≡ 0 → text_len xs ≤ k
nul_within [] k lt is = absurd (omega arith)
nul_within (x ∷ xs) zero lt is = here_go (x == 0) (text_len xs) (eq-eqb x 0 is)
nul_within (x ∷ xs) (suc k) lt is = later_go (x == 0) (text_len xs) k (nul_within xs k (omega arith) is)

none_go : (b : Bool) (n m : ℕ) → (b ≡ true → ⊥) → m ≤ n → suc m ≤ cond (not b) (1 + n) 0
none_go true n m f h = absurd (f refl)
none_go false n m f h = omega arith

no_nul : (xs : List ℕ) → ((k : ℕ) → k < length xs → get_or xs k 0 ≡ 0 → ⊥) → length xs ≤ text_len xs
no_nul [] f = omega arith
no_nul (x ∷ xs) f = none_go (x == 0) (text_len xs) (length xs) (λ h. f 0 (omega arith) (eqb-true x 0 h)) (no_nul xs (λ k lt is. f (suc k) (omega arith) is))

empty_go : (b : Bool) (x : ℕ) (ys : List ℕ) → b ≡ true → [] ≡ cond b [] (x ∷ ys)
empty_go true x ys h = refl
empty_go false x ys h = absurd (cc)

-- where a NUL stands, or nothing, there is no text
starts_empty : (buffer : List ℕ) (s : ℕ) → get_or buffer s 0 ≡ 0 → [] ≡ text_at buffer s
starts_empty [] s h = ap first_text (sym (drop-nil s))
starts_empty (x ∷ xs) zero h = empty_go (is_nul x) x (first_text xs) (eq-eqb x 0 h) ∙ sym (first_text-cons x xs)
starts_empty (x ∷ xs) (suc s) h = starts_empty xs s h

-- behind the end there is none
pub ends_empty : (buffer : List ℕ) → [] ≡ text_at buffer (length buffer)
ends_empty buffer = starts_empty buffer (length buffer) (get_or_past buffer (length buffer) 0 (omega arith))

begun_go : (b : Bool) (x : ℕ) (ys : List ℕ) → b ≡ false → cond b [] (x ∷ ys) ≡ x ∷ ys
begun_go true x ys h = absurd (cc)
begun_go false x ys h = refl

-- any other byte begins a text
begun : (buffer : List ℕ) (s : ℕ) → (get_or buffer s 0 == 0) ≡ false → (x : ℕ) × ((ys : List ℕ) × (text_at buffer s ≡ x ∷ ys))
begun [] s h = absurd (cc)
begun (x ∷ xs) zero h = (x, (first_text xs, first_text-cons x xs ∙ begun_go (is_nul x) x (first_text xs) h))
begun (x ∷ xs) (suc s) h = begun xs s h

-- -- A part of a file that stands in a buffer

in_table : (part buffer : List ℕ) (start len at : ℕ) → at < len → IsStringLen part len → take len (drop start buffer) ≡ take len part
    → text_at buffer (start + at) ≡ c_string (drop at part)
in_table part buffer start len at lt h same =
    let ys : List ℕ = drop at part in
    let zs : List ℕ = drop (start + at) buffer in
    let m : ℕ = len - at in
    let z : ℕ = text_len ys in
    let alike : take m zs ≡ take m ys =
    sym (drop_take at len (drop start buffer) ∙ ap (λ v. take m v) (drop-drop at start buffer)) ∙ (ap (λ v. drop at v) same ∙ drop_take at len part) in
    let all : length ys ≡ length part - at = length-drop at part in
    let within : len ≤ length part = h.within in
    let last : get_or part (len - 1) 0 ≡ 0 = h.last (len - 1) (omega arith) in
    let place : at + (len - 1 - at) ≡ len - 1 = omega arith in
    let there : get_or ys (len - 1 - at) 0 ≡ 0 = get_or-drop at part (len - 1 - at) 0 ∙ (ap (λ k. get_or part k 0) place ∙ last) in
    let few : z ≤ len - 1 - at = nul_within ys (len - 1 - at) (omega (arith, all, within)) there in
    let mine : text_len (take m ys) ≡ min m z = prefix_take (λ b. not (is_nul b)) m ys in
    let other : text_len (take m zs) ≡ min m (text_len zs) = prefix_take (λ b. not (is_nul b)) m zs in
    let both : text_len (take m zs) ≡ text_len (take m ys) = ap text_len alike in
    let equal : text_len zs ≡ z = omega (arith, mine, other, both, few) in
    let le : z ≤ m = omega (arith, few) in
    ap (λ n. take n zs) equal ∙ (sym (take_take z m zs le) ∙ (ap (λ v. take z v) alike ∙ (take_take z m ys le ∙ sym (c_at ys (omega (arith, few, all, within))))))

out_table : (part : List ℕ) (len at : ℕ) → len ≤ at → IsStringLen part len → [] ≡ c_string (drop at part)
out_table part len at le h =
    let all : length (drop at part) ≡ length part - at = length-drop at part in
    sym (c_none (drop at part) (no_nul (drop at part) (λ k lt is. h.behind (at + k) (omega arith) (omega (arith, all)) (sym (get_or-drop at part k 0) ∙ is))))

pub table_name : (part buffer : List ℕ) (t : StringTable) (at : ℕ) → IsStringLen part t.len → take t.len (drop t.start buffer) ≡ take t.len part
    → name_from buffer (name_start buffer t at) ≡ c_string (drop at part)
unfolding name_start
table_name part buffer t at h same =
    let p : ℕ = t.start + at in
    cond_both {A = Option ℕ} (nat_lt at t.len) (cond (get_or buffer p 0 == 0) None (Some p)) None (λ o. name_from buffer o ≡ c_string (drop at part))
    (λ yea. let there : text_at buffer p ≡ c_string (drop at part) = in_table part buffer t.start t.len at (ltb-true _ _ yea) h same in
    cond_both {A = Option ℕ} (get_or buffer p 0 == 0) None (Some p) (λ o. name_from buffer o ≡ c_string (drop at part))
    (λ nul. starts_empty buffer p (eqb-true _ _ nul) ∙ there)
    (λ other. there))
    (λ nay. out_table part t.len at (ltb-false _ _ nay) h)

name_go : (c : Bool) (buffer : List ℕ) (s v x : ℕ) (ys : List ℕ) → text_at buffer s ≡ x ∷ ys
    → option_map (symbol_at buffer) (cond c None (Some (record { start = s; value = v }))) ≡ cond c None (Some (record { name = x ∷ ys; value = v }))
name_go true buffer s v x ys h = refl
name_go false buffer s v x ys h = ap (λ n. Some (record { name = n; value = v })) h

from_go : (b : ℕ) (buffer : List ℕ) (s : ℕ) (e : SymbolEntry) → (get_or buffer s 0 == 0) ≡ false → option_map (symbol_at buffer) (place_of b (Some s) e) ≡ symbol_of b (text_at buffer s) e
from_go b buffer s e h =
    let text = begun buffer s h in
    subst (λ n. option_map (symbol_at buffer) (place_of b (Some s) e) ≡ symbol_of b n e) (sym text.1.1) (name_go (e.st_shndx == 0) buffer s _ text.0 text.1.0 text.1.1)

-- a symbol at its place is the symbol with the name there
place_name : (b : ℕ) (buffer : List ℕ) (t : StringTable) (e : SymbolEntry) → placed buffer b t e ≡ symbol_of b (name_from buffer (name_start buffer t e.st_name)) e
unfolding name_start
place_name b buffer t e =
    let p : ℕ = t.start + e.st_name in
    cond_both {A = Option ℕ} (nat_lt e.st_name t.len) (cond (get_or buffer p 0 == 0) None (Some p)) None (λ o. option_map (symbol_at buffer) (place_of b o e) ≡ symbol_of b (name_from buffer o) e)
    (λ yea. cond_both {A = Option ℕ} (get_or buffer p 0 == 0) None (Some p) (λ o. option_map (symbol_at buffer) (place_of b o e) ≡ symbol_of b (name_from buffer o) e)
    (λ nul. refl)
    (λ other. from_go b buffer p e other))
    (λ nay. refl)

-- -- The strings of a file

no_section : (f : List ℕ) (ss : List SectionHeader) (link : ℕ) → length ss ≤ link → string_bytes f ss link ≡ []
unfolding string_bytes
no_section f ss link le = rw (slice_get_past ss link le) refl

none_start : (buffer : List ℕ) (at : ℕ) → name_start buffer no_table at ≡ None
unfolding name_start
none_start buffer at = rw (le-ltb at 0 (omega arith)) refl

linked_is : (f : List ℕ) (ss : List SectionHeader) (link : ℕ) → is_linked ss link ≡ true → linked_bytes f ss link ≡ string_bytes f ss link
linked_is f ss link h = ap (λ b. cond b (string_bytes f ss link) []) h

-- the name at an index of a table is the one that the file has
pub strings_name : (f : List ℕ) (ss : List SectionHeader) (buffer : List ℕ) (tables : List StringTable) (link at : ℕ) → AreStrings f ss buffer tables → is_linked ss link ≡ true
    → name_from buffer (name_start buffer (table_at tables link) at) ≡ name f ss link at
strings_name f ss buffer tables link at h linked =
    cond_both {A = Bool} (nat_lt link (length ss)) true true (λ _. name_from buffer (name_start buffer (table_at tables link) at) ≡ name f ss link at)
    (λ yea. let t = h.tables.each link (ltb-true _ _ yea) in
    table_name (linked_bytes f ss link) buffer (table_at tables link) at t.len t.same ∙ ap (λ v. c_string (drop at v)) (linked_is f ss link linked))
    (λ nay. let le : length ss ≤ link = ltb-false _ _ nay in
    let all : length tables ≡ length ss = h.tables.all in
    let none : table_at tables link ≡ no_table = get_or_past tables link no_table (omega (arith, all, le)) in
    ap (λ t. name_from buffer (name_start buffer t at)) none
    ∙ (ap (name_from buffer) (none_start buffer at)
    ∙ (ap c_string (sym (drop-nil at)) ∙ ap (λ v. c_string (drop at v)) (sym (no_section f ss link le)))))

-- and so is the symbol of an entry
pub strings_symbol : (f : List ℕ) (b : ℕ) (ss : List SectionHeader) (buffer : List ℕ) (tables : List StringTable) (t : SectionHeader) → AreStrings f ss buffer tables → is_linked ss t.sh_link ≡ true
    → placed buffer b (table_at tables t.sh_link) ≡ symbol_in f b ss t
strings_symbol f b ss buffer tables t h linked = λ i e. (place_name b buffer (table_at tables t.sh_link) e ∙ ap (λ n. symbol_of b n e) (strings_name f ss buffer tables t.sh_link e.st_name h linked)) i

-- the name of an extern, by where its table stands
pub extern_text : (f : List ℕ) (ss : List SectionHeader) (buffer view : List ℕ) (tables : List StringTable) (id : SymbolId) (s : SectionHeader) (t : StringTable) (e : SymbolEntry) (o : Option ℕ)
    → AreStrings f ss buffer tables → slice_get ss id.table ≡ Some s → is_linked ss s.sh_link ≡ true → view ≡ buffer → t ≡ table_at tables s.sh_link → e ≡ symbol_entry f s.sh_offset id.index
    → o ≡ name_start view t e.st_name → name_from buffer o ≡ extern_name f ss id
extern_text f ss buffer view tables id s t e o h at linked view_is t_is e_is o_is =
    let found : extern_name f ss id ≡ name f ss s.sh_link (symbol_entry f s.sh_offset id.index).st_name =
    ap (λ v. option_map_or (λ (u : SectionHeader). name f ss u.sh_link (symbol_entry f u.sh_offset id.index).st_name) v []) at in
    let start : o ≡ name_start buffer (table_at tables s.sh_link) (symbol_entry f s.sh_offset id.index).st_name = rw (o_is, view_is, t_is, e_is) refl in
    ap (name_from buffer) start ∙ (strings_name f ss buffer tables s.sh_link (symbol_entry f s.sh_offset id.index).st_name h linked ∙ sym found)

-- the symbols of a table, by where its strings stand
pub section_adds : (K : Type 0 → Type 0) (f : List ℕ) (b : ℕ) (ss : List SectionHeader) (buffer view : List ℕ) (tables : List StringTable) (table : StringTable) (s : SectionHeader) (t : ℕ) (old new : List SymbolPlace)
    → view ≡ buffer → table ≡ table_at tables s.sh_link → has_type t s ≡ true → AreStrings f ss buffer tables → is_linked ss s.sh_link ≡ true
    → K (Adds (symbols_at view old) (symbols_at view new) (filter_map (placed view b table) (rows (symbol_entry f s.sh_offset) (s.sh_size / 16))))
    → K (Adds (symbols_at buffer old) (symbols_at buffer new) (cond (has_type t s) (symbols_of f b ss s) []))
section_adds K f b ss buffer view tables table s t old new view_is table_is typed h linked adds =
    let here = subst (λ v. K (Adds (symbols_at v old) (symbols_at v new) (filter_map (placed v b table) (rows (symbol_entry f s.sh_offset) (s.sh_size / 16))))) view_is adds in
    let there = subst (λ u. K (Adds (symbols_at buffer old) (symbols_at buffer new) (filter_map (placed buffer b u) (rows (symbol_entry f s.sh_offset) (s.sh_size / 16))))) table_is here in
    let all = subst (λ g. K (Adds (symbols_at buffer old) (symbols_at buffer new) (filter_map g (rows (symbol_entry f s.sh_offset) (s.sh_size / 16))))) (strings_symbol f b ss buffer tables s h linked) there in
    subst (λ c. K (Adds (symbols_at buffer old) (symbols_at buffer new) (cond c (symbols_of f b ss s) []))) (sym typed) all

-- -- A table with no strings

no_place : (buffer : List ℕ) (b : ℕ) (t : StringTable) (e : SymbolEntry) → t.len ≡ 0 → placed buffer b t e ≡ None
unfolding name_start
no_place buffer b t e none =
    ap (λ v. option_map (symbol_at buffer) (place_of b v e))
    (cond_both (nat_lt e.st_name t.len) _ _ (λ v. v ≡ None) (λ yes. absurd (let lt : e.st_name < t.len = ltb-true e.st_name t.len yes in omega arith)) (λ _. refl))

none_named : (buffer : List ℕ) (b : ℕ) (t : StringTable) (es : List SymbolEntry) → t.len ≡ 0 → filter_map (placed buffer b t) es ≡ []
none_named buffer b t [] none = refl
none_named buffer b t (e ∷ es) none = ap (λ o. cons_option o (filter_map (placed buffer b t) es)) (no_place buffer b t e none) ∙ none_named buffer b t es none

pub none_added : (buffer : List ℕ) (b : ℕ) (t : StringTable) (es : List SymbolEntry) (found : List Symbol) → t.len ≡ 0 → Adds found found (filter_map (placed buffer b t) es)
none_added buffer b t es found none = λ rest m. ap (λ v. value_of (found ++ (v ++ rest)) m) (sym (none_named buffer b t es none))
