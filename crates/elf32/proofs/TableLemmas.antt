-- The tables of strings, found section by section.
use Rattle.std.proofs.Common.{◌≡◌, ℕ, suc, zero, ◌+◌, ◌-◌, ◌≤◌, ◌<◌, min, Bool, true, false, cond, Some, None, List, [], ◌∷◌, ◌++◌, length, length-drop, ◌||◌, take, drop, refl, ap, sym, subst, ◌∙◌, arith, get_or, eqb, eqb-true, eq-eqb}
use Rattle.std.specs.Prelude.{◌==◌, slice_get}
use Rattle.std.specs.List.{list_any}
use Rattle.std.specs.Option.{option_and_then, option_map_or}
use Rattle.std.proofs.lemmas.List.{length-take, length-append, get_or_append_left}
use Rattle.std.proofs.Math.Seq.{drop-append_seam, get_or-append_seam}
use Rattle.std.proofs.lemmas.Bool.{cond_both, or_right}
use Rattle.elf32.specs.declared.fields.SectionHeader.{SectionHeader}
use Rattle.elf32.specs.declared.strings.StringTable.{StringTable}
use Rattle.elf32.specs.Checks.{has_type}
use Rattle.elf32.specs.Names.{is_linked, string_bytes}
use Rattle.elf32.specs.Strings.{IsStringLen, linked_bytes, IsTable, table_at, no_table, HaveTables}
use Rattle.elf32.proofs.StringLemmas.{take_take}

take_front : (len : ℕ) (xs more : List ℕ) → len ≤ length xs → take len (xs ++ more) ≡ take len xs
take_front zero xs more h = refl
take_front (suc len) [] more h = absurd (omega arith)
take_front (suc len) (x ∷ xs) more h = ap (λ v. x ∷ v) (take_front len xs more (omega arith))

-- what stands in a buffer stays where more is put behind
kept : (xs more : List ℕ) (start len : ℕ) → len ≤ length xs - start → take len (drop start (xs ++ more)) ≡ take len (drop start xs)
kept xs more zero len h = take_front len xs more (omega arith)
kept [] more (suc start) zero h = refl
kept [] more (suc start) (suc len) h = absurd (omega arith)
kept (x ∷ xs) more (suc start) len h = kept xs more start len (omega arith)

table_kept : (f : List ℕ) (ss : List SectionHeader) (buffer more : List ℕ) (i : ℕ) (t : StringTable) → IsTable f ss buffer i t → IsTable f ss (buffer ++ more) i t
table_kept f ss buffer more i t h =
    let part : List ℕ = linked_bytes f ss i in
    let mine : length (take t.len (drop t.start buffer)) ≡ min t.len (length buffer - t.start) = length-take t.len (drop t.start buffer) ∙ ap (min t.len) (length-drop t.start buffer) in
    let other : length (take t.len part) ≡ min t.len (length part) = length-take t.len part in
    let both : length (take t.len (drop t.start buffer)) ≡ length (take t.len part) = ap length h.same in
    let within : t.len ≤ length part = h.len.within in
    record {
      len = h.len;
      same = kept buffer more t.start t.len (omega (arith, mine, other, both, within)) ∙ h.same;
    }

-- one more table stands behind the others
pub tables_more : (f : List ℕ) (ss : List SectionHeader) (old new : List ℕ) (tables : List StringTable) (t : StringTable) (n : ℕ)
    → ((i : ℕ) → i < n → IsTable f ss new i (table_at tables i)) → length tables ≡ n → IsTable f ss new n t → HaveTables f ss new (tables ++ t ∷ []) (n + 1)
tables_more f ss old new tables t n each all here =
    let more : length (tables ++ t ∷ []) ≡ length tables + 1 = length-append tables (t ∷ []) in
    record {
      all = omega (arith, more, all);
      each = λ i lt. cond_both {A = Bool} (eqb i n) true true (λ _. IsTable f ss new i (table_at (tables ++ t ∷ []) i))
          (λ yea. let e : i ≡ n = eqb-true i n yea in
          let seam : table_at (tables ++ t ∷ []) n ≡ t = ap (λ k. get_or (tables ++ t ∷ []) k no_table) (sym all) ∙ get_or-append_seam tables t [] no_table in
          subst (λ k. IsTable f ss new k (table_at (tables ++ t ∷ []) k)) (sym e) (subst (λ u. IsTable f ss new n u) (sym seam) here))
          (λ nay. let ne : i ≡ n → ⊥ = λ e. (let b : true ≡ false = sym (eq-eqb i n e) ∙ nay in cc) in
          let less : i < n = omega (arith, lt, ne) in
          subst (λ u. IsTable f ss new i u) (sym (get_or_append_left tables (t ∷ []) no_table i (omega (arith, all, less)))) (each i less));
    }

-- with the strings of the next section behind the others
pub joined_more : (f : List ℕ) (ss : List SectionHeader) (buffer part : List ℕ) (tables : List StringTable) (n len : ℕ)
    → part ≡ linked_bytes f ss n → IsStringLen part len → HaveTables f ss buffer tables n
    → HaveTables f ss (buffer ++ take len part) (tables ++ record { start = length buffer; len = len } ∷ []) (n + 1)
joined_more f ss buffer part tables n len is h tables_are =
    tables_more f ss buffer (buffer ++ take len part) tables (record { start = length buffer; len = len }) n
    (λ i lt. table_kept f ss buffer (take len part) i (table_at tables i) (tables_are.each i lt)) tables_are.all
    (record {
      len = subst (λ v. IsStringLen v len) is h;
      same = ap (λ v. take len v) (drop-append_seam buffer (take len part)) ∙ (take_take len len part (omega arith) ∙ ap (λ v. take len v) is);
    })

pub no_tables : (f : List ℕ) (ss : List SectionHeader) (buffer : List ℕ) (tables : List StringTable) → tables ≡ [] → HaveTables f ss buffer tables 0
no_tables f ss buffer tables is = record { all = ap length is; each = λ i lt. absurd (omega arith) }

-- -- The file itself as the buffer

none_same : (len : ℕ) (xs : List ℕ) → len ≤ 0 → take len xs ≡ take len []
none_same zero xs h = refl
none_same (suc len) xs h = absurd (omega arith)

section_go : (b : Bool) (f : List ℕ) (s : SectionHeader) (len : ℕ) → len ≤ length (option_map_or (λ (t : SectionHeader). take t.sh_size (drop t.sh_offset f)) (cond b (Some s) None) [])
    → take len (drop s.sh_offset f) ≡ take len (option_map_or (λ (t : SectionHeader). take t.sh_size (drop t.sh_offset f)) (cond b (Some s) None) [])
section_go true f s len h =
    let all : length (take s.sh_size (drop s.sh_offset f)) ≡ min s.sh_size (length (drop s.sh_offset f)) = length-take s.sh_size (drop s.sh_offset f) in
    sym (take_take len s.sh_size (drop s.sh_offset f) (omega (arith, all)))
section_go false f s len h = none_same len (drop s.sh_offset f) h

linked_go : (b : Bool) (xs part : List ℕ) (len : ℕ) → len ≤ length (cond b part []) → (len ≤ length part → take len xs ≡ take len part) → take len xs ≡ take len (cond b part [])
linked_go true xs part len h f = f h
linked_go false xs part len h f = none_same len xs h

file_same : (f : List ℕ) (ss : List SectionHeader) (n len : ℕ) (s : SectionHeader) → slice_get ss n ≡ Some s → len ≤ length (linked_bytes f ss n) → take len (drop s.sh_offset f) ≡ take len (linked_bytes f ss n)
unfolding string_bytes
file_same f ss n len s is h =
    linked_go (is_linked ss n) (drop s.sh_offset f) (string_bytes f ss n) len h
    (λ k. subst (λ o. len ≤ length (option_map_or (λ (t : SectionHeader). take t.sh_size (drop t.sh_offset f)) (option_and_then (λ (t : SectionHeader). cond (has_type 3 t) (Some t) None) o) [])
    → take len (drop s.sh_offset f) ≡ take len (option_map_or (λ (t : SectionHeader). take t.sh_size (drop t.sh_offset f)) (option_and_then (λ (t : SectionHeader). cond (has_type 3 t) (Some t) None) o) []))
    (sym is) (section_go (has_type 3 s) f s len) k)

pub file_more : (f : List ℕ) (ss : List SectionHeader) (part : List ℕ) (tables : List StringTable) (n len : ℕ) (s : SectionHeader)
    → slice_get ss n ≡ Some s → part ≡ linked_bytes f ss n → IsStringLen part len → HaveTables f ss f tables n
    → HaveTables f ss f (tables ++ record { start = s.sh_offset; len = len } ∷ []) (n + 1)
file_more f ss part tables n len s at is h tables_are =
    let mine : IsStringLen (linked_bytes f ss n) len = subst (λ v. IsStringLen v len) is h in
    tables_more f ss f f tables (record { start = s.sh_offset; len = len }) n tables_are.each tables_are.all
    (record { len = mine; same = file_same f ss n len s at mine.within })

-- -- Sections that are linked

-- each section links the one that it names
pub links : (ss left : List SectionHeader) (s : SectionHeader) (n : ℕ) → drop n ss ≡ s ∷ left → is_linked ss s.sh_link ≡ true
links [] left s zero h = absurd (cc)
links [] left s (suc n) h = absurd (cc)
links (t ∷ ts) left s zero h = let e : t ≡ s = ap (λ v. get_or v 0 s) h in ap (λ (b : Bool). b || list_any (λ (u : SectionHeader). u.sh_link == s.sh_link) ts) (eq-eqb t.sh_link s.sh_link (ap (λ (u : SectionHeader). u.sh_link) e))
links (t ∷ ts) left s (suc n) h = or_right (t.sh_link == s.sh_link) _ (links ts left s n h)

pub links_at : (ss : List SectionHeader) (s : SectionHeader) (n : ℕ) → slice_get ss n ≡ Some s → is_linked ss s.sh_link ≡ true
links_at [] s n h = absurd (cc)
links_at (t ∷ ts) s zero h = let e : t.sh_link ≡ s.sh_link = ap (λ o. option_map_or (λ (u : SectionHeader). u.sh_link) o 0) h in ap (λ (b : Bool). b || list_any (λ (u : SectionHeader). u.sh_link == s.sh_link) ts) (eq-eqb t.sh_link s.sh_link e)
links_at (t ∷ ts) s (suc n) h = or_right (t.sh_link == s.sh_link) _ (links_at ts s n h)

-- -- What the code has found and put together

pub joined_next : (f : List ℕ) (ss : List SectionHeader) (buffer part new : List ℕ) (tables made : List StringTable) (n len start : ℕ)
    → made ≡ tables ++ record { start = start; len = len } ∷ [] → new ≡ buffer ++ take len part → start ≡ length buffer → part ≡ linked_bytes f ss n → IsStringLen part len
    → length buffer ≤ length f → len ≤ length f - length buffer → HaveTables f ss buffer tables n → (length new ≤ length f) × HaveTables f ss new made (n + 1)
joined_next f ss buffer part new tables made n len start made_is new_is start_is is h few room tables_are =
    let grown : length (buffer ++ take len part) ≡ length buffer + length (take len part) = length-append buffer (take len part) in
    let cut : length (take len part) ≡ min len (length part) = length-take len part in
    let all : length new ≡ length (buffer ++ take len part) = ap length new_is in (
      omega (arith, grown, cut, all, few, room),
      rw (made_is, new_is, start_is) (joined_more f ss buffer part tables n len is h tables_are),
    )
