-- Values of names in lists of symbols, and the lists that loops over tables make.
use Rattle.std.proofs.Common.{◌≡◌, ◌≢◌, ℕ, suc, zero, ◌+◌, ◌-◌, ◌%◌, ◌^◌, ◌≤◌, ◌<◌, Bool, true, false, cond, nat_lt, Option, Some, None, List, [], ◌∷◌, ◌++◌, length, filter, refl, ap, sym, subst, ◌∙◌, append_assoc, get_or, eqb, eq-eqb}
use Rattle.std.specs.Prelude.{◌==◌, is_some, slice_set, replicate}
use Rattle.std.specs.List.{find, filter_map, flat_map, cons_option}
use Rattle.std.specs.Option.{option_map, option_map_or}
use Rattle.std.proofs.lemmas.Option.{none-some}
use Rattle.std.specs.Str.{bytes_eq}
use Rattle.std.specs.Cmp.Lexicographic.{same_text}
use Rattle.std.proofs.lemmas.Bool.{eqb-true, cond_both}
use Rattle.std.proofs.lemmas.List.{append-nil, map-append, length-set, length-replicate, get_or-set_other}
use Rattle.image_map.specs.declared.symbols.SymbolPlace.{SymbolPlace}
use Rattle.image_map.specs.Names.{Symbol, symbol_at, symbols_at, value_of, HaveSameValues}
use Rattle.image_map.specs.Texts.{text_at}
use Rattle.elf32.specs.declared.fields.SymbolEntry.{SymbolEntry}
use Rattle.elf32.specs.declared.strings.StringTable.{StringTable}
use Rattle.elf32.specs.Fields.{rows, rows_from}
use Rattle.elf32.specs.Strings.{name_start, place_of, placed}
use Rattle.elf32.specs.Found.{IsFound, Adds}
use Rattle.elf32.proofs.Rows.{rows_step, rows_end}

-- the first of two values
abbrev pub first : Option ℕ → Option ℕ → Option ℕ
first None y = y
first (Some x) y = Some x

head_go : (b : Bool) (s : Symbol) (rest : Option Symbol) → option_map (λ (t : Symbol). t.value) (cond b (Some s) rest) ≡ cond b (Some s.value) (option_map (λ (t : Symbol). t.value) rest)
head_go true s rest = refl
head_go false s rest = refl

head_value : (s : Symbol) (ss : List Symbol) (n : List ℕ) → value_of (s ∷ ss) n ≡ cond (bytes_eq s.name n) (Some s.value) (value_of ss n)
head_value s ss n = head_go (bytes_eq s.name n) s (find (λ t. bytes_eq t.name n) ss)

first_go : (b : Bool) (v : ℕ) (k r : Option ℕ) → cond b (Some v) (first k r) ≡ first (cond b (Some v) k) r
first_go true v k r = refl
first_go false v k r = refl

-- the value in two lists, one after the other
value_append : (xs ys : List Symbol) (n : List ℕ) → value_of (xs ++ ys) n ≡ first (value_of xs n) (value_of ys n)
value_append [] ys n = refl
value_append (s ∷ ss) ys n =
    head_value s (ss ++ ys) n
    ∙ (ap (λ v. cond (bytes_eq s.name n) (Some s.value) v) (value_append ss ys n)
    ∙ (first_go (bytes_eq s.name n) s.value (value_of ss n) (value_of ys n)
    ∙ ap (λ v. first v (value_of ys n)) (sym (head_value s ss n))))

skip_go : (b : Bool) (v : ℕ) (k r : Option ℕ) → (b ≡ true → is_some k ≡ true) → first k (cond b (Some v) r) ≡ first k r
skip_go true v None r h = absurd (let e : false ≡ true = h refl in cc)
skip_go true v (Some x) r h = refl
skip_go false v k r h = refl

-- a symbol whose name is there already adds nothing
pub known_name : (kept rest : List Symbol) (s : Symbol) → is_some (value_of kept s.name) ≡ true → HaveSameValues (kept ++ (s ∷ rest)) (kept ++ rest)
known_name kept rest s known n =
    value_append kept (s ∷ rest) n
    ∙ (ap (λ v. first (value_of kept n) v) (head_value s rest n)
    ∙ (skip_go (bytes_eq s.name n) s.value (value_of kept n) (value_of rest n)
    (λ h. let e : s.name ≡ n = same_text s.name n (sym h) in subst (λ m. is_some (value_of kept m) ≡ true) e known)
    ∙ sym (value_append kept rest n)))

some_left : (k r : Option ℕ) → is_some k ≡ true → is_some (first k r) ≡ true
some_left None r h = absurd (let e : false ≡ true = h in cc)
some_left (Some x) r h = refl

some_right : (k r : Option ℕ) → is_some r ≡ true → is_some (first k r) ≡ true
some_right None r h = h
some_right (Some x) r h = refl

-- a text is equal to itself
same_self : (xs : List ℕ) → bytes_eq xs xs ≡ true
same_self [] = refl
same_self (x ∷ xs) = rw (eq-eqb x x refl) (same_self xs)

-- with a symbol at the end, the names that are seen are those before and its own
pub found_push : (buffer : List ℕ) (seen : List Bool) (kept : List Symbol) (start : ℕ) (s : Symbol) → start < length buffer → s.name ≡ text_at buffer start
    → IsFound buffer seen kept → IsFound buffer (slice_set seen start true) (kept ++ s ∷ [])
found_push buffer seen kept start s lt named found = record {
  all = length-set seen start true ∙ found.all;
  each = λ p h. cond_both {A = Bool} (eqb p start) true true (λ _. is_some (value_of (kept ++ s ∷ []) (text_at buffer p)) ≡ true)
      (λ t. let e : p ≡ start = eqb-true p start t in
      let n : s.name ≡ text_at buffer p = named ∙ ap (text_at buffer) (sym e) in
      let own : is_some (value_of (s ∷ []) s.name) ≡ true = ap is_some (head_value s [] s.name ∙ ap (λ b. cond b (Some s.value) None) (same_self s.name)) in
      let here : is_some (value_of (s ∷ []) (text_at buffer p)) ≡ true = subst (λ m. is_some (value_of (s ∷ []) m) ≡ true) n own in
      ap is_some (value_append kept (s ∷ []) (text_at buffer p)) ∙ some_right (value_of kept (text_at buffer p)) _ here)
      (λ t. let ne : p ≢ start = λ e. (let b : true ≡ false = sym (eq-eqb p start e) ∙ t in cc) in
      let old : get_or seen p false ≡ true = sym (get_or-set_other seen start p true false ne) ∙ h in
      ap is_some (value_append kept (s ∷ []) (text_at buffer p)) ∙ some_left (value_of kept (text_at buffer p)) _ (found.each p old));
}

-- before the first symbol no place has been seen
none_seen : (n p : ℕ) → get_or (replicate n false) p false ≡ false
none_seen zero p = refl
none_seen (suc n) zero = refl
none_seen (suc n) (suc p) = none_seen n p

pub found_none : (buffer : List ℕ) (seen : List Bool) (places : List SymbolPlace) → seen ≡ replicate (length buffer) false → places ≡ [] → IsFound buffer seen (symbols_at buffer places)
found_none buffer seen places is none = record {
  all = ap length is ∙ length-replicate (length buffer) false;
  each = λ p h. (let b : true ≡ false = sym h ∙ (ap (λ v. get_or v p false) is ∙ none_seen (length buffer) p) in cc);
}

-- one more place
pub symbols_push : (buffer : List ℕ) (places : List SymbolPlace) (p : SymbolPlace) → symbols_at buffer (places ++ p ∷ []) ≡ symbols_at buffer places ++ symbol_at buffer p ∷ []
symbols_push buffer places p = map-append (symbol_at buffer) places (p ∷ [])

pub adds_push : (buffer : List ℕ) (places : List SymbolPlace) (p : SymbolPlace) → Adds (symbols_at buffer places) (symbols_at buffer (places ++ p ∷ [])) (symbol_at buffer p ∷ [])
adds_push buffer places p = λ rest n.
    ap (λ v. value_of (v ++ rest) n) (symbols_push buffer places p) ∙ ap (λ v. value_of v n) (append_assoc (symbols_at buffer places) (symbol_at buffer p ∷ []) rest)

-- the state of a loop over the rows of a table
abbrev pub RowsRemain : {A : Type 0} → (A → Option Symbol) → (ℕ → A) → ℕ → List Symbol → ℕ → List Symbol → Type 0
RowsRemain g row n old at now = (rest : List Symbol) → HaveSameValues (now ++ (filter_map g (rows_from row at (n - at)) ++ rest)) (old ++ (filter_map g (rows row n) ++ rest))

next_row : {A : Type 0} (g : A → Option Symbol) (row : ℕ → A) (n at : ℕ) → at < n
    → filter_map g (rows_from row at (n - at)) ≡ cons_option (g (row at)) (filter_map g (rows_from row (at + 1) (n - (at + 1))))
next_row g row n at lt = ap (filter_map g) (rows_step row at n lt)

cons_then : (o : Option Symbol) (xs rest : List Symbol) → cons_option o xs ++ rest ≡ cons_option o [] ++ (xs ++ rest)
cons_then None xs rest = refl
cons_then (Some s) xs rest = refl

pub row_added : {A : Type 0} (g : A → Option Symbol) (row : ℕ → A) (n at : ℕ) (old now next : List Symbol) → at < n
    → Adds now next (cons_option (g (row at)) []) → RowsRemain g row n old at now → RowsRemain g row n old (at + 1) next
row_added g row n at old now next lt adds so_far = λ rest m.
    let after = filter_map g (rows_from row (at + 1) (n - (at + 1))) in
    adds (after ++ rest) m
    ∙ (ap (λ v. value_of (now ++ v) m) (sym (cons_then (g (row at)) after rest))
    ∙ (ap (λ v. value_of (now ++ (v ++ rest)) m) (sym (next_row g row n at lt)) ∙ so_far rest m))

pub rows_over : {A : Type 0} (g : A → Option Symbol) (row : ℕ → A) (n at : ℕ) (old now : List Symbol) → n ≤ at
    → RowsRemain g row n old at now → Adds old now (filter_map g (rows row n))
rows_over g row n at old now le so_far = λ rest m. ap (λ v. value_of (now ++ (filter_map g v ++ rest)) m) (sym (rows_end row at n le)) ∙ so_far rest m

-- the state of a loop over sections
abbrev pub SectionsRemain : {A : Type 0} → (A → List Symbol) → (A → Bool) → List A → List Symbol → List A → List Symbol → Type 0
SectionsRemain of p ss old left now = (rest : List Symbol) → HaveSameValues (now ++ (flat_map of (filter p left) ++ rest)) (old ++ (flat_map of (filter p ss) ++ rest))

section_go : {A : Type 0} (b : Bool) (of : A → List Symbol) (s : A) (left : List A) (rest : List Symbol)
    → flat_map of (cond b (s ∷ left) left) ++ rest ≡ cond b (of s) [] ++ (flat_map of left ++ rest)
section_go true of s left rest = append_assoc (of s) (flat_map of left) rest
section_go false of s left rest = refl

pub section_added : {A : Type 0} (of : A → List Symbol) (p : A → Bool) (ss : List A) (s : A) (left all : List A) (old now next : List Symbol) → all ≡ s ∷ left
    → Adds now next (cond (p s) (of s) []) → SectionsRemain of p ss old all now → SectionsRemain of p ss old left next
section_added of p ss s left all old now next is adds so_far = λ rest m.
    adds (flat_map of (filter p left) ++ rest) m
    ∙ (ap (λ v. value_of (now ++ v) m) (sym (section_go (p s) of s (filter p left) rest))
    ∙ (ap (λ v. value_of (now ++ (flat_map of (filter p v) ++ rest)) m) (sym is) ∙ so_far rest m))

-- the values after the tables of both types
pub both_types : (start one two first_ones all_ones : List Symbol) → start ≡ [] → Adds start one first_ones → Adds one two all_ones → HaveSameValues two (first_ones ++ all_ones)
both_types start one two xs ys none a b = λ m.
    ap (λ v. value_of v m) (sym (append-nil two)) ∙ (b [] m ∙ (a (ys ++ []) m ∙ (ap (λ v. value_of (v ++ (xs ++ (ys ++ []))) m) none ∙ ap (λ v. value_of (xs ++ v) m) (append-nil ys))))

pub found_more : (buffer : List ℕ) (seen : List Bool) (places new : List SymbolPlace) (p : SymbolPlace) → p.start < length buffer → new ≡ places ++ p ∷ []
    → IsFound buffer seen (symbols_at buffer places) → IsFound buffer (slice_set seen p.start true) (symbols_at buffer new)
found_more buffer seen places new p lt is found =
    subst (λ v. IsFound buffer (slice_set seen p.start true) v) (sym (ap (symbols_at buffer) is ∙ symbols_push buffer places p))
    (found_push buffer seen (symbols_at buffer places) p.start (symbol_at buffer p) lt refl found)

value_go : (c : Bool) (s v : ℕ) (p : SymbolPlace) → cond c None (Some (record { start = s; value = v })) ≡ Some p → s ≡ p.start
value_go true s v p h = absurd (none-some p h)
value_go false s v p h = ap (λ (o : Option SymbolPlace). option_map_or (λ (q : SymbolPlace). q.start) o 0) h

place_start : (b : ℕ) (o : Option ℕ) (e : SymbolEntry) (p : SymbolPlace) → place_of b o e ≡ Some p → o ≡ Some p.start
place_start b None e p h = absurd (none-some p h)
place_start b (Some s) e p h = ap (λ n. Some n) (value_go (e.st_shndx == 0) s ((e.st_value + b) % 2 ^ 32) p h)

start_go : (lt nul : Bool) (s q : ℕ) → cond lt (cond nul None (Some s)) None ≡ Some q → s ≡ q
start_go true true s q h = absurd (none-some q h)
start_go true false s q h = ap (λ (o : Option ℕ). option_map_or (λ n. n) o 0) h
start_go false nul s q h = absurd (none-some q h)

start_is : (buffer : List ℕ) (t : StringTable) (at q : ℕ) → name_start buffer t at ≡ Some q → t.start + at ≡ q
unfolding name_start
start_is buffer t at q h = start_go (nat_lt at t.len) (get_or buffer (t.start + at) 0 == 0) (t.start + at) q h

none_added : (buffer : List ℕ) (symbols : List Symbol) (o : Option SymbolPlace) → ((p : SymbolPlace) → o ≡ Some p → is_some (value_of symbols (text_at buffer p.start)) ≡ true)
    → Adds symbols symbols (cons_option (option_map (symbol_at buffer) o) [])
none_added buffer symbols None h = λ rest n. refl
none_added buffer symbols (Some p) h = λ rest n. sym (known_name symbols rest (symbol_at buffer p) (h p refl) n)

-- an entry whose name has been seen adds nothing
pub seen_adds : (buffer : List ℕ) (b : ℕ) (t : StringTable) (e : SymbolEntry) (seen : List Bool) (symbols : List Symbol) → IsFound buffer seen symbols
    → get_or seen (t.start + e.st_name) false ≡ true → Adds symbols symbols (cons_option (placed buffer b t e) [])
seen_adds buffer b t e seen symbols found h = none_added buffer symbols (place_of b (name_start buffer t e.st_name) e)
    (λ p is. let same : t.start + e.st_name ≡ p.start = start_is buffer t e.st_name p.start (place_start b (name_start buffer t e.st_name) e p is) in
    found.each p.start (subst (λ k. get_or seen k false ≡ true) same h))
