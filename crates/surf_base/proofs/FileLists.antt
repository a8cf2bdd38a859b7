-- A list of files after a write to one of them.
use Rattle.std.proofs.Common.{◌≡◌, ◌≢◌, ℕ, zero, suc, ◌<◌, ◌≤◌, Bool, true, false, cond, ltb, Option, Some, None, List, [], ◌∷◌, ◌++◌, length, set, get_or, refl, sym, ap, ◌∙◌, ◌⊎◌, inl, inr, ⊎_elim, arith, ltb-true, ltb-false, MatchOption}
use Rattle.std.specs.List.{position, position_or_len}
use Rattle.std.specs.Option.{option_map, option_map_or, option_or}
use Rattle.std.specs.String.{string_bytes}
use Rattle.std.specs.Str.{bytes_eq}
use Rattle.std.proofs.lemmas.Slice.Eq.{bytes_eq-Decides}
use Rattle.std.proofs.lemmas.Option.{slice_get_past, slice_get-get_or}
use Rattle.std.proofs.lemmas.List.Folds.{find_at, find-set, find-append}
use Rattle.surf_base.specs.Faults.{Rose}
use Rattle.surf_base.specs.MemoryShelf.{is_named, stored, bytes_at, faults_at, StandsAt, PutsFile}
use Rattle.surf_base.specs.declared.memory_shelf.MemoryShelf.{MemoryShelf}
use Rattle.surf_base.specs.declared.memory_shelf.StoredFile.{StoredFile}

stands_by_test : (files : List StoredFile) (name : List ℕ) (place : Option ℕ) (inside : Bool)
    → ltb (position_or_len (is_named name) files) (length files) ≡ inside
    → place ≡ cond inside (Some (position_or_len (is_named name) files)) None
    → MatchOption place (stored files name ≡ None) (λ at. StandsAt files name at)
stands_by_test files name None true test is = cc
stands_by_test files name (Some at) false test is = cc
stands_by_test files name None false test is =
    find_at (is_named name) files ∙ slice_get_past files _ (ltb-false _ _ test)
stands_by_test files name (Some at) true test is =
    let first : at ≡ position_or_len (is_named name) files = cc in
    let inside : position_or_len (is_named name) files < length files = ltb-true _ _ test in
    record {
      below = omega arith;
      first = first;
      found = λ default. rw first (find_at (is_named name) files ∙ slice_get-get_or files _ default inside);
    }

passes_cond : (name : List ℕ) (first file : StoredFile) (rest : Option StoredFile) (b : Bool) → is_named name first ≡ b
    → (rest ≡ Some file → is_named name file ≡ true) → cond b (Some first) rest ≡ Some file → is_named name file ≡ true
passes_cond name first file rest true test later found = let same : first ≡ file = cc in rw (← same) test
passes_cond name first file rest false test later found = later found

passes_from_found : (files : List StoredFile) (name : List ℕ) (file : StoredFile) → stored files name ≡ Some file → is_named name file ≡ true
passes_from_found [] name file found = cc
passes_from_found (first ∷ files) name file found =
    passes_cond name first file (stored files name) (is_named name first) refl (passes_from_found files name file) found

-- what `position` says of a name
pub stands_from_position : (files : List StoredFile) (name : List ℕ) (place : Option ℕ) → place ≡ position (is_named name) files
    → MatchOption place (stored files name ≡ None) (λ at. StandsAt files name at)
stands_from_position files name place is =
    stands_by_test files name place (ltb (position_or_len (is_named name) files) (length files)) refl is

-- a file that a name finds has that name
named_from_found : (files : List StoredFile) (name : List ℕ) (file : StoredFile) → stored files name ≡ Some file → string_bytes file.name ≡ name
named_from_found files name file found = (bytes_eq-Decides (string_bytes file.name) name).0 (passes_from_found files name file found)

either_first : (b c : Bool) → b ≡ c → (file first : StoredFile) (rest : Option StoredFile)
    → (cond b (Some file) rest ≡ cond c (Some first) rest) ⊎ ((cond c (Some first) rest ≡ Some first) × (cond b (Some file) rest ≡ Some file))
either_first true true same file first rest = inr (refl, refl)
either_first false false same file first rest = inl refl
either_first true false same file first rest = cc
either_first false true same file first rest = cc

either_next : (b : Bool) (first was file : StoredFile) (new old : Option StoredFile)
    → (new ≡ old) ⊎ ((old ≡ Some was) × (new ≡ Some file))
    → (cond b (Some first) new ≡ cond b (Some first) old) ⊎ ((cond b (Some first) old ≡ Some was) × (cond b (Some first) new ≡ Some file))
either_next true first was file new old either = inl refl
either_next false first was file new old either = either

-- after a write that keeps the name, a name finds what it found, or it found the old file and finds the new one
pub find-set_either : (files : List StoredFile) (at : ℕ) (file default : StoredFile) (name : List ℕ)
    → string_bytes file.name ≡ string_bytes (get_or files at default).name → at < length files
    → (stored (set files at file) name ≡ stored files name) ⊎ ((stored files name ≡ Some (get_or files at default)) × (stored (set files at file) name ≡ Some file))
find-set_either [] at file default name names below = absurd (omega arith)
find-set_either (first ∷ files) zero file default name names below =
    either_first (is_named name file) (is_named name first) (ap (λ bytes. bytes_eq bytes name) names) file first (stored files name)
find-set_either (first ∷ files) (suc at) file default name names below =
    either_next (is_named name first) first (get_or files at default) file _ _
    (find-set_either files at file default name names (omega arith))

-- where a view of the file stays, so does the view of each name
pub view_kept : {Y : Type 0} (g : StoredFile → Y) (was file : StoredFile) (new old : Option StoredFile)
    → (new ≡ old) ⊎ ((old ≡ Some was) × (new ≡ Some file)) → g file ≡ g was → option_map g new ≡ option_map g old
view_kept g was file new old either views =
    ⊎_elim (λ same. ap (λ o. option_map g o) same) (λ both. rw (both.0, both.1, views) refl) either

pub faults_kept : (was file : StoredFile) (new old : Option StoredFile) (unknown : ℕ)
    → (new ≡ old) ⊎ ((old ≡ Some was) × (new ≡ Some file)) → file.faults ≡ was.faults
    → option_map_or (λ f. f.faults) new unknown ≡ option_map_or (λ f. f.faults) old unknown
faults_kept was file new old unknown either same =
    ⊎_elim (λ equal. ap (λ o. option_map_or (λ f. f.faults) o unknown) equal) (λ both. rw (both.0, both.1, same) refl) either

pub faults_later : (was file : StoredFile) (new old : Option StoredFile) (unknown : ℕ)
    → (new ≡ old) ⊎ ((old ≡ Some was) × (new ≡ Some file)) → was.faults ≤ file.faults
    → option_map_or (λ f. f.faults) old unknown ≤ option_map_or (λ f. f.faults) new unknown
faults_later was file new old unknown either later =
    ⊎_elim
    (λ equal. let same : option_map_or (λ f. f.faults) new unknown ≡ option_map_or (λ f. f.faults) old unknown = ap (λ o. option_map_or (λ f. f.faults) o unknown) equal in omega arith)
    (λ both. rw (both.0, both.1) later) either

module _ (files : List StoredFile) (at : ℕ) (file default : StoredFile)
    (names : string_bytes file.name ≡ string_bytes (get_or files at default).name) (below : at < length files) where
  either : (name : List ℕ) → (stored (set files at file) name ≡ stored files name)
      ⊎ ((stored files name ≡ Some (get_or files at default)) × (stored (set files at file) name ≡ Some file))
  either name = find-set_either files at file default name names below

  -- the file of the name that stands there is found with its new fields
  stored-set : (name : List ℕ) → StandsAt files name at → stored (set files at file) name ≡ Some file
  stored-set name stands =
      let passes : is_named name (get_or files at default) ≡ true = passes_from_found files name _ (stands.found default) in
      let passes_now : is_named name file ≡ true = ap (λ bytes. bytes_eq bytes name) names ∙ passes in
      find-set (is_named name) files at file stands.first below passes_now

  -- another name finds what it found
  stored-set_other : (name other : List ℕ) → StandsAt files name at → other ≢ name → stored (set files at file) other ≡ stored files other
  stored-set_other name other stands differs =
      ⊎_elim (λ same. same) (λ both.
      let here : string_bytes (get_or files at default).name ≡ name = named_from_found files name _ (stands.found default) in
      let there : string_bytes (get_or files at default).name ≡ other = named_from_found files other _ both.0 in
      absurd (differs (sym there ∙ here))) (either other)

  -- so its bytes are the new ones, and another name's are as they were
  pub bytes_at-put : (name : List ℕ) → StandsAt files name at → bytes_at (set files at file) name ≡ Some file.bytes.items
  bytes_at-put name stands = ap (λ o. option_map (λ f. f.bytes.items) o) (stored-set name stands)

  pub bytes_at-put_other : (name other : List ℕ) → StandsAt files name at → other ≢ name → bytes_at (set files at file) other ≡ bytes_at files other
  bytes_at-put_other name other stands differs = ap (λ o. option_map (λ f. f.bytes.items) o) (stored-set_other name other stands differs)

  -- where a write keeps the bytes or the count, so do all names
  pub bytes_at-set : (name : List ℕ) → file.bytes.items ≡ (get_or files at default).bytes.items → bytes_at (set files at file) name ≡ bytes_at files name
  bytes_at-set name same =
      view_kept (λ f. f.bytes.items) (get_or files at default) file _ _ (either name) same

  pub faults_at-set : (name : List ℕ) (unknown : ℕ) → file.faults ≡ (get_or files at default).faults
      → faults_at (set files at file) unknown name ≡ faults_at files unknown name
  faults_at-set name unknown same = faults_kept (get_or files at default) file _ _ unknown (either name) same

  pub faults_at-raised : (name : List ℕ) (unknown : ℕ) → (get_or files at default).faults ≤ file.faults
      → faults_at files unknown name ≤ faults_at (set files at file) unknown name
  faults_at-raised name unknown later = faults_later (get_or files at default) file _ _ unknown (either name) later

  -- and of another name in any case
  pub faults_at-set_other : (name other : List ℕ) (unknown : ℕ) → StandsAt files name at → other ≢ name
      → faults_at (set files at file) unknown other ≡ faults_at files unknown other
  faults_at-set_other name other unknown stands differs =
      ap (λ o. option_map_or (λ f. f.faults) o unknown) (stored-set_other name other stands differs)

  -- the count of the file that stands there rose as its own did
  pub rose-set : (name : List ℕ) (unknown : ℕ) → StandsAt files name at → Rose (get_or files at default).faults file.faults
      → Rose (faults_at files unknown name) (faults_at (set files at file) unknown name)
  rose-set name unknown stands rose = rw (stored-set name stands, stands.found default) rose

module _ (files : List StoredFile) (file : StoredFile) (absent : stored files (string_bytes file.name) ≡ None) where
  -- a new file is found
  stored-push : stored (files ++ file ∷ []) (string_bytes file.name) ≡ Some file
  stored-push =
      let itself : is_named (string_bytes file.name) file ≡ true = (bytes_eq-Decides (string_bytes file.name) (string_bytes file.name)).1 refl in
      rw (find-append (is_named (string_bytes file.name)) files (file ∷ []), absent, itself) refl

  stored-push_other : (other : List ℕ) → other ≢ string_bytes file.name → stored (files ++ file ∷ []) other ≡ stored files other
  stored-push_other other differs =
      find-append (is_named other) files (file ∷ []) ∙ other_is (is_named other file) refl (stored files other)
    where
      other_is : (b : Bool) → is_named other file ≡ b → (found : Option StoredFile) → option_or found (cond b (Some file) None) ≡ found
      other_is true named found = absurd (differs (sym ((bytes_eq-Decides (string_bytes file.name) other).0 named)))
      other_is false named None = refl
      other_is false named (Some x) = refl

-- a new file takes over the count of all names that have none
pub faults_at-push : (files : List StoredFile) (file : StoredFile) (unknown : ℕ) → file.faults ≡ unknown → (name : List ℕ)
    → faults_at (files ++ file ∷ []) unknown name ≡ faults_at files unknown name
faults_at-push files file unknown same name =
    rw (find-append (is_named name) files (file ∷ [])) (taken (is_named name file) (stored files name))
  where
    taken : (b : Bool) (found : Option StoredFile)
        → option_map_or (λ f. f.faults) (option_or found (cond b (Some file) None)) unknown ≡ option_map_or (λ f. f.faults) found unknown
    taken b (Some x) = refl
    taken true None = same
    taken false None = refl

-- a new file of a name that has none
pub puts_new_file : (old new : MemoryShelf) (file : StoredFile) → stored old.files.items (string_bytes file.name) ≡ None
    → file.faults ≡ old.unknown → new.files.items ≡ old.files.items ++ file ∷ [] → new.unknown ≡ old.unknown → new.calls ≡ old.calls
    → PutsFile old new (string_bytes file.name) file.bytes.items
puts_new_file old new file absent count files unknown calls = record {
  put = rw (files, stored-push old.files.items file absent) refl;
  others = λ other differs. rw (files, stored-push_other old.files.items file absent other differs) refl;
  counts = λ other. rw (files, unknown) (faults_at-push old.files.items file old.unknown count other);
  calls = rw calls refl;
  failing = rw calls refl;
}
