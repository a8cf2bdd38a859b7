-- Files in memory.
use Rattle.std.specs.Prelude.{◌≡◌, ◌≢◌, ℕ, ◌<◌, ◌⊎◌, Bool, Option, Some, None, List, length, find, slice_index_or}
use Rattle.std.specs.List.{position_or_len}
use Rattle.std.specs.Option.{option_map, option_map_or}
use Rattle.std.specs.String.{string_bytes}
use Rattle.std.specs.Str.{bytes_eq}
use Rattle.surf_base.specs.declared.memory_shelf.MemoryShelf.{MemoryShelf}
use Rattle.surf_base.specs.declared.memory_shelf.StoredFile.{StoredFile}

-- the file has this name
abbrev pub is_named : List ℕ → StoredFile → Bool
is_named name file = bytes_eq (string_bytes file.name) name

-- the file with this name
abbrev pub stored : List StoredFile → List ℕ → Option StoredFile
stored files name = find (is_named name) files

-- the file with this name stands here, and no other before it
pub record StandsAt (files : List StoredFile) (name : List ℕ) (at : ℕ) : Type 0 where
  pub below : at < length files
  pub first : at ≡ position_or_len (is_named name) files
  pub found : (default : StoredFile) → stored files name ≡ Some (slice_index_or files at default)

-- the bytes of a name
abbrev pub bytes_at : List StoredFile → List ℕ → Option (List ℕ)
bytes_at files name = option_map (λ file. file.bytes.items) (stored files name)

-- the faults of a name: each file has its own count, and all other names have one
abbrev pub faults_at : List StoredFile → ℕ → List ℕ → ℕ
faults_at files unknown name = option_map_or (λ file. file.faults) (stored files name) unknown

-- the bytes of a name, where the shelf has it
abbrev pub shelf_file : MemoryShelf → List ℕ → Option (List ℕ)
shelf_file shelf name = bytes_at shelf.files.items name

-- the faults of a name
abbrev pub shelf_faults : MemoryShelf → List ℕ → ℕ
shelf_faults shelf name = faults_at shelf.files.items shelf.unknown name

-- two names have one count: they are equal, or the shelf has neither
abbrev pub SharesCount : MemoryShelf → List ℕ → List ℕ → Type 0
SharesCount shelf name other = (name ≡ other) ⊎ ((shelf_file shelf name ≡ None) × (shelf_file shelf other ≡ None))

-- how often it was read
abbrev pub shelf_calls : MemoryShelf → ℕ
shelf_calls shelf = shelf.calls.made

-- the numbers of the reads that fail
abbrev pub shelf_failing : MemoryShelf → List ℕ
shelf_failing shelf = shelf.calls.failing.items

-- one name has these bytes now; every other file is as it was, and so is every count
pub record PutsFile (old new : MemoryShelf) (name bytes : List ℕ) : Type 0 where
  pub put : shelf_file new name ≡ Some bytes
  pub others : (other : List ℕ) → other ≢ name → shelf_file new other ≡ shelf_file old other
  pub counts : (other : List ℕ) → shelf_faults new other ≡ shelf_faults old other
  pub calls : shelf_calls new ≡ shelf_calls old
  pub failing : shelf_failing new ≡ shelf_failing old

-- nothing that can be seen has changed
pub record SameShelf (old new : MemoryShelf) : Type 0 where
  pub files : (name : List ℕ) → shelf_file new name ≡ shelf_file old name
  pub counts : (name : List ℕ) → shelf_faults new name ≡ shelf_faults old name
  pub calls : shelf_calls new ≡ shelf_calls old
  pub failing : shelf_failing new ≡ shelf_failing old
