-- What a read of a named file may answer.
use Rattle.std.specs.Prelude.{◌≡◌, ℕ, ◌<◌, ◌≤◌, Option, Some, None, List, length, Result, Ok, Err, Vec}
use Rattle.std.specs.declared.alloc.Global.{Global}
use Rattle.surf_base.specs.Faults.{Rose}
use Rattle.surf_base.specs.declared.shelf.ShelfError.{ShelfError}
use Rattle.surf_base.specs.declared.shelf.ShelfError.TheVariants.{Failed, TooLong, Memory}

-- these are the bytes of the file, where they are told
abbrev pub Gives : Option (List ℕ) → List ℕ → Type 0
Gives None bytes = Unit {0}
Gives (Some file) bytes = bytes ≡ file

-- the file is longer than this, where its bytes are told
abbrev pub IsLonger : Option (List ℕ) → ℕ → Type 0
IsLonger None limit = Unit {0}
IsLonger (Some file) limit = limit < length file

-- The answers to a read of a file with these bytes, where they are told, under a limit, with the counts of the
-- name's faults before and after: so a told file that is longer than the limit is answered by `TooLong` unless the
-- count rose or memory lacks.
abbrev pub Answers : Option (List ℕ) → ℕ → ℕ → ℕ → Result (Vec ℕ Global) ShelfError → Type 0
Answers file limit before now (Ok bytes) = Gives file bytes.items × (length bytes.items ≤ limit)
Answers file limit before now (Err Failed) = Rose before now
Answers file limit before now (Err (TooLong n)) = (n ≡ limit) × IsLonger file limit
Answers file limit before now (Err Memory) = Unit {0}
