-- How the front of some bytes is read by a grammar, when at most 15 bytes may be read in all. The project's own.

use Rattle.std.specs.Prelude.{ℕ, ◌+◌, List, if◌then◌else◌, nat_le, slice_get, Option, Some, None, Result, Ok, Err}
use Rattle.ia32_types.specs.Readers.{Reader, done, bad, more}
use Rattle.ia32_decode.specs.declared.NotDecoded.{NotDecoded}
use Rattle.ia32_decode.specs.declared.NotDecoded.TheVariants.{Short, Unknown}

-- a byte, and the number of bytes read then
abbrev pub byte_or_short : Option ℕ → ℕ → Result (ℕ × ℕ) NotDecoded
byte_or_short None read = Err Short
byte_or_short (Some b) read = Ok (b, read + 1)

-- the byte after the first read, if at least so many bytes, itself included, still have room
abbrev pub next_byte_of : List ℕ → ℕ → ℕ → Result (ℕ × ℕ) NotDecoded
next_byte_of bytes read least = (if nat_le (read + least) 15 then byte_or_short (slice_get bytes read) read else Err Unknown)

abbrev pub and_then : {A B : Type 0} → Result A NotDecoded → (A → Result B NotDecoded) → Result B NotDecoded
and_then (Ok x) k = k x
and_then (Err e) k = Err e

-- what the bytes after the first read give, where at least extra bytes follow what is read here;
-- and the number of bytes read then
abbrev pub run : {A : Type 0} → ℕ → Reader A → List ℕ → ℕ → Result (A × ℕ) NotDecoded
run extra (done x) bytes read = Ok (x, read)
run extra bad bytes read = Err Unknown
run extra (more least k) bytes read = and_then (next_byte_of bytes read (least + extra)) (λ b. run extra (k b.0) bytes b.1)
