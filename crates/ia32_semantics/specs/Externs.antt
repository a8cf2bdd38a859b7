-- What a call of an extern does, by its kind: one step at the extern's address, which returns as a ret does. The project's own.
use Rattle.std.specs.Prelude.{ℕ, zero, suc, ◌+◌, ◌-◌, ◌*◌, ◌%◌, ◌==◌, nat_lt, max, true, if◌then◌else◌, List, [], ◌∷◌, ◌++◌, Some}
use Rattle.image_map.specs.declared.region.Kind.{Kind}
use Rattle.image_map.specs.declared.region.Kind.TheVariants as kind
use Rattle.ia32_semantics.specs.declared.flags.FlagsOut.{FlagsOut}
use Rattle.ia32_semantics.specs.Division.{division_flags}
use Rattle.ia32_semantics.specs.Reading.{Reading, gives, faults, byte, ◌>>=◌}
use Rattle.ia32_semantics.specs.Effects.{Effect, Whole, sets, stores}
use Rattle.ia32_semantics.specs.Outcome.{Outcome, going}
use Rattle.ia32_semantics.specs.Operands.{whole_register, any_word, stored_word, any_flags, flag_effects}
use Rattle.ia32_semantics.specs.Rows.{returning, risen}

-- -- Arguments

-- the argument words, of which the first stands above the return word
unfoldable pub words_from : ℕ → ℕ → Reading (List ℕ)
words_from a zero = gives []
words_from a (suc n) = do
  first ← stored_word a
  others ← words_from (a + 4) n
  gives (first ∷ others)

abbrev pub arguments : ℕ → ℕ → Reading (List ℕ)
arguments sp n = words_from (sp + 4) n

-- -- What is any

-- what an extern leaves in EAX, ECX, EDX and the flags
pub record Results : Type 0 where
  pub eax : ℕ
  pub ecx : ℕ
  pub edx : ℕ
  pub flags : FlagsOut

unfoldable pub any_results : Reading Results
any_results = do
  eax ← any_word
  ecx ← any_word
  edx ← any_word
  flags ← any_flags division_flags
  gives (record { eax = eax; ecx = ecx; edx = edx; flags = flags })

abbrev pub result_effects : Results → List Effect
result_effects r = (sets Whole 0 r.eax ∷ sets Whole 1 r.ecx ∷ sets Whole 2 r.edx ∷ []) ++ flag_effects r.flags

-- n words of choice
unfoldable pub any_words : ℕ → Reading (List ℕ)
any_words zero = gives []
any_words (suc n) = do
  word ← any_word
  others ← any_words n
  gives (word ∷ others)

-- -- Rows

-- returns with these results
abbrev pub answered : Results → ℕ → ℕ → Outcome
answered r sp place = returning (result_effects r) (risen sp 4) place

-- n arguments are read
abbrev pub pure : ℕ → Reading Outcome
pure n = do
  r ← any_results
  sp ← whole_register 4
  read ← arguments sp n
  place ← stored_word sp
  gives (answered r sp place)

-- and all of memory
abbrev pub reader : ℕ → Reading Outcome
reader n = pure n >>= (λ done. gives (record done { reads_all = true }))

-- EAX is 0, or the base of a new block of as many bytes as the argument says
abbrev pub allocator : ℕ → Reading Outcome
allocator at = do
  r ← any_results
  sp ← whole_register 4
  count ← stored_word (sp + 4)
  place ← stored_word sp
  gives (record (answered r sp place) { given = Some (record { extern_at = at; base = r.eax; size = count }) })

-- a byte of memory after some bytes were stored from an address on
abbrev pub byte_over : ℕ → List ℕ → ℕ → ℕ → ℕ
byte_over to [] a old = old
byte_over to (new ∷ rest) a old = if to == a then new % 256 else byte_over (to + 1) rest a old

-- the number of the n bytes from an address on after some bytes were stored
unfoldable pub number_over : ℕ → List ℕ → ℕ → ℕ → Reading ℕ
number_over to bytes zero a = gives 0
number_over to bytes (suc n) a =
    byte a (λ old. number_over to bytes n (a + 1) >>= (λ rest. gives (byte_over to bytes a old + 256 * rest)))

abbrev pub nth_of : ℕ → List ℕ → ℕ
nth_of n [] = 0
nth_of zero (x ∷ xs) = x
nth_of (suc n) (x ∷ xs) = nth_of n xs

-- the n-th argument, counted from 1
abbrev pub argument : List ℕ → ℕ → ℕ
argument read n = nth_of (n - 1) read

-- as many bytes as a word of choice says, but no more than asked for
unfoldable pub any_prefix : ℕ → Reading (List ℕ)
any_prefix most = any_word >>= (λ n. if nat_lt most n then faults else any_words n)

-- any bytes are written to the first part of a range, whose address is one argument and whose length another; then the
-- return word is popped
abbrev pub filler : ℕ → ℕ → Reading Outcome
filler buffer length = do
  r ← any_results
  sp ← whole_register 4
  read ← arguments sp (max buffer length)
  bytes ← any_prefix (argument read length)
  place ← number_over (argument read buffer) bytes 4 sp
  gives (returning (stores (argument read buffer) bytes ∷ result_effects r) (risen sp 4) place)

-- the extern of this kind at an address
unfoldable pub extern_row : ℕ → Kind → Reading Outcome
extern_row at (kind.Pure n) = pure n
extern_row at (kind.Reader n) = reader n
extern_row at kind.Alloc = allocator at
extern_row at kind.Stop = gives (going [] at)
extern_row at kind.Unknown = faults
extern_row at (kind.Fills buffer length) = filler buffer length
