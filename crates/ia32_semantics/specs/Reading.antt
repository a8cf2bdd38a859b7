-- How an instruction's row is told: it asks for registers, flags, bytes and words of choice, one after another, until it gives
-- something or faults. What it gives, what it asks for, and which words it takes all follow from the one description. The
-- project's own.
use Rattle.std.specs.Prelude.{ℕ, ◌==◌, ◌||◌, Bool, false, List, [], ◌∷◌, Option, Some, None}
use Rattle.ia32_semantics.specs.State.{State, Location, InRegister, InFlag, AtByte}

pub data Reading (A : Type 0) : Type 0 where
  gives : A → Reading A
  faults : Reading A
  register : ℕ → (ℕ → Reading A) → Reading A
  flag : ℕ → (Bool → Reading A) → Reading A
  -- it faults where the byte isn't mapped
  byte : ℕ → (ℕ → Reading A) → Reading A
  -- the next word of choice
  choice : (ℕ → Reading A) → Reading A

-- goes on with what a reading gives
infixl 10 ◌>>=◌
abbrev pub ◌>>=◌ : {A B : Type 0} → Reading A → (A → Reading B) → Reading B
gives x >>= next = next x
faults >>= next = faults
register n more >>= next = register n (λ v. more v >>= next)
flag n more >>= next = flag n (λ v. more v >>= next)
byte a more >>= next = byte a (λ v. more v >>= next)
choice more >>= next = choice (λ v. more v >>= next)

-- what a byte leads to, where there is one
abbrev pub with_byte : {A : Type 0} → Option ℕ → A → (ℕ → A) → A
with_byte None otherwise next = otherwise
with_byte (Some v) otherwise next = next v

-- What it gives in a state with these words of choice, and the words that are left; none where it faults.
abbrev pub outcome : {A : Type 0} → Reading A → State → List ℕ → Option (A × List ℕ)
outcome (gives x) s words = Some (x, words)
outcome faults s words = None
outcome (register n more) s words = outcome (more (s.registers n)) s words
outcome (flag n more) s words = outcome (more (s.flags n)) s words
outcome (byte a more) s words = with_byte (s.memory a) None (λ v. outcome (more v) s words)
outcome (choice more) s [] = None
outcome (choice more) s (word ∷ words) = outcome (more word) s words

abbrev pub is_register : ℕ → Location → Bool
is_register n (InRegister m) = n == m
is_register n other = false

abbrev pub is_flag : ℕ → Location → Bool
is_flag n (InFlag m) = n == m
is_flag n other = false

abbrev pub is_byte : ℕ → Location → Bool
is_byte a (AtByte x) = a == x
is_byte a other = false

-- what it asks for on the way
abbrev pub asks : {A : Type 0} → Reading A → State → List ℕ → Location → Bool
asks (gives x) s words l = false
asks faults s words l = false
asks (register n more) s words l = is_register n l || asks (more (s.registers n)) s words l
asks (flag n more) s words l = is_flag n l || asks (more (s.flags n)) s words l
asks (byte a more) s words l = is_byte a l || with_byte (s.memory a) false (λ v. asks (more v) s words l)
asks (choice more) s [] l = false
asks (choice more) s (word ∷ words) l = asks (more word) s words l
