-- Reading that may fail, from left to right. The project's own.
use Rattle.std.specs.Prelude.{◌≡◌, Option, Some, None, Result, Ok, Err}
use Rattle.command_words.specs.declared.line.WordsError.{WordsError}
use Rattle.command_words.specs.declared.line.WordsError.TheVariants.{Refused, Memory}

infixl 10 ◌>>=◌
abbrev pub ◌>>=◌ : {A B : Type 0} → Option A → (A → Option B) → Option B
None >>= f = None
(Some x) >>= f = f x

-- What a function returned is what reading gives, unless memory ran out.
abbrev pub Tells : {A : Type 0} → Result A WordsError → Option A → Type 0
Tells (Ok x) read = read ≡ Some x
Tells (Err Refused) read = read ≡ None
Tells (Err Memory) read = Unit {0}

-- what may be left out is readable where it is there
abbrev pub optional : {A B : Type 0} → (A → Option B) → Option A → Option (Option B)
optional read None = Some None
optional read (Some x) = do
  y ← read x
  Some (Some y)

-- where it is left out, this stands for it
abbrev pub with_default : {A B : Type 0} → B → (A → Option B) → Option A → Option B
with_default usual read None = Some usual
with_default usual read (Some x) = read x
