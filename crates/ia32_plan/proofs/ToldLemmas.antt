-- What a reading that goes on with another gives; words of choice, one after another.
use Rattle.std.proofs.Common.{◌≡◌, ℕ, zero, suc, ◌+◌, List, [], ◌∷◌, refl, sym, ap, ◌∙◌, drop}
use Rattle.std.specs.Prelude.{Option, Some, None, slice_get}
use Rattle.std.proofs.lemmas.List.{drop_more}
use Rattle.std.proofs.lemmas.Option.{slice_get_within, get_or_from_slice_get, none-some}
use Rattle.ia32_semantics.specs.State.{State}
use Rattle.ia32_semantics.specs.Reading.{Reading, gives, faults, register, flag, byte, choice, ◌>>=◌, with_byte}
use Rattle.ia32_plan.specs.Told.{told, given_by_registers}

-- what the next reading gives, where the first gave something
abbrev pub then_told : {A B : Type 0} → Option (A × List ℕ × List ℕ) → (A → List ℕ → List ℕ → Option (B × List ℕ × List ℕ)) → Option (B × List ℕ × List ℕ)
then_told None next = None
then_told (Some done) next = next done.0 done.1 done.2

byte_bind : {A B : Type 0} (m : Option ℕ) (both : ℕ → Option (B × List ℕ × List ℕ)) (first : ℕ → Option (A × List ℕ × List ℕ))
    (next : A → List ℕ → List ℕ → Option (B × List ℕ × List ℕ))
    → ((v : ℕ) → both v ≡ then_told (first v) next)
    → with_byte m None both ≡ then_told (with_byte m None first) next
byte_bind None both first next each = refl
byte_bind (Some v) both first next each = each v

pub told_bind : {A B : Type 0} (t : Reading A) (k : A → Reading B) (s : State) (words asked : List ℕ)
    → told (t >>= k) s words asked ≡ then_told (told t s words asked) (λ x left more. told (k x) s left more)
told_bind (gives x) k s words asked = refl
told_bind faults k s words asked = refl
told_bind (register n more) k s words asked = told_bind (more (s.registers n)) k s words asked
told_bind (flag n more) k s words asked = told_bind (more (s.flags n)) k s words asked
told_bind (byte a more) k s words asked = byte_bind (s.memory a) _ _ _ (λ v. told_bind (more v) k s words (a ∷ asked))
told_bind (choice more) k s [] asked = refl
told_bind (choice more) k s (word ∷ words) asked = told_bind (more word) k s words asked

-- -- Words of choice

pub drop_at_word : (words : List ℕ) (n word : ℕ) → slice_get words n ≡ Some word → drop n words ≡ word ∷ drop (n + 1) words
drop_at_word words n word is =
    drop_more words n word (slice_get_within words n word is)
    ∙ ap (λ w. w ∷ drop (n + 1) words) (get_or_from_slice_get words n word word is)

pub drop_past : (words : List ℕ) (n : ℕ) → slice_get words n ≡ None → drop n words ≡ []
drop_past [] zero is = refl
drop_past [] (suc n) is = refl
drop_past (word ∷ words) zero is = absurd (none-some word (sym is))
drop_past (word ∷ words) (suc n) is = drop_past words n is

-- -- Readings that ask for registers and flags alone

abbrev pub then_given : {A B : Type 0} → Option A → (A → Option B) → Option B
then_given None next = None
then_given (Some x) next = next x

pub given_bind : {A B : Type 0} (t : Reading A) (k : A → Reading B) (s : State)
    → given_by_registers (t >>= k) s ≡ then_given (given_by_registers t s) (λ x. given_by_registers (k x) s)
given_bind (gives x) k s = refl
given_bind faults k s = refl
given_bind (register n more) k s = given_bind (more (s.registers n)) k s
given_bind (flag n more) k s = given_bind (more (s.flags n)) k s
given_bind (byte a more) k s = refl
given_bind (choice more) k s = refl
