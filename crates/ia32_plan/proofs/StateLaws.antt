-- A row asks for registers, flags and bytes alone: in any state that has a core's, it gives what it gives in the core's own.
use Rattle.std.proofs.Common.{◌≡◌, ℕ, List, [], ◌∷◌, refl, ap, ◌∙◌}
use Rattle.std.specs.Prelude.{Bool, false, ◌||◌, Option, Some, None}
use Rattle.ia32_semantics.specs.State.{State, Bytes, Location}
use Rattle.ia32_semantics.specs.Reading.{Reading, gives, faults, register, flag, byte, choice, with_byte, outcome, asks, is_register, is_flag, is_byte}

-- two states have the same registers, flags and memory
pub record SameParts (s t : State) : Type 0 where
  pub registers : s.registers ≡ t.registers
  pub flags : s.flags ≡ t.flags
  pub memory : s.memory ≡ t.memory

byte_alike : {B : Type 0} (m n : Option ℕ) (otherwise : B) (f g : ℕ → B) → m ≡ n → ((v : ℕ) → f v ≡ g v) → with_byte m otherwise f ≡ with_byte n otherwise g
byte_alike m None otherwise f g same each = ap (λ m. with_byte m otherwise f) same
byte_alike m (Some v) otherwise f g same each = ap (λ m. with_byte m otherwise f) same ∙ each v

pub outcome_alike : {A : Type 0} (r : Reading A) (s t : State) (words : List ℕ) → SameParts s t → outcome r s words ≡ outcome r t words
outcome_alike (gives x) s t words same = refl
outcome_alike faults s t words same = refl
outcome_alike (register n more) s t words same =
    ap (λ (f : ℕ → ℕ). outcome (more (f n)) s words) same.registers ∙ outcome_alike (more (t.registers n)) s t words same
outcome_alike (flag n more) s t words same =
    ap (λ (f : ℕ → Bool). outcome (more (f n)) s words) same.flags ∙ outcome_alike (more (t.flags n)) s t words same
outcome_alike (byte a more) s t words same =
    byte_alike (s.memory a) (t.memory a) None _ _ (ap (λ (f : Bytes). f a) same.memory) (λ v. outcome_alike (more v) s t words same)
outcome_alike (choice more) s t [] same = refl
outcome_alike (choice more) s t (word ∷ words) same = outcome_alike (more word) s t words same

pub asks_alike : {A : Type 0} (r : Reading A) (s t : State) (words : List ℕ) (l : Location) → SameParts s t → asks r s words l ≡ asks r t words l
asks_alike (gives x) s t words l same = refl
asks_alike faults s t words l same = refl
asks_alike (register n more) s t words l same =
    ap (λ (f : ℕ → ℕ). is_register n l || asks (more (f n)) s words l) same.registers
    ∙ ap (λ b. is_register n l || b) (asks_alike (more (t.registers n)) s t words l same)
asks_alike (flag n more) s t words l same =
    ap (λ (f : ℕ → Bool). is_flag n l || asks (more (f n)) s words l) same.flags
    ∙ ap (λ b. is_flag n l || b) (asks_alike (more (t.flags n)) s t words l same)
asks_alike (byte a more) s t words l same =
    ap (λ b. is_byte a l || b)
    (byte_alike (s.memory a) (t.memory a) false _ _ (ap (λ (f : Bytes). f a) same.memory) (λ v. asks_alike (more v) s t words l same))
asks_alike (choice more) s t [] l same = refl
asks_alike (choice more) s t (word ∷ words) l same = asks_alike (more word) s t words l same
