-- What a reading of a number gives, by the bytes of memory.
use Rattle.std.proofs.Common.{◌≡◌, ℕ, zero, suc, ◌+◌, ◌*◌, List, refl, ap, ◌∙◌}
use Rattle.std.specs.Prelude.{Option, Some, None, option_map}
use Rattle.ia32_semantics.specs.State.{State, bytes_at, little_endian, joined}
use Rattle.ia32_semantics.specs.Reading.{outcome, gives, with_byte}
use Rattle.ia32_semantics.specs.Operands.{stored_number}
use Rattle.ia32_semantics.proofs.ReadingLemmas.{then_outcome, outcome_bind}
use Rattle.ia32_memory.specs.Mapped.{number_at}

number_go : (words : List ℕ) (byte : Option ℕ) (rest : Option (List ℕ))
    → with_byte byte None (λ low. then_outcome (option_map (λ (v : ℕ). (v, words)) (option_map little_endian rest)) (λ v left. Some (low + 256 * v, left)))
    ≡ option_map (λ (v : ℕ). (v, words)) (option_map little_endian (joined byte rest))
unfolding little_endian
number_go words None rest = refl
number_go words (Some b) None = refl
number_go words (Some b) (Some bytes) = refl

byte_same : (byte : Option ℕ) (f g : ℕ → Option (ℕ × List ℕ)) → ((v : ℕ) → f v ≡ g v) → with_byte byte None f ≡ with_byte byte None g
byte_same None f g same = refl
byte_same (Some b) f g same = same b

pub stored_number_is : (n a : ℕ) (s : State) (words : List ℕ) → outcome (stored_number n a) s words ≡ option_map (λ v. (v, words)) (number_at s.memory n a)
unfolding stored_number bytes_at little_endian
stored_number_is zero a s words = refl
stored_number_is (suc n) a s words =
    byte_same (s.memory a) _ _ (λ low. outcome_bind (stored_number n (a + 1)) (λ rest. gives (low + 256 * rest)) s words
    ∙ ap (λ r. then_outcome r (λ v left. Some (low + 256 * v, left))) (stored_number_is n (a + 1) s words))
    ∙ number_go words (s.memory a) (bytes_at s.memory (a + 1) n)
