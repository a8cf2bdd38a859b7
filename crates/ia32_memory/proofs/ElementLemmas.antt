-- Elements that are stored or copied one after another.
use Rattle.std.proofs.Common.{◌≡◌, ℕ, suc, ◌+◌, ◌-◌, ◌/◌, ◌%◌, ◌^◌, [], ◌∷◌, sym, ap, ◌∙◌, arith}
use Rattle.std.specs.Prelude.{Bool, true, false, ◌&&◌}
use Rattle.ia32_semantics.specs.State.{Bytes}
use Rattle.ia32_semantics.specs.Effects.{byte_or_zero, bytes_from, all_among}
use Rattle.ia32_semantics.specs.Operands.{number_bytes}
use Rattle.ia32_semantics.specs.Strings.{stepped}
use Rattle.ia32_memory.specs.Changes.{with_bytes, filled_over, copied_over, all_in_elements}

pub stepped_down : (z a : ℕ) → stepped true z 1 a ≡ (a + (2 ^ 32 - z)) % 2 ^ 32
unfolding stepped
stepped_down z a = ap (λ n. n % 2 ^ 32) (omega arith)

pub stepped_up : (z a : ℕ) → stepped false z 1 a ≡ (a + z) % 2 ^ 32
unfolding stepped
stepped_up z a = ap (λ n. n % 2 ^ 32) (omega arith)

-- four bytes by twos, the upper two first
pub four_with : (m : Bytes) (a b0 b1 b2 b3 : ℕ)
    → with_bytes (with_bytes m (a + 2) (b2 ∷ b3 ∷ [])) (a + 0) (b0 ∷ b1 ∷ []) ≡ with_bytes m a (b0 ∷ b1 ∷ b2 ∷ b3 ∷ [])
four_with m a b0 b1 b2 b3 =
    let none : a + 0 ≡ a = omega arith in
    let up : a + 2 ≡ a + 1 + 1 = omega arith in
    ap (λ x. with_bytes (with_bytes m (a + 2) (b2 ∷ b3 ∷ [])) x (b0 ∷ b1 ∷ [])) none
    ∙ ap (λ y. with_bytes (with_bytes m y (b2 ∷ b3 ∷ [])) a (b0 ∷ b1 ∷ [])) up

third : (v : ℕ) → v / 65536 % 256 ≡ v / 256 / 256 % 256
third v = omega arith

fourth : (v : ℕ) → v / 65536 / 256 % 256 ≡ v / 256 / 256 / 256 % 256
fourth v = omega arith

-- a number by halves
pub four_number : (m : Bytes) (a v : ℕ) → with_bytes (with_bytes m (a + 2) (number_bytes 2 (v / 65536))) (a + 0) (number_bytes 2 v) ≡ with_bytes m a (number_bytes 4 v)
four_number m a v =
    four_with m a (v % 256) (v / 256 % 256) (v / 65536 % 256) (v / 65536 / 256 % 256)
    ∙ ap (λ b. with_bytes m a (v % 256 ∷ v / 256 % 256 ∷ b ∷ v / 65536 / 256 % 256 ∷ [])) (third v)
    ∙ ap (λ b. with_bytes m a (v % 256 ∷ v / 256 % 256 ∷ v / 256 / 256 % 256 ∷ b ∷ [])) (fourth v)

-- four bytes that were read
pub four_from : (m : Bytes) (a b0 b1 b2 b3 : ℕ) → b0 ≡ byte_or_zero (m (a + 0)) → b1 ≡ byte_or_zero (m (a + 1)) → b2 ≡ byte_or_zero (m (a + 2)) → b3 ≡ byte_or_zero (m (a + 3))
    → (b0 ∷ b1 ∷ b2 ∷ b3 ∷ []) ≡ bytes_from m a 4
four_from m a b0 b1 b2 b3 e0 e1 e2 e3 =
    let p0 : a + 0 ≡ a = omega arith in
    let p2 : a + 2 ≡ a + 1 + 1 = omega arith in
    let p3 : a + 3 ≡ a + 1 + 1 + 1 = omega arith in
    ap (λ x. x ∷ b1 ∷ b2 ∷ b3 ∷ []) (e0 ∙ ap (λ p. byte_or_zero (m p)) p0)
    ∙ ap (λ x. byte_or_zero (m a) ∷ x ∷ b2 ∷ b3 ∷ []) e1
    ∙ ap (λ x. byte_or_zero (m a) ∷ byte_or_zero (m (a + 1)) ∷ x ∷ b3 ∷ []) (e2 ∙ ap (λ p. byte_or_zero (m p)) p2)
    ∙ ap (λ x. byte_or_zero (m a) ∷ byte_or_zero (m (a + 1)) ∷ byte_or_zero (m (a + 1 + 1)) ∷ x ∷ []) (e3 ∙ ap (λ p. byte_or_zero (m p)) p3)

pub fill_more : (down : Bool) (z value n m to next : ℕ) (old new whole : Bytes) → n ≡ m + 1 → next ≡ stepped down z 1 to → new ≡ with_bytes old to (number_bytes z value)
    → filled_over down z value n to old ≡ whole → filled_over down z value m next new ≡ whole
unfolding filled_over
fill_more down z value n m to next old new whole more step write is =
    let e : suc m ≡ n = omega arith in
    ap (λ a. filled_over down z value m a new) step ∙ ap (λ b. filled_over down z value m (stepped down z 1 to) b) write
    ∙ ap (λ k. filled_over down z value k to old) e ∙ is

pub fill_done : (down : Bool) (z value n to : ℕ) (old whole : Bytes) → n ≡ 0 → filled_over down z value n to old ≡ whole → old ≡ whole
unfolding filled_over
fill_done down z value n to old whole none is = sym (ap (λ k. filled_over down z value k to old) none) ∙ is

pub copy_more : (down : Bool) (z n m from to from_next to_next : ℕ) (old new whole : Bytes) → n ≡ m + 1 → from_next ≡ stepped down z 1 from → to_next ≡ stepped down z 1 to
    → new ≡ with_bytes old to (bytes_from old from z) → copied_over down z n from to old ≡ whole → copied_over down z m from_next to_next new ≡ whole
unfolding copied_over
copy_more down z n m from to from_next to_next old new whole more step_from step_to write is =
    let e : suc m ≡ n = omega arith in
    ap (λ a. copied_over down z m a to_next new) step_from ∙ ap (λ a. copied_over down z m (stepped down z 1 from) a new) step_to
    ∙ ap (λ b. copied_over down z m (stepped down z 1 from) (stepped down z 1 to) b) write
    ∙ ap (λ k. copied_over down z k from to old) e ∙ is

pub copy_done : (down : Bool) (z n from to : ℕ) (old whole : Bytes) → n ≡ 0 → copied_over down z n from to old ≡ whole → old ≡ whole
unfolding copied_over
copy_done down z n from to old whole none is = sym (ap (λ k. copied_over down z k from to old) none) ∙ is

-- -- Tests of one element after another

pub elements_next : (test : ℕ → Bool) (down : Bool) (z n m a next : ℕ) (whole : Bool) → whole ≡ all_in_elements test down z n a → n ≡ m + 1 → next ≡ stepped down z 1 a
    → all_among test a z ≡ true → whole ≡ all_in_elements test down z m next
unfolding all_in_elements
elements_next test down z n m a next whole is more step passes =
    let e : n ≡ suc m = omega arith in
    is ∙ ap (λ k. all_in_elements test down z k a) e ∙ ap (λ t. t && all_in_elements test down z m (stepped down z 1 a)) passes ∙ ap (all_in_elements test down z m) (sym step)

pub elements_fail : (test : ℕ → Bool) (down : Bool) (z n m a : ℕ) (whole : Bool) → whole ≡ all_in_elements test down z n a → n ≡ m + 1
    → all_among test a z ≡ false → false ≡ whole
unfolding all_in_elements
elements_fail test down z n m a whole is more fails =
    let e : n ≡ suc m = omega arith in
    sym (is ∙ ap (λ k. all_in_elements test down z k a) e ∙ ap (λ t. t && all_in_elements test down z m (stepped down z 1 a)) fails)

pub elements_done : (test : ℕ → Bool) (down : Bool) (z n a : ℕ) (whole : Bool) → whole ≡ all_in_elements test down z n a → n ≡ 0 → true ≡ whole
unfolding all_in_elements
elements_done test down z n a whole is none = sym (is ∙ ap (λ k. all_in_elements test down z k a) none)
