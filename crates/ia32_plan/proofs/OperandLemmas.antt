-- What operands and conditions give.
use Rattle.std.proofs.Common.{◌≡◌, ℕ, zero, suc, ◌+◌, ◌*◌, ◌^◌, ◌%◌, ◌/◌, ◌<◌, ◌≤◌, ◌==◌, List, ◌∷◌, refl, ap, ◌∙◌, arith}
use Rattle.std.specs.Prelude.{Bool, true, false, not, ◌||◌, Option, Some, None, if◌then◌else◌}
use Rattle.std.specs.Option.{option_map}
use Rattle.std.proofs.Math.Nat.{mul-le-mul}
use Rattle.ia32_types.specs.declared.Mem.{Mem}
use Rattle.ia32_semantics.specs.declared.flags.Flags.{Flags}
use Rattle.ia32_semantics.specs.State.{State, bytes_at, little_endian, joined}
use Rattle.ia32_semantics.specs.Reading.{gives, flag, ◌>>=◌, with_byte}
use Rattle.ia32_semantics.specs.Condition.{holds, even_condition, is_less}
use Rattle.ia32_semantics.specs.Operands.{register_or_zero, address, stored_number, condition_flags, condition, no_flags}
use Rattle.ia32_memory.specs.Mapped.{number_at}
use Rattle.ia32_plan.specs.declared.state.Core.{Core}
use Rattle.ia32_plan.specs.Told.{told, given_by_registers}
use Rattle.ia32_plan.specs.Views.{state_of, addresses_on}
use Rattle.ia32_plan.proofs.ToldLemmas.{then_told, told_bind, then_given, given_bind}

pub scaled_fits : (index scale : ℕ) → index < 2 ^ 32 → scale < 2 ^ 8 → index * scale < 2 ^ 40
scaled_fits index scale low high =
    let most : index * scale ≤ 4294967295 * 255 = mul-le-mul {n₁ = index} {m₁ = scale} {n₂ = 4294967295} {m₂ = 255} (omega arith) (omega arith) in omega arith

-- -- Addresses

pub address_given : (m : Mem) (s : State) (base index : ℕ)
    → given_by_registers (register_or_zero m.base) s ≡ Some base → given_by_registers (register_or_zero m.index) s ≡ Some index
    → given_by_registers (address m) s ≡ Some ((base + index * m.scale + m.disp) % 2 ^ 32)
unfolding address
address_given m s base index is_base is_index =
    given_bind (register_or_zero m.base) _ s
    ∙ ap (λ o. then_given o (λ b. given_by_registers (register_or_zero m.index >>= (λ i. gives ((b + i * m.scale + m.disp) % 2 ^ 32))) s)) is_base
    ∙ given_bind (register_or_zero m.index) _ s
    ∙ ap (λ o. then_given o (λ i. Some ((base + i * m.scale + m.disp) % 2 ^ 32))) is_index

-- -- Numbers in memory

number_after : (low : ℕ) (rest : Option (List ℕ)) (words asked : List ℕ)
    → then_told (option_map (λ v. (v, words, asked)) (option_map little_endian rest)) (λ v left more. Some (low + 256 * v, left, more))
    ≡ option_map (λ v. (v, words, asked)) (option_map little_endian (joined (Some low) rest))
unfolding little_endian
number_after low None words asked = refl
number_after low (Some bytes) words asked = refl

number_joined : (m : Option ℕ) (s : State) (n a : ℕ) (words asked : List ℕ)
    → told (stored_number n (a + 1)) s words (a ∷ asked) ≡ option_map (λ v. (v, words, addresses_on n (a + 1) (a ∷ asked))) (number_at s.memory n (a + 1))
    → with_byte m None (λ low. told (stored_number n (a + 1) >>= (λ rest. gives (low + 256 * rest))) s words (a ∷ asked))
    ≡ option_map (λ v. (v, words, addresses_on n (a + 1) (a ∷ asked))) (option_map little_endian (joined m (bytes_at s.memory (a + 1) n)))
number_joined None s n a words asked rest = refl
number_joined (Some low) s n a words asked rest =
    told_bind (stored_number n (a + 1)) (λ rest. gives (low + 256 * rest)) s words (a ∷ asked)
    ∙ ap (λ o. then_told o (λ v left more. Some (low + 256 * v, left, more))) rest
    ∙ number_after low (bytes_at s.memory (a + 1) n) words (addresses_on n (a + 1) (a ∷ asked))

pub told_number : (n a : ℕ) (s : State) (words asked : List ℕ)
    → told (stored_number n a) s words asked ≡ option_map (λ v. (v, words, addresses_on n a asked)) (number_at s.memory n a)
unfolding stored_number bytes_at little_endian
told_number zero a s words asked = refl
told_number (suc n) a s words asked = number_joined (s.memory a) s n a words asked (told_number n (a + 1) s words (a ∷ asked))

-- -- Conditions

after_given : (given : Option Flags) (even : Flags → Bool) (turned : Bool → Bool)
    → then_given given (λ f. Some (turned (even f))) ≡ option_map turned (then_given given (λ f. Some (even f)))
after_given None even turned = refl
after_given (Some f) even turned = refl

by_number : (b₀ b₁ b₂ b₃ b₄ b₅ b₆ : Bool) (core : Core)
    → then_given (given_by_registers
    (if b₀ then flag 4 (λ of. gives (record no_flags { of = of })) else
    (if b₁ then flag 0 (λ cf. gives (record no_flags { cf = cf })) else
    (if b₂ then flag 2 (λ zf. gives (record no_flags { zf = zf })) else
    (if b₃ then flag 0 (λ cf. flag 2 (λ zf. gives (record no_flags { cf = cf; zf = zf }))) else
    (if b₄ then flag 3 (λ sf. gives (record no_flags { sf = sf })) else
    (if b₅ then flag 1 (λ pf. gives (record no_flags { pf = pf })) else
    (if b₆ then flag 3 (λ sf. flag 4 (λ of. gives (record no_flags { sf = sf; of = of }))) else
    flag 2 (λ zf. flag 3 (λ sf. flag 4 (λ of. gives (record no_flags { zf = zf; sf = sf; of = of }))))))))))) (state_of core))
    (λ f. Some
    (if b₀ then f.of else
    (if b₁ then f.cf else
    (if b₂ then f.zf else
    (if b₃ then f.cf || f.zf else
    (if b₄ then f.sf else
    (if b₅ then f.pf else
    (if b₆ then is_less f else
    f.zf || is_less f))))))))
    ≡ Some
    (if b₀ then core.flags.of else
    (if b₁ then core.flags.cf else
    (if b₂ then core.flags.zf else
    (if b₃ then core.flags.cf || core.flags.zf else
    (if b₄ then core.flags.sf else
    (if b₅ then core.flags.pf else
    (if b₆ then is_less core.flags else
    core.flags.zf || is_less core.flags)))))))
by_number true b₁ b₂ b₃ b₄ b₅ b₆ core = refl
by_number false true b₂ b₃ b₄ b₅ b₆ core = refl
by_number false false true b₃ b₄ b₅ b₆ core = refl
by_number false false false true b₄ b₅ b₆ core = refl
by_number false false false false true b₅ b₆ core = refl
by_number false false false false false true b₆ core = refl
by_number false false false false false false true core = refl
by_number false false false false false false false core = refl

even_given : (n : ℕ) (core : Core)
    → then_given (given_by_registers (condition_flags n) (state_of core)) (λ f. Some (even_condition n f)) ≡ Some (even_condition n core.flags)
unfolding condition_flags even_condition
even_given n core = by_number (n == 0) (n == 1) (n == 2) (n == 3) (n == 4) (n == 5) (n == 6) core

abbrev turned_by : Bool → Bool → Bool
turned_by odd b = if odd then not b else b

pub condition_given : (c : ℕ) (core : Core) → given_by_registers (condition c) (state_of core) ≡ Some (holds c core.flags)
unfolding condition holds
condition_given c core =
    given_bind (condition_flags (c / 2)) _ (state_of core)
    ∙ after_given (given_by_registers (condition_flags (c / 2)) (state_of core)) (even_condition (c / 2)) (turned_by (c % 2 == 1))
    ∙ ap (option_map (turned_by (c % 2 == 1))) (even_given (c / 2) core)
