-- Refiners shared out in turn: each program has its part of whole rounds, and one more where the last round comes to it.
use Rattle.std.proofs.Common.{◌≡◌, ℕ, zero, suc, ◌+◌, ◌-◌, ◌/◌, ◌≤◌, nat_lt, [], ◌∷◌, refl, arith, if◌then◌else◌}
use Rattle.program_shelf.specs.Shares.{shares}

abbrev pub part_of : ℕ → ℕ → ℕ → ℕ
part_of refiners programs program = (if nat_lt program programs then (refiners + (programs - 1 - program)) / programs else 0)

pub parts_are_shares : (refiners programs : ℕ) → refiners ≤ 4 → 1 ≤ programs → programs ≤ 4
    → (part_of refiners programs 0 ∷ part_of refiners programs 1 ∷ part_of refiners programs 2 ∷ part_of refiners programs 3 ∷ []) ≡ shares refiners programs
parts_are_shares zero (suc zero) a b c = refl
parts_are_shares zero (suc (suc zero)) a b c = refl
parts_are_shares zero (suc (suc (suc zero))) a b c = refl
parts_are_shares zero (suc (suc (suc (suc zero)))) a b c = refl
parts_are_shares zero zero a b c = absurd (omega arith)
parts_are_shares zero (suc (suc (suc (suc (suc p))))) a b c = absurd (omega arith)
parts_are_shares (suc zero) (suc zero) a b c = refl
parts_are_shares (suc zero) (suc (suc zero)) a b c = refl
parts_are_shares (suc zero) (suc (suc (suc zero))) a b c = refl
parts_are_shares (suc zero) (suc (suc (suc (suc zero)))) a b c = refl
parts_are_shares (suc zero) zero a b c = absurd (omega arith)
parts_are_shares (suc zero) (suc (suc (suc (suc (suc p))))) a b c = absurd (omega arith)
parts_are_shares (suc (suc zero)) (suc zero) a b c = refl
parts_are_shares (suc (suc zero)) (suc (suc zero)) a b c = refl
parts_are_shares (suc (suc zero)) (suc (suc (suc zero))) a b c = refl
parts_are_shares (suc (suc zero)) (suc (suc (suc (suc zero)))) a b c = refl
parts_are_shares (suc (suc zero)) zero a b c = absurd (omega arith)
parts_are_shares (suc (suc zero)) (suc (suc (suc (suc (suc p))))) a b c = absurd (omega arith)
parts_are_shares (suc (suc (suc zero))) (suc zero) a b c = refl
parts_are_shares (suc (suc (suc zero))) (suc (suc zero)) a b c = refl
parts_are_shares (suc (suc (suc zero))) (suc (suc (suc zero))) a b c = refl
parts_are_shares (suc (suc (suc zero))) (suc (suc (suc (suc zero)))) a b c = refl
parts_are_shares (suc (suc (suc zero))) zero a b c = absurd (omega arith)
parts_are_shares (suc (suc (suc zero))) (suc (suc (suc (suc (suc p))))) a b c = absurd (omega arith)
parts_are_shares (suc (suc (suc (suc zero)))) (suc zero) a b c = refl
parts_are_shares (suc (suc (suc (suc zero)))) (suc (suc zero)) a b c = refl
parts_are_shares (suc (suc (suc (suc zero)))) (suc (suc (suc zero))) a b c = refl
parts_are_shares (suc (suc (suc (suc zero)))) (suc (suc (suc (suc zero)))) a b c = refl
parts_are_shares (suc (suc (suc (suc zero)))) zero a b c = absurd (omega arith)
parts_are_shares (suc (suc (suc (suc zero)))) (suc (suc (suc (suc (suc p))))) a b c = absurd (omega arith)
parts_are_shares (suc (suc (suc (suc (suc r))))) programs a b c = absurd (omega arith)
