-- The flags that an operation may write are among those that are taken as any.

use Rattle.std.proofs.Common.{◌≡◌, ℕ, ◌==◌, ◌&&◌, Bool, true, false, cond, Option, Some, None, refl, sym, ◌∙◌, ap, subst}
use Rattle.std.proofs.lemmas.Bool.{cond_both, cond-true, and_parts, eqb-true, eq-eqb}
use Rattle.ia32_types.specs.declared.Op.{Op}
use Rattle.ia32_types.specs.Places.{op_flag_writes}
use Rattle.ia32_semantics.specs.declared.flags.Flags.{Flags}
use Rattle.ia32_semantics.specs.declared.flags.FlagsOut.{FlagsOut}
use Rattle.ia32_semantics.specs.Alu.{alu_flags, kept_flags}
use Rattle.ia32_semantics.specs.Shift.{masked, shift_flags, shift_flags_by, rotated_left_flags, rotated_right_flags}
use Rattle.vset.specs.Values.{Values}
use Rattle.abs_alu.specs.Computed.{is_computed, computed_flags}
use Rattle.abs_alu.specs.Flags.{any_written, is_shift, is_none, unknown_flags}
use Rattle.abs_alu.specs.Operands.{known}
use Rattle.abs_alu.specs.Runs.{IsFlagAfter, AreAfter}
use Rattle.abs_alu.proofs.OpLemmas.{each_op}

module _ (w m n : ℕ) (c : Bool) (before now : Flags) where
  abbrev pub Covers : Op → Type 0
  Covers o = AreAfter (computed_flags w o m n c) before now → AreAfter (any_written o) before now

  -- a rotate keeps three flags, whether its count is 0 or not
  turned : (t : Bool) (flags : FlagsOut) → (AreAfter flags before now → IsFlagAfter kept_flags.pf before.pf now.pf × IsFlagAfter kept_flags.zf before.zf now.zf × IsFlagAfter kept_flags.sf before.sf now.sf) → AreAfter (cond t kept_flags flags) before now → IsFlagAfter kept_flags.pf before.pf now.pf × IsFlagAfter kept_flags.zf before.zf now.zf × IsFlagAfter kept_flags.sf before.sf now.sf
  turned true flags rest h = (h.1, h.2, h.3)
  turned false flags rest h = rest h

  pub any_covers : (o : Op) → is_computed o ≡ true → Covers o
  unfolding computed_flags alu_flags any_written op_flag_writes shift_flags shift_flags_by rotated_left_flags rotated_right_flags kept_flags
  any_covers =
      each_op Covers
      all all all all all all all all all
      (λ h. (h.0, tt, tt, tt, tt)) (λ h. (h.0, tt, tt, tt, tt)) (λ h. h) all
      all all
      all all all
      (λ h. let kept = turned (masked n == 0) (rotated_left_flags w m (masked n)) (λ k. (k.1, k.2, k.3)) h in (tt, kept.0, kept.1, kept.2, tt))
      (λ h. let kept = turned (masked n == 0) (rotated_right_flags w m (masked n)) (λ k. (k.1, k.2, k.3)) h in (tt, kept.0, kept.1, kept.2, tt))
    where
      all : {A : Type 0} → A → Unit {0} × Unit {0} × Unit {0} × Unit {0} × Unit {0}
      all h = (tt, tt, tt, tt, tt)

  -- a shift by 0 modulo 32 keeps all
  abbrev Stays : Op → Type 0
  Stays o = is_shift o ≡ true → masked n ≡ 0 → computed_flags w o m n c ≡ kept_flags

  stays : (o : Op) → is_computed o ≡ true → Stays o
  unfolding computed_flags shift_flags
  stays =
      each_op Stays
      (λ e z. cc) (λ e z. cc) (λ e z. cc) (λ e z. cc) (λ e z. cc) (λ e z. cc) (λ e z. cc) (λ e z. cc) (λ e z. cc)
      (λ e z. cc) (λ e z. cc) (λ e z. cc) (λ e z. cc) (λ e z. cc) (λ e z. cc)
      (λ e z. by_none _ z) (λ e z. by_none _ z) (λ e z. by_none _ z) (λ e z. by_none _ z) (λ e z. by_none _ z)
    where
      by_none : (flags : FlagsOut) → masked n ≡ 0 → cond (masked n == 0) kept_flags flags ≡ kept_flags
      by_none flags z = cond-true (masked n == 0) _ _ (eq-eqb (masked n) 0 z)

  none_masked : (count : Option ℕ) → ((k : ℕ) → count ≡ Some k → k ≡ n) → is_none count ≡ true → masked n ≡ 0
  none_masked None is e = cc
  none_masked (Some k) is e = ap masked (sym (is k refl)) ∙ eqb-true (masked k) 0 e

  pub unknown_covers : (o : Op) (b : Values) → is_computed o ≡ true → (is_shift o ≡ true → (k : ℕ) → known w b ≡ Some k → k ≡ n) → AreAfter (computed_flags w o m n c) before now → AreAfter (unknown_flags w o b) before now
  unknown_covers o b is word h =
      cond_both (is_shift o && is_none (known w b)) kept_flags (any_written o) (λ (f : FlagsOut). AreAfter f before now)
      (λ still.
      let both = and_parts (is_shift o) (is_none (known w b)) still in
      subst (λ (f : FlagsOut). AreAfter f before now) (stays o is both.0 (none_masked (known w b) (word both.0) both.1)) h)
      (λ _. any_covers o is h)
