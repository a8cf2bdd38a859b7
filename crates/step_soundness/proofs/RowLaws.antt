-- The rows of arithmetic, by the shape of what they read and write.
use Rattle.std.proofs.Common.{◌≡◌, ◌⊎◌, inl, inr, ℕ, ◌%◌, ◌^◌, ◌<◌, ◌≤◌, true, false, cond, List, [], ◌∷◌, ◌++◌, Some, sym, subst, arith}
use Rattle.std.proofs.lemmas.Bool.{cond_both}
use Rattle.image_map.specs.declared.image.Image.{Image}
use Rattle.ia32_types.specs.declared.Mem.{Mem}
use Rattle.ia32_types.specs.declared.Op.{Op}
use Rattle.ia32_types.specs.declared.Instr.{Instr}
use Rattle.ia32_types.specs.declared.Operand.{Operand}
use Rattle.ia32_types.specs.declared.Operand.TheVariants as operand
use Rattle.ia32_types.specs.declared.Width.{Width}
use Rattle.ia32_types.specs.declared.Width.TheVariants.{B8, W16, D32}
use Rattle.ia32_types.specs.Forms.{width_limit}
use Rattle.ia32_types.specs.Operands.{IsAddress, IsPlace, IsTarget, IsValue}
use Rattle.ia32_semantics.specs.declared.flags.Flags.{Flags}
use Rattle.ia32_semantics.specs.declared.flags.FlagsOut.{FlagsOut}
use Rattle.ia32_semantics.specs.Alu.{kept_flags}
use Rattle.ia32_semantics.specs.Operands as machine
use Rattle.ia32_types.specs.Numbers.{size}
use Rattle.ia32_semantics.specs.Operands.{bits}
use Rattle.ia32_semantics.specs.Outcome.{Outcome, going}
use Rattle.ia32_semantics.specs.Reading.{◌>>=◌}
use Rattle.ia32_semantics.specs.Rows.{next_place, goes_on}
use Rattle.ia32_semantics.specs.State.{State}
use Rattle.alocs.specs.Cells.{Division}
use Rattle.vset.specs.Values.{Values, CanonicalValues}
use Rattle.vset.specs.Members.{HasValue}
use Rattle.abs_alu.specs.Computed.{is_computed, computed, computed_flags}
use Rattle.abs_alu.specs.Results.{value, flags}
use Rattle.abs_alu.specs.Runs.{AreAfter}
use Rattle.abs_semantics.specs.States.{AbsState, HasCanonical}
use Rattle.abs_semantics.specs.StandsFor.{world_of}
use Rattle.abs_semantics.specs.Ownership.{IsKnown}
use Rattle.abs_semantics.specs.Operands.{address}
use Rattle.abs_steps.specs.declared.accesses.Access.{Access}
use Rattle.abs_steps.specs.Accesses.{access, of_operand}
use Rattle.abs_steps.specs.Effects.{AbsEffect, turns}
use Rattle.abs_steps.specs.Flags.{sets_of}
use Rattle.abs_steps.specs.Results.{keeps_flags}
use Rattle.abs_steps.specs.Rows.{view_of, flag_effects}
use Rattle.abs_steps.specs.Views.{value_of, store_to}
use Rattle.step_soundness.specs.Accessed.{IsAccessed}
use Rattle.step_soundness.specs.Terms.{IsOperand}
use Rattle.step_soundness.proofs.ArithmeticLaws.{AreTaken, result_has, flags_have}
use Rattle.step_soundness.proofs.EndLaws.{Goes, leads_follow, IsFlagged, flags_turned, flags_kept, goes_follow, goes_flagged}
use Rattle.step_soundness.proofs.FlagLaws.{all_flagged, flags_by, are_after, flags_allowed}
use Rattle.step_soundness.proofs.GivenLaws.{Gives, gives_bind, gives_this, gives_more}
use Rattle.step_soundness.proofs.ReadLaws.{IsRead, IsSelf, IsAsked, IsValueOf, value_gives}
use Rattle.step_soundness.proofs.ValueForms.{operand_form, value_form}
use Rattle.step_soundness.proofs.WriteLaws.{AreQuiet, Follows, store_follows}

-- -- Operands as bytes spell them

pub spelt_address : (m : Mem) → IsAddress m → IsOperand (operand.Mem m)
spelt_address m is = (by is.scale, is.disp)
  where
    by : (m.scale ≡ 1) ⊎ ((m.scale ≡ 2) ⊎ ((m.scale ≡ 4) ⊎ (m.scale ≡ 8))) → m.scale ≤ 8
    by (inl e) = omega (arith, e)
    by (inr (inl e)) = omega (arith, e)
    by (inr (inr (inl e))) = omega (arith, e)
    by (inr (inr (inr e))) = omega (arith, e)

pub spelt_target : (width : Width) (o : Operand) → IsTarget width o → IsOperand o
spelt_target width (operand.Reg r) is = tt
spelt_target width (operand.High r) is = tt
spelt_target width (operand.Imm n) is = absurd is
spelt_target width (operand.Mem m) is = spelt_address m is.0

pub limit_below : (width : Width) (n : ℕ) → n < width_limit width → n < 4294967296
limit_below B8 n lt = omega (arith, lt)
limit_below W16 n lt = omega (arith, lt)
limit_below D32 n lt = lt

pub spelt_value : (width : Width) (o : Operand) → IsValue width o → IsOperand o
spelt_value width (operand.Reg r) is = tt
spelt_value width (operand.High r) is = tt
spelt_value width (operand.Imm n) is = limit_below width n is
spelt_value width (operand.Mem m) is = spelt_address m is

pub spelt_place : (width : Width) (o : Operand) → IsPlace width o → IsOperand o
spelt_place width (operand.Reg r) is = tt
spelt_place width (operand.High r) is = tt
spelt_place width (operand.Imm n) is = absurd is
spelt_place width (operand.Mem m) is = spelt_address m is

spelt_number : (o : Operand) → IsOperand o → (k : ℕ) → o ≡ operand.Imm k → k < 4294967296
spelt_number o is k e = subst IsOperand e is

module _ (image : Image) (lane p : ℕ) (a : AbsState) (s : State) (d : Division) (known_ : IsKnown image lane a p s) (form : HasCanonical a) where
  abbrev pub Row : Instr → List Access → List Access → List AbsEffect → Outcome → Type 0
  Row i reads writes given done_ = Goes image lane p a s d (next_place i) reads writes writes given done_

  -- -- What is read

  abbrev pub Has : Width → Operand → ℕ → Type 0
  Has width o n = IsRead lane (world_of s) width (value_of (view_of a d p) width (Some o)) n × IsSelf s width o n

  asked_there : (width : Width) (o : Operand) (byte : ℕ) → IsAsked image lane a p s d known_ form width o byte → IsAccessed lane s (of_operand false a width (Some o)) byte
  asked_there width (operand.Reg r) byte h = absurd h
  asked_there width (operand.High r) byte h = absurd h
  asked_there width (operand.Imm n) byte h = absurd h
  asked_there width (operand.Mem m) byte h =
      subst (λ b. IsAccessed lane s (cond b [] (access false (address a m) (Some (size width)) ∷ [])) byte) (sym h.0) (inl h.1)

  pub read_gives : (R : ℕ → Type 0) (width : Width) (o : Operand) → IsOperand o → ((byte : ℕ) → IsAccessed lane s (of_operand false a width (Some o)) byte → R byte)
      → Gives s R (Has width o) (machine.value_of width (Some o))
  unfolding machine.value_of value_of
  read_gives R width o spelt there =
      gives_more s (IsAsked image lane a p s d known_ form width o) R (IsValueOf image lane a p s d known_ form width o) (Has width o) (machine.value width o)
      (λ byte h. there byte (asked_there width o byte h)) (λ n h. h) (value_gives image lane a p s d known_ form width o spelt)

  pub value_canonical : (width : Width) (o : Operand) → IsOperand o → CanonicalValues (value_of (view_of a d p) width (Some o))
  unfolding value_of
  value_canonical width o spelt = operand_form a form d p width o (spelt_number o spelt)

  -- -- What is stored

  none_asked : (R : ℕ → Type 0) (byte : ℕ) → ⊥ → R byte
  none_asked R byte h = absurd h

  module _ (i : Instr) (R : ℕ → Type 0) (reads : List Access) (width : Width) (x : Operand) (target : IsTarget width x) (quiet : AreQuiet a p (of_operand true a width (Some x)))
      (n : ℕ) (w : Values) (fw : CanonicalValues w) (has : HasValue lane (world_of s) (n % 2 ^ bits width) w) where
    pub stored_follows : Gives s R (Follows image lane p a s d (of_operand true a width (Some x)) (store_to (view_of a d p) width (Some x) w)) (machine.store_to width (Some x) n)
    unfolding machine.store_to store_to
    stored_follows =
        gives_more s (λ byte. ⊥) R _ _ (machine.store width x n) (none_asked R) (λ es f. f)
        (store_follows image lane p a s d known_ form width x target (spelt_target width x target) n w fw has quiet)

    -- a row that stores a number and goes on
    pub stored_goes : Gives s R (Row i reads (of_operand true a width (Some x)) (store_to (view_of a d p) width (Some x) w)) (machine.store_to width (Some x) n >>= (λ stored. goes_on i stored))
    stored_goes =
        gives_bind s R _ _ (machine.store_to width (Some x) n) (λ stored. goes_on i stored) stored_follows
        (λ stored f. gives_this s R _ (going stored (next_place i)) (goes_follow image lane p a s d known_ form (next_place i) reads (of_operand true a width (Some x)) (store_to (view_of a d p) width (Some x) w) stored f))

    -- the same with flags
    pub stored_flagged : (more : List AbsEffect) (o : FlagsOut) → IsFlagged image lane p a s d more o
        → Gives s R (Row i reads (of_operand true a width (Some x)) (store_to (view_of a d p) width (Some x) w ++ more)) (machine.store_to width (Some x) n >>= (λ stored. goes_on i (stored ++ machine.flag_effects o)))
    stored_flagged more o flags =
        gives_bind s R _ _ (machine.store_to width (Some x) n) (λ stored. goes_on i (stored ++ machine.flag_effects o)) stored_follows
        (λ stored f. gives_this s R _ (going (stored ++ machine.flag_effects o) (next_place i))
        (goes_flagged image lane p a s d known_ form (next_place i) reads (of_operand true a width (Some x)) (store_to (view_of a d p) width (Some x) w) more stored o f.taken
        (leads_follow image lane p a s d known_ form (of_operand true a width (Some x)) (store_to (view_of a d p) width (Some x) w) stored f) flags))

  -- -- Arithmetic

  module _ (width : Width) (o : Op) (is : is_computed o ≡ true) (x y : Values) (fx : CanonicalValues x) (fy : CanonicalValues y) (m n : ℕ) (taken : AreTaken lane (world_of s) width o x y m n)
      (drawn : FlagsOut) (after : (b now : Flags) → AreAfter drawn b now → AreAfter (computed_flags (bits width) o m n (s.flags 0)) b now) where
    abbrev f_before : Flags
    f_before = flags_by s.flags

    abbrev f_after : Flags
    f_after = flags_by (all_flagged drawn s.flags)

    ours : AreAfter (computed_flags (bits width) o m n (s.flags 0)) f_before f_after
    ours = after f_before f_after (are_after drawn s.flags)

    pub arithmetic_has : HasValue lane (world_of s) (computed (bits width) o m n (s.flags 0) % 2 ^ bits width) (value (bits width) o x y (sets_of a.flags))
    arithmetic_has =
        result_has lane (world_of s) width o is x y fx fy (sets_of a.flags) m n taken f_before (flags_allowed lane a s known_.stands) f_after ours

    pub arithmetic_form : CanonicalValues (value (bits width) o x y (sets_of a.flags))
    arithmetic_form = value_form width x y fx fy (sets_of a.flags) o is

    pub arithmetic_flags : (keeps_flags (bits width) o y ≡ true → drawn ≡ kept_flags) → IsFlagged image lane p a s d (flag_effects (view_of a d p) (bits width) o x y) drawn
    arithmetic_flags kept =
        cond_both (keeps_flags (bits width) o y) [] (turns (flags (bits width) o x y (sets_of a.flags)) ∷ []) (λ fs. IsFlagged image lane p a s d fs drawn)
        (λ yes. flags_kept image lane p a s d drawn (kept yes))
        (λ no_. flags_turned image lane p a s d (flags (bits width) o x y (sets_of a.flags)) drawn
        (flags_have lane (world_of s) width o is x y fx fy (sets_of a.flags) m n taken f_before (flags_allowed lane a s known_.stands) f_after ours))

  -- an operation that stores what it gives: `w` is the value that the abstract row stores
  pub arithmetic_goes : (i : Instr) (R : ℕ → Type 0) (reads : List Access) (t : Operand) → IsTarget i.width t → AreQuiet a p (of_operand true a i.width (Some t))
      → (o : Op) (is : is_computed o ≡ true) (x y : Values) (fx : CanonicalValues x) (fy : CanonicalValues y) (m n : ℕ) (taken : AreTaken lane (world_of s) i.width o x y m n)
      → (drawn : FlagsOut) (after : (b now : Flags) → AreAfter drawn b now → AreAfter (computed_flags (bits i.width) o m n (s.flags 0)) b now)
      → (keeps_flags (bits i.width) o y ≡ true → drawn ≡ kept_flags)
      → (r : ℕ) → r ≡ computed (bits i.width) o m n (s.flags 0) → (w : Values)
      → (CanonicalValues (value (bits i.width) o x y (sets_of a.flags)) → CanonicalValues w)
      → (HasValue lane (world_of s) (r % 2 ^ bits i.width) (value (bits i.width) o x y (sets_of a.flags)) → HasValue lane (world_of s) (r % 2 ^ bits i.width) w)
      → Gives s R (Row i reads (of_operand true a i.width (Some t)) (store_to (view_of a d p) i.width (Some t) w ++ flag_effects (view_of a d p) (bits i.width) o x y))
      (machine.store_to i.width (Some t) r >>= (λ stored. goes_on i (stored ++ machine.flag_effects drawn)))
  arithmetic_goes i R reads t target quiet o is x y fx fy m n taken drawn after kept r e w w_form w_has =
      stored_flagged i R reads i.width t target quiet r w (w_form (arithmetic_form i.width o is x y fx fy m n taken drawn after))
      (w_has (subst (λ k. HasValue lane (world_of s) (k % 2 ^ bits i.width) (value (bits i.width) o x y (sets_of a.flags))) (sym e) (arithmetic_has i.width o is x y fx fy m n taken drawn after)))
      (flag_effects (view_of a d p) (bits i.width) o x y) drawn (arithmetic_flags i.width o is x y fx fy m n taken drawn after kept)
