-- Each row asks for each flag of its table.
use Rattle.std.proofs.Common.{◌≡◌, ℕ, ◌/◌, List, [], ◌∷◌, ◌++◌, refl, sym, subst, eqb-true}
use Rattle.std.specs.Prelude.{Bool, true, false, ◌==◌, if◌then◌else◌}
use Rattle.std.proofs.lemmas.Bool.{false≢true}
use Rattle.ia32_types.specs.declared.Flag.{Flag}
use Rattle.ia32_types.specs.declared.Flag.TheVariants.{Cf, Pf, Zf, Sf, Of, Df}
use Rattle.ia32_types.specs.declared.Op.{Op}
use Rattle.ia32_types.specs.declared.Op.TheVariants as op
use Rattle.ia32_types.specs.declared.Instr.{Instr}
use Rattle.ia32_types.specs.Numbers.{flag_number, size}
use Rattle.ia32_types.specs.Places as places
use Rattle.ia32_types.specs.Places.{op_flag_reads}
use Rattle.ia32_semantics.specs.declared.flags.Flags.{Flags}
use Rattle.ia32_semantics.specs.State.{State, Location, InFlag}
use Rattle.ia32_semantics.specs.Reading.{Reading, gives, flag, ◌>>=◌}
use Rattle.ia32_semantics.specs.Effects.{Effect, Whole, sets}
use Rattle.ia32_semantics.specs.Outcome.{Outcome}
use Rattle.ia32_semantics.specs.Operands.{whole_register, no_flags, value_of, condition_flags, condition, flag_value}
use Rattle.ia32_semantics.specs.Strings.{movs_effects, stos_effects, repeated}
use Rattle.ia32_semantics.specs.Rows.{carry_in, computed, row}
use Rattle.ia32_semantics.specs.Laws.{has_flag}
use Rattle.ia32_semantics.proofs.EffectLemmas.{or_true}
use Rattle.ia32_machine.proofs.SureLemmas.{Sure, never, register_later, sure_first, sure_later, flag_sure, flag_later, flag_value_sure, done_takes}
use Rattle.ia32_machine.proofs.SureRowLemmas.{Counts}

module _ (s : State) (n : ℕ) where
  abbrev l : Location
  l = InFlag n

  abbrev SureRow : Reading Outcome → Type 0
  SureRow t = Sure s l (done_takes s l) t

  abbrev In : List Flag → Type 0
  In flags = has_flag flags n ≡ true

  -- the first of a list, or one of the others
  either : (f : Flag) (rest : List Flag) {P : Type 0} → In (f ∷ rest) → (flag_number f ≡ n → P) → (In rest → P) → P
  either f rest has first second = or_true (flag_number f == n) _ has (λ e. first (eqb-true (flag_number f) n e)) second

  here : (m : ℕ) (k : Bool → Reading Flags) → m ≡ n → Sure s l never (flag m k)
  here m k e = subst (λ j. Sure s (InFlag j) never (flag m k)) e (flag_sure s m never k)

  past : (m : ℕ) (k : Bool → Reading Flags) → ((v : Bool) → Sure s l never (k v)) → Sure s l never (flag m k)
  past m k rest = flag_later s l m never k rest

  flags_by : (a b c d e f g : Bool)
      → In (if a then Of ∷ [] else (if b then Cf ∷ [] else (if c then Zf ∷ [] else (if d then Cf ∷ Zf ∷ [] else
      (if e then Sf ∷ [] else (if f then Pf ∷ [] else (if g then Sf ∷ Of ∷ [] else Zf ∷ Sf ∷ Of ∷ [])))))))
      → Sure s l never
      (if a then flag 4 (λ of. gives (record no_flags { of = of })) else
      (if b then flag 0 (λ cf. gives (record no_flags { cf = cf })) else
      (if c then flag 2 (λ zf. gives (record no_flags { zf = zf })) else
      (if d then flag 0 (λ cf. flag 2 (λ zf. gives (record no_flags { cf = cf; zf = zf }))) else
      (if e then flag 3 (λ sf. gives (record no_flags { sf = sf })) else
      (if f then flag 1 (λ pf. gives (record no_flags { pf = pf })) else
      (if g then flag 3 (λ sf. flag 4 (λ of. gives (record no_flags { sf = sf; of = of }))) else
      flag 2 (λ zf. flag 3 (λ sf. flag 4 (λ of. gives (record no_flags { zf = zf; sf = sf; of = of })))))))))))
  flags_by true b c d e f g has = either Of [] has (here 4 _) (λ h. absurd (false≢true h))
  flags_by false true c d e f g has = either Cf [] has (here 0 _) (λ h. absurd (false≢true h))
  flags_by false false true d e f g has = either Zf [] has (here 2 _) (λ h. absurd (false≢true h))
  flags_by false false false true e f g has = either Cf (Zf ∷ []) has (here 0 _) (λ h. either Zf [] h (λ q. past 0 _ (λ v. here 2 _ q)) (λ k. absurd (false≢true k)))
  flags_by false false false false true f g has = either Sf [] has (here 3 _) (λ h. absurd (false≢true h))
  flags_by false false false false false true g has = either Pf [] has (here 1 _) (λ h. absurd (false≢true h))
  flags_by false false false false false false true has = either Sf (Of ∷ []) has (here 3 _) (λ h. either Of [] h (λ q. past 3 _ (λ v. here 4 _ q)) (λ k. absurd (false≢true k)))
  flags_by false false false false false false false has =
      either Zf (Sf ∷ Of ∷ []) has (here 2 _) (λ h. either Sf (Of ∷ []) h (λ q. past 2 _ (λ v. here 3 _ q))
      (λ k. either Of [] k (λ q. past 2 _ (λ v. past 3 _ (λ w. here 4 _ q))) (λ m. absurd (false≢true m))))

  condition_sure : (c : ℕ) → In (places.cond_flags c) → Sure s l never (condition c)
  unfolding condition condition_flags
  condition_sure c has = sure_first s l never (condition_flags (c / 2)) _ (flags_by (c / 2 == 0) (c / 2 == 1) (c / 2 == 2) (c / 2 == 3) (c / 2 == 4) (c / 2 == 5) (c / 2 == 6) has)

  condition_first : (c : ℕ) (k : Bool → Reading Outcome) → In (places.cond_flags c) → SureRow (condition c >>= k)
  condition_first c k has = sure_first s l (done_takes s l) (condition c) k (condition_sure c has)

  value_at : {A : Type 0} (m : ℕ) (k : Bool → Reading A) (T : A → Bool) → m ≡ n → Sure s l T (flag_value m >>= k)
  value_at m k T e = sure_first s l T (flag_value m) k (subst (λ j. Sure s (InFlag j) never (flag_value m)) e (flag_value_sure s m))

  carry_sure : (o : Op) (i : Instr) (m : ℕ) → carry_in o ≡ flag_value m → m ≡ n → SureRow (computed o i)
  carry_sure o i m is e =
      sure_later s l (done_takes s l) (value_of i.width i.dst) _ (λ a. sure_later s l (done_takes s l) (value_of i.width i.src) _ (λ b.
      sure_first s l (done_takes s l) (carry_in o) _ (subst (Sure s l never) (sym is) (subst (λ j. Sure s (InFlag j) never (flag_value m)) e (flag_value_sure s m)))))

  movs_sure : (z k : ℕ) → 5 ≡ n → Sure s l never (movs_effects z k)
  unfolding movs_effects
  movs_sure z k e = value_at 5 _ never e

  stos_sure : (z k : ℕ) → 5 ≡ n → Sure s l never (stos_effects z k)
  unfolding stos_effects
  stos_sure z k e = value_at 5 _ never e

  repeated_sure : (effects : ℕ → Reading (List Effect)) → (s.registers 1 == 0) ≡ false → ((k : ℕ) → Sure s l never (effects k)) → Sure s l never (repeated effects)
  unfolding repeated whole_register
  repeated_sure effects some each =
      register_later s l never 1 _ (subst (λ b. Sure s l never (if b then gives [] else effects (s.registers 1) >>= (λ done. gives (done ++ (sets Whole 1 0 ∷ []))))) (sym some)
      (sure_first s l never (effects (s.registers 1)) _ (each (s.registers 1))))

  none : {P : Type 0} → In [] → P
  none has = absurd (false≢true has)

  pub row_flags_sure : (o : Op) (i : Instr) → Counts s n o → In (op_flag_reads o) → SureRow (row o i)
  unfolding row op_flag_reads carry_in
  row_flags_sure op.Adc i some has = either Cf [] has (carry_sure op.Adc i 0 refl) none
  row_flags_sure op.Sbb i some has = either Cf [] has (carry_sure op.Sbb i 0 refl) none
  row_flags_sure (op.Setcc c) i some has = condition_first c _ has
  row_flags_sure (op.Jcc c) i some has = condition_first c _ has
  row_flags_sure (op.Cmov c) i some has = condition_first c _ has
  row_flags_sure (op.Movs false) i some has = either Df [] has (λ e. sure_first s l (done_takes s l) _ _ (movs_sure (size i.width) 1 e)) none
  row_flags_sure (op.Movs true) i some has = either Df [] has (λ e. sure_first s l (done_takes s l) _ _ (repeated_sure (movs_effects (size i.width)) (some refl) (λ k. movs_sure (size i.width) k e))) none
  row_flags_sure (op.Stos false) i some has = either Df [] has (λ e. sure_first s l (done_takes s l) _ _ (stos_sure (size i.width) 1 e)) none
  row_flags_sure (op.Stos true) i some has = either Df [] has (λ e. sure_first s l (done_takes s l) _ _ (repeated_sure (stos_effects (size i.width)) (some refl) (λ k. stos_sure (size i.width) k e))) none
  row_flags_sure op.Add i some has = none has
  row_flags_sure op.Or i some has = none has
  row_flags_sure op.And i some has = none has
  row_flags_sure op.Sub i some has = none has
  row_flags_sure op.Xor i some has = none has
  row_flags_sure op.Cmp i some has = none has
  row_flags_sure op.Mov i some has = none has
  row_flags_sure op.Lea i some has = none has
  row_flags_sure op.Push i some has = none has
  row_flags_sure op.Pop i some has = none has
  row_flags_sure op.Xchg i some has = none has
  row_flags_sure op.Test i some has = none has
  row_flags_sure op.Inc i some has = none has
  row_flags_sure op.Dec i some has = none has
  row_flags_sure op.Not i some has = none has
  row_flags_sure op.Neg i some has = none has
  row_flags_sure op.Mul i some has = none has
  row_flags_sure op.Imul i some has = none has
  row_flags_sure op.Shl i some has = none has
  row_flags_sure op.Shr i some has = none has
  row_flags_sure op.Sar i some has = none has
  row_flags_sure (op.Movzx from) i some has = none has
  row_flags_sure (op.Movsx from) i some has = none has
  row_flags_sure op.Cwde i some has = none has
  row_flags_sure op.Cdq i some has = none has
  row_flags_sure op.Leave i some has = none has
  row_flags_sure op.Call i some has = none has
  row_flags_sure op.Ret i some has = none has
  row_flags_sure op.Jmp i some has = none has
  row_flags_sure op.Nop i some has = none has
  row_flags_sure op.Endbr32 i some has = none has
  row_flags_sure op.Hlt i some has = none has
  row_flags_sure op.Int3 i some has = none has
  row_flags_sure op.Ud2 i some has = none has
  row_flags_sure op.Rol i some has = none has
  row_flags_sure op.Ror i some has = none has
  row_flags_sure op.Div i some has = none has
  row_flags_sure op.Idiv i some has = none has
  row_flags_sure op.Cld i some has = none has
  row_flags_sure op.Std i some has = none has
