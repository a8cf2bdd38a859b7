-- The registers and flags that storing into operands and setting flags changes are those of the tables.
use Rattle.std.proofs.Common.{◌≡◌, ℕ, List, [], ◌∷◌, ◌++◌, refl, sym, ap, ◌∙◌}
use Rattle.std.specs.Prelude.{Bool, true, false, ◌||◌, ◌&&◌, ◌==◌, Option, Some, None}
use Rattle.std.proofs.lemmas.Bool.{false≢true, or_right, or_left}
use Rattle.std.proofs.lemmas.List.Folds.{list_any-append}
use Rattle.std.proofs.Math.Bool.{or_assoc, or-false}
use Rattle.ia32_types.specs.declared.Reg.{Reg}
use Rattle.ia32_types.specs.declared.Flag.{Flag}
use Rattle.ia32_types.specs.declared.Width.{Width}
use Rattle.ia32_types.specs.declared.Width.TheVariants.{B8, W16, D32}
use Rattle.ia32_types.specs.declared.Mem.{Mem}
use Rattle.ia32_types.specs.declared.Operand.{Operand}
use Rattle.ia32_types.specs.declared.Operand.TheVariants as operand
use Rattle.ia32_types.specs.Numbers.{reg_number}
use Rattle.ia32_types.specs.Places as places
use Rattle.ia32_semantics.specs.declared.flags.FlagsOut.{FlagsOut}
use Rattle.ia32_semantics.specs.declared.flags.FlagOut.{FlagOut}
use Rattle.ia32_semantics.specs.declared.flags.FlagOut.TheVariants as out
use Rattle.ia32_semantics.specs.State.{State, Location, InRegister, InFlag, AtByte}
use Rattle.ia32_semantics.specs.Effects.{Effect, Whole, Word, Low, High, sets, turns, stores, copies, effect_takes, effects_write, effects_take, effect_writes}
use Rattle.ia32_semantics.specs.Operands.{address, part_of, store, store_to, is_set, any_word, any_flag, any_flags, flag_effect, flag_effects}
use Rattle.ia32_semantics.specs.Laws.{has_register}
use Rattle.ia32_semantics.proofs.EffectLemmas.{or_true}
use Rattle.ia32_semantics.proofs.WithinLemmas.{Within, within_gives, within_faults, within_bind, within_choice, within_if}
use Rattle.ia32_semantics.proofs.OperandLemmas.{in_tables, HasAll, Anything, address_within}

-- effects write just these registers and flags, and take over at most those
pub record Changes (regs turned : ℕ → Bool) (taken : List Reg) (es : List Effect) : Type 0 where
  pub registers : (n : ℕ) → effects_write es (InRegister n) ≡ regs n
  pub flags : (n : ℕ) → effects_write es (InFlag n) ≡ turned n
  pub takes : (n : ℕ) → effects_take es (InRegister n) ≡ true → has_register taken n ≡ true

abbrev pub none : ℕ → Bool
none n = false

-- -- Lists of effects

pub write_append : (es fs : List Effect) (l : Location) → effects_write (es ++ fs) l ≡ (effects_write es l || effects_write fs l)
write_append [] fs l = refl
write_append (e ∷ es) fs l = ap (λ b. effect_writes e l || b) (write_append es fs l) ∙ sym (or_assoc (effect_writes e l) (effects_write es l) (effects_write fs l))

pub take_append : (es fs : List Effect) (l : Location) → effects_take (es ++ fs) l ≡ (effects_take es l || effects_take fs l)
take_append [] fs l = refl
take_append (e ∷ es) fs l = ap (λ b. effect_takes e l || b) (take_append es fs l) ∙ sym (or_assoc (effect_takes e l) (effects_take es l) (effects_take fs l))

pub none_append : (es fs : List Effect) (l : Location) → effects_write es l ≡ false → effects_write fs l ≡ false → effects_write (es ++ fs) l ≡ false
none_append es fs l first second = write_append es fs l ∙ ap (λ b. b || effects_write fs l) first ∙ second

pub changes_both : (p q f g : ℕ → Bool) (t u : List Reg) (es fs : List Effect) → Changes p f t es → Changes q g u fs
    → Changes (λ n. p n || q n) (λ n. f n || g n) (t ++ u) (es ++ fs)
changes_both p q f g t u es fs first second = record {
  registers = λ n. write_append es fs (InRegister n) ∙ ap (λ b. b || effects_write fs (InRegister n)) (first.registers n) ∙ ap (λ b. p n || b) (second.registers n);
  flags = λ n. write_append es fs (InFlag n) ∙ ap (λ b. b || effects_write fs (InFlag n)) (first.flags n) ∙ ap (λ b. f n || b) (second.flags n);
  takes = λ n e. list_any-append (λ r. reg_number r == n) t u
      ∙ or_true _ _ (sym (take_append es fs (InRegister n)) ∙ e) (λ a. or_left _ _ (first.takes n a)) (λ b. or_right _ _ (second.takes n b));
}

-- no effect takes a flag
pub takes_no_flag : (es : List Effect) (n : ℕ) → effects_take es (InFlag n) ≡ false
takes_no_flag [] n = refl
takes_no_flag (sets Whole r v ∷ es) n = takes_no_flag es n
takes_no_flag (sets Word r v ∷ es) n = takes_no_flag es n
takes_no_flag (sets Low r v ∷ es) n = takes_no_flag es n
takes_no_flag (sets High r v ∷ es) n = takes_no_flag es n
takes_no_flag (turns f v ∷ es) n = takes_no_flag es n
takes_no_flag (stores a bytes ∷ es) n = takes_no_flag es n
takes_no_flag (copies to from count ∷ es) n = takes_no_flag es n

-- -- Stores

-- what is stored into an operand
abbrev pub Stored : Width → Option Operand → List Effect → Type 0
Stored width o es = Changes (has_register (places.target_of o)) none (places.place_of width o) es

whole_stored : (width : Width) (r : Reg) (v : ℕ) → Stored width (Some (operand.Reg r)) (sets (part_of width) (reg_number r) v ∷ [])
whole_stored B8 r v = record { registers = λ n. refl; flags = λ n. refl; takes = λ n e. e }
whole_stored W16 r v = record { registers = λ n. refl; flags = λ n. refl; takes = λ n e. e }
whole_stored D32 r v = record { registers = λ n. refl; flags = λ n. refl; takes = λ n e. e }

high_stored : (width : Width) (r : Reg) (v : ℕ) → Stored width (Some (operand.High r)) (sets High (reg_number r) v ∷ [])
high_stored width r v = record { registers = λ n. refl; flags = λ n. refl; takes = λ n e. e }

memory_stored : (width : Width) (m : Mem) (a : ℕ) (bytes : List ℕ) → Stored width (Some (operand.Mem m)) (stores a bytes ∷ [])
memory_stored width m a bytes = record { registers = λ n. refl; flags = λ n. refl; takes = λ n e. absurd (false≢true e) }

pub store_within : (s : State) (regs : List Reg) (flags : List Flag) (width : Width) (o : Option Operand) (v : ℕ)
    → HasAll regs (places.place_of width o) → Within s (in_tables regs flags) (Stored width o) (store_to width o v)
unfolding store_to store
store_within s regs flags width None v all = within_faults s (in_tables regs flags) (Stored width None)
store_within s regs flags width (Some (operand.Reg r)) v all = within_gives s (in_tables regs flags) (Stored width (Some (operand.Reg r))) _ (whole_stored width r v)
store_within s regs flags width (Some (operand.High r)) v all = within_gives s (in_tables regs flags) (Stored width (Some (operand.High r))) _ (high_stored width r v)
store_within s regs flags width (Some (operand.Imm n)) v all = within_faults s (in_tables regs flags) (Stored width (Some (operand.Imm n)))
store_within s regs flags width (Some (operand.Mem m)) v all =
    within_if s (in_tables regs flags) (Stored width (Some (operand.Mem m))) m.gs _ _
    (λ gs. within_faults s (in_tables regs flags) (Stored width (Some (operand.Mem m))))
    (λ plain. within_bind s (in_tables regs flags) Anything (Stored width (Some (operand.Mem m))) (address m) _ (address_within s regs flags m all)
    (λ a q. within_gives s (in_tables regs flags) (Stored width (Some (operand.Mem m))) _ (memory_stored width m a _)))

-- -- Flags

abbrev pub is_written : FlagOut → Bool
is_written out.Kept = false
is_written (out.Set v) = true
is_written out.Undefined = true

-- the flags that are set or undefined
abbrev pub outs : FlagsOut → ℕ → Bool
outs f n =
    (is_written f.cf && 0 == n) || ((is_written f.pf && 1 == n) || ((is_written f.zf && 2 == n) || ((is_written f.sf && 3 == n) || (is_written f.of && 4 == n))))

-- a flag as it is once an undefined one is drawn
abbrev pub IsDrawn : FlagOut → FlagOut → Type 0
IsDrawn out.Kept g = g ≡ out.Kept
IsDrawn (out.Set v) g = (w : Bool) × (g ≡ out.Set w)
IsDrawn out.Undefined g = (w : Bool) × (g ≡ out.Set w)

pub record AreDrawn (f g : FlagsOut) : Type 0 where
  pub cf : IsDrawn f.cf g.cf
  pub pf : IsDrawn f.pf g.pf
  pub zf : IsDrawn f.zf g.zf
  pub sf : IsDrawn f.sf g.sf
  pub of : IsDrawn f.of g.of

drawn_written : (k : ℕ) (f g : FlagOut) → IsDrawn f g → (n : ℕ) → effects_write (flag_effect k g) (InFlag n) ≡ (is_written f && k == n)
drawn_written k out.Kept g drawn n = ap (λ x. effects_write (flag_effect k x) (InFlag n)) drawn
drawn_written k (out.Set v) g drawn n = ap (λ x. effects_write (flag_effect k x) (InFlag n)) drawn.1 ∙ or-false (k == n)
drawn_written k out.Undefined g drawn n = ap (λ x. effects_write (flag_effect k x) (InFlag n)) drawn.1 ∙ or-false (k == n)

one_flag : (k : ℕ) (g : FlagOut) → Changes none (λ n. effects_write (flag_effect k g) (InFlag n)) [] (flag_effect k g)
one_flag k out.Kept = record { registers = λ n. refl; flags = λ n. refl; takes = λ n e. e }
one_flag k (out.Set v) = record { registers = λ n. refl; flags = λ n. refl; takes = λ n e. e }
one_flag k out.Undefined = record { registers = λ n. refl; flags = λ n. refl; takes = λ n e. e }

or_nested : (a b c d e : Bool) → (a || b || c || d || e) ≡ (a || (b || (c || (d || e))))
or_nested true b c d e = refl
or_nested false true c d e = refl
or_nested false false true d e = refl
or_nested false false false d e = refl

or_five : (a b c d e p q r s t : Bool) → a ≡ p → b ≡ q → c ≡ r → d ≡ s → e ≡ t → (a || b || c || d || e) ≡ (p || (q || (r || (s || t))))
or_five a b c d e p q r s t ap_ bq cr ds et = cc (or_nested p q r s t)

-- the effects of flags that were drawn write those that are set or undefined
pub flags_change : (f g : FlagsOut) → AreDrawn f g → Changes none (outs f) [] (flag_effects g)
flags_change f g drawn =
    let all = changes_both none none _ _ [] [] _ _ (changes_both none none _ _ [] [] _ _ (changes_both none none _ _ [] [] _ _ (changes_both none none _ _ [] [] _ _
    (one_flag 0 g.cf) (one_flag 1 g.pf)) (one_flag 2 g.zf)) (one_flag 3 g.sf)) (one_flag 4 g.of) in
    record {
      registers = all.registers;
      flags = λ n. all.flags n ∙ or_five _ _ _ _ _ _ _ _ _ _ (drawn_written 0 f.cf g.cf drawn.cf n) (drawn_written 1 f.pf g.pf drawn.pf n)
          (drawn_written 2 f.zf g.zf drawn.zf n) (drawn_written 3 f.sf g.sf drawn.sf n) (drawn_written 4 f.of g.of drawn.of n);
      takes = all.takes;
    }

flag_drawn : (s : State) (R : Location → Bool) (f : FlagOut) → Within s R (IsDrawn f) (any_flag f)
unfolding any_flag any_word
flag_drawn s R out.Kept = within_gives s R (IsDrawn out.Kept) out.Kept refl
flag_drawn s R (out.Set v) = within_gives s R (IsDrawn (out.Set v)) (out.Set v) (v, refl)
flag_drawn s R out.Undefined = within_choice s R (IsDrawn out.Undefined) _ (λ word. within_gives s R (IsDrawn out.Undefined) (out.Set (is_set word)) (is_set word, refl))

pub flags_within : (s : State) (R : Location → Bool) (f : FlagsOut) → Within s R (AreDrawn f) (any_flags f)
unfolding any_flags
flags_within s R f =
    within_bind s R (IsDrawn f.cf) (AreDrawn f) (any_flag f.cf) _ (flag_drawn s R f.cf) (λ cf p.
    within_bind s R (IsDrawn f.pf) (AreDrawn f) (any_flag f.pf) _ (flag_drawn s R f.pf) (λ pf q.
    within_bind s R (IsDrawn f.zf) (AreDrawn f) (any_flag f.zf) _ (flag_drawn s R f.zf) (λ zf r.
    within_bind s R (IsDrawn f.sf) (AreDrawn f) (any_flag f.sf) _ (flag_drawn s R f.sf) (λ sf t.
    within_bind s R (IsDrawn f.of) (AreDrawn f) (any_flag f.of) _ (flag_drawn s R f.of) (λ of u.
    within_gives s R (AreDrawn f) _ (record { cf = p; pf = q; zf = r; sf = t; of = u }))))))

-- -- Flags are no bytes

flag_writes_none : (n : ℕ) (o : FlagOut) (byte : ℕ) → effects_write (flag_effect n o) (AtByte byte) ≡ false
flag_writes_none n (out.Set value) byte = refl
flag_writes_none n out.Kept byte = refl
flag_writes_none n out.Undefined byte = refl

pub flags_write_none : (f : FlagsOut) (byte : ℕ) → effects_write (flag_effects f) (AtByte byte) ≡ false
flags_write_none f byte =
    none_append (((flag_effect 0 f.cf ++ flag_effect 1 f.pf) ++ flag_effect 2 f.zf) ++ flag_effect 3 f.sf) (flag_effect 4 f.of) (AtByte byte)
    (none_append ((flag_effect 0 f.cf ++ flag_effect 1 f.pf) ++ flag_effect 2 f.zf) (flag_effect 3 f.sf) (AtByte byte)
    (none_append (flag_effect 0 f.cf ++ flag_effect 1 f.pf) (flag_effect 2 f.zf) (AtByte byte)
    (none_append (flag_effect 0 f.cf) (flag_effect 1 f.pf) (AtByte byte) (flag_writes_none 0 f.cf byte) (flag_writes_none 1 f.pf byte))
    (flag_writes_none 2 f.zf byte)) (flag_writes_none 3 f.sf byte)) (flag_writes_none 4 f.of byte)
