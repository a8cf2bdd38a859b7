-- Registers and flags that an occurrence reads and writes are in the sets of its node, and those that must be defined are written.
use Rattle.std.proofs.Common.{◌≡◌, ◌<◌, ◌≤◌, ⊎_elim, ℕ, ◌+◌, Bool, true, false, cond, not, ◌&&◌, List, [], ◌++◌, length, Option, Some, None, pos, ◌+ℤ◌, ◌*◌, refl, sym, ap, subst, ◌∙◌, arith, lit<, eqb-true}
use Rattle.std.specs.Prelude.{Contains, ◌==◌, ◌≤ℤ◌}
use Rattle.std.proofs.lemmas.Bool.{false≢true}
use Rattle.std.proofs.lemmas.Int.{ints}
use Rattle.std.proofs.lemmas.Option.{slice_get_within}
use Rattle.std.proofs.lemmas.List.Elements.{Contains-append_left, Contains-append_right, Contains-append_cases}
use Rattle.image_map.specs.declared.image.Image.{Image}
use Rattle.image_map.specs.declared.region.Kind.{Kind}
use Rattle.image_map.specs.declared.region.Settings.{Settings}
use Rattle.image_map.specs.Whole.{IsImage}
use Rattle.ia32_types.specs.declared.Reg.{Reg}
use Rattle.ia32_types.specs.declared.Flag.{Flag}
use Rattle.ia32_types.specs.declared.Instr.{Instr}
use Rattle.ia32_types.specs.declared.Op.{Op}
use Rattle.ia32_types.specs.declared.Op.TheVariants as op
use Rattle.ia32_types.specs.declared.Operand.{Operand}
use Rattle.ia32_types.specs.declared.Operand.TheVariants as operand
use Rattle.ia32_types.specs.Places.{registers_written, flags_written}
use Rattle.ia32_types.specs.Sets.{is_listed_reg, is_listed_flag}
use Rattle.ia32_semantics.specs.Externs.{extern_row}
use Rattle.ia32_semantics.specs.Ia32.{machine}
use Rattle.ia32_semantics.specs.Machine.{Occurrence}
use Rattle.ia32_semantics.specs.Reading.{outcome, asks}
use Rattle.ia32_semantics.specs.Rows.{row}
use Rattle.ia32_semantics.specs.Effects.{effects_take}
use Rattle.ia32_semantics.specs.State.{Location, InRegister, InFlag, AtByte}
use Rattle.ia32_semantics.specs.Step.{Act, Executes, Answers, Step, IsActAt, act_row, reads as step_reads, writes as step_writes, outcome_takes}
use Rattle.ia32_semantics.specs.Laws as tables
use Rattle.ia32_semantics.specs.Laws.{has_register, has_flag, may_keep_flags, KeepsToTables}
use Rattle.ia32_semantics.proofs.ChangeLemmas.{takes_no_flag}
use Rattle.ia32_semantics.proofs.EffectLemmas.{or_true}
use Rattle.ia32_semantics.proofs.OperandLemmas.{in_tables}
use Rattle.ia32_semantics.proofs.RowWithinLemmas.{steps_keep_to_tables}
use Rattle.ia32_semantics.proofs.StepLemmas.{writes_are}
use Rattle.ia32_semantics.proofs.TableLemmas.{Meets}
use Rattle.ia32_semantics.proofs.WithinLemmas.{Within}
use Rattle.si_bits.specs.Concrete as concrete
use Rattle.strided.specs.Interval.{Interval, IsMember}
use Rattle.vset.specs.Values.{only_number}
use Rattle.abs_alu.proofs.WordLemmas.{only_has}
use Rattle.strided.proofs.MemberLemmas.{int_le_true}
use Rattle.abs_semantics.specs.States.{AbsState}
use Rattle.abs_semantics.specs.StandsFor.{StandsFor, world_of}
use Rattle.abs_steps.specs.Places.{Content, Extern, Instruction, content_at}
use Rattle.abs_steps.specs.Successors.{States}
use Rattle.slice_soundness.specs.Premises.{Comes}
use Rattle.call_soundness.specs.Maps.{Drawn, map_of}
use Rattle.call_soundness.proofs.ContentLaws.{fetched_stands, extern_stands}
use Rattle.access_facts.specs.Cores as core
use Rattle.access_facts.specs.Cores.{registers_used, registers_defined, registers_always, flags_used, flags_defined, flags_always, extern_reads_registers, extern_writes_registers, extern_writes_flags, writes_registers_always, writes_flags_always, is_once_at_least}
use Rattle.access_facts.specs.Places.{register_places, flag_places, all_registers, all_flags}
use Rattle.access_facts.proofs.MemberLemmas.{picked_has}
use Rattle.graph_soundness.specs.Cores.{IsCore, KeepsCores}
use Rattle.graph_soundness.proofs.CorePlaces.{register_placed, register_back, flag_placed, flag_back}
use Rattle.graph_soundness.proofs.ExternTables.{extern_within}
use Rattle.graph_soundness.proofs.RepeatTables.{repeated_writes}

-- -- Places

pub low_place : (rs : List Reg) (m : ℕ) → Contains (register_places rs) m → m < 8
unfolding register_places
low_place rs m has =
    let p = picked_has (is_listed_reg rs) 0 m all_registers has in
    let is = p.is in
    let lt : p.number < length all_registers = slice_get_within all_registers p.number p.thing p.there in
    omega (arith, is, lt)

high_place : (fs : List Flag) (m : ℕ) → Contains (flag_places fs) m → 8 ≤ m
unfolding flag_places
high_place fs m has =
    let p = picked_has (is_listed_flag fs) 8 m all_flags has in
    let is = p.is in
    omega (arith, is)

pub flag_below : (fs : List Flag) (m : ℕ) → Contains (flag_places fs) m → m < 14
unfolding flag_places
flag_below fs m has =
    let p = picked_has (is_listed_flag fs) 8 m all_flags has in
    let is = p.is in
    let lt : p.number < length all_flags = slice_get_within all_flags p.number p.thing p.there in
    omega (arith, is, lt)

-- what tables say of an occurrence
record Tabled (reads writes : List Reg) (asked turned : List Flag) (o : Occurrence Act) : Type 0 where
  pub reads_registers : (n : ℕ) → step_reads o (InRegister n) ≡ true → has_register reads n ≡ true
  pub reads_flags : (n : ℕ) → step_reads o (InFlag n) ≡ true → has_flag asked n ≡ true
  pub writes_registers : (n : ℕ) → step_writes o (InRegister n) ≡ true → has_register writes n ≡ true
  pub writes_flags : (n : ℕ) → step_writes o (InFlag n) ≡ true → has_flag turned n ≡ true

-- what tables say is written always
record Always (sure : List Reg) (set : List Flag) (o : Occurrence Act) : Type 0 where
  pub registers : (n : ℕ) → has_register sure n ≡ true → step_writes o (InRegister n) ≡ true
  pub flags : (n : ℕ) → has_flag set n ≡ true → step_writes o (InFlag n) ≡ true

placed_by : (P : Location → Type 0) (rs : List Reg) (fs : List Flag) → ((n : ℕ) → P (InRegister n) → has_register rs n ≡ true) → ((n : ℕ) → P (InFlag n) → has_flag fs n ≡ true)
    → (l : Location) (place : ℕ) → IsCore l place → P l → Contains (register_places rs ++ flag_places fs) place
placed_by P rs fs of_register of_flag (InRegister n) place is e =
    subst (Contains (register_places rs ++ flag_places fs)) (sym is.1) (Contains-append_left (register_places rs) (flag_places fs) n (register_placed rs n (of_register n e)))
placed_by P rs fs of_register of_flag (InFlag n) place is e =
    subst (Contains (register_places rs ++ flag_places fs)) (sym is.1) (Contains-append_right (register_places rs) (flag_places fs) (n + 8) (flag_placed fs n (of_flag n e)))
placed_by P rs fs of_register of_flag (AtByte a) place is e = absurd is

written_by : (rs : List Reg) (fs : List Flag) (o : Occurrence Act) → Always rs fs o → (l : Location) (place : ℕ) → IsCore l place → Contains (register_places rs ++ flag_places fs) place → step_writes o l ≡ true
written_by rs fs o always (InRegister n) place is has =
    let less = is.0 in
    let same = is.1 in
    ⊎_elim
    (λ r. always.registers n (register_back rs n (subst (Contains (register_places rs)) same r)))
    (λ f. absurd (let high = high_place fs place f in omega (arith, less, same, high)))
    (Contains-append_cases (register_places rs) (flag_places fs) place has)
written_by rs fs o always (InFlag n) place is has =
    let same = is.1 in
    ⊎_elim
    (λ r. absurd (let low = low_place rs place r in omega (arith, same, low)))
    (λ f. always.flags n (flag_back fs n (subst (Contains (flag_places fs)) same f)))
    (Contains-append_cases (register_places rs) (flag_places fs) place has)
written_by rs fs o always (AtByte a) place is has = absurd is

keeps : (a : AbsState) (content : Content) (o : Occurrence Act) → Tabled (registers_used content) (registers_defined content) (flags_used content) (flags_defined content) o
    → Always (registers_always a content) (flags_always content) o → KeepsCores a content o
keeps a content o tabled always =
    record {
      used = λ l place is e. placed_by (λ k. step_reads o k ≡ true) (registers_used content) (flags_used content) tabled.reads_registers tabled.reads_flags l place is e;
      defined = λ l place is e. placed_by (λ k. step_writes o k ≡ true) (registers_defined content) (flags_defined content) tabled.writes_registers tabled.writes_flags l place is e;
      always = λ l place is has. written_by (registers_always a content) (flags_always content) o always l place is has;
    }

-- -- Instructions

same_repeated : (o : Op) → core.is_repeated o ≡ tables.is_repeated o
unfolding core.is_repeated
same_repeated (op.Movs rep) = refl
same_repeated (op.Stos rep) = refl
same_repeated _ = refl

same_shift : (o : Op) → core.is_shift o ≡ tables.is_shift o
unfolding core.is_shift
same_shift op.Shl = refl
same_shift op.Shr = refl
same_shift op.Sar = refl
same_shift op.Rol = refl
same_shift op.Ror = refl
same_shift _ = refl

same_number : (o : Option Operand) → core.is_number o ≡ tables.is_number o
same_number None = refl
same_number (Some (operand.Imm n)) = refl
same_number (Some (operand.Reg r)) = refl
same_number (Some (operand.High r)) = refl
same_number (Some (operand.Mem m)) = refl

-- a count that is at least one
once : (o : Option Interval) → is_once_at_least o ≡ true → (c : Interval) × (o ≡ Some c) × (pos 1 ≤ℤ c.lo)
once None e = absurd (false≢true e)
once (Some c) e = (c, refl, int_le_true (pos 1) c.lo e)

not_zero : (n : ℕ) (c : Interval) → IsMember (concrete.number n) c → pos 1 ≤ℤ c.lo → (n == 0) ≡ false
not_zero n c member least = by (n == 0) refl
  where
    by : (b : Bool) → (n == 0) ≡ b → b ≡ false
    by false e = refl
    by true e =
        let none : concrete.number n ≡ pos 0 = ap concrete.number (eqb-true n 0 e) in
        let reached : concrete.number n ≡ c.lo +ℤ pos (member.turns * c.stride) = member.reached in
        absurd (omega (arith, ints))

module _ (image : Image) (i : Instr) (o : Occurrence Act) (act : o.act ≡ Executes i) (st : Step image o) where
  told : KeepsToTables i o
  told = steps_keep_to_tables image i o act st

  executed_tabled : Tabled (registers_used (Instruction i)) (registers_defined (Instruction i)) (flags_used (Instruction i)) (flags_defined (Instruction i)) o
  unfolding registers_used registers_defined flags_used flags_defined
  executed_tabled =
      record {
        reads_registers = told.reads_registers;
        reads_flags = told.reads_flags;
        writes_registers = told.writes_registers;
        writes_flags = told.writes_flags;
      }

  -- a repeated instruction whose count isn't 0
  rounds : tables.is_repeated i.op ≡ true → (o.before.registers 1 == 0) ≡ false → (n : ℕ) → has_register (registers_written i) n ≡ true → step_writes o (InRegister n) ≡ true
  rounds repeats some n e =
      let all = repeated_writes o.before i.op i repeats some in
      let done_is : outcome (row i.op i) o.before o.choices ≡ Some (st.done, []) = ap (λ c. outcome (act_row c) o.before o.choices) (sym act) ∙ st.row in
      writes_are image o st (InRegister n) ∙ (all.given o.choices [] st.done done_is).all_registers refl n e

  module _ (lane : ℕ) (a : AbsState) (stands : StandsFor lane a o.before) (word : o.before.registers 1 < 4294967296) where
    sure_registers : (n : ℕ) → has_register (registers_always a (Instruction i)) n ≡ true → step_writes o (InRegister n) ≡ true
    unfolding registers_always
    sure_registers n has = by_always (writes_registers_always a i.op) refl has
      where
        by_repeated : (b : Bool) → core.is_repeated i.op ≡ b → cond b (is_once_at_least (only_number (a.registers 1))) true ≡ true → has_register (registers_written i) n ≡ true → step_writes o (InRegister n) ≡ true
        by_repeated false e sure has = told.always_registers (sym (same_repeated i.op) ∙ e) n has
        by_repeated true e sure has =
            let c = once (only_number (a.registers 1)) sure in
            let member = only_has lane (world_of o.before) (o.before.registers 1) word (a.registers 1) c.0 c.1 (stands.registers 1 (lit< tt)) in
            rounds (sym (same_repeated i.op) ∙ e) (not_zero (o.before.registers 1) c.0 member c.2) n has

        by_always : (b : Bool) → writes_registers_always a i.op ≡ b → has_register (cond b (registers_written i) []) n ≡ true → step_writes o (InRegister n) ≡ true
        by_always false e has = absurd (false≢true has)
        by_always true e has = by_repeated (core.is_repeated i.op) refl e has

    sure_flags : (n : ℕ) → has_flag (flags_always (Instruction i)) n ≡ true → step_writes o (InFlag n) ≡ true
    unfolding flags_always
    sure_flags n has = by_always (writes_flags_always i) refl has
      where
        kept_by : (b c : Bool) → cond b c true ≡ true → (b && not c) ≡ false
        kept_by false c e = refl
        kept_by true true e = refl
        kept_by true false e = absurd (false≢true e)

        by_always : (b : Bool) → writes_flags_always i ≡ b → has_flag (cond b (flags_written i) []) n ≡ true → step_writes o (InFlag n) ≡ true
        by_always false e has = absurd (false≢true has)
        by_always true e has =
            told.always_flags
            (kept_by (tables.is_shift i.op) (tables.is_number i.src)
            ((λ j. cond (sym (same_shift i.op) j) (sym (same_number i.src) j) true) ∙ e)) n has

    pub executed_cores : KeepsCores a (Instruction i) o
    executed_cores = keeps a (Instruction i) o executed_tabled (record { registers = sure_registers; flags = sure_flags })

-- -- Externs

module _ (image : Image) (at : ℕ) (k : Kind) (o : Occurrence Act) (act : o.act ≡ Answers at k) (st : Step image o) where
  within : Within o.before (in_tables (extern_reads_registers k) []) (Meets (extern_reads_registers k) (extern_writes_registers k) (extern_writes_flags k) true true) (extern_row at k)
  within = extern_within o.before at k

  meets : Meets (extern_reads_registers k) (extern_writes_registers k) (extern_writes_flags k) true true st.done
  meets = within.given o.choices [] st.done (ap (λ c. outcome (act_row c) o.before o.choices) (sym act) ∙ st.row)

  and_none : (b : Bool) → (b && false) ≡ false
  and_none true = refl
  and_none false = refl

  asked_or : (l : Location) {P : Type 0} → step_reads o l ≡ true → (asks (extern_row at k) o.before o.choices l ≡ true → P) → (outcome_takes (Some (st.done, [])) o.before l ≡ true → P) → P
  asked_or l e asked taken =
      or_true (asks (act_row o.act) o.before o.choices l) _ e
      (λ f. asked (subst (λ (c : Act). asks (act_row c) o.before o.choices l ≡ true) act f))
      (λ f. taken (sym (ap (λ r. outcome_takes r o.before l) st.row) ∙ f))

  answered_tabled : Tabled (registers_used (Extern k)) (registers_defined (Extern k)) (flags_used (Extern k)) (flags_defined (Extern k)) o
  unfolding registers_used registers_defined flags_used flags_defined
  answered_tabled =
      record {
        reads_registers = λ n e. asked_or (InRegister n) e (λ f. within.asked o.choices (InRegister n) f)
            (λ f. meets.takes n (or_true (effects_take st.done.effects (InRegister n)) _ f (λ t. t) (λ r. absurd (false≢true (sym (and_none st.done.reads_all) ∙ r)))));
        reads_flags = λ n e. asked_or (InFlag n) e (λ f. within.asked o.choices (InFlag n) f)
            (λ f. absurd (or_true (effects_take st.done.effects (InFlag n)) _ f (λ t. false≢true (sym (takes_no_flag st.done.effects n) ∙ t)) (λ r. false≢true (sym (and_none st.done.reads_all) ∙ r))));
        writes_registers = λ n e. meets.registers n (sym (writes_are image o st (InRegister n)) ∙ e);
        writes_flags = λ n e. meets.flags n (sym (writes_are image o st (InFlag n)) ∙ e);
      }

  answered_always : (a : AbsState) → Always (registers_always a (Extern k)) (flags_always (Extern k)) o
  unfolding registers_always flags_always
  answered_always a =
      record {
        registers = λ n e. writes_are image o st (InRegister n) ∙ meets.all_registers refl n e;
        flags = λ n e. writes_are image o st (InFlag n) ∙ meets.all_flags refl n e;
      }

  pub answered_cores : (a : AbsState) → KeepsCores a (Extern k) o
  answered_cores a = keeps a (Extern k) o answered_tabled (answered_always a)

-- -- All

pub cores_covered : (image : Image) (settings : Settings) (states : States) (drawn : Drawn) (o : Occurrence Act) → IsImage image
    → (comes : Comes (machine image settings) (map_of image settings states drawn) o) → KeepsCores comes.ready.value (content_at image settings o.before.eip) o
cores_covered image settings states drawn o is comes = by o.act refl
  where
    by : (c : Act) → o.act ≡ c → KeepsCores comes.ready.value (content_at image settings o.before.eip) o
    by (Executes i) e =
        subst (λ content. KeepsCores comes.ready.value content o)
        (sym (fetched_stands image settings o.before.eip i is (subst (λ c. IsActAt image settings o.before.eip c) e comes.happens.act)))
        (executed_cores image i o e comes.happens.step states.lane comes.ready.value comes.ready.stands (comes.ready.whole.laid_out.sized.registers 1))
    by (Answers at k) e =
        subst (λ content. KeepsCores comes.ready.value content o)
        (sym (extern_stands image settings o.before.eip k (subst (λ c. IsActAt image settings o.before.eip c) e comes.happens.act).1))
        (answered_cores image at k o e comes.happens.step comes.ready.value)
