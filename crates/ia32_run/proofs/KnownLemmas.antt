-- The map of last writers is that of the run, and what is found in it is what an occurrence reads from.
use Rattle.std.proofs.Common.{◌≡◌, ◌⊎◌, ◌↔◌, inl, inr, ⊎_elim, ℕ, ◌+◌, ◌<◌, List, [], ◌∷◌, ◌++◌, length, refl, sym, ap, ◌∙◌, subst, arith}
use Rattle.std.specs.Prelude.{Bool, true, false, not, ◌&&◌, ◌==◌, nat_lt, if◌then◌else◌, Option, Some, None, Contains}
use Rattle.std.specs.List.Sorted.{IsStrictlyIncreasing}
use Rattle.std.proofs.lemmas.Bool.{and_from}
use Rattle.std.proofs.lemmas.Bool.Decides.{nat_tests}
use Rattle.image_map.specs.declared.spans.Span.{Span}
use Rattle.image_map.specs.Ranges.{is_any}
use Rattle.ia32_types.specs.declared.Reg.{Reg}
use Rattle.ia32_types.specs.declared.Reg.TheVariants.{Eax, Ecx, Edx, Ebx, Esp, Ebp, Esi, Edi}
use Rattle.ia32_types.specs.declared.Flag.{Flag}
use Rattle.ia32_types.specs.declared.Flag.TheVariants.{Cf, Pf, Zf, Sf, Of, Df}
use Rattle.ia32_types.specs.declared.sets.RegSet.{RegSet}
use Rattle.ia32_types.specs.declared.sets.FlagSet.{FlagSet}
use Rattle.ia32_types.specs.Numbers.{reg_number, flag_number}
use Rattle.ia32_types.specs.Sets.{has_reg, has_flag, has_number, reg_numbers, flag_numbers}
use Rattle.ia32_types.proofs.NumberLemmas.{each_reg, each_flag, below_eight, below_six}
use Rattle.ia32_semantics.specs.State.{State, Location, InRegister, InFlag, AtByte, is_location}
use Rattle.ia32_semantics.specs.Machine.{Occurrence}
use Rattle.ia32_semantics.specs.Outcome.{Outcome, is_in_stack, is_below}
use Rattle.ia32_semantics.specs.Step.{Act, reads, writes, forgets, outcome_forgets, done_by}
use Rattle.ia32_semantics.proofs.EffectLemmas.{and_left, and_right}
use Rattle.ia32_machine.specs.declared.touched.Touched.{Touched}
use Rattle.ia32_machine.specs.Touches.{IsTouched}
use Rattle.last_writers.specs.declared.spans.Written.{Written}
use Rattle.last_writers.specs.Writers.{writer_at}
use Rattle.ia32_run.specs.declared.writers.Writers.{Writers}
use Rattle.ia32_run.specs.LastWrites.{next_writer, last_writer, ReadsFrom}
use Rattle.ia32_run.specs.Writers.{is_wanted, WroteSpans, WroteNumbers, WritesSpans, WritesNumbers, KnowsWriters, ForgetsBelow, ListsSources}
use Rattle.ia32_run.proofs.DependenceLemmas.{last_more}

no_register : (done : Option (Outcome × List ℕ)) (s : State) (n : ℕ) → outcome_forgets done s (InRegister n) ≡ false
no_register None s n = refl
no_register (Some done) s n = refl

no_flag : (done : Option (Outcome × List ℕ)) (s : State) (n : ℕ) → outcome_forgets done s (InFlag n) ≡ false
no_flag None s n = refl
no_flag (Some done) s n = refl

-- the writer after one occurrence more
pub one_more : (run : List (Occurrence Act)) (o : Occurrence Act) (l : Location) (step : ℕ) (gone wrote : Bool) (old new : Option ℕ)
    → length run ≡ step → forgets o l ≡ gone → wrote ≡ writes o l → old ≡ last_writer run l
    → new ≡ (if gone then None else (if wrote then Some step else old)) → new ≡ last_writer (run ++ o ∷ []) l
one_more run o l step gone wrote old new long forgot writes_it was is =
    is
    ∙ ap (λ b. if b then None else (if wrote then Some step else old)) (sym forgot)
    ∙ ap (λ b. if forgets o l then None else (if b then Some step else old)) writes_it
    ∙ ap (λ x. if forgets o l then None else (if writes o l then Some step else x)) was
    ∙ ap (λ k. next_writer k (last_writer run l) o l) (sym long) ∙ sym (last_more run o l)

module _ (regs : RegSet) (flags : FlagSet) (step : ℕ) (p0 p1 p2 : List Written) (one : WroteNumbers (reg_numbers regs) 0 8 step p0 p1) (two : WroteNumbers (flag_numbers flags) 8 6 step p1 p2) where
  pub register_wrote : (r : Reg) → writer_at p2 (reg_number r) ≡ (if has_reg regs r then Some step else writer_at p0 (reg_number r))
  register_wrote r = each_reg (λ r. writer_at p2 (reg_number r) ≡ (if has_reg regs r then Some step else writer_at p0 (reg_number r)))
      (two 0 ∙ one 0) (two 1 ∙ one 1) (two 2 ∙ one 2) (two 3 ∙ one 3) (two 4 ∙ one 4) (two 5 ∙ one 5) (two 6 ∙ one 6) (two 7 ∙ one 7) r

  pub flag_wrote : (f : Flag) → writer_at p2 (8 + flag_number f) ≡ (if has_flag flags f then Some step else writer_at p0 (8 + flag_number f))
  flag_wrote f = each_flag (λ f. writer_at p2 (8 + flag_number f) ≡ (if has_flag flags f then Some step else writer_at p0 (8 + flag_number f)))
      (two 8 ∙ ap (λ o. if has_flag flags Cf then Some step else o) (one 8))
      (two 9 ∙ ap (λ o. if has_flag flags Pf then Some step else o) (one 9))
      (two 10 ∙ ap (λ o. if has_flag flags Zf then Some step else o) (one 10))
      (two 11 ∙ ap (λ o. if has_flag flags Sf then Some step else o) (one 11))
      (two 12 ∙ ap (λ o. if has_flag flags Of then Some step else o) (one 12))
      (two 13 ∙ ap (λ o. if has_flag flags Df then Some step else o) (one 13)) f

pub noted : (touched : Touched) (limit : Option ℕ) (slot step : ℕ) (old : Writers) (p1 p2 b1 b2 : List Written) (spans : List Span)
    → WroteNumbers (reg_numbers touched.regs) 0 8 step old.places p1 → WroteNumbers (flag_numbers touched.flags) 8 6 step p1 p2
    → spans ≡ touched.bytes.items → WroteSpans spans step old.bytes b1
    → ((a : ℕ) → writer_at b2 a ≡ (if is_in_stack slot a && is_below limit a then None else writer_at b1 a))
    → (run : List (Occurrence Act)) (o : Occurrence Act) → length run ≡ step → IsTouched touched (writes o) → ForgetsBelow slot limit o → KnowsWriters old run
    → KnowsWriters (record { places = p2; bytes = b2 }) (run ++ o ∷ [])
noted touched limit slot step old p1 p2 b1 b2 spans one two same wrote forgot run o long is below knows = record {
  registers = λ r. one_more run o (InRegister (reg_number r)) step false (has_reg touched.regs r) (writer_at old.places (reg_number r)) _ long (no_register (done_by o) o.before (reg_number r)) (is.registers r) (knows.registers r)
      (register_wrote touched.regs touched.flags step old.places p1 p2 one two r);
  flags = λ f. one_more run o (InFlag (flag_number f)) step false (has_flag touched.flags f) (writer_at old.places (8 + flag_number f)) _ long (no_flag (done_by o) o.before (flag_number f)) (is.flags f) (knows.flags f)
      (flag_wrote touched.regs touched.flags step old.places p1 p2 one two f);
  bytes = λ a. one_more run o (AtByte a) step (is_in_stack slot a && is_below limit a) (is_any touched.bytes.items a) (writer_at old.bytes a) _ long (below a) (is.bytes a) (knows.bytes a)
      (forgot a ∙ ap (λ x. if is_in_stack slot a && is_below limit a then None else x) (wrote a ∙ ap (λ (l : List Span). if is_any l a then Some step else writer_at old.bytes a) same));
}

-- -- What is read

skips : Bool → ℕ
skips skip_sp = if skip_sp then 4 else 8

is_place : (skip_sp : Bool) (r : Reg) → is_location skip_sp (InRegister (reg_number r)) ≡ not (reg_number r == (if skip_sp then 4 else 8))
is_place true r = each_reg (λ r. is_location true (InRegister (reg_number r)) ≡ not (reg_number r == 4)) refl refl refl refl refl refl refl refl r
is_place false r = each_reg (λ r. is_location false (InRegister (reg_number r)) ≡ not (reg_number r == 8)) refl refl refl refl refl refl refl refl r

is_flag_place : (skip_sp : Bool) (f : Flag) → is_location skip_sp (InFlag (flag_number f)) ≡ true
is_flag_place skip_sp f = each_flag (λ f. is_location skip_sp (InFlag (flag_number f)) ≡ true) refl refl refl refl refl refl f

module _ (touched : Touched) (skip_sp : Bool) (w : Writers) (run : List (Occurrence Act)) (o : Occurrence Act) (i : ℕ) (is : IsTouched touched (reads o)) (knows : KnowsWriters w run) where
  from_register : (r : Reg) → (has_reg touched.regs r && not (reg_number r == (if skip_sp then 4 else 8))) ≡ true → writer_at w.places (reg_number r) ≡ Some i → ReadsFrom skip_sp run o i
  from_register r wanted writer = (
    InRegister (reg_number r),
    and_from (is_location skip_sp (InRegister (reg_number r))) (reads o (InRegister (reg_number r))) (is_place skip_sp r ∙ and_right (has_reg touched.regs r) _ wanted) (sym (is.registers r) ∙ and_left (has_reg touched.regs r) _ wanted),
    sym (knows.registers r) ∙ writer,
  )

  from_flag : (f : Flag) → (has_flag touched.flags f && true) ≡ true → writer_at w.places (8 + flag_number f) ≡ Some i → ReadsFrom skip_sp run o i
  from_flag f wanted writer = (
    InFlag (flag_number f),
    and_from (is_location skip_sp (InFlag (flag_number f))) (reads o (InFlag (flag_number f))) (is_flag_place skip_sp f) (sym (is.flags f) ∙ and_left (has_flag touched.flags f) true wanted),
    sym (knows.flags f) ∙ writer,
  )

  pub reads_registers : WritesNumbers w.places (reg_numbers touched.regs) (if skip_sp then 4 else 8) 0 8 i → ReadsFrom skip_sp run o i
  reads_registers found = below_eight (λ k. is_wanted (reg_numbers touched.regs) (if skip_sp then 4 else 8) k ≡ true → writer_at w.places (0 + k) ≡ Some i → ReadsFrom skip_sp run o i)
      (from_register Eax) (from_register Ecx) (from_register Edx) (from_register Ebx) (from_register Esp) (from_register Ebp) (from_register Esi) (from_register Edi)
      found.0 found.1 found.2 found.3

  pub reads_flags : WritesNumbers w.places (flag_numbers touched.flags) 8 8 6 i → ReadsFrom skip_sp run o i
  reads_flags found = below_six (λ k. is_wanted (flag_numbers touched.flags) 8 k ≡ true → writer_at w.places (8 + k) ≡ Some i → ReadsFrom skip_sp run o i)
      (from_flag Cf) (from_flag Pf) (from_flag Zf) (from_flag Sf) (from_flag Of) (from_flag Df)
      found.0 found.1 found.2 found.3

  pub reads_bytes : (spans : List Span) → spans ≡ touched.bytes.items → WritesSpans w.bytes spans i → ReadsFrom skip_sp run o i
  reads_bytes spans same found = (AtByte found.0, sym (is.bytes found.0) ∙ ap (λ (l : List Span). is_any l found.0) (sym same) ∙ found.1, sym (knows.bytes found.0) ∙ found.2)

  abbrev Found : List Span → Type 0
  Found spans = (WritesNumbers w.places (reg_numbers touched.regs) (if skip_sp then 4 else 8) 0 8 i ⊎ WritesNumbers w.places (flag_numbers touched.flags) 8 8 6 i) ⊎ WritesSpans w.bytes spans i

  -- the numeral below 8 is that of its register
  to_register : (r : Reg) → reg_number r < 8 → has_number (reg_numbers touched.regs) (reg_number r) ≡ has_reg touched.regs r
      → (is_location skip_sp (InRegister (reg_number r)) && reads o (InRegister (reg_number r))) ≡ true → last_writer run (InRegister (reg_number r)) ≡ Some i
      → WritesNumbers w.places (reg_numbers touched.regs) (if skip_sp then 4 else 8) 0 8 i
  to_register r lt same read writer = (
    reg_number r,
    lt,
    and_from (has_number (reg_numbers touched.regs) (reg_number r)) (not (reg_number r == (if skip_sp then 4 else 8)))
        (same ∙ is.registers r ∙ and_right (is_location skip_sp (InRegister (reg_number r))) _ read)
        (sym (is_place skip_sp r) ∙ and_left (is_location skip_sp (InRegister (reg_number r))) _ read),
    (let zero_more : 0 + reg_number r ≡ reg_number r = omega arith in ap (λ k. writer_at w.places k) zero_more ∙ knows.registers r ∙ writer),
  )

  to_flag : (f : Flag) → flag_number f < 6 → has_number (flag_numbers touched.flags) (flag_number f) ≡ has_flag touched.flags f → (flag_number f == 8) ≡ false
      → (is_location skip_sp (InFlag (flag_number f)) && reads o (InFlag (flag_number f))) ≡ true → last_writer run (InFlag (flag_number f)) ≡ Some i
      → WritesNumbers w.places (flag_numbers touched.flags) 8 8 6 i
  to_flag f lt same low read writer = (
    flag_number f,
    lt,
    and_from (has_number (flag_numbers touched.flags) (flag_number f)) (not (flag_number f == 8))
        (same ∙ is.flags f ∙ and_right (is_location skip_sp (InFlag (flag_number f))) _ read) (ap not low),
    knows.flags f ∙ writer,
  )

  pub found_by : (spans : List Span) → spans ≡ touched.bytes.items → ReadsFrom skip_sp run o i → Found spans
  found_by spans same (InRegister n, read, writer) =
      let low : n < 8 = (let e = and_left (nat_lt n 8) _ (and_left (is_location skip_sp (InRegister n)) _ read) in grind (arith, nat_tests)) in
      inl (inl (below_eight (λ n. (is_location skip_sp (InRegister n) && reads o (InRegister n)) ≡ true → last_writer run (InRegister n) ≡ Some i → WritesNumbers w.places (reg_numbers touched.regs) (if skip_sp then 4 else 8) 0 8 i)
      (to_register Eax (omega arith) refl) (to_register Ecx (omega arith) refl) (to_register Edx (omega arith) refl) (to_register Ebx (omega arith) refl)
      (to_register Esp (omega arith) refl) (to_register Ebp (omega arith) refl) (to_register Esi (omega arith) refl) (to_register Edi (omega arith) refl) n low read writer))
  found_by spans same (InFlag n, read, writer) =
      let low : n < 6 = (let e = and_left (is_location skip_sp (InFlag n)) _ read in grind (arith, nat_tests)) in
      inl (inr (below_six (λ n. (is_location skip_sp (InFlag n) && reads o (InFlag n)) ≡ true → last_writer run (InFlag n) ≡ Some i → WritesNumbers w.places (flag_numbers touched.flags) 8 8 6 i)
      (to_flag Cf (omega arith) refl refl) (to_flag Pf (omega arith) refl refl) (to_flag Zf (omega arith) refl refl) (to_flag Sf (omega arith) refl refl) (to_flag Of (omega arith) refl refl) (to_flag Df (omega arith) refl refl) n low read writer))
  found_by spans same (AtByte a, read, writer) = inr (a, ap (λ (l : List Span). is_any l a) same ∙ is.bytes a ∙ read, knows.bytes a ∙ writer)

none_there : (xs : List ℕ) (i : ℕ) {P : Type 0} → xs ≡ [] → Contains xs i → P
none_there xs i none e = absurd (let long : length xs ≡ 0 = ap length none in let lt : e.0 < length xs = e.1 in omega arith)

pub listed_sources : (touched : Touched) (skip_sp : Bool) (skip : ℕ) (w : Writers) (f0 f1 f2 f3 steps : List ℕ) (spans : List Span)
    → skip ≡ (if skip_sp then 4 else 8) → f0 ≡ [] → spans ≡ touched.bytes.items
    → ((i : ℕ) → Contains f1 i ↔ (Contains f0 i ⊎ WritesNumbers w.places (reg_numbers touched.regs) skip 0 8 i))
    → ((i : ℕ) → Contains f2 i ↔ (Contains f1 i ⊎ WritesNumbers w.places (flag_numbers touched.flags) 8 8 6 i))
    → ((i : ℕ) → Contains f3 i ↔ (Contains f2 i ⊎ WritesSpans w.bytes spans i))
    → IsStrictlyIncreasing steps → ((i : ℕ) → Contains steps i ↔ Contains f3 i)
    → (run : List (Occurrence Act)) (o : Occurrence Act) → IsTouched touched (reads o) → KnowsWriters w run → ListsSources skip_sp run o steps
listed_sources touched skip_sp skip w f0 f1 f2 f3 steps spans skip_is none same one two three rising all run o is knows = record {
  rising = rising;
  all = λ i. (
    λ e. ⊎_elim
        (λ two_. ⊎_elim
        (λ one_. ⊎_elim (λ zero_. none_there f0 i none zero_)
        (λ regs. reads_registers touched skip_sp w run o i is knows (subst (λ k. WritesNumbers w.places (reg_numbers touched.regs) k 0 8 i) skip_is regs)) ((one i).0 one_))
        (λ flags. reads_flags touched skip_sp w run o i is knows flags) ((two i).0 two_))
        (λ bytes. reads_bytes touched skip_sp w run o i is knows spans same bytes) ((three i).0 ((all i).0 e)),
    λ from. (all i).1 ((three i).1 (⊎_elim
        (λ places. inl ((two i).1 (⊎_elim
        (λ regs. inl ((one i).1 (inr (subst (λ k. WritesNumbers w.places (reg_numbers touched.regs) k 0 8 i) (sym skip_is) regs))))
        (λ flags. inr flags) places)))
        (λ bytes. inr bytes)
        (found_by touched skip_sp w run o i is knows spans same from))),
  );
}
