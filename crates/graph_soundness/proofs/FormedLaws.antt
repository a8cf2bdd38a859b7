-- All intervals of the reaches of a node have the one form of their members, where the state there has it.
use Rattle.std.proofs.Common.{◌≡◌, ℕ, zero, suc, ◌+◌, ◌*◌, ◌≤◌, ◌==◌, ◌&&◌, Bool, true, false, cond, List, [], ◌∷◌, ◌++◌, map, Option, Some, None, refl, arith, pos}
use Rattle.std.specs.Prelude.{IfSome, max, slice_get, option_and_then, length}
use Rattle.std.specs.List.{AllByRecursion}
use Rattle.std.proofs.lemmas.Bool.{cond_both}
use Rattle.std.proofs.lemmas.Int.{ints}
use Rattle.image_map.specs.declared.image.Image.{Image}
use Rattle.image_map.specs.declared.region.Kind.{Kind}
use Rattle.image_map.specs.declared.region.Kind.TheVariants as kind
use Rattle.image_map.specs.declared.region.Settings.{Settings}
use Rattle.image_map.specs.CallModel.{AreSettings, IsKind}
use Rattle.image_map.specs.Names.{extern_number}
use Rattle.ia32_types.specs.declared.Width.{Width}
use Rattle.ia32_types.specs.declared.Width.TheVariants.{D32}
use Rattle.ia32_types.specs.declared.Operand.{Operand}
use Rattle.ia32_types.specs.declared.Operand.TheVariants as operand
use Rattle.ia32_types.specs.declared.Op.{Op}
use Rattle.ia32_types.specs.declared.Op.TheVariants as op
use Rattle.ia32_types.specs.declared.Instr.{Instr}
use Rattle.ia32_types.specs.Numbers.{size}
use Rattle.ia32_semantics.specs.Effects.{Whole}
use Rattle.ia32_fetch.specs.Fetched.{instruction_at}
use Rattle.strided.specs.Interval.{Interval}
use Rattle.strided.proofs.MemberLemmas.{one_canonical}
use Rattle.si_bits.proofs.SignLemmas.{fits_between}
use Rattle.vset.specs.declared.part.Part.{Part}
use Rattle.vset.specs.Values.{Values, CanonicalValues}
use Rattle.abs_alu.specs.Words.{number}
use Rattle.abs_alu.proofs.CanonicalLemmas.{add_values_canonical}
use Rattle.abs_semantics.specs.States.{AbsState, HasCanonical}
use Rattle.abs_semantics.specs.Accesses.{has_no_reason}
use Rattle.abs_semantics.specs.Operands.{address, with_register}
use Rattle.abs_semantics.specs.Resolve.{resolve}
use Rattle.abs_semantics.proofs.EntryLemmas.{entries_form}
use Rattle.abs_steps.specs.declared.accesses.Access.{Access}
use Rattle.abs_steps.specs.Accesses.{access, of_operand, first_read, second_read, both_read, first_written, factors_read, product_written, range_of, string_range, reads, word_pushed, word_popped, writes, argument_at, arguments_read, words_read, extern_reads, argument, filled_count, extern_writes}
use Rattle.abs_steps.specs.Places.{Content, Extern, Instruction, Nothing, content_of, content_at, kind_at, followed}
use Rattle.abs_steps.specs.Rows.{view_of, risen}
use Rattle.abs_steps.specs.Strings.{count_of, bytes_of}
use Rattle.abs_steps.specs.Successors.{States}
use Rattle.abs_steps.specs.Views.{View}
use Rattle.step_soundness.proofs.ValueForms.{small_form, stored_form, pushed_form, risen_form}
use Rattle.sweeps.proofs.EnterLemmas.{all_append}
use Rattle.transfer_flow.specs.Contents.{IsContent}
use Rattle.transfer_flow.proofs.ContentLemmas.{kind_there}
use Rattle.call_soundness.specs.Maps.{HasForm}
use Rattle.state_forms.specs.Images.{HasBytes}
use Rattle.state_forms.proofs.EffectForms.{register_formed}
use Rattle.state_forms.proofs.OperandForms.{IsSpelt, AreSpelt, operands_spelt, spelt_address_form, stands_spelt}
use Rattle.access_facts.specs.declared.reach.Reach.{Reach}
use Rattle.access_facts.specs.declared.reach.Reach.TheVariants.{Anywhere}
use Rattle.access_facts.specs.Forms.{IsFormed, AreFormed}
use Rattle.access_facts.specs.Reach.{within_parts, reach_of, reach}
use Rattle.access_facts.specs.Sets.{reads_anything, words_and_operands_read, read_reaches, slot_reach, calls, slots_written, accesses_written, write_reaches}
use Rattle.graph_soundness.specs.Checks.{HaveForms}
use Rattle.graph_soundness.specs.Forms.{AreAllFormed}

-- -- Accesses to addresses of the one form

abbrev IsAddressed : Access → Type 0
IsAddressed x = CanonicalValues x.addr

abbrev AreAddressed : List Access → Type 0
AreAddressed xs = AllByRecursion IsAddressed xs

both_addressed : (xs ys : List Access) → AreAddressed xs → AreAddressed ys → AreAddressed (xs ++ ys)
both_addressed xs ys first second = all_append IsAddressed xs ys first second

both_formed : (rs more : List Reach) → AreFormed rs → AreFormed more → AreFormed (rs ++ more)
both_formed [] more first second = second
both_formed (r ∷ rs) more first second = (first.0, both_formed rs more first.1 second)

slots_formed : (ts : List ℕ) → AreFormed (map slot_reach ts)
slots_formed [] = tt
slots_formed (t ∷ ts) = ((one_canonical (pos 0) (fits_between (pos 0) (omega (arith, ints)) (omega (arith, ints))), tt), slots_formed ts)

range_addressed : (write : Bool) (at : Values) (z : ℕ) (o : Option Interval) → CanonicalValues at → AreAddressed (range_of write at z o)
range_addressed write at z None form = (form, tt)
range_addressed write at z (Some c) form = cond_both (bytes_of z c == 0) [] (access write at (Some (bytes_of z c)) ∷ []) AreAddressed (λ _. tt) (λ _. (form, tt))

module _ (a : AbsState) (form : HasCanonical a) where
  -- -- Where they reach

  at_formed : (p : ℕ) (at : Values) → CanonicalValues at → (len : Option ℕ) → IsFormed (reach_of a p at len)
  at_formed p at fa None = tt
  at_formed p at fa (Some len) =
      cond_both (has_no_reason (resolve a p at len).reasons) (Some (resolve a p at len).entries) None (λ (o : Option (List Part)). IsFormed (within_parts len o))
      (λ _. entries_form a p len form.links at fa) (λ _. tt)

  reach_formed : (p : ℕ) (x : Access) → IsAddressed x → IsFormed (reach a p x)
  unfolding reach
  reach_formed p x addressed = at_formed p x.addr addressed x.len

  reaches_formed : (p : ℕ) (xs : List Access) → AreAddressed xs → AreFormed (map (reach a p) xs)
  reaches_formed p [] addressed = tt
  reaches_formed p (x ∷ xs) addressed = (reach_formed p x addressed.0, reaches_formed p xs addressed.1)

  -- -- Operands and strings

  operand_addressed : (write : Bool) (width : Width) (o : Option Operand) → IsSpelt o → AreAddressed (of_operand write a width o)
  operand_addressed write width None is = tt
  operand_addressed write width (Some (operand.Reg r)) is = tt
  operand_addressed write width (Some (operand.High r)) is = tt
  operand_addressed write width (Some (operand.Imm n)) is = tt
  operand_addressed write width (Some (operand.Mem m)) is =
      cond_both m.gs [] (access write (address a m) (Some (size width)) ∷ []) AreAddressed (λ _. tt) (λ _. (spelt_address_form a form m is, tt))

  string_addressed : (write repeat : Bool) (width : Width) (n : ℕ) → AreAddressed (string_range write a repeat width (a.registers n))
  string_addressed write false width n = (form.registers n, tt)
  string_addressed write true width n = range_addressed write (a.registers n) (size width) (count_of a (size width)) (form.registers n)

  -- -- Externs

  arguments_addressed : (n from : ℕ) → from + n ≤ 9 → AreAddressed (arguments_read a n from)
  arguments_addressed zero from few = tt
  arguments_addressed (suc n) from few =
      (add_values_canonical (a.registers 4) (number (pos (4 * from))) (form.registers 4) (small_form (4 * from) (omega (arith, few))), arguments_addressed n (from + 1) (omega (arith, few)))

  words_addressed : (n : ℕ) → n ≤ 8 → AreAddressed (words_read a n)
  words_addressed n few = (form.registers 4, arguments_addressed n 1 (omega (arith, few)))

  most_is : (m n : ℕ) → m ≤ 8 → n ≤ 8 → max m n ≤ 8
  most_is m n first second = omega (arith, first, second)

  answer_reads : (k : Kind) → IsKind k → AreAddressed (extern_reads a k)
  unfolding extern_reads
  answer_reads (kind.Pure n) is = words_addressed n is
  answer_reads (kind.Reader n) is = words_addressed n is
  answer_reads kind.Alloc is = words_addressed 1 (omega arith)
  answer_reads kind.Stop is = tt
  answer_reads kind.Unknown is = words_addressed 0 (omega arith)
  answer_reads (kind.Fills buffer len) is = words_addressed (max buffer len) (most_is buffer len is.1 is.3)

-- -- Instructions

module _ (a : AbsState) (form : HasForm a) (i : Instr) (spelt : AreSpelt i.dst i.src i.imm) where
  abbrev canonical : HasCanonical a
  canonical = form.canonical

  first_addressed : AreAddressed (first_read a i)
  first_addressed = operand_addressed a canonical false i.width i.dst spelt.0

  second_addressed : AreAddressed (second_read a i)
  second_addressed = operand_addressed a canonical false i.width i.src spelt.1.0

  two_addressed : AreAddressed (both_read a i)
  two_addressed = both_addressed (first_read a i) (second_read a i) first_addressed second_addressed

  wider_addressed : (from : Width) → AreAddressed (of_operand false a from i.src)
  wider_addressed from = operand_addressed a canonical false from i.src spelt.1.0

  word_addressed : (n : ℕ) → AreAddressed (access false (a.registers n) (Some 4) ∷ [])
  word_addressed n = (canonical.registers n, tt)

  factors_addressed : (o : Option Operand) (imm : Option ℕ) → AreAddressed (factors_read a i o imm)
  factors_addressed None imm = first_addressed
  factors_addressed (Some src) None = two_addressed
  factors_addressed (Some src) (Some n) = second_addressed

  reads_addressed : (o : Op) → AreAddressed (reads o a i)
  unfolding reads
  reads_addressed op.Add = two_addressed
  reads_addressed op.Or = two_addressed
  reads_addressed op.Adc = two_addressed
  reads_addressed op.Sbb = two_addressed
  reads_addressed op.And = two_addressed
  reads_addressed op.Sub = two_addressed
  reads_addressed op.Xor = two_addressed
  reads_addressed op.Cmp = two_addressed
  reads_addressed op.Mov = second_addressed
  reads_addressed op.Lea = tt
  reads_addressed op.Push = first_addressed
  reads_addressed op.Pop = word_addressed 4
  reads_addressed op.Xchg = two_addressed
  reads_addressed op.Test = two_addressed
  reads_addressed op.Inc = first_addressed
  reads_addressed op.Dec = first_addressed
  reads_addressed op.Not = first_addressed
  reads_addressed op.Neg = first_addressed
  reads_addressed op.Mul = first_addressed
  reads_addressed op.Imul = factors_addressed i.src i.imm
  reads_addressed op.Shl = first_addressed
  reads_addressed op.Shr = first_addressed
  reads_addressed op.Sar = first_addressed
  reads_addressed (op.Movzx from) = wider_addressed from
  reads_addressed (op.Movsx from) = wider_addressed from
  reads_addressed op.Cwde = tt
  reads_addressed op.Cdq = tt
  reads_addressed op.Leave = word_addressed 5
  reads_addressed (op.Setcc c) = tt
  reads_addressed op.Call = first_addressed
  reads_addressed op.Ret = word_addressed 4
  reads_addressed op.Jmp = first_addressed
  reads_addressed (op.Jcc c) = tt
  reads_addressed op.Nop = tt
  reads_addressed op.Endbr32 = tt
  reads_addressed op.Hlt = tt
  reads_addressed op.Int3 = tt
  reads_addressed op.Ud2 = tt
  reads_addressed (op.Cmov c) = two_addressed
  reads_addressed op.Rol = first_addressed
  reads_addressed op.Ror = first_addressed
  reads_addressed op.Div = first_addressed
  reads_addressed op.Idiv = first_addressed
  reads_addressed (op.Movs repeat) = string_addressed a canonical false repeat i.width 6
  reads_addressed (op.Stos repeat) = tt
  reads_addressed op.Cld = tt
  reads_addressed op.Std = tt

  target_addressed : AreAddressed (first_written a i)
  target_addressed = operand_addressed a canonical true i.width i.dst spelt.0

  source_addressed : AreAddressed (of_operand true a i.width i.src)
  source_addressed = operand_addressed a canonical true i.width i.src spelt.1.0

  pushed_addressed : AreAddressed (word_pushed a)
  pushed_addressed = (pushed_form (a.registers 4) (canonical.registers 4), tt)

  -- ESP has risen already
  popped_addressed : AreAddressed (word_popped a i)
  popped_addressed =
      operand_addressed (with_register a Whole 4 (risen (a.registers 4))) (register_formed a Whole 4 (risen (a.registers 4)) form (risen_form (a.registers 4) (canonical.registers 4))).canonical true i.width i.dst spelt.0

  product_addressed : (o : Option Operand) → AreAddressed (product_written a i o)
  product_addressed None = tt
  product_addressed (Some src) = target_addressed

  writes_addressed : (o : Op) → AreAddressed (writes o a i)
  unfolding writes
  writes_addressed op.Add = target_addressed
  writes_addressed op.Or = target_addressed
  writes_addressed op.Adc = target_addressed
  writes_addressed op.Sbb = target_addressed
  writes_addressed op.And = target_addressed
  writes_addressed op.Sub = target_addressed
  writes_addressed op.Xor = target_addressed
  writes_addressed op.Cmp = tt
  writes_addressed op.Mov = target_addressed
  writes_addressed op.Lea = target_addressed
  writes_addressed op.Push = pushed_addressed
  writes_addressed op.Pop = popped_addressed
  writes_addressed op.Xchg = both_addressed (first_written a i) (of_operand true a i.width i.src) target_addressed source_addressed
  writes_addressed op.Test = tt
  writes_addressed op.Inc = target_addressed
  writes_addressed op.Dec = target_addressed
  writes_addressed op.Not = target_addressed
  writes_addressed op.Neg = target_addressed
  writes_addressed op.Mul = tt
  writes_addressed op.Imul = product_addressed i.src
  writes_addressed op.Shl = target_addressed
  writes_addressed op.Shr = target_addressed
  writes_addressed op.Sar = target_addressed
  writes_addressed (op.Movzx from) = target_addressed
  writes_addressed (op.Movsx from) = target_addressed
  writes_addressed op.Cwde = tt
  writes_addressed op.Cdq = tt
  writes_addressed op.Leave = tt
  writes_addressed (op.Setcc c) = target_addressed
  writes_addressed op.Call = pushed_addressed
  writes_addressed op.Ret = tt
  writes_addressed op.Jmp = tt
  writes_addressed (op.Jcc c) = tt
  writes_addressed op.Nop = tt
  writes_addressed op.Endbr32 = tt
  writes_addressed op.Hlt = tt
  writes_addressed op.Int3 = tt
  writes_addressed op.Ud2 = tt
  writes_addressed (op.Cmov c) = tt
  writes_addressed op.Rol = target_addressed
  writes_addressed op.Ror = target_addressed
  writes_addressed op.Div = tt
  writes_addressed op.Idiv = tt
  writes_addressed (op.Movs repeat) = string_addressed a canonical true repeat i.width 7
  writes_addressed (op.Stos repeat) = string_addressed a canonical true repeat i.width 7
  writes_addressed op.Cld = tt
  writes_addressed op.Std = tt

-- -- What stands at an address

module _ (v : View) (form : HasForm v.state) where
  -- what an argument points to
  answer_writes : (k : Kind) → AreAddressed (extern_writes v k)
  unfolding extern_writes
  answer_writes (kind.Pure n) = tt
  answer_writes (kind.Reader n) = tt
  answer_writes kind.Alloc = tt
  answer_writes kind.Stop = tt
  answer_writes kind.Unknown = tt
  answer_writes (kind.Fills buffer len) =
      range_addressed true (argument v buffer) 1 (filled_count v len) (stored_form v.state form.canonical v.cells v.procedure D32 (argument_at v.state buffer))

  words_formed : (content : Content) → IsContent content → AreFormed (words_and_operands_read v content)
  words_formed (Extern k) is = reaches_formed v.state form.canonical v.procedure (extern_reads v.state k) (answer_reads v.state form.canonical k is)
  words_formed (Instruction i) is = reaches_formed v.state form.canonical v.procedure (reads i.op v.state i) (reads_addressed v.state form i (operands_spelt i is) i.op)
  words_formed Nothing is = tt

  reads_formed : (content : Content) → IsContent content → AreFormed (read_reaches v content)
  unfolding read_reaches
  reads_formed content is =
      both_formed (cond (reads_anything content) (Anywhere ∷ []) []) (words_and_operands_read v content)
      (cond_both (reads_anything content) (Anywhere ∷ []) [] AreFormed (λ _. (tt, tt)) (λ _. tt)) (words_formed content is)

  slots_are_formed : (image : Image) (content : Content) → AreFormed (slots_written image v content)
  slots_are_formed image (Extern k) = tt
  slots_are_formed image (Instruction i) = slots_formed (followed image v i.dst)
  slots_are_formed image Nothing = tt

  accesses_formed : (content : Content) → IsContent content → AreFormed (accesses_written v content)
  accesses_formed (Extern k) is = reaches_formed v.state form.canonical v.procedure (extern_writes v k) (answer_writes k)
  accesses_formed (Instruction i) is = reaches_formed v.state form.canonical v.procedure (writes i.op v.state i) (writes_addressed v.state form i (operands_spelt i is) i.op)
  accesses_formed Nothing is = tt

  writes_formed : (image : Image) (content : Content) (goes_on : Bool) → IsContent content → AreFormed (write_reaches image v content goes_on)
  unfolding write_reaches
  writes_formed image content goes_on is =
      cond_both (calls content && goes_on) (slots_written image v content) (accesses_written v content) AreFormed (λ _. slots_are_formed image content) (λ _. accesses_formed content is)

-- what stands there can be spelled, or is an extern with argument words
module _ (image : Image) (settings : Settings) (bytes : HasBytes image) (are : AreSettings (length image.externs) settings) where
  kind_of : (o : Option ℕ) → IfSome (option_and_then (slice_get settings.kinds) o) IsKind
  kind_of None = tt
  kind_of (Some k) = kind_there settings (length image.externs) k are

  kind_is : (at : ℕ) → IfSome (kind_at image settings at) IsKind
  unfolding kind_at
  kind_is at = kind_of (extern_number (length image.externs) at)

  content_is : (at : ℕ) → IsContent (content_at image settings at)
  unfolding content_at
  content_is at = by (kind_at image settings at) (instruction_at image at) (kind_is at) refl
    where
      by : (k : Option Kind) (i : Option Instr) → IfSome k IsKind → instruction_at image at ≡ i → IsContent (content_of k i)
      by (Some k) i is e = is
      by None (Some i) is e = stands_spelt image bytes at i e
      by None None is e = tt

pub all_formed : (image : Image) (settings : Settings) (states : States) → HasBytes image → AreSettings (length image.externs) settings → HaveForms states → AreAllFormed image settings states
all_formed image settings states bytes are forms n a e =
    let is = content_is image settings bytes are n.at in
    let form = forms n a e in
    record {
      reads = reads_formed (view_of a states.cells n.context.proc) form (content_at image settings n.at) is;
      writes = λ goes_on. writes_formed (view_of a states.cells n.context.proc) form image (content_at image settings n.at) goes_on is;
    }
