-- What a node must define is written as a whole.
use Rattle.std.proofs.Common.{◌≡◌, ◌<◌, ◌≤◌, ◌⊎◌, inl, inr, ℕ, suc, ◌+◌, ◌-◌, ◌==◌, Bool, true, false, cond, not, ◌&&◌, List, [], ◌∷◌, ◌++◌, length, map, Option, Some, None, ℤ, pos, ◌+ℤ◌, refl, sym, ap, subst, ◌∙◌, arith, eqb-true}
use Rattle.std.specs.Prelude.{◌-ℤ◌, ◌<ℤ◌, ◌≤ℤ◌, filter}
use Rattle.std.proofs.lemmas.Bool.{false≢true, true≢false}
use Rattle.std.proofs.lemmas.Int.{ints}
use Rattle.image_map.specs.declared.image.Image.{Image}
use Rattle.image_map.specs.declared.region.Activation.{Activation}
use Rattle.image_map.specs.declared.region.Kind.{Kind}
use Rattle.image_map.specs.declared.region.RegionId.{RegionId}
use Rattle.image_map.specs.declared.region.RegionId.TheVariants.{Global, Frame, OldFrame, Heap}
use Rattle.image_map.specs.declared.region.Settings.{Settings}
use Rattle.image_map.specs.CallModel.{AreSettings}
use Rattle.image_map.specs.Whole.{IsImage}
use Rattle.ia32_types.specs.declared.Instr.{Instr}
use Rattle.ia32_types.specs.declared.Op.{Op}
use Rattle.ia32_types.specs.declared.Op.TheVariants as op
use Rattle.ia32_types.specs.declared.Operand.{Operand}
use Rattle.ia32_types.specs.Numbers.{size}
use Rattle.ia32_semantics.specs.Ia32.{machine}
use Rattle.ia32_semantics.specs.Machine.{Occurrence}
use Rattle.ia32_semantics.specs.State.{State, AtByte}
use Rattle.ia32_semantics.specs.Step.{Act, Executes, Answers, writes as step_writes}
use Rattle.strided.specs.Interval.{Interval}
use Rattle.si_bits.proofs.MemberLemmas.{member_single}
use Rattle.alocs.specs.Cells.{Division}
use Rattle.vset.specs.declared.part.Part.{Part}
use Rattle.vset.specs.Values.{Values}
use Rattle.vset.specs.World.{Thing, TheImage, ActivationAt, BlockAt, IsIn, key_of, base_of, region_of, is_called}
use Rattle.abs_semantics.specs.Accesses.{has_no_reason, sure_entries}
use Rattle.abs_semantics.specs.Ownership.{IsKnown, IsOwnedAt, IsOwnedAmong}
use Rattle.abs_semantics.specs.Resolve.{resolve}
use Rattle.abs_semantics.specs.StandsFor.{world_of}
use Rattle.abs_semantics.specs.States.{AbsState, has_procedure}
use Rattle.abs_semantics.specs.Touching.{sure_place}
use Rattle.abs_semantics.proofs.EntryLemmas.{no_reason, sure_is}
use Rattle.abs_semantics.proofs.OwnerLemmas.{resolved_bytes}
use Rattle.abs_semantics.proofs.ThingLemmas.{one_thing, is_image}
use Rattle.abs_steps.specs.declared.accesses.Access.{Access}
use Rattle.abs_steps.specs.Accesses.{writes}
use Rattle.abs_steps.specs.Calls.{grown_old, grown_old_if_live}
use Rattle.abs_steps.specs.Places.{Instruction, content_at, targets, followed, is_place, is_indirect}
use Rattle.abs_steps.specs.Strings.{count_of}
use Rattle.abs_steps.specs.Successors.{States, is_call}
use Rattle.abs_steps.specs.Views.{View}
use Rattle.slice_soundness.specs.Located.{Spot, spot_of, OfRegion, GivesUp}
use Rattle.slice_soundness.specs.Premises.{GoesOn, IsClean}
use Rattle.step_soundness.specs.Accessed.{IsFilled, IsFilledBy, AreFilled, is_one, always_written}
use Rattle.step_soundness.specs.Steps.{is_plain, IsExecuted}
use Rattle.step_soundness.proofs.StepLaws.{plain_keeps}
use Rattle.call_soundness.specs.Laws.{is_control}
use Rattle.call_soundness.specs.Maps.{IsListed, Drawn}
use Rattle.call_soundness.proofs.AccessLaws.{control_keeps}
use Rattle.call_soundness.proofs.ListLaws.{number_has}
use Rattle.call_soundness.proofs.ThingLaws.{tail_is}
use Rattle.access_facts.specs.CellSets.{is_sure}
use Rattle.access_facts.specs.Cores as core
use Rattle.access_facts.specs.Reach.{within_parts, reach_of, reach}
use Rattle.access_facts.specs.Sets.{is_one_number, writes_a_known_count, has_one_target, slot_reach, slots_written, accesses_written, writes_surely, write_reaches, sure_reaches, older_after, older_behind}
use Rattle.graph_soundness.specs.Drawn.{map_drawn, drawn_of}
use Rattle.graph_soundness.specs.Reached as reached
use Rattle.graph_soundness.specs.Reached.{IsSureAt, IsSureIn, MustWrite}
use Rattle.graph_soundness.proofs.MoveLaws.{a_call, call_grown, called_to, slot_filled, stays_or_ends}
use Rattle.graph_soundness.proofs.SpotLaws.{thing_spot, HasOwner, spot_owner}
use Rattle.graph_soundness.proofs.StepReads.{known_here, content_of_instruction, content_of_extern, executed_here}
use Rattle.graph_soundness.proofs.StepWrites.{n, a, W, g, goes_on, target_listed}

-- -- What an instruction writes in any case

same_count : (o : Option Interval) → is_one_number o ≡ is_one o
same_count None = refl
same_count (Some c) = refl

always_is : (c : Op) (b : AbsState) (i : Instr) → cond (core.is_repeated c) (is_one_number (count_of b (size i.width))) true ≡ true → always_written c b i ≡ writes c b i
unfolding always_written core.is_repeated
always_is (op.Movs true) b i e = ap (λ t. cond t (writes (op.Movs true) b i) []) (sym (same_count (count_of b (size i.width))) ∙ e)
always_is (op.Stos true) b i e = ap (λ t. cond t (writes (op.Stos true) b i) []) (sym (same_count (count_of b (size i.width))) ∙ e)
always_is (op.Movs false) b i e = refl
always_is (op.Stos false) b i e = refl
always_is _ b i e = refl

no_writes : (c : Op) (b : AbsState) (i : Instr) → is_plain c ≡ false → is_control c ≡ false → writes c b i ≡ []
unfolding writes is_plain
no_writes op.Hlt b i e f = refl
no_writes op.Int3 b i e f = refl
no_writes op.Ud2 b i e f = refl
no_writes op.Call b i e f = absurd (true≢false f)
no_writes op.Ret b i e f = absurd (true≢false f)
no_writes op.Jmp b i e f = absurd (true≢false f)
no_writes (op.Jcc c) b i e f = absurd (true≢false f)
no_writes _ b i e f = absurd (true≢false e)

module _ (image : Image) (lane p : ℕ) (b : AbsState) (d : Division) (i : Instr) (o : Occurrence Act) (h : IsExecuted image lane b p d i o) (counted : writes_a_known_count b i ≡ true) where
  abbrev Filled : List Access → Type 0
  Filled xs = AreFilled lane o.before (λ byte. step_writes o (AtByte byte)) xs

  pub instruction_fills : Filled (writes i.op b i)
  instruction_fills = by (is_plain i.op) (is_control i.op) refl refl
    where
      by : (plain control : Bool) → is_plain i.op ≡ plain → is_control i.op ≡ control → Filled (writes i.op b i)
      by true control e f = subst Filled (always_is i.op b i counted) (plain_keeps image lane b p d i o h e).always
      by false true e f = subst Filled (always_is i.op b i counted) (control_keeps image lane p b d i o h f).always
      by false false e f = subst Filled (sym (no_writes i.op b i e f)) tt

-- -- A place that is written as a whole

module _ (image : Image) (lane p : ℕ) (b : AbsState) (s : State) (known : IsKnown image lane b p s) (test : ℕ → Bool) (older : List ℕ) (region : RegionId) (base byte : ℕ)
    (alone : (t : Thing) → is_sure older region ≡ true → IsIn (world_of s) t → region_of lane t ≡ region → base ≡ base_of t) where
  owned_filled : (v : Values) (len : ℕ) (h : IsFilled lane s test v len) (x : Part) → x.si.stride ≡ 0 → IsSureAt older len x region (pos byte -ℤ pos base) → IsOwnedAt lane s h.at len x → test byte ≡ true
  owned_filled v len h x single sure own =
      let lo : own.offset ≡ x.si.lo = member_single own.offset x.si single own.within in
      let there : base ≡ base_of own.thing = alone own.thing (subst (λ r. is_sure older r ≡ true) sure.region_is sure.sure) own.is_in (own.region ∙ sure.region_is) in
      let start : pos h.at ≡ pos (base_of own.thing) +ℤ own.offset = own.reached in
      let low : x.si.lo ≤ℤ (pos byte -ℤ pos base) = sure.low in
      let high : (pos byte -ℤ pos base) <ℤ (x.si.lo +ℤ pos len) = sure.high in
      let from : h.at ≤ byte = omega (arith, ints) in
      let less : byte - h.at < len = omega (arith, ints) in
      let is : h.at + (byte - h.at) ≡ byte = omega (arith, from) in
      subst (λ y. test y ≡ true) is (h.filled (byte - h.at) less)

  one_filled : (v : Values) (len : ℕ) → IsFilled lane s test v len → reached.IsFilled older (within_parts len (sure_entries (resolve b p v len))) region (pos byte -ℤ pos base) → test byte ≡ true
  one_filled v len h sure = by (has_no_reason (resolve b p v len).reasons) refl sure
    where
      among : (x : Part) → IsOwnedAmong lane s h.at len (x ∷ []) → IsOwnedAt lane s h.at len x
      among x (inl own) = own
      among x (inr none) = absurd none

      of_place : has_no_reason (resolve b p v len).reasons ≡ true → (q : Option Part) → sure_place (resolve b p v len).entries ≡ q → IsSureIn older len q region (pos byte -ℤ pos base) → test byte ≡ true
      of_place quiet None e sure = absurd sure
      of_place quiet (Some x) e sure =
          let only = sure_is (resolve b p v len).entries x e in
          owned_filled v len h x only.1 sure
          (among x (subst (IsOwnedAmong lane s h.at len) only.0 (resolved_bytes image lane b p s v h.at len len known h.range (no_reason (resolve b p v len).reasons quiet))))

      by : (t : Bool) → has_no_reason (resolve b p v len).reasons ≡ t → reached.IsFilled older (within_parts len (cond t (Some (resolve b p v len).entries) None)) region (pos byte -ℤ pos base) → test byte ≡ true
      by false e sure = absurd sure
      by true e sure = of_place e (sure_place (resolve b p v len).entries) refl sure

  access_filled : (x : Access) (l : Option ℕ) → IsFilledBy lane s test x.addr l → reached.IsFilled older (reach_of b p x.addr l) region (pos byte -ℤ pos base) → test byte ≡ true
  access_filled x None h sure = absurd sure
  access_filled x (Some len) h sure = one_filled x.addr len h sure

  pub each_filled : (xs : List Access) → AreFilled lane s test xs → reached.IsFilledBy older (map (reach b p) xs) region (pos byte -ℤ pos base) → test byte ≡ true
  unfolding reach
  each_filled [] h sure = absurd sure
  each_filled (x ∷ xs) h (inl sure) = access_filled x x.len h.0 sure
  each_filled (x ∷ xs) h (inr sure) = each_filled xs h.1 sure

-- -- The targets of a call

one_of : (xs : List ℕ) → (length xs == 1) ≡ true → (t : ℕ) × (xs ≡ t ∷ [])
one_of [] e = absurd (let f : 0 ≡ 1 = eqb-true 0 1 e in omega (arith, f))
one_of (x ∷ []) e = (x, refl)
one_of (x ∷ y ∷ zs) e = absurd (let f : suc (suc (length zs)) ≡ 1 = eqb-true (suc (suc (length zs))) 1 e in omega (arith, f))

listed_one : (x t : ℕ) → IsListed x (t ∷ []) → t ≡ x
listed_one x t (inl e) = e
listed_one x t (inr none) = absurd none

listed_filter : (test : ℕ → Bool) (t : ℕ) (xs : List ℕ) → IsListed t (filter test xs) → IsListed t xs
listed_filter test t [] h = h
listed_filter test t (x ∷ xs) h = by (test x) (listed_filter test t xs) h
  where
    by : (b : Bool) → (IsListed t (filter test xs) → IsListed t xs) → IsListed t (cond b (x ∷ filter test xs) (filter test xs)) → IsListed t (x ∷ xs)
    by true rest (inl e) = inl e
    by true rest (inr h) = inr (rest h)
    by false rest h = inr (rest h)

listed_target : (image : Image) (v : View) (dst : Option Operand) (t : ℕ) → IsListed t (followed image v dst) → IsListed t (targets v dst)
unfolding followed
listed_target image v dst t h = by (is_indirect dst) h
  where
    by : (b : Bool) → IsListed t (cond b (filter (is_place image) (targets v dst)) (targets v dst)) → IsListed t (targets v dst)
    by true h = listed_filter (is_place image) t (targets v dst) h
    by false h = h

-- the return slot of a target
record IsSlot (older ts : List ℕ) (region : RegionId) (offset : ℤ) : Type 0 where
  pub target : ℕ
  pub listed : IsListed target ts
  pub sure : not (has_procedure target older) ≡ true
  pub region_is : region ≡ Frame target
  pub low : pos 0 ≤ℤ offset
  pub high : offset <ℤ pos 4

slot_back : (older ts : List ℕ) (region : RegionId) (offset : ℤ) → reached.IsFilledBy older (map slot_reach ts) region offset → IsSlot older ts region offset
slot_back older [] region offset h = absurd h
slot_back older (t ∷ ts) region offset (inl h) =
    let low = h.low in
    let high = h.high in
    record { target = t; listed = inl refl; sure = h.sure; region_is = sym h.region_is; low = low; high = omega (arith, ints) }
slot_back older (t ∷ ts) region offset (inr h) =
    let rest = slot_back older ts region offset h in
    record { target = rest.target; listed = inr rest.listed; sure = rest.sure; region_is = rest.region_is; low = rest.low; high = rest.high }

not_true : (b : Bool) → not b ≡ true → b ≡ true → ⊥
not_true true e f = false≢true e
not_true false e f = false≢true f

grown_has : (t : ℕ) (b : AbsState) → has_procedure t b.live ≡ true → has_procedure t (grown_old_if_live t b).older ≡ true
grown_has t b live = subst (λ c. has_procedure t (older_by c) ≡ true) (sym live) (number_has t b.older)
  where
    older_by : Bool → List ℕ
    older_by c = (cond c (grown_old t b) b).older

-- -- At a node

module _ (image : Image) (settings : Settings) (states : States) (is : IsImage image) (are : AreSettings (length image.externs) settings) (o : Occurrence Act)
    (goes : GoesOn (machine image settings) (map_drawn image settings states) o) (byte : ℕ) (spot : Spot) (lies : spot_of (key_of states.lane) o.after byte ≡ Some spot) where
  abbrev D : Drawn
  D = drawn_of image settings states

  abbrev b : AbsState
  b = a image settings states is are o goes

  abbrev w : View
  w = W image settings states is are o goes

  abbrev p : ℕ
  p = (n image settings states is are o goes).context.proc

  abbrev onward : Bool
  onward = g image settings states is are o goes

  abbrev offset : ℤ
  offset = pos byte -ℤ pos spot.base

  known : IsKnown image states.lane b p o.before
  known = known_here image settings states D is are o goes.comes

  owner : HasOwner states.lane o.after byte spot
  owner = spot_owner states.lane o.after byte spot lies

  -- -- What calls nothing

  -- an activation after the step was there before it
  was_there : (o.after.activations ≡ o.before.activations) ⊎ GivesUp (machine image settings) o → (newer : List Activation) (y : Activation) (older : List Activation) → o.after.activations ≡ newer ++ (y ∷ older)
      → (front : List Activation) × (o.before.activations ≡ front ++ (y ∷ older))
  was_there (inl same) newer y older e = (newer, sym same ∙ e)
  was_there (inr gives) newer y older e = (gives.ending ∷ newer, gives.were ∙ ap (λ xs. gives.ending ∷ xs) (sym gives.are ∙ e))

  one_frame : (front : List Activation) (y : Activation) (older : List Activation) → o.before.activations ≡ front ++ (y ∷ older) → not (has_procedure y.callee b.older) ≡ true
      → (t : Thing) → IsIn (world_of o.before) t → region_of states.lane t ≡ Frame y.callee → base_of t ≡ y.base
  one_frame front y older e sure t t_in rt =
      ap base_of (one_thing states.lane o.before (Frame y.callee) t (ActivationAt front y older) refl t_in e rt (young (is_called y.callee front) refl))
    where
      young : (c : Bool) → is_called y.callee front ≡ c → region_of states.lane (ActivationAt front y older) ≡ Frame y.callee
      young true f = absurd (not_true (has_procedure y.callee b.older) sure (goes.comes.ready.stands.older front older y e f))
      young false f = ap (λ c. cond c (OldFrame y.callee) (Frame y.callee)) f

  alone : (o.after.activations ≡ o.before.activations) ⊎ GivesUp (machine image settings) o → (u : Thing) → IsIn (world_of o.after) u → spot ≡ thing_spot states.lane u
      → (t : Thing) → is_sure b.older spot.region ≡ true → IsIn (world_of o.before) t → region_of states.lane t ≡ spot.region → spot.base ≡ base_of t
  alone how TheImage u_in same t sure t_in rt =
      ap (λ (x : Spot). x.base) same ∙ sym (ap base_of (is_image states.lane o.before t (rt ∙ ap (λ (x : Spot). x.region) same)))
  alone how (ActivationAt newer y older) u_in same t sure t_in rt =
      let region : spot.region ≡ Frame y.callee = ap (λ (x : Spot). x.region) same in
      let before = was_there how newer y older u_in in
      ap (λ (x : Spot). x.base) same ∙ sym (one_frame before.0 y older before.1 (subst (λ r. is_sure b.older r ≡ true) region sure) t t_in (rt ∙ region))
  alone how (BlockAt before x later) u_in same t sure t_in rt =
      absurd (false≢true (subst (λ r. is_sure b.older r ≡ true) (ap (λ (x : Spot). x.region) same) sure))

  plain_always : (i : Instr) → o.act ≡ Executes i → is_call i.op ≡ false → MustWrite image w (content_at image settings (n image settings states is are o goes).at) onward (OfRegion spot.region offset) → step_writes o (AtByte byte) ≡ true
  unfolding older_behind sure_reaches writes_surely write_reaches
  plain_always i act other must =
      let of_content = subst (λ c. MustWrite image w c onward (OfRegion spot.region offset)) (content_of_instruction image settings states D is are o goes.comes i act) must in
      let of_call =
      subst (λ c. reached.IsFilledBy (cond (c && onward) (older_after b (targets w i.dst)) b.older)
      (cond (cond (c && onward) (has_one_target w i) (writes_a_known_count b i)) (cond (c && onward) (slots_written image w (Instruction i)) (accesses_written w (Instruction i))) []) spot.region offset) other of_content in
      by (writes_a_known_count b i) refl of_call
    where
      by : (c : Bool) → writes_a_known_count b i ≡ c → reached.IsFilledBy b.older (cond c (accesses_written w (Instruction i)) []) spot.region offset → step_writes o (AtByte byte) ≡ true
      by false e h = absurd h
      by true e h =
          each_filled image states.lane p b o.before known (λ y. step_writes o (AtByte y)) b.older spot.region spot.base byte
          (alone (stays_or_ends image settings states D is are o goes i act other) owner.thing owner.is_in owner.is) (writes i.op b i)
          (instruction_fills image states.lane p b states.cells i o (executed_here image settings states D is are o goes.comes i act) e) h

  -- -- A call

  module _ (clean : IsClean (machine image settings) (map_drawn image settings states)) (i : Instr) (act : o.act ≡ Executes i) (calls_ : i.op ≡ op.Call) where
    abbrev new : Activation
    new = called_to image settings states D is are o goes i act calls_

    grown : o.after.activations ≡ new ∷ o.before.activations
    grown = call_grown image settings states D is are o goes i act calls_

    head_is : (x y : Activation) (xs ys : List Activation) → x ∷ xs ≡ y ∷ ys → x ≡ y
    head_is x y xs ys e = cc

    in_slot : (h : IsSlot (grown_old_if_live new.callee b).older (followed image w i.dst) spot.region offset) → h.target ≡ new.callee → (u : Thing) → IsIn (world_of o.after) u → spot ≡ thing_spot states.lane u → step_writes o (AtByte byte) ≡ true
    in_slot h target TheImage u_in same = absurd (let e : Global ≡ Frame h.target = ap (λ (x : Spot). x.region) (sym same) ∙ h.region_is in cc)
    in_slot h target (BlockAt before x later) u_in same = absurd (let e : Heap (key_of states.lane x) ≡ Frame h.target = ap (λ (x : Spot). x.region) (sym same) ∙ h.region_is in cc)
    in_slot h target (ActivationAt [] y older) u_in same =
        let is_new : new.base ≡ y.base = ap (λ (x : Activation). x.base) (head_is new y o.before.activations older (sym grown ∙ u_in)) in
        let base : spot.base ≡ y.base = ap (λ (x : Spot). x.base) same in
        let low : pos 0 ≤ℤ (pos byte -ℤ pos spot.base) = h.low in
        let high : (pos byte -ℤ pos spot.base) <ℤ pos 4 = h.high in
        slot_filled image settings states D is are o goes i act calls_ byte (omega (arith, ints)) (omega (arith, ints))
    in_slot h target (ActivationAt (z ∷ newer) y older) u_in same =
        let before : o.before.activations ≡ newer ++ (y ∷ older) = tail_is new z o.before.activations (newer ++ (y ∷ older)) (sym grown ∙ u_in) in
        let region : Frame y.callee ≡ Frame h.target = ap (λ (x : Spot). x.region) (sym same) ∙ h.region_is in
        let callee : y.callee ≡ h.target = cc in
        let live : has_procedure new.callee b.live ≡ true = subst (λ q. has_procedure q b.live ≡ true) (callee ∙ target) (goes.comes.ready.stands.live newer older y before) in
        absurd (not_true (has_procedure h.target (grown_old_if_live new.callee b).older) h.sure
        (subst (λ q. has_procedure q (grown_old_if_live new.callee b).older ≡ true) (sym target) (grown_has new.callee b live)))

    call_always : MustWrite image w (content_at image settings (n image settings states is are o goes).at) onward (OfRegion spot.region offset) → step_writes o (AtByte byte) ≡ true
    unfolding older_behind sure_reaches writes_surely write_reaches
    call_always must =
        let of_content = subst (λ c. MustWrite image w c onward (OfRegion spot.region offset)) (content_of_instruction image settings states D is are o goes.comes i act) must in
        let both : (is_call i.op && onward) ≡ true = λ j. (ap is_call calls_) j && (goes_on image settings states is are o goes clean i act calls_) j in
        let of_call =
        subst (λ c. reached.IsFilledBy (cond c (older_after b (targets w i.dst)) b.older)
        (cond (cond c (has_one_target w i) (writes_a_known_count b i)) (cond c (slots_written image w (Instruction i)) (accesses_written w (Instruction i))) []) spot.region offset) both of_content in
        by (has_one_target w i) refl of_call
      where
        by : (c : Bool) → has_one_target w i ≡ c → reached.IsFilledBy (older_after b (targets w i.dst)) (cond c (slots_written image w (Instruction i)) []) spot.region offset → step_writes o (AtByte byte) ≡ true
        by false e h = absurd h
        by true e h =
            let only = one_of (targets w i.dst) e in
            let mine : IsListed new.callee (targets w i.dst) = listed_target image w i.dst new.callee (target_listed image settings states is are o goes clean i act calls_) in
            let first : only.0 ≡ new.callee = listed_one new.callee only.0 (subst (IsListed new.callee) only.1 mine) in
            let ages : older_after b (targets w i.dst) ≡ (grown_old_if_live new.callee b).older = ap (older_after b) only.1 ∙ ap (λ t. (grown_old_if_live t b).older) first in
            let slot = slot_back (grown_old_if_live new.callee b).older (followed image w i.dst) spot.region offset (subst (λ ls. reached.IsFilledBy ls (slots_written image w (Instruction i)) spot.region offset) ages h) in
            let theirs : only.0 ≡ slot.target = listed_one slot.target only.0 (subst (IsListed slot.target) only.1 (listed_target image w i.dst slot.target slot.listed)) in
            in_slot slot (sym theirs ∙ first) owner.thing owner.is_in owner.is

  -- -- All

  extern_always : (at : ℕ) (k : Kind) → o.act ≡ Answers at k → MustWrite image w (content_at image settings (n image settings states is are o goes).at) onward (OfRegion spot.region offset) → ⊥
  unfolding sure_reaches writes_surely
  extern_always at k act must = subst (λ c. MustWrite image w c onward (OfRegion spot.region offset)) (content_of_extern image settings states D is are o goes.comes at k act) must

  pub always_covered : IsClean (machine image settings) (map_drawn image settings states) → MustWrite image w (content_at image settings (n image settings states is are o goes).at) onward (OfRegion spot.region offset) → step_writes o (AtByte byte) ≡ true
  always_covered clean must = by o.act refl
    where
      by_call : (i : Instr) → o.act ≡ Executes i → (c : Bool) → is_call i.op ≡ c → step_writes o (AtByte byte) ≡ true
      by_call i act true e = call_always clean i act (a_call i.op e) must
      by_call i act false e = plain_always i act e must

      by : (c : Act) → o.act ≡ c → step_writes o (AtByte byte) ≡ true
      by (Executes i) act = by_call i act (is_call i.op) refl
      by (Answers at k) act = absurd (extern_always at k act must)
