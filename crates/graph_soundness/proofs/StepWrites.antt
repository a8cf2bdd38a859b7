-- Each byte that an occurrence writes, and doesn't forget, lies after it in what its node may write.
use Rattle.std.proofs.Common.{◌≡◌, ◌<◌, ◌≤◌, ◌⊎◌, inl, inr, ℕ, ◌+◌, ◌-◌, ◌^◌, Bool, true, false, cond, not, ◌&&◌, List, [], ◌∷◌, ◌++◌, append_assoc, length, map, Option, Some, None, ℤ, pos, refl, sym, ap, subst, ◌∙◌, arith}
use Rattle.std.specs.Prelude.{◌-ℤ◌, ◌<ℤ◌, ◌≤ℤ◌, nat_le, nat_lt, int_le}
use Rattle.std.proofs.lemmas.Bool.{true≢false, and_from, le-leb, lt-ltb}
use Rattle.std.proofs.lemmas.Int.{ints}
use Rattle.std.proofs.lemmas.Option.{same_Some}
use Rattle.image_map.specs.declared.image.Image.{Image}
use Rattle.image_map.specs.declared.region.Activation.{Activation}
use Rattle.image_map.specs.declared.region.Kind.{Kind}
use Rattle.image_map.specs.declared.region.RegionId.TheVariants.{Frame}
use Rattle.image_map.specs.declared.region.Settings.{Settings}
use Rattle.image_map.specs.CallModel.{AreSettings}
use Rattle.image_map.specs.Whole.{IsImage}
use Rattle.ia32_types.specs.declared.Instr.{Instr}
use Rattle.ia32_types.specs.declared.Op.TheVariants as op
use Rattle.ia32_semantics.specs.declared.state.Allocation.{Allocation}
use Rattle.ia32_semantics.specs.CallModel.{IsWhole, AreActivations}
use Rattle.ia32_semantics.specs.Ia32.{machine}
use Rattle.ia32_semantics.specs.Machine.{Occurrence}
use Rattle.ia32_semantics.specs.Outcome.{is_in_stack}
use Rattle.ia32_semantics.specs.State.{State, AtByte}
use Rattle.ia32_semantics.specs.Step.{Act, Executes, Answers, writes as step_writes, forgets as step_forgets}
use Rattle.strided.proofs.SumLemmas.{member_one}
use Rattle.alocs.specs.Extents.{home}
use Rattle.vset.specs.Values.{Values}
use Rattle.vset.specs.World.{Thing, TheImage, ActivationAt, BlockAt, IsIn, key_of, base_of, region_of}
use Rattle.call_strings.specs.declared.context.Node.{Node}
use Rattle.call_strings.specs.Nodes.{pushed}
use Rattle.abs_semantics.specs.States.{AbsState}
use Rattle.abs_semantics.specs.StandsFor.{Owns, EndsAbove, world_of}
use Rattle.abs_semantics.specs.Ownership.{IsKnown}
use Rattle.abs_semantics.specs.Resolve.{resolve}
use Rattle.abs_semantics.proofs.EntryLemmas.{one_owned}
use Rattle.abs_semantics.proofs.OwnerLemmas.{resolved_bytes}
use Rattle.abs_semantics.proofs.StackLemmas.{base_bounds}
use Rattle.abs_steps.specs.declared.accesses.Access.{Access}
use Rattle.abs_steps.specs.Accesses.{writes, extern_writes}
use Rattle.abs_steps.specs.Places.{Instruction, content_at, followed}
use Rattle.abs_steps.specs.Rows.{view_of}
use Rattle.abs_steps.specs.Successors.{Placed, States, at_node, is_call, successors, successors_by, instruction_successors, called_at, called_each, stack_offset}
use Rattle.abs_steps.specs.Views.{View}
use Rattle.slice_soundness.specs.Located.{Spot, spot_of, OfRegion, GivesUp}
use Rattle.slice_soundness.specs.Maps.{here}
use Rattle.slice_soundness.specs.Premises.{GoesOn, Calls, IsClean}
use Rattle.step_soundness.specs.Accessed.{IsWithin, IsAccessed}
use Rattle.step_soundness.proofs.QuietLaws.{instruction_quiet}
use Rattle.step_soundness.proofs.WriteLaws.{IsQuiet, AreQuiet}
use Rattle.call_soundness.specs.Maps.{IsListed, Drawn}
use Rattle.call_soundness.proofs.ExternLaws.{extern_quiet}
use Rattle.call_soundness.proofs.RowLaws.{each_row, calling_row}
use Rattle.call_soundness.proofs.ThingLaws.{tail_is}
use Rattle.access_facts.specs.Sets.{calls, slots_written, accesses_written, slot_reach, write_reaches}
use Rattle.access_facts.specs.Flow.{next_of}
use Rattle.graph_soundness.specs.Drawn.{map_drawn, drawn_of, number_in}
use Rattle.graph_soundness.specs.Reached.{IsWrittenBy, MayWrite, goes_on_from}
use Rattle.graph_soundness.proofs.GraphLaws.{step_there, goes_there}
use Rattle.graph_soundness.proofs.MoveLaws.{a_call, slot_is, allocs_are, stays_or_ends, answers_end, call_grown, call_bytes, called_to}
use Rattle.graph_soundness.proofs.ReachLaws.{each_written}
use Rattle.graph_soundness.proofs.SpotLaws.{thing_spot, spot_region, spot_base, owner_spot}
use Rattle.graph_soundness.proofs.StepReads.{known_here, content_of_instruction, content_of_extern, executed_here, answered_here, answer_here, instruction_writes}

-- -- Something owns what is accessed

pub record IsOwned (s : State) (byte : ℕ) : Type 0 where
  pub thing : Thing
  pub is_in : IsIn (world_of s) thing
  pub owns : Owns s thing byte

module _ (image : Image) (lane p : ℕ) (a : AbsState) (s : State) (known : IsKnown image lane a p s) (byte : ℕ) where
  near_owned : (v : Values) (l : Option ℕ) → IsQuiet a p v l → IsWithin lane s v l byte → IsOwned s byte
  near_owned v None quiet h = absurd quiet
  near_owned v (Some len) quiet h =
      let found = one_owned lane s h.at h.count (resolve a p v len).entries (resolved_bytes image lane a p s v h.at h.count len known h.range quiet.0) in
      let at = found.2 in
      record { thing = at.thing; is_in = at.is_in; owns = subst (Owns s at.thing) (sym h.is) (at.owned h.distance h.near) }

  pub accessed_owned : (xs : List Access) → AreQuiet a p xs → IsAccessed lane s xs byte → IsOwned s byte
  accessed_owned [] quiet h = absurd h
  accessed_owned (x ∷ xs) quiet (inl h) = near_owned x.addr x.len quiet.0 h
  accessed_owned (x ∷ xs) quiet (inr h) = accessed_owned xs quiet.1 h

-- -- It owns it still, after a step that calls nothing

pub record KeepsOwner (lane : ℕ) (t : State) (byte : ℕ) (spot : Spot) : Type 0 where
  pub thing : Thing
  pub is_in : IsIn (world_of t) thing
  pub owns : Owns t thing byte
  pub is : thing_spot lane thing ≡ spot

module _ (image : Image) (settings : Settings) (lane : ℕ) (o : Occurrence Act) (byte : ℕ) (slot : o.after.slot ≡ o.before.slot) (more : List Allocation) (allocs : o.after.allocs ≡ o.before.allocs ++ more)
    (kept : step_forgets o (AtByte byte) ≡ false) where
  of_ended : (gives : GivesUp (machine image settings) o) (newer : List Activation) (x : Activation) (older : List Activation) → o.before.activations ≡ newer ++ (x ∷ older) → Owns o.before (ActivationAt newer x older) byte
      → KeepsOwner lane o.after byte (thing_spot lane (ActivationAt newer x older))
  of_ended gives [] x older e own =
      let split : x ∷ older ≡ gives.ending ∷ gives.parent ∷ gives.older = sym e ∙ gives.were in
      let tail : older ≡ gives.parent ∷ gives.older = tail_is x gives.ending older (gives.parent ∷ gives.older) split in
      let base : x.base ≡ gives.ending.base = base_same x gives.ending older (gives.parent ∷ gives.older) split in
      let low : byte < x.base + 4 = subst (EndsAbove byte x) tail own.2 in
      absurd (true≢false (sym (gives.given byte own.0 (subst (λ b. byte < b + 4) base low)) ∙ kept))
    where
      base_same : (y z : Activation) (ys zs : List Activation) → y ∷ ys ≡ z ∷ zs → y.base ≡ z.base
      base_same y z ys zs e = let same : y ≡ z = cc in ap (λ (w : Activation). w.base) same
  of_ended gives (y ∷ newer) x older e own =
      record {
        thing = ActivationAt newer x older;
        is_in = gives.are ∙ sym (tail_is y gives.ending (newer ++ (x ∷ older)) (gives.parent ∷ gives.older) (sym e ∙ gives.were));
        owns = (subst (λ k. is_in_stack k byte ≡ true) (sym slot) own.0, own.1.1, own.2);
        is = refl;
      }

  pub owner_kept : (o.after.activations ≡ o.before.activations) ⊎ GivesUp (machine image settings) o → (u : Thing) → IsIn (world_of o.before) u → Owns o.before u byte → KeepsOwner lane o.after byte (thing_spot lane u)
  owner_kept how TheImage is_in own = record { thing = TheImage; is_in = tt; owns = own; is = refl }
  owner_kept how (BlockAt before x later) is_in own =
      record {
        thing = BlockAt before x (later ++ more);
        is_in = (allocs ∙ ap (λ xs. xs ++ more) is_in.0 ∙ append_assoc before (x ∷ later) more, is_in.1);
        owns = own;
        is = refl;
      }
  owner_kept (inl same) (ActivationAt newer x older) is_in own =
      record { thing = ActivationAt newer x older; is_in = same ∙ is_in; owns = (subst (λ k. is_in_stack k byte ≡ true) (sym slot) own.0, own.1, own.2); is = refl }
  owner_kept (inr gives) (ActivationAt newer x older) is_in own = of_ended gives newer x older is_in own

-- -- A call's targets

listed_back : {A B : Type 0} (f : A → B) (y : B) (xs : List A) → IsListed y (map f xs) → (x : A) × IsListed x xs × (f x ≡ y)
listed_back f y [] h = absurd h
listed_back f y (x ∷ xs) (inl e) = (x, inl refl, e)
listed_back f y (x ∷ xs) (inr h) = let found = listed_back f y xs h in (found.0, inr found.1, found.2)

slot_written : (t : ℕ) (offset : ℤ) → pos 0 ≤ℤ offset → offset <ℤ pos 4 → (ts : List ℕ) → IsListed t ts → IsWrittenBy (map slot_reach ts) (Frame t) offset
slot_written t offset low high [] h = absurd h
slot_written t offset low high (x ∷ ts) (inl e) =
    inl (inl (record { region_is = ap Frame e; from = pos 0; member = member_one (pos 0); low = low; high = omega (arith, ints) }))
slot_written t offset low high (x ∷ ts) (inr h) = inr (slot_written t offset low high ts h)

module _ (image : Image) (settings : Settings) (states : States) (is : IsImage image) (are : AreSettings (length image.externs) settings) (o : Occurrence Act)
    (goes : GoesOn (machine image settings) (map_drawn image settings states) o) where
  abbrev D : Drawn
  D = drawn_of image settings states

  abbrev pub n : Node
  n = here (map_drawn image settings states) o.before

  abbrev pub a : AbsState
  a = goes.comes.ready.value

  abbrev pub W : View
  W = view_of a states.cells n.context.proc

  abbrev pub g : Bool
  g = goes_on_from image settings states n a

  pub whole_after : IsWhole image o.after
  whole_after = (each_row image settings states D o is are goes).1

  -- where a byte lies after the occurrence, among what the node may write
  pub record LiesWritten (byte : ℕ) : Type 0 where
    pub spot : Spot
    pub lies : spot_of (key_of states.lane) o.after byte ≡ Some spot
    pub may : MayWrite image W (content_at image settings n.at) g (OfRegion spot.region (pos byte -ℤ pos spot.base))

  -- by the thing that owned it before
  module _ (byte : ℕ) (u : Thing) (slot : o.after.slot ≡ o.before.slot) (k : KeepsOwner states.lane o.after byte (thing_spot states.lane u))
      (may : MayWrite image W (content_at image settings n.at) g (OfRegion (home (region_of states.lane u)) (pos byte -ℤ pos (base_of u)))) where
    kept_written : LiesWritten byte
    kept_written =
        record {
          spot = thing_spot states.lane u;
          lies = owner_spot states.lane o.after byte image is whole_after k.thing k.is_in k.owns ∙ ap (λ x. Some x) k.is;
          may = subst (λ (b : ℕ). MayWrite image W (content_at image settings n.at) g (OfRegion (thing_spot states.lane u).region (pos byte -ℤ pos b))) (sym (spot_base states.lane u))
              (subst (λ r. MayWrite image W (content_at image settings n.at) g (OfRegion r (pos byte -ℤ pos (base_of u)))) (sym (spot_region states.lane u)) may);
        }

  abbrev kept_slot : o.after.slot ≡ o.before.slot
  kept_slot = slot_is image settings states D is are o goes

  owned_on : (byte : ℕ) → step_forgets o (AtByte byte) ≡ false → (o.after.activations ≡ o.before.activations) ⊎ GivesUp (machine image settings) o → (u : Thing) → IsIn (world_of o.before) u → Owns o.before u byte
      → KeepsOwner states.lane o.after byte (thing_spot states.lane u)
  owned_on byte kept how u is_in own = owner_kept image settings states.lane o byte kept_slot _ (allocs_are image settings states D is are o goes) kept how u is_in own

  -- -- What calls nothing

  plain_written : (i : Instr) → o.act ≡ Executes i → is_call i.op ≡ false → (byte : ℕ) → step_writes o (AtByte byte) ≡ true → step_forgets o (AtByte byte) ≡ false → LiesWritten byte
  unfolding write_reaches
  plain_written i act other byte written kept =
      let known = known_here image settings states D is are o goes.comes in
      let h = executed_here image settings states D is are o goes.comes i act in
      let quiet = instruction_quiet a states.cells n.context.proc image i h.quiet other in
      let acc = instruction_writes image states.lane n.context.proc a states.cells i o h byte written in
      let u = accessed_owned image states.lane n.context.proc a o.before known byte (writes i.op a i) quiet acc in
      let by = each_written image states.lane n.context.proc a o.before known byte u.thing u.is_in u.owns (writes i.op a i) quiet acc in
      kept_written byte u.thing kept_slot (owned_on byte kept (stays_or_ends image settings states D is are o goes i act other) u.thing u.is_in u.owns)
      (subst (λ c. IsWrittenBy (write_reaches image W c g) (home (region_of states.lane u.thing)) (pos byte -ℤ pos (base_of u.thing))) (sym (content_of_instruction image settings states D is are o goes.comes i act))
      (subst (λ b. IsWrittenBy (cond (b && g) (slots_written image W (Instruction i)) (accesses_written W (Instruction i))) (home (region_of states.lane u.thing)) (pos byte -ℤ pos (base_of u.thing))) (sym other) by))

  answer_written : (at : ℕ) (k : Kind) → o.act ≡ Answers at k → (byte : ℕ) → step_writes o (AtByte byte) ≡ true → step_forgets o (AtByte byte) ≡ false → LiesWritten byte
  unfolding write_reaches
  answer_written at k act byte written kept =
      let known = known_here image settings states D is are o goes.comes in
      let h = answered_here image settings states D is are o goes.comes at k act in
      let quiet = extern_quiet image a n.context.proc states.cells k h.quiet in
      let acc = (answer_here image settings states D is are o goes.comes at k act).writes byte written in
      let u = accessed_owned image states.lane n.context.proc a o.before known byte (extern_writes W k) quiet acc in
      let by = each_written image states.lane n.context.proc a o.before known byte u.thing u.is_in u.owns (extern_writes W k) quiet acc in
      kept_written byte u.thing kept_slot (owned_on byte kept (inr (answers_end image settings states D is are o goes at k act)) u.thing u.is_in u.owns)
      (subst (λ c. IsWrittenBy (write_reaches image W c g) (home (region_of states.lane u.thing)) (pos byte -ℤ pos (base_of u.thing))) (sym (content_of_extern image settings states D is are o goes.comes at k act)) by)

  -- -- A call

  in_called : (i : Instr) (y : Placed) (offset : Option ℤ) → IsListed y (called_at image states.lane W i n offset) → (t : ℕ) × IsListed t (followed image W i.dst) × (y.node.at ≡ t)
  in_called i y None h = absurd h
  in_called i y (Some offset) h = by (int_le offset (pos 0)) h
    where
      by : (b : Bool) → IsListed y (cond b (called_each states.lane W i n offset (followed image W i.dst)) []) → (t : ℕ) × IsListed t (followed image W i.dst) × (y.node.at ≡ t)
      by true h = let found = listed_back _ y (followed image W i.dst) h in (found.0, found.1, ap (λ (x : Placed). x.node.at) (sym found.2))
      by false h = absurd h

  call_successors : (i : Instr) → o.act ≡ Executes i → i.op ≡ op.Call → successors image settings states n a ≡ called_at image states.lane W i n (stack_offset n.context.proc a)
  unfolding successors successors_by instruction_successors
  call_successors i act calls =
      ap (λ c. successors_by c image settings states n a) (content_of_instruction image settings states D is are o goes.comes i act) ∙ ap (λ c. instruction_successors c image settings states n i a) calls

  ends_any : (byte : ℕ) (x : Activation) (older : List Activation) → byte < x.base + 4 → EndsAbove byte x older
  ends_any byte x [] less = tt
  ends_any byte x (y ∷ older) less = less

  head_is : (x y : Activation) (xs ys : List Activation) → x ∷ xs ≡ y ∷ ys → x ≡ y
  head_is x y xs ys e = cc

  module _ (clean : IsClean (machine image settings) (map_drawn image settings states)) (i : Instr) (act : o.act ≡ Executes i) (calls_ : i.op ≡ op.Call) where
    abbrev new : Activation
    new = called_to image settings states D is are o goes i act calls_

    grown : o.after.activations ≡ new ∷ o.before.activations
    grown = call_grown image settings states D is are o goes i act calls_

    row : Calls (machine image settings) (map_drawn image settings states) o
    row = (calling_row image settings states D o i is goes act calls_).0

    pub callee_is : new.callee ≡ o.after.eip
    callee_is = ap (λ (x : Activation). x.callee) (head_is new row.new o.before.activations o.before.activations (sym grown ∙ row.grown)) ∙ row.callee

    abbrev to_node : Node
    to_node = record { context = pushed states.lane o.before.eip row.new.callee n.context; at = o.after.eip }

    pub target_listed : IsListed new.callee (followed image W i.dst)
    target_listed =
        let leads = row.leads.is_successor in
        let same : leads.state ≡ a = same_Some leads.state a (sym leads.has_state ∙ goes.comes.ready.has_value) in
        let listed : IsListed (at_node to_node row.leads.next) (successors image settings states n a) = subst (λ s. IsListed (at_node to_node row.leads.next) (successors image settings states n s)) same leads.listed in
        let found = in_called i (at_node to_node row.leads.next) (stack_offset n.context.proc a) (subst (IsListed (at_node to_node row.leads.next)) (call_successors i act calls_) listed) in
        subst (λ t. IsListed t (followed image W i.dst)) (sym found.2 ∙ sym callee_is) found.1

    pub goes_on : g ≡ true
    goes_on =
        let there = clean.closed n to_node a row.leads.next goes.comes.ready.has_value row.leads.is_successor in
        ap not (goes_there image settings states (next_of image settings states (at_node n a)) (number_in states.placed to_node)
        (step_there image settings states n to_node a there.0 row.leads.next goes.comes.ready.has_value row.leads.is_successor there.1))

    module _ (byte : ℕ) (written : step_writes o (AtByte byte) ≡ true) where
      near : (new.base ≤ byte) × (byte < new.base + 4)
      near = call_bytes image settings states D is are o goes i act calls_ byte written

      in_stack : is_in_stack o.after.slot byte ≡ true
      in_stack =
          let bounds = base_bounds image o.after.memory o.after.slot new o.before.activations (subst (AreActivations image o.after.memory o.after.slot) grown whole_after.activations) in
          let high : new.base ≤ o.after.slot = bounds.0 in
          let low : o.after.slot ≤ new.base + 2 ^ 20 = bounds.1 in
          let from : new.base ≤ byte = near.0 in
          let less : byte < new.base + 4 = near.1 in
          and_from (nat_le (o.after.slot - 2 ^ 20) byte) (nat_lt byte (o.after.slot + 2 ^ 16)) (le-leb (o.after.slot - 2 ^ 20) byte (omega (arith, low, from))) (lt-ltb byte (o.after.slot + 2 ^ 16) (omega (arith, high, less)))

      slot_lies : LiesWritten byte
      unfolding write_reaches
      slot_lies =
          let from : new.base ≤ byte = near.0 in
          let less : byte < new.base + 4 = near.1 in
          let slot : IsWrittenBy (slots_written image W (Instruction i)) (Frame new.callee) (pos byte -ℤ pos new.base) =
          slot_written new.callee (pos byte -ℤ pos new.base) (omega (arith, ints)) (omega (arith, ints)) (followed image W i.dst) target_listed in
          let called : is_call i.op ≡ true = ap is_call calls_ in
          record {
            spot = thing_spot states.lane (ActivationAt [] new o.before.activations);
            lies = owner_spot states.lane o.after byte image is whole_after (ActivationAt [] new o.before.activations) grown (in_stack, tt, ends_any byte new o.before.activations near.1);
            may = subst (λ c. IsWrittenBy (write_reaches image W c g) (Frame new.callee) (pos byte -ℤ pos new.base)) (sym (content_of_instruction image settings states D is are o goes.comes i act))
                (subst (λ b. IsWrittenBy (cond b (slots_written image W (Instruction i)) (accesses_written W (Instruction i))) (Frame new.callee) (pos byte -ℤ pos new.base)) (sym ((λ j. called j && goes_on j))) slot);
          }

  -- -- All

  pub write_covered : IsClean (machine image settings) (map_drawn image settings states) → (byte : ℕ) → step_writes o (AtByte byte) ≡ true → step_forgets o (AtByte byte) ≡ false → LiesWritten byte
  write_covered clean byte written kept = by o.act refl
    where
      by_call : (i : Instr) → o.act ≡ Executes i → (b : Bool) → is_call i.op ≡ b → LiesWritten byte
      by_call i act true e = slot_lies clean i act (a_call i.op e) byte written
      by_call i act false e = plain_written i act e byte written kept

      by : (c : Act) → o.act ≡ c → LiesWritten byte
      by (Executes i) act = by_call i act (is_call i.op) refl
      by (Answers at k) act = answer_written at k act byte written kept
