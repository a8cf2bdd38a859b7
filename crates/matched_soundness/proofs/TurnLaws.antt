-- What a step makes of the calls that are pending.
use Rattle.std.proofs.Common.{◌≡◌, inl, inr, ℕ, ◌+◌, true, false, cond, List, [], ◌∷◌, length, Some, refl, sym, ap, subst, ◌∙◌, arith}
use Rattle.std.specs.Prelude.{Contains, slice_get}
use Rattle.std.proofs.lemmas.Bool.{true≢false}
use Rattle.std.proofs.lemmas.Cmp.{on_equiv, nat_list_eq_equiv}
use Rattle.std.proofs.lemmas.Option.{none-some, same_Some}
use Rattle.image_map.specs.declared.image.Image.{Image}
use Rattle.image_map.specs.declared.region.Activation.{Activation}
use Rattle.image_map.specs.declared.region.Kind.{Kind}
use Rattle.image_map.specs.declared.region.Kind.TheVariants as kind
use Rattle.image_map.specs.declared.region.Settings.{Settings}
use Rattle.image_map.specs.CallModel.{AreSettings}
use Rattle.image_map.specs.Whole.{IsImage}
use Rattle.ia32_types.specs.declared.Instr.{Instr}
use Rattle.ia32_types.specs.declared.Op.{Op}
use Rattle.ia32_types.specs.declared.Op.TheVariants as op
use Rattle.ia32_semantics.specs.Externs as externs
use Rattle.ia32_semantics.specs.Ia32.{machine}
use Rattle.ia32_semantics.specs.Machine.{Occurrence}
use Rattle.ia32_semantics.specs.Reading.{outcome}
use Rattle.ia32_semantics.specs.Rows as rows
use Rattle.ia32_semantics.specs.Rows.{next_place}
use Rattle.ia32_semantics.specs.Step.{Act, Executes, Answers, IsPlaceAfter, act_row, act_completes, operation_completes}
use Rattle.matched_calls.specs.declared.kinds.StepKinds.{StepKinds}
use Rattle.matched_calls.specs.Matched.{Turns}
use Rattle.call_strings.specs.declared.context.Node.{Node}
use Rattle.call_strings.specs.Nodes.{same_node, numbers_of as node_numbers}
use Rattle.alocs.proofs.MemberLaws.{contains-none}
use Rattle.abs_semantics.specs.States.{AbsState}
use Rattle.step_soundness.specs.Steps.{is_plain}
use Rattle.abs_steps.specs.Places.{Instruction, content_at}
use Rattle.abs_steps.specs.Successors.{Placed, States, at_node, is_call, moved_to, place_behind}
use Rattle.slice_soundness.specs.Laws.{Onward}
use Rattle.slice_soundness.specs.Maps.{here, AreHome}
use Rattle.slice_soundness.specs.Nodes.{node_at}
use Rattle.slice_soundness.specs.Premises.{Follows, GoesOn, Returns}
use Rattle.slice_soundness.proofs.StateLemmas.{ready_after}
use Rattle.call_soundness.specs.Externs.{returns_from}
use Rattle.call_soundness.specs.Laws.{is_staying}
use Rattle.call_soundness.proofs.ContentLaws.{fetched_stands}
use Rattle.call_soundness.proofs.RowLaws.{staying_row, calling_row, returning_row, answering_row}
use Rattle.access_facts.specs.Flow.{next_of}
use Rattle.access_facts.specs.Kinds.{is_ret, returns, callees_of, returned_to, place_after, step_kinds}
use Rattle.access_facts.specs.Next.{numbers_of}
use Rattle.access_facts.specs.Sets.{calls}
use Rattle.access_facts.proofs.MemberLemmas.{has_picked}
use Rattle.graph_soundness.specs.Drawn.{map_drawn, drawn_of, number_in}
use Rattle.graph_soundness.proofs.GraphLaws.{row_there, step_there}
use Rattle.graph_soundness.proofs.StepReads.{content_of_instruction, content_of_extern}
use Rattle.matched_soundness.proofs.KindLaws.{paired_has, paired_back}

-- The pending calls are those that began the newest activations: each is the node at which its activation was called.
abbrev pub ArePending : States → List ℕ → List Activation → Type 0
ArePending s [] xs = Unit {0}
ArePending s (c ∷ cs) [] = ⊥
ArePending s (c ∷ cs) (x ∷ xs) = (c ≡ number_in s.placed (node_at s.lane xs x.site)) × ArePending s cs xs

module _ (image : Image) (settings : Settings) (states : States) (is : IsImage image) (are : AreSettings (length image.externs) settings)
    (f : Follows (machine image settings) (map_drawn image settings states)) (o : Occurrence Act) (goes : GoesOn (machine image settings) (map_drawn image settings states) o) where
  abbrev n : Node
  n = here (map_drawn image settings states) o.before

  abbrev to : Node
  to = here (map_drawn image settings states) o.after

  abbrev a : AbsState
  a = goes.comes.ready.value

  abbrev K : StepKinds
  K = step_kinds image settings states

  abbrev first : ℕ
  first = number_in states.placed n

  abbrev next : ℕ
  next = number_in states.placed to

  on : Onward (machine image settings) (map_drawn image settings states) o
  on = ready_after (machine image settings) (map_drawn image settings states) f o goes

  next_there : Contains (next_of image settings states (at_node n a)) next
  next_there = step_there image settings states n to a on.ready.value on.next goes.comes.ready.has_value on.is_successor on.ready.has_value

  row_here : slice_get states.placed first ≡ Some (at_node n a)
  row_here = row_there states.placed n a goes.comes.ready.has_value

  from_zero : (k : ℕ) → 0 + k ≡ k
  from_zero k = omega arith

  called : calls (content_at image settings n.at) ≡ true → Contains K.calls (first, next)
  unfolding step_kinds callees_of
  called e =
      subst (λ k. Contains K.calls (k, next)) (from_zero first)
      (paired_has (callees_of image settings states) 0 first next (at_node n a) states.placed row_here (subst (λ b. Contains (cond b (next_of image settings states (at_node n a)) []) next) (sym e) next_there))

  returned : returns (content_at image settings n.at) ≡ true → Contains K.returns (first, next)
  unfolding step_kinds returned_to
  returned e =
      subst (λ k. Contains K.returns (k, next)) (from_zero first)
      (paired_has (returned_to image settings states) 0 first next (at_node n a) states.placed row_here (subst (λ b. Contains (cond b (next_of image settings states (at_node n a)) []) next) (sym e) next_there))

  -- what has the number of the node is the node with its state
  same_row : (k : ℕ) (x : Placed) → first ≡ 0 + k → slice_get states.placed k ≡ Some x → x ≡ at_node n a
  same_row k x e there = same_Some x (at_node n a) (sym there ∙ ap (slice_get states.placed) (sym (e ∙ from_zero k)) ∙ row_here)

  not_called : calls (content_at image settings n.at) ≡ false → ¬ Contains K.calls (first, next)
  unfolding step_kinds callees_of
  not_called e has =
      let told = paired_back (callees_of image settings states) 0 states.placed (first, next) has in
      contains-none next
      (subst (λ b. Contains (cond b (next_of image settings states (at_node n a)) []) next) e
      (subst (λ x. Contains (callees_of image settings states x) next) (same_row told.number told.thing told.is told.there) told.tells_it))

  not_returned : returns (content_at image settings n.at) ≡ false → ¬ Contains K.returns (first, next)
  unfolding step_kinds returned_to
  not_returned e has =
      let told = paired_back (returned_to image settings states) 0 states.placed (first, next) has in
      contains-none next
      (subst (λ b. Contains (cond b (next_of image settings states (at_node n a)) []) next) e
      (subst (λ x. Contains (returned_to image settings states x) next) (same_row told.number told.thing told.is told.there) told.tells_it))

  -- -- Where a call comes back

  node_itself : (k : Node) → same_node k k ≡ true
  node_itself k = (on_equiv node_numbers nat_list_eq_equiv).refl k

  module _ (ending parent : Activation) (older : List Activation) (were : o.before.activations ≡ ending ∷ parent ∷ older) (are_after : o.after.activations ≡ parent ∷ older) (place : IsPlaceAfter image ending.site o.after.eip) where
    abbrev call_node : Node
    call_node = node_at states.lane (parent ∷ older) ending.site

    to_is : to ≡ moved_to (next_place place.call) call_node
    to_is = λ i. node_at states.lane (are_after i) (place.place_is i)

    comes_back : Contains (numbers_of (moved_to (next_place place.call) call_node) states.placed) next
    comes_back =
        subst (λ k. Contains (numbers_of k states.placed) next) to_is
        (subst (Contains (numbers_of to states.placed)) (from_zero next)
        (has_picked (λ (p : Placed). same_node to p.node) 0 next (at_node to on.ready.value) states.placed (row_there states.placed to on.ready.value on.ready.has_value) (node_itself to)))

    call_content : content_at image settings call_node.at ≡ Instruction place.call
    call_content = fetched_stands image settings ending.site place.call is place.fetched

    after_there : Contains K.after (number_in states.placed call_node, next)
    unfolding step_kinds place_after
    after_there =
        let homes : AreHome (map_drawn image settings states) (ending ∷ parent ∷ older) = subst (AreHome (map_drawn image settings states)) were goes.comes.ready.homes in
        let home = homes.0.is_node in
        subst (λ k. Contains K.after (k, next)) (from_zero (number_in states.placed call_node))
        (paired_has (place_after image settings states) 0 (number_in states.placed call_node) next (at_node call_node home.0) states.placed (row_there states.placed call_node home.0 home.1)
        (subst (λ c. Contains (cond (calls c) (numbers_of (moved_to (place_behind c) call_node) states.placed) []) next) (sym call_content)
        (subst (λ b. Contains (cond b (numbers_of (moved_to (next_place place.call) call_node) states.placed) []) next) (sym (ap is_call place.calls)) comes_back)))

  -- -- Turns

  pub record TurnsTo (pending : List ℕ) : Type 0 where
    pub left : List ℕ
    pub turns : Turns K first next pending left
    pub are_left : ArePending states left o.after.activations

  module _ (pending : List ℕ) (held : ArePending states pending o.before.activations) where
    turns_back : returns (content_at image settings n.at) ≡ true → Returns (machine image settings) (map_drawn image settings states) o → TurnsTo pending
    turns_back e row = by pending held
      where
        by : (cs : List ℕ) → ArePending states cs o.before.activations → TurnsTo cs
        by [] h = record { left = []; turns = inr (inl (returned e, refl)); are_left = tt }
        by (c ∷ cs) h =
            let split : ArePending states (c ∷ cs) (row.ending ∷ row.parent ∷ row.older) = subst (ArePending states (c ∷ cs)) row.were h in
            record {
              left = cs;
              turns = inr (inl (returned e, (subst (λ k. Contains K.after (k, next)) (sym split.0) (after_there row.ending row.parent row.older row.were row.are row.place), refl)));
              are_left = subst (ArePending states cs) (sym row.are) split.1;
            }

    instruction_turns : (i : Instr) → o.act ≡ Executes i → (c : Op) → i.op ≡ c → TurnsTo pending
    unfolding is_plain rows.row
    instruction_turns i act op.Call e =
        let row = (calling_row image settings states (drawn_of image settings states) o i is goes act e).0 in
        let content = content_of_instruction image settings states (drawn_of image settings states) is are o goes.comes i act in
        record {
          left = first ∷ pending;
          turns = inl (called (ap calls content ∙ ap is_call e), refl);
          are_left = subst (ArePending states (first ∷ pending)) (sym row.grown) (ap (λ site. number_in states.placed (node_at states.lane o.before.activations site)) (sym row.site), held);
        }
    instruction_turns i act op.Ret e =
        let content = content_of_instruction image settings states (drawn_of image settings states) is are o goes.comes i act in
        turns_back (ap returns content ∙ ap is_ret e) (returning_row image settings states (drawn_of image settings states) o i is goes act e).0
    instruction_turns i act op.Hlt e = absurd (true≢false (sym (ap (λ c. operation_completes c o) e) ∙ (sym (ap (λ x. act_completes x o) act) ∙ goes.not_last)))
    instruction_turns i act op.Int3 e =
        absurd (none-some _ (sym (ap (λ c. outcome (rows.row c i) o.before o.choices) e) ∙ ap (λ x. outcome (act_row x) o.before o.choices) (sym act) ∙ goes.comes.happens.step.row))
    instruction_turns i act op.Ud2 e =
        absurd (none-some _ (sym (ap (λ c. outcome (rows.row c i) o.before o.choices) e) ∙ ap (λ x. outcome (act_row x) o.before o.choices) (sym act) ∙ goes.comes.happens.step.row))
    instruction_turns i act _ e =
        let row = (staying_row image settings states (drawn_of image settings states) o i is goes act (ap is_staying e)).0 in
        let content = content_of_instruction image settings states (drawn_of image settings states) is are o goes.comes i act in
        record {
          left = pending;
          turns = inr (inr ((not_called (ap calls content ∙ ap is_call e), not_returned (ap returns content ∙ ap is_ret e)), refl));
          are_left = subst (ArePending states pending) (sym row.same) held;
        }

    from_extern : (at : ℕ) (k : Kind) → o.act ≡ Answers at k → returns_from k ≡ true → TurnsTo pending
    from_extern at k act back =
        turns_back (ap returns (content_of_extern image settings states (drawn_of image settings states) is are o goes.comes at k act))
        (answering_row image settings states (drawn_of image settings states) o at k is are goes act back).0

    answer_turns : (at : ℕ) (k : Kind) → o.act ≡ Answers at k → TurnsTo pending
    unfolding externs.extern_row
    answer_turns at kind.Stop act = absurd (true≢false (sym (ap (λ x. act_completes x o) act) ∙ goes.not_last))
    answer_turns at kind.Unknown act = absurd (none-some _ (ap (λ x. outcome (act_row x) o.before o.choices) (sym act) ∙ goes.comes.happens.step.row))
    answer_turns at (kind.Pure j) act = from_extern at (kind.Pure j) act refl
    answer_turns at (kind.Reader j) act = from_extern at (kind.Reader j) act refl
    answer_turns at kind.Alloc act = from_extern at kind.Alloc act refl
    answer_turns at (kind.Fills b l) act = from_extern at (kind.Fills b l) act refl

    -- a step of a run turns the pending calls
    pub each_turn : TurnsTo pending
    each_turn = by o.act refl
      where
        by : (c : Act) → o.act ≡ c → TurnsTo pending
        by (Executes i) e = instruction_turns i e i.op refl
        by (Answers at k) e = answer_turns at k e
