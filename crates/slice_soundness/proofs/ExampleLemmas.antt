-- The premises hold of the example's machine and map: where its acts come, and what they leave.
use Rattle.std.proofs.Common.{◌≡◌, ◌⊎◌, inl, inr, ℕ, ◌+◌, List, [], ◌∷◌, length, refl, sym, ap, subst, ◌∙◌, arith}
use Rattle.std.specs.Prelude.{◌==◌, ◌-◌, ◌%◌, if◌then◌else◌, Bool, true, false, Some, None}
use Rattle.std.proofs.lemmas.Option.{none-some}
use Rattle.std.proofs.lemmas.Bool.{false≢true}
use Rattle.image_map.specs.declared.region.Activation.{Activation}
use Rattle.ia32_semantics.specs.State.{State, pending, put}
use Rattle.ia32_semantics.specs.Runs.{OccurrenceOf}
use Rattle.call_strings.specs.declared.context.Node.{Node}
use Rattle.slice_soundness.specs.Nodes.{node_at}
use Rattle.slice_soundness.specs.Maps.{here}
use Rattle.slice_soundness.specs.Premises.{MachineLaws, AbstractSteps, Comes, GoesOn, LeadsTo, Stays, Row}
use Rattle.slice_soundness.specs.Tables.{value_in}
use Rattle.slice_soundness.specs.Example.{Act, calls, stops, stores, chooses, loads, returns, address_of, inner_base, entry_activation, inner_activation, byte_or_zero, all_but_newest, done, is_last, is_branch, machine, Known, outside, inside, activations_of, esp_of, StandsFor, IsWhole, node_in, rows, successors_at, IsSuccessor, example}

-- -- The machine

pub act_at : ℕ → Act
act_at at = if at == 10 then calls else (if at == 11 then stops else (if at == 20 then stores else (if at == 21 then chooses else (if at == 22 then loads else returns))))

pub act_is : (act : Act) → act_at (address_of act) ≡ act
unfolding act_at
act_is calls = refl
act_is stops = refl
act_is stores = refl
act_is chooses = refl
act_is loads = refl
act_is returns = refl

goes_on : (act : Act) → is_branch act ≡ true → is_last act ≡ false
goes_on calls branch = refl
goes_on stops branch = absurd (false≢true branch)
goes_on stores branch = refl
goes_on chooses branch = refl
goes_on loads branch = refl
goes_on returns branch = refl

pub machine_laws : MachineLaws machine
machine_laws = record {
  starts_at = λ s start. start.at;
  starts_in = λ s start. (entry_activation, start.activations, refl);
  one_act = λ o p one two same. sym (act_is o.act) ∙ ap act_at (sym one.at ∙ same ∙ two.at) ∙ act_is p.act;
  goes_on = λ o happens branch. goes_on o.act branch;
}

-- -- Where an act comes

abbrev pub known_at : Act → Known
known_at calls = outside
known_at stops = outside
known_at stores = inside
known_at chooses = inside
known_at loads = inside
known_at returns = inside

-- which procedure runs where an act comes, and its node
pub record Placed (act : Act) (s : State) : Type 0 where
  pub activations : s.activations ≡ activations_of (known_at act)
  pub esp : s.registers 4 ≡ esp_of (known_at act)
  pub node : here example s ≡ node_in (known_at act) (address_of act)

node_of_known : (known : Known) (at : ℕ) → node_at 1 (activations_of known) at ≡ node_in known at
unfolding pending
node_of_known outside at = refl
node_of_known inside at = refl

node_by : (known : Known) (s : State) (at : ℕ) → s.activations ≡ activations_of known → s.eip ≡ at → here example s ≡ node_in known at
node_by known s at same here_is = (λ i. node_at 1 (same i) (here_is i)) ∙ node_of_known known at

nowhere : (known other : Known) (at : ℕ) → value_in rows (node_in known at) ≡ None → value_in rows (node_in known at) ≡ Some other → ⊥
nowhere known other at none some = none-some other (sym none ∙ some)

placed_by : (known : Known) (act : Act) (s : State) → s.eip ≡ address_of act → s.activations ≡ activations_of known → s.registers 4 ≡ esp_of known → value_in rows (node_in known (address_of act)) ≡ Some known → Placed act s
unfolding value_in rows
placed_by outside calls s at same esp is = record { activations = same; esp = esp; node = node_by outside s 10 same at }
placed_by outside stops s at same esp is = record { activations = same; esp = esp; node = node_by outside s 11 same at }
placed_by outside stores s at same esp is = absurd (none-some outside is)
placed_by outside chooses s at same esp is = absurd (none-some outside is)
placed_by outside loads s at same esp is = absurd (none-some outside is)
placed_by outside returns s at same esp is = absurd (none-some outside is)
placed_by inside calls s at same esp is = absurd (none-some inside is)
placed_by inside stops s at same esp is = absurd (none-some inside is)
placed_by inside stores s at same esp is = record { activations = same; esp = esp; node = node_by inside s 20 same at }
placed_by inside chooses s at same esp is = record { activations = same; esp = esp; node = node_by inside s 21 same at }
placed_by inside loads s at same esp is = record { activations = same; esp = esp; node = node_by inside s 22 same at }
placed_by inside returns s at same esp is = record { activations = same; esp = esp; node = node_by inside s 23 same at }

pub placed : (act : Act) (o : OccurrenceOf machine) → o.act ≡ act → Comes machine example o → Placed act o.before
placed act o is comes =
    let r = comes.ready in
    let at : o.before.eip ≡ address_of act = comes.happens.at ∙ ap address_of is in
    placed_by r.value act o.before at r.stands.0 r.stands.1
    (subst (λ n. value_in rows n ≡ Some r.value) (node_by r.value o.before (address_of act) r.stands.0 at) r.has_value)

-- -- What an act leaves

one_is_not_two : activations_of outside ≡ activations_of inside → ⊥
one_is_not_two same = let e : 1 ≡ 2 = ap {A = List Activation} {B = ℕ} length same in absurd (omega (arith, e))

pub after_is : (act : Act) (o : OccurrenceOf machine) → o.act ≡ act → Comes machine example o → o.after ≡ done act o.before
after_is act o is comes = comes.happens.after ∙ ap (λ a. done a o.before) is

-- the abstract state of a successor stands for the state after
leads_by : (n to n' to' : Node) (next : Known) (s : State) → n ≡ n' → to ≡ to' → IsSuccessor n' to' next → s.activations ≡ activations_of next → s.registers 4 ≡ esp_of next → LeadsTo example n to s
leads_by n to n' to' next s from there is activations esp = record {
  next = next;
  is_successor = subst (λ a. IsSuccessor a to next) (sym from) (subst (λ b. IsSuccessor n' b next) (sym there) is);
  stands = (activations, esp);
}

moved_node : (n : Node) (known : Known) (at to to' : ℕ) → n ≡ node_in known at → to ≡ to' → record n { at = to } ≡ node_in known to'
moved_node n known at to to' is there = λ i. record (is i) { at = there i }

-- an act that calls nothing and doesn't return
stays_by : (act : Act) (o : OccurrenceOf machine) (to : ℕ) → Placed act o.before → o.after.activations ≡ o.before.activations → o.after.registers 4 ≡ o.before.registers 4 → o.after.eip ≡ to
    → IsSuccessor (node_in (known_at act) (address_of act)) (node_in (known_at act) to) (known_at act) → Stays machine example o
stays_by act o to p same esp there is = record {
  same = same;
  leads = leads_by (here example o.before) (record (here example o.before) { at = o.after.eip }) (node_in (known_at act) (address_of act)) (node_in (known_at act) to) (known_at act) o.after
      p.node (moved_node (here example o.before) (known_at act) (address_of act) o.after.eip to p.node there) is (same ∙ p.activations) (esp ∙ p.esp);
}

by_flag : (o : OccurrenceOf machine) → Placed chooses o.before → (flag : Bool) → o.after.activations ≡ o.before.activations → o.after.registers 4 ≡ o.before.registers 4 → o.after.eip ≡ (if flag then 23 else 22) → Stays machine example o
unfolding value_in rows successors_at
by_flag o p true same esp there = stays_by chooses o 23 p same esp there (record { known = inside; is_node = refl; among = (1, omega arith, refl) })
by_flag o p false same esp there = stays_by chooses o 22 p same esp there (record { known = inside; is_node = refl; among = (0, omega arith, refl) })

-- the slot holds the place after the call
slot_by : (s : State) → (s.activations ≡ activations_of outside) ⊎ ((s.activations ≡ activations_of inside) × (s.memory inner_base ≡ Some 11)) → s.activations ≡ activations_of inside → s.memory inner_base ≡ Some 11
slot_by s (inl other) same = absurd (one_is_not_two (sym other ∙ same))
slot_by s (inr holds) same = holds.1

slot_is : (s : State) → IsWhole s → s.activations ≡ activations_of inside → s.memory inner_base ≡ Some 11
slot_is s whole same = slot_by s whole.holds same

slot_done : (act : Act) (s : State) → (done act s).slot ≡ s.slot
slot_done calls s = refl
slot_done stops s = refl
slot_done stores s = refl
slot_done chooses s = refl
slot_done loads s = refl
slot_done returns s = refl

-- the stack stays where it is
pub slot_after : (o : OccurrenceOf machine) → Comes machine example o → o.after.slot ≡ o.before.slot
slot_after o comes = ap (λ s. s.slot) comes.happens.after ∙ slot_done o.act o.before

returned : (o : OccurrenceOf machine) → Comes machine example o → Placed returns o.before → o.after ≡ done returns o.before → o.after.eip ≡ 11
returned o comes p after =
    ap (λ s. s.eip) after ∙ ap (λ esp. byte_or_zero (o.before.memory esp)) p.esp ∙ ap byte_or_zero (slot_is o.before comes.ready.whole p.activations)

row_of : (act : Act) (o : OccurrenceOf machine) → o.act ≡ act → GoesOn machine example o → Row machine example o
unfolding value_in rows successors_at
row_of calls o is goes =
    let p = placed calls o is goes.comes in
    let after = after_is calls o is goes.comes in
    let at : o.before.eip ≡ 10 = goes.comes.happens.at ∙ ap address_of is in
    let there : o.after.eip ≡ 20 = ap (λ s. s.eip) after in
    inr (inl (record {
      new = inner_activation;
      grown = ap (λ s. s.activations) after;
      site = sym at;
      callee = sym there;
      target = (p.node, refl);
      leads = leads_by (here example o.before) _ (node_in outside 10) (node_in inside 20) inside o.after
          p.node
          (λ i. record { context = record { proc = 20; sites = at i ∷ [] }; at = there i })
          (record { known = outside; is_node = refl; among = (0, omega arith, refl) })
          (ap (λ s. s.activations) after ∙ ap (λ activations. inner_activation ∷ activations) p.activations)
          (ap (λ s. s.registers 4) after ∙ ap (λ esp. esp - 4) p.esp);
    }))
row_of stops o is goes = absurd (false≢true (sym goes.not_last ∙ ap is_last is))
row_of stores o is goes =
    let p = placed stores o is goes.comes in
    let after = after_is stores o is goes.comes in
    inl (stays_by stores o 21 p (ap (λ s. s.activations) after) (ap (λ s. s.registers 4) after) (ap (λ s. s.eip) after)
    (record { known = inside; is_node = refl; among = (0, omega arith, refl) }))
row_of chooses o is goes =
    let p = placed chooses o is goes.comes in
    let after = after_is chooses o is goes.comes in
    inl (by_flag o p (o.before.flags 2) (ap (λ s. s.activations) after) (ap (λ s. s.registers 4) after) (ap (λ s. s.eip) after))
row_of loads o is goes =
    let p = placed loads o is goes.comes in
    let after = after_is loads o is goes.comes in
    inl (stays_by loads o 23 p (ap (λ s. s.activations) after) (ap (λ s. s.registers 4) after) (ap (λ s. s.eip) after)
    (record { known = inside; is_node = refl; among = (0, omega arith, refl) }))
row_of returns o is goes =
    let p = placed returns o is goes.comes in
    let after = after_is returns o is goes.comes in
    let there = returned o goes.comes p after in
    inr (inr (record {
      ending = inner_activation;
      parent = entry_activation;
      older = [];
      were = p.activations;
      are = ap (λ s. s.activations) after ∙ ap all_but_newest p.activations;
      place = there;
      next = outside;
      stands = (ap (λ s. s.activations) after ∙ ap all_but_newest p.activations, ap (λ s. s.registers 4) after ∙ ap (λ esp. esp + 4) p.esp);
      leads = λ call found.
          subst (λ n. IsSuccessor n (record call { at = o.after.eip }) outside) (sym p.node)
          (subst (λ n. IsSuccessor (node_in inside 23) n outside) (sym ((λ i. record (found.is_target.0 i) { at = there i })))
          (record { known = inside; is_node = refl; among = (0, omega arith, refl) }));
    }))

holds_of : (act : Act) (o : OccurrenceOf machine) → o.act ≡ act → GoesOn machine example o → (o.after.activations ≡ activations_of outside) ⊎ ((o.after.activations ≡ activations_of inside) × (o.after.memory inner_base ≡ Some 11))
holds_of calls o is goes =
    let p = placed calls o is goes.comes in
    let after = after_is calls o is goes.comes in
    inr (
      ap (λ s. s.activations) after ∙ ap (λ activations. inner_activation ∷ activations) p.activations,
      ap (λ s. s.memory inner_base) after ∙ ap (λ esp. put o.before.memory (esp - 4) (Some 11) inner_base) p.esp,
    )
holds_of stops o is goes = absurd (false≢true (sym goes.not_last ∙ ap is_last is))
holds_of stores o is goes =
    let p = placed stores o is goes.comes in
    let after = after_is stores o is goes.comes in
    inr (
      ap (λ s. s.activations) after ∙ p.activations,
      ap (λ s. s.memory inner_base) after ∙ ap (λ esp. put o.before.memory (esp - 1) (Some (o.before.registers 1 % 256)) inner_base) p.esp ∙ slot_is o.before goes.comes.ready.whole p.activations,
    )
holds_of chooses o is goes =
    let after = after_is chooses o is goes.comes in
    let p = placed chooses o is goes.comes in
    inr (ap (λ s. s.activations) after ∙ p.activations, ap (λ s. s.memory inner_base) after ∙ slot_is o.before goes.comes.ready.whole p.activations)
holds_of loads o is goes =
    let after = after_is loads o is goes.comes in
    let p = placed loads o is goes.comes in
    inr (ap (λ s. s.activations) after ∙ p.activations, ap (λ s. s.memory inner_base) after ∙ slot_is o.before goes.comes.ready.whole p.activations)
holds_of returns o is goes =
    let p = placed returns o is goes.comes in
    let after = after_is returns o is goes.comes in
    inl (ap (λ s. s.activations) after ∙ ap all_but_newest p.activations)

pub abstract_steps : AbstractSteps machine example
abstract_steps = record {
  start_whole = λ s start. record { slot = start.slot; holds = inl start.activations };
  start_stands = λ s start. (start.activations, start.esp);
  below = λ a b s under canonical whole stands. subst (λ known. StandsFor known s) under stands;
  whole = λ o goes. record { slot = slot_after o goes.comes ∙ goes.comes.ready.whole.slot; holds = holds_of o.act o refl goes };
  row = λ o goes. row_of o.act o refl goes;
}
