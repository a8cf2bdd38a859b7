-- Nodes, steps, branches and ends of the graph are those of the map.
use Rattle.std.proofs.Common.{◌≡◌, inl, inr, ℕ, zero, suc, ◌+◌, ◌==◌, ◌&&◌, Bool, true, false, cond, List, [], ◌∷◌, map, take, Option, Some, None, refl, sym, ap, subst, ◌∙◌, arith, eq-eqb}
use Rattle.std.specs.Prelude.{Contains, slice_get, IsTrue}
use Rattle.std.specs.List.{list_any}
use Rattle.std.proofs.lemmas.Bool.{false≢true, and_parts, and_from, or_left, or_right}
use Rattle.std.proofs.lemmas.Cmp.{on_equiv, nat_list_eq_equiv}
use Rattle.std.proofs.lemmas.Option.{none-some, same_Some}
use Rattle.image_map.specs.declared.image.Image.{Image}
use Rattle.image_map.specs.declared.region.Activation.{Activation}
use Rattle.image_map.specs.declared.region.Kind.{Kind}
use Rattle.image_map.specs.declared.region.Kind.TheVariants as kind
use Rattle.image_map.specs.declared.region.Settings.{Settings}
use Rattle.image_map.specs.Whole.{IsImage}
use Rattle.ia32_types.specs.declared.Op.{Op}
use Rattle.ia32_types.specs.declared.Op.TheVariants as op
use Rattle.ia32_types.specs.declared.Operand.{Operand}
use Rattle.ia32_types.specs.declared.Operand.TheVariants as operand
use Rattle.ia32_semantics.specs.Ia32.{machine}
use Rattle.ia32_semantics.specs.Machine.{Occurrence}
use Rattle.ia32_semantics.specs.State.{pending}
use Rattle.ia32_semantics.specs.Step as step
use Rattle.ia32_semantics.specs.Step.{Act, Executes, Answers, IsActAt, HALT, is_single, returns_to_halt, operation_completes, kind_completes, act_completes, is_branch_operation}
use Rattle.call_strings.specs.declared.context.Node.{Node}
use Rattle.call_strings.specs.Nodes.{same_node, numbers_of}
use Rattle.call_strings.specs.NodeKeys.{same_is}
use Rattle.flow_graph.specs.declared.graph.FlowNode.{FlowNode}
use Rattle.flow_graph.specs.FlowGraph.{Has}
use Rattle.abs_semantics.specs.States.{AbsState}
use Rattle.abs_steps.specs.Places.{content_at}
use Rattle.abs_steps.specs.Successors.{Placed, States, at_node, successors}
use Rattle.slice_soundness.specs.Nodes.{running, sites_of, IsRooted}
use Rattle.slice_soundness.specs.Maps.{here}
use Rattle.slice_soundness.specs.Premises.{Comes, IsGraphOf}
use Rattle.call_soundness.specs.Maps.{IsListed, LeadsOn, state_in}
use Rattle.call_soundness.proofs.ContentLaws.{fetched_stands, extern_stands}
use Rattle.access_facts.specs.Flow.{op_branches, is_branch, may_be_last, op_ends, extern_ends, is_end, is_among, is_empty, next_of, flow_node, flow}
use Rattle.access_facts.specs.Places.{picked}
use Rattle.access_facts.proofs.MemberLemmas.{has_picked}
use Rattle.alocs.proofs.MemberLaws.{contains-none}
use Rattle.graph_soundness.specs.Drawn.{number_in, map_drawn}

-- -- Rows

placed_is : (x : Placed) (n : Node) (a : AbsState) → x.node ≡ n → x.state ≡ a → x ≡ at_node n a
placed_is x n a one two = λ i. at_node (one i) (two i)

-- where the map has a node
pub row_there : (xs : List Placed) (n : Node) (a : AbsState) → state_in n xs ≡ Some a → slice_get xs (number_in xs n) ≡ Some (at_node n a)
unfolding number_in
row_there [] n a e = absurd (none-some a e)
row_there (x ∷ xs) n a e = by (same_node x.node n) refl (row_there xs n a) e
  where
    by : (b : Bool) → same_node x.node n ≡ b → (state_in n xs ≡ Some a → slice_get xs (number_in xs n) ≡ Some (at_node n a)) → cond b (Some x.state) (state_in n xs) ≡ Some a
        → slice_get (x ∷ xs) (cond b 0 (suc (number_in xs n))) ≡ Some (at_node n a)
    by true same rest e = ap (λ y. Some y) (placed_is x n a (same_is x.node n same) (same_Some x.state a e))
    by false same rest e = rest e

has_mapped : {A : Type 0} (f : A → FlowNode) (P : FlowNode → Type 0) (xs : List A) (k : ℕ) (x : A) → slice_get xs k ≡ Some x → P (f x) → Has (map f xs) k P
has_mapped f P [] k x e holds = absurd (none-some x e)
has_mapped f P (y ∷ ys) zero x e holds = subst (λ z. P (f z)) (sym (same_Some y x e)) holds
has_mapped f P (y ∷ ys) (suc k) x e holds = has_mapped f P ys k x e holds

mapped_back : {A : Type 0} (f : A → FlowNode) (P : FlowNode → Type 0) (xs : List A) (k : ℕ) (x : A) → slice_get xs k ≡ Some x → Has (map f xs) k P → P (f x)
mapped_back f P [] k x e has = absurd (none-some x e)
mapped_back f P (y ∷ ys) zero x e has = subst (λ z. P (f z)) (same_Some y x e) has
mapped_back f P (y ∷ ys) (suc k) x e has = mapped_back f P ys k x e has

module _ (image : Image) (settings : Settings) (states : States) where
  -- what holds of the graph's node of a node with this state
  pub node_has : (P : FlowNode → Type 0) (n : Node) (a : AbsState) → state_in n states.placed ≡ Some a → P (flow_node image settings states (at_node n a)) → Has (flow image settings states) (number_in states.placed n) P
  unfolding flow
  node_has P n a e holds = has_mapped (flow_node image settings states) P states.placed (number_in states.placed n) (at_node n a) (row_there states.placed n a e) holds

  pub node_back : (P : FlowNode → Type 0) (n : Node) (a : AbsState) → state_in n states.placed ≡ Some a → Has (flow image settings states) (number_in states.placed n) P → P (flow_node image settings states (at_node n a))
  unfolding flow
  node_back P n a e has = mapped_back (flow_node image settings states) P states.placed (number_in states.placed n) (at_node n a) (row_there states.placed n a e) has

  same_itself : (n : Node) → same_node n n ≡ true
  same_itself n = (on_equiv numbers_of nat_list_eq_equiv).refl n

  listed_among : (to : Node) (next : AbsState) (ps : List Placed) → IsListed (at_node to next) ps → list_any (λ (p : Placed). same_node p.node to) ps ≡ true
  listed_among to next [] h = absurd h
  listed_among to next (p ∷ ps) (inl e) = or_left (same_node p.node to) _ (ap (λ (x : Placed). same_node x.node to) e ∙ same_itself to)
  listed_among to next (p ∷ ps) (inr h) = or_right (same_node p.node to) _ (listed_among to next ps h)

  -- a successor that the map has is among the steps
  pub step_there : (n to : Node) (a b next : AbsState) → state_in n states.placed ≡ Some a → LeadsOn image settings states n to next → state_in to states.placed ≡ Some b
      → Contains (next_of image settings states (at_node n a)) (number_in states.placed to)
  unfolding next_of
  step_there n to a b next e leads there =
      let same : leads.state ≡ a = same_Some leads.state a (sym leads.has_state ∙ e) in
      let listed : IsListed (at_node to next) (successors image settings states n a) = subst (λ s. IsListed (at_node to next) (successors image settings states n s)) same leads.listed in
      let front : 0 + number_in states.placed to ≡ number_in states.placed to = omega arith in
      subst (Contains (picked (is_among (successors image settings states n a)) 0 states.placed)) front
      (has_picked (is_among (successors image settings states n a)) 0 (number_in states.placed to) (at_node to b) states.placed (row_there states.placed to b there)
      (listed_among to next (successors image settings states n a) listed))

  -- so control goes on
  pub goes_there : (ns : List ℕ) (k : ℕ) → Contains ns k → is_empty ns ≡ false
  goes_there [] k has = absurd (contains-none k has)
  goes_there (n ∷ ns) k has = refl

-- -- Branches and ends

branch_is : (c : Op) (dst : Option Operand) → is_branch_operation c dst ≡ true → op_branches c dst ≡ true
unfolding op_branches
branch_is (op.Jcc c) dst e = refl
branch_is op.Jmp (Some (operand.Imm n)) e = absurd (false≢true e)
branch_is op.Jmp (Some (operand.Reg r)) e = refl
branch_is op.Jmp (Some (operand.High r)) e = refl
branch_is op.Jmp (Some (operand.Mem m)) e = refl
branch_is op.Jmp None e = absurd (false≢true e)
branch_is op.Call (Some (operand.Imm n)) e = absurd (false≢true e)
branch_is op.Call (Some (operand.Reg r)) e = refl
branch_is op.Call (Some (operand.High r)) e = refl
branch_is op.Call (Some (operand.Mem m)) e = refl
branch_is op.Call None e = absurd (false≢true e)
branch_is _ dst e = absurd (false≢true e)

abbrev no_sites : ℕ → List ℕ
no_sites k = take k []

none_taken : (k : ℕ) → is_empty (no_sites k) ≡ true
none_taken zero = refl
none_taken (suc k) = refl

-- a return of the last activation is one of the entry, with no call
last_is : (k : ℕ) (settings : Settings) (xs : List Activation) → IsRooted settings.entry xs → is_single xs ≡ true → ((running xs == settings.entry) && is_empty (take k (sites_of xs))) ≡ true
unfolding pending
last_is k settings [] rooted e = absurd rooted
last_is k settings (x ∷ []) rooted e = and_from (x.callee == settings.entry) _ (eq-eqb x.callee settings.entry rooted) (none_taken k)
last_is k settings (x ∷ y ∷ ys) rooted e = absurd (false≢true e)

module _ (image : Image) (settings : Settings) (states : States) (is : IsImage image) (o : Occurrence Act) (comes : Comes (machine image settings) (map_drawn image settings states) o) where
  abbrev n : Node
  n = here (map_drawn image settings states) o.before

  branches : (c : Act) → o.act ≡ c → step.is_branch c ≡ true → is_branch (content_at image settings n.at) ≡ true
  unfolding is_branch
  branches (Executes i) act e =
      subst (λ content. is_branch content ≡ true) (sym (fetched_stands image settings o.before.eip i is (subst (λ c. IsActAt image settings o.before.eip c) act comes.happens.act))) (branch_is i.op i.dst e)
  branches (Answers at k) act e = absurd (false≢true e)

  last : returns_to_halt o ≡ true → may_be_last settings n ≡ true
  last e = last_is states.lane settings o.before.activations comes.ready.rooted (and_parts (is_single o.before.activations) (o.after.eip == HALT) e).0

  op_ends_so : (c : Op) → operation_completes c o ≡ true → op_ends c settings n ≡ true
  unfolding op_ends
  op_ends_so op.Ret e = last e
  op_ends_so op.Hlt e = refl
  op_ends_so _ e = absurd (false≢true e)

  kind_ends : (k : Kind) → kind_completes k o ≡ true → extern_ends k settings n ≡ true
  unfolding extern_ends
  kind_ends kind.Stop e = refl
  kind_ends kind.Unknown e = last e
  kind_ends (kind.Pure m) e = last e
  kind_ends (kind.Reader m) e = last e
  kind_ends kind.Alloc e = last e
  kind_ends (kind.Fills b l) e = last e

  ends : (c : Act) → o.act ≡ c → act_completes c o ≡ true → is_end (content_at image settings n.at) settings n ≡ true
  unfolding is_end
  ends (Executes i) act e =
      subst (λ content. is_end content settings n ≡ true) (sym (fetched_stands image settings o.before.eip i is (subst (λ c. IsActAt image settings o.before.eip c) act comes.happens.act))) (op_ends_so i.op e)
  ends (Answers at k) act e =
      subst (λ content. is_end content settings n ≡ true) (sym (extern_stands image settings o.before.eip k (subst (λ c. IsActAt image settings o.before.eip c) act comes.happens.act).1)) (kind_ends k e)

  pub branch_there : step.is_branch o.act ≡ true → is_branch (content_at image settings n.at) ≡ true
  branch_there e = branches o.act refl e

  pub end_there : act_completes o.act o ≡ true → is_end (content_at image settings n.at) settings n ≡ true
  end_there e = ends o.act refl e

pub graph_is : (image : Image) (settings : Settings) (states : States) → IsImage image → IsGraphOf (machine image settings) (map_drawn image settings states)
unfolding flow_node
graph_is image settings states is =
    record {
      stands = λ n a e. node_has image settings states (λ node. node.at ≡ n.at) n a e refl;
      steps = λ n to a b next e leads there. node_has image settings states (λ node. Contains node.next (number_in states.placed to)) n a e (step_there image settings states n to a b next e leads there);
      branches = λ o comes e.
          node_has image settings states (λ node. IsTrue node.branch) (here (map_drawn image settings states) o.before) comes.ready.value comes.ready.has_value
          (branch_there image settings states is o comes e);
      ends = λ o comes e.
          node_has image settings states (λ node. IsTrue node.end) (here (map_drawn image settings states) o.before) comes.ready.value comes.ready.has_value
          (end_there image settings states is o comes e);
    }
