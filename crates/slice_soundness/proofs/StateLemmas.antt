-- A step leaves a state that the map knows.
use Rattle.std.proofs.Common.{◌≡◌, ⊎_elim, ℕ, List, [], ◌∷◌, refl, sym, ap, subst, ◌∙◌}
use Rattle.std.specs.Prelude.{Some, take}
use Rattle.std.proofs.Math.Seq.{take-nil}
use Rattle.image_map.specs.declared.region.Activation.{Activation}
use Rattle.ia32_semantics.specs.State.{State, pending}
use Rattle.ia32_semantics.specs.Machine.{Machine}
use Rattle.ia32_semantics.specs.Runs.{OccurrenceOf}
use Rattle.call_strings.specs.declared.context.Node.{Node}
use Rattle.call_strings.specs.Nodes.{pushed}
use Rattle.slice_soundness.specs.Nodes.{sites_of, node_at, entry_node, IsRooted}
use Rattle.slice_soundness.specs.Maps.{Map, here, IsHome, AreHome}
use Rattle.slice_soundness.specs.Premises.{IsReady, GoesOn, LeadsTo, Stays, Calls, Returns, IsCallNode, Follows}
use Rattle.slice_soundness.specs.Laws.{Onward}
use Rattle.slice_soundness.proofs.NodeLemmas.{node_is, context_is, sites_above, sites_pushed, rooted_more}

no_sites : (k : ℕ) (first : Activation) → take k (sites_of (first ∷ [])) ≡ []
unfolding pending
no_sites k first = take-nil k

-- the node of a start
same_start : (entry k : ℕ) (s : State) (first : Activation) → s.activations ≡ first ∷ [] → first.callee ≡ entry → s.eip ≡ entry → entry_node entry ≡ node_at k s.activations s.eip
same_start entry k s first is callee at =
    sym (node_is first.callee entry (take k (sites_of (first ∷ []))) [] s.eip entry callee (no_sites k first) at)
    ∙ ap (λ activations. node_at k activations s.eip) (sym is)

-- homes after a call
homes_pushed : (v : Map) (entry : ℕ) (new : Activation) (activations : List Activation) → IsRooted entry activations → IsHome v (node_at v.depth activations new.site) new.callee → AreHome v activations → AreHome v (new ∷ activations)
homes_pushed v entry new [] rooted home homes = absurd rooted
homes_pushed v entry new (x ∷ xs) rooted home homes = (home, homes)

module _ (m : Machine) (v : Map) (f : Follows m v) where
  -- where a successor comes that stands for a state, the map knows the state
  arrived : (from : Node) (a : v.Abs) (s : State) → v.value from ≡ Some a → LeadsTo v from (here v s) s → v.IsWhole s → AreHome v s.activations → IsRooted m.entry s.activations → IsReady m v s
  arrived from a s is leads whole homes rooted =
      let there = f.clean.closed from (here v s) a leads.next is leads.is_successor in
      let canonical = f.clean.canonical (here v s) there.0 there.1 in
      record {
        value = there.0;
        has_value = there.1;
        canonical = canonical;
        stands = f.steps.below leads.next there.0 s there.2 canonical whole leads.stands;
        whole = whole;
        quiet = f.clean.quiet (here v s) there.0 there.1;
        homes = homes;
        rooted = rooted;
      }

  -- a successor at the node of the state after
  onward : (o : OccurrenceOf m) → GoesOn m v o → (to : Node) → to ≡ here v o.after → LeadsTo v (here v o.before) to o.after → AreHome v o.after.activations → IsRooted m.entry o.after.activations → Onward m v o
  onward o g to same leads homes rooted =
      let comes = subst (λ n. LeadsTo v (here v o.before) n o.after) same leads in
      record {
        ready = arrived (here v o.before) g.comes.ready.value o.after g.comes.ready.has_value comes (f.steps.whole o g) homes rooted;
        next = comes.next;
        is_successor = comes.is_successor;
      }

  after_staying : (o : OccurrenceOf m) → GoesOn m v o → Stays m v o → Onward m v o
  after_staying o g row =
      let r = g.comes.ready in
      onward o g (record (here v o.before) { at = o.after.eip })
      (ap (λ activations. node_at v.depth activations o.after.eip) (sym row.same))
      row.leads
      (subst (AreHome v) (sym row.same) r.homes)
      (subst (IsRooted m.entry) (sym row.same) r.rooted)

  after_calling : (o : OccurrenceOf m) → GoesOn m v o → Calls m v o → Onward m v o
  after_calling o g row =
      let r = g.comes.ready in
      let acts = o.before.activations in
      let sites : take v.depth (o.before.eip ∷ (here v o.before).context.sites) ≡ take v.depth (sites_of (row.new ∷ acts)) =
      ap (λ site. take v.depth (site ∷ (here v o.before).context.sites)) (sym row.site) ∙ sym (sites_pushed m.entry v.depth row.new acts r.rooted) in
      let home : IsHome v (node_at v.depth acts row.new.site) row.new.callee =
      subst (λ site. IsHome v (node_at v.depth acts site) row.new.callee) (sym row.site) (record { is_node = (r.value, r.has_value); is_target = row.target }) in
      onward o g (record { context = pushed v.depth o.before.eip row.new.callee (here v o.before).context; at = o.after.eip })
      (node_is row.new.callee row.new.callee (take v.depth (o.before.eip ∷ (here v o.before).context.sites)) (take v.depth (sites_of (row.new ∷ acts))) o.after.eip o.after.eip refl sites refl
      ∙ ap (λ activations. node_at v.depth activations o.after.eip) (sym row.grown))
      row.leads
      (subst (AreHome v) (sym row.grown) (homes_pushed v m.entry row.new acts r.rooted home r.homes))
      (subst (IsRooted m.entry) (sym row.grown) (rooted_more m.entry row.new acts r.rooted))

  -- the call node of the newest activation is among those to which its return may go back
  call_node : (s : State) (ending parent : Activation) (older : List Activation) → s.activations ≡ ending ∷ parent ∷ older → AreHome v s.activations → IsCallNode v (here v s) ending.site parent.callee (node_at v.depth (parent ∷ older) ending.site)
  call_node s ending parent older were homes =
      let home = (subst (AreHome v) were homes).0 in
      let same : here v s ≡ node_at v.depth (ending ∷ parent ∷ older) s.eip = ap (λ activations. node_at v.depth activations s.eip) were in
      record {
        is_node = home.is_node;
        is_target = subst (λ procedure. v.IsTarget (node_at v.depth (parent ∷ older) ending.site) procedure) (sym (ap (λ n. n.context.proc) same)) home.is_target;
        context = context_is (here v s).context.proc (take v.depth (ending.site ∷ take v.depth (sites_of (parent ∷ older)))) (here v s).context.sites (sym (sites_above v.depth ending parent older) ∙ sym (ap (λ n. n.context.sites) same));
        at = refl;
        procedure = refl;
      }

  after_returning : (o : OccurrenceOf m) → GoesOn m v o → Returns m v o → Onward m v o
  after_returning o g row =
      let r = g.comes.ready in
      let call = call_node o.before row.ending row.parent row.older row.were r.homes in
      let leads : LeadsTo v (here v o.before) (node_at v.depth (row.parent ∷ row.older) o.after.eip) o.after =
      record { next = row.next; is_successor = row.leads (node_at v.depth (row.parent ∷ row.older) row.ending.site) call; stands = row.stands } in
      onward o g (node_at v.depth (row.parent ∷ row.older) o.after.eip)
      (ap (λ activations. node_at v.depth activations o.after.eip) (sym row.are))
      leads
      (subst (AreHome v) (sym row.are) ((subst (AreHome v) row.were r.homes).1))
      (subst (IsRooted m.entry) (sym row.are) (subst (IsRooted m.entry) row.were r.rooted))

  pub ready_after : (o : OccurrenceOf m) → GoesOn m v o → Onward m v o
  ready_after o g = ⊎_elim (after_staying o g) (λ other. ⊎_elim (after_calling o g) (after_returning o g) other) (f.steps.row o g)

  -- the map knows each start
  pub ready_start : (s : State) → m.IsStart s → IsReady m v s
  ready_start s start =
      let first = f.machine.starts_in s start in
      let at = f.machine.starts_at s start in
      let same : entry_node m.entry ≡ here v s = same_start m.entry v.depth s first.0 first.1 first.2 at in
      let entry_is : v.value (here v s) ≡ Some f.clean.entry = subst (λ n. v.value n ≡ Some f.clean.entry) same f.clean.entry_is in
      let canonical = f.clean.canonical (here v s) f.clean.entry entry_is in
      let whole = f.steps.start_whole s start in
      record {
        value = f.clean.entry;
        has_value = entry_is;
        canonical = canonical;
        stands = f.steps.below v.initial f.clean.entry s f.clean.entry_below canonical whole (f.steps.start_stands s start);
        whole = whole;
        quiet = f.clean.quiet (here v s) f.clean.entry entry_is;
        homes = subst (AreHome v) (sym first.1) tt;
        rooted = subst (IsRooted m.entry) (sym first.1) first.2;
      }
