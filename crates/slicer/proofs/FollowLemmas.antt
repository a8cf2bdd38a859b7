-- Going back over edges and over control.
use Rattle.std.proofs.Common.{◌≡◌, ◌≢◌, inl, inr, ⊎_elim, ℕ, ◌+◌, ◌-◌, ◌<◌, ◌≤◌, Bool, List, length, get_or, take, drop, refl, sym, ◌∙◌, ap, subst, arith, IsTrue, eq-eqb, eqb-true, length-take, length-drop, get_or-drop, get_or-take}
use Rattle.std.specs.Prelude.{◌↔◌, ◌==◌, All, Contains, slice_range}
use Rattle.std.proofs.lemmas.Bool.{cases_eq}
use Rattle.std.proofs.lemmas.Bool.Decides.{leb_tells}
use Rattle.std.proofs.lemmas.List.{get_or_default}
use Rattle.std.proofs.lemmas.List.Elements.{Contains-get_or}
use Rattle.flow_graph.specs.declared.graph.FlowNode.{FlowNode}
use Rattle.flow_graph.specs.FlowGraph.{IsAt}
use Rattle.flow_graph.proofs.GraphLaws.{Has-from, Has-at, Has-within, slice_get-at}
use Rattle.control_walks.specs.ControlWalks.{Controls}
use Rattle.control_walks.specs.Floods.{Floods, Flooded, Splits}
use Rattle.control_walks.proofs.SplitLemmas.{splits-controls, controls-within}
use Rattle.slicer.specs.Slicer.{ListedEdge, Arrow, AreNodes, HasNodes}
use Rattle.slicer.specs.Search.{Adds, Grows, Follows, FollowsAt, IsBefore, IsControlledAt, IsControlledBelow}
use Rattle.slicer.proofs.QueueLemmas.{IsNode}
use Rattle.slicer.proofs.GrowLemmas.{grows-adds, grows-none, grows-then, grows-like, grows-has, grows-at, grows-same, grows-longer, grows-all, contains-more, adds-then, adds-like}

-- ---- the nodes at an address, and branches, one after the other

pub begin-more : (g : List FlowNode) (at n size : ℕ) (node : FlowNode) (old new : List ℕ) → n < length g → length g ≤ size → node ≡ get_or g n node → Adds (IsNode (node.at == at) n size) old new → ((m : ℕ) → Contains old m ↔ ((m < n) × IsAt g at m)) → (m : ℕ) → Contains new m ↔ ((m < n + 1) × IsAt g at m)
begin-more g at n size node old new within room read adds before m =
    let is = slice_get-at g n node within read in (
      λ has. ⊎_elim (λ was. let b = (before m).0 was in ((let low : m < n = b.0 in omega (arith, low)), b.1))
          (λ here. ((let same : m ≡ n = here.1 in omega (arith, same)), subst (λ o. IsAt g at o) (sym here.1) (Has-from g n node (λ x. x.at ≡ at) is (eqb-true node.at at here.0))))
          (adds.why m has),
      λ low. ⊎_elim (λ same. adds.has m (eq-eqb node.at at (Has-at g n node (λ x. x.at ≡ at) is (subst (λ o. IsAt g at o) same low.1)), same, omega (arith, within, room, same)))
          (λ other. contains-more old adds.rest new m adds.goes_on ((before m).1 ((let below : m < n + 1 = low.0 in let off : m ≢ n = other in omega (arith, below, off)), low.1)))
          (cases_eq m n),
    )

-- those of the first i numbers of which this holds
abbrev pub IsBelow : (ℕ → Type 0) → ℕ → ℕ → Type 0
IsBelow P i n = (n < i) × P n

pub adds-more : (P : ℕ → Type 0) (i size : ℕ) (is_wished : Bool) (old mid new : List ℕ) → i < size → IsTrue is_wished ↔ P i → Adds (IsBelow P i) old mid → Adds (IsNode is_wished i size) mid new → Adds (IsBelow P (i + 1)) old new
adds-more P i size is_wished old mid new room wished before here =
    adds-then (IsBelow P i) (IsNode is_wished i size) (IsBelow P (i + 1)) old mid new
    (λ n. (
      λ p. ⊎_elim (λ same. inr (wished.1 (subst P same p.1), same, omega (arith, same, room))) (λ other. inl ((let low : n < i + 1 = p.0 in let off : n ≢ i = other in omega (arith, low, off)), p.1)) (cases_eq n i),
      λ either. ⊎_elim (λ p. ((let low : n < i = p.0 in omega (arith, low)), p.1)) (λ new. ((let same : n ≡ i = new.1 in omega (arith, same)), subst P (sym new.1) (wished.0 new.0))) either,
    ))
    before here

pub adds-all : (P : ℕ → Type 0) (i : ℕ) (old new : List ℕ) → ((n : ℕ) → P n → n < i) → Adds (IsBelow P i) old new → Adds P old new
adds-all P i old new within adds = adds-like (IsBelow P i) P old new (λ n. (λ p. p.1, λ p. (within n p, p))) adds

-- ---- one edge

pub edge-grows : (pairs : List (ℕ × ℕ)) (place size : ℕ) (is_met : Bool) (old new : List ℕ) → place < length pairs → IsTrue is_met ↔ Contains old (get_or pairs place (0, 0)).1 → Adds (IsNode is_met (get_or pairs place (0, 0)).0 size) old new → Grows (IsBefore pairs) old new
edge-grows pairs place size is_met old new within met adds =
    let pair = get_or pairs place (0, 0) in
    let among : Contains pairs (get_or pairs place (0, 0)) = Contains-get_or pairs place (0, 0) within in
    grows-adds (IsNode is_met (get_or pairs place (0, 0)).0 size) (IsBefore pairs) old new
    (λ n is. ((get_or pairs place (0, 0)).1, met.0 is.0, subst (λ m. Contains pairs (m, (get_or pairs place (0, 0)).1)) (sym is.1) among)) adds

pub edge-follows : (pairs : List (ℕ × ℕ)) (place size : ℕ) (is_met : Bool) (old new : List ℕ) → place < length pairs → All (λ p. p.0 < size) pairs → IsTrue is_met ↔ Contains old (get_or pairs place (0, 0)).1 → Adds (IsNode is_met (get_or pairs place (0, 0)).0 size) old new → FollowsAt pairs place old new
edge-follows pairs place size is_met old new within room met adds has =
    adds.has (get_or pairs place (0, 0)).0 (met.1 has, refl, room place (0, 0) within)

-- ---- all edges of a list

pub record Sweeping (pairs : List (ℕ × ℕ)) (i : ℕ) (old new : List ℕ) : Type 0 where
  pub grows : Grows (IsBefore pairs) old new
  pub follows : (k : ℕ) → k < i → FollowsAt pairs k old new

pub sweeping-none : (pairs : List (ℕ × ℕ)) (old new : List ℕ) → Grows (IsBefore pairs) old new → Sweeping pairs 0 old new
sweeping-none pairs old new grows = record { grows = grows; follows = λ k never. absurd (omega (arith, never)) }

pub sweeping-more : (pairs : List (ℕ × ℕ)) (i : ℕ) (old mid new : List ℕ) → Sweeping pairs i old mid → Grows (IsBefore pairs) mid new → FollowsAt pairs i mid new → Sweeping pairs (i + 1) old new
sweeping-more pairs i old mid new before grows here = record {
  grows = grows-then (IsBefore pairs) old mid new before.grows grows;
  follows = λ k below has.
      ⊎_elim (λ same. subst (λ j. FollowsAt pairs j old new) (sym same) (λ old_has. here (grows-has (IsBefore pairs) old mid (get_or pairs i (0, 0)).1 before.grows old_has)) has)
      (λ other. let off : k ≢ i = other in grows-has (IsBefore pairs) mid new (get_or pairs k (0, 0)).0 grows (before.follows k (omega (arith, below, off)) has))
      (cases_eq k i);
}

pub sweeping-all : (pairs : List (ℕ × ℕ)) (i : ℕ) (old new : List ℕ) → length pairs ≤ i → Sweeping pairs i old new → Follows (IsBefore pairs) old new
sweeping-all pairs i old new all sweeping n m edge has =
    let within : edge.0 < length pairs = edge.1 in
    let here : get_or pairs edge.0 (0, 0) ≡ (m, n) = get_or_default pairs edge.0 (0, 0) (m, n) within ∙ edge.2 in
    subst (λ (p : ℕ × ℕ). Contains new p.0) here (sweeping.follows edge.0 (omega (arith, within, all)) (subst (λ (p : ℕ × ℕ). Contains old p.1) (sym here) has))

-- ---- both lists

pub room-of : (g : List FlowNode) (pairs : List (ℕ × ℕ)) (size : ℕ) → AreNodes g pairs → length g ≤ size → All (λ p. p.0 < size) pairs
room-of g pairs size nodes room k d within = let both = nodes k d within in let first : (get_or pairs k d).0 < length g = both.0 in omega (arith, first, room)

-- the edges of both lists, from the later node to the earlier one
abbrev pub IsListed : List (ℕ × ℕ) → List (ℕ × ℕ) → Bool → ℕ → ℕ → Type 0
IsListed ordinary sp skip_sp n m = ListedEdge ordinary sp skip_sp m n

pub edges-first : (ordinary sp : List (ℕ × ℕ)) (skip_sp : Bool) (old new : List ℕ) → Grows (IsBefore ordinary) old new → Grows (IsListed ordinary sp skip_sp) old new
edges-first ordinary sp skip_sp old new grows = grows-like (IsBefore ordinary) (IsListed ordinary sp skip_sp) old new (λ n m edge. inl edge) grows

pub edges-both : (ordinary sp : List (ℕ × ℕ)) (skip_sp : Bool) (old mid new : List ℕ) → ¬ IsTrue skip_sp → Grows (IsBefore ordinary) old mid → Grows (IsBefore sp) mid new → Grows (IsListed ordinary sp skip_sp) old new
edges-both ordinary sp skip_sp old mid new kept first second =
    grows-then (IsListed ordinary sp skip_sp) old mid new (edges-first ordinary sp skip_sp old mid first)
    (grows-like (IsBefore sp) (IsListed ordinary sp skip_sp) mid new (λ n m edge. inr (kept, edge)) second)

pub edges-skipped : (ordinary sp : List (ℕ × ℕ)) (skip_sp : Bool) (old new : List ℕ) → IsTrue skip_sp → Follows (IsBefore ordinary) old new → Follows (IsListed ordinary sp skip_sp) old new
edges-skipped ordinary sp skip_sp old new skip first n m edge has = ⊎_elim (λ o. first n m o has) (λ s. absurd (s.0 skip)) edge

pub edges-followed : (ordinary sp : List (ℕ × ℕ)) (skip_sp : Bool) (old mid new : List ℕ) → Grows (IsBefore ordinary) old mid → Grows (IsBefore sp) mid new → Follows (IsBefore ordinary) old mid → Follows (IsBefore sp) mid new → Follows (IsListed ordinary sp skip_sp) old new
edges-followed ordinary sp skip_sp old mid new grows more first second n m edge has =
    ⊎_elim (λ o. grows-has (IsBefore sp) mid new m more (first n m o has)) (λ s. second n m s.1 (grows-has (IsBefore ordinary) old mid n grows has)) edge

-- ---- some nodes' control

-- the branches that control, from the controlled node to the branch
abbrev pub IsControl : List FlowNode → ℕ → ℕ → Type 0
IsControl g n b = Controls g b n

part-length : (nodes targets : List ℕ) (done end : ℕ) → targets ≡ slice_range nodes done end → end ≤ length nodes → length targets ≡ end - done
part-length nodes targets done end is within =
    let len : length targets ≡ length (take (end - done) (drop done nodes)) = ap (λ (xs : List ℕ). length xs) is in
    omega (arith, len, length-take (end - done) (drop done nodes), length-drop done nodes, within)

part-at : (nodes targets : List ℕ) (done end k : ℕ) → targets ≡ slice_range nodes done end → k < end - done → get_or targets k 0 ≡ get_or nodes (done + k) 0
part-at nodes targets done end k is within = ap (λ (xs : List ℕ). get_or xs k 0) is ∙ get_or-take (end - done) (drop done nodes) k 0 within ∙ get_or-drop done nodes k 0

pub part-few : (nodes targets : List ℕ) (done end : ℕ) → targets ≡ slice_range nodes done end → end ≤ length nodes → end ≤ done + 64 → length targets ≤ 64
part-few nodes targets done end is within few = let len = part-length nodes targets done end is within in omega (arith, len, few)

pub part-inside : (g : List FlowNode) (nodes targets : List ℕ) (done end : ℕ) → targets ≡ slice_range nodes done end → end ≤ length nodes → All (λ n. n < length g) nodes → All (λ n. n < length g) targets
part-inside g nodes targets done end is within inside k d low =
    let len = part-length nodes targets done end is within in
    let small : k < end - done = omega (arith, len, low) in
    subst (λ n. n < length g) (sym (get_or_default targets k d 0 low ∙ part-at nodes targets done end k is small)) (inside (done + k) 0 (omega (arith, small, within)))

flooded-inside : (g : List FlowNode) (targets : List ℕ) → All (λ n. n < length g) targets → (k : ℕ) → k < length targets → get_or targets k 0 < length g
flooded-inside g targets inside k within = inside k 0 within

pub some-grows : (g : List FlowNode) (flooded : Flooded) (nodes targets new : List ℕ) (done end : ℕ) → targets ≡ slice_range nodes done end → end ≤ length nodes → All (λ n. n < length g) targets → Floods g targets flooded → Adds (Splits g flooded.reaching flooded.escaping) nodes new → Grows (IsControl g) nodes new
some-grows g flooded nodes targets new done end is within inside floods adds =
    let len = part-length nodes targets done end is within in
    grows-adds (Splits g flooded.reaching flooded.escaping) (IsControl g) nodes new
    (λ b splits.
    let c = (splits-controls g targets flooded b (flooded-inside g targets inside) floods).0 splits in
    let low : c.0 < length targets = c.1 in
    let small : c.0 < end - done = omega (arith, len, low) in
    let there : done + c.0 < length nodes = omega (arith, small, within) in
    (get_or nodes (done + c.0) 0, Contains-get_or nodes (done + c.0) 0 there, subst (λ n. Controls g b n) (part-at nodes targets done end c.0 is small) c.2))
    adds

pub some-follows : (g : List FlowNode) (flooded : Flooded) (nodes targets new : List ℕ) (done end : ℕ) → targets ≡ slice_range nodes done end → end ≤ length nodes → All (λ n. n < length g) targets → Floods g targets flooded → Adds (Splits g flooded.reaching flooded.escaping) nodes new → (k : ℕ) → done ≤ k → k < end → (b : ℕ) → Controls g b (get_or nodes k 0) → Contains new b
some-follows g flooded nodes targets new done end is within inside floods adds k from below b controls =
    let len = part-length nodes targets done end is within in
    let small : k - done < end - done = omega (arith, from, below) in
    let place : done + (k - done) ≡ k = omega (arith, from) in
    let at : get_or targets (k - done) 0 ≡ get_or nodes k 0 = part-at nodes targets done end (k - done) is small ∙ ap (λ j. get_or nodes j 0) place in
    adds.has b ((splits-controls g targets flooded b (flooded-inside g targets inside) floods).1 (k - done, omega (arith, small, len), subst (λ n. Controls g b n) (sym at) controls))

-- ---- all control

pub record Controlling (g : List FlowNode) (first nodes : List ℕ) (done : ℕ) : Type 0 where
  pub grows : Grows (IsControl g) first nodes
  pub controlled : IsControlledBelow g nodes done
  pub within : done ≤ length nodes

controlled-at : (g : List FlowNode) (Step : ℕ → ℕ → Type 0) (old new : List ℕ) (k : ℕ) → Grows Step old new → k < length old → IsControlledAt g old k → IsControlledAt g new k
controlled-at g Step old new k grows within controlled b controls =
    grows-has Step old new b grows (controlled b (subst (λ n. Controls g b n) (grows-at Step old new k grows within) controls))

pub controlled-below : (g : List FlowNode) (Step : ℕ → ℕ → Type 0) (old new : List ℕ) (done : ℕ) → Grows Step old new → done ≤ length old → IsControlledBelow g old done → IsControlledBelow g new done
controlled-below g Step old new done grows within controlled k below =
    controlled-at g Step old new k grows (omega (arith, below, within)) (controlled k below)

pub controlling-more : (g : List FlowNode) (first old new : List ℕ) (done end : ℕ) → Controlling g first old done → Grows (IsControl g) old new → ((k : ℕ) → done ≤ k → k < end → (b : ℕ) → Controls g b (get_or old k 0) → Contains new b) → end ≤ length old → Controlling g first new end
controlling-more g first old new done end c grows follows within = record {
  grows = grows-then (IsControl g) first old new c.grows grows;
  controlled = λ k below b controls.
      ⊎_elim (λ high. follows k high.1 below b (subst (λ n. Controls g b n) (grows-at (IsControl g) old new k grows (omega (arith, below, within))) controls))
      (λ low. controlled-at g (IsControl g) old new k grows (omega (arith, below, within)) (c.controlled k low.1) b controls)
      (leb_tells done k);
  within = let longer = grows-longer (IsControl g) old new grows in omega (arith, within, longer);
}

-- each node of a list that grows by steps to nodes is a node
pub all-of : (g : List FlowNode) (Step : ℕ → ℕ → Type 0) (old new : List ℕ) → All (λ n. n < length g) old → ((m n : ℕ) → Step m n → n < length g) → Grows Step old new → All (λ n. n < length g) new
all-of g Step old new inside steps grows k d within =
    grows-all (λ n. n < length g) Step old new
    (λ n has. let low : has.0 < length old = has.1 in subst (λ m. m < length g) has.2 (inside has.0 n low))
    steps grows (get_or new k d) (Contains-get_or new k d within)

pub control-inside : (g : List FlowNode) (first nodes : List ℕ) → All (λ n. n < length g) first → Grows (IsControl g) first nodes → All (λ n. n < length g) nodes
control-inside g first nodes inside grows = all-of g (IsControl g) first nodes inside (λ n b controls. controls-within g b n controls) grows

-- ---- edges and control together

pub record Following (Edge : ℕ → ℕ → Type 0) (g : List FlowNode) (first nodes : List ℕ) (done : ℕ) : Type 0 where
  pub grows : Grows (λ n m. Arrow Edge g m n) first nodes
  pub controlled : IsControlledBelow g nodes done
  pub within : done ≤ length nodes

pub following-none : (Edge : ℕ → ℕ → Type 0) (g : List FlowNode) (nodes : List ℕ) → Following Edge g nodes nodes 0
following-none Edge g nodes = record { grows = grows-none (λ n m. Arrow Edge g m n) nodes; controlled = λ k never. absurd (omega (arith, never)); within = omega arith }

pub following-more : (Edge : ℕ → ℕ → Type 0) (g : List FlowNode) (first old mid new : List ℕ) (done : ℕ) → Following Edge g first old done → Grows (IsControl g) old mid → IsControlledBelow g mid (length mid) → Grows (λ n m. Edge m n) mid new → Following Edge g first new (length mid)
following-more Edge g first old mid new done f control controlled edges = record {
  grows = grows-then (λ n m. Arrow Edge g m n) first old new f.grows
      (grows-then (λ n m. Arrow Edge g m n) old mid new
      (grows-like (IsControl g) (λ n m. Arrow Edge g m n) old mid (λ n b controls. inr controls) control)
      (grows-like (λ n m. Edge m n) (λ n m. Arrow Edge g m n) mid new (λ n m edge. inl edge) edges));
  controlled = controlled-below g (λ n m. Edge m n) mid new (length mid) edges (omega arith) controlled;
  within = grows-longer (λ n m. Edge m n) mid new edges;
}

controlled-all : (g : List FlowNode) (nodes : List ℕ) (b n : ℕ) → IsControlledBelow g nodes (length nodes) → Contains nodes n → Controls g b n → Contains nodes b
controlled-all g nodes b n controlled has controls =
    let within : has.0 < length nodes = has.1 in
    controlled has.0 within b (subst (λ m. Controls g b m) (sym (get_or_default nodes has.0 0 n within ∙ has.2)) controls)

-- where nothing came in by edges, all arrows have been followed
pub following-closed : (Edge : ℕ → ℕ → Type 0) (g : List FlowNode) (mid new : List ℕ) → IsControlledBelow g mid (length mid) → Grows (λ n m. Edge m n) mid new → Follows (λ n m. Edge m n) mid new → length new ≡ length mid → Follows (λ n m. Arrow Edge g m n) new new
following-closed Edge g mid new controlled grows follows same n m arrow has =
    let is : new ≡ mid = grows-same (λ n m. Edge m n) mid new grows same in
    let there : Contains mid n = subst (λ (xs : List ℕ). Contains xs n) is has in
    ⊎_elim (λ edge. follows n m edge there)
    (λ controls. subst (λ (xs : List ℕ). Contains xs m) (sym is) (controlled-all g mid m n controlled there controls))
    arrow

pub following-inside : (ordinary sp : List (ℕ × ℕ)) (skip_sp : Bool) (g : List FlowNode) (first nodes : List ℕ) → HasNodes g ordinary sp → All (λ n. n < length g) first → Grows (λ n m. Arrow (ListedEdge ordinary sp skip_sp) g m n) first nodes → All (λ n. n < length g) nodes
following-inside ordinary sp skip_sp g first nodes has inside grows =
    all-of g (λ n m. Arrow (ListedEdge ordinary sp skip_sp) g m n) first nodes inside
    (λ n m arrow. ⊎_elim (λ edge. ⊎_elim (λ o. first-inside ordinary m n has.ordinary_edges o) (λ s. first-inside sp m n has.sp_edges s.1) edge) (λ controls. controls-within g m n controls) arrow) grows
  where
    first-inside : (pairs : List (ℕ × ℕ)) (m n : ℕ) → AreNodes g pairs → Contains pairs (m, n) → m < length g
    first-inside pairs m n nodes among =
        let within : among.0 < length pairs = among.1 in
        let both = nodes among.0 (m, n) within in
        subst (λ (p : ℕ × ℕ). p.0 < length g) among.2 both.0

pub begin-inside : (nodes g : List FlowNode) (at : ℕ) (first : List ℕ) → nodes ≡ g → ((n : ℕ) → Contains first n ↔ IsAt nodes at n) → All (λ n. n < length g) first
begin-inside nodes g at first same begins k d within =
    subst (λ (ns : List FlowNode). get_or first k d < length ns) same
    (Has-within nodes (get_or first k d) (λ node. node.at ≡ at) ((begins (get_or first k d)).0 (Contains-get_or first k d within)))
