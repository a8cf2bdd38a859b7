-- What comes in the rows of a phase's graph comes by its steps.
use Rattle.std.proofs.Common.{◌≡◌, ◌⊎◌, inl, inr, ⊎_elim, ℕ, ◌+◌, ◌<◌, ◌≤◌, Bool, List, [], ◌∷◌, ◌++◌, length, get_or, take, drop, Some, refl, sym, ◌∙◌, ap, subst, arith, IsTrue}
use Rattle.std.specs.Prelude.{◌↔◌, All, Contains, slice_get}
use Rattle.std.specs.List.{AllByRecursion}
use Rattle.std.proofs.lemmas.List.{get_or_default, take-append-drop}
use Rattle.std.proofs.lemmas.List.Elements.{Contains-get_or, Contains-append_left, Contains-append_right, Contains-append_cases}
use Rattle.flow_graph.specs.declared.graph.FlowNode.{FlowNode}
use Rattle.flow_graph.specs.FlowGraph.{IsStep}
use Rattle.flow_graph.specs.Marked.Marked.{seed, step}
use Rattle.flow_graph.specs.Rows.{HasBit, BeginsAt}
use Rattle.flow_graph.specs.Rows as rows_of
use Rattle.flow_graph.specs.Walks.{IsOn}
use Rattle.flow_graph.proofs.GraphLaws.{Has-at, Has-from}
use Rattle.flow_graph.proofs.MarkedLaws.{marked_all}
use Rattle.flow_graph.proofs.WalkLaws.{all_both}
use Rattle.flow_graph.proofs.WalkLemmas.{on-within}
use Rattle.dep_graph.specs.Edges.{Adds}
use Rattle.dep_graph.proofs.PairLemmas.{adds-then}
use Rattle.matched_calls.specs.declared.kinds.StepKinds.{StepKinds}
use Rattle.matched_calls.specs.declared.kinds.Phase.{Phase}
use Rattle.matched_calls.specs.declared.kinds.Phase.TheVariants.{Up, Down}
use Rattle.matched_calls.specs.declared.sites.Plan.{Plan}
use Rattle.matched_calls.specs.Matched.{HasKinds, Matches, MatchedWalk}
use Rattle.matched_calls.specs.Phases.{ComesBack, Goes, Comes, IsAbove}
use Rattle.matched_calls.specs.Extended.{pair_of, IsExtended, IsPlan}
use Rattle.matched_calls.specs.Summaries.{KeepsBit, IsSummary}
use Rattle.matched_calls.specs.Searches.{IsWide, IsHit, IsHitFrom, IsFrom}
use Rattle.matched_calls.proofs.PhaseLemmas.{matches_by}
use Rattle.matched_calls.proofs.SummaryLemmas.{step_within}

module _ (g : List FlowNode) (kinds : StepKinds) (has_kinds : HasKinds g kinds) (phase : Phase) (extended : List FlowNode) (is_extended : IsExtended g kinds phase extended) (kept : List ℕ) (summary : IsSummary g kinds kept) (k : ℕ) (small : k < 64) (Begins : ℕ → Type 0) where
  -- a node to which the bit comes
  abbrev Reached : ℕ → Type 0
  Reached x = Comes g kinds (KeepsBit kept k) phase Begins x

  -- what holds of such a node of the phase's graph
  pub record IsReached (x : ℕ) : Type 0 where
    pub node : x < length g → Reached x
    pub between : (i : ℕ) → i < length kinds.after → x ≡ length g + i → ComesBack g kinds (KeepsBit kept k) (pair_of kinds.after i).0 (pair_of kinds.after i).1 × Reached (pair_of kinds.after i).1

  at_node : (x : ℕ) → x < length g → Reached x → IsReached x
  at_node x within reached = record { node = λ _. reached; between = λ i low is. absurd (omega (arith, within, is)) }

  after_within : (i : ℕ) → i < length kinds.after → (pair_of kinds.after i).1 < length g
  after_within i low = (has_kinds.after i (0, 0) low).1

  -- a step of the phase's graph to such a node, from a node of the graph
  step_goes : (m next : ℕ) → m < length g → IsStep extended m next → IsReached next → (y : ℕ) × Goes g kinds (KeepsBit kept k) phase m y × Reached y
  step_goes m next within goes reached =
      ⊎_elim
      (λ node. ⊎_elim
      (λ flow. (next, inl flow.1, reached.node flow.0))
      (λ link.
      let on = reached.between link.0 link.1 link.3 in
      ((pair_of kinds.after link.0).1, inr (subst (λ c. ComesBack g kinds (KeepsBit kept k) c (pair_of kinds.after link.0).1) link.2 on.0), on.1))
      node.1)
      (λ arrival. let is = arrival.2 in absurd (omega (arith, within, is)))
      ((is_extended.steps m next).0 goes)

  reached_step : (next m : ℕ) → IsStep extended m next → HasBit kept m k → IsReached next → IsReached m
  reached_step next m goes keeps reached =
      ⊎_elim
      (λ node. let on = step_goes m next node.0 goes reached in at_node m node.0 (step (on.1, keeps) on.2))
      (λ arrival.
      let on = reached.node (subst (λ y. y < length g) (sym arrival.3) (after_within arrival.0 arrival.1)) in
      record {
        node = λ within. let is = arrival.2 in absurd (omega (arith, within, is));
        between = λ i low is.
            let other = arrival.2 in
            let same : arrival.0 ≡ i = omega (arith, is, other) in
            ((summary i k low small).0 (subst (λ n. HasBit kept n k) is keeps), subst (λ y. Reached y) (arrival.3 ∙ ap (λ j. (pair_of kinds.after j).1) same) on);
      })
      ((is_extended.steps m next).0 goes)

  module _ (begun : List ℕ) (sound : (x : ℕ) → HasBit begun x k → IsReached x) (complete : (x : ℕ) → Begins x → (x < length g) × HasBit begun x k) where
    -- what comes is reached
    pub comes_reached : (x : ℕ) → rows_of.Comes extended kept begun k x → IsReached x
    comes_reached x comes = marked_all (λ m. HasBit begun m k) (λ next m. IsStep extended m next × HasBit kept m k) IsReached sound (λ next m goes reached. reached_step next m goes.0 goes.1 reached) comes

    -- a step of the phase is one of its graph, or two
    goes_step : (m y : ℕ) → Goes g kinds (KeepsBit kept k) phase m y → y < length g → rows_of.Comes extended kept begun k y → (m < length g) × ((next : ℕ) × IsStep extended m next × rows_of.Comes extended kept begun k next)
    goes_step m y (inl flow) within comes = let from = step_within g m y flow.0 in (from, (y, (is_extended.steps m y).1 (inl (from, inl (within, flow))), comes))
    goes_step m y (inr back) within comes =
        let i : ℕ = back.after.0 in
        let low : i < length kinds.after = back.after.1 in
        let pair : pair_of kinds.after i ≡ (m, y) = get_or_default kinds.after i (0, 0) (m, y) low ∙ back.after.2 in
        let from = step_within g m back.entry back.call.0 in
        let bit : HasBit kept (length g + i) k = (summary i k low small).1 (subst (λ (q : ℕ × ℕ). ComesBack g kinds (KeepsBit kept k) q.0 q.1) (sym pair) back) in
        (from, (length g + i, (is_extended.steps m (length g + i)).1 (inl (from, inr (i, low, ap (λ (q : ℕ × ℕ). q.0) pair, refl))), step ((is_extended.steps (length g + i) y).1 (inr (i, low, refl, sym (ap (λ (q : ℕ × ℕ). q.1) pair))), bit) comes))

    -- what is reached comes
    pub reached_comes : (x : ℕ) → Reached x → (x < length g) × rows_of.Comes extended kept begun k x
    reached_comes x reached =
        marked_all Begins (λ next m. Goes g kinds (KeepsBit kept k) phase m next × KeepsBit kept k m) (λ m. (m < length g) × rows_of.Comes extended kept begun k m)
        (λ m begins. let at = complete m begins in (at.0, seed at.1))
        (λ next m goes on. let to = goes_step m next goes.0 on.0 on.1 in (to.0, step (to.1.1, goes.1) to.1.2)) reached

    -- a successor in the phase's graph has the bit exactly where a step of the phase leads to a node that is reached
    pub hits_lead : (rows : List ℕ) → ((n : ℕ) → HasBit rows n k ↔ rows_of.Comes extended kept begun k n) → (m : ℕ) → m < length g → ((next : ℕ) × IsStep extended m next × HasBit rows next k) ↔ ((y : ℕ) × Goes g kinds (KeepsBit kept k) phase m y × Reached y)
    hits_lead rows grown m within = (
      λ hit. step_goes m hit.0 within hit.1 (comes_reached hit.0 ((grown hit.0).0 hit.2)),
      λ lead.
          let at = reached_comes lead.0 lead.2 in
          let to = goes_step m lead.0 lead.1 at.0 at.1 in
          (to.1.0, to.1.1, (grown to.1.0).1 to.1.2),
    )

-- ---- down, and then up

module _ (g : List FlowNode) (kinds : StepKinds) (plan : Plan) (p : IsPlan g kinds plan) (kept : List ℕ) (wide : IsWide g kinds kept) (k : ℕ) (small : k < 64) (target : ℕ) (inside : target < length g)
    (begun middle rows : List ℕ) (begins : (n : ℕ) → HasBit begun n k ↔ (n ≡ target)) (down : (n : ℕ) → HasBit middle n k ↔ rows_of.Comes plan.down.nodes kept begun k n) (up : (n : ℕ) → HasBit rows n k ↔ rows_of.Comes plan.up.nodes kept middle k n) where
  down_sound : (x : ℕ) → HasBit begun x k → IsReached g kinds p.numbers Down plan.down.nodes p.down kept wide.summary k small (λ m. m ≡ target) x
  down_sound x bit =
      let same : x ≡ target = (begins x).0 bit in
      at_node g kinds p.numbers Down plan.down.nodes p.down kept wide.summary k small (λ m. m ≡ target) x (omega (arith, same, inside)) (seed same)

  down_complete : (x : ℕ) → x ≡ target → (x < length g) × HasBit begun x k
  down_complete x same = (omega (arith, same, inside), (begins x).1 same)

  up_sound : (x : ℕ) → HasBit middle x k → IsReached g kinds p.numbers Up plan.up.nodes p.up kept wide.summary k small (IsAbove g kinds (KeepsBit kept k) target) x
  up_sound x bit =
      let reached = comes_reached g kinds p.numbers Down plan.down.nodes p.down kept wide.summary k small (λ m. m ≡ target) begun down_sound down_complete x ((down x).0 bit) in
      record { node = λ within. seed (reached.node within); between = λ i low is. let on = reached.between i low is in (on.0, seed on.1) }

  up_complete : (x : ℕ) → IsAbove g kinds (KeepsBit kept k) target x → (x < length g) × HasBit middle x k
  up_complete x above =
      let at = reached_comes g kinds p.numbers Down plan.down.nodes p.down kept wide.summary k small (λ m. m ≡ target) begun down_sound down_complete x above in
      (at.0, (down x).1 at.1)

  pub hits_matched : (m : ℕ) → m < length g
      → (((next : ℕ) × IsStep plan.down.nodes m next × HasBit middle next k) ⊎ ((next : ℕ) × IsStep plan.up.nodes m next × HasBit rows next k)) ↔ Matches g kinds (KeepsBit kept k) m target
  hits_matched m within =
      let by_down = hits_lead g kinds p.numbers Down plan.down.nodes p.down kept wide.summary k small (λ n. n ≡ target) begun down_sound down_complete middle down m within in
      let by_up = hits_lead g kinds p.numbers Up plan.up.nodes p.up kept wide.summary k small (IsAbove g kinds (KeepsBit kept k) target) middle up_sound up_complete rows up m within in
      let by = matches_by g kinds (KeepsBit kept k) target m in (
        λ hit. by.1 (⊎_elim (λ d. inl (by_down.0 d)) (λ u. inr (by_up.0 u)) hit),
        λ walk. ⊎_elim (λ d. inl (by_down.1 d)) (λ u. inr (by_up.1 u)) (by.0 walk),
      )

-- ---- facts that hold of the same nodes

walk_inner : (g : List FlowNode) (kinds : StepKinds) (m : ℕ) (pending inner : List ℕ) (n : ℕ) (left : List ℕ) → MatchedWalk g kinds m pending inner n left → AllByRecursion (λ i. i < length g) inner
walk_inner g kinds m pending [] n left walk = tt
walk_inner g kinds m pending (i ∷ inner) n left walk = (from inner walk.0 walk.3, walk_inner g kinds i walk.0 inner n left walk.3)
  where
    from : (rest next : List ℕ) → MatchedWalk g kinds i next rest n left → i < length g
    from [] next on = step_within g i n on.0
    from (j ∷ rest) next on = step_within g i j on.1

pub matches_like : (g : List FlowNode) (kinds : StepKinds) (Kept Other : ℕ → Type 0) → ((n : ℕ) → n < length g → Kept n → Other n) → (m n : ℕ) → Matches g kinds Kept m n → Matches g kinds Other m n
matches_like g kinds Kept Other like m n walk =
    (walk.0, walk.1, walk.2, all_both (λ i. i < length g) Kept Other (λ i within kept. like i within kept) walk.0 (walk_inner g kinds m [] walk.0 n walk.1 walk.2) walk.3)

-- ---- pairs

-- all bits are those of bit 0
pub even_matches : (g : List FlowNode) (kinds : StepKinds) (kept : List ℕ) → IsWide g kinds kept → (k m n : ℕ) → k < 64 → Matches g kinds (KeepsBit kept k) m n ↔ Matches g kinds (KeepsBit kept 0) m n
even_matches g kinds kept wide k m n small = (
  λ walk. matches_like g kinds (KeepsBit kept k) (KeepsBit kept 0) (λ i within bit. (wide.even i k small).0 bit) m n walk,
  λ walk. matches_like g kinds (KeepsBit kept 0) (KeepsBit kept k) (λ i within bit. (wide.even i k small).1 bit) m n walk,
)

-- the rows of a chunk show the walks to its nodes
pub chunk_from : (g : List FlowNode) (kinds : StepKinds) (plan : Plan) → IsPlan g kinds plan → (kept : List ℕ) → IsWide g kinds kept → (sources : List Bool) (targets begun middle rows : List ℕ) (size : ℕ) → length sources ≡ length g → length targets ≤ 64 → length g ≤ size → All (λ n. n < length g) targets
    → ((n k : ℕ) → HasBit begun n k ↔ BeginsAt targets size (length targets) n k) → ((n k : ℕ) → HasBit middle n k ↔ rows_of.Comes plan.down.nodes kept begun k n) → ((n k : ℕ) → HasBit rows n k ↔ rows_of.Comes plan.up.nodes kept middle k n)
    → (m n : ℕ) → (IsHitFrom plan.down.nodes middle sources targets m n ⊎ IsHitFrom plan.up.nodes rows sources targets m n) ↔ IsFrom g kinds kept sources targets m n
chunk_from g kinds plan p kept wide sources targets begun middle rows size many few room inside begins down up m n =
    let hits = λ (k : ℕ) (low : k < length targets) (within : m < length g).
    hits_matched g kinds plan p kept wide k (omega (arith, low, few)) (get_or targets k 0) (inside k 0 low) begun middle rows
    (λ x. (λ bit. sym ((begins x k).0 bit).at, λ same. (begins x k).1 (record { among = low; at = sym same; within = (let at = inside k 0 low in omega (arith, at, same, room)) }))) (λ x. down x k) (λ x. up x k) m within in
    let marked = λ (on : IsOn sources m). let low = on-within sources m on in let at : m < length g = omega (arith, low, many) in at in (
      λ either.
          ⊎_elim
          (λ hit. record {
            source = hit.0;
            target = subst (λ t. Contains targets t) hit.1.2 (Contains-get_or targets hit.1.0 0 hit.1.1);
            matches = subst (λ t. Matches g kinds (KeepsBit kept 0) m t) hit.1.2 ((even_matches g kinds kept wide hit.1.0 m (get_or targets hit.1.0 0) (let low = hit.1.1 in omega (arith, low, few))).0 ((hits hit.1.0 hit.1.1 (marked hit.0)).0 (inl hit.1.3)));
          })
          (λ hit. record {
            source = hit.0;
            target = subst (λ t. Contains targets t) hit.1.2 (Contains-get_or targets hit.1.0 0 hit.1.1);
            matches = subst (λ t. Matches g kinds (KeepsBit kept 0) m t) hit.1.2 ((even_matches g kinds kept wide hit.1.0 m (get_or targets hit.1.0 0) (let low = hit.1.1 in omega (arith, low, few))).0 ((hits hit.1.0 hit.1.1 (marked hit.0)).0 (inr hit.1.3)));
          })
          either,
      λ from.
          let k : ℕ = from.target.0 in
          let low : k < length targets = from.target.1 in
          let is : get_or targets k 0 ≡ n = get_or_default targets k 0 n low ∙ from.target.2 in
          ⊎_elim (λ d. inl (from.source, (k, low, is, d))) (λ u. inr (from.source, (k, low, is, u)))
          ((hits k low (marked from.source)).1 ((even_matches g kinds kept wide k m (get_or targets k 0) (omega (arith, low, few))).1 (subst (λ t. Matches g kinds (KeepsBit kept 0) m t) (sym is) from.matches))),
    )

-- targets by parts
from_parts : (g : List FlowNode) (kinds : StepKinds) (kept : List ℕ) (sources : List Bool) (first after : List ℕ) (m n : ℕ) → IsFrom g kinds kept sources (first ++ after) m n ↔ (IsFrom g kinds kept sources first m n ⊎ IsFrom g kinds kept sources after m n)
from_parts g kinds kept sources first after m n = (
  λ a. ⊎_elim (λ one. inl (record { source = a.source; target = one; matches = a.matches })) (λ two. inr (record { source = a.source; target = two; matches = a.matches })) (Contains-append_cases first after n a.target),
  λ either. ⊎_elim (λ a. record { source = a.source; target = Contains-append_left first after n a.target; matches = a.matches }) (λ a. record { source = a.source; target = Contains-append_right first after n a.target; matches = a.matches }) either,
)

pub from_later : (g : List FlowNode) (kinds : StepKinds) (kept : List ℕ) (sources : List Bool) (rest chunk after : List ℕ) (count : ℕ) (old mid new : List (List Bool)) → chunk ≡ take count rest → after ≡ drop count rest → Adds (IsFrom g kinds kept sources chunk) old mid → Adds (IsFrom g kinds kept sources after) mid new
    → Adds (IsFrom g kinds kept sources rest) old new
from_later g kinds kept sources rest chunk after count old mid new chunk_is after_is first second =
    let whole : chunk ++ after ≡ rest = ap (λ xs. xs ++ after) chunk_is ∙ ap (λ xs. take count rest ++ xs) after_is ∙ take-append-drop count rest in
    subst (λ xs. Adds (IsFrom g kinds kept sources xs) old new) whole
    (adds-then (IsFrom g kinds kept sources chunk) (IsFrom g kinds kept sources after) (IsFrom g kinds kept sources (chunk ++ after)) old mid new (λ m n. from_parts g kinds kept sources chunk after m n) first second)

pub from_none : (g : List FlowNode) (kinds : StepKinds) (kept : List ℕ) (sources : List Bool) (rest : List ℕ) (old : List (List Bool)) → length rest ≡ 0 → Adds (IsFrom g kinds kept sources rest) old old
from_none g kinds kept sources rest old none m n = (λ has. inl has, λ either. ⊎_elim (λ has. has) (λ a. let within : a.target.0 < length rest = a.target.1 in absurd (omega (arith, within, none))) either)

-- a row of the pairs
pub hit_at : (graph : List FlowNode) (rows : List ℕ) (sources : List Bool) (targets : List ℕ) (m n : ℕ) (node : FlowNode) (is_source : Bool) → slice_get graph m ≡ Some node → IsTrue is_source ↔ IsOn sources m → (IsTrue is_source × IsHit node.next rows targets n) ↔ IsHitFrom graph rows sources targets m n
hit_at graph rows sources targets m n node is_source is says = (
  λ hit. (says.0 hit.0, (hit.1.0, hit.1.1, hit.1.2, (hit.1.3.0, Has-from graph m node (λ o. Contains o.next hit.1.3.0) is hit.1.3.1, hit.1.3.2))),
  λ hit. (says.1 hit.0, (hit.1.0, hit.1.1, hit.1.2, (hit.1.3.0, Has-at graph m node (λ o. Contains o.next hit.1.3.0) is hit.1.3.1, hit.1.3.2))),
)

pub hit_marks : (graph : List FlowNode) (rows : List ℕ) (sources : List Bool) (targets : List ℕ) (m : ℕ) (node : FlowNode) (is_source : Bool) (row new : List Bool) → slice_get graph m ≡ Some node → IsTrue is_source ↔ IsOn sources m
    → ((n : ℕ) → n < length row → IsOn new n ↔ (IsOn row n ⊎ (IsTrue is_source × IsHit node.next rows targets n))) → (n : ℕ) → n < length row → IsOn new n ↔ (IsOn row n ⊎ IsHitFrom graph rows sources targets m n)
hit_marks graph rows sources targets m node is_source row new is says marks n within =
    let at = hit_at graph rows sources targets m n node is_source is says in (
      λ on. ⊎_elim (λ was. inl was) (λ hit. inr (at.0 hit)) ((marks n within).0 on),
      λ either. (marks n within).1 (⊎_elim (λ was. inl was) (λ hit. inr (at.1 hit)) either),
    )

pub hit_inside : (graph : List FlowNode) (rows : List ℕ) (sources : List Bool) (targets : List ℕ) (m n : ℕ) → All (λ o. o < length sources) targets → IsHitFrom graph rows sources targets m n → n < length sources
hit_inside graph rows sources targets m n inside hit = subst (λ o. o < length sources) hit.1.2 (inside hit.1.0 0 hit.1.1)
