-- The nodes of a flow graph by their parts.
use Rattle.std.proofs.Common.{◌≡◌, ℕ, ◌+◌, Bool, List, [], ◌∷◌, ◌++◌, map, length, drop, get_or, refl, sym, subst, ◌∙◌, ap, append_assoc, append-nil, ◌<◌, ◌≤◌}
use Rattle.std.specs.Prelude.{not}
use Rattle.std.proofs.lemmas.List.{drop_more, drop_all}
use Rattle.image_map.specs.declared.image.Image.{Image}
use Rattle.image_map.specs.declared.region.Cell.{Cell}
use Rattle.image_map.specs.declared.region.Settings.{Settings}
use Rattle.alocs.specs.Cells.{cells_of}
use Rattle.matched_calls.specs.declared.kinds.StepKinds.{StepKinds}
use Rattle.std.specs.List.{flat_map}
use Rattle.flow_graph.specs.declared.graph.FlowNode.{FlowNode}
use Rattle.abs_steps.specs.Views.{View}
use Rattle.abs_steps.specs.Rows.{view_of}
use Rattle.abs_steps.specs.Places.{Content, content_at}
use Rattle.abs_steps.specs.Successors.{Placed, States}
use Rattle.access_facts.specs.declared.node.NodeSets.{NodeSets}
use Rattle.access_facts.specs.Flow.{flow_node, next_of, is_branch, is_end, is_empty, node_of}
use Rattle.access_facts.specs.declared.rows.Row.{Row}
use Rattle.access_facts.specs.Kinds.{paired, callees_of, returned_to, place_after, step_kinds}
use Rattle.access_facts.specs.NodeSets.{AreSets}
use Rattle.access_facts.specs.Places.{graph_cells, graph_regions, regions_of, procedures, keys, nodes_of, states_of}
use Rattle.access_facts.specs.Rows.{cells_in_rows}
use Rattle.access_facts.specs.Sets as set

abbrev pub made : ℕ → List ℕ → NodeSets → Bool → Bool → FlowNode
made at next sets branch end = record { at = at; next = next; may_use = sets.may_use; may_def = sets.may_def; must_def = sets.must_def; branch = branch; end = end }

abbrev with_parts : ℕ → List ℕ → List ℕ → List ℕ → List ℕ → Bool → Bool → FlowNode
with_parts at next used defined always branch end = record { at = at; next = next; may_use = used; may_def = defined; must_def = always; branch = branch; end = end }

same_parts : (at : ℕ) (next u1 u2 d1 d2 m1 m2 : List ℕ) (b1 b2 e1 e2 : Bool) → u1 ≡ u2 → d1 ≡ d2 → m1 ≡ m2 → b1 ≡ b2 → e1 ≡ e2
    → with_parts at next u1 d1 m1 b1 e1 ≡ with_parts at next u2 d2 m2 b2 e2
same_parts at next u1 u2 d1 d2 m1 m2 b1 b2 e1 e2 u d m b e =
    ap (λ x. with_parts at next x d1 m1 b1 e1) u ∙ ap (λ x. with_parts at next u2 x m1 b1 e1) d ∙ ap (λ x. with_parts at next u2 d2 x b1 e1) m
    ∙ ap (λ x. with_parts at next u2 d2 m2 x e1) b ∙ ap (λ x. with_parts at next u2 d2 m2 b2 x) e

pub flow_node_is : (image : Image) (settings : Settings) (s : States) (x : Placed) (cs : List Cell) (content : Content) (next : List ℕ) (sets : NodeSets) (goes_on branch end : Bool)
    → cs ≡ graph_cells s → content ≡ content_at image settings x.node.at → next ≡ next_of image settings s x → AreSets image cs (view_of x.state s.cells x.node.context.proc) content goes_on sets
    → goes_on ≡ not (is_empty next) → branch ≡ is_branch content → end ≡ is_end content settings x.node → made x.node.at next sets branch end ≡ flow_node image settings s x
unfolding flow_node
flow_node_is image settings s x cs content next sets goes_on branch end cells is steps are on branches ends =
    let v : View = view_of x.state s.cells x.node.context.proc in
    let there : Content = content_at image settings x.node.at in
    let with_cells : AreSets image (graph_cells s) v content goes_on sets = subst (λ (k : List Cell). AreSets image k v content goes_on sets) cells are in
    let with_content : AreSets image (graph_cells s) v there goes_on sets = subst (λ (k : Content). AreSets image (graph_cells s) v k goes_on sets) is with_cells in
    let h : AreSets image (graph_cells s) v there (not (is_empty next)) sets = subst (λ (b : Bool). AreSets image (graph_cells s) v there b sets) on with_content in
    same_parts x.node.at next sets.may_use (set.may_use (graph_cells s) v there) sets.may_def (set.may_def image (graph_cells s) v there (not (is_empty next))) sets.must_def (set.must_def image (graph_cells s) v there (not (is_empty next)))
    branch (is_branch there) end (is_end there settings x.node) h.may_use h.may_def h.must_def (branches ∙ ap is_branch is) (ends ∙ ap (λ k. is_end k settings x.node) is)
    ∙ ap (node_of image settings (graph_cells s) v there x.node) steps

-- -- Cells

pub graph_cells_are : (s : States) (rows found : List Row) (ps ks : List ℕ) → rows ≡ found → cells_in_rows found ≡ flat_map (cells_of s.cells) (regions_of ps ks) → ps ≡ procedures (nodes_of s) → ks ≡ keys (states_of s)
    → cells_in_rows rows ≡ graph_cells s
unfolding graph_cells graph_regions
graph_cells_are s rows found ps ks same cells p k =
    ap cells_in_rows same ∙ cells ∙ ap (λ q. flat_map (cells_of s.cells) (regions_of q ks)) p ∙ ap (λ q. flat_map (cells_of s.cells) (regions_of (procedures (nodes_of s)) q)) k

-- -- Pairs of numbers

abbrev with_kinds : List (ℕ × ℕ) → List (ℕ × ℕ) → List (ℕ × ℕ) → StepKinds
with_kinds calls returns after = record { calls = calls; returns = returns; after = after }

pub kinds_are : (image : Image) (settings : Settings) (s : States) (calls returns after : List (ℕ × ℕ)) → calls ≡ paired (callees_of image settings s) 0 s.placed → returns ≡ paired (returned_to image settings s) 0 s.placed
    → after ≡ paired (place_after image settings s) 0 s.placed → with_kinds calls returns after ≡ step_kinds image settings s
unfolding step_kinds
kinds_are image settings s calls returns after c r a =
    ap (λ t. with_kinds t returns after) c ∙ ap (λ t. with_kinds (paired (callees_of image settings s) 0 s.placed) t after) r
    ∙ ap (λ t. with_kinds (paired (callees_of image settings s) 0 s.placed) (paired (returned_to image settings s) 0 s.placed) t) a

paired_cons : {A : Type 0} (tells : A → List ℕ) (n : ℕ) (x : A) (xs : List A) → paired tells n (x ∷ xs) ≡ map (λ k. (n, k)) (tells x) ++ paired tells (n + 1) xs
unfolding paired
paired_cons tells n x xs = refl

pub pair_step : {A : Type 0} (tells : A → List ℕ) (n more : ℕ) (xs : List A) (i : ℕ) (x : A) (out next whole : List (ℕ × ℕ)) → i < length xs → x ≡ get_or xs i x
    → next ≡ out ++ map (λ k. (n, k)) (tells x) → more ≡ n + 1 → out ++ paired tells n (drop i xs) ≡ whole → next ++ paired tells more (drop (i + 1) xs) ≡ whole
pair_step {A} tells n more xs i x out next whole lt is put on e =
    let rest : List A = drop (i + 1) xs in
    let head : drop i xs ≡ x ∷ rest = drop_more xs i x lt ∙ ap (λ y. y ∷ rest) (sym is) in
    ap (λ t. t ++ paired tells more rest) put ∙ ap (λ k. (out ++ map (λ m. (n, m)) (tells x)) ++ paired tells k rest) on
    ∙ append_assoc out (map (λ m. (n, m)) (tells x)) (paired tells (n + 1) rest) ∙ sym (ap (λ t. out ++ t) (ap (paired tells n) head ∙ paired_cons tells n x rest)) ∙ e

pub pair_end : {A : Type 0} (tells : A → List ℕ) (n : ℕ) (xs : List A) (i : ℕ) (out whole : List (ℕ × ℕ)) → length xs ≤ i → out ++ paired tells n (drop i xs) ≡ whole → out ≡ whole
unfolding paired
pair_end {A} tells n xs i out whole le e = sym (append-nil out) ∙ sym (ap (λ (ys : List A). out ++ paired tells n ys) (drop_all i xs le)) ∙ e

pub paired_map : {A B : Type 0} (tells : B → List ℕ) (f : A → B) (n : ℕ) (xs : List A) → paired (λ x. tells (f x)) n xs ≡ paired tells n (map f xs)
unfolding paired
paired_map tells f n [] = refl
paired_map tells f n (x ∷ xs) = ap (λ t. map (λ k. (n, k)) (tells (f x)) ++ t) (paired_map tells f (n + 1) xs)
