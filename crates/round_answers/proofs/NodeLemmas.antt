-- Nodes of a round's graph, and of its map.
use Rattle.std.proofs.Common.{◌≡◌, ⊎_elim, ℕ, zero, suc, ◌+◌, ◌<◌, ◌≤◌, Bool, true, false, cond, None, List, [], ◌∷◌, length, get_or, map, refl, sym, subst, ap, ◌∙◌, arith}
use Rattle.std.specs.Prelude.{◌==◌, All, Contains}
use Rattle.std.proofs.lemmas.Bool.{cond_both, eq-eqb}
use Rattle.std.proofs.lemmas.List.{length-map}
use Rattle.std.proofs.lemmas.List.Elements.{Contains-append_cases, Contains-get_or}
use Rattle.image_map.specs.declared.image.Image.{Image}
use Rattle.image_map.specs.declared.region.Settings.{Settings}
use Rattle.alocs.proofs.MemberLaws.{contains-cases, contains-none}
use Rattle.flow_graph.specs.declared.graph.FlowNode.{FlowNode}
use Rattle.flow_graph.specs.FlowGraph.{IsAt}
use Rattle.abs_steps.specs.Successors.{Placed, States, moved_to, place_behind, successors}
use Rattle.call_strings.specs.Nodes.{same_node}
use Rattle.chops.specs.Answers.{IsPresent}
use Rattle.matched_calls.specs.Matched.{HasKinds}
use Rattle.access_facts.specs.Flow.{flow, flow_node, is_among, next_of}
use Rattle.access_facts.specs.Next.{numbers_of}
use Rattle.access_facts.specs.Sets.{calls}
use Rattle.access_facts.specs.Kinds.{callees_of, content_of, paired, returns, place_after, returned_to, step_kinds}
use Rattle.access_facts.specs.Rising.{AreBelow}
use Rattle.access_facts.proofs.RiseLemmas.{picked_below}
use Rattle.vsa.specs.Views.{told}
use Rattle.rounds.specs.declared.round.Round.{Round}
use Rattle.rounds.specs.Rounds.{IsRound}
use Rattle.round_texts.specs.Values.{placed_at, unless_none, values_reply}

-- -- A node of the graph is one of the map at the same address

some_placed : (image : Image) (settings : Settings) (s : States) (ps : List Placed) (at n : ℕ) → IsAt (map (flow_node image settings s) ps) at n → ¬ (placed_at at ps ≡ [])
unfolding flow_node
some_placed image settings s [] at n stands = absurd stands
some_placed image settings s (p ∷ ps) at zero stands =
    let yes : (p.node.at == at) ≡ true = eq-eqb p.node.at at stands in
    subst (λ b. ¬ (cond b (p ∷ placed_at at ps) (placed_at at ps) ≡ [])) (sym yes) (λ e. absurd (cc e))
some_placed image settings s (p ∷ ps) at (suc n) stands =
    cond_both (p.node.at == at) (p ∷ placed_at at ps) (placed_at at ps) (λ (xs : List Placed). ¬ (xs ≡ [])) (λ _ e. absurd (cc e)) (λ _. some_placed image settings s ps at n stands)

some_reply : (r : Round) (at : ℕ) (ps : List Placed) → ¬ (ps ≡ []) → ¬ (unless_none r at ps ≡ None)
some_reply r at [] some = absurd (some refl)
some_reply r at (p ∷ ps) some = λ e. absurd (cc e)

pub values_there : (image : Image) (settings : Settings) (r : Round) (at : ℕ) → IsRound image settings r → IsPresent r.graph.flow.nodes at → ¬ (values_reply r at ≡ None)
unfolding flow
values_there image settings r at round present =
    some_reply r at (placed_at at (told r.states).placed)
    (some_placed image settings (told r.states) (told r.states).placed at present.0 (subst (λ (g : List FlowNode). IsAt g at present.0) round.flow present.1))

-- -- Kinds of steps are told of nodes

below_has : (size : ℕ) (ns : List ℕ) (n : ℕ) → AreBelow size ns → Contains ns n → n < size
below_has size [] n below has = absurd (contains-none n has)
below_has size (m ∷ ns) n below has = ⊎_elim (λ same. subst (λ k. k < size) same below.0) (λ later. below_has size ns n below.1 later) (contains-cases m ns n has)

row_within : (first size : ℕ) (ns : List ℕ) (p : ℕ × ℕ) → first < size → AreBelow size ns → Contains (map (λ n. (first, n)) ns) p → (p.0 < size) × (p.1 < size)
row_within first size [] p low below has = absurd (contains-none p has)
row_within first size (n ∷ ns) p low below has =
    ⊎_elim (λ same. subst (λ (q : ℕ × ℕ). (q.0 < size) × (q.1 < size)) same (low, below.0)) (λ later. row_within first size ns p low below.1 later) (contains-cases (first, n) (map (λ m. (first, m)) ns) p has)

pairs_within : {A : Type 0} (tells : A → List ℕ) (first size : ℕ) (xs : List A) (p : ℕ × ℕ) → ((x : A) → AreBelow size (tells x)) → first + length xs ≤ size → Contains (paired tells first xs) p → (p.0 < size) × (p.1 < size)
unfolding paired
pairs_within tells first size [] p below room has = absurd (contains-none p has)
pairs_within tells first size (x ∷ xs) p below room has =
    ⊎_elim
    (λ here. row_within first size (tells x) p (omega (arith, room)) (below x) here)
    (λ later. pairs_within tells (first + 1) size xs p below (omega (arith, room)) later)
    (Contains-append_cases (map (λ n. (first, n)) (tells x)) (paired tells (first + 1) xs) p has)

all_within : {A : Type 0} (tells : A → List ℕ) (size : ℕ) (xs : List A) → ((x : A) → AreBelow size (tells x)) → length xs ≡ size → All (λ (pair : ℕ × ℕ). (pair.0 < size) × (pair.1 < size)) (paired tells 0 xs)
all_within tells size xs below many k d within =
    pairs_within tells 0 size xs (get_or (paired tells 0 xs) k d) below (omega (arith, many)) (Contains-get_or (paired tells 0 xs) k d within)

if_below : (size : ℕ) (b : Bool) (ns : List ℕ) → AreBelow size ns → AreBelow size (cond b ns [])
if_below size true ns below = below
if_below size false ns below = tt

next_below : (image : Image) (settings : Settings) (s : States) (size : ℕ) (p : Placed) → length s.placed ≡ size → AreBelow size (next_of image settings s p)
unfolding next_of
next_below image settings s size p many = picked_below (is_among (successors image settings s p.node p.state)) 0 size s.placed (omega (arith, many))

kinds_of_map : (image : Image) (settings : Settings) (s : States) (g : List FlowNode) → length s.placed ≡ length g → HasKinds g (step_kinds image settings s)
unfolding step_kinds callees_of returned_to place_after
kinds_of_map image settings s g many = record {
  calls = all_within (callees_of image settings s) (length g) s.placed (λ p. if_below (length g) (calls (content_of image settings p)) (next_of image settings s p) (next_below image settings s (length g) p many)) many;
  returns = all_within (returned_to image settings s) (length g) s.placed (λ p. if_below (length g) (returns (content_of image settings p)) (next_of image settings s p) (next_below image settings s (length g) p many)) many;
  after = all_within (place_after image settings s) (length g) s.placed
      (λ p. if_below (length g) (calls (content_of image settings p)) (numbers_of (moved_to (place_behind (content_of image settings p)) p.node) s.placed)
      (picked_below (λ (o : Placed). same_node (moved_to (place_behind (content_of image settings p)) p.node) o.node) 0 (length g) s.placed (omega (arith, many)))) many;
}

-- the kinds of steps of a round are told of its nodes
pub kinds_within : (image : Image) (settings : Settings) (r : Round) → IsRound image settings r → HasKinds r.graph.flow.nodes (step_kinds image settings (told r.states))
unfolding flow
kinds_within image settings r round =
    let s = told r.states in
    kinds_of_map image settings s r.graph.flow.nodes (sym (ap (λ (g : List FlowNode). length g) round.flow ∙ length-map s.placed (flow_node image settings s)))
