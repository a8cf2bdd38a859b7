-- A question has one reply.
use Rattle.std.proofs.Common.{◌≡◌, ⊎_elim, inl, inr, ℕ, Bool, Some, List, [], ◌∷◌, ◌++◌, length, map, refl, sym, subst, ap, ◌∙◌}
use Rattle.std.specs.Prelude.{◌⊎◌, codes, Contains}
use Rattle.std.specs.List.{flat_map}
use Rattle.std.specs.Fmt.{decimal}
use Rattle.image_map.specs.declared.image.Image.{Image}
use Rattle.image_map.specs.declared.region.Settings.{Settings}
use Rattle.serde_json.specs.Data.{Data, member, no_members, object}
use Rattle.serde_json.specs.Written.{compact_text}
use Rattle.flow_graph.specs.declared.graph.FlowNode.{FlowNode}
use Rattle.flow_graph.specs.FlowGraph.{IsAt}
use Rattle.flow_graph.specs.Marked.Marked.{seed}
use Rattle.control_walks.specs.ControlWalks.{Controls}
use Rattle.dep_graph.specs.Edges.{ListsPairs}
use Rattle.slicer.specs.Slicer.{IsSlice, ListedEdge}
use Rattle.slicer.proofs.GrowLemmas.{marked-then}
use Rattle.chops.specs.Chops.{AreAddresses, IsChop, IsForwardSlice, InChop, InForward}
use Rattle.chops.specs.Hops.{IsWhy}
use Rattle.matched_calls.specs.declared.kinds.StepKinds.{StepKinds}
use Rattle.matched_calls.specs.Matched.{MatchedEdge}
use Rattle.matched_calls.specs.Slices.{HasMatches, InSliceOver, OrdinaryMatch}
use Rattle.access_facts.specs.Kinds.{step_kinds}
use Rattle.abs_steps.specs.Successors.{Placed}
use Rattle.requests.specs.Texts.{first_line, last_line, listed, warnings_text, why_text}
use Rattle.vsa.specs.Views.{told}
use Rattle.rounds.specs.declared.round.Round.{Round}
use Rattle.rounds.specs.Rounds.{IsRound}
use Rattle.round_texts.specs.Graph.{IsGraphReply, graph_data, list_data, node_data, number_data, pair_data}
use Rattle.round_texts.specs.Locations.{cell_line, listed_cells, locations_reply}
use Rattle.round_texts.specs.Values.{node_text, placed_at, unless_none, values_reply}
use Rattle.round_texts.specs.Warnings.{named, warning_count}
use Rattle.round_answers.specs.declared.question.Question.{Question}
use Rattle.round_answers.specs.declared.question.Question.TheVariants as asks
use Rattle.round_answers.specs.Replies as replies
use Rattle.round_answers.specs.Replies.{IsMatchedSlice, IsOwnReply, IsReply, Lists, TellsPath, arrows_of, has_some, warnings_behind}
use Rattle.round_answers.proofs.FaceLemmas.{Face, face_of, one_face}
use Rattle.round_answers.proofs.HopLemmas.{one_why}
use Rattle.round_answers.proofs.RisingLemmas.{one_listing, one_pairs, one_rising}

-- -- Lists of addresses

one_slice : (E : ℕ → ℕ → Type 0) (g : List FlowNode) (at : ℕ) (xs ys : List ℕ) → IsSlice E g at xs → IsSlice E g at ys → xs ≡ ys
one_slice E g at xs ys a b = one_rising xs ys a.rising b.rising (λ x. (λ has. (b.listed x).1 ((a.listed x).0 has), λ has. (a.listed x).1 ((b.listed x).0 has)))

same_addresses : (g : List FlowNode) (P : ℕ → Type 0) (xs ys : List ℕ) → AreAddresses g P xs → AreAddresses g P ys → xs ≡ ys
same_addresses g P xs ys = one_listing g P P xs ys (λ n. (λ h. h, λ h. h))

over_control : (Edge : ℕ → ℕ → Type 0) (c d : List (ℕ × ℕ)) (g : List FlowNode) (at n : ℕ) → ((b m : ℕ) → Contains c (b, m) → Contains d (b, m))
    → InSliceOver Edge (λ b m. Contains c (b, m)) g at n → InSliceOver Edge (λ b m. Contains d (b, m)) g at n
over_control Edge c d g at n like sliced =
    marked-then (IsAt g at) (IsAt g at) (λ later earlier. Edge earlier later ⊎ Contains c (earlier, later)) (λ later earlier. Edge earlier later ⊎ Contains d (earlier, later))
    (λ m stands. seed stands) (λ later earlier goes. ⊎_elim (λ edge. inl edge) (λ controls. inr (like earlier later controls)) goes) sliced

one_matched : (kinds : StepKinds) (r : Round) (at : ℕ) (skip_sp : Bool) (xs ys : List ℕ) → IsMatchedSlice kinds r at skip_sp xs → IsMatchedSlice kinds r at skip_sp ys → xs ≡ ys
one_matched kinds r at skip_sp xs ys a b =
    let g = r.graph.flow.nodes in
    let ordinary : b.ordinary ≡ a.ordinary = one_pairs (OrdinaryMatch g kinds) b.ordinary a.ordinary b.matches.ordinary_edges a.matches.ordinary_edges in
    let sp : b.sp ≡ a.sp = one_pairs (MatchedEdge g kinds 4) b.sp a.sp b.matches.sp_edges a.matches.sp_edges in
    let other : AreAddresses g (InSliceOver (ListedEdge a.ordinary a.sp skip_sp) (λ m n. Contains b.control (m, n)) g at) ys =
    subst (λ (es : List (ℕ × ℕ)). AreAddresses g (InSliceOver (ListedEdge a.ordinary es skip_sp) (λ m n. Contains b.control (m, n)) g at) ys) sp
    (subst (λ (es : List (ℕ × ℕ)). AreAddresses g (InSliceOver (ListedEdge es b.sp skip_sp) (λ m n. Contains b.control (m, n)) g at) ys) ordinary b.are) in
    one_listing g (InSliceOver (ListedEdge a.ordinary a.sp skip_sp) (λ m n. Contains a.control (m, n)) g at) (InSliceOver (ListedEdge a.ordinary a.sp skip_sp) (λ m n. Contains b.control (m, n)) g at) xs ys
    (λ n. (
      over_control (ListedEdge a.ordinary a.sp skip_sp) a.control b.control g at n (λ m o has. (b.matches.controls m o).1 ((a.matches.controls m o).0 has)),
      over_control (ListedEdge a.ordinary a.sp skip_sp) b.control a.control g at n (λ m o has. (a.matches.controls m o).1 ((b.matches.controls m o).0 has)),
    ))
    a.are other

-- the graph's data by the face of a round
abbrev graph_with : List (ℕ × ℕ) → Face → Data
graph_with control f =
    object (member (codes "control") (list_data pair_data control)
    (member (codes "edges") (list_data pair_data f.ordinary)
    (member (codes "lane") (number_data f.lane)
    (member (codes "nodes") (list_data node_data f.nodes)
    (member (codes "round") (number_data f.number)
    (member (codes "sp") (list_data pair_data f.sp) no_members))))))

module _ (r q : Round) (same : face_of r ≡ face_of q) where
  -- what is said of the one round's face is said of the other's
  carried : (P : Face → Type 0) → P (face_of q) → P (face_of r)
  carried P h = subst P (sym same) h

  one_list : (word asked : List ℕ) (Are Are' : List ℕ → Type 0) (a b : List ℕ) → ((xs ys : List ℕ) → Are xs → Are' ys → xs ≡ ys) → Lists r word asked Are a → Lists q word asked Are' b → a ≡ b
  one_list word asked Are Are' a b like x y =
      let one : x.addresses ≡ y.addresses = like x.addresses y.addresses x.are y.are in
      let text : listed word asked r.number r.lane x.addresses (warning_count r) ≡ listed word asked q.number q.lane y.addresses (warning_count q) = λ i. listed word asked (same i).number (same i).lane (one i) (length (same i).warnings) in
      x.text_is ∙ text ∙ sym y.text_is

  one_slices : (at : ℕ) (skip_sp : Bool) (xs ys : List ℕ) → IsSlice (replies.EdgeOf r skip_sp) r.graph.flow.nodes at xs → IsSlice (replies.EdgeOf q skip_sp) q.graph.flow.nodes at ys → xs ≡ ys
  one_slices at skip_sp xs ys a b = one_slice (replies.EdgeOf r skip_sp) r.graph.flow.nodes at xs ys a (carried (λ (f : Face). IsSlice (ListedEdge f.ordinary f.sp skip_sp) f.graph at ys) b)

  one_forward : (at : ℕ) (skip_sp : Bool) (xs ys : List ℕ) → IsForwardSlice (replies.EdgeOf r skip_sp) r.graph.flow.nodes at xs → IsForwardSlice (replies.EdgeOf q skip_sp) q.graph.flow.nodes at ys → xs ≡ ys
  one_forward at skip_sp xs ys a b =
      same_addresses r.graph.flow.nodes (InForward (replies.EdgeOf r skip_sp) r.graph.flow.nodes at) xs ys a (carried (λ (f : Face). IsForwardSlice (ListedEdge f.ordinary f.sp skip_sp) f.graph at ys) b)

  one_chop : (from to : ℕ) (skip_sp : Bool) (xs ys : List ℕ) → IsChop (replies.EdgeOf r skip_sp) r.graph.flow.nodes from to xs → IsChop (replies.EdgeOf q skip_sp) q.graph.flow.nodes from to ys → xs ≡ ys
  one_chop from to skip_sp xs ys a b =
      same_addresses r.graph.flow.nodes (InChop (replies.EdgeOf r skip_sp) r.graph.flow.nodes from to) xs ys a (carried (λ (f : Face). IsChop (ListedEdge f.ordinary f.sp skip_sp) f.graph from to ys) b)

  one_matches : (image : Image) (settings : Settings) (at : ℕ) (skip_sp : Bool) (xs ys : List ℕ) → IsMatchedSlice (step_kinds image settings (told r.states)) r at skip_sp xs → IsMatchedSlice (step_kinds image settings (told q.states)) q at skip_sp ys → xs ≡ ys
  one_matches image settings at skip_sp xs ys a b =
      one_matched (step_kinds image settings (told r.states)) r at skip_sp xs ys a
      (record {
        ordinary = b.ordinary;
        sp = b.sp;
        control = b.control;
        matches = carried (λ (f : Face). HasMatches f.graph (step_kinds image settings f.map) b.ordinary b.sp b.control) b.matches;
        are = carried (λ (f : Face). AreAddresses f.graph (InSliceOver (ListedEdge b.ordinary b.sp skip_sp) (λ m n. Contains b.control (m, n)) f.graph at) ys) b.are;
      })

  one_path_told : (from to : ℕ) (skip_sp : Bool) (a b : List ℕ) → TellsPath r from to skip_sp a → TellsPath q from to skip_sp b → a ≡ b
  one_path_told from to skip_sp a b x y =
      let hops : x.hops ≡ y.hops = one_why (replies.EdgeOf r skip_sp) r.graph.flow.nodes from to x.hops y.hops x.are (carried (λ (f : Face). IsWhy (ListedEdge f.ordinary f.sp skip_sp) f.graph from to y.hops) y.are) in
      let text : why_text from to r.number r.lane (arrows_of x.hops) (warning_count r) ≡ why_text from to q.number q.lane (arrows_of y.hops) (warning_count q) = λ i. why_text from to (same i).number (same i).lane (arrows_of (hops i)) (length (same i).warnings) in
      x.text_is ∙ text ∙ sym y.text_is

  -- -- What a round holds

  one_graph : (a b : List ℕ) → IsGraphReply r a → IsGraphReply q b → a ≡ b
  one_graph a b x y =
      let control : x.control ≡ y.control = one_pairs (Controls r.graph.flow.nodes) x.control y.control x.pairs (carried (λ (f : Face). ListsPairs (Controls f.graph) y.control) y.pairs) in
      let text : graph_data r x.control ≡ graph_data q y.control = λ i. graph_with (control i) (same i) in
      x.text_is ∙ ap (λ d. compact_text d ++ 10 ∷ []) text ∙ sym y.text_is

  values_like : (at : ℕ) (ps : List Placed) → unless_none r at ps ≡ unless_none q at ps
  values_like at [] = refl
  values_like at (p ∷ ps) = λ i. Some (first_line (codes "values") (at ∷ []) (same i).number (same i).lane ++ (flat_map node_text (p ∷ ps) ++ last_line (decimal (length (p ∷ ps))) (codes " nodes ") (length (same i).warnings)))

  one_values : (at : ℕ) (a b : List ℕ) → values_reply r at ≡ Some a → values_reply q at ≡ Some b → a ≡ b
  one_values at a b x y =
      let there : values_reply r at ≡ values_reply q at = values_like at (placed_at at (told r.states).placed) ∙ ap (λ (f : Face). unless_none q at (placed_at at f.map.placed)) same in
      let both : Some a ≡ Some b = sym x ∙ there ∙ y in
      cc both

  one_locations : locations_reply r ≡ locations_reply q
  one_locations = λ i. first_line (codes "locations") [] (same i).number (same i).lane ++ (flat_map cell_line (listed_cells (same i).cells) ++ last_line (decimal (length (listed_cells (same i).cells))) (codes " cells ") (length (same i).warnings))

  one_warned : warnings_behind r ≡ warnings_behind q
  one_warned = λ i. replies.unless_none (has_some (same i).warnings) (warnings_text (same i).number (same i).lane (map named (same i).warnings))

  -- -- Replies

  one_own : (image : Image) (settings : Settings) (question : Question) (a b : List ℕ) → IsOwnReply image settings r question a → IsOwnReply image settings q question b → a ≡ b
  one_own image settings (asks.Slice at skip_sp) a b x y = one_list (codes "slice") (at ∷ []) (IsSlice (replies.EdgeOf r skip_sp) r.graph.flow.nodes at) (IsSlice (replies.EdgeOf q skip_sp) q.graph.flow.nodes at) a b (one_slices at skip_sp) x y
  one_own image settings (asks.Values at) a b x y = one_values at a b x y
  one_own image settings asks.Locations a b x y = x ∙ one_locations ∙ sym y
  one_own image settings asks.Graph a b x y = one_graph a b x y
  one_own image settings (asks.Forward at skip_sp) a b x y = one_list (codes "forward") (at ∷ []) (IsForwardSlice (replies.EdgeOf r skip_sp) r.graph.flow.nodes at) (IsForwardSlice (replies.EdgeOf q skip_sp) q.graph.flow.nodes at) a b (one_forward at skip_sp) x y
  one_own image settings (asks.Chop from at skip_sp) a b x y = one_list (codes "chop") (from ∷ at ∷ []) (IsChop (replies.EdgeOf r skip_sp) r.graph.flow.nodes from at) (IsChop (replies.EdgeOf q skip_sp) q.graph.flow.nodes from at) a b (one_chop from at skip_sp) x y
  one_own image settings (asks.Why from at skip_sp) a b x y = one_path_told from at skip_sp a b x y
  one_own image settings (asks.Matched at skip_sp) a b x y =
      one_list (codes "matched") (at ∷ []) (IsMatchedSlice (step_kinds image settings (told r.states)) r at skip_sp) (IsMatchedSlice (step_kinds image settings (told q.states)) q at skip_sp) a b (one_matches image settings at skip_sp) x y

  one_whole : (image : Image) (settings : Settings) (question : Question) (a b : List ℕ) → IsReply image settings r question a → IsReply image settings q question b → a ≡ b
  one_whole image settings question a b x y =
      let own : x.own ≡ y.own = one_own image settings question x.own y.own x.is_own y.is_own in
      let text : x.own ++ warnings_behind r ≡ y.own ++ warnings_behind q = λ i. own i ++ one_warned i in
      x.text_is ∙ text ∙ sym y.text_is

pub one_reply : (image : Image) (settings : Settings) (r q : Round) (question : Question) (a b : List ℕ) → IsRound image settings r → IsRound image settings q → r.number ≡ q.number → r.lane ≡ q.lane → IsReply image settings r question a → IsReply image settings q question b → a ≡ b
one_reply image settings r q question a b is other number lane = one_whole r q (one_face image settings r q is other number lane) image settings question a b
