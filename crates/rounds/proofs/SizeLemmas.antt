-- How many nodes and warnings a round may have.
use Rattle.std.proofs.Common.{◌≡◌, ℕ, ◌+◌, ◌*◌, ◌≤◌, Bool, true, false, not, cond, List, [], ◌∷◌, ◌++◌, map, length, refl, sym, subst, ap, arith}
use Rattle.std.specs.List.{filter, flat_map, fold}
use Rattle.std.proofs.lemmas.List.{length-map, length-append}
use Rattle.std.proofs.lemmas.List.Filters.{length-filter_both}
use Rattle.image_map.specs.declared.image.Image.{Image}
use Rattle.image_map.specs.declared.region.Settings.{Settings}
use Rattle.alocs.specs.Cells.{Division}
use Rattle.abs_steps.specs.Places.{Content, content_at}
use Rattle.abs_steps.specs.Views.{View}
use Rattle.abs_steps.specs.Rows.{view_of}
use Rattle.abs_steps.specs.Successors.{Placed, States, at_node}
use Rattle.abs_steps.specs.Warnings.{warnings, has_warning, names}
use Rattle.abs_state.specs.Puts.{put_in}
use Rattle.access_facts.specs.Flow.{flow}
use Rattle.sweeps.specs.Sweeps.{entry_of}
use Rattle.vsa.specs.declared.warning.Warning.{Warning}
use Rattle.call_strings.specs.declared.context.Node.{Node}
use Rattle.vsa.specs.Tables.{Table, state_of}
use Rattle.vsa.specs.Analysis.{Analysis, analysis_of, meaning_of}
use Rattle.vsa.specs.Closed.{entry_node, is_closed}
use Rattle.vsa.specs.Swept.{analysed, first_table}
use Rattle.vsa.specs.Views.{told}
use Rattle.vsa.specs.Warned.{same_warning, warning_before, named_at, with_warning, of_map, warnings_at, map_warnings}
use Rattle.rounds.specs.declared.round.Round.{Round}
use Rattle.rounds.specs.Rounds.{IsRound, map_with}
use Rattle.rounds.proofs.SweepSizes.{few_swept}

-- -- Nodes

few_analysed : (x : Analysis) → length (analysed x).rows ≤ 4096
unfolding analysed
few_analysed x = few_swept (meaning_of x) 4096 (entry_node x.settings.entry) (first_table x) (omega arith)

few_placed : (image : Image) (settings : Settings) (lane : ℕ) (d : Division) → length (map_with image settings lane d).placed ≤ 4096
few_placed image settings lane d =
    let rows = (analysed (analysis_of image settings d lane)).rows in
    let few : length rows ≤ 4096 = few_analysed (analysis_of image settings d lane) in
    let entries = length-map rows entry_of in
    let placed = length-map (map entry_of rows) (λ (e : Node × Table). at_node e.0 (state_of e.1)) in
    omega (arith, few, entries, placed)

few_told : (image : Image) (settings : Settings) (r : Round) → IsRound image settings r → length (told r.states).placed ≤ 4096
few_told image settings r h = subst (λ (s : States). length s.placed ≤ 4096) (sym h.states) (few_placed image settings r.lane r.cells)

as_many_nodes : (image : Image) (settings : Settings) (s : States) → length (flow image settings s) ≡ length s.placed
unfolding flow
as_many_nodes image settings s = length-map s.placed _

pub few_nodes : (image : Image) (settings : Settings) (r : Round) → IsRound image settings r → length r.graph.flow.nodes ≤ 4096
few_nodes image settings r h =
    let is = ap length h.flow in
    let many = as_many_nodes image settings (told r.states) in
    let few = few_told image settings r h in
    omega (arith, is, many, few)

-- -- Warnings

few_put : {A : Type 0} (same before : A → Bool) (over : A → A) (new : A) (xs : List A) → length (put_in same before over new xs) ≤ length xs + 1
few_put same before over new [] = omega arith
few_put same before over new (x ∷ xs) = by (same x) (before x) (few_put same before over new xs)
  where
    by : (b c : Bool) → length (put_in same before over new xs) ≤ length xs + 1 → length (cond b (over x ∷ xs) (cond c (x ∷ put_in same before over new xs) (new ∷ x ∷ xs))) ≤ length (x ∷ xs) + 1
    by true c h = omega arith
    by false true h = omega (arith, h)
    by false false h = omega arith

few_folded : (into ws : List Warning) → length (fold with_warning into ws) ≤ length into + length ws
few_folded into [] = omega arith
few_folded into (w ∷ ws) =
    let h = few_folded (with_warning into w) ws in
    let one = few_put (λ x. same_warning x w) (λ x. warning_before x w) (λ x. w) w into in
    omega (arith, h, one)

few_passed : {A : Type 0} (p : A → Bool) (xs : List A) → length (filter p xs) ≤ length xs
few_passed p xs = let h = length-filter_both p (λ x. not (p x)) (λ x. refl) xs in omega (arith, h)

few_named : (content : Content) (image : Image) (v : View) → length (warnings content image v) ≤ 8
unfolding warnings
few_named content image v = few_passed (has_warning content image v) names

few_at : (image : Image) (settings : Settings) (s : States) (p : Placed) → length (warnings_at image settings s p) ≤ 8
few_at image settings s p =
    let content = content_at image settings p.node.at in
    let v = view_of p.state s.cells p.node.context.proc in
    let here = length-map (warnings content image v) (named_at p.node.at) in
    let few = few_named content image v in
    omega (arith, here, few)

few_gathered : {A B : Type 0} (f : A → List B) → ((x : A) → length (f x) ≤ 8) → (xs : List A) → length (flat_map f xs) ≤ 8 * length xs
few_gathered f few [] = omega arith
few_gathered f few (x ∷ xs) =
    let h = few_gathered f few xs in
    let here = few x in
    let all = length-append (f x) (flat_map f xs) in
    omega (arith, h, here, all)

few_of_map : (full closed : Bool) → length (of_map full closed) ≤ 2
few_of_map true true = omega arith
few_of_map true false = omega arith
few_of_map false true = omega arith
few_of_map false false = omega arith

few_in_map : (image : Image) (settings : Settings) (s : States) (full : Bool) → length (map_warnings image settings s full) ≤ 8 * length s.placed + 2
unfolding map_warnings
few_in_map image settings s full =
    let each = flat_map (warnings_at image settings s) s.placed in
    let whole = of_map full (is_closed image settings s) in
    let once = few_folded [] (each ++ whole) in
    let all = length-append each whole in
    let gathered = few_gathered (warnings_at image settings s) (few_at image settings s) s.placed in
    let two = few_of_map full (is_closed image settings s) in
    omega (arith, once, all, gathered, two)

pub few_warnings : (image : Image) (settings : Settings) (r : Round) → IsRound image settings r → length r.warnings.items ≤ 32770
few_warnings image settings r h =
    let is = ap length h.warnings in
    let many = few_in_map image settings (told r.states) r.states.full in
    let few = few_told image settings r h in
    omega (arith, is, many, few)
