-- What the check's answers say: of a map without its entry, and of one without a warning.
use Rattle.std.proofs.Common.{◌≡◌, ◌||◌, ◌&&◌, Bool, true, false, cond, List, [], ◌∷◌, ◌++◌, map, refl, ap}
use Rattle.std.specs.List.{list_all, flat_map, fold, AllByRecursion}
use Rattle.std.proofs.lemmas.Bool.{true≢false}
use Rattle.image_map.specs.declared.image.Image.{Image}
use Rattle.image_map.specs.declared.region.Settings.{Settings}
use Rattle.call_strings.specs.declared.context.Node.{Node}
use Rattle.call_strings.specs.Nodes.{same_node}
use Rattle.abs_semantics.specs.States.{AbsState}
use Rattle.abs_semantics.specs.Below.{state_below}
use Rattle.abs_semantics.specs.Start.{initial_state}
use Rattle.abs_steps.specs.declared.warnings.WarnName.{WarnName}
use Rattle.abs_steps.specs.Successors.{Placed, States, at_node}
use Rattle.abs_state.specs.Puts.{put_in}
use Rattle.vsa.specs.declared.warning.Warning.{Warning}
use Rattle.vsa.specs.Closed.{entry_node, has_above, goes_within, is_closed}
use Rattle.vsa.specs.Warned.{same_warning, warning_before, with_warning, named_at, warnings_at, of_map, map_warnings}
use Rattle.vsa.specs.Laws.{has_node, node_warnings, IsClean}

-- -- Without its entry a map is open

nothing_above : (ps : List Placed) (n : Node) (a : AbsState) → has_node n ps ≡ false → has_above ps (at_node n a) ≡ false
unfolding has_above
nothing_above [] n a h = refl
nothing_above (p ∷ ps) n a h = by (same_node p.node n) h (nothing_above ps n a)
  where
    by : (t : Bool) → (t || has_node n ps) ≡ false → (has_node n ps ≡ false → has_above ps (at_node n a) ≡ false) → cond t (state_below a p.state) (has_above ps (at_node n a)) ≡ false
    by true h rest = absurd (true≢false h)
    by false h rest = rest h

pub open_without_entry : (image : Image) (settings : Settings) (s : States) → has_node (entry_node settings.entry) s.placed ≡ false → is_closed image settings s ≡ false
unfolding is_closed
open_without_entry image settings s h =
    ap (λ t. t && list_all (goes_within image settings s) s.placed) (nothing_above s.placed (entry_node settings.entry) (initial_state image s.cells settings.entry) h)

-- -- Without a warning it is clean

filled : (w : Warning) (ws : List Warning) → with_warning ws w ≡ [] → ⊥
filled w [] e = absurd (cc e)
filled w (x ∷ ws) e = by (same_warning x w) (warning_before x w) e
  where
    by : (s b : Bool) → cond s (w ∷ ws) (cond b (x ∷ with_warning ws w) (w ∷ x ∷ ws)) ≡ [] → ⊥
    by true b e = absurd (cc e)
    by false true e = absurd (cc e)
    by false false e = absurd (cc e)

fold_filled : (xs ws : List Warning) → (ws ≡ [] → ⊥) → fold with_warning ws xs ≡ [] → ⊥
fold_filled [] ws some e = some e
fold_filled (x ∷ xs) ws some e = fold_filled xs (with_warning ws x) (filled x ws) e

none_noted : (xs : List Warning) → fold with_warning [] xs ≡ [] → xs ≡ []
none_noted [] e = refl
none_noted (x ∷ xs) e = absurd (fold_filled xs (with_warning [] x) (filled x []) e)

first_none : {A : Type 0} (xs ys : List A) → xs ++ ys ≡ [] → xs ≡ []
first_none [] ys e = refl
first_none (x ∷ xs) ys e = absurd (cc e)

second_none : {A : Type 0} (xs ys : List A) → xs ++ ys ≡ [] → ys ≡ []
second_none [] ys e = e
second_none (x ∷ xs) ys e = absurd (cc e)

mapped_none : {A B : Type 0} (f : A → B) (xs : List A) → map f xs ≡ [] → xs ≡ []
mapped_none f [] e = refl
mapped_none f (x ∷ xs) e = absurd (cc e)

all_quiet : (image : Image) (settings : Settings) (s : States) (ps : List Placed) → flat_map (warnings_at image settings s) ps ≡ [] → AllByRecursion (λ p. node_warnings image settings s p ≡ []) ps
all_quiet image settings s [] e = tt
all_quiet image settings s (p ∷ ps) e = (
  mapped_none (named_at p.node.at) (node_warnings image settings s p) (first_none (warnings_at image settings s p) (flat_map (warnings_at image settings s) ps) e),
  all_quiet image settings s ps (second_none (warnings_at image settings s p) (flat_map (warnings_at image settings s) ps) e),
)

not_full : (full closed : Bool) → of_map full closed ≡ [] → full ≡ false
not_full true closed e = absurd (cc e)
not_full false closed e = refl

closed_too : (full closed : Bool) → of_map full closed ≡ [] → closed ≡ true
closed_too full true e = refl
closed_too true false e = absurd (cc e)
closed_too false false e = absurd (cc e)

pub clean_without_warning : (image : Image) (settings : Settings) (s : States) (full : Bool) → map_warnings image settings s full ≡ [] → IsClean image settings s full
unfolding map_warnings
clean_without_warning image settings s full e =
    let nodes = flat_map (warnings_at image settings s) s.placed in
    let whole = of_map full (is_closed image settings s) in
    let none : nodes ++ whole ≡ [] = none_noted (nodes ++ whole) e in
    let of_whole : whole ≡ [] = second_none nodes whole none in
    record {
      not_full = not_full full (is_closed image settings s) of_whole;
      closed = closed_too full (is_closed image settings s) of_whole;
      quiet = all_quiet image settings s s.placed (first_none nodes whole none);
    }
