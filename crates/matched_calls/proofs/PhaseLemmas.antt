-- A matched walk goes in two phases, and what goes in two phases is a matched walk.
use Rattle.std.proofs.Common.{◌≡◌, ◌⊎◌, inl, inr, ⊎_elim, ℕ, List, [], ◌∷◌, refl, subst}
use Rattle.std.specs.Prelude.{◌↔◌, Contains}
use Rattle.std.specs.List.{AllByRecursion}
use Rattle.flow_graph.specs.declared.graph.FlowNode.{FlowNode}
use Rattle.flow_graph.specs.FlowGraph.{IsStep}
use Rattle.flow_graph.specs.Marked.Marked.{seed, step}
use Rattle.matched_calls.specs.declared.kinds.StepKinds.{StepKinds}
use Rattle.matched_calls.specs.declared.kinds.Phase.TheVariants.{Up, Down}
use Rattle.matched_calls.specs.Matched.{Pops, Turns, MatchedWalk, Matches}
use Rattle.matched_calls.specs.Phases.{IsPlain, IsCall, IsReturn, IsTaken, Inside, ComesBack, Goes, IsAbove, IsBelow, Leads}
use Rattle.matched_calls.specs.Phases.Inside.{here, along, over}

module _ (g : List FlowNode) (kinds : StepKinds) (Kept : ℕ → Type 0) (target : ℕ) where
  -- ---- from walks to phases

  -- from x, with these calls pending, it goes on to the target
  abbrev Good : List ℕ → ℕ → Type 0
  Good [] x = IsBelow g kinds Kept target x
  Good (call ∷ older) x = IsAbove g kinds Kept target x ⊎ ((exit : ℕ) × (y : ℕ) × Inside g kinds Kept x exit × IsReturn g kinds exit y × Contains kinds.after (call, y) × Good older y)

  good_above : (pending : List ℕ) (x : ℕ) → IsAbove g kinds Kept target x → Good pending x
  good_above [] x above = seed above
  good_above (call ∷ older) x above = inl above

  good_end : (pending : List ℕ) → Good pending target
  good_end pending = good_above pending target (seed refl)

  good_plain : (pending : List ℕ) (x y : ℕ) → Kept x → IsPlain g kinds x y → Good pending y → Good pending x
  good_plain [] x y kept plain good = step (inl (plain.0, inl plain.1), kept) good
  good_plain (call ∷ older) x y kept plain good =
      ⊎_elim (λ above. inl (step (inl (plain.0, inl plain.1), kept) above)) (λ b. inr (b.0, b.1, along kept plain b.2, b.3, b.4, b.5)) good

  good_over : (pending : List ℕ) (c y : ℕ) → Kept c → ComesBack g kinds Kept c y → Good pending y → Good pending c
  good_over [] c y kept back good = step (inr back, kept) good
  good_over (call ∷ older) c y kept back good =
      ⊎_elim (λ above. inl (step (inr back, kept) above)) (λ b. inr (b.0, b.1, over kept back.call back.inside back.returns back.after b.2, b.3, b.4, b.5)) good

  good_call : (pending : List ℕ) (c e : ℕ) → Kept c → IsCall g kinds c e → Good (c ∷ pending) e → Good pending c
  good_call pending c e kept call good =
      ⊎_elim (λ above. good_above pending c (step (inl (call.0, inr call.1), kept) above))
      (λ b. good_over pending c b.1 kept (record { entry = e; exit = b.0; call = call; inside = b.2; returns = b.3; after = b.4 }) b.5) good

  good_return : (pending left : List ℕ) (x y : ℕ) → Kept x → IsReturn g kinds x y → Pops kinds pending y left → Good left y → Good pending x
  good_return [] left x y kept returns pops good = step (inl (returns.0, inr returns.1), kept) (subst (λ s. Good s y) pops good)
  good_return (call ∷ older) left x y kept returns pops good = inr (x, y, here kept, returns, pops.0, subst (λ s. Good s y) pops.1 good)

  good_turn : (pending left : List ℕ) (x y : ℕ) → Kept x → IsStep g x y → Turns kinds x y pending left → Good left y → Good pending x
  good_turn pending left x y kept goes (inl call) good = good_call pending x y kept (goes, call.0) (subst (λ s. Good s y) call.1 good)
  good_turn pending left x y kept goes (inr (inl returns)) good = good_return pending left x y kept (goes, returns.0) returns.1 good
  good_turn pending left x y kept goes (inr (inr plain)) good = good_plain pending x y kept (goes, plain.0) (subst (λ s. Good s y) plain.1 good)

  walk_good : (inner pending left : List ℕ) (x : ℕ) → Kept x → AllByRecursion Kept inner → MatchedWalk g kinds x pending inner target left → Good pending x
  walk_good [] pending left x kept all walk = good_turn pending left x target kept walk.0 walk.1 (good_end left)
  walk_good (i ∷ inner) pending left x kept all walk = good_turn pending walk.0 x i kept walk.1 walk.2 (walk_good inner walk.0 left i all.0 all.1 walk.3)

  first_turn : (left : List ℕ) (m y : ℕ) → IsStep g m y → Turns kinds m y [] left → Good left y → Leads g kinds Kept target m
  first_turn left m y goes (inl call) good =
      ⊎_elim (λ above. inl (y, inl (goes, inr call.0), above))
      (λ b. inr (b.1, inr (record { entry = y; exit = b.0; call = (goes, call.0); inside = b.2; returns = b.3; after = b.4 }), b.5))
      (subst (λ s. Good s y) call.1 good)
  first_turn left m y goes (inr (inl returns)) good = inr (y, inl (goes, inr returns.0), subst (λ s. Good s y) returns.1 good)
  first_turn left m y goes (inr (inr plain)) good = inr (y, inl (goes, inl plain.0), subst (λ s. Good s y) plain.1 good)

  matches_lead : (m : ℕ) (inner left : List ℕ) → MatchedWalk g kinds m [] inner target left → AllByRecursion Kept inner → Leads g kinds Kept target m
  matches_lead m [] left walk all = first_turn left m target walk.0 walk.1 (good_end left)
  matches_lead m (i ∷ inner) left walk all = first_turn walk.0 m i walk.1 walk.2 (walk_good inner walk.0 left i all.0 all.1 walk.3)

  -- ---- from phases to walks

  -- a walk from x to the target that begins with these calls pending
  abbrev Walks : List ℕ → ℕ → Type 0
  Walks pending x = (inner : List ℕ) × (left : List ℕ) × MatchedWalk g kinds x pending inner target left × AllByRecursion Kept inner

  -- x is the target, or it is kept and such a walk begins there
  abbrev Ends : List ℕ → ℕ → Type 0
  Ends pending x = (x ≡ target) ⊎ (Kept x × Walks pending x)

  walks_on : (pending next : List ℕ) (x y : ℕ) → IsStep g x y → Turns kinds x y pending next → Ends next y → Walks pending x
  walks_on pending next x y goes turns (inl same) = ([], next, (subst (λ n. IsStep g x n) same goes, subst (λ n. Turns kinds x n pending next) same turns), tt)
  walks_on pending next x y goes turns (inr more) = (y ∷ more.1.0, more.1.1, (next, goes, turns, more.1.2), (more.0, more.1.3))

  ends_on : (pending next : List ℕ) (x y : ℕ) → Kept x → IsStep g x y → Turns kinds x y pending next → Ends next y → Ends pending x
  ends_on pending next x y kept goes turns ends = inr (kept, walks_on pending next x y goes turns ends)

  last_kept : (x z : ℕ) → Inside g kinds Kept x z → Kept z
  last_kept x z (here kept) = kept
  last_kept x z (along {y = y} kept plain rest) = last_kept y z rest
  last_kept x z (over {y = y} kept call inside returns after rest) = last_kept y z rest

  inside_ends : (x z : ℕ) → Inside g kinds Kept x z → (pending : List ℕ) → Ends pending z → Ends pending x
  inside_ends x z (here kept) pending ends = ends
  inside_ends x z (along {y = y} kept plain rest) pending ends = ends_on pending pending x y kept plain.0 (inr (inr (plain.1, refl))) (inside_ends y z rest pending ends)
  inside_ends c z (over {e = e} {x = x} {y = y} kept call inside returns after rest) pending ends =
      ends_on pending (c ∷ pending) c e kept call.0 (inl (call.1, refl))
      (inside_ends e x inside (c ∷ pending)
      (ends_on (c ∷ pending) pending x y (last_kept e x inside) returns.0 (inr (inl (returns.1, (after, refl)))) (inside_ends y z rest pending ends)))

  walks_back : (pending : List ℕ) (c y : ℕ) → ComesBack g kinds Kept c y → Ends pending y → Walks pending c
  walks_back pending c y back ends =
      walks_on pending (c ∷ pending) c back.entry back.call.0 (inl (back.call.1, refl))
      (inside_ends back.entry back.exit back.inside (c ∷ pending)
      (ends_on (c ∷ pending) pending back.exit y (last_kept back.entry back.exit back.inside) back.returns.0 (inr (inl (back.returns.1, (back.after, refl)))) ends))

  taken_down : (pending : List ℕ) (m next : ℕ) → IsStep g m next → IsTaken kinds Down m next → ((s : List ℕ) → Ends s next) → Walks pending m
  taken_down pending m next goes (inl other) ends = walks_on pending pending m next goes (inr (inr (other, refl))) (ends pending)
  taken_down pending m next goes (inr call) ends = walks_on pending (m ∷ pending) m next goes (inl (call, refl)) (ends (m ∷ pending))

  walks_down : (pending : List ℕ) (m next : ℕ) → Goes g kinds Kept Down m next → ((s : List ℕ) → Ends s next) → Walks pending m
  walks_down pending m next (inl flow) ends = taken_down pending m next flow.0 flow.1 ends
  walks_down pending m next (inr back) ends = walks_back pending m next back (ends pending)

  taken_up : (m next : ℕ) → IsStep g m next → IsTaken kinds Up m next → Ends [] next → Walks [] m
  taken_up m next goes (inl other) ends = walks_on [] [] m next goes (inr (inr (other, refl))) ends
  taken_up m next goes (inr returns) ends = walks_on [] [] m next goes (inr (inl (returns, refl))) ends

  walks_up : (m next : ℕ) → Goes g kinds Kept Up m next → Ends [] next → Walks [] m
  walks_up m next (inl flow) ends = taken_up m next flow.0 flow.1 ends
  walks_up m next (inr back) ends = walks_back [] m next back ends

  above_ends : (x : ℕ) → IsAbove g kinds Kept target x → (pending : List ℕ) → Ends pending x
  above_ends x (seed same) pending = inl same
  above_ends x (step {m = next} goes rest) pending = inr (goes.1, walks_down pending x next goes.0 (λ s. above_ends next rest s))

  below_ends : (x : ℕ) → IsBelow g kinds Kept target x → Ends [] x
  below_ends x (seed above) = above_ends x above []
  below_ends x (step {m = next} goes rest) = inr (goes.1, walks_up x next goes.0 (below_ends next rest))

  leads_walk : (m : ℕ) → Leads g kinds Kept target m → Walks [] m
  leads_walk m (inl down) = walks_down [] m down.0 down.1 (λ s. above_ends down.0 down.2 s)
  leads_walk m (inr up) = walks_up m up.0 up.1 (below_ends up.0 up.2)

  -- some matched walk goes to the target exactly where one in two phases does
  pub matches_by : (m : ℕ) → Matches g kinds Kept m target ↔ Leads g kinds Kept target m
  matches_by m = (λ walk. matches_lead m walk.0 walk.1 walk.2 walk.3, λ leads. leads_walk m leads)
