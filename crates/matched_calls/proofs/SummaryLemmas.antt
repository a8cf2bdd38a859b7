-- What is noted of calls says just which come back.
use Rattle.std.proofs.Common.{◌≡◌, ◌≢◌, ◌⊎◌, inl, inr, ⊎_elim, ℕ, zero, suc, ◌+◌, ◌<◌, ◌≤◌, ◌^◌, Bool, true, false, List, [], ◌∷◌, length, get_or, set, replicate, Some, refl, sym, ◌∙◌, ap, subst, arith, get_or-set_same, get_or-set_other, length-set}
use Rattle.std.specs.Prelude.{◌↔◌, ◌||◌, Contains, slice_get, bit_or}
use Rattle.std.proofs.lemmas.Bool.{cases_eq, cases_Bool, or_parts}
use Rattle.std.proofs.lemmas.List.{get_or_default, length-replicate}
use Rattle.std.proofs.lemmas.Option.{same_Some}
use Rattle.std.proofs.lemmas.Nat.{le_or_l, or_lt}
use Rattle.flow_graph.specs.declared.graph.FlowNode.{FlowNode}
use Rattle.flow_graph.specs.FlowGraph.{IsStep}
use Rattle.flow_graph.specs.Marked.Marked.{seed, step}
use Rattle.flow_graph.specs.Rows.{IsBit, HasBit, SomeHasBit, Comes, room}
use Rattle.flow_graph.proofs.BitLemmas.{IsBit-zero, bit_or-cases, bit_or-right}
use Rattle.flow_graph.proofs.GraphLaws.{Has-within, slice_get-at}
use Rattle.flow_graph.proofs.MarkedLaws.{marked_all}
use Rattle.flow_graph.proofs.RowLemmas.{room-less}
use Rattle.matched_calls.specs.declared.kinds.StepKinds.{StepKinds}
use Rattle.matched_calls.specs.declared.sites.Site.{Site}
use Rattle.matched_calls.specs.declared.sites.Plan.{Plan}
use Rattle.matched_calls.specs.Phases.{IsCall, IsReturn, Inside, ComesBack}
use Rattle.matched_calls.specs.Phases.Inside.{here, along, over}
use Rattle.matched_calls.specs.Extended.{pair_of, IsPlan}
use Rattle.matched_calls.specs.Summaries.{IsExit, IsSeated, KeepsBit, ReachesExit, IsTight, IsSound, IsSummary, Raises}
use Rattle.item_list.proofs.TruthLaws.{true_not}

-- ---- facts of other words

-- a node from which a step goes is one
pub step_within : (g : List FlowNode) (m n : ℕ) → IsStep g m n → m < length g
step_within g m n goes = Has-within g m (λ node. Contains node.next n) goes

module _ (g : List FlowNode) (kinds : StepKinds) where
  inside_like : (Kept Other : ℕ → Type 0) → ((n : ℕ) → n < length g → Kept n → Other n) → (x z : ℕ) → z < length g → Inside g kinds Kept x z → Inside g kinds Other x z
  inside_like Kept Other like x z last (here kept) = here (like x last kept)
  inside_like Kept Other like x z last (along {y = y} kept plain rest) = along (like x (step_within g x y plain.0) kept) plain (inside_like Kept Other like y z last rest)
  inside_like Kept Other like c z last (over {e = e} {x = x} {y = y} kept call inside returns after rest) =
      over (like c (step_within g c e call.0) kept) call (inside_like Kept Other like e x (step_within g x y returns.0) inside) returns after (inside_like Kept Other like y z last rest)

  -- the nodes of a call that comes back are nodes of the graph
  pub back_like : (Kept Other : ℕ → Type 0) → ((n : ℕ) → n < length g → Kept n → Other n) → (c y : ℕ) → ComesBack g kinds Kept c y → ComesBack g kinds Other c y
  back_like Kept Other like c y back = record {
    entry = back.entry;
    exit = back.exit;
    call = back.call;
    inside = inside_like Kept Other like back.entry back.exit (step_within g back.exit y back.returns.0) back.inside;
    returns = back.returns;
    after = back.after;
  }

  inside_from : (Kept : ℕ → Type 0) (x z : ℕ) → z < length g → Inside g kinds Kept x z → x < length g
  inside_from Kept x z last (here kept) = last
  inside_from Kept x z last (along {y = y} kept plain rest) = step_within g x y plain.0
  inside_from Kept c z last (over {e = e} kept call inside returns after rest) = step_within g c e call.0

site_in : (sites : List Site) (j : ℕ) → j < length sites → (site : Site) × (slice_get sites j ≡ Some site)
site_in [] j low = absurd (omega arith)
site_in (x ∷ xs) zero low = (x, refl)
site_in (x ∷ xs) (suc j) low = site_in xs j (omega arith)

module _ (g : List FlowNode) (kinds : StepKinds) (plan : Plan) (p : IsPlan g kinds plan) (kept : List ℕ) where
  -- ---- what is noted is so

  -- from y a walk on which each call comes back goes to a return to that place
  abbrev Leaves : ℕ → ℕ → ℕ → Type 0
  Leaves k back y = (x : ℕ) × Inside g kinds (KeepsBit kept k) y x × IsReturn g kinds x back

  -- what holds of a node of the level graph from which such a return is reached
  record Leaving (k back x : ℕ) : Type 0 where
    inside : x < length g → Leaves k back x
    between : (i : ℕ) → i < length kinds.after → x ≡ length g + i → ComesBack g kinds (KeepsBit kept k) (pair_of kinds.after i).0 (pair_of kinds.after i).1 × Leaves k back (pair_of kinds.after i).1

  leaving_node : (k back x : ℕ) → x < length g → Leaves k back x → Leaving k back x
  leaving_node k back x within leaves = record { inside = λ _. leaves; between = λ i low is. absurd (omega (arith, within, is)) }

  after_within : (i : ℕ) → i < length kinds.after → (pair_of kinds.after i).1 < length g
  after_within i low = (p.numbers.after i (0, 0) low).1

  leaving_step : IsSound g kinds kept → (k back next m : ℕ) → IsStep plan.level.nodes m next → HasBit kept m k → Leaving k back next → Leaving k back m
  leaving_step sound k back next m goes keeps leaving =
      ⊎_elim
      (λ node. ⊎_elim
      (λ flow. let on = leaving.inside flow.0 in leaving_node k back m node.0 (on.0, along keeps flow.1 on.1, on.2))
      (λ link.
      let on = leaving.between link.0 link.1 link.3 in
      let at : (pair_of kinds.after link.0).0 ≡ m = link.2 in
      leaving_node k back m node.0 (on.1.0, over keeps (subst (λ c. IsCall g kinds c on.0.entry) at on.0.call) on.0.inside on.0.returns (subst (λ c. Contains kinds.after (c, (pair_of kinds.after link.0).1)) at on.0.after) on.1.1, on.1.2))
      node.1)
      (λ arrival.
      let on = leaving.inside (subst (λ y. y < length g) (sym arrival.3) (after_within arrival.0 arrival.1)) in
      record {
        inside = λ within. let is : m ≡ length g + arrival.0 = arrival.2 in absurd (omega (arith, within, is));
        between = λ i low is.
            let other : m ≡ length g + arrival.0 = arrival.2 in
            let same : arrival.0 ≡ i = omega (arith, is, other) in
            let bit : HasBit kept (length g + i) k = subst (λ n. HasBit kept n k) is keeps in
            (sound i k low bit, subst (λ y. Leaves k back y) (arrival.3 ∙ ap (λ j. (pair_of kinds.after j).1) same) on);
      })
      ((p.level.steps m next).0 goes)

  -- where an entry comes to an exit, the call comes back
  reaches_back : IsSound g kinds kept → (j : ℕ) (site : Site) (e k : ℕ) → j < length kinds.after → slice_get plan.sites j ≡ Some site → Contains site.entries e → ReachesExit plan.level.nodes kept site.exits k e → ComesBack g kinds (KeepsBit kept k) (pair_of kinds.after j).0 (pair_of kinds.after j).1
  reaches_back sound j site e k low there among reaches =
      let is = p.sites.each j site there in
      let entry = (is.entries e).0 among in
      let all =
      marked_all (λ x. IsExit site.exits kept x k) (λ next m. IsStep plan.level.nodes m next × HasBit kept m k) (Leaving k (pair_of kinds.after j).1)
      (λ x exit. let ends = (is.exits x).0 exit.0 in leaving_node k (pair_of kinds.after j).1 x ends.0 (x, here exit.2, ends.1))
      (λ next m goes leaving. leaving_step sound k (pair_of kinds.after j).1 next m goes.0 goes.1 leaving) reaches in
      let leaves = all.inside entry.0 in
      record {
        entry = e;
        exit = leaves.0;
        call = entry.1;
        inside = leaves.1;
        returns = leaves.2;
        after = (j, low, get_or_default kinds.after j _ _ low);
      }

  site_at : (j : ℕ) → j < length kinds.after → (site : Site) × (slice_get plan.sites j ≡ Some site)
  site_at j low = site_in plan.sites j (let many = p.sites.many in omega (arith, many, low))

  -- ---- what is so is noted

  exits_reached : length g ≤ length kept → ((j : ℕ) → j < length kinds.after → IsTight g kinds plan kept j) → (k x z : ℕ) → Inside g kinds (KeepsBit kept k) x z → (j : ℕ) (site : Site) → slice_get plan.sites j ≡ Some site → IsReturn g kinds z (pair_of kinds.after j).1 → ReachesExit plan.level.nodes kept site.exits k x
  exits_reached room tight k x z (here keeps) j site there returns =
      let within = step_within g z (pair_of kinds.after j).1 returns.0 in
      seed (((p.sites.each j site there).exits z).1 (within, returns), omega (arith, within, room), keeps)
  exits_reached room tight k x z (along {y = y} keeps plain rest) j site there returns =
      let from = step_within g x y plain.0 in
      let to = inside_from g kinds (KeepsBit kept k) y z (step_within g z (pair_of kinds.after j).1 returns.0) rest in
      step ((p.level.steps x y).1 (inl (from, inl (to, plain))), keeps) (exits_reached room tight k y z rest j site there returns)
  exits_reached room tight k c z (over {e = e} {x = x} {y = y} keeps call inside back after rest) j site there returns =
      let i : ℕ = after.0 in
      let low : i < length kinds.after = after.1 in
      let pair : pair_of kinds.after i ≡ (c, y) = get_or_default kinds.after i (0, 0) (c, y) low ∙ after.2 in
      let from = step_within g c e call.0 in
      let entry = inside_from g kinds (KeepsBit kept k) e x (step_within g x y back.0) inside in
      let to = inside_from g kinds (KeepsBit kept k) y z (step_within g z (pair_of kinds.after j).1 returns.0) rest in
      let other = site_at i low in
      let inner = exits_reached room tight k e x inside i other.0 other.1 (subst (λ (q : ℕ × ℕ). IsReturn g kinds x q.1) (sym pair) back) in
      let bit = tight i low other.0 other.1 e k (((p.sites.each i other.0 other.1).entries e).1 (entry, subst (λ (q : ℕ × ℕ). IsCall g kinds q.0 e) (sym pair) call)) inner in
      step ((p.level.steps c (length g + i)).1 (inl (from, inr (i, low, ap (λ (q : ℕ × ℕ). q.0) pair, refl))), keeps)
      (step ((p.level.steps (length g + i) y).1 (inr (i, low, refl, sym (ap (λ (q : ℕ × ℕ). q.1) pair))), bit)
      (exits_reached room tight k y z rest j site there returns))

  -- where all is tight and sound, the words are a summary
  pub tight_summary : length g ≤ length kept → IsSound g kinds kept → ((j : ℕ) → j < length kinds.after → IsTight g kinds plan kept j) → IsSummary g kinds kept
  tight_summary room sound tight j k low small = (
    λ bit. sound j k low bit,
    λ back.
        let site = site_at j low in
        let reaches = exits_reached room tight k back.entry back.exit back.inside j site.0 site.1 back.returns in
        let entry = inside_from g kinds (KeepsBit kept k) back.entry back.exit (step_within g back.exit (pair_of kinds.after j).1 back.returns.0) back.inside in
        tight j low site.0 site.1 back.entry k (((p.sites.each j site.0 site.1).entries back.entry).1 (entry, back.call)) reaches,
  )

-- ---- one call

pub raises_none : (g : List FlowNode) (kinds : StepKinds) (kept : List ℕ) → Raises g kinds kept kept false
raises_none g kinds kept = record { len = refl; same = λ n within. refl; sound = λ sound. sound; stays = λ _. refl; less = λ other. absurd (other refl) }

pub raises_same : (g : List FlowNode) (kinds : StepKinds) (old new : List ℕ) (changed : Bool) → changed ≡ false → new ≡ old → Raises g kinds old new changed
raises_same g kinds old new changed off same = record {
  len = ap (λ (xs : List ℕ). length xs) same;
  same = λ n within. ap (λ (xs : List ℕ). get_or xs n 0) same;
  sound = λ sound. subst (λ xs. IsSound g kinds xs) (sym same) sound;
  stays = λ _. same;
  less = λ other. absurd (other off);
}

-- one word changes behind those of the nodes
pub raises_one : (g : List FlowNode) (kinds : StepKinds) (kept : List ℕ) (j word more : ℕ) → length kept ≡ length g + length kinds.after → j < length kinds.after → word ≡ bit_or (get_or kept (length g + j) 0) more → word ≢ get_or kept (length g + j) 0 → get_or kept (length g + j) 0 < 2 ^ 64 → more < 2 ^ 64
    → (IsSound g kinds kept → (k : ℕ) → IsBit more k → ComesBack g kinds (KeepsBit kept k) (pair_of kinds.after j).0 (pair_of kinds.after j).1) → Raises g kinds kept (set kept (length g + j) word) true
raises_one g kinds kept j word more len low is other old_fits more_fits back =
    let place : ℕ = length g + j in
    let here : place < length kept = omega (arith, len, low) in
    let now : get_or (set kept (length g + j) word) (length g + j) 0 ≡ word = get_or-set_same kept (length g + j) word 0 here in
    let fits : word < 2 ^ 64 = subst (λ w. w < 2 ^ 64) (sym is) (or_lt 64 (get_or kept (length g + j) 0) more old_fits more_fits) in
    let above : get_or kept (length g + j) 0 ≤ word = subst (λ w. get_or kept (length g + j) 0 ≤ w) (sym is) (le_or_l (get_or kept (length g + j) 0) more) in
    let nodes : (n : ℕ) → n < length g → get_or (set kept (length g + j) word) n 0 ≡ get_or kept n 0 = λ n within. get_or-set_other kept (length g + j) n word 0 (λ same. absurd (omega (arith, within, same))) in
    let keep : (k n : ℕ) → n < length g → KeepsBit kept k n → KeepsBit (set kept (length g + j) word) k n = λ k n within bit. subst (λ w. IsBit w k) (sym (nodes n within)) bit in
    record {
      len = length-set kept (length g + j) word;
      same = nodes;
      sound = λ sound i k within bit.
          ⊎_elim
          (λ (same : i ≡ j).
          let bit_here : IsBit word k = subst (λ w. IsBit w k) now (subst (λ m. HasBit (set kept (length g + j) word) (length g + m) k) same bit) in
          subst (λ m. ComesBack g kinds (KeepsBit (set kept (length g + j) word) k) (pair_of kinds.after m).0 (pair_of kinds.after m).1) (sym same)
          (back_like g kinds (KeepsBit kept k) (KeepsBit (set kept (length g + j) word) k) (keep k) (pair_of kinds.after j).0 (pair_of kinds.after j).1
          (⊎_elim (λ was. sound j k low was) (λ is_new. back sound k is_new) (bit_or-cases (get_or kept (length g + j) 0) more k (subst (λ w. IsBit w k) is bit_here)))))
          (λ off.
          let was : HasBit kept (length g + i) k = subst (λ w. IsBit w k) (get_or-set_other kept (length g + j) (length g + i) word 0 (λ same. off (omega (arith, same)))) bit in
          back_like g kinds (KeepsBit kept k) (KeepsBit (set kept (length g + j) word) k) (keep k) (pair_of kinds.after i).0 (pair_of kinds.after i).1 (sound i k within was))
          (cases_eq i j);
      stays = λ never. absurd (cc);
      less = λ _. room-less kept (length g + j) word here (omega (arith, above, other)) fits;
    }

-- ---- one after the other

pub no_more : (g : List FlowNode) (kinds : StepKinds) (old new : List ℕ) (changed : Bool) → Raises g kinds old new changed → room new ≤ room old
no_more g kinds old new changed r =
    ⊎_elim (λ yes. let less = r.less (true_not changed yes) in omega (arith, less)) (λ no. let same = ap (λ (xs : List ℕ). room xs) (r.stays no) in omega (arith, same)) (cases_Bool changed)

pub raises_then : (g : List FlowNode) (kinds : StepKinds) (old mid new : List ℕ) (changed rose : Bool) → Raises g kinds old mid changed → Raises g kinds mid new rose → Raises g kinds old new (changed || rose)
raises_then g kinds old mid new changed rose first second =
    let less_first = no_more g kinds old mid changed first in
    let less_second = no_more g kinds mid new rose second in
    record {
      len = second.len ∙ first.len;
      same = λ n within. second.same n within ∙ first.same n within;
      sound = λ sound. second.sound (first.sound sound);
      stays = λ no. let both = or_parts changed rose no in second.stays both.1 ∙ first.stays both.0;
      less = λ other.
          ⊎_elim (λ yes. let less = first.less (true_not changed yes) in omega (arith, less, less_second))
          (λ no. ⊎_elim (λ yes. let less = second.less (true_not rose yes) in omega (arith, less, less_first)) (λ none. absurd (other (ap (λ b. b || rose) no ∙ none))) (cases_Bool rose))
          (cases_Bool changed);
    }

-- the first i calls
pub record Passed (g : List FlowNode) (kinds : StepKinds) (plan : Plan) (old new : List ℕ) (changed : Bool) (i : ℕ) : Type 0 where
  pub raises : Raises g kinds old new changed
  pub tight : changed ≡ false → (j : ℕ) → j < i → IsTight g kinds plan new j

pub passed_none : (g : List FlowNode) (kinds : StepKinds) (plan : Plan) (kept : List ℕ) → Passed g kinds plan kept kept false 0
passed_none g kinds plan kept = record { raises = raises_none g kinds kept; tight = λ _ j never. absurd (omega (arith, never)) }

pub passed_more : (g : List FlowNode) (kinds : StepKinds) (plan : Plan) (old mid new : List ℕ) (changed rose : Bool) (i : ℕ) → Passed g kinds plan old mid changed i → Raises g kinds mid new rose → (rose ≡ false → IsTight g kinds plan new i) → Passed g kinds plan old new (changed || rose) (i + 1)
passed_more g kinds plan old mid new changed rose i before raises here_tight = record {
  raises = raises_then g kinds old mid new changed rose before.raises raises;
  tight = λ no j low.
      let both = or_parts changed rose no in
      ⊎_elim (λ same. subst (λ m. IsTight g kinds plan new m) (sym same) (here_tight both.1))
      (λ other. subst (λ kept. IsTight g kinds plan kept j) (sym (raises.stays both.1)) (before.tight both.0 j (let off : j ≢ i = other in omega (arith, low, off))))
      (cases_eq j i);
}

-- words in which no call is noted are sound
pub none_sound : (g : List FlowNode) (kinds : StepKinds) (kept : List ℕ) → ((j k : ℕ) → j < length kinds.after → ¬ HasBit kept (length g + j) k) → IsSound g kinds kept
none_sound g kinds kept none j k low bit = absurd (none j k low bit)

-- ---- the exits

-- words of 0 have no bit
pub zero_words : (count n k : ℕ) → ¬ HasBit (replicate count 0) n k
zero_words zero n k bit = IsBit-zero k bit
zero_words (suc count) zero k bit = IsBit-zero k bit
zero_words (suc count) (suc n) k bit = zero_words count n k bit

-- what has a bit is within the words
pub bit_within : (rows : List ℕ) (n k : ℕ) → HasBit rows n k → n < length rows
bit_within [] n k bit = absurd (IsBit-zero k bit)
bit_within (w ∷ ws) zero k bit = omega arith
bit_within (w ∷ ws) (suc n) k bit = let within = bit_within ws n k bit in omega (arith, within)

pub seat_there : (rows : List ℕ) (node word : ℕ) → node < length rows → (n k : ℕ) → HasBit (set rows node word) n k ↔ IsSeated rows node word n k
seat_there rows node word within n k = (
  λ bit. ⊎_elim
      (λ (same : n ≡ node). inr (same, subst (λ m. m < length rows) (sym same) within, subst (λ w. IsBit w k) (ap (λ m. get_or (set rows node word) m 0) same ∙ get_or-set_same rows node word 0 within) bit))
      (λ other. inl (other, subst (λ w. IsBit w k) (get_or-set_other rows node n word 0 other) bit))
      (cases_eq n node),
  λ either. ⊎_elim
      (λ kept. subst (λ w. IsBit w k) (sym (get_or-set_other rows node n word 0 kept.0)) kept.1)
      (λ now. subst (λ w. IsBit w k) (sym (ap (λ m. get_or (set rows node word) m 0) now.0 ∙ get_or-set_same rows node word 0 within)) now.2)
      either,
)

pub seat_past : (rows : List ℕ) (node word : ℕ) → length rows ≤ node → (n k : ℕ) → HasBit rows n k ↔ IsSeated rows node word n k
seat_past rows node word past n k = (
  λ bit. let within = bit_within rows n k bit in inl ((λ same. absurd (omega (arith, past, within, same))), bit),
  λ either. ⊎_elim (λ kept. kept.1) (λ now. let within = now.1 in let same = now.0 in absurd (omega (arith, past, within, same))) either,
)

-- those of the first i
abbrev pub IsExitBelow : List ℕ → List ℕ → ℕ → ℕ → ℕ → Type 0
IsExitBelow exits kept i n k = ((j : ℕ) × (j < i) × (get_or exits j 0 ≡ n)) × (n < length kept) × HasBit kept n k

pub record Seating (exits kept : List ℕ) (i : ℕ) (rows : List ℕ) : Type 0 where
  pub len : length rows ≡ length kept
  pub bits : (n k : ℕ) → HasBit rows n k ↔ IsExitBelow exits kept i n k

pub seating_none : (exits kept rows old : List ℕ) → length old ≡ length kept → rows ≡ replicate (length old) 0 → Seating exits kept 0 rows
seating_none exits kept rows old len is = record {
  len = ap (λ (xs : List ℕ). length xs) is ∙ length-replicate (length old) 0 ∙ len;
  bits = λ n k. (
    λ bit. absurd (zero_words (length old) n k (subst (λ (xs : List ℕ). HasBit xs n k) is bit)),
    λ exit. let lt = exit.0.1 in absurd (omega (arith, lt)),
  );
}

pub seating_more : (exits kept rows new : List ℕ) (i exit word : ℕ) → exit ≡ get_or exits i 0 → word ≡ get_or kept exit 0 → length new ≡ length rows → ((n k : ℕ) → HasBit new n k ↔ IsSeated rows exit word n k) → Seating exits kept i rows → Seating exits kept (i + 1) new
seating_more exits kept rows new i exit word read word_is len seats before = record {
  len = len ∙ before.len;
  bits = λ n k. (
    λ bit. ⊎_elim
        (λ old. let b = (before.bits n k).0 old.1 in ((b.0.0, (let lt = b.0.1 in omega (arith, lt)), b.0.2), b.1, b.2))
        (λ now. let many = before.len in let within = now.1 in ((i, omega arith, sym read ∙ sym now.0), omega (arith, within, many), subst (λ w. IsBit w k) (word_is ∙ ap (λ m. get_or kept m 0) (sym now.0)) now.2))
        ((seats n k).0 bit),
    λ below. (seats n k).1
        (⊎_elim
        (λ (same : n ≡ exit). let many = before.len in let within = below.1 in inr (same, omega (arith, within, many), subst (λ w. IsBit w k) (ap (λ m. get_or kept m 0) same ∙ sym word_is) below.2))
        (λ other. inl (other, (before.bits n k).1 ((below.0.0, earlier n other below.0.0 below.0.1 below.0.2, below.0.2), below.1, below.2)))
        (cases_eq n exit)),
  );
}
  where
    earlier : (n : ℕ) → n ≢ exit → (j : ℕ) → j < i + 1 → get_or exits j 0 ≡ n → j < i
    earlier n other j low at =
        ⊎_elim (λ (same : j ≡ i). absurd (other (sym at ∙ ap (λ m. get_or exits m 0) same ∙ sym read))) (λ off. let no : j ≢ i = off in omega (arith, low, no)) (cases_eq j i)

pub seating_all : (exits kept rows : List ℕ) (i : ℕ) → length exits ≡ i → Seating exits kept i rows → (n k : ℕ) → HasBit rows n k ↔ IsExit exits kept n k
seating_all exits kept rows i all seating n k = (
  λ bit. let b = (seating.bits n k).0 bit in
      let low : b.0.0 < length exits = (let lt = b.0.1 in omega (arith, lt, all)) in
      ((b.0.0, low, get_or_default exits b.0.0 n 0 low ∙ b.0.2), b.1, b.2),
  λ exit. let low : exit.0.0 < length exits = exit.0.1 in
      (seating.bits n k).1 ((exit.0.0, omega (arith, low, all), get_or_default exits exit.0.0 0 n low ∙ exit.0.2), exit.1, exit.2),
)

-- what comes in the rows comes to an exit
pub comes_exit : (level : List FlowNode) (exits kept begun : List ℕ) → ((n k : ℕ) → HasBit begun n k ↔ IsExit exits kept n k) → (n k : ℕ) → Comes level kept begun k n ↔ ReachesExit level kept exits k n
comes_exit level exits kept begun seats n k = (
  λ comes. marked_all (λ m. HasBit begun m k) (λ next m. IsStep level m next × HasBit kept m k) (λ m. ReachesExit level kept exits k m) (λ m bit. seed ((seats m k).0 bit)) (λ next m goes rest. step goes rest) comes,
  λ reaches. marked_all (λ x. IsExit exits kept x k) (λ next m. IsStep level m next × HasBit kept m k) (λ m. Comes level kept begun k m) (λ m exit. seed ((seats m k).1 exit)) (λ next m goes rest. step goes rest) reaches,
)

-- a bit that the entries have together is that of one of them
pub entries_back : (g : List FlowNode) (kinds : StepKinds) (plan : Plan) → IsPlan g kinds plan → (kept rows entries : List ℕ) (site : Site) (j more : ℕ) → j < length kinds.after → slice_get plan.sites j ≡ Some site → entries ≡ site.entries
    → ((n k : ℕ) → HasBit rows n k ↔ ReachesExit plan.level.nodes kept site.exits k n) → ((k : ℕ) → IsBit more k ↔ SomeHasBit rows entries k) → IsSound g kinds kept → (k : ℕ) → IsBit more k → ComesBack g kinds (KeepsBit kept k) (pair_of kinds.after j).0 (pair_of kinds.after j).1
entries_back g kinds plan p kept rows entries site j more low there same grown met sound k bit =
    let some = (met k).0 bit in
    reaches_back g kinds plan p kept sound j site some.0 k low there (subst (λ (xs : List ℕ). Contains xs some.0) same some.1) ((grown some.0 k).0 some.2)

pub entries_tight : (g : List FlowNode) (kinds : StepKinds) (plan : Plan) (kept rows entries : List ℕ) (site : Site) (j more : ℕ) → slice_get plan.sites j ≡ Some site → entries ≡ site.entries
    → ((n k : ℕ) → HasBit rows n k ↔ ReachesExit plan.level.nodes kept site.exits k n) → ((k : ℕ) → IsBit more k ↔ SomeHasBit rows entries k) → bit_or (get_or kept (length g + j) 0) more ≡ get_or kept (length g + j) 0 → IsTight g kinds plan kept j
entries_tight g kinds plan kept rows entries site j more there same grown met unchanged other is e k among reaches =
    let one : other ≡ site = same_Some other site (sym is ∙ there) in
    let at : Contains site.entries e = subst (λ (x : Site). Contains x.entries e) one among in
    let reach : ReachesExit plan.level.nodes kept site.exits k e = subst (λ (x : Site). ReachesExit plan.level.nodes kept x.exits k e) one reaches in
    subst (λ w. IsBit w k) unchanged (bit_or-right (get_or kept (length g + j) 0) more k ((met k).1 (e, subst (λ (xs : List ℕ). Contains xs e) (sym same) at, (grown e k).1 reach)))

-- ---- what the code holds

pub site_there : (slice sites : List Site) (j : ℕ) (site : Site) → slice ≡ sites → j < length sites → site ≡ get_or slice j site → slice_get sites j ≡ Some site
site_there slice sites j site same low read = slice_get-at sites j site low (read ∙ ap (λ (xs : List Site). get_or xs j site) same)

pub grown_exits : (level held : List FlowNode) (exits es kept begun rows : List ℕ) → held ≡ level → es ≡ exits → ((n k : ℕ) → HasBit begun n k ↔ IsExit es kept n k) → ((n k : ℕ) → HasBit rows n k ↔ Comes held kept begun k n) → (n k : ℕ) → HasBit rows n k ↔ ReachesExit level kept exits k n
grown_exits level held exits es kept begun rows same is seats grown n k =
    let by = comes_exit held es kept begun seats n k in
    subst (λ (xs : List ℕ). HasBit rows n k ↔ ReachesExit level kept xs k n) is
    (subst (λ (ns : List FlowNode). HasBit rows n k ↔ ReachesExit ns kept es k n) same (λ bit. by.0 ((grown n k).0 bit), λ reaches. (grown n k).1 (by.1 reaches)))
