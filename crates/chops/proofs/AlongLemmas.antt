-- Going along edges and over control.
use Rattle.std.proofs.Common.{◌≡◌, ◌≢◌, ◌⊎◌, inl, inr, ⊎_elim, ℕ, zero, suc, ◌+◌, ◌<◌, ◌≤◌, Bool, List, [], ◌∷◌, ◌++◌, length, get_or, take, drop, refl, sym, ◌∙◌, ap, subst, arith, IsTrue}
use Rattle.std.specs.Prelude.{◌↔◌, All, Contains}
use Rattle.std.proofs.lemmas.Bool.{cases_eq}
use Rattle.std.proofs.lemmas.List.{get_or_default}
use Rattle.std.proofs.lemmas.List.Elements.{All-take, Contains-append_cases, Contains-get_or}
use Rattle.flow_graph.specs.declared.graph.FlowNode.{FlowNode}
use Rattle.flow_graph.specs.Rows.{IsBit}
use Rattle.control_walks.specs.ControlWalks.{Controls}
use Rattle.control_walks.specs.Floods.{Floods, Flooded}
use Rattle.slicer.specs.Slicer.{ListedEdge, AreNodes}
use Rattle.slicer.specs.Search.{Adds, Grows, Follows}
use Rattle.slicer.proofs.QueueLemmas.{IsNode}
use Rattle.slicer.proofs.GrowLemmas.{grows-adds, grows-none, grows-then, grows-like, grows-has, adds-then}
use Rattle.chops.specs.Following.{FollowsOn, IsAfter}
use Rattle.chops.specs.Masks.{IsSplit, ShowsSome}
use Rattle.chops.proofs.MaskLemmas.{split_controls}

-- ---- one edge

pub along_grows : (pairs : List (ℕ × ℕ)) (place size : ℕ) (is_met : Bool) (old new : List ℕ) → place < length pairs → IsTrue is_met ↔ Contains old (get_or pairs place (0, 0)).0 → Adds (IsNode is_met (get_or pairs place (0, 0)).1 size) old new → Grows (IsAfter pairs) old new
along_grows pairs place size is_met old new within met adds =
    let among : Contains pairs (get_or pairs place (0, 0)) = Contains-get_or pairs place (0, 0) within in
    grows-adds (IsNode is_met (get_or pairs place (0, 0)).1 size) (IsAfter pairs) old new
    (λ n is. ((get_or pairs place (0, 0)).0, met.0 is.0, subst (λ m. Contains pairs ((get_or pairs place (0, 0)).0, m)) (sym is.1) among)) adds

pub along_follows : (pairs : List (ℕ × ℕ)) (place size : ℕ) (is_met : Bool) (old new : List ℕ) → place < length pairs → All (λ p. p.1 < size) pairs → IsTrue is_met ↔ Contains old (get_or pairs place (0, 0)).0 → Adds (IsNode is_met (get_or pairs place (0, 0)).1 size) old new → FollowsOn pairs place old new
along_follows pairs place size is_met old new within room met adds has =
    adds.has (get_or pairs place (0, 0)).1 (met.1 has, refl, room place (0, 0) within)

-- ---- all edges of a list

pub record Sweeping (pairs : List (ℕ × ℕ)) (i : ℕ) (old new : List ℕ) : Type 0 where
  pub grows : Grows (IsAfter pairs) old new
  pub follows : (k : ℕ) → k < i → FollowsOn pairs k old new

pub sweep_none : (pairs : List (ℕ × ℕ)) (old : List ℕ) → Sweeping pairs 0 old old
sweep_none pairs old = record { grows = grows-none (IsAfter pairs) old; follows = λ k never. absurd (omega (arith, never)) }

pub sweep_more : (pairs : List (ℕ × ℕ)) (i : ℕ) (old mid new : List ℕ) → Sweeping pairs i old mid → Grows (IsAfter pairs) mid new → FollowsOn pairs i mid new → Sweeping pairs (i + 1) old new
sweep_more pairs i old mid new before grows here = record {
  grows = grows-then (IsAfter pairs) old mid new before.grows grows;
  follows = λ k below has.
      ⊎_elim (λ same. subst (λ j. FollowsOn pairs j old new) (sym same) (λ old_has. here (grows-has (IsAfter pairs) old mid (get_or pairs i (0, 0)).0 before.grows old_has)) has)
      (λ other. let off : k ≢ i = other in grows-has (IsAfter pairs) mid new (get_or pairs k (0, 0)).1 grows (before.follows k (omega (arith, below, off)) has))
      (cases_eq k i);
}

pub sweep_all : (pairs : List (ℕ × ℕ)) (i : ℕ) (old new : List ℕ) → length pairs ≤ i → Sweeping pairs i old new → Follows (IsAfter pairs) old new
sweep_all pairs i old new all sweeping m n edge has =
    let within : edge.0 < length pairs = edge.1 in
    let here : get_or pairs edge.0 (0, 0) ≡ (m, n) = get_or_default pairs edge.0 (0, 0) (m, n) within ∙ edge.2 in
    subst (λ (p : ℕ × ℕ). Contains new p.1) here (sweeping.follows edge.0 (omega (arith, within, all)) (subst (λ (p : ℕ × ℕ). Contains old p.0) (sym here) has))

-- ---- both lists

pub room_of : (g : List FlowNode) (pairs : List (ℕ × ℕ)) (size : ℕ) → AreNodes g pairs → length g ≤ size → All (λ p. p.1 < size) pairs
room_of g pairs size nodes room k d within = let both = nodes k d within in let second : (get_or pairs k d).1 < length g = both.1 in omega (arith, second, room)

pub first_edges : (ordinary sp : List (ℕ × ℕ)) (skip_sp : Bool) (old new : List ℕ) → Grows (IsAfter ordinary) old new → Grows (ListedEdge ordinary sp skip_sp) old new
first_edges ordinary sp skip_sp old new grows = grows-like (IsAfter ordinary) (ListedEdge ordinary sp skip_sp) old new (λ m n edge. inl edge) grows

pub both_edges : (ordinary sp : List (ℕ × ℕ)) (skip_sp : Bool) (old mid new : List ℕ) → ¬ IsTrue skip_sp → Grows (IsAfter ordinary) old mid → Grows (IsAfter sp) mid new → Grows (ListedEdge ordinary sp skip_sp) old new
both_edges ordinary sp skip_sp old mid new kept first second =
    grows-then (ListedEdge ordinary sp skip_sp) old mid new (first_edges ordinary sp skip_sp old mid first)
    (grows-like (IsAfter sp) (ListedEdge ordinary sp skip_sp) mid new (λ m n edge. inr (kept, edge)) second)

pub skipped_edges : (ordinary sp : List (ℕ × ℕ)) (skip_sp : Bool) (old new : List ℕ) → IsTrue skip_sp → Follows (IsAfter ordinary) old new → Follows (ListedEdge ordinary sp skip_sp) old new
skipped_edges ordinary sp skip_sp old new skip first m n edge has = ⊎_elim (λ o. first m n o has) (λ s. absurd (s.0 skip)) edge

pub followed_edges : (ordinary sp : List (ℕ × ℕ)) (skip_sp : Bool) (old mid new : List ℕ) → Grows (IsAfter ordinary) old mid → Grows (IsAfter sp) mid new → Follows (IsAfter ordinary) old mid → Follows (IsAfter sp) mid new → Follows (ListedEdge ordinary sp skip_sp) old new
followed_edges ordinary sp skip_sp old mid new grows more first second m n edge has =
    ⊎_elim (λ o. grows-has (IsAfter sp) mid new n more (first m n o has)) (λ s. second m n s.1 (grows-has (IsAfter ordinary) old mid m grows has)) edge

-- ---- bits

-- a node of the first i whose bit is set
abbrev pub IsMarkedBit : List ℕ → ℕ → ℕ → ℕ → Type 0
IsMarkedBit targets word i n = (k : ℕ) × (k < i) × (get_or targets k 0 ≡ n) × IsBit word k

pub bits_none : (targets : List ℕ) (word : ℕ) (old : List ℕ) → Adds (IsMarkedBit targets word 0) old old
bits_none targets word old = let g = grows-none (λ (m n : ℕ). ⊥) old in record { rest = g.rest; goes_on = g.goes_on; why = λ n has. inl has; has = λ n p. let lt = p.1 in absurd (omega (arith, lt)) }

pub bits_more : (targets : List ℕ) (word i size : ℕ) (is_wished : Bool) (old mid new : List ℕ) → i < length targets → All (λ n. n < size) targets → IsTrue is_wished ↔ IsBit word i → Adds (IsMarkedBit targets word i) old mid → Adds (IsNode is_wished (get_or targets i 0) size) mid new
    → Adds (IsMarkedBit targets word (i + 1)) old new
bits_more targets word i size is_wished old mid new within room wished before here =
    adds-then (IsMarkedBit targets word i) (IsNode is_wished (get_or targets i 0) size) (IsMarkedBit targets word (i + 1)) old mid new
    (λ n. (
      λ p. ⊎_elim
          (λ (same : p.0 ≡ i).
          let at : get_or targets i 0 ≡ n = subst (λ j. get_or targets j 0 ≡ n) same p.2 in
          inr (wished.1 (subst (λ j. IsBit word j) same p.3), sym at, subst (λ m. m < size) at (room i 0 within)))
          (λ other. inl (p.0, (let lt = p.1 in let off : p.0 ≢ i = other in omega (arith, lt, off)), p.2, p.3))
          (cases_eq p.0 i),
      λ either. ⊎_elim (λ p. (p.0, (let lt = p.1 in omega (arith, lt)), p.2, p.3)) (λ new. (i, omega arith, sym new.1, wished.0 new.0)) either,
    ))
    before here

pub bits_all : (targets : List ℕ) (word i : ℕ) (old new : List ℕ) → length targets ≡ i → Adds (IsMarkedBit targets word i) old new → Adds (IsMarkedBit targets word (length targets)) old new
bits_all targets word i old new all adds = subst (λ j. Adds (IsMarkedBit targets word j) old new) (sym all) adds

-- ---- some nodes

some_controls : (g : List FlowNode) (targets : List ℕ) (flooded : Flooded) (branches : List ℕ) (word : ℕ) → All (λ n. n < length g) targets → Floods g targets flooded → ShowsSome (IsSplit g flooded.reaching flooded.escaping) branches word
    → (k : ℕ) → k < length targets → IsBit word k ↔ ((b : ℕ) × Contains branches b × Controls g b (get_or targets k 0))
some_controls g targets flooded branches word inside floods shows k within =
    let by = λ (b : ℕ). split_controls g targets flooded b k (λ j low. inside j 0 low) floods in (
      λ is. let h = (shows k).0 is in (h.0, h.1, ((by h.0).0 h.2).1),
      λ h. (shows k).1 (h.0, h.1, (by h.0).1 (within, h.2)),
    )

pub some_grows : (g : List FlowNode) (targets : List ℕ) (flooded : Flooded) (old new : List ℕ) (word : ℕ) → All (λ n. n < length g) targets → Floods g targets flooded → ShowsSome (IsSplit g flooded.reaching flooded.escaping) old word
    → Adds (IsMarkedBit targets word (length targets)) old new → Grows (Controls g) old new
some_grows g targets flooded old new word inside floods shows adds =
    grows-adds (IsMarkedBit targets word (length targets)) (Controls g) old new
    (λ n p. let h = (some_controls g targets flooded old word inside floods shows p.0 p.1).0 p.3 in (h.0, h.1, subst (λ m. Controls g h.0 m) p.2 h.2)) adds

pub some_follows : (g : List FlowNode) (targets : List ℕ) (flooded : Flooded) (old new : List ℕ) (word : ℕ) → All (λ n. n < length g) targets → Floods g targets flooded → ShowsSome (IsSplit g flooded.reaching flooded.escaping) old word
    → Adds (IsMarkedBit targets word (length targets)) old new → (b n : ℕ) → Contains targets n → Controls g b n → Contains old b → Contains new n
some_follows g targets flooded old new word inside floods shows adds b n among controls has =
    let within : among.0 < length targets = among.1 in
    let at : get_or targets among.0 0 ≡ n = get_or_default targets among.0 0 n within ∙ among.2 in
    adds.has n (among.0, within, at, (some_controls g targets flooded old word inside floods shows among.0 within).1 (b, has, subst (λ m. Controls g b m) (sym at) controls))

-- ---- all nodes

-- a node that isn't among the rest has been come to
abbrev pub ComesToAll : List FlowNode → List ℕ → List ℕ → List ℕ → List ℕ → Type 0
ComesToAll g nodes rest old new = (b n : ℕ) → Contains nodes n → Controls g b n → Contains old b → Contains rest n ⊎ Contains new n

parted : (k : ℕ) (xs front back : List ℕ) (n : ℕ) → front ≡ take k xs → back ≡ drop k xs → Contains xs n → Contains front n ⊎ Contains back n
parted k xs front back n f b has =
    ⊎_elim (λ h. inl (subst (λ (l : List ℕ). Contains l n) (sym f) h)) (λ h. inr (subst (λ (l : List ℕ). Contains l n) (sym b) h))
    (Contains-append_cases (take k xs) (drop k xs) n (subst (λ (l : List ℕ). Contains l n) (sym (take_drop k xs)) has))
  where
    take_drop : (k : ℕ) (xs : List ℕ) → take k xs ++ drop k xs ≡ xs
    take_drop zero xs = refl
    take_drop (suc k) [] = refl
    take_drop (suc k) (x ∷ xs) = ap (λ l. x ∷ l) (take_drop k xs)

pub all_begin : (g : List FlowNode) (nodes old : List ℕ) → ComesToAll g nodes nodes old old
all_begin g nodes old b n among controls has = inl among

pub all_more : (g : List FlowNode) (nodes rest some others old mid new : List ℕ) (k : ℕ) → some ≡ take k rest → others ≡ drop k rest → Grows (Controls g) old mid → Grows (Controls g) mid new → ComesToAll g nodes rest old mid
    → ((b n : ℕ) → Contains some n → Controls g b n → Contains mid b → Contains new n) → ComesToAll g nodes others old new
all_more g nodes rest some others old mid new k front back grows more before here b n among controls has =
    ⊎_elim
    (λ waits. ⊎_elim (λ now. inr (here b n now controls (grows-has (Controls g) old mid b grows has))) (λ later. inl later) (parted k rest some others n front back waits))
    (λ done. inr (grows-has (Controls g) mid new n more done))
    (before b n among controls has)

pub all_end : (g : List FlowNode) (nodes rest old new : List ℕ) → length rest ≡ 0 → ComesToAll g nodes rest old new → (b n : ℕ) → Contains nodes n → Controls g b n → Contains old b → Contains new n
all_end g nodes rest old new none before b n among controls has =
    ⊎_elim (λ waits. let lt : waits.0 < length rest = waits.1 in absurd (omega (arith, none, lt))) (λ done. done) (before b n among controls has)

pub inside_some : (g : List FlowNode) (rest some : List ℕ) (k : ℕ) → some ≡ take k rest → All (λ n. n < length g) rest → All (λ n. n < length g) some
inside_some g rest some k front inside = subst (λ (l : List ℕ). All (λ n. n < length g) l) (sym front) (All-take (λ n. n < length g) k rest inside)

-- ---- nodes that are marked already

pub marked_more : (targets nodes : List ℕ) (i : ℕ) (has_it : Bool) → IsTrue has_it ↔ Contains nodes (get_or targets i 0) → IsTrue has_it → ((j : ℕ) → j < i → Contains nodes (get_or targets j 0)) → (j : ℕ) → j < i + 1 → Contains nodes (get_or targets j 0)
marked_more targets nodes i has_it has told before j lt =
    ⊎_elim (λ (same : j ≡ i). subst (λ k. Contains nodes (get_or targets k 0)) (sym same) (has.0 told)) (λ other. let off : j ≢ i = other in before j (omega (arith, lt, off))) (cases_eq j i)

pub marked_all : (targets nodes : List ℕ) (i : ℕ) → length targets ≤ i → ((j : ℕ) → j < i → Contains nodes (get_or targets j 0)) → (n : ℕ) → Contains targets n → Contains nodes n
marked_all targets nodes i all before n among =
    let within : among.0 < length targets = among.1 in
    subst (λ m. Contains nodes m) (get_or_default targets among.0 0 n within ∙ among.2) (before among.0 (omega (arith, all, within)))

pub already_there : (g : List FlowNode) (targets nodes : List ℕ) → ((n : ℕ) → Contains targets n → Contains nodes n) → (b n : ℕ) → Contains targets n → Controls g b n → Contains nodes b → Contains nodes n
already_there g targets nodes there b n among controls has = there n among
