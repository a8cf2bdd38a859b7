-- Lists of pairs that grow.
use Rattle.std.proofs.Common.{◌≡◌, ◌≢◌, ◌⊎◌, inl, inr, ⊎_elim, ℕ, ◌+◌, ◌<◌, ◌≤◌, Bool, true, false, cond, List, [], ◌∷◌, ◌++◌, length, get_or, take, drop, refl, sym, ◌∙◌, ap, subst, arith, IsTrue}
use Rattle.std.specs.Prelude.{◌↔◌, All, Contains}
use Rattle.std.proofs.lemmas.Bool.{cases_eq}
use Rattle.std.proofs.lemmas.List.{get_or_default, take-append-drop}
use Rattle.std.proofs.lemmas.List.Elements.{Contains-append_left, Contains-append_right, Contains-append_cases, Contains-push, Contains-push_cases, Contains-get_or}
use Rattle.flow_graph.specs.declared.graph.FlowNode.{FlowNode}
use Rattle.flow_graph.specs.Rows.{IsBit}
use Rattle.flow_graph.proofs.GraphLaws.{Has-within}
use Rattle.control_walks.specs.ControlWalks.{Controls}
use Rattle.control_walks.specs.Floods.{Floods, Flooded}
use Rattle.slicer.specs.Slicer.{AreNodes, Arrow, HasNodes, ListedEdge}
use Rattle.chops.specs.Following.{AreNumbers}
use Rattle.chops.specs.Masks.{IsSplit}
use Rattle.chops.specs.Pairs.{AddsPairs, IsShown, IsSplitFor, ControlsAny}
use Rattle.chops.proofs.ChopLemmas.{arrow_within}
use Rattle.chops.proofs.MaskLemmas.{split_controls}

pub pairs_none : (P : ℕ → ℕ → Type 0) (old : List (ℕ × ℕ)) → ((m n : ℕ) → ¬ P m n) → AddsPairs P old old
pairs_none P old none m n = (λ has. inl has, λ either. ⊎_elim (λ has. has) (λ p. absurd (none m n p)) either)

pub pairs_then : (P Q R : ℕ → ℕ → Type 0) (old mid new : List (ℕ × ℕ)) → ((m n : ℕ) → R m n ↔ (P m n ⊎ Q m n)) → AddsPairs P old mid → AddsPairs Q mid new → AddsPairs R old new
pairs_then P Q R old mid new splits first second m n = (
  λ has. ⊎_elim (λ was. ⊎_elim (λ o. inl o) (λ p. inr ((splits m n).1 (inl p))) ((first m n).0 was)) (λ q. inr ((splits m n).1 (inr q))) ((second m n).0 has),
  λ either. (second m n).1 (⊎_elim (λ o. inl ((first m n).1 (inl o))) (λ r. ⊎_elim (λ p. inl ((first m n).1 (inr p))) (λ q. inr q) ((splits m n).0 r)) either),
)

pub pairs_like : (P Q : ℕ → ℕ → Type 0) (old new : List (ℕ × ℕ)) → ((m n : ℕ) → P m n ↔ Q m n) → AddsPairs P old new → AddsPairs Q old new
pairs_like P Q old new like adds m n = (
  λ has. ⊎_elim (λ was. inl was) (λ p. inr ((like m n).0 p)) ((adds m n).0 has),
  λ either. (adds m n).1 (⊎_elim (λ was. inl was) (λ q. inr ((like m n).1 q)) either),
)

-- this pair, where it is wished
abbrev pub IsWished : Bool → ℕ → ℕ → ℕ → ℕ → Type 0
IsWished is_wished a b m n = IsTrue is_wished × (m ≡ a) × (n ≡ b)

pub pairs_push : (old new : List (ℕ × ℕ)) (a b : ℕ) (is_wished : Bool) → new ≡ cond is_wished (old ++ (a, b) ∷ []) old → AddsPairs (IsWished is_wished a b) old new
pairs_push old new a b true is m n = (
  λ has. ⊎_elim (λ was. inl was) (λ same. inr (refl, ap (λ (p : ℕ × ℕ). p.0) (sym same), ap (λ (p : ℕ × ℕ). p.1) (sym same)))
      (Contains-push_cases old (a, b) (m, n) (subst (λ (l : List (ℕ × ℕ)). Contains l (m, n)) is has)),
  λ either. subst (λ (l : List (ℕ × ℕ)). Contains l (m, n)) (sym is)
      (⊎_elim (λ was. Contains-append_left old ((a, b) ∷ []) (m, n) was)
      (λ now. subst (λ j. Contains (old ++ (a, b) ∷ []) (m, j)) (sym now.2) (subst (λ j. Contains (old ++ (a, b) ∷ []) (j, b)) (sym now.1) (Contains-push old (a, b)))) either),
)
pairs_push old new a b false is m n = (
  λ has. inl (subst (λ (l : List (ℕ × ℕ)). Contains l (m, n)) is has),
  λ either. subst (λ (l : List (ℕ × ℕ)). Contains l (m, n)) (sym is) (⊎_elim (λ was. was) (λ never. let on = never.0 in absurd (cc)) either),
)

-- ---- bits

-- the branch with those of the first i nodes whose bit is set
abbrev pub IsShownBelow : ℕ → ℕ → List ℕ → ℕ → ℕ → ℕ → Type 0
IsShownBelow branch word targets i b n = (b ≡ branch) × ((k : ℕ) × (k < i) × (get_or targets k 0 ≡ n) × IsBit word k)

pub shown_none : (branch word : ℕ) (targets : List ℕ) (old : List (ℕ × ℕ)) → AddsPairs (IsShownBelow branch word targets 0) old old
shown_none branch word targets old = pairs_none (IsShownBelow branch word targets 0) old (λ b n p. let lt = p.1.1 in absurd (omega (arith, lt)))

pub shown_more : (branch word : ℕ) (targets : List ℕ) (i target : ℕ) (is_wished : Bool) (old mid new : List (ℕ × ℕ)) → target ≡ get_or targets i 0 → IsTrue is_wished ↔ IsBit word i → AddsPairs (IsShownBelow branch word targets i) old mid → new ≡ cond is_wished (mid ++ (branch, target) ∷ []) mid
    → AddsPairs (IsShownBelow branch word targets (i + 1)) old new
shown_more branch word targets i target is_wished old mid new read wished before is =
    pairs_then (IsShownBelow branch word targets i) (IsWished is_wished branch target) (IsShownBelow branch word targets (i + 1)) old mid new
    (λ b n. (
      λ p. ⊎_elim
          (λ (same : p.1.0 ≡ i). inr (wished.1 (subst (λ j. IsBit word j) same p.1.3), p.0, sym p.1.2 ∙ ap (λ j. get_or targets j 0) same ∙ sym read))
          (λ other. inl (p.0, (p.1.0, (let lt = p.1.1 in let off : p.1.0 ≢ i = other in omega (arith, lt, off)), p.1.2, p.1.3)))
          (cases_eq p.1.0 i),
      λ either. ⊎_elim (λ p. (p.0, (p.1.0, (let lt = p.1.1 in omega (arith, lt)), p.1.2, p.1.3))) (λ now. (now.1, (i, omega arith, sym read ∙ sym now.2, wished.0 now.0))) either,
    ))
    before (pairs_push mid new branch target is_wished is)

pub shown_all : (branch word : ℕ) (targets : List ℕ) (i : ℕ) (old new : List (ℕ × ℕ)) → length targets ≡ i → AddsPairs (IsShownBelow branch word targets i) old new → AddsPairs (λ b n. (b ≡ branch) × IsShown word targets n) old new
shown_all branch word targets i old new all adds = subst (λ j. AddsPairs (IsShownBelow branch word targets j) old new) (sym all) adds

-- ---- branches

-- those of the first i branches
abbrev pub IsSplitBelow : List FlowNode → List ℕ → List ℕ → List ℕ → ℕ → ℕ → ℕ → Type 0
IsSplitBelow g reaching escaping targets i b n = (b < i) × IsSplitFor g reaching escaping targets b n

pub splits_none : (g : List FlowNode) (reaching escaping targets : List ℕ) (old : List (ℕ × ℕ)) → AddsPairs (IsSplitBelow g reaching escaping targets 0) old old
splits_none g reaching escaping targets old = pairs_none (IsSplitBelow g reaching escaping targets 0) old (λ b n p. let lt = p.0 in absurd (omega (arith, lt)))

pub splits_more : (g : List FlowNode) (reaching escaping targets : List ℕ) (i word : ℕ) (old mid new : List (ℕ × ℕ)) → ((k : ℕ) → IsBit word k ↔ IsSplit g reaching escaping i k) → AddsPairs (IsSplitBelow g reaching escaping targets i) old mid → AddsPairs (λ b n. (b ≡ i) × IsShown word targets n) mid new
    → AddsPairs (IsSplitBelow g reaching escaping targets (i + 1)) old new
splits_more g reaching escaping targets i word old mid new shows before here =
    pairs_then (IsSplitBelow g reaching escaping targets i) (λ b n. (b ≡ i) × IsShown word targets n) (IsSplitBelow g reaching escaping targets (i + 1)) old mid new
    (λ b n. (
      λ p. ⊎_elim
          (λ (same : b ≡ i). inr (same, (p.1.0, p.1.1, p.1.2, (shows p.1.0).1 (subst (λ c. IsSplit g reaching escaping c p.1.0) same p.1.3))))
          (λ other. inl ((let lt = p.0 in let off : b ≢ i = other in omega (arith, lt, off)), p.1))
          (cases_eq b i),
      λ either. ⊎_elim (λ p. ((let lt = p.0 in omega (arith, lt)), p.1))
          (λ now. ((let same = now.0 in omega (arith, same)), (now.1.0, now.1.1, now.1.2, subst (λ c. IsSplit g reaching escaping c now.1.0) (sym now.0) ((shows now.1.0).0 now.1.3)))) either,
    ))
    before here

pub splits_all : (g : List FlowNode) (reaching escaping targets : List ℕ) (i : ℕ) (old new : List (ℕ × ℕ)) → length g ≤ i → AddsPairs (IsSplitBelow g reaching escaping targets i) old new → AddsPairs (IsSplitFor g reaching escaping targets) old new
splits_all g reaching escaping targets i old new all =
    pairs_like (IsSplitBelow g reaching escaping targets i) (IsSplitFor g reaching escaping targets) old new
    (λ b n. (λ p. p.1, λ p. ((let within : b < length g = Has-within g b (λ node. IsTrue node.branch) p.3.branches in omega (arith, within, all)), p)))

-- ---- what is flooded

pub splits_control : (g : List FlowNode) (targets : List ℕ) (flooded : Flooded) → All (λ n. n < length g) targets → Floods g targets flooded → (b n : ℕ) → IsSplitFor g flooded.reaching flooded.escaping targets b n ↔ ControlsAny g targets b n
splits_control g targets flooded inside floods b n = (
  λ p.
      let c = (split_controls g targets flooded b p.0 (λ j low. inside j 0 low) floods).0 p.3 in
      (subst (λ m. Contains targets m) p.2 (Contains-get_or targets p.0 0 p.1), subst (λ m. Controls g b m) p.2 c.1),
  λ c.
      let among = c.0 in
      let within : among.0 < length targets = among.1 in
      let at : get_or targets among.0 0 ≡ n = get_or_default targets among.0 0 n within ∙ among.2 in
      (among.0, within, at, (split_controls g targets flooded b among.0 (λ j low. inside j 0 low) floods).1 (within, subst (λ m. Controls g b m) (sym at) c.1)),
)

pub held_splits : (nodes g : List FlowNode) (reaching rows escaping others targets : List ℕ) (old new : List (ℕ × ℕ)) → nodes ≡ g → reaching ≡ rows → escaping ≡ others → AddsPairs (IsSplitFor nodes reaching escaping targets) old new → AddsPairs (IsSplitFor g rows others targets) old new
held_splits nodes g reaching rows escaping others targets old new n r e adds =
    subst (λ (o : List ℕ). AddsPairs (IsSplitFor g rows o targets) old new) e
    (subst (λ (w : List ℕ). AddsPairs (IsSplitFor g w escaping targets) old new) r
    (subst (λ (ns : List FlowNode). AddsPairs (IsSplitFor ns reaching escaping targets) old new) n adds))

-- ---- nodes by parts

pub controls_parts : (g : List FlowNode) (first after : List ℕ) (b n : ℕ) → ControlsAny g (first ++ after) b n ↔ (ControlsAny g first b n ⊎ ControlsAny g after b n)
controls_parts g first after b n = (
  λ c. ⊎_elim (λ one. inl (one, c.1)) (λ two. inr (two, c.1)) (Contains-append_cases first after n c.0),
  λ either. ⊎_elim (λ c. (Contains-append_left first after n c.0, c.1)) (λ c. (Contains-append_right first after n c.0, c.1)) either,
)

pub controls_later : (g : List FlowNode) (rest some others : List ℕ) (count : ℕ) (old mid new : List (ℕ × ℕ)) → some ≡ take count rest → others ≡ drop count rest → AddsPairs (ControlsAny g some) old mid → AddsPairs (ControlsAny g others) mid new → AddsPairs (ControlsAny g rest) old new
controls_later g rest some others count old mid new some_is others_is first second =
    let whole : some ++ others ≡ rest = ap (λ xs. xs ++ others) some_is ∙ ap (λ xs. take count rest ++ xs) others_is ∙ take-append-drop count rest in
    subst (λ xs. AddsPairs (ControlsAny g xs) old new) whole
    (pairs_then (ControlsAny g some) (ControlsAny g others) (ControlsAny g (some ++ others)) old mid new (λ b n. controls_parts g some others b n) first second)

pub controls_end : (g : List FlowNode) (rest : List ℕ) (old : List (ℕ × ℕ)) → length rest ≡ 0 → AddsPairs (ControlsAny g rest) old old
controls_end g rest old none = pairs_none (ControlsAny g rest) old (λ b n c. let within : c.0.0 < length rest = c.0.1 in absurd (omega (arith, none, within)))

pub controls_all : (g : List FlowNode) (numbers : List ℕ) (pairs : List (ℕ × ℕ)) → ((n : ℕ) → n < length g → Contains numbers n) → AddsPairs (ControlsAny g numbers) [] pairs → (b n : ℕ) → Contains pairs (b, n) ↔ Controls g b n
controls_all g numbers pairs all adds b n = (
  λ has. ⊎_elim (λ never. let lt : never.0 < 0 = never.1 in absurd (omega (arith, lt))) (λ c. c.1) ((adds b n).0 has),
  λ c. (adds b n).1 (inr (all n (Has-within g n (λ node. node.at ≡ c.at) c.stands), c)),
)

-- ---- all arrows

pub arrows_all : (g : List FlowNode) (ordinary sp first edges rest all : List (ℕ × ℕ)) (skip_sp : Bool) → ((b n : ℕ) → Contains first (b, n) ↔ Controls g b n) → edges ≡ ordinary → ((m n : ℕ) → Contains rest (m, n) ↔ ((¬ IsTrue skip_sp) × Contains sp (m, n))) → all ≡ (first ++ edges) ++ rest
    → (m n : ℕ) → Contains all (m, n) ↔ Arrow (ListedEdge ordinary sp skip_sp) g m n
arrows_all g ordinary sp first edges rest all skip_sp controls same follow is m n = (
  λ has. ⊎_elim
      (λ one. ⊎_elim (λ c. inr ((controls m n).0 c)) (λ e. inl (inl (subst (λ (l : List (ℕ × ℕ)). Contains l (m, n)) same e))) (Contains-append_cases first edges (m, n) one))
      (λ s. inl (inr ((follow m n).0 s)))
      (Contains-append_cases (first ++ edges) rest (m, n) (subst (λ (l : List (ℕ × ℕ)). Contains l (m, n)) is has)),
  λ arrow. subst (λ (l : List (ℕ × ℕ)). Contains l (m, n)) (sym is)
      (⊎_elim
      (λ edge. ⊎_elim (λ o. Contains-append_left (first ++ edges) rest (m, n) (Contains-append_right first edges (m, n) (subst (λ (l : List (ℕ × ℕ)). Contains l (m, n)) (sym same) o)))
      (λ s. Contains-append_right (first ++ edges) rest (m, n) ((follow m n).1 s)) edge)
      (λ c. Contains-append_left (first ++ edges) rest (m, n) (Contains-append_left first edges (m, n) ((controls m n).1 c))) arrow),
)

-- an arrow goes from a node
pub arrow_from : (ordinary sp : List (ℕ × ℕ)) (skip_sp : Bool) (g : List FlowNode) → HasNodes g ordinary sp → (m n : ℕ) → Arrow (ListedEdge ordinary sp skip_sp) g m n → m < length g
arrow_from ordinary sp skip_sp g has m n arrow =
    ⊎_elim (λ edge. ⊎_elim (λ o. first ordinary has.ordinary_edges o) (λ s. first sp has.sp_edges s.1) edge) (λ controls. Has-within g m (λ node. IsTrue node.branch) controls.branches) arrow
  where
    first : (pairs : List (ℕ × ℕ)) → AreNodes g pairs → Contains pairs (m, n) → m < length g
    first pairs nodes among = subst (λ (p : ℕ × ℕ). p.0 < length g) among.2 (nodes among.0 (m, n) among.1).0

pub arrows_inside : (g : List FlowNode) (ordinary sp arrows : List (ℕ × ℕ)) (skip_sp : Bool) → HasNodes g ordinary sp → ((m n : ℕ) → Contains arrows (m, n) ↔ Arrow (ListedEdge ordinary sp skip_sp) g m n) → All (λ a. (a.0 < length g) × (a.1 < length g)) arrows
arrows_inside g ordinary sp arrows skip_sp nodes lists k d within =
    let arrow = (lists (get_or arrows k d).0 (get_or arrows k d).1).0 (Contains-get_or arrows k d within) in
    (arrow_from ordinary sp skip_sp g nodes (get_or arrows k d).0 (get_or arrows k d).1 arrow, arrow_within ordinary sp skip_sp g nodes (get_or arrows k d).0 (get_or arrows k d).1 arrow)

-- ---- numbers

pub numbers_inside : (xs : List ℕ) (n : ℕ) → length xs ≡ n → AreNumbers xs → All (λ m. m < n) xs
numbers_inside xs n many are k d within = subst (λ m. m < n) (sym (are k d within)) (omega (arith, many, within))

pub numbers_all : (xs : List ℕ) (n : ℕ) → length xs ≡ n → AreNumbers xs → (m : ℕ) → m < n → Contains xs m
numbers_all xs n many are m within = let low : m < length xs = omega (arith, many, within) in (m, low, are m m low)
