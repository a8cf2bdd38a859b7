-- Branches between the rows of a flood.
use Rattle.std.proofs.Common.{◌≡◌, ◌≢◌, ⊎_elim, ℕ, zero, suc, ◌+◌, ◌^◌, ◌<◌, ◌≤◌, Bool, not, eq-eqb, eqb-true, List, [], ◌∷◌, length, get_or, take, Some, sym, ◌∙◌, subst, arith, IsTrue}
use Rattle.std.specs.Prelude.{◌↔◌, ◌==◌, Contains, slice_get, slice_index, bit_and}
use Rattle.std.proofs.lemmas.Bool.{cases_eq}
use Rattle.std.proofs.lemmas.Nat.{and_le_l}
use Rattle.std.proofs.lemmas.List.{get_or_default}
use Rattle.flow_graph.specs.declared.graph.FlowNode.{FlowNode}
use Rattle.flow_graph.specs.FlowGraph.{IsAt}
use Rattle.flow_graph.specs.Rows.{IsBit}
use Rattle.flow_graph.proofs.BitLemmas.{some_bit, not_zero, bit_and-both, bit_and-from}
use Rattle.flow_graph.proofs.GraphLaws.{Has-from, Has-at, Has-within, at-within}
use Rattle.flow_graph.proofs.WalkLaws.{not_true}
use Rattle.control_walks.specs.ControlWalks.{Controls}
use Rattle.control_walks.specs.Floods.{Floods, Flooded, Splits, SplitsBy}
use Rattle.control_walks.proofs.FloodLemmas.{same_at}

-- ---- two nodes

pub share-bits : (a b : ℕ) → a < 2 ^ 64 → (bit_and a b ≢ 0) ↔ ((k : ℕ) × IsBit a k × IsBit b k)
share-bits a b fits = (
  λ some.
      let part : bit_and a b ≤ a = and_le_l a b in
      let bit = some_bit (bit_and a b) (omega (arith, part, fits)) some in
      let both = bit_and-both a b bit.0 bit.1 in
      (bit.0, both.0, both.1),
  λ bits. not_zero (bit_and a b) bits.0 (bit_and-from a b bits.0 bits.1 bits.2),
)

pub splits_by-found : (g : List FlowNode) (reaching escaping : List ℕ) (x y x_at y_at reached escapes : ℕ) (found : Bool) → IsAt g x_at x → IsAt g y_at y → x_at ≢ y_at → reached ≡ get_or reaching x 0 → escapes ≡ get_or escaping y 0 → IsTrue found ↔ ((k : ℕ) × IsBit reached k × IsBit escapes k) → IsTrue found ↔ SplitsBy g reaching escaping x y
splits_by-found g reaching escaping x y x_at y_at reached escapes found x_stands y_stands apart reached_is escapes_is shares = (
  λ is.
      let bits = shares.0 is in
      record {
        x_at = x_at;
        y_at = y_at;
        x_stands = x_stands;
        y_stands = y_stands;
        apart = apart;
        k = bits.0;
        reached = subst (λ w. IsBit w bits.0) reached_is bits.1;
        escapes = subst (λ w. IsBit w bits.0) escapes_is bits.2;
      },
  λ s. shares.1 (s.k, subst (λ w. IsBit w s.k) (sym reached_is) s.reached, subst (λ w. IsBit w s.k) (sym escapes_is) s.escapes),
)

pub splits_by-same : (g : List FlowNode) (reaching escaping : List ℕ) (x y x_at y_at : ℕ) → IsAt g x_at x → IsAt g y_at y → x_at ≡ y_at → ¬ SplitsBy g reaching escaping x y
splits_by-same g reaching escaping x y x_at y_at x_stands y_stands same s =
    s.apart (same_at g s.x_at x_at x s.x_stands x_stands ∙ same ∙ same_at g y_at s.y_at y y_stands s.y_stands)

-- ---- one of a list

-- none of the first i
abbrev pub NoneBelow : (ℕ → Type 0) → List ℕ → ℕ → Type 0
NoneBelow P xs i = (j : ℕ) → j < i → ¬ P (get_or xs j 0)

pub some-here : (P : ℕ → Type 0) (xs : List ℕ) (i : ℕ) → i < length xs → P (get_or xs i 0) → (x : ℕ) × Contains xs x × P x
some-here P xs i within holds = (get_or xs i 0, (i, within, get_or_default xs i (get_or xs i 0) 0 within), holds)

pub none-more : (P : ℕ → Type 0) (xs : List ℕ) (i : ℕ) → ¬ P (get_or xs i 0) → NoneBelow P xs i → NoneBelow P xs (i + 1)
none-more P xs i here before j below holds =
    ⊎_elim (λ same. here (subst (λ k. P (get_or xs k 0)) same holds)) (λ other. before j (let off : j ≢ i = other in omega (arith, below, off)) holds) (cases_eq j i)

pub none-all : (P : ℕ → Type 0) (xs : List ℕ) (i : ℕ) → length xs ≤ i → NoneBelow P xs i → ¬ ((x : ℕ) × Contains xs x × P x)
none-all P xs i all none some =
    let place = some.1 in
    let within : place.0 < length xs = place.1 in
    none place.0 (omega (arith, all, within)) (subst (λ x. P x) (sym (sym (get_or_default xs place.0 some.0 0 within) ∙ place.2)) some.2)

-- ---- a branch

pub splits-by : (g : List FlowNode) (reaching escaping : List ℕ) (b : ℕ) (node : FlowNode) (nexts : List ℕ) (some : Bool) → slice_get g b ≡ Some node → nexts ≡ node.next → IsTrue node.branch → IsTrue some ↔ ((x : ℕ) × Contains nexts x × ((y : ℕ) × Contains nexts y × SplitsBy g reaching escaping x y)) → IsTrue some ↔ Splits g reaching escaping b
splits-by g reaching escaping b node nexts some here same branch found = (
  λ is.
      let s = found.0 is in
      record {
        branches = Has-from g b node (λ n. IsTrue n.branch) here branch;
        x = s.0;
        y = s.2.0;
        to_x = Has-from g b node (λ n. Contains n.next s.0) here (subst (λ ns. Contains ns s.0) same s.1);
        to_y = Has-from g b node (λ n. Contains n.next s.2.0) here (subst (λ ns. Contains ns s.2.0) same s.2.1);
        by = s.2.2;
      },
  λ s. found.1 (
    s.x,
    subst (λ ns. Contains ns s.x) (sym same) (Has-at g b node (λ n. Contains n.next s.x) here s.to_x),
    (s.y, subst (λ ns. Contains ns s.y) (sym same) (Has-at g b node (λ n. Contains n.next s.y) here s.to_y), s.by),
  ),
)

pub splits-no_branch : (g : List FlowNode) (reaching escaping : List ℕ) (b : ℕ) (node : FlowNode) → slice_get g b ≡ Some node → ¬ IsTrue node.branch → ¬ Splits g reaching escaping b
splits-no_branch g reaching escaping b node here no_branch s = no_branch (Has-at g b node (λ n. IsTrue n.branch) here s.branches)

pub splits-within : (g : List FlowNode) (reaching escaping : List ℕ) (b : ℕ) → Splits g reaching escaping b → b < length g
splits-within g reaching escaping b s = Has-within g b (λ n. IsTrue n.branch) s.branches

pub controls-within : (g : List FlowNode) (b n : ℕ) → Controls g b n → b < length g
controls-within g b n c = Has-within g b (λ node. IsTrue node.branch) c.branches

-- ---- after a flood

-- the branches that split the rows of a flood are those that control one of its nodes
pub splits-controls : (g : List FlowNode) (targets : List ℕ) (flooded : Flooded) (b : ℕ) → ((k : ℕ) → k < length targets → slice_index targets k < length g) → Floods g targets flooded → Splits g flooded.reaching flooded.escaping b ↔ ((k : ℕ) × (k < length targets) × Controls g b (slice_index targets k))
splits-controls g targets flooded b inside floods = (
  λ s.
      let k = s.by.k in
      let reached = (floods.reaches s.x s.by.k).0 s.by.reached in
      let at = at-within g (slice_index targets s.by.k) (inside s.by.k reached.0) in (
        s.by.k,
        reached.0,
        record {
          branches = s.branches;
          x = s.x;
          y = s.y;
          to_x = s.to_x;
          to_y = s.to_y;
          x_at = s.by.x_at;
          y_at = s.by.y_at;
          x_stands = s.by.x_stands;
          y_stands = s.by.y_stands;
          apart = s.by.apart;
          reached = reached.1;
          at = at.0;
          stands = at.1;
          escapes = (floods.escapes s.y s.by.k at.0 (record { among = reached.0; stands = at.1 })).0 s.by.escapes;
        },
      ),
  λ c.
      let controls = c.2 in
      record {
        branches = controls.branches;
        x = controls.x;
        y = controls.y;
        to_x = controls.to_x;
        to_y = controls.to_y;
        by = record {
          x_at = controls.x_at;
          y_at = controls.y_at;
          x_stands = controls.x_stands;
          y_stands = controls.y_stands;
          apart = controls.apart;
          k = c.0;
          reached = (floods.reaches controls.x c.0).1 (c.1, controls.reached);
          escapes = (floods.escapes controls.y c.0 controls.at (record { among = c.1; stands = controls.stands })).1 controls.escapes;
        };
      },
)

first-inside : (g : List FlowNode) (node k : ℕ) → node < length g → k < length (node ∷ []) → slice_index (node ∷ []) k < length g
first-inside g node zero inside within = inside
first-inside g node (suc k) inside within = absurd (omega arith)

first-controls : (g : List FlowNode) (b node k : ℕ) → k < length (node ∷ []) → Controls g b (slice_index (node ∷ []) k) → Controls g b node
first-controls g b node zero within controls = controls
first-controls g b node (suc k) within controls = absurd (omega arith)

-- after a flood of one node
pub splits-controls_one : (g : List FlowNode) (node : ℕ) (flooded : Flooded) (b : ℕ) → node < length g → Floods g (node ∷ []) flooded → Splits g flooded.reaching flooded.escaping b ↔ Controls g b node
splits-controls_one g node flooded b inside floods =
    let all : (k : ℕ) → k < length (node ∷ []) → slice_index (node ∷ []) k < length g = λ k within. first-inside g node k inside within in
    let by = splits-controls g (node ∷ []) flooded b all floods in
    (λ s. let c = by.0 s in first-controls g b node c.0 c.1 c.2, λ controls. by.1 (0, omega arith, controls))

pub share-test : (a b : ℕ) → a < 2 ^ 64 → IsTrue (not (bit_and a b == 0)) ↔ ((k : ℕ) × IsBit a k × IsBit b k)
share-test a b fits = (
  λ is. (share-bits a b fits).0 (λ none. let same = eq-eqb (bit_and a b) 0 none in absurd (cc)),
  λ bits. let other = (share-bits a b fits).1 bits in not_true (bit_and a b == 0) (λ is. other (eqb-true (bit_and a b) 0 is)),
)

pub listed-made : (g nodes : List FlowNode) (reaching escaping rows other_rows list items : List ℕ) (count b : ℕ) → nodes ≡ g → rows ≡ reaching → other_rows ≡ escaping → items ≡ list → Contains (take count list) b ↔ Splits nodes rows other_rows b → Contains (take count items) b ↔ Splits g reaching escaping b
listed-made g nodes reaching escaping rows other_rows list items count b same rows_is other_is items_is listed =
    subst (λ xs. Contains (take count xs) b ↔ Splits g reaching escaping b) (sym items_is)
    (subst (λ ns. Contains (take count list) b ↔ Splits ns reaching escaping b) same
    (subst (λ ws. Contains (take count list) b ↔ Splits nodes ws escaping b) rows_is
    (subst (λ ws. Contains (take count list) b ↔ Splits nodes rows ws b) other_is listed)))
