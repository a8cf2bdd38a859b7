-- Matched control, from all control and all matched walks.
use Rattle.std.proofs.Common.{◌≡◌, ◌≢◌, ◌⊎◌, inl, inr, ⊎_elim, ℕ, ◌+◌, ◌-◌, ◌<◌, ◌≤◌, Bool, true, false, cond, List, [], ◌∷◌, ◌++◌, length, get_or, set, replicate, sym, ◌∙◌, ap, subst, arith, IsTrue, get_or-set_same, get_or-set_other, length-set}
use Rattle.std.specs.Prelude.{◌↔◌, Contains}
use Rattle.std.proofs.lemmas.Bool.{cases_eq, cases_lt}
use Rattle.std.proofs.lemmas.List.{get_or_default, length-replicate}
use Rattle.std.proofs.lemmas.List.Elements.{Contains-get_or}
use Rattle.flow_graph.specs.declared.graph.FlowNode.{FlowNode}
use Rattle.flow_graph.specs.Rows.{IsBit, HasBit}
use Rattle.flow_graph.specs.Walks.{IsOn}
use Rattle.flow_graph.proofs.GraphLaws.{Has-within}
use Rattle.flow_graph.proofs.WalkLaws.{all_on}
use Rattle.control_walks.specs.ControlWalks.{Controls}
use Rattle.dep_graph.specs.Edges.{Adds, HasPair, IsUsed, ListsPairs}
use Rattle.dep_graph.proofs.PairLemmas.{none-has}
use Rattle.chops.specs.Pairs.{AddsPairs}
use Rattle.chops.proofs.PairSetLemmas.{IsWished, pairs_none, pairs_push, pairs_then}
use Rattle.matched_calls.specs.declared.kinds.StepKinds.{StepKinds}
use Rattle.matched_calls.specs.Matched.{MatchedWalk, MatchedControl}
use Rattle.matched_calls.specs.Slices.{HasMatches, HasPairs}
use Rattle.matched_calls.specs.Extended.{pair_of}
use Rattle.matched_calls.specs.Summaries.{KeepsBit, IsSummary}
use Rattle.matched_calls.specs.Searches.{IsWide, IsFrom, IsWalk}
use Rattle.matched_calls.specs.Places.{MatchedBy}
use Rattle.matched_calls.proofs.PlaceLemmas.{ordinary_matches, sp_matches}
use Rattle.matched_calls.proofs.SummaryLemmas.{back_like, bit_within, step_within, zero_words}
use Rattle.matched_calls.proofs.SearchLemmas.{matches_like}

-- ---- all bits

-- the first i words
pub record Filling (old : List ℕ) (i : ℕ) (kept : List ℕ) : Type 0 where
  pub len : length kept ≡ length old
  pub all : (n k : ℕ) → n < i → k < 64 → HasBit kept n k
  pub none : (n k : ℕ) → i ≤ n → ¬ HasBit kept n k

pub filling_none : (old kept : List ℕ) → kept ≡ replicate (length old) 0 → Filling old 0 kept
filling_none old kept is = record {
  len = ap (λ (xs : List ℕ). length xs) is ∙ length-replicate (length old) 0;
  all = λ n k never small. absurd (omega (arith, never));
  none = λ n k past bit. zero_words (length old) n k (subst (λ (xs : List ℕ). HasBit xs n k) is bit);
}

pub filling_more : (old kept : List ℕ) (i word : ℕ) → i < length kept → ((k : ℕ) → k < 64 → IsBit word k) → Filling old i kept → Filling old (i + 1) (set kept i word)
filling_more old kept i word room bits before = record {
  len = length-set kept i word ∙ before.len;
  all = λ n k low small.
      ⊎_elim (λ (same : n ≡ i). subst (λ w. IsBit w k) (sym (ap (λ m. get_or (set kept i word) m 0) same ∙ get_or-set_same kept i word 0 room)) (bits k small))
      (λ other. subst (λ w. IsBit w k) (sym (get_or-set_other kept i n word 0 other)) (before.all n k (let off : n ≢ i = other in omega (arith, low, off)) small))
      (cases_eq n i);
  none = λ n k past bit. before.none n k (omega (arith, past)) (subst (λ w. IsBit w k) (get_or-set_other kept i n word 0 (λ same. absurd (omega (arith, past, same)))) bit);
}

-- words with all bits at the nodes have all bits alike
pub full_wide : (g : List FlowNode) (kinds : StepKinds) (kept : List ℕ) → length kept ≡ length g + length kinds.after → ((n k : ℕ) → n < length g → k < 64 → HasBit kept n k) → IsSummary g kinds kept → IsWide g kinds kept
full_wide g kinds kept len all summary = record {
  len = len;
  even = λ n k small.
      ⊎_elim
      (λ (node : n < length g). (λ _. all n 0 node (omega arith), λ _. all n k node small))
      (λ (past : length g ≤ n).
      ⊎_elim
      (λ (low : n - length g < length kinds.after).
      let i : ℕ = n - length g in
      let at : length g + (n - length g) ≡ n = omega (arith, past) in
      let one = summary (n - length g) k low small in
      let two = summary (n - length g) 0 low (omega arith) in
      let pair = pair_of kinds.after (n - length g) in
      subst (λ m. HasBit kept m k ↔ HasBit kept m 0) at (
        λ bit. two.1 (back_like g kinds (KeepsBit kept k) (KeepsBit kept 0) (λ m inside keeps. all m 0 inside (omega arith)) (pair_of kinds.after (n - length g)).0 (pair_of kinds.after (n - length g)).1 (one.0 bit)),
        λ bit. one.1 (back_like g kinds (KeepsBit kept 0) (KeepsBit kept k) (λ m inside keeps. all m k inside small) (pair_of kinds.after (n - length g)).0 (pair_of kinds.after (n - length g)).1 (two.0 bit)),
      ))
      (λ (out : length kinds.after ≤ n - length g).
      let gone : length kept ≤ n = omega (arith, past, out, len) in
      (λ bit. let within = bit_within kept n k bit in absurd (omega (arith, gone, within)), λ bit. let within = bit_within kept n 0 bit in absurd (omega (arith, gone, within))))
      (cases_lt (n - length g) (length kinds.after)))
      (cases_lt n (length g));
  summary = summary;
}

-- ---- walks

starts_within : (g : List FlowNode) (kinds : StepKinds) (m : ℕ) (pending inner : List ℕ) (n : ℕ) (left : List ℕ) → MatchedWalk g kinds m pending inner n left → m < length g
starts_within g kinds m pending [] n left walk = step_within g m n walk.0
starts_within g kinds m pending (i ∷ inner) n left walk = step_within g m i walk.1

pub from_walk : (g : List FlowNode) (kinds : StepKinds) (kept : List ℕ) (sources : List Bool) (targets : List ℕ) → sources ≡ replicate (length g) true → ((n : ℕ) → Contains targets n ↔ (n < length g)) → ((n k : ℕ) → n < length g → k < 64 → HasBit kept n k) → (m n : ℕ) → IsFrom g kinds kept sources targets m n ↔ IsWalk g kinds m n
from_walk g kinds kept sources targets is numbers all m n = (
  λ a. ((numbers n).0 a.target, matches_like g kinds (KeepsBit kept 0) (λ i. Unit {0}) (λ i within bit. tt) m n a.matches),
  λ w. record {
    source = subst (λ (marks : List Bool). IsOn marks m) (sym is) (all_on (length g) m (starts_within g kinds m [] w.1.0 n w.1.1 w.1.2));
    target = (numbers n).1 w.0;
    matches = matches_like g kinds (λ i. Unit {0}) (KeepsBit kept 0) (λ i within free. all i 0 within (omega arith)) m n w.1;
  },
)

-- ---- those of some pairs that are marked

-- of the first i
abbrev pub MarkedBelow : List (ℕ × ℕ) → List (List Bool) → ℕ → ℕ → ℕ → Type 0
MarkedBelow pairs marks i m n = ((k : ℕ) × (k < i) × (get_or pairs k (0, 0) ≡ (m, n))) × HasPair marks m n

pub marked_none : (pairs : List (ℕ × ℕ)) (marks : List (List Bool)) → AddsPairs (MarkedBelow pairs marks 0) [] []
marked_none pairs marks = pairs_none (MarkedBelow pairs marks 0) [] (λ m n p. let lt = p.0.1 in absurd (omega (arith, lt)))

pub marked_more : (pairs : List (ℕ × ℕ)) (marks : List (List Bool)) (i a b : ℕ) (wished : Bool) (mid new : List (ℕ × ℕ)) → (a, b) ≡ get_or pairs i (0, 0) → IsTrue wished ↔ HasPair marks a b → AddsPairs (MarkedBelow pairs marks i) [] mid → new ≡ cond wished (mid ++ (a, b) ∷ []) mid → AddsPairs (MarkedBelow pairs marks (i + 1)) [] new
marked_more pairs marks i a b wished mid new read says before is =
    pairs_then (MarkedBelow pairs marks i) (IsWished wished a b) (MarkedBelow pairs marks (i + 1)) [] mid new
    (λ m n. (
      λ p. ⊎_elim
          (λ (same : p.0.0 ≡ i).
          let here : (a, b) ≡ (m, n) = read ∙ ap (λ j. get_or pairs j (0, 0)) (sym same) ∙ p.0.2 in
          let first : a ≡ m = ap (λ (q : ℕ × ℕ). q.0) here in
          let second : b ≡ n = ap (λ (q : ℕ × ℕ). q.1) here in
          inr (says.1 (subst (λ j. HasPair marks a j) (sym second) (subst (λ j. HasPair marks j n) (sym first) p.1)), sym first, sym second))
          (λ other. inl ((p.0.0, (let lt = p.0.1 in let off : p.0.0 ≢ i = other in omega (arith, lt, off)), p.0.2), p.1))
          (cases_eq p.0.0 i),
      λ either. ⊎_elim (λ p. ((p.0.0, (let lt = p.0.1 in omega (arith, lt)), p.0.2), p.1))
          (λ q. ((i, omega arith, subst (λ j. get_or pairs i (0, 0) ≡ (m, j)) (sym q.2) (subst (λ j. get_or pairs i (0, 0) ≡ (j, b)) (sym q.1) (sym read))), subst (λ j. HasPair marks m j) (sym q.2) (subst (λ j. HasPair marks j b) (sym q.1) (says.0 q.0)))) either,
    ))
    before (pairs_push mid new a b wished is)

pub marked_all : (pairs list : List (ℕ × ℕ)) (marks : List (List Bool)) (i : ℕ) → length pairs ≡ i → AddsPairs (MarkedBelow pairs marks i) [] list → (m n : ℕ) → Contains list (m, n) ↔ (Contains pairs (m, n) × HasPair marks m n)
marked_all pairs list marks i all adds m n = (
  λ has. ⊎_elim (λ never. let lt = never.1 in absurd (omega (arith, lt)))
      (λ p. let low : p.0.0 < length pairs = (let lt = p.0.1 in omega (arith, lt, all)) in (subst (λ (q : ℕ × ℕ). Contains pairs q) p.0.2 (Contains-get_or pairs p.0.0 (0, 0) low), p.1)) ((adds m n).0 has),
  λ both. let low : both.0.0 < length pairs = both.0.1 in
      (adds m n).1 (inr ((both.0.0, omega (arith, low, all), get_or_default pairs both.0.0 (0, 0) (m, n) low ∙ both.0.2), both.1)),
)

-- ---- control

pub control_by : (g nodes : List FlowNode) (kinds : StepKinds) (count : ℕ) (pairs slice list : List (ℕ × ℕ)) (old marks held : List (List Bool)) → nodes ≡ g → old ≡ replicate count (replicate count false) → slice ≡ pairs → held ≡ marks → ((b n : ℕ) → Contains pairs (b, n) ↔ Controls g b n) → Adds (IsWalk nodes kinds) old marks
    → ((m n : ℕ) → Contains list (m, n) ↔ (Contains slice (m, n) × HasPair held m n)) → (b n : ℕ) → Contains list (b, n) ↔ MatchedControl g kinds b n
control_by g nodes kinds count pairs slice list old marks held same none slice_is held_is controls adds_held lists b n =
    let adds : Adds (IsWalk g kinds) old marks = subst (λ (ns : List FlowNode). Adds (IsWalk ns kinds) old marks) same adds_held in
    let two : Contains list (b, n) ↔ (Contains pairs (b, n) × HasPair marks b n) =
    subst (λ (ps : List (List Bool)). Contains list (b, n) ↔ (Contains pairs (b, n) × HasPair ps b n)) held_is (subst (λ (xs : List (ℕ × ℕ)). Contains list (b, n) ↔ (Contains xs (b, n) × HasPair held b n)) slice_is (lists b n)) in (
      λ has.
          let both = two.0 has in
          record {
            controls = (controls b n).0 both.0;
            matches = ⊎_elim (λ was. absurd (none-has count old none b n was)) (λ walk. walk.1) ((adds b n).0 both.1);
          },
      λ c. two.1 ((controls b n).1 c.controls, (adds b n).1 (inr (Has-within g n (λ node. node.at ≡ c.controls.at) c.controls.stands, c.matches))),
    )

-- ---- what the code holds

-- the bits of the nodes stay
pub all_same : (g : List FlowNode) (seated given summed : List ℕ) → given ≡ seated → ((n k : ℕ) → n < length g → k < 64 → HasBit seated n k) → ((n : ℕ) → n < length g → get_or summed n 0 ≡ get_or given n 0) → (n k : ℕ) → n < length g → k < 64 → HasBit summed n k
all_same g seated given summed given_is all same n k within small = subst (λ w. IsBit w k) (sym (same n within ∙ ap (λ (ws : List ℕ). get_or ws n 0) given_is)) (all n k within small)

pub full_held : (g : List FlowNode) (kinds : StepKinds) (seated given summed held : List ℕ) → given ≡ seated → held ≡ summed → length summed ≡ length g + length kinds.after → ((n k : ℕ) → n < length g → k < 64 → HasBit seated n k) → ((n : ℕ) → n < length g → get_or summed n 0 ≡ get_or given n 0) → IsSummary g kinds summed → IsWide g kinds held
full_held g kinds seated given summed held given_is held_is len all same summary =
    subst (λ (ws : List ℕ). IsWide g kinds ws) (sym held_is) (full_wide g kinds summed len (all_same g seated given summed given_is all same) summary)

pub held_walks : (g : List FlowNode) (kinds : StepKinds) (summed held : List ℕ) (made sources : List Bool) (targets : List ℕ) → held ≡ summed → sources ≡ made → made ≡ replicate (length g) true → ((n k : ℕ) → n < length g → k < 64 → HasBit summed n k)
    → ((n : ℕ) → Contains targets n ↔ (n < length g)) → (m n : ℕ) → IsFrom g kinds held sources targets m n ↔ IsWalk g kinds m n
held_walks g kinds summed held made sources targets held_is sources_are made_is all numbers m n =
    subst (λ (ws : List ℕ). IsFrom g kinds ws sources targets m n ↔ IsWalk g kinds m n) (sym held_is) (from_walk g kinds summed sources targets (sources_are ∙ made_is) numbers all m n)

-- the lists that are made
pub matches_made : (g nodes : List FlowNode) (kinds : StepKinds) (places slice : List ℕ) (ordinary ordinary_items sp sp_items control control_items : List (ℕ × ℕ)) → nodes ≡ g → slice ≡ places → ((place : ℕ) → Contains places place ↔ IsUsed nodes place) → ordinary_items ≡ ordinary → sp_items ≡ sp → control_items ≡ control
    → ListsPairs (MatchedBy nodes kinds slice) ordinary → ListsPairs (MatchedBy nodes kinds (4 ∷ [])) sp → ((b n : ℕ) → Contains control (b, n) ↔ MatchedControl g kinds b n) → HasMatches g kinds ordinary_items sp_items control_items
matches_made g nodes kinds places slice ordinary ordinary_items sp sp_items control control_items same slice_is used ordinary_is sp_is control_is one two three = record {
  ordinary_edges = ordinary_matches g nodes kinds places slice ordinary ordinary_items same slice_is ordinary_is used one;
  sp_edges = sp_matches g nodes kinds sp sp_items same sp_is two;
  controls = λ b n. subst (λ (xs : List (ℕ × ℕ)). Contains xs (b, n) ↔ MatchedControl g kinds b n) (sym control_is) (three b n);
}

-- what matches goes between nodes
pub matches_nodes : (g : List FlowNode) (kinds : StepKinds) (ordinary sp control : List (ℕ × ℕ)) → HasMatches g kinds ordinary sp control → HasPairs g ordinary sp control
matches_nodes g kinds ordinary sp control has = record {
  ordinary_edges = λ k d within. let e = ((has.ordinary_edges.listed (get_or ordinary k d).0 (get_or ordinary k d).1).0 (Contains-get_or ordinary k d within)).2 in (Has-within g (get_or ordinary k d).0 _ e.defines, Has-within g (get_or ordinary k d).1 _ e.uses);
  sp_edges = λ k d within. let e = (has.sp_edges.listed (get_or sp k d).0 (get_or sp k d).1).0 (Contains-get_or sp k d within) in (Has-within g (get_or sp k d).0 _ e.defines, Has-within g (get_or sp k d).1 _ e.uses);
  controls = λ k d within. let c = ((has.controls (get_or control k d).0 (get_or control k d).1).0 (Contains-get_or control k d within)).controls in (Has-within g (get_or control k d).0 _ c.branches, Has-within g (get_or control k d).1 _ c.stands);
}
