-- Matched edges by places, by the words of what nodes keep.
use Rattle.std.proofs.Common.{◌≡◌, ◌≢◌, ◌⊎◌, inl, inr, ⊎_elim, ℕ, zero, suc, ◌+◌, ◌<◌, ◌≤◌, Bool, true, false, not, List, [], ◌∷◌, ◌++◌, length, get_or, set, replicate, take, drop, refl, sym, ◌∙◌, ap, subst, arith, IsTrue, get_or-set_same, get_or-set_other, length-set}
use Rattle.std.specs.Prelude.{◌↔◌, Contains}
use Rattle.std.proofs.lemmas.Bool.{cases_eq, cases_lt}
use Rattle.std.proofs.lemmas.List.{get_or_default, length-replicate, take-append-drop}
use Rattle.std.proofs.lemmas.List.Elements.{Contains-get_or, Contains-append_left, Contains-append_right, Contains-append_cases}
use Rattle.flow_graph.specs.declared.graph.FlowNode.{FlowNode}
use Rattle.flow_graph.specs.FlowGraph.{MayUse, MayDefine, MustDefine}
use Rattle.flow_graph.specs.Rows.{IsBit, HasBit}
use Rattle.flow_graph.specs.Walks.{IsOn}
use Rattle.flow_graph.proofs.BitLemmas.{IsBit-zero}
use Rattle.flow_graph.proofs.GraphLaws.{Has-at, Has-from, Has-within, slice_get-at}
use Rattle.dep_graph.specs.Edges.{Adds, IsUsed, ListsPairs}
use Rattle.dep_graph.proofs.ListingLemmas.{lists-like}
use Rattle.dep_graph.proofs.PairLemmas.{adds-then, adds-like}
use Rattle.dep_graph.proofs.PlaceLemmas.{one-place}
use Rattle.matched_calls.specs.declared.kinds.StepKinds.{StepKinds}
use Rattle.matched_calls.specs.Matched.{MatchedEdge}
use Rattle.matched_calls.specs.Slices.{OrdinaryMatch}
use Rattle.matched_calls.specs.Extended.{pair_of}
use Rattle.matched_calls.specs.Summaries.{KeepsBit, IsSummary}
use Rattle.matched_calls.specs.Searches.{IsWide, IsFrom}
use Rattle.matched_calls.specs.Places.{KeepsPlaces, IsChunk, MatchedBy}
use Rattle.matched_calls.proofs.SummaryLemmas.{back_like, bit_within, zero_words}
use Rattle.matched_calls.proofs.SearchLemmas.{matches_like}
use Rattle.item_list.proofs.TruthLaws.{not_says}

-- ---- words

-- the first i places
pub record Keeping (node : FlowNode) (places : List ℕ) (i word : ℕ) : Type 0 where
  pub bits : (k : ℕ) → k < i → IsBit word k ↔ (¬ Contains node.must_def (get_or places k 0))
  pub none : (k : ℕ) → i ≤ k → ¬ IsBit word k

pub keeping_none : (node : FlowNode) (places : List ℕ) → Keeping node places 0 0
keeping_none node places = record { bits = λ k never. absurd (omega (arith, never)); none = λ k past bit. IsBit-zero k bit }

pub keeping_more : (node : FlowNode) (places : List ℕ) (i word new place : ℕ) (must : Bool) → place ≡ get_or places i 0 → IsTrue must ↔ Contains node.must_def place → ((k : ℕ) → IsBit new k ↔ (IsBit word k ⊎ (IsTrue (not must) × (k ≡ i)))) → Keeping node places i word → Keeping node places (i + 1) new
keeping_more node places i word new place must read says sets before = record {
  bits = λ k low.
      ⊎_elim
      (λ (same : k ≡ i).
      subst (λ j. IsBit new j ↔ (¬ Contains node.must_def (get_or places j 0))) (sym same) (
        λ bit among. ⊎_elim (λ was. before.none i (omega arith) was) (λ now. (not_says must).0 now.0 (says.1 (subst (λ p. Contains node.must_def p) (sym read) among))) ((sets i).0 bit),
        λ free. (sets i).1 (inr ((not_says must).1 (λ on. free (subst (λ p. Contains node.must_def p) read (says.0 on))), refl)),
      ))
      (λ other.
      let off : k ≢ i = other in
      let was = before.bits k (omega (arith, low, off)) in (
        λ bit. was.0 (⊎_elim (λ old. old) (λ now. absurd (off now.1)) ((sets k).0 bit)),
        λ free. (sets k).1 (inl (was.1 free)),
      ))
      (cases_eq k i);
  none = λ k past bit. ⊎_elim (λ was. before.none k (omega (arith, past)) was) (λ now. let same = now.1 in absurd (omega (arith, same, past))) ((sets k).0 bit);
}

-- the first i nodes
pub record Seating (g : List FlowNode) (places old : List ℕ) (i : ℕ) (kept : List ℕ) : Type 0 where
  pub len : length kept ≡ length old
  pub keeps : (n k : ℕ) → n < i → k < length places → HasBit kept n k ↔ (¬ MustDefine g (get_or places k 0) n)
  pub none : (n k : ℕ) → i ≤ n → ¬ HasBit kept n k

pub seating_none : (g : List FlowNode) (places old kept : List ℕ) → kept ≡ replicate (length old) 0 → Seating g places old 0 kept
seating_none g places old kept is = record {
  len = ap (λ (xs : List ℕ). length xs) is ∙ length-replicate (length old) 0;
  keeps = λ n k never low. absurd (omega (arith, never));
  none = λ n k past bit. zero_words (length old) n k (subst (λ (xs : List ℕ). HasBit xs n k) is bit);
}

pub seating_more : (g : List FlowNode) (places old kept : List ℕ) (i word : ℕ) (node : FlowNode) → i < length g → i < length kept → node ≡ get_or g i node → ((k : ℕ) → k < length places → IsBit word k ↔ (¬ Contains node.must_def (get_or places k 0))) → Seating g places old i kept → Seating g places old (i + 1) (set kept i word)
seating_more g places old kept i word node within room read bits before =
    let is = slice_get-at g i node within read in
    record {
      len = length-set kept i word ∙ before.len;
      keeps = λ n k low small.
          ⊎_elim
          (λ (same : n ≡ i).
          let must = λ (p : ℕ). (Has-from g i node (λ o. Contains o.must_def p) is) in
          subst (λ m. HasBit (set kept i word) m k ↔ (¬ MustDefine g (get_or places k 0) m)) (sym same)
          (subst (λ w. IsBit w k ↔ (¬ MustDefine g (get_or places k 0) i)) (sym (get_or-set_same kept i word 0 room)) (
            λ bit defines. (bits k small).0 bit (Has-at g i node (λ o. Contains o.must_def (get_or places k 0)) is defines),
            λ free. (bits k small).1 (λ among. free (must (get_or places k 0) among)),
          )))
          (λ other. subst (λ w. IsBit w k ↔ (¬ MustDefine g (get_or places k 0) n)) (sym (get_or-set_other kept i n word 0 other)) (before.keeps n k (let off : n ≢ i = other in omega (arith, low, off)) small))
          (cases_eq n i);
      none = λ n k past bit. before.none n k (omega (arith, past)) (subst (λ w. IsBit w k) (get_or-set_other kept i n word 0 (λ same. absurd (omega (arith, past, same)))) bit);
    }

pub seating_all : (g : List FlowNode) (places old kept : List ℕ) (i : ℕ) → length g ≡ i → Seating g places old i kept → KeepsPlaces g places kept
seating_all g places old kept i all seating n k within low = seating.keeps n k (omega (arith, all, within)) low

-- ---- one bit for all

-- the first i words
pub record Widening (kept old : List ℕ) (k i : ℕ) (wide : List ℕ) : Type 0 where
  pub len : length wide ≡ length old
  pub bits : (n j : ℕ) → n < i → j < 64 → HasBit wide n j ↔ HasBit kept n k

pub widening_none : (kept old : List ℕ) (k : ℕ) → Widening kept old k 0 old
widening_none kept old k = record { len = refl; bits = λ n j never small. absurd (omega (arith, never)) }

pub widening_more : (kept old wide : List ℕ) (k i all : ℕ) (has : Bool) → i < length wide → IsTrue has ↔ HasBit kept i k → ((j : ℕ) → j < 64 → IsBit all j ↔ (¬ IsTrue (not has))) → Widening kept old k i wide → Widening kept old k (i + 1) (set wide i all)
widening_more kept old wide k i all has room says bits before = record {
  len = length-set wide i all ∙ before.len;
  bits = λ n j low small.
      ⊎_elim
      (λ (same : n ≡ i).
      subst (λ m. HasBit (set wide i all) m j ↔ HasBit kept m k) (sym same)
      (subst (λ w. IsBit w j ↔ HasBit kept i k) (sym (get_or-set_same wide i all 0 room)) (
        λ bit. says.0 (both_not has ((bits j small).0 bit)),
        λ on. (bits j small).1 (λ off. (not_says has).0 off (says.1 on)),
      )))
      (λ other. subst (λ w. IsBit w j ↔ HasBit kept n k) (sym (get_or-set_other wide i n all 0 other)) (before.bits n j (let off : n ≢ i = other in omega (arith, low, off)) small))
      (cases_eq n i);
}
  where
    both_not : (b : Bool) → ¬ IsTrue (not b) → IsTrue b
    both_not true off = refl
    both_not false off = absurd (off refl)

pub widening_all : (kept old wide : List ℕ) (k i : ℕ) → length kept ≡ i → length old ≡ length kept → Widening kept old k i wide → (n j : ℕ) → j < 64 → HasBit wide n j ↔ HasBit kept n k
widening_all kept old wide k i all many widening n j small =
    let len = widening.len in
    ⊎_elim (λ (low : n < length kept). widening.bits n j (omega (arith, low, all)) small)
    (λ (past : length kept ≤ n). (λ bit. let within = bit_within wide n j bit in absurd (omega (arith, past, len, many, within)), λ bit. let within = bit_within kept n k bit in absurd (omega (arith, past, within))))
    (cases_lt n (length kept))

pub wide_is : (g : List FlowNode) (kinds : StepKinds) (kept wide : List ℕ) (k : ℕ) → k < 64 → length kept ≡ length g + length kinds.after → length wide ≡ length kept → ((n j : ℕ) → j < 64 → HasBit wide n j ↔ HasBit kept n k) → IsSummary g kinds kept → IsWide g kinds wide
wide_is g kinds kept wide k small len many bits summary =
    let back = λ (n j : ℕ) (low : j < 64) (bit : HasBit kept n k). (bits n j low).1 bit in
    record {
      len = many ∙ len;
      even = λ n j low. (λ bit. (bits n 0 (omega arith)).1 ((bits n j low).0 bit), λ bit. (bits n j low).1 ((bits n 0 (omega arith)).0 bit));
      summary = λ i j low within.
          let here = summary i k low small in (
            λ bit. back_like g kinds (KeepsBit kept k) (KeepsBit wide j) (λ n inside keeps. back n j within keeps) (pair_of kinds.after i).0 (pair_of kinds.after i).1 (here.0 ((bits (length g + i) j within).0 bit)),
            λ comes. (bits (length g + i) j within).1 (here.1 (back_like g kinds (KeepsBit wide j) (KeepsBit kept k) (λ n inside keeps. (bits n j within).0 keeps) (pair_of kinds.after i).0 (pair_of kinds.after i).1 comes)),
          );
    }

-- ---- marks

-- the first i marks
pub record Marking (P : ℕ → Type 0) (old : List Bool) (i : ℕ) (marks : List Bool) : Type 0 where
  pub len : length marks ≡ length old
  pub on : (m : ℕ) → m < i → IsOn marks m ↔ P m

pub marking_none : (P : ℕ → Type 0) (old : List Bool) → Marking P old 0 old
marking_none P old = record { len = refl; on = λ m never. absurd (omega (arith, never)) }

pub marking_more : (P : ℕ → Type 0) (old marks : List Bool) (i : ℕ) (is : Bool) → i < length marks → IsTrue is ↔ P i → Marking P old i marks → Marking P old (i + 1) (set marks i is)
marking_more P old marks i is room says before = record {
  len = length-set marks i is ∙ before.len;
  on = λ m low.
      ⊎_elim (λ (same : m ≡ i). subst (λ j. IsOn (set marks i is) j ↔ P j) (sym same) (subst (λ b. IsTrue b ↔ P i) (sym (get_or-set_same marks i is false room)) says))
      (λ other. subst (λ b. IsTrue b ↔ P m) (sym (get_or-set_other marks i m is false other)) (before.on m (let off : m ≢ i = other in omega (arith, low, off))))
      (cases_eq m i);
}

pub defines_at : (g : List FlowNode) (place m : ℕ) (node : FlowNode) (is : Bool) → m < length g → node ≡ get_or g m node → IsTrue is ↔ Contains node.may_def place → IsTrue is ↔ MayDefine g place m
defines_at g place m node is within read says =
    let at = slice_get-at g m node within read in
    (λ on. Has-from g m node (λ o. Contains o.may_def place) at (says.0 on), λ defines. says.1 (Has-at g m node (λ o. Contains o.may_def place) at defines))

-- ---- edges

-- from what may define a place to what may use it
pub from_edge : (g : List FlowNode) (kinds : StepKinds) (place : ℕ) (kept : List ℕ) (sources : List Bool) (targets : List ℕ) → length sources ≡ length g → ((m : ℕ) → m < length g → IsOn sources m ↔ MayDefine g place m) → ((n : ℕ) → n < length g → HasBit kept n 0 ↔ (¬ MustDefine g place n)) → ((n : ℕ) → Contains targets n ↔ MayUse g place n)
    → (m n : ℕ) → IsFrom g kinds kept sources targets m n ↔ MatchedEdge g kinds place m n
from_edge g kinds place kept sources targets many marks keeps uses m n = (
  λ a. record {
    defines = (marks m (let low = on_within sources m a.source in omega (arith, low, many))).0 a.source;
    uses = (uses n).0 a.target;
    matches = matches_like g kinds (KeepsBit kept 0) (λ i. ¬ MustDefine g place i) (λ i within bit. (keeps i within).0 bit) m n a.matches;
  },
  λ e. record {
    source = (marks m (Has-within g m (λ o. Contains o.may_def place) e.defines)).1 e.defines;
    target = (uses n).1 e.uses;
    matches = matches_like g kinds (λ i. ¬ MustDefine g place i) (KeepsBit kept 0) (λ i within free. (keeps i within).1 free) m n e.matches;
  },
)
  where
    on_within : (marks' : List Bool) (i : ℕ) → IsOn marks' i → i < length marks'
    on_within [] i on = absurd (cc)
    on_within (b ∷ bs) zero on = omega arith
    on_within (b ∷ bs) (suc i) on = let low = on_within bs i on in omega (arith, low)

-- ---- place by place

-- by one of the first i places
abbrev pub MatchedBelow : List FlowNode → StepKinds → List ℕ → ℕ → ℕ → ℕ → Type 0
MatchedBelow g kinds places i m n = (j : ℕ) × (j < i) × MatchedEdge g kinds (get_or places j 0) m n

pub below_none : (g : List FlowNode) (kinds : StepKinds) (places : List ℕ) (old : List (List Bool)) → Adds (MatchedBelow g kinds places 0) old old
below_none g kinds places old m n = (λ has. inl has, λ either. ⊎_elim (λ has. has) (λ never. let lt = never.1 in absurd (omega (arith, lt))) either)

pub below_more : (g : List FlowNode) (kinds : StepKinds) (places : List ℕ) (i place : ℕ) (old mid new : List (List Bool)) → place ≡ get_or places i 0 → Adds (MatchedBelow g kinds places i) old mid → Adds (MatchedEdge g kinds place) mid new → Adds (MatchedBelow g kinds places (i + 1)) old new
below_more g kinds places i place old mid new read =
    adds-then (MatchedBelow g kinds places i) (MatchedEdge g kinds place) (MatchedBelow g kinds places (i + 1)) old mid new
    (λ m n. (
      λ e. ⊎_elim (λ (same : e.0 ≡ i). inr (subst (λ p. MatchedEdge g kinds p m n) (ap (λ j. get_or places j 0) same ∙ sym read) e.2)) (λ other. inl (e.0, (let lt = e.1 in let off : e.0 ≢ i = other in omega (arith, lt, off)), e.2)) (cases_eq e.0 i),
      λ either. ⊎_elim (λ e. (e.0, (let lt = e.1 in omega (arith, lt)), e.2)) (λ e. (i, omega arith, subst (λ p. MatchedEdge g kinds p m n) read e)) either,
    ))

pub below_all : (g : List FlowNode) (kinds : StepKinds) (places : List ℕ) (i : ℕ) (old new : List (List Bool)) → length places ≡ i → Adds (MatchedBelow g kinds places i) old new → Adds (MatchedBy g kinds places) old new
below_all g kinds places i old new all =
    adds-like (MatchedBelow g kinds places i) (MatchedBy g kinds places) old new
    (λ m n. (
      λ e. let low : e.0 < length places = (let lt = e.1 in omega (arith, lt, all)) in (get_or places e.0 0, Contains-get_or places e.0 0 low, e.2),
      λ e. let low : e.1.0 < length places = e.1.1 in (e.1.0, omega (arith, low, all), subst (λ p. MatchedEdge g kinds p m n) (sym (get_or_default places e.1.0 0 e.0 low ∙ e.1.2)) e.2),
    ))

by_parts : (g : List FlowNode) (kinds : StepKinds) (first after : List ℕ) (m n : ℕ) → MatchedBy g kinds (first ++ after) m n ↔ (MatchedBy g kinds first m n ⊎ MatchedBy g kinds after m n)
by_parts g kinds first after m n = (
  λ e. ⊎_elim (λ one. inl (e.0, one, e.2)) (λ two. inr (e.0, two, e.2)) (Contains-append_cases first after e.0 e.1),
  λ either. ⊎_elim (λ e. (e.0, Contains-append_left first after e.0 e.1, e.2)) (λ e. (e.0, Contains-append_right first after e.0 e.1, e.2)) either,
)

pub by_later : (g : List FlowNode) (kinds : StepKinds) (rest some others : List ℕ) (count : ℕ) (old mid new : List (List Bool)) → some ≡ take count rest → others ≡ drop count rest → Adds (MatchedBy g kinds some) old mid → Adds (MatchedBy g kinds others) mid new → Adds (MatchedBy g kinds rest) old new
by_later g kinds rest some others count old mid new some_is others_is first second =
    let whole : some ++ others ≡ rest = ap (λ xs. xs ++ others) some_is ∙ ap (λ xs. take count rest ++ xs) others_is ∙ take-append-drop count rest in
    subst (λ xs. Adds (MatchedBy g kinds xs) old new) whole
    (adds-then (MatchedBy g kinds some) (MatchedBy g kinds others) (MatchedBy g kinds (some ++ others)) old mid new (λ m n. by_parts g kinds some others m n) first second)

pub by_none : (g : List FlowNode) (kinds : StepKinds) (rest : List ℕ) (old : List (List Bool)) → length rest ≡ 0 → Adds (MatchedBy g kinds rest) old old
by_none g kinds rest old none m n = (λ has. inl has, λ either. ⊎_elim (λ has. has) (λ e. let within : e.1.0 < length rest = e.1.1 in absurd (omega (arith, within, none))) either)

-- ---- the two lists

pub ordinary_matches : (g nodes : List FlowNode) (kinds : StepKinds) (places slice : List ℕ) (edges items : List (ℕ × ℕ)) → nodes ≡ g → slice ≡ places → items ≡ edges → ((place : ℕ) → Contains places place ↔ IsUsed nodes place) → ListsPairs (MatchedBy nodes kinds slice) edges → ListsPairs (OrdinaryMatch g kinds) items
ordinary_matches g nodes kinds places slice edges items same slice_is items_is used lists =
    subst (λ (ns : List FlowNode). ListsPairs (OrdinaryMatch ns kinds) items) same
    (subst (λ (es : List (ℕ × ℕ)). ListsPairs (OrdinaryMatch nodes kinds) es) (sym items_is)
    (lists-like (MatchedBy nodes kinds slice) (OrdinaryMatch nodes kinds) edges
    (λ m n. (
      λ e. (e.0, ((used e.0).0 (subst (λ xs. Contains xs e.0) slice_is e.1)).0, e.2),
      λ e. (e.0, subst (λ xs. Contains xs e.0) (sym slice_is) ((used e.0).1 (e.1, (n, e.2.uses))), e.2),
    ))
    lists))

pub sp_matches : (g nodes : List FlowNode) (kinds : StepKinds) (edges items : List (ℕ × ℕ)) → nodes ≡ g → items ≡ edges → ListsPairs (MatchedBy nodes kinds (4 ∷ [])) edges → ListsPairs (MatchedEdge g kinds 4) items
sp_matches g nodes kinds edges items same items_is lists =
    subst (λ (ns : List FlowNode). ListsPairs (MatchedEdge ns kinds 4) items) same
    (subst (λ (es : List (ℕ × ℕ)). ListsPairs (MatchedEdge nodes kinds 4) es) (sym items_is)
    (lists-like (MatchedBy nodes kinds (4 ∷ [])) (MatchedEdge nodes kinds 4) edges
    (λ m n. (λ e. subst (λ p. MatchedEdge nodes kinds p m n) (sym (one-place e.0 4 e.1)) e.2, λ e. (4, (0, omega arith, refl), e)))
    lists))

-- ---- what the code holds

pub held_wide : (g : List FlowNode) (kinds : StepKinds) (places kept wide held : List ℕ) (k : ℕ) → IsChunk g kinds places kept → k < 64 → held ≡ wide → length wide ≡ length kept → ((n j : ℕ) → j < 64 → HasBit wide n j ↔ HasBit kept n k) → IsWide g kinds held
held_wide g kinds places kept wide held k chunk small is many bits = subst (λ (ws : List ℕ). IsWide g kinds ws) (sym is) (wide_is g kinds kept wide k small chunk.len many bits chunk.summary)

pub held_edges : (g : List FlowNode) (kinds : StepKinds) (places kept wide held : List ℕ) (marks sources : List Bool) (targets : List ℕ) (k : ℕ) → IsChunk g kinds places kept → k < length places → held ≡ wide → sources ≡ marks → ((n j : ℕ) → j < 64 → HasBit wide n j ↔ HasBit kept n k) → length marks ≡ length g
    → ((m : ℕ) → m < length g → IsOn marks m ↔ MayDefine g (get_or places k 0) m) → ((n : ℕ) → Contains targets n ↔ MayUse g (get_or places k 0) n) → (m n : ℕ) → IsFrom g kinds held sources targets m n ↔ MatchedEdge g kinds (get_or places k 0) m n
held_edges g kinds places kept wide held marks sources targets k chunk low is same bits many defines uses m n =
    subst (λ (ms : List Bool). IsFrom g kinds held ms targets m n ↔ MatchedEdge g kinds (get_or places k 0) m n) (sym same)
    (subst (λ (ws : List ℕ). IsFrom g kinds ws marks targets m n ↔ MatchedEdge g kinds (get_or places k 0) m n) (sym is)
    (from_edge g kinds (get_or places k 0) wide marks targets many defines
    (λ i within. (λ bit. (chunk.keeps i k within low).0 ((bits i 0 (omega arith)).0 bit), λ free. (bits i 0 (omega arith)).1 ((chunk.keeps i k within low).1 free))) uses m n))

pub chunk_made : (g : List FlowNode) (kinds : StepKinds) (places seated given summed held : List ℕ) → given ≡ seated → held ≡ summed → length summed ≡ length g + length kinds.after → KeepsPlaces g places seated → ((n : ℕ) → n < length g → get_or summed n 0 ≡ get_or given n 0) → IsSummary g kinds summed
    → IsChunk g kinds places held
chunk_made g kinds places seated given summed held given_is held_is len keeps same summary =
    subst (λ (ws : List ℕ). IsChunk g kinds places ws) (sym held_is)
    (record {
      len = len;
      keeps = λ n k within low. subst (λ w. IsBit w k ↔ (¬ MustDefine g (get_or places k 0) n)) (sym (same n within ∙ ap (λ (ws : List ℕ). get_or ws n 0) given_is)) (keeps n k within low);
      summary = summary;
    })
