-- The words and rows of a flood.
use Rattle.std.proofs.Common.{◌≡◌, ◌≢◌, ◌⊎◌, inl, inr, ⊎_elim, ℕ, zero, suc, ◌+◌, ◌*◌, ◌%◌, ◌^◌, ◌<◌, ◌≤◌, Bool, true, false, not, eq-eqb, eqb-true, List, [], ◌∷◌, length, get_or, set, replicate, refl, sym, ◌∙◌, ap, subst, arith, IsTrue, get_or-set_same, get_or-set_other}
use Rattle.std.specs.Prelude.{◌↔◌, ◌==◌, All, slice_get, slice_index, Some, bit_or}
use Rattle.std.proofs.lemmas.List.{get_or-replicate}
use Rattle.std.proofs.lemmas.Nat.Bits.{bit_at_ones, bit_at_lowest}
use Rattle.std.proofs.lemmas.Bool.{cases_eq}
use Rattle.flow_graph.specs.declared.graph.FlowNode.{FlowNode}
use Rattle.flow_graph.specs.FlowGraph.{IsAt, IsEnd, Walk, Avoids}
use Rattle.flow_graph.specs.Rows.{IsBit, HasBit, BeginsAt, Comes}
use Rattle.flow_graph.proofs.BitLemmas.{IsBit-zero, bit_or-left, set_bit-same, set_bit-other}
use Rattle.flow_graph.proofs.GraphLaws.{Has-from, Has-at, Has-within, slice_get-at}
use Rattle.flow_graph.proofs.RowLemmas.{zeros}
use Rattle.flow_graph.proofs.RowLaws.{comes-by}
use Rattle.flow_graph.proofs.WalkLaws.{walk-within, inner-within, all-weaker, all-more, all-last, all_both}
use Rattle.control_walks.specs.Floods.{IsTarget, ShowsReaches, ShowsEscapes, ShowsApart}

-- a word with one bit more
pub word-set : (is_set : Bool) (word k j : ℕ) → is_set ≡ true → k < 64 → IsBit (bit_or word (1 * 2 ^ k % 2 ^ 64)) j ↔ (IsBit word j ⊎ (IsTrue is_set × (j ≡ k)))
word-set is_set word k j set small = (
  λ is. ⊎_elim (λ same. inr (set, same)) (λ other. inl (set_bit-other word k j small other is)) (cases_eq j k),
  λ either. ⊎_elim (λ was. bit_or-left word (1 * 2 ^ k % 2 ^ 64) j was) (λ new. subst (λ i. IsBit (bit_or word (1 * 2 ^ k % 2 ^ 64)) i) (sym new.1) (set_bit-same word k small)) either,
)

pub word-kept : (word k j : ℕ) → IsBit word j ↔ (IsBit word j ⊎ (IsTrue false × (j ≡ k)))
word-kept word k j = (λ is. inl is, λ either. ⊎_elim (λ was. was) (λ new. absurd (cc (new.0))) either)

-- two addresses of one node are equal
pub same_at : (g : List FlowNode) (a b n : ℕ) → IsAt g a n → IsAt g b n → a ≡ b
same_at [] a b n one two = absurd one
same_at (x ∷ xs) a b zero one two = sym one ∙ two
same_at (x ∷ xs) a b (suc n) one two = same_at xs a b n one two

-- which of the first i of these nodes don't stand at an address
abbrev pub ShowsApartBelow : List FlowNode → List ℕ → ℕ → ℕ → ℕ → Type 0
ShowsApartBelow g targets at i word = (k there : ℕ) → k < i → IsAt g there (slice_index targets k) → IsBit word k ↔ (there ≢ at)

-- the bits from i on are not set
abbrev pub NoneFrom : ℕ → ℕ → Type 0
NoneFrom i word = (k : ℕ) → i ≤ k → ¬ IsBit word k

pub record Apart (g : List FlowNode) (targets : List ℕ) (at i word : ℕ) : Type 0 where
  pub shows : ShowsApartBelow g targets at i word
  pub none : NoneFrom i word

pub apart-none : (g : List FlowNode) (targets : List ℕ) (at : ℕ) → Apart g targets at 0 0
apart-none g targets at = record { shows = λ k there below stands. absurd (omega (arith, below)); none = λ k from is. IsBit-zero k is }

not_on : (b : Bool) → ¬ IsTrue b → IsTrue (not b)
not_on true off = absurd (off refl)
not_on false off = refl

pub apart-more : (g : List FlowNode) (targets : List ℕ) (at i target word new : ℕ) (is_at : Bool) → target ≡ get_or targets i 0 → IsTrue is_at ↔ IsAt g at target → Apart g targets at i word → ((j : ℕ) → IsBit new j ↔ (IsBit word j ⊎ (IsTrue (not is_at) × (j ≡ i)))) → Apart g targets at (i + 1) new
apart-more g targets at i target word new is_at read stands before sets = record {
  shows = λ k there below here.
      ⊎_elim
      (λ last.
      let target_at : IsAt g there target = subst (λ n. IsAt g there n) (ap (λ j. get_or targets j 0) last ∙ sym read) here in (
        λ is same. ⊎_elim (λ was. before.none k (omega (arith, last)) was)
            (λ new. let on = stands.1 (subst (λ a. IsAt g a target) same target_at) in absurd (cc (new.0)))
            ((sets k).0 is),
        λ other. (sets k).1 (inr (not_on is_at (λ on. other (same_at g there at target target_at (stands.0 on))), last)),
      ))
      (λ off.
      let lower : k < i = (let o : k ≢ i = off in omega (arith, below, o)) in
      let was = before.shows k there lower here in (
        λ is. ⊎_elim (λ old. was.0 old) (λ new. absurd (off new.1)) ((sets k).0 is),
        λ other. (sets k).1 (inl (was.1 other)),
      ))
      (cases_eq k i);
  none = λ k from is. ⊎_elim (λ was. before.none k (omega (arith, from)) was) (λ new. let same = new.1 in absurd (omega (arith, from, same))) ((sets k).0 is);
}

-- ---- where walks to an end begin

-- what is known of the rows when the first i nodes have been looked at
pub record Seated (g : List FlowNode) (targets kept rows : List ℕ) (i : ℕ) : Type 0 where
  pub keeps : (m k at : ℕ) → m < i → IsTarget g targets k at → HasBit kept m k ↔ Avoids g at m
  pub ends : (m k at : ℕ) → IsTarget g targets k at → HasBit rows m k ↔ ((m < i) × IsEnd g m × Avoids g at m)

pub seated-none : (g : List FlowNode) (targets kept rows : List ℕ) (count : ℕ) → rows ≡ replicate count 0 → Seated g targets kept rows 0
seated-none g targets kept rows count all = record {
  keeps = λ m k at below target. absurd (omega (arith, below));
  ends = λ m k at target.
      (λ has. absurd (IsBit-zero k (subst (λ w. IsBit w k) (ap (λ ws. get_or ws m 0) all ∙ zeros 0 count m) has)), λ end. let below : m < 0 = end.0 in absurd (omega (arith, below)));
}

avoids-here : (g : List FlowNode) (i : ℕ) (node : FlowNode) (at : ℕ) → slice_get g i ≡ Some node → (at ≢ node.at) ↔ Avoids g at i
avoids-here g i node at is = (
  λ other stands. other (sym (Has-at g i node (λ n. n.at ≡ at) is stands)),
  λ avoids same. avoids (Has-from g i node (λ n. n.at ≡ at) is (sym same)),
)

pub seated-more : (g : List FlowNode) (targets kept rows : List ℕ) (i : ℕ) (node : FlowNode) (word end_word : ℕ) → i < length g → node ≡ get_or g i node → length g ≤ length kept → length g ≤ length rows → ShowsApart g targets node.at word → ((k : ℕ) → IsBit end_word k ↔ (IsTrue node.end × IsBit word k)) → Seated g targets kept rows i → Seated g targets (set kept i word) (set rows i end_word) (i + 1)
seated-more g targets kept rows i node word end_word within read kept_room rows_room apart end_is seated =
    let is : slice_get g i ≡ Some node = slice_get-at g i node within read in
    let kept_here = get_or-set_same kept i word 0 (omega arith) in
    let rows_here = get_or-set_same rows i end_word 0 (omega arith) in
    record {
      keeps = λ m k at below target.
          ⊎_elim
          (λ same. subst (λ n. HasBit (set kept i word) n k ↔ Avoids g at n) (sym same)
          (subst (λ w. IsBit w k ↔ Avoids g at i) (sym kept_here)
          (let one = apart k at target in let two = avoids-here g i node at is in (λ b. two.0 (one.0 b), λ a. one.1 (two.1 a)))))
          (λ other. subst (λ w. IsBit w k ↔ Avoids g at m) (sym (get_or-set_other kept i m word 0 other)) (seated.keeps m k at (let off : m ≢ i = other in omega (arith, below, off)) target))
          (cases_eq m i);
      ends = λ m k at target.
          ⊎_elim
          (λ same. subst (λ n. HasBit (set rows i end_word) n k ↔ ((n < i + 1) × IsEnd g n × Avoids g at n)) (sym same)
          (subst (λ w. IsBit w k ↔ ((i < i + 1) × IsEnd g i × Avoids g at i)) (sym rows_here)
          (let one = apart k at target in let two = avoids-here g i node at is in (
            λ b. let both = (end_is k).0 b in (omega arith, Has-from g i node (λ n. IsTrue n.end) is both.0, two.0 (one.0 both.1)),
            λ end. (end_is k).1 (Has-at g i node (λ n. IsTrue n.end) is end.1, one.1 (two.1 end.2)),
          ))))
          (λ other.
          let was = seated.ends m k at target in
          subst (λ w. IsBit w k ↔ ((m < i + 1) × IsEnd g m × Avoids g at m)) (sym (get_or-set_other rows i m end_word 0 other)) (
            λ has. let end = was.0 has in let below : m < i = end.0 in (omega (arith, below), end.1, end.2),
            λ end. was.1 ((let below : m < i + 1 = end.0 in let off : m ≢ i = other in omega (arith, below, off)), end.1, end.2),
          ))
          (cases_eq m i);
    }

pub seated-all : (g : List FlowNode) (targets kept rows : List ℕ) (i : ℕ) → length g ≤ i → Seated g targets kept rows i → (m k at : ℕ) → IsTarget g targets k at → HasBit rows m k ↔ (IsEnd g m × Avoids g at m)
seated-all g targets kept rows i all seated m k at target =
    let was = seated.ends m k at target in (
      λ has. let end = was.0 has in (end.1, end.2),
      λ end. was.1 ((let inside = Has-within g m (λ node. IsTrue node.end) end.0 in omega (arith, all, inside)), end.0, end.1),
    )

-- ---- what the floods show

ones : (k : ℕ) → k < 64 → IsBit 18446744073709551615 k
unfolding IsBit
ones k small = bit_at_ones 64 k small

all_ones : (kept : List ℕ) (count m k : ℕ) → kept ≡ replicate count 18446744073709551615 → m < count → k < 64 → HasBit kept m k
all_ones kept count m k all within small = subst (λ w. IsBit w k) (sym (ap (λ ws. get_or ws m 0) all ∙ get_or-replicate count m 18446744073709551615 0 within)) (ones k small)

pub shows-reaches : (g : List FlowNode) (targets kept begun rows : List ℕ) (count size : ℕ) → kept ≡ replicate count 18446744073709551615 → length g ≤ count → length g ≤ size → length targets ≤ 64 → All (λ n. n < length g) targets → ((n k : ℕ) → HasBit begun n k ↔ BeginsAt targets size (length targets) n k) → ((n k : ℕ) → HasBit rows n k ↔ Comes g kept begun k n) → ShowsReaches g targets rows
shows-reaches g targets kept begun rows count size all kept_room rows_room few inside begins grown m k = (
  λ has.
      let led = (comes-by g kept begun k m).0 ((grown m k).0 has) in
      let start = (begins led.last k).0 led.begins in
      let last : led.last ≡ get_or targets k 0 = sym start.at in
      (start.among, ⊎_elim (λ same. inl (same ∙ last)) (λ walk. inr (walk.1, subst (λ n. Walk g m walk.1 n) last walk.2)) led.by),
  λ reaches.
      let small : k < 64 = (let among : k < length targets = reaches.0 in omega (arith, among, few)) in
      let here : get_or targets k 0 < length g = inside k 0 reaches.0 in
      (grown m k).1 ((comes-by g kept begun k m).1 (record {
        last = get_or targets k 0;
        begins = (begins (get_or targets k 0) k).1 (record { among = reaches.0; at = refl; within = omega (arith, here, rows_room) });
        by = ⊎_elim (λ same. inl same)
            (λ walk. inr (
              all_ones kept count m k all (let w = walk-within g m walk.0 (get_or targets k 0) walk.1 in omega (arith, w, kept_room)) small,
              walk.0,
              walk.1,
              all-weaker (λ i. i < length g) (λ i. HasBit kept i k) (λ i w. all_ones kept count i k all (omega (arith, w, kept_room)) small) walk.0 (inner-within g m walk.0 (get_or targets k 0) walk.1),
            ))
            reaches.1;
      })),
)

pub shows-escapes : (g : List FlowNode) (targets kept begun rows : List ℕ) → ((m k at : ℕ) → m < length g → IsTarget g targets k at → HasBit kept m k ↔ Avoids g at m) → ((m k at : ℕ) → IsTarget g targets k at → HasBit begun m k ↔ (IsEnd g m × Avoids g at m)) → ((n k : ℕ) → HasBit rows n k ↔ Comes g kept begun k n) → ShowsEscapes g targets rows
shows-escapes g targets kept begun rows keeps ends grown m k at target = (
  λ has.
      let led = (comes-by g kept begun k m).0 ((grown m k).0 has) in
      let end = (ends led.last k at target).0 led.begins in
      ⊎_elim
      (λ same. (subst (λ n. Avoids g at n) (sym same) end.1, inl (subst (λ n. IsEnd g n) (sym same) end.0)))
      (λ walk. (
        (keeps m k at (walk-within g m walk.1 led.last walk.2) target).0 walk.0,
        inr (
          walk.1,
          led.last,
          walk.2,
          all-more (Avoids g at) walk.1 led.last
              (all_both (λ i. i < length g) (λ i. HasBit kept i k) (Avoids g at) (λ i w has. (keeps i k at w target).0 has) walk.1 (inner-within g m walk.1 led.last walk.2) walk.3) end.1,
          end.0,
        ),
      ))
      led.by,
  λ escapes.
      (grown m k).1 ((comes-by g kept begun k m).1
      (⊎_elim
      (λ end. record { last = m; begins = (ends m k at target).1 (end, escapes.0); by = inl refl })
      (λ walk.
      let avoided = all-last (Avoids g at) walk.0 walk.1 walk.3 in
      record {
        last = walk.1;
        begins = (ends walk.1 k at target).1 (walk.4, avoided.1);
        by = inr (
          (keeps m k at (walk-within g m walk.0 walk.1 walk.2) target).1 escapes.0,
          walk.0,
          walk.2,
          all_both (λ i. i < length g) (Avoids g at) (λ i. HasBit kept i k) (λ i w avoids. (keeps i k at w target).1 avoids) walk.0 (inner-within g m walk.0 walk.1 walk.2) avoided.0,
        );
      })
      escapes.1)),
)

pub odd-bit : (word : ℕ) → IsTrue (word % 2 == 1) ↔ IsBit word 0
unfolding IsBit
odd-bit word = (λ is. bit_at_lowest word ∙ eqb-true (word % 2) 1 is, λ is. eq-eqb (word % 2) 1 (sym (bit_at_lowest word) ∙ is))

pub floods-made : (g nodes : List FlowNode) (targets rows other_rows items other_items : List ℕ) → nodes ≡ g → items ≡ rows → other_items ≡ other_rows → ShowsReaches nodes targets rows → ShowsEscapes nodes targets other_rows → ShowsReaches g targets items × ShowsEscapes g targets other_items
floods-made g nodes targets rows other_rows items other_items same rows_is other_is reaches escapes = (
  subst (λ ns. ShowsReaches ns targets items) same (subst (λ ws. ShowsReaches nodes targets ws) (sym rows_is) reaches),
  subst (λ ns. ShowsEscapes ns targets other_items) same (subst (λ ws. ShowsEscapes nodes targets ws) (sym other_is) escapes),
)
