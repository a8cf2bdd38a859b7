-- Rows that grow.
use Rattle.std.proofs.Common.{◌≡◌, ◌≢◌, ◌⊎◌, inl, inr, ⊎_elim, ℕ, ◌+◌, ◌-◌, ◌*◌, ◌%◌, ◌^◌, ◌<◌, ◌≤◌, Bool, true, false, ◌||◌, List, length, get_or, set, replicate, refl, sym, ◌∙◌, ap, subst, arith, get_or-set_same, get_or-set_other}
use Rattle.std.specs.Prelude.{◌↔◌, Contains, slice_get, bit_or, bit_and, Some}
use Rattle.std.proofs.lemmas.List.{get_or_default, get_or_past, get_or-replicate, length-replicate}
use Rattle.std.proofs.lemmas.List.Sums.{sum_by-set}
use Rattle.std.proofs.lemmas.Bool.{cases_eq, or_parts}
use Rattle.std.proofs.lemmas.Bool.Decides.{leb_tells}
use Rattle.flow_graph.specs.declared.graph.FlowNode.{FlowNode}
use Rattle.flow_graph.specs.FlowGraph.{IsStep}
use Rattle.flow_graph.specs.Marked.Marked.{seed, step}
use Rattle.flow_graph.specs.Rows.{IsBit, HasBit, SomeHasBit, Comes, Grows, GrowsBy, IsSettledAt, IsSetAt, BeginsAt, room}
use Rattle.std.proofs.lemmas.Nat.{le_or_l, and_le_r, or_lt}
use Rattle.flow_graph.proofs.GraphLaws.{Has-at, Has-from, Has-within, slice_get-at}
use Rattle.flow_graph.proofs.MarkedLaws.{marked_all}
use Rattle.flow_graph.proofs.BitLemmas.{IsBit-zero, bit_or-cases, bit_or-left, bit_or-right, bit_and-both, bit_and-from, set_bit-same, set_bit-other}
use Rattle.item_list.proofs.TruthLaws.{true_not}

-- one of the first i of these nodes has bit k
abbrev pub SomeBelow : List ℕ → List ℕ → ℕ → ℕ → Type 0
SomeBelow rows nodes i k = (j : ℕ) × (j < i) × HasBit rows (get_or nodes j 0) k

pub some-none : (rows nodes : List ℕ) (k : ℕ) → IsBit 0 k ↔ SomeBelow rows nodes 0 k
some-none rows nodes k = (λ is. absurd (IsBit-zero k is), λ some. let below : some.0 < 0 = some.1 in absurd (omega (arith, below)))

pub some-more : (rows nodes : List ℕ) (word i node k : ℕ) → node ≡ get_or nodes i 0 → IsBit word k ↔ SomeBelow rows nodes i k → IsBit (bit_or word (get_or rows node 0)) k ↔ SomeBelow rows nodes (i + 1) k
some-more rows nodes word i node k read before = (
  λ is. ⊎_elim (λ in_word. let some = before.0 in_word in let below : some.0 < i = some.1 in (some.0, omega (arith, below), some.2))
      (λ in_row. (i, omega arith, subst (λ n. HasBit rows n k) read in_row))
      (bit_or-cases word (get_or rows node 0) k is),
  λ some. let below : some.0 < i + 1 = some.1 in
      ⊎_elim (λ same. bit_or-right word (get_or rows node 0) k (subst (λ n. HasBit rows n k) (ap (λ j. get_or nodes j 0) same ∙ sym read) some.2))
      (λ other. bit_or-left word (get_or rows node 0) k (before.1 (some.0, (let off : some.0 ≢ i = other in omega (arith, below, off)), some.2)))
      (cases_eq some.0 i),
)

pub some-all : (rows nodes : List ℕ) (i k : ℕ) → i ≡ length nodes → SomeBelow rows nodes i k ↔ SomeHasBit rows nodes k
some-all rows nodes i k all = (
  λ some. let below : some.0 < length nodes = (let b : some.0 < i = some.1 in omega (arith, b)) in
      (get_or nodes some.0 0, (some.0, below, get_or_default nodes some.0 (get_or nodes some.0 0) 0 below), some.2),
  λ some. let place = some.1 in
      (place.0, (let below : place.0 < length nodes = place.1 in omega (arith, below)), subst (λ n. HasBit rows n k) (sym (sym (get_or_default nodes place.0 some.0 0 place.1) ∙ place.2)) some.2),
)

-- ---- one node takes what it keeps of its successors' bits

-- the row of this node with what it keeps of the bits of the word
abbrev pub with_kept : List ℕ → List ℕ → ℕ → ℕ → List ℕ
with_kept rows kept node word = set rows node (bit_or (get_or rows node 0) (bit_and (get_or kept node 0) word))

-- what the word holds: the bits of the successors
abbrev pub IsMet : List FlowNode → List ℕ → ℕ → ℕ → Type 0
IsMet g rows node word = (k : ℕ) → IsBit word k ↔ ((next : ℕ) × IsStep g node next × HasBit rows next k)

with_kept-cases : (rows kept : List ℕ) (node word n k : ℕ) → node < length rows → HasBit (with_kept rows kept node word) n k → HasBit rows n k ⊎ ((n ≡ node) × HasBit kept node k × IsBit word k)
with_kept-cases rows kept node word n k within has =
    ⊎_elim
    (λ same.
    let there : IsBit (bit_or (get_or rows node 0) (bit_and (get_or kept node 0) word)) k =
    subst (λ w. IsBit w k) (ap (λ m. get_or (with_kept rows kept node word) m 0) same ∙ get_or-set_same rows node (bit_or (get_or rows node 0) (bit_and (get_or kept node 0) word)) 0 within) has in
    ⊎_elim (λ old. inl (subst (λ m. HasBit rows m k) (sym same) old))
    (λ new. let both = bit_and-both (get_or kept node 0) word k new in inr (same, both.0, both.1))
    (bit_or-cases (get_or rows node 0) (bit_and (get_or kept node 0) word) k there))
    (λ other. inl (subst (λ w. IsBit w k) (get_or-set_other rows node n (bit_or (get_or rows node 0) (bit_and (get_or kept node 0) word)) 0 other) has))
    (cases_eq n node)

with_kept-old : (rows kept : List ℕ) (node word n k : ℕ) → node < length rows → HasBit rows n k → HasBit (with_kept rows kept node word) n k
with_kept-old rows kept node word n k within has =
    ⊎_elim
    (λ same. subst (λ w. IsBit w k) (sym (ap (λ m. get_or (with_kept rows kept node word) m 0) same ∙ get_or-set_same rows node (bit_or (get_or rows node 0) (bit_and (get_or kept node 0) word)) 0 within))
    (bit_or-left (get_or rows node 0) (bit_and (get_or kept node 0) word) k (subst (λ m. HasBit rows m k) same has)))
    (λ other. subst (λ w. IsBit w k) (sym (get_or-set_other rows node n (bit_or (get_or rows node 0) (bit_and (get_or kept node 0) word)) 0 other)) has)
    (cases_eq n node)

pub with_kept-grows : (g : List FlowNode) (rows kept : List ℕ) (node word : ℕ) → node < length rows → IsMet g rows node word → (begun : List ℕ) → Grows g kept begun rows → Grows g kept begun (with_kept rows kept node word)
with_kept-grows g rows kept node word within met begun grows = record {
  begins = λ n k begins. with_kept-old rows kept node word n k within (grows.begins n k begins);
  comes = λ n k has.
      ⊎_elim (λ old. grows.comes n k old)
      (λ new. let from = (met k).0 new.2 in
      subst (λ m. Comes g kept begun k m) (sym new.0) (step (from.1, new.1) (grows.comes from.0 k from.2)))
      (with_kept-cases rows kept node word n k within has);
}

-- a word that doesn't change has all that it keeps
pub settled-here : (g : List FlowNode) (rows kept : List ℕ) (node word : ℕ) → IsMet g rows node word → bit_or (get_or rows node 0) (bit_and (get_or kept node 0) word) ≡ get_or rows node 0 → IsSettledAt g kept rows node
settled-here g rows kept node word met same next k to keeps has =
    subst (λ w. IsBit w k) same (bit_or-right (get_or rows node 0) (bit_and (get_or kept node 0) word) k (bit_and-from (get_or kept node 0) word k keeps ((met k).1 (next, to, has))))

-- a greater word in the row leaves less room
pub room-less : (rows : List ℕ) (node word : ℕ) → node < length rows → get_or rows node 0 < word → word < 2 ^ 64 → room (set rows node word) < room rows
unfolding room
room-less rows node word within above fits = omega (arith, sum_by-set (λ w. 2 ^ 64 - w) rows node word 0 within)

-- where each node is settled, the rows hold exactly the bits that come
pub grown : (g : List FlowNode) (kept begun rows : List ℕ) → Grows g kept begun rows → ((n : ℕ) → n < length g → IsSettledAt g kept rows n) → (n k : ℕ) → HasBit rows n k ↔ Comes g kept begun k n
grown g kept begun rows grows settled n k = (
  grows.comes n k,
  λ comes. marked_all (λ m. HasBit begun m k) (λ next m. IsStep g m next × HasBit kept m k) (λ m. HasBit rows m k)
      (λ m begins. grows.begins m k begins)
      (λ next m goes has. settled m (Has-within g m (λ node. Contains node.next next) goes.0) next k goes.0 goes.1 has) comes,
)

pub grows-begun : (g : List FlowNode) (kept begun : List ℕ) → Grows g kept begun begun
grows-begun g kept begun = record { begins = λ n k has. has; comes = λ n k has. seed has }

-- a step after others
pub grows-more : (g : List FlowNode) (kept old mid new : List ℕ) → ((begun : List ℕ) → Grows g kept begun old → Grows g kept begun mid) → ((begun : List ℕ) → Grows g kept begun mid → Grows g kept begun new) → (begun : List ℕ) → Grows g kept begun old → Grows g kept begun new
grows-more g kept old mid new first second begun grows = second begun (first begun grows)

-- what the successors' words hold together, by the list of the node itself
pub met-from : (g : List FlowNode) (rows : List ℕ) (node word : ℕ) (here : FlowNode) (nexts : List ℕ) → node < length g → here ≡ get_or g node here → nexts ≡ here.next → ((k : ℕ) → IsBit word k ↔ SomeHasBit rows nexts k) → IsMet g rows node word
met-from g rows node word here nexts within read same met k =
    let at : slice_get g node ≡ Some here = slice_get-at g node here within read in (
      λ is. let some = (met k).0 is in (some.0, Has-from g node here (λ n. Contains n.next some.0) at (subst (λ ns. Contains ns some.0) same some.1), some.2),
      λ from. (met k).1 (from.0, subst (λ ns. Contains ns from.0) (sym same) (Has-at g node here (λ n. Contains n.next from.0) at from.1), from.2),
    )

pub raise-grows : (g : List FlowNode) (rows kept : List ℕ) (node word keeps new : ℕ) → node < length rows → IsMet g rows node word → keeps ≡ get_or kept node 0 → new ≡ bit_or (get_or rows node 0) (bit_and keeps word) → new ≢ get_or rows node 0 → get_or rows node 0 < 2 ^ 64 → word < 2 ^ 64 → GrowsBy g kept rows (set rows node new) true
raise-grows g rows kept node word keeps new within met keeps_is new_is other old_fits word_fits =
    let part : bit_and keeps word ≤ word = and_le_r keeps word in
    let fits : new < 2 ^ 64 = subst (λ w. w < 2 ^ 64) (sym new_is) (or_lt 64 (get_or rows node 0) (bit_and keeps word) old_fits (omega (arith, part, word_fits))) in
    let new_kept : new ≡ bit_or (get_or rows node 0) (bit_and (get_or kept node 0) word) = new_is ∙ ap (λ w. bit_or (get_or rows node 0) (bit_and w word)) keeps_is in
    let above : get_or rows node 0 ≤ new = subst (λ w. get_or rows node 0 ≤ w) (sym new_is) (le_or_l (get_or rows node 0) (bit_and keeps word)) in
    record {
      grows = λ begun grows. subst (λ w. Grows g kept begun (set rows node w)) (sym new_kept) (with_kept-grows g rows kept node word within met begun grows);
      stays = λ never. absurd (cc);
      less = λ _. room-less rows node new within (omega (arith, above, other)) fits;
    }

pub raise-settled : (g : List FlowNode) (rows kept : List ℕ) (node word keeps new : ℕ) → IsMet g rows node word → keeps ≡ get_or kept node 0 → new ≡ bit_or (get_or rows node 0) (bit_and keeps word) → new ≡ get_or rows node 0 → IsSettledAt g kept rows node
raise-settled g rows kept node word keeps new met keeps_is new_is same =
    settled-here g rows kept node word met (ap (λ w. bit_or (get_or rows node 0) (bit_and w word)) (sym keeps_is) ∙ sym new_is ∙ same)

-- ---- passes over all nodes

pub record Swept (g : List FlowNode) (kept old new : List ℕ) (changed : Bool) (i : ℕ) : Type 0 where
  pub by : GrowsBy g kept old new changed
  pub settled : changed ≡ false → (n : ℕ) → n < i → IsSettledAt g kept new n

pub swept-none : (g : List FlowNode) (kept old : List ℕ) → Swept g kept old old false 0
swept-none g kept old = record {
  by = record { grows = λ begun grows. grows; stays = λ _. refl; less = λ other. absurd (other refl) };
  settled = λ _ n below. absurd (omega (arith, below));
}

true_or : (b : Bool) → (b ≡ false) ⊎ (b ≡ true)
true_or true = inr refl
true_or false = inl refl

pub swept-more : (g : List FlowNode) (kept old mid new : List ℕ) (changed rose : Bool) (i : ℕ) → Swept g kept old mid changed i → GrowsBy g kept mid new rose → (rose ≡ false → IsSettledAt g kept new i) → Swept g kept old new (changed || rose) (i + 1)
swept-more g kept old mid new changed rose i swept by here =
    let no_less : room mid ≤ room old = ⊎_elim (λ no. let same = swept.by.stays no in omega (arith, ap room same)) (λ is. let less = swept.by.less (true_not changed is) in omega (arith, less)) (true_or changed) in
    let no_more : room new ≤ room mid = ⊎_elim (λ no. let same = by.stays no in omega (arith, ap room same)) (λ is. let less = by.less (true_not rose is) in omega (arith, less)) (true_or rose) in
    record {
      by = record {
        grows = λ begun grows. by.grows begun (swept.by.grows begun grows);
        stays = λ no. let both = or_parts changed rose no in by.stays both.1 ∙ swept.by.stays both.0;
        less = λ other.
            ⊎_elim (λ no. ⊎_elim (λ not_rose. absurd (other (ap (λ b. b || rose) no ∙ not_rose)))
            (λ is. let less = by.less (true_not rose is) in omega (arith, less, no_less))
            (true_or rose))
            (λ is. let less = swept.by.less (true_not changed is) in omega (arith, less, no_more))
            (true_or changed);
      };
      settled = λ no n below.
          let both = or_parts changed rose no in
          ⊎_elim (λ same. subst (λ m. IsSettledAt g kept new m) (sym same) (here both.1))
          (λ off. subst (λ rows. IsSettledAt g kept rows n) (sym (by.stays both.1)) (swept.settled both.0 n (let off2 : n ≢ i = off in omega (arith, below, off2))))
          (cases_eq n i);
    }

-- ---- passes in an order that is only a hint

pub record Risen (g : List FlowNode) (kept old new : List ℕ) : Type 0 where
  pub grows : (begun : List ℕ) → Grows g kept begun old → Grows g kept begun new
  pub room_left : room new ≤ room old

pub risen-none : (g : List FlowNode) (kept old : List ℕ) → Risen g kept old old
risen-none g kept old = record { grows = λ begun grows. grows; room_left = omega arith }

pub risen-more : (g : List FlowNode) (kept old mid new : List ℕ) (rose : Bool) → Risen g kept old mid → GrowsBy g kept mid new rose → Risen g kept old new
risen-more g kept old mid new rose risen by =
    let no_more : room new ≤ room mid = ⊎_elim (λ no. let same = by.stays no in omega (arith, ap room same)) (λ is. let less = by.less (true_not rose is) in omega (arith, less)) (true_or rose) in
    record { grows = λ begun grows. by.grows begun (risen.grows begun grows); room_left = omega (arith, no_more, risen.room_left) }

-- ---- rows that begin

-- the row of this node with bit k set as well
abbrev pub with_bit : List ℕ → ℕ → ℕ → List ℕ
with_bit rows node k = set rows node (bit_or (get_or rows node 0) (1 * 2 ^ k % 2 ^ 64))

with_bit-here : (rows : List ℕ) (node k : ℕ) → node < length rows → get_or (with_bit rows node k) node 0 ≡ bit_or (get_or rows node 0) (1 * 2 ^ k % 2 ^ 64)
with_bit-here rows node k within = get_or-set_same rows node (bit_or (get_or rows node 0) (1 * 2 ^ k % 2 ^ 64)) 0 within

with_bit-there : (rows : List ℕ) (node k n : ℕ) → n ≢ node → get_or (with_bit rows node k) n 0 ≡ get_or rows n 0
with_bit-there rows node k n other = get_or-set_other rows node n (bit_or (get_or rows node 0) (1 * 2 ^ k % 2 ^ 64)) 0 other

pub set_bit-sets : (rows : List ℕ) (node k : ℕ) → node < length rows → k < 64 → (n j : ℕ) → HasBit (with_bit rows node k) n j ↔ (HasBit rows n j ⊎ IsSetAt (length rows) node k n j)
set_bit-sets rows node k within small n j = (
  λ has.
      ⊎_elim (λ here.
      ⊎_elim (λ bit. inr (record { here = here; bit = bit; within = subst (λ m. m < length rows) (sym here) within }))
      (λ other. inl (subst (λ m. HasBit rows m j) (sym here) (set_bit-other (get_or rows node 0) k j small other (subst (λ w. IsBit w j) (with_bit-here rows node k within) (subst (λ m. HasBit (with_bit rows node k) m j) here has)))))
      (cases_eq j k))
      (λ there. inl (subst (λ w. IsBit w j) (with_bit-there rows node k n there) has))
      (cases_eq n node),
  λ either.
      ⊎_elim (λ old.
      ⊎_elim (λ here. subst (λ m. HasBit (with_bit rows node k) m j) (sym here) (subst (λ w. IsBit w j) (sym (with_bit-here rows node k within)) (bit_or-left (get_or rows node 0) (1 * 2 ^ k % 2 ^ 64) j (subst (λ m. HasBit rows m j) here old))))
      (λ there. subst (λ w. IsBit w j) (sym (with_bit-there rows node k n there)) old)
      (cases_eq n node))
      (λ new. subst (λ m. HasBit (with_bit rows node k) m j) (sym new.here) (subst (λ w. IsBit w j) (sym (with_bit-here rows node k within)) (subst (λ i. IsBit (bit_or (get_or rows node 0) (1 * 2 ^ k % 2 ^ 64)) i) (sym new.bit) (set_bit-same (get_or rows node 0) k small))))
      either,
)

pub set_bit-past : (rows : List ℕ) (node k : ℕ) → length rows ≤ node → (n j : ℕ) → HasBit rows n j ↔ (HasBit rows n j ⊎ IsSetAt (length rows) node k n j)
set_bit-past rows node k past n j = (
  λ has. inl has,
  λ either. ⊎_elim (λ has. has) (λ new. let within = new.within in let here = new.here in absurd (omega (arith, past, within, here))) either,
)

pub zeros : (zero_word count n : ℕ) → get_or (replicate count zero_word) n zero_word ≡ zero_word
zeros zero_word count n =
    ⊎_elim (λ past. get_or_past (replicate count zero_word) n zero_word (subst (λ l. l ≤ n) (sym (length-replicate count zero_word)) past.1)) (λ within. get_or-replicate count n zero_word zero_word within.1) (leb_tells count n)

pub begins-none : (rows nodes : List ℕ) (count n j : ℕ) → rows ≡ replicate count 0 → HasBit rows n j ↔ BeginsAt nodes (length rows) 0 n j
begins-none rows nodes count n j all = (
  λ has. absurd (IsBit-zero j (subst (λ w. IsBit w j) (ap (λ ws. get_or ws n 0) all ∙ zeros 0 count n) has)),
  λ begins. let among = begins.among in absurd (omega (arith, among)),
)

pub begins-more : (old new nodes : List ℕ) (node i n j : ℕ) → node ≡ get_or nodes i 0 → length new ≡ length old → HasBit old n j ↔ BeginsAt nodes (length old) i n j → HasBit new n j ↔ (HasBit old n j ⊎ IsSetAt (length old) node i n j) → HasBit new n j ↔ BeginsAt nodes (length new) (i + 1) n j
begins-more old new nodes node i n j read same before sets = (
  λ has. ⊎_elim (λ was. let b = before.0 was in let among = b.among in let within = b.within in record { among = omega (arith, among); at = b.at; within = omega (arith, within, same) })
      (λ set. let bit = set.bit in let within = set.within in record { among = omega (arith, bit); at = ap (λ k. get_or nodes k 0) set.bit ∙ sym read ∙ sym set.here; within = omega (arith, within, same) })
      (sets.0 has),
  λ begins.
      let among = begins.among in
      let within = begins.within in
      ⊎_elim (λ last. sets.1 (inr (record { here = sym begins.at ∙ ap (λ k. get_or nodes k 0) last ∙ sym read; bit = last; within = omega (arith, within, same) })))
      (λ other. let off : j ≢ i = other in sets.1 (inl (before.1 (record { among = omega (arith, among, off); at = begins.at; within = omega (arith, within, same) }))))
      (cases_eq j i),
)
