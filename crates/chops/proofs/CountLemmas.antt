-- The numbers of arrows settle at the fewest.
use Rattle.std.proofs.Common.{◌≡◌, ◌≢◌, ◌⊎◌, inl, inr, ⊎_elim, ℕ, zero, suc, ◌+◌, ◌<◌, ◌≤◌, Bool, true, false, cond, List, [], ◌∷◌, map, length, get_or, set, refl, sym, ◌∙◌, ap, subst, arith, get_or-set_same, get_or-set_other, length-set, eq-eqb, eqb-true}
use Rattle.std.specs.Prelude.{◌==◌, ◌||◌, All, Contains, sum_by}
use Rattle.std.proofs.lemmas.Bool.{cases_eq, cases_lt, cases_Bool, or_parts}
use Rattle.std.proofs.lemmas.List.{get_or_default}
use Rattle.std.proofs.lemmas.List.Sums.{sum_by-cons, sum_by-set}
use Rattle.std.proofs.lemmas.List.Elements.{Contains-get_or}
use Rattle.flow_graph.specs.declared.graph.FlowNode.{FlowNode}
use Rattle.flow_graph.specs.FlowGraph.{IsAt}
use Rattle.flow_graph.proofs.GraphLaws.{Has-within}
use Rattle.chops.specs.Following.{IsAfter}
use Rattle.chops.specs.Paths.{ComesTo, start_of, ComesIn}
use Rattle.chops.specs.Counts.{first_counts, AreWays, IsShort, AreShort, Lowers, AreFewest}
use Rattle.item_list.proofs.TruthLaws.{true_not}

-- ---- the start

-- a test that holds, and one that doesn't
test_cases : (a b : ℕ) → ((a ≡ b) × ((a == b) ≡ true)) ⊎ ((a ≢ b) × ((a == b) ≡ false))
test_cases a b = ⊎_elim (λ yes. inl (eqb-true a b yes, yes)) (λ no. inr ((λ same. let yes = eq-eqb a b same in absurd (cc)), no)) (cases_Bool (a == b))

count_at : (at far : ℕ) (g : List FlowNode) (n : ℕ) → n < length g → (IsAt g at n × (get_or (map (λ node. cond (node.at == at) 0 far) g) n 0 ≡ 0)) ⊎ ((¬ IsAt g at n) × (get_or (map (λ node. cond (node.at == at) 0 far) g) n 0 ≡ far))
count_at at far [] n within = absurd (omega arith)
count_at at far (x ∷ xs) zero within = ⊎_elim (λ yes. inl (yes.0, ap (λ b. cond b 0 far) yes.1)) (λ no. inr (no.0, ap (λ b. cond b 0 far) no.1)) (test_cases x.at at)
count_at at far (x ∷ xs) (suc n) within = count_at at far xs n (omega arith)

first_many : (at far : ℕ) (g : List FlowNode) → length (map (λ node. cond (node.at == at) 0 far) g) ≡ length g
first_many at far [] = refl
first_many at far (x ∷ xs) = ap suc (first_many at far xs)

pub first_are_many : (at : ℕ) (g : List FlowNode) → length (first_counts at g) ≡ length g
first_are_many at g = first_many at (length g) g

pub first_ways : (Goes : ℕ → ℕ → Type 0) (at : ℕ) (g : List FlowNode) → AreWays Goes (IsAt g at) (first_counts at g)
first_ways Goes at g =
    let many = first_many at (length g) g in
    record {
      starts = λ n within stands. ⊎_elim (λ yes. yes.1) (λ no. absurd (no.0 stands)) (count_at at (length g) g n (Has-within g n (λ node. node.at ≡ at) stands));
      most = λ n within. ⊎_elim (λ yes. let is = yes.1 in omega (arith, is)) (λ no. let is = no.1 in omega (arith, is, many)) (count_at at (length g) g n (omega (arith, within, many)));
      comes = λ n within low.
          ⊎_elim
          (λ yes. record { nodes = []; many = sym yes.1; comes = tt; starts = yes.0 })
          (λ no. let is = no.1 in absurd (omega (arith, is, low, many)))
          (count_at at (length g) g n (omega (arith, within, many)));
    }

-- ---- one arrow

short_unless : (old new : List ℕ) (m n : ℕ) → new ≡ old → IsShort old (m, n) → IsShort new (m, n)
short_unless old new m n same short = subst (λ counts. IsShort counts (m, n)) (sym same) short

lowered : (Goes : ℕ → ℕ → Type 0) (Start : ℕ → Type 0) (counts : List ℕ) (from to : ℕ) → Goes from to → from < length counts → to < length counts → get_or counts from 0 + 1 < get_or counts to 0 → AreWays Goes Start counts → AreWays Goes Start (set counts to (get_or counts from 0 + 1))
lowered Goes Start counts from to goes source target less ways =
    let len = length-set counts to (get_or counts from 0 + 1) in
    let now = get_or-set_same counts to (get_or counts from 0 + 1) 0 target in
    let far = ways.most to target in
    let at = λ (n : ℕ). get_or (set counts to (get_or counts from 0 + 1)) n 0 in
    record {
      starts = λ n within start.
          ⊎_elim
          (λ (same : n ≡ to). let zero_there = ways.starts n (omega (arith, within, len)) start in let there : get_or counts to 0 ≡ 0 = ap (λ j. get_or counts j 0) (sym same) ∙ zero_there in absurd (omega (arith, there, less)))
          (λ other. get_or-set_other counts to n (get_or counts from 0 + 1) 0 other ∙ ways.starts n (omega (arith, within, len)) start)
          (cases_eq n to);
      most = λ n within.
          ⊎_elim
          (λ (same : n ≡ to). subst (λ j. get_or (set counts to (get_or counts from 0 + 1)) j 0 ≤ length (set counts to (get_or counts from 0 + 1))) (sym same) (omega (arith, now, less, far, len)))
          (λ other. let kept = get_or-set_other counts to n (get_or counts from 0 + 1) 0 other in let was = ways.most n (omega (arith, within, len)) in omega (arith, kept, was, len))
          (cases_eq n to);
      comes = λ n within low.
          ⊎_elim
          (λ (same : n ≡ to).
          let before = ways.comes from source (omega (arith, less, far)) in
          subst (λ j. ComesIn Goes Start (get_or (set counts to (get_or counts from 0 + 1)) j 0) j) (sym same)
          (subst (λ c. ComesIn Goes Start c to) (sym now)
          (record { nodes = from ∷ before.nodes; many = (let many = before.many in omega (arith, many)); comes = (goes, before.comes); starts = before.starts })))
          (λ other. let kept = get_or-set_other counts to n (get_or counts from 0 + 1) 0 other in
          subst (λ c. ComesIn Goes Start c n) (sym kept) (ways.comes n (omega (arith, within, len)) (omega (arith, kept, low, len))))
          (cases_eq n to);
    }

pub lowers_none : (arrows : List (ℕ × ℕ)) (counts : List ℕ) → Lowers arrows counts counts false
lowers_none arrows counts = record { many = refl; ways = λ g at ways. ways; stays = λ _. refl; less = λ other. absurd (other refl) }

pub lowers_one : (arrows : List (ℕ × ℕ)) (old new : List ℕ) (from to : ℕ) (changed : Bool) → Contains arrows (from, to) → from < length old → to < length old
    → (changed ≡ false → (new ≡ old) × (get_or old to 0 ≤ get_or old from 0 + 1)) → (changed ≢ false → (new ≡ set old to (get_or old from 0 + 1)) × (get_or old from 0 + 1 < get_or old to 0)) → Lowers arrows old new changed
lowers_one arrows old new from to changed among source target stays lowers =
    ⊎_elim
    (λ (yes : changed ≡ true).
    let off : changed ≢ false = λ no. absurd (cc) in
    let l = lowers off in
    let sum = sum_by-set (λ (count : ℕ). count) old to (get_or old from 0 + 1) 0 target in
    let less = l.1 in
    record {
      many = ap (λ (xs : List ℕ). length xs) l.0 ∙ length-set old to (get_or old from 0 + 1);
      ways = λ g at ways. subst (λ xs. AreWays (IsAfter arrows) (IsAt g at) xs) (sym l.0) (lowered (IsAfter arrows) (IsAt g at) old from to among source target less ways);
      stays = λ no. absurd (off no);
      less = λ _. subst (λ xs. sum_by (λ count. count) xs < sum_by (λ count. count) old) (sym l.0) (omega (arith, sum, less));
    })
    (λ no. let same = (stays no).0 in
    record {
      many = ap (λ (xs : List ℕ). length xs) same;
      ways = λ g at ways. subst (λ xs. AreWays (IsAfter arrows) (IsAt g at) xs) (sym same) ways;
      stays = λ _. same;
      less = λ other. absurd (other no);
    })
    (cases_Bool changed)

-- ---- a pass

no_more : (arrows : List (ℕ × ℕ)) (old new : List ℕ) (changed : Bool) → Lowers arrows old new changed → sum_by (λ count. count) new ≤ sum_by (λ count. count) old
no_more arrows old new changed l =
    ⊎_elim (λ yes. let less = l.less (true_not changed yes) in omega (arith, less)) (λ no. let same = ap (λ (xs : List ℕ). sum_by (λ count. count) xs) (l.stays no) in omega (arith, same)) (cases_Bool changed)

pub lowers_then : (arrows : List (ℕ × ℕ)) (old mid new : List ℕ) (changed rose : Bool) → Lowers arrows old mid changed → Lowers arrows mid new rose → Lowers arrows old new (changed || rose)
lowers_then arrows old mid new changed rose first second =
    let less_first = no_more arrows old mid changed first in
    let less_second = no_more arrows mid new rose second in
    record {
      many = second.many ∙ first.many;
      ways = λ g at ways. second.ways g at (first.ways g at ways);
      stays = λ no. let both = or_parts changed rose no in second.stays both.1 ∙ first.stays both.0;
      less = λ other.
          ⊎_elim (λ yes. let less = first.less (true_not changed yes) in omega (arith, less, less_second))
          (λ no. ⊎_elim (λ yes. let less = second.less (true_not rose yes) in omega (arith, less, less_first)) (λ none. absurd (other (ap (λ b. b || rose) no ∙ none))) (cases_Bool rose))
          (cases_Bool changed);
    }

-- the ends of an arrow that is read
pub arrow_read : (arrows : List (ℕ × ℕ)) (i : ℕ) (arrow : ℕ × ℕ) → i < length arrows → arrow ≡ get_or arrows i arrow → (arrow.0, arrow.1) ≡ get_or arrows i (0, 0)
arrow_read arrows i arrow within read = read ∙ sym (get_or_default arrows i (0, 0) arrow within)

pub arrow_ends : (arrows : List (ℕ × ℕ)) (i size : ℕ) (arrow : ℕ × ℕ) → i < length arrows → arrow ≡ get_or arrows i arrow → All (λ a. (a.0 < size) × (a.1 < size)) arrows → (arrow.0 < size) × (arrow.1 < size)
arrow_ends arrows i size arrow within read inside = subst (λ (p : ℕ × ℕ). (p.0 < size) × (p.1 < size)) (sym (arrow_read arrows i arrow within read)) (inside i (0, 0) within)

-- the first i arrows
pub record Passed (arrows : List (ℕ × ℕ)) (old new : List ℕ) (changed : Bool) (i : ℕ) : Type 0 where
  pub lowers : Lowers arrows old new changed
  pub short : changed ≡ false → (k : ℕ) → k < i → IsShort new (get_or arrows k (0, 0))

pub passed_none : (arrows : List (ℕ × ℕ)) (counts : List ℕ) → Passed arrows counts counts false 0
passed_none arrows counts = record { lowers = lowers_none arrows counts; short = λ _ k never. absurd (omega (arith, never)) }

pub passed_more : (arrows : List (ℕ × ℕ)) (old mid new : List ℕ) (from to i : ℕ) (changed rose : Bool) → i < length arrows → (from, to) ≡ get_or arrows i (0, 0) → All (λ a. (a.0 < length old) × (a.1 < length old)) arrows
    → (rose ≡ false → (new ≡ mid) × (get_or mid to 0 ≤ get_or mid from 0 + 1)) → (rose ≢ false → (new ≡ set mid to (get_or mid from 0 + 1)) × (get_or mid from 0 + 1 < get_or mid to 0))
    → Passed arrows old mid changed i → Passed arrows old new (changed || rose) (i + 1)
passed_more arrows old mid new from to i changed rose within read inside stays lowers before =
    let among : Contains arrows (from, to) = subst (λ (p : ℕ × ℕ). Contains arrows p) (sym read) (Contains-get_or arrows i (0, 0) within) in
    let ends : (from < length old) × (to < length old) = subst (λ (p : ℕ × ℕ). (p.0 < length old) × (p.1 < length old)) (sym read) (inside i (0, 0) within) in
    let many = before.lowers.many in
    let source = ends.0 in
    let target = ends.1 in
    record {
      lowers = lowers_then arrows old mid new changed rose before.lowers (lowers_one arrows mid new from to rose among (omega (arith, many, source)) (omega (arith, many, target)) stays lowers);
      short = λ no k low.
          let both = or_parts changed rose no in
          let same = (stays both.1).0 in
          ⊎_elim
          (λ (last : k ≡ i). subst (λ j. IsShort new (get_or arrows j (0, 0))) (sym last) (subst (λ (p : ℕ × ℕ). IsShort new p) read (short_unless mid new from to same (stays both.1).1)))
          (λ other. subst (λ counts. IsShort counts (get_or arrows k (0, 0))) (sym same) (before.short both.0 k (let off : k ≢ i = other in omega (arith, low, off))))
          (cases_eq k i);
    }

pub passed_all : (arrows : List (ℕ × ℕ)) (old new : List ℕ) (changed : Bool) (i : ℕ) → length arrows ≤ i → Passed arrows old new changed i → changed ≡ false → AreShort arrows new
passed_all arrows old new changed i all passed same m n among =
    let within : among.0 < length arrows = among.1 in
    let at : get_or arrows among.0 (0, 0) ≡ (m, n) = get_or_default arrows among.0 (0, 0) (m, n) within ∙ among.2 in
    subst (λ (p : ℕ × ℕ). IsShort new p) at (passed.short same among.0 (omega (arith, within, all)))

-- ---- the fewest

-- no path has fewer arrows
pub at_most : (Goes : ℕ → ℕ → Type 0) (Start : ℕ → Type 0) (counts : List ℕ) → ((m n : ℕ) → Goes m n → (m < length counts) × (n < length counts)) → AreFewest Goes Start counts → (nodes : List ℕ) (n : ℕ) → n < length counts → ComesTo Goes n nodes → Start (start_of n nodes) → get_or counts n 0 ≤ length nodes
at_most Goes Start counts inside few [] n within comes starts = let none = few.ways.starts n within starts in omega (arith, none)
at_most Goes Start counts inside few (m ∷ ms) n within comes starts =
    let before = at_most Goes Start counts inside few ms m (inside m n comes.0).0 comes.1 starts in
    let short = few.short m n comes.0 in
    omega (arith, before, short)

pub at_most_in : (Goes : ℕ → ℕ → Type 0) (Start : ℕ → Type 0) (counts : List ℕ) → ((m n : ℕ) → Goes m n → (m < length counts) × (n < length counts)) → AreFewest Goes Start counts → (count n : ℕ) → n < length counts → ComesIn Goes Start count n → get_or counts n 0 ≤ count
at_most_in Goes Start counts inside few count n within c = let most = at_most Goes Start counts inside few c.nodes n within c.comes c.starts in let many = c.many in omega (arith, most, many)

-- ---- there are as many nodes as any path needs arrows, and one more

-- 1 for a count below v
abbrev low : ℕ → ℕ → ℕ
low zero c = 0
low (suc v) zero = 1
low (suc v) (suc c) = low v c

low_grows : (v c : ℕ) → low v c ≤ low (suc v) c
low_grows zero c = omega arith
low_grows (suc v) zero = omega arith
low_grows (suc v) (suc c) = low_grows v c

low_one : (v c : ℕ) → low v c ≤ 1
low_one zero c = omega arith
low_one (suc v) zero = omega arith
low_one (suc v) (suc c) = low_one v c

low_is : (v c : ℕ) → c < v → low v c ≡ 1
low_is zero c less = absurd (omega arith)
low_is (suc v) zero less = refl
low_is (suc v) (suc c) less = low_is v c (omega arith)

low_not : (v c : ℕ) → v ≤ c → low v c ≡ 0
low_not zero c more = refl
low_not (suc v) zero more = absurd (omega arith)
low_not (suc v) (suc c) more = low_not v c (omega arith)

sum_grows : (f h : ℕ → ℕ) → ((x : ℕ) → f x ≤ h x) → (xs : List ℕ) → sum_by f xs ≤ sum_by h xs
sum_grows f h grows [] = omega arith
sum_grows f h grows (x ∷ xs) = let here = grows x in let rest = sum_grows f h grows xs in omega (arith, here, rest, sum_by-cons f x xs, sum_by-cons h x xs)

sum_less : (f h : ℕ → ℕ) → ((x : ℕ) → f x ≤ h x) → (xs : List ℕ) (i : ℕ) → i < length xs → f (get_or xs i 0) < h (get_or xs i 0) → sum_by f xs < sum_by h xs
sum_less f h grows [] i within less = absurd (omega arith)
sum_less f h grows (x ∷ xs) zero within less = let rest = sum_grows f h grows xs in omega (arith, less, rest, sum_by-cons f x xs, sum_by-cons h x xs)
sum_less f h grows (x ∷ xs) (suc i) within less = let here = grows x in let rest = sum_less f h grows xs i (omega arith) less in omega (arith, here, rest, sum_by-cons f x xs, sum_by-cons h x xs)

sum_ones : (xs : List ℕ) → sum_by (λ _. 1) xs ≡ length xs
sum_ones [] = refl
sum_ones (x ∷ xs) = let rest = sum_ones xs in omega (arith, rest, sum_by-cons (λ (_ : ℕ). 1) x xs)

-- below a count there is a node for each lower one
levels : (Goes : ℕ → ℕ → Type 0) (Start : ℕ → Type 0) (counts : List ℕ) → ((m n : ℕ) → Goes m n → (m < length counts) × (n < length counts)) → AreFewest Goes Start counts → (v n : ℕ) → n < length counts → get_or counts n 0 ≡ v → v < length counts → v < sum_by (low (suc v)) counts
levels Goes Start counts inside few zero n within is fits =
    let less = sum_less (low 0) (low 1) (low_grows 0) counts n within (let one = low_is 1 (get_or counts n 0) (omega (arith, is)) in omega (arith, one)) in omega (arith, less)
levels Goes Start counts inside few (suc v) n within is fits =
    let way = few.ways.comes n within (omega (arith, is, fits)) in
    let back = predecessor way.nodes way.comes way.starts (way.many ∙ is) in
    let lower = levels Goes Start counts inside few v back.0 back.1 back.2 (omega (arith, fits)) in
    let here : low (suc v) (get_or counts n 0) ≡ 0 = low_not (suc v) (get_or counts n 0) (omega (arith, is)) in
    let there : low (suc (suc v)) (get_or counts n 0) ≡ 1 = low_is (suc (suc v)) (get_or counts n 0) (omega (arith, is)) in
    let less = sum_less (low (suc v)) (low (suc (suc v))) (low_grows (suc v)) counts n within (omega (arith, here, there)) in
    omega (arith, lower, less)
  where
    predecessor : (nodes : List ℕ) → ComesTo Goes n nodes → Start (start_of n nodes) → length nodes ≡ suc v → (m : ℕ) × (m < length counts) × (get_or counts m 0 ≡ v)
    predecessor [] comes starts many = absurd (omega arith)
    predecessor (m ∷ ms) comes starts many =
        let source = (inside m n comes.0).0 in
        let most = at_most Goes Start counts inside few ms m source comes.1 starts in
        let short = few.short m n comes.0 in
        (m, source, omega (arith, most, short, is, many))

-- what a path comes to is in reach
pub in_reach : (Goes : ℕ → ℕ → Type 0) (Start : ℕ → Type 0) (counts : List ℕ) → ((m n : ℕ) → Goes m n → (m < length counts) × (n < length counts)) → AreFewest Goes Start counts → (nodes : List ℕ) (n : ℕ) → n < length counts → ComesTo Goes n nodes → Start (start_of n nodes) → get_or counts n 0 < length counts
in_reach Goes Start counts inside few [] n within comes starts = let none = few.ways.starts n within starts in omega (arith, none, within)
in_reach Goes Start counts inside few (m ∷ ms) n within comes starts =
    let source = (inside m n comes.0).0 in
    let before = in_reach Goes Start counts inside few ms m source comes.1 starts in
    let short = few.short m n comes.0 in
    ⊎_elim (λ (fits : get_or counts n 0 < length counts). fits)
    (λ (far : length counts ≤ get_or counts n 0).
    let all = levels Goes Start counts inside few (get_or counts m 0) m source refl before in
    let here : low (suc (get_or counts m 0)) (get_or counts n 0) ≡ 0 = low_not (suc (get_or counts m 0)) (get_or counts n 0) (omega (arith, far, before)) in
    let less = sum_less (low (suc (get_or counts m 0))) (λ _. 1) (low_one (suc (get_or counts m 0))) counts n within (omega (arith, here)) in
    let ones = sum_ones counts in
    absurd (omega (arith, all, less, ones, short, far)))
    (cases_lt (get_or counts n 0) (length counts))
