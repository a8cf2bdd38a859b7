-- Graphs of phases, made node by node.
use Rattle.std.proofs.Common.{◌≡◌, ◌≢◌, ◌⊎◌, inl, inr, ⊎_elim, ℕ, zero, suc, ◌+◌, ◌<◌, Bool, true, false, cond, List, [], ◌∷◌, ◌++◌, length, get_or, Some, refl, sym, ◌∙◌, ap, subst, arith, IsTrue, length-append}
use Rattle.std.specs.Prelude.{◌↔◌, Contains, slice_get}
use Rattle.std.proofs.lemmas.Bool.{cases_eq}
use Rattle.std.proofs.lemmas.List.{get_or_default}
use Rattle.std.proofs.lemmas.Option.{same_Some}
use Rattle.std.proofs.lemmas.List.Elements.{Contains-append_left, Contains-get_or, Contains-push, Contains-push_cases}
use Rattle.flow_graph.specs.declared.graph.FlowNode.{FlowNode}
use Rattle.flow_graph.specs.FlowGraph.{Has, IsStep}
use Rattle.flow_graph.proofs.GraphLaws.{Has-at, Has-from}
use Rattle.flow_graph.proofs.RisingLemmas.{Lists}
use Rattle.matched_calls.specs.declared.kinds.StepKinds.{StepKinds}
use Rattle.matched_calls.specs.declared.kinds.Phase.{Phase}
use Rattle.matched_calls.specs.declared.sites.Site.{Site}
use Rattle.matched_calls.specs.Adding.{AddsItems, IsGrown}
use Rattle.matched_calls.specs.Phases.{IsCall, IsReturn, IsTaken}
use Rattle.matched_calls.specs.Extended.{pair_of, IsLink, IsArrival, IsNext, IsExtended, IsSite, AreSites}

-- ---- lists of numbers

items_then : (P Q R : ℕ → Type 0) (old mid new : List ℕ) → ((n : ℕ) → R n ↔ (P n ⊎ Q n)) → AddsItems P old mid → AddsItems Q mid new → AddsItems R old new
items_then P Q R old mid new splits first second n = (
  λ has. ⊎_elim (λ was. ⊎_elim (λ o. inl o) (λ p. inr ((splits n).1 (inl p))) ((first n).0 was)) (λ q. inr ((splits n).1 (inr q))) ((second n).0 has),
  λ either. (second n).1 (⊎_elim (λ o. inl ((first n).1 (inl o))) (λ r. ⊎_elim (λ p. inl ((first n).1 (inr p))) (λ q. inr q) ((splits n).0 r)) either),
)

items_push : (old new : List ℕ) (x : ℕ) (is_wished : Bool) → new ≡ cond is_wished (old ++ x ∷ []) old → AddsItems (λ n. IsTrue is_wished × (n ≡ x)) old new
items_push old new x true is n = (
  λ has. ⊎_elim (λ was. inl was) (λ same. inr (refl, sym same)) (Contains-push_cases old x n (subst (λ (l : List ℕ). Contains l n) is has)),
  λ either. subst (λ (l : List ℕ). Contains l n) (sym is) (⊎_elim (λ was. Contains-append_left old (x ∷ []) n was) (λ now. subst (λ j. Contains (old ++ x ∷ []) j) (sym now.1) (Contains-push old x)) either),
)
items_push old new x false is n = (
  λ has. inl (subst (λ (l : List ℕ). Contains l n) is has),
  λ either. subst (λ (l : List ℕ). Contains l n) (sym is) (⊎_elim (λ was. was) (λ never. let on = never.0 in absurd (cc)) either),
)

-- what the first i turns add
abbrev pub ByTurns : (ℕ → ℕ → Type 0) → ℕ → ℕ → Type 0
ByTurns P i n = (j : ℕ) × (j < i) × P j n

pub turns_none : (P : ℕ → ℕ → Type 0) (old : List ℕ) → AddsItems (ByTurns P 0) old old
turns_none P old n = (λ has. inl has, λ either. ⊎_elim (λ has. has) (λ never. let lt = never.1 in absurd (omega (arith, lt))) either)

pub turns_more : (P : ℕ → ℕ → Type 0) (i x : ℕ) (is_wished : Bool) (old mid new : List ℕ) → ((n : ℕ) → P i n ↔ (IsTrue is_wished × (n ≡ x))) → AddsItems (ByTurns P i) old mid → new ≡ cond is_wished (mid ++ x ∷ []) mid → AddsItems (ByTurns P (i + 1)) old new
turns_more P i x is_wished old mid new now before is =
    items_then (ByTurns P i) (λ n. IsTrue is_wished × (n ≡ x)) (ByTurns P (i + 1)) old mid new
    (λ n. (
      λ p. ⊎_elim (λ (same : p.0 ≡ i). inr ((now n).0 (subst (λ j. P j n) same p.2))) (λ other. inl (p.0, (let lt = p.1 in let off : p.0 ≢ i = other in omega (arith, lt, off)), p.2)) (cases_eq p.0 i),
      λ either. ⊎_elim (λ p. (p.0, (let lt = p.1 in omega (arith, lt)), p.2)) (λ q. (i, omega arith, (now n).1 q)) either,
    ))
    before (items_push mid new x is_wished is)

pub turns_like : (P : ℕ → ℕ → Type 0) (Q : ℕ → Type 0) (i : ℕ) (old new : List ℕ) → ((n : ℕ) → ByTurns P i n ↔ Q n) → AddsItems (ByTurns P i) old new → AddsItems Q old new
turns_like P Q i old new like adds n = (
  λ has. ⊎_elim (λ was. inl was) (λ p. inr ((like n).0 p)) ((adds n).0 has),
  λ either. (adds n).1 (⊎_elim (λ was. inl was) (λ q. inr ((like n).1 q)) either),
)

-- ---- successors

-- the j-th of these successors, where a phase goes to it
abbrev pub IsTakenAt : StepKinds → Phase → ℕ → ℕ → List ℕ → ℕ → ℕ → Type 0
IsTakenAt kinds phase count node next j n = (get_or next j 0 ≡ n) × (n < count) × IsTaken kinds phase node n

pub taken_more : (kinds : StepKinds) (phase : Phase) (count node i x : ℕ) (next : List ℕ) (is_wished : Bool) (old mid new : List ℕ) → x ≡ get_or next i 0 → IsTrue is_wished ↔ ((x < count) × IsTaken kinds phase node x)
    → AddsItems (ByTurns (IsTakenAt kinds phase count node next) i) old mid → new ≡ cond is_wished (mid ++ x ∷ []) mid → AddsItems (ByTurns (IsTakenAt kinds phase count node next) (i + 1)) old new
taken_more kinds phase count node i x next is_wished old mid new read says =
    turns_more (IsTakenAt kinds phase count node next) i x is_wished old mid new
    (λ n. (
      λ p. let same : x ≡ n = read ∙ p.0 in (says.1 (subst (λ m. (m < count) × IsTaken kinds phase node m) (sym same) (p.1, p.2)), sym same),
      λ q. let is = says.0 q.0 in let held : (n < count) × IsTaken kinds phase node n = subst (λ m. (m < count) × IsTaken kinds phase node m) (sym q.1) is in (sym read ∙ sym q.1, held.0, held.1),
    ))

pub taken_all : (kinds : StepKinds) (phase : Phase) (count node i : ℕ) (next old new : List ℕ) → length next ≡ i → AddsItems (ByTurns (IsTakenAt kinds phase count node next) i) old new → AddsItems (λ n. Contains next n × (n < count) × IsTaken kinds phase node n) old new
taken_all kinds phase count node i next old new all =
    turns_like (IsTakenAt kinds phase count node next) (λ n. Contains next n × (n < count) × IsTaken kinds phase node n) i old new
    (λ n. (
      λ p. let low : p.0 < length next = (let lt = p.1 in omega (arith, lt, all)) in (subst (λ m. Contains next m) p.2.0 (Contains-get_or next p.0 0 low), p.2.1, p.2.2),
      λ q. let low : q.0.0 < length next = q.0.1 in (q.0.0, omega (arith, low, all), (get_or_default next q.0.0 0 n low ∙ q.0.2, q.1, q.2)),
    ))

-- ---- links

abbrev pub IsLinkAt : ℕ → List (ℕ × ℕ) → ℕ → ℕ → ℕ → Type 0
IsLinkAt count after node j n = ((pair_of after j).0 ≡ node) × (n ≡ count + j)

pub link_more : (count node i first : ℕ) (after : List (ℕ × ℕ)) (is_wished : Bool) (old mid new : List ℕ) → first ≡ (pair_of after i).0 → IsTrue is_wished ↔ (first ≡ node)
    → AddsItems (ByTurns (IsLinkAt count after node) i) old mid → new ≡ cond is_wished (mid ++ (count + i) ∷ []) mid → AddsItems (ByTurns (IsLinkAt count after node) (i + 1)) old new
link_more count node i first after is_wished old mid new read says =
    turns_more (IsLinkAt count after node) i (count + i) is_wished old mid new
    (λ n. (λ p. (says.1 (read ∙ p.0), p.1), λ q. (sym read ∙ says.0 q.0, q.1)))

pub link_all : (count node i : ℕ) (after : List (ℕ × ℕ)) (old new : List ℕ) → length after ≡ i → AddsItems (ByTurns (IsLinkAt count after node) i) old new → AddsItems (IsLink count after node) old new
link_all count node i after old new all =
    turns_like (IsLinkAt count after node) (IsLink count after node) i old new
    (λ n. (
      λ p. (p.0, (let lt = p.1 in omega (arith, lt, all)), p.2.0, p.2.1),
      λ q. (q.0, (let lt = q.1 in omega (arith, lt, all)), (q.2, q.3)),
    ))

pub next_all : (g : List FlowNode) (kinds : StepKinds) (phase : Phase) (node : ℕ) (here : FlowNode) (next mid new : List ℕ) → slice_get g node ≡ Some here → next ≡ here.next → AddsItems (λ n. Contains next n × (n < length g) × IsTaken kinds phase node n) [] mid → AddsItems (IsLink (length g) kinds.after node) mid new
    → (n : ℕ) → Contains new n ↔ IsNext g kinds phase node n
next_all g kinds phase node here next mid new is same first second n =
    let all =
    items_then (λ m. Contains next m × (m < length g) × IsTaken kinds phase node m) (IsLink (length g) kinds.after node) (IsNext g kinds phase node) [] mid new
    (λ m. (
      λ p. ⊎_elim (λ flow. inl (subst (λ (l : List ℕ). Contains l m) (sym same) (Has-at g node here (λ o. Contains o.next m) is flow.1.0), flow.0, flow.1.1)) (λ link. inr link) p,
      λ either. ⊎_elim (λ f. inl (f.1, (Has-from g node here (λ o. Contains o.next m) is (subst (λ (l : List ℕ). Contains l m) same f.0), f.2))) (λ link. inr link) either,
    ))
    first second n in
    (λ has. ⊎_elim (λ never. let lt = never.1 in absurd (omega (arith, lt))) (λ p. p) (all.0 has), λ p. all.1 (inr p))

-- ---- nodes

has_push : (xs : List FlowNode) (x : FlowNode) (m : ℕ) (P : FlowNode → Type 0) → Has (xs ++ x ∷ []) m P ↔ (Has xs m P ⊎ ((m ≡ length xs) × P x))
has_push [] x zero P = (λ p. inr (refl, p), λ either. ⊎_elim (λ never. absurd never) (λ p. p.1) either)
has_push [] x (suc m) P = (λ never. absurd never, λ either. ⊎_elim (λ never. absurd never) (λ p. let is = p.0 in absurd (omega (arith, is))) either)
has_push (y ∷ ys) x zero P = (λ p. inl p, λ either. ⊎_elim (λ p. p) (λ p. let is = p.0 in absurd (omega (arith, is))) either)
has_push (y ∷ ys) x (suc m) P =
    let rest = has_push ys x m P in (
      λ p. ⊎_elim (λ q. inl q) (λ q. inr (ap suc q.0, q.1)) (rest.0 p),
      λ either. rest.1 (⊎_elim (λ q. inl q) (λ q. inr ((let is = q.0 in omega (arith, is)), q.1)) either),
    )

pub grown_none : (Next : ℕ → ℕ → Type 0) → IsGrown Next 0 []
grown_none Next = record { many = refl; steps = λ m n. (λ never. absurd never, λ p. let lt = p.0 in absurd (omega (arith, lt))) }

pub grown_more : (Next : ℕ → ℕ → Type 0) (i : ℕ) (nodes new : List FlowNode) (node : FlowNode) (next : List ℕ) → new ≡ nodes ++ node ∷ [] → node.next ≡ next → ((n : ℕ) → Contains next n ↔ Next i n) → IsGrown Next i nodes → IsGrown Next (i + 1) new
grown_more Next i nodes new node next is same lists before =
    let many = before.many in
    let len = length-append nodes (node ∷ []) in
    subst (λ (xs : List FlowNode). IsGrown Next (i + 1) xs) (sym is)
    (record {
      many = omega (arith, many, len);
      steps = λ m n.
          let push = has_push nodes node m (λ o. Contains o.next n) in (
            λ goes. ⊎_elim (λ old. let p = (before.steps m n).0 old in ((let lt = p.0 in omega (arith, lt)), p.1))
                (λ now. let at : m ≡ i = (let e = now.0 in omega (arith, e, many)) in (omega (arith, at), subst (λ j. Next j n) (sym at) ((lists n).0 (subst (λ (l : List ℕ). Contains l n) same now.1)))) (push.0 goes),
            λ p. push.1 (⊎_elim
                (λ (at : m ≡ i). inr (omega (arith, at, many), subst (λ (l : List ℕ). Contains l n) (sym same) ((lists n).1 (subst (λ j. Next j n) at p.1))))
                (λ other. inl ((before.steps m n).1 ((let lt = p.0 in let off : m ≢ i = other in omega (arith, lt, off)), p.1)))
                (cases_eq m i)),
          );
    })

-- the first i places after calls
abbrev pub ArrivesBelow : ℕ → List (ℕ × ℕ) → ℕ → ℕ → ℕ → Type 0
ArrivesBelow count after i m n = (j : ℕ) × (j < i) × (m ≡ count + j) × (n ≡ (pair_of after j).1)

pub record Arriving (count : ℕ) (after : List (ℕ × ℕ)) (i : ℕ) (old new : List FlowNode) : Type 0 where
  pub many : length new ≡ count + i
  pub steps : (m n : ℕ) → IsStep new m n ↔ (IsStep old m n ⊎ ArrivesBelow count after i m n)

pub arriving_none : (count : ℕ) (after : List (ℕ × ℕ)) (old : List FlowNode) → length old ≡ count → Arriving count after 0 old old
arriving_none count after old many = record { many = omega (arith, many); steps = λ m n. (λ goes. inl goes, λ either. ⊎_elim (λ goes. goes) (λ p. let lt = p.1 in absurd (omega (arith, lt))) either) }

pub arriving_more : (count i : ℕ) (after : List (ℕ × ℕ)) (old mid new : List FlowNode) (node : FlowNode) (next : List ℕ) (pair : ℕ × ℕ) → new ≡ mid ++ node ∷ [] → node.next ≡ next → next ≡ pair.1 ∷ [] → pair ≡ pair_of after i → Arriving count after i old mid → Arriving count after (i + 1) old new
arriving_more count i after old mid new node next pair is same one read before =
    let many = before.many in
    let len = length-append mid (node ∷ []) in
    let second : pair.1 ≡ (pair_of after i).1 = ap (λ (q : ℕ × ℕ). q.1) read in
    subst (λ (xs : List FlowNode). Arriving count after (i + 1) old xs) (sym is)
    (record {
      many = omega (arith, many, len);
      steps = λ m n.
          let push = has_push mid node m (λ o. Contains o.next n) in (
            λ goes. ⊎_elim (λ was. ⊎_elim (λ o. inl o) (λ p. inr (p.0, (let lt = p.1 in omega (arith, lt)), p.2, p.3)) ((before.steps m n).0 was))
                (λ now. inr (i, omega arith, (let e = now.0 in omega (arith, e, many)), sym (only n (subst (λ (l : List ℕ). Contains l n) (same ∙ one) now.1)) ∙ second)) (push.0 goes),
            λ either. push.1 (⊎_elim (λ o. inl ((before.steps m n).1 (inl o)))
                (λ p. ⊎_elim
                (λ (at : p.0 ≡ i). inr ((let e = p.2 in omega (arith, e, at, many)), subst (λ (l : List ℕ). Contains l n) (sym (same ∙ one)) (it n (p.3 ∙ ap (λ j. (pair_of after j).1) at ∙ sym second))))
                (λ other. inl ((before.steps m n).1 (inr (p.0, (let lt = p.1 in let off : p.0 ≢ i = other in omega (arith, lt, off)), p.2, p.3))))
                (cases_eq p.0 i)) either),
          );
    })
  where
    only : (n : ℕ) → Contains (pair.1 ∷ []) n → pair.1 ≡ n
    only n among = first among.0 among.1 among.2
      where
        first : (k : ℕ) → k < 1 → get_or (pair.1 ∷ []) k n ≡ n → pair.1 ≡ n
        first zero low at = at
        first (suc k) low at = absurd (omega arith)

    it : (n : ℕ) → n ≡ pair.1 → Contains (pair.1 ∷ []) n
    it n at = (0, omega arith, sym at)

pub extended_all : (g : List FlowNode) (kinds : StepKinds) (phase : Phase) (after : List (ℕ × ℕ)) (mid new : List FlowNode) → after ≡ kinds.after → IsGrown (IsNext g kinds phase) (length g) mid → length new ≡ length g + length after → ((m n : ℕ) → IsStep new m n ↔ (IsStep mid m n ⊎ IsArrival (length g) after m n)) → IsExtended g kinds phase new
extended_all g kinds phase after mid new same first many arrives =
    subst (λ (xs : List (ℕ × ℕ)). (length new ≡ length g + length xs) → ((m n : ℕ) → IsStep new m n ↔ (IsStep mid m n ⊎ IsArrival (length g) xs m n)) → IsExtended g kinds phase new) (sym same)
    (λ count steps. record {
      many = count;
      steps = λ m n. (
        λ goes. ⊎_elim (λ one. inl ((first.steps m n).0 one)) (λ two. inr two) ((steps m n).0 goes),
        λ either. (steps m n).1 (⊎_elim (λ one. inl ((first.steps m n).1 one)) (λ two. inr two) either),
      );
    }) many arrives

-- ---- calls that may come back

pub sites_none : (g : List FlowNode) (kinds : StepKinds) → AreSites g kinds 0 []
sites_none g kinds = record { many = refl; each = λ j site is. absurd (cc) }

pub sites_more : (g : List FlowNode) (kinds : StepKinds) (i : ℕ) (sites new : List Site) (site : Site) → new ≡ sites ++ site ∷ [] → IsSite g kinds (pair_of kinds.after i) site → AreSites g kinds i sites → AreSites g kinds (i + 1) new
sites_more g kinds i sites new site is is_site before =
    let many = before.many in
    let len = length-append sites (site ∷ []) in
    subst (λ (xs : List Site). AreSites g kinds (i + 1) xs) (sym is)
    (record {
      many = omega (arith, many, len);
      each = λ j other there. ⊎_elim (λ old. before.each j other old) (λ now. let at : j ≡ i = now.0 ∙ many in subst (λ (x : Site). IsSite g kinds (pair_of kinds.after j) x) now.1 (subst (λ k. IsSite g kinds (pair_of kinds.after k) site) (sym at) is_site)) (push_cases sites site j other there);
    })
  where
    push_cases : (xs : List Site) (x : Site) (j : ℕ) (y : Site) → slice_get (xs ++ x ∷ []) j ≡ Some y → (slice_get xs j ≡ Some y) ⊎ ((j ≡ length xs) × (x ≡ y))
    push_cases [] x zero y there = inr (refl, same_Some x y there)
    push_cases [] x (suc j) y there = absurd (cc)
    push_cases (z ∷ zs) x zero y there = inl there
    push_cases (z ∷ zs) x (suc j) y there = ⊎_elim (λ old. inl old) (λ now. inr (ap suc now.0, now.1)) (push_cases zs x j y there)

-- ---- what the code holds

pub next_held : (g : List FlowNode) (kinds : StepKinds) (phase : Phase) (node : ℕ) (here : FlowNode) (next : List ℕ) (after : List (ℕ × ℕ)) (old mid new : List ℕ) → slice_get g node ≡ Some here → next ≡ here.next → after ≡ kinds.after → old ≡ []
    → AddsItems (λ n. Contains next n × (n < length g) × IsTaken kinds phase node n) old mid → AddsItems (IsLink (length g) after node) mid new → (n : ℕ) → Contains new n ↔ IsNext g kinds phase node n
next_held g kinds phase node here next after old mid new is same held none first second =
    next_all g kinds phase node here next mid new is same
    (subst (λ (xs : List ℕ). AddsItems (λ n. Contains next n × (n < length g) × IsTaken kinds phase node n) xs mid) none first)
    (subst (λ (xs : List (ℕ × ℕ)). AddsItems (IsLink (length g) xs node) mid new) held second)

pub arriving_all : (count i : ℕ) (after : List (ℕ × ℕ)) (old new : List FlowNode) → length after ≡ i → Arriving count after i old new → (m n : ℕ) → IsStep new m n ↔ (IsStep old m n ⊎ IsArrival count after m n)
arriving_all count i after old new all arriving m n = (
  λ goes. ⊎_elim (λ was. inl was) (λ p. inr (p.0, (let lt = p.1 in omega (arith, lt, all)), p.2, p.3)) ((arriving.steps m n).0 goes),
  λ either. (arriving.steps m n).1 (⊎_elim (λ was. inl was) (λ p. inr (p.0, (let lt = p.1 in omega (arith, lt, all)), p.2, p.3)) either),
)

pub lists_all : (P : ℕ → Type 0) (g : List FlowNode) (xs : List ℕ) (i : ℕ) → length g ≡ i → Lists P xs i → (n : ℕ) → Contains xs n ↔ ((n < length g) × P n)
lists_all P g xs i all lists n = (
  λ has. let h = (lists.listed n).0 has in ((let lt = h.0 in omega (arith, lt, all)), h.1),
  λ h. (lists.listed n).1 ((let lt = h.0 in omega (arith, lt, all)), h.1),
)

pub sites_push : (g : List FlowNode) (kinds : StepKinds) (i : ℕ) (sites new : List Site) (slice : List (ℕ × ℕ)) (site : Site) (entries exits : List ℕ) → slice ≡ kinds.after → site.entries ≡ entries → site.exits ≡ exits
    → ((e : ℕ) → Contains entries e ↔ ((e < length g) × IsCall g kinds (get_or slice i (0, 0)).0 e)) → ((x : ℕ) → Contains exits x ↔ ((x < length g) × IsReturn g kinds x (get_or slice i (0, 0)).1)) → new ≡ sites ++ site ∷ [] → AreSites g kinds i sites → AreSites g kinds (i + 1) new
sites_push g kinds i sites new slice site entries exits same entries_are exits_are calls returns is before =
    sites_more g kinds i sites new site is
    (subst (λ (xs : List (ℕ × ℕ)). IsSite g kinds (pair_of xs i) site) same
    (record {
      entries = λ e. subst (λ (es : List ℕ). Contains es e ↔ ((e < length g) × IsCall g kinds (get_or slice i (0, 0)).0 e)) (sym entries_are) (calls e);
      exits = λ x. subst (λ (xs : List ℕ). Contains xs x ↔ ((x < length g) × IsReturn g kinds x (get_or slice i (0, 0)).1)) (sym exits_are) (returns x);
    }))
    before

-- ---- numbers below a bound

pub below_more : (pairs : List (ℕ × ℕ)) (count i : ℕ) → i < length pairs → ((get_or pairs i (0, 0)).0 < count) × ((get_or pairs i (0, 0)).1 < count) → ((k : ℕ) (d : ℕ × ℕ) → k < i → ((get_or pairs k d).0 < count) × ((get_or pairs k d).1 < count))
    → (k : ℕ) (d : ℕ × ℕ) → k < i + 1 → ((get_or pairs k d).0 < count) × ((get_or pairs k d).1 < count)
below_more pairs count i within now before k d low =
    ⊎_elim
    (λ (same : k ≡ i).
    let at : get_or pairs i d ≡ get_or pairs i (0, 0) = get_or_default pairs i d (0, 0) within in
    subst (λ j. ((get_or pairs j d).0 < count) × ((get_or pairs j d).1 < count)) (sym same) (subst (λ (p : ℕ × ℕ). (p.0 < count) × (p.1 < count)) (sym at) now))
    (λ other. before k d (let off : k ≢ i = other in omega (arith, low, off)))
    (cases_eq k i)
