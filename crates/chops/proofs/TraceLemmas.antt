-- From the nearest node back, each time to the least that serves: the shortest path.
use Rattle.std.proofs.Common.{◌≡◌, ◌≢◌, ◌⊎◌, inl, inr, ⊎_elim, ℕ, ◌+◌, ◌<◌, ◌≤◌, Bool, List, [], ◌∷◌, ◌++◌, length, get_or, refl, sym, ◌∙◌, ap, subst, arith, IsTrue}
use Rattle.std.specs.Prelude.{◌↔◌, All, Contains}
use Rattle.std.proofs.lemmas.Bool.{cases_eq}
use Rattle.std.proofs.lemmas.List.{get_or_default}
use Rattle.std.proofs.lemmas.List.Elements.{All-cons, Contains-get_or}
use Rattle.flow_graph.specs.declared.graph.FlowNode.{FlowNode}
use Rattle.flow_graph.specs.FlowGraph.{IsAt}
use Rattle.flow_graph.proofs.GraphLaws.{Has-at, Has-from, Has-within, slice_get-at}
use Rattle.chops.specs.Following.{IsAfter}
use Rattle.chops.specs.Paths.{ComesTo, start_of, ComesIn, IsTrace, TakesLeast, IsShortestTrace}
use Rattle.chops.specs.Counts.{AreFewest, IsBack, IsLeastBack, Falls, FallsFrom, IsNearest}
use Rattle.chops.proofs.PathLemmas.{least_is_shortest}
use Rattle.chops.proofs.CountLemmas.{at_most_in, in_reach}

-- ---- the nearest node

pub nearest_none : (g : List FlowNode) (at : ℕ) (counts : List ℕ) → IsNearest g at counts 0 (length g) (length g)
nearest_none g at counts = record { found = inl (refl, refl); early = inl refl; fewest = λ o never stands. absurd (omega (arith, never)); least = λ o never stands same low. absurd (omega (arith, never)) }

pub nearest_take : (g : List FlowNode) (at : ℕ) (counts : List ℕ) (i node count : ℕ) → IsAt g at i → get_or counts i 0 < count → count ≤ length g → IsNearest g at counts i node count → IsNearest g at counts (i + 1) i (get_or counts i 0)
nearest_take g at counts i node count stands lower most near = record {
  found = inr (stands, refl, omega (arith, lower, most));
  early = inr (omega arith);
  fewest = λ o low there.
      ⊎_elim (λ (same : o ≡ i). let is = ap (λ j. get_or counts j 0) same in omega (arith, is))
      (λ other. let off : o ≢ i = other in let few = near.fewest o (omega (arith, low, off)) there in omega (arith, few, lower)) (cases_eq o i);
  least = λ o low there same fits.
      ⊎_elim (λ (last : o ≡ i). omega (arith, last))
      (λ other. let off : o ≢ i = other in let few = near.fewest o (omega (arith, low, off)) there in absurd (omega (arith, few, lower, same))) (cases_eq o i);
}

pub nearest_leave : (g : List FlowNode) (at : ℕ) (counts : List ℕ) (i node count : ℕ) → (IsAt g at i → count ≤ get_or counts i 0) → IsNearest g at counts i node count → IsNearest g at counts (i + 1) node count
nearest_leave g at counts i node count further near = record {
  found = near.found;
  early = ⊎_elim (λ out. inl out) (λ (low : node < i). inr (omega (arith, low))) near.early;
  fewest = λ o low there.
      ⊎_elim (λ (same : o ≡ i). subst (λ j. count ≤ get_or counts j 0) (sym same) (further (subst (λ j. IsAt g at j) same there)))
      (λ other. let off : o ≢ i = other in near.fewest o (omega (arith, low, off)) there) (cases_eq o i);
  least = λ o low there same fits.
      ⊎_elim (λ (last : o ≡ i). ⊎_elim
      (λ (out : node ≡ length g). ⊎_elim (λ no. let far = no.1 in absurd (omega (arith, far, fits))) (λ yes. let inside = Has-within g node (λ n. n.at ≡ at) yes.0 in absurd (omega (arith, inside, out))) near.found)
      (λ (le : node < i). omega (arith, last, le)) near.early)
      (λ other. let off : o ≢ i = other in near.least o (omega (arith, low, off)) there same fits) (cases_eq o i);
}

pub nearest_most : (g : List FlowNode) (at : ℕ) (counts : List ℕ) (i node count : ℕ) → IsNearest g at counts i node count → count ≤ length g
nearest_most g at counts i node count near = ⊎_elim (λ no. let is = no.1 in omega (arith, is)) (λ yes. let fits = yes.2 in omega (arith, fits)) near.found

pub stands_there : (g : List FlowNode) (at n : ℕ) (node : FlowNode) → n < length g → node ≡ get_or g n node → (node.at ≡ at) ↔ IsAt g at n
stands_there g at n node within read =
    let is = slice_get-at g n node within read in
    (λ same. Has-from g n node (λ o. o.at ≡ at) is same, λ there. Has-at g n node (λ o. o.at ≡ at) is there)

-- ---- the node before

-- of the first i arrows
pub record IsBefore (arrows : List (ℕ × ℕ)) (counts : List ℕ) (node i best : ℕ) : Type 0 where
  pub one : (best ≡ length counts) ⊎ IsBack arrows counts node best
  pub least : (k m : ℕ) → k < i → get_or arrows k (0, 0) ≡ (m, node) → get_or counts m 0 + 1 ≡ get_or counts node 0 → best ≤ m

pub before_none : (arrows : List (ℕ × ℕ)) (counts : List ℕ) (node : ℕ) → IsBefore arrows counts node 0 (length counts)
before_none arrows counts node = record { one = inl refl; least = λ k m never at back. absurd (omega (arith, never)) }

pub before_more : (arrows : List (ℕ × ℕ)) (counts : List ℕ) (node i from to best new : ℕ) (wished : Bool) → i < length arrows → (from, to) ≡ get_or arrows i (0, 0) → IsTrue wished ↔ ((to ≡ node) × (get_or counts from 0 + 1 ≡ get_or counts node 0))
    → new ≤ best → (IsTrue wished → new ≤ from) → (new ≡ best) ⊎ (IsTrue wished × (new ≡ from)) → IsBefore arrows counts node i best → IsBefore arrows counts node (i + 1) new
before_more arrows counts node i from to best new wished within read says kept lower either before = record {
  one = ⊎_elim (λ same. subst (λ b. (b ≡ length counts) ⊎ IsBack arrows counts node b) (sym same) before.one)
      (λ now. let is = says.0 now.0 in
      let among : Contains arrows (from, to) = subst (λ (p : ℕ × ℕ). Contains arrows p) (sym read) (Contains-get_or arrows i (0, 0) within) in
      inr (subst (λ b. IsBack arrows counts node b) (sym now.1) (subst (λ t. Contains arrows (from, t)) is.0 among, is.1))) either;
  least = λ k m low at back.
      ⊎_elim
      (λ (same : k ≡ i).
      let here : (from, to) ≡ (m, node) = read ∙ ap (λ j. get_or arrows j (0, 0)) (sym same) ∙ at in
      let from_is : from ≡ m = ap (λ (p : ℕ × ℕ). p.0) here in
      let le = lower (says.1 (ap (λ (p : ℕ × ℕ). p.1) here, subst (λ f. get_or counts f 0 + 1 ≡ get_or counts node 0) (sym from_is) back)) in
      omega (arith, le, from_is))
      (λ other. let off : k ≢ i = other in let le = before.least k m (omega (arith, low, off)) at back in omega (arith, le, kept))
      (cases_eq k i);
}

pub before_all : (arrows : List (ℕ × ℕ)) (counts : List ℕ) (node i best : ℕ) → length arrows ≤ i → IsBefore arrows counts node i best → (m : ℕ) → IsBack arrows counts node m → best ≤ m
before_all arrows counts node i best all before m back =
    let among = back.0 in
    let within : among.0 < length arrows = among.1 in
    before.least among.0 m (omega (arith, within, all)) (get_or_default arrows among.0 (0, 0) (m, node) within ∙ among.2) back.1

-- ---- the nodes back to a start

abbrev pub AreInside : List (ℕ × ℕ) → ℕ → Type 0
AreInside arrows size = All (λ a. (a.0 < size) × (a.1 < size)) arrows

pub inside_both : (arrows : List (ℕ × ℕ)) (size : ℕ) → AreInside arrows size → (m n : ℕ) → IsAfter arrows m n → (m < size) × (n < size)
inside_both arrows size inside m n among = subst (λ (p : ℕ × ℕ). (p.0 < size) × (p.1 < size)) among.2 (inside among.0 _ among.1)

-- where a path needs an arrow, some node leads to its end
pub some_back : (arrows : List (ℕ × ℕ)) (Start : ℕ → Type 0) (counts : List ℕ) (n : ℕ) → AreInside arrows (length counts) → AreFewest (IsAfter arrows) Start counts → n < length counts → get_or counts n 0 < length counts → 0 < get_or counts n 0 → (m : ℕ) × IsBack arrows counts n m × (m < length counts)
some_back arrows Start counts n inside few within reached more =
    let way = few.ways.comes n within reached in
    first way.nodes way.comes way.starts way.many
  where
    first : (nodes : List ℕ) → ComesTo (IsAfter arrows) n nodes → Start (start_of n nodes) → length nodes ≡ get_or counts n 0 → (m : ℕ) × IsBack arrows counts n m × (m < length counts)
    first [] comes starts many = absurd (omega (arith, many, more))
    first (m ∷ ms) comes starts many =
        let source = (inside_both arrows (length counts) inside m n comes.0).0 in
        let most = at_most_in (IsAfter arrows) Start counts (inside_both arrows (length counts) inside) few (length ms) m source (record { nodes = ms; many = refl; comes = comes.1; starts = starts }) in
        let short = few.short m n comes.0 in
        (m, (comes.0, omega (arith, most, short, many)), source)

pub falls_more : (arrows : List (ℕ × ℕ)) (counts : List ℕ) (n : ℕ) (ms : List ℕ) (m : ℕ) → Falls arrows counts n ms → IsLeastBack arrows counts (start_of n ms) m → Falls arrows counts n (ms ++ m ∷ []) × (start_of n (ms ++ m ∷ []) ≡ m)
falls_more arrows counts n [] m falls back = ((back, tt), refl)
falls_more arrows counts n (o ∷ os) m falls back = let rest = falls_more arrows counts o os m falls.1 back in ((falls.0, rest.0), rest.1)

-- so far back
pub record Falling (arrows : List (ℕ × ℕ)) (counts : List ℕ) (end : ℕ) (trace : List ℕ) (node : ℕ) : Type 0 where
  pub rest : List ℕ
  pub is : trace ≡ end ∷ rest
  pub falls : Falls arrows counts end rest
  pub last : start_of end rest ≡ node
  pub within : node < length counts
  pub reached : get_or counts node 0 < length counts

pub falling_first : (arrows : List (ℕ × ℕ)) (counts : List ℕ) (end : ℕ) → end < length counts → get_or counts end 0 < length counts → Falling arrows counts end (end ∷ []) end
falling_first arrows counts end within reached = record { rest = []; is = refl; falls = tt; last = refl; within = within; reached = reached }

-- what is before a node that needs an arrow
pub before_is : (arrows : List (ℕ × ℕ)) (Start : ℕ → Type 0) (counts : List ℕ) (node best : ℕ) → AreInside arrows (length counts) → AreFewest (IsAfter arrows) Start counts → node < length counts → get_or counts node 0 < length counts → 0 < get_or counts node 0
    → (best ≡ length counts) ⊎ IsBack arrows counts node best → ((m : ℕ) → IsBack arrows counts node m → best ≤ m) → IsLeastBack arrows counts node best × (best < length counts)
before_is arrows Start counts node best inside few within reached more one least =
    let some = some_back arrows Start counts node inside few within reached more in
    let le = least some.0 some.1 in
    let source = some.2 in
    (⊎_elim (λ (out : best ≡ length counts). absurd (omega (arith, out, le, source))) (λ back. (back, least)) one, omega (arith, le, source))

pub falling_more : (arrows : List (ℕ × ℕ)) (counts : List ℕ) (end node best : ℕ) (trace new : List ℕ) → new ≡ trace ++ best ∷ [] → IsLeastBack arrows counts node best → best < length counts → Falling arrows counts end trace node → Falling arrows counts end new best
falling_more arrows counts end node best trace new is back within f =
    let more = falls_more arrows counts end f.rest best f.falls (subst (λ n. IsLeastBack arrows counts n best) (sym f.last) back) in
    let less = back.0.1 in
    let reached = f.reached in
    record {
      rest = f.rest ++ best ∷ [];
      is = is ∙ ap (λ (t : List ℕ). t ++ best ∷ []) f.is;
      falls = more.0;
      last = more.1;
      within = within;
      reached = omega (arith, less, reached);
    }

pub falling_all : (arrows : List (ℕ × ℕ)) (counts : List ℕ) (end node : ℕ) (trace : List ℕ) → get_or counts node 0 ≤ 0 → Falling arrows counts end trace node → FallsFrom arrows counts end trace
falling_all arrows counts end node trace none f = record { rest = f.rest; is = f.is; falls = f.falls; starts = ap (λ n. get_or counts n 0) f.last ∙ omega arith }

-- ---- the shortest

falls_many : (arrows : List (ℕ × ℕ)) (counts : List ℕ) (n : ℕ) (ms : List ℕ) → Falls arrows counts n ms → get_or counts (start_of n ms) 0 ≡ 0 → length ms ≡ get_or counts n 0
falls_many arrows counts n [] falls starts = sym starts
falls_many arrows counts n (m ∷ ms) falls starts = let rest = falls_many arrows counts m ms falls.1 starts in let step = falls.0.0.1 in omega (arith, rest, step)

falls_takes : (arrows : List (ℕ × ℕ)) (Start : ℕ → Type 0) (counts : List ℕ) → AreInside arrows (length counts) → AreFewest (IsAfter arrows) Start counts → (n : ℕ) (ms : List ℕ) → n < length counts → Falls arrows counts n ms → get_or counts (start_of n ms) 0 ≡ 0 → TakesLeast (IsAfter arrows) Start n ms
falls_takes arrows Start counts inside few n [] within falls starts = let way = few.ways.comes n within (omega (arith, within, starts)) in here way.nodes way.starts (way.many ∙ starts)
  where
    here : (nodes : List ℕ) → Start (start_of n nodes) → length nodes ≡ 0 → Start n
    here [] start many = start
    here (m ∷ ms) start many = absurd (omega arith)
falls_takes arrows Start counts inside few n (m ∷ ms) within falls starts =
    let many = falls_many arrows counts m ms falls.1 starts in
    let step = falls.0.0.1 in
    let source = (inside_both arrows (length counts) inside m n falls.0.0.0).0 in (
      falls.0.0.0,
      λ o goes comes.
          let there = (inside_both arrows (length counts) inside o n goes).0 in
          let most = at_most_in (IsAfter arrows) Start counts (inside_both arrows (length counts) inside) few (length ms) o there comes in
          let short = few.short o n goes in
          falls.0.1 o (goes, omega (arith, most, short, step, many)),
      falls_takes arrows Start counts inside few m ms source falls.1 starts,
    )

pub falls_shortest : (g : List FlowNode) (arrows : List (ℕ × ℕ)) (Start : ℕ → Type 0) (counts : List ℕ) (to end count : ℕ) (trace : List ℕ) → length counts ≡ length g → AreInside arrows (length g) → AreFewest (IsAfter arrows) Start counts → end < length g → IsNearest g to counts (length g) end count → FallsFrom arrows counts end trace
    → IsShortestTrace (IsAfter arrows) Start (IsAt g to) trace
falls_shortest g arrows Start counts to end count trace many inside few within near falls =
    let within_counts : end < length counts = omega (arith, within, many) in
    let room : AreInside arrows (length counts) = subst (λ s. AreInside arrows s) (sym many) inside in
    let found = ⊎_elim (λ no. let out = no.0 in absurd (omega (arith, out, within))) (λ yes. yes) near.found in
    let long = falls_many arrows counts end falls.rest falls.falls falls.starts in
    let is_count = found.1 in
    let fits = found.2 in
    let at = λ (o : ℕ) (stands : IsAt g to o). Has-within g o (λ node. node.at ≡ to) stands in
    let most = λ (o c : ℕ) (stands : IsAt g to o) (comes : ComesIn (IsAfter arrows) Start c o). at_most_in (IsAfter arrows) Start counts (inside_both arrows (length counts) room) few c o (let w = at o stands in omega (arith, w, many)) comes in
    subst (λ t. IsShortestTrace (IsAfter arrows) Start (IsAt g to) t) (sym falls.is)
    (least_is_shortest (IsAfter arrows) Start (IsAt g to) end falls.rest
    (record {
      ends = found.0;
      fewest = λ o c stands comes. let le = most o c stands comes in let few_here = near.fewest o (at o stands) stands in omega (arith, le, few_here, long, is_count);
      least = λ o stands comes. let le = most o (length falls.rest) stands comes in let few_here = near.fewest o (at o stands) stands in near.least o (at o stands) stands (omega (arith, le, few_here, long, is_count)) fits;
      takes = falls_takes arrows Start counts room few end falls.rest within_counts falls.falls falls.starts;
    }))

pub none_shortest : (g : List FlowNode) (arrows : List (ℕ × ℕ)) (Start : ℕ → Type 0) (counts : List ℕ) (to end count : ℕ) → length counts ≡ length g → AreInside arrows (length g) → AreFewest (IsAfter arrows) Start counts → length g ≤ end → IsNearest g to counts (length g) end count → (trace : List ℕ) → ¬ IsTrace (IsAfter arrows) Start (IsAt g to) trace
none_shortest g arrows Start counts to end count many inside few past near [] trace = trace
none_shortest g arrows Start counts to end count many inside few past near (n ∷ ms) trace =
    let room : AreInside arrows (length counts) = subst (λ s. AreInside arrows s) (sym many) inside in
    let at = Has-within g n (λ node. node.at ≡ to) trace.0 in
    let near_here = near.fewest n at trace.0 in
    let reached = in_reach (IsAfter arrows) Start counts (inside_both arrows (length counts) room) few ms n (omega (arith, at, many)) trace.1 trace.2 in
    ⊎_elim (λ no. let far = no.1 in absurd (omega (arith, far, near_here, reached, many))) (λ yes. let inside_end = Has-within g end (λ node. node.at ≡ to) yes.0 in absurd (omega (arith, inside_end, past))) near.found

-- ---- arrows of which one and the same holds

pub shortest_like : (A B : ℕ → ℕ → Type 0) (Start End : ℕ → Type 0) → ((m n : ℕ) → A m n ↔ B m n) → (trace : List ℕ) → IsShortestTrace A Start End trace → IsShortestTrace B Start End trace
shortest_like A B Start End like trace s = record {
  path = trace_like A B trace (λ m n. (like m n).0) s.path;
  shortest = λ other is. s.shortest other (trace_like B A other (λ m n. (like m n).1) is);
  earliest = λ other is same. s.earliest other (trace_like B A other (λ m n. (like m n).1) is) same;
}
  where
    comes_like : (C D : ℕ → ℕ → Type 0) (n : ℕ) (ms : List ℕ) → ((a b : ℕ) → C a b → D a b) → ComesTo C n ms → ComesTo D n ms
    comes_like C D n [] to comes = tt
    comes_like C D n (m ∷ ms) to comes = (to m n comes.0, comes_like C D m ms to comes.1)

    trace_like : (C D : ℕ → ℕ → Type 0) (t : List ℕ) → ((a b : ℕ) → C a b → D a b) → IsTrace C Start End t → IsTrace D Start End t
    trace_like C D [] to is = is
    trace_like C D (n ∷ ms) to is = (is.0, comes_like C D n ms to is.1, is.2)

pub none_like : (A B : ℕ → ℕ → Type 0) (Start End : ℕ → Type 0) → ((m n : ℕ) → B m n → A m n) → ((trace : List ℕ) → ¬ IsTrace A Start End trace) → (trace : List ℕ) → ¬ IsTrace B Start End trace
none_like A B Start End to none [] is = is
none_like A B Start End to none (n ∷ ms) is = none (n ∷ ms) (is.0, comes_like n ms is.1, is.2)
  where
    comes_like : (o : ℕ) (os : List ℕ) → ComesTo B o os → ComesTo A o os
    comes_like o [] comes = tt
    comes_like o (m ∷ ms') comes = (to m o comes.0, comes_like m ms' comes.1)

-- the nodes of a shortest path are nodes
pub trace_inside : (g : List FlowNode) (Goes : ℕ → ℕ → Type 0) (from to : ℕ) (trace : List ℕ) → ((m n : ℕ) → Goes m n → m < length g) → IsTrace Goes (IsAt g from) (IsAt g to) trace → All (λ n. n < length g) trace
trace_inside g Goes from to [] inside is = absurd is
trace_inside g Goes from to (n ∷ ms) inside is = all_in n ms (Has-within g n (λ node. node.at ≡ to) is.0) is.1
  where
    all_in : (o : ℕ) (os : List ℕ) → o < length g → ComesTo Goes o os → All (λ m. m < length g) (o ∷ os)
    all_in o [] here comes = All-cons (λ m. m < length g) o [] here (λ k d never. absurd (omega (arith, never)))
    all_in o (m ∷ rest) here comes = All-cons (λ k. k < length g) o (m ∷ rest) here (all_in m rest (inside m o comes.0) comes.1)
