-- A search over marks and a list of waiting nodes.
use Rattle.std.proofs.Common.{◌≡◌, ◌≢◌, ◌⊎◌, inl, inr, ⊎_elim, ℕ, ◌+◌, ◌<◌, ◌≤◌, Bool, true, false, cond, List, [], ◌∷◌, ◌++◌, length, get_or, set, replicate, refl, sym, ◌∙◌, ap, subst, arith, IsTrue, get_or-set_same, get_or-set_other, length-append}
use Rattle.std.specs.Prelude.{◌↔◌, Contains}
use Rattle.std.specs.List.{AllByRecursion}
use Rattle.std.proofs.lemmas.List.{get_or_default, get_or_past, get_or-replicate, length-replicate}
use Rattle.std.proofs.lemmas.List.Elements.{Contains-append_left, Contains-push, Contains-push_cases}
use Rattle.std.proofs.lemmas.List.Sums.{sum_by-set}
use Rattle.std.proofs.lemmas.Bool.{cases_eq}
use Rattle.std.proofs.lemmas.Bool.Decides.{leb_tells}
use Rattle.flow_graph.specs.declared.graph.FlowNode.{FlowNode}
use Rattle.flow_graph.specs.FlowGraph.{IsStep, IsEnd, Walk, Reaches}
use Rattle.flow_graph.specs.Marked.{Marked}
use Rattle.flow_graph.specs.Marked.Marked.{seed, step}
use Rattle.flow_graph.specs.Walks.{IsOn, Arrives, Follows, unmarked}
use Rattle.flow_graph.proofs.GraphLaws.{Has-within}
use Rattle.flow_graph.proofs.MarkedLaws.{Searches, all_marked, marked_all}
use Rattle.flow_graph.proofs.WalkLaws.{walk-within, walk-more, all-more, reaches-by}

-- ---- marks

pub on-within : (marks : List Bool) (n : ℕ) → IsOn marks n → n < length marks
on-within marks n on =
    ⊎_elim (λ past. let off = get_or_past marks n false past.1 in absurd (cc)) (λ within. within.1) (leb_tells (length marks) n)

pub on-set : (marks : List Bool) (n : ℕ) → n < length marks → IsOn (set marks n true) n
on-set marks n within = get_or-set_same marks n true false within

pub on-kept : (marks : List Bool) (n m : ℕ) → n < length marks → IsOn marks m → IsOn (set marks n true) m
on-kept marks n m within on =
    ⊎_elim (λ same. subst (λ j. IsOn (set marks n true) j) (sym same) (on-set marks n within))
    (λ other. get_or-set_other marks n m true false other ∙ on)
    (cases_eq m n)

pub on-why : (marks : List Bool) (n m : ℕ) → IsOn (set marks n true) m → IsOn marks m ⊎ (m ≡ n)
on-why marks n m on =
    ⊎_elim (λ same. inr same)
    (λ other. inl (sym (get_or-set_other marks n m true false other) ∙ on))
    (cases_eq m n)

abbrev one_unless : Bool → ℕ
one_unless mark = cond mark 0 1

pub unmarked-set : (marks : List Bool) (n : ℕ) → n < length marks → get_or marks n false ≡ false → unmarked (set marks n true) + 1 ≡ unmarked marks
unfolding unmarked
unmarked-set marks n within off =
    let total = sum_by-set (λ mark. cond mark 0 1) marks n true false within in
    let one = ap one_unless off in
    omega (arith, total, one)

-- ---- one target

pub follows-on : (old : List Bool) (work : List ℕ) (n : ℕ) → (n < length old → get_or old n false ≡ true) → Follows (λ m. m ≡ n) old work old work
follows-on old work n is = record {
  kept = λ m on. on;
  why = λ m on. inl on;
  on = λ m same within. subst (λ j. IsOn old j) (sym same) ((is (subst (λ j. j < length old) same within)));
  waits = λ m on. inl on;
  still_waits = λ m waits. waits;
  queued = λ m waits. inl waits;
  work = refl;
}

pub follows-new : (old : List Bool) (work : List ℕ) (n : ℕ) → n < length old → get_or old n false ≡ false → Follows (λ m. m ≡ n) old work (set old n true) (work ++ n ∷ [])
follows-new old work n within off = record {
  kept = λ m on. on-kept old n m within on;
  why = λ m on. ⊎_elim (λ was. inl was) (λ same. inr (same, subst (λ j. j < length old) (sym same) within)) (on-why old n m on);
  on = λ m same inside. subst (λ j. IsOn (set old n true) j) (sym same) (on-set old n within);
  waits = λ m on. ⊎_elim (λ was. inl was) (λ same. inr (subst (λ j. Contains (work ++ n ∷ []) j) (sym same) (Contains-push work n))) (on-why old n m on);
  still_waits = λ m waits. Contains-append_left work (n ∷ []) m waits;
  queued = λ m waits. ⊎_elim (λ was. inl was) (λ same. inr (subst (λ j. IsOn (set old n true) j) same (on-set old n within))) (Contains-push_cases work n m waits);
  work = let more = unmarked-set old n within off in omega (arith, more, length-append work (n ∷ []));
}

-- ---- a list of targets

-- one of the first i of these
abbrev pub IsBelow : List ℕ → ℕ → ℕ → Type 0
IsBelow targets i n = (j : ℕ) × (j < i) × (get_or targets j 0 ≡ n)

pub follows-none : (targets : List ℕ) (old : List Bool) (work : List ℕ) → Follows (IsBelow targets 0) old work old work
follows-none targets old work = record {
  kept = λ m on. on;
  why = λ m on. inl on;
  on = λ m below within. let none : below.0 < 0 = below.1 in absurd (omega (arith, none));
  waits = λ m on. inl on;
  still_waits = λ m waits. waits;
  queued = λ m waits. inl waits;
  work = refl;
}

pub follows-more : (targets : List ℕ) (i n : ℕ) (old : List Bool) (old_work : List ℕ) (mid : List Bool) (mid_work : List ℕ) (new : List Bool) (new_work : List ℕ) → n ≡ get_or targets i 0 → length mid ≡ length old → Follows (IsBelow targets i) old old_work mid mid_work → Follows (λ m. m ≡ n) mid mid_work new new_work → Follows (IsBelow targets (i + 1)) old old_work new new_work
follows-more targets i n old old_work mid mid_work new new_work read same_len before here = record {
  kept = λ m on. here.kept m (before.kept m on);
  why = λ m on.
      ⊎_elim (λ was. ⊎_elim (λ first. inl first) (λ target. inr ((target.0.0, (let b : target.0.0 < i = target.0.1 in omega (arith, b)), target.0.2), target.1)) (before.why m was))
      (λ target. inr ((i, omega arith, sym read ∙ sym target.0), (let b : m < length mid = target.1 in omega (arith, b))))
      (here.why m on);
  on = λ m target within.
      let below : target.0 < i + 1 = target.1 in
      ⊎_elim (λ same. here.on m (sym target.2 ∙ ap (λ j. get_or targets j 0) same ∙ sym read) (omega arith))
      (λ other. let off : target.0 ≢ i = other in here.kept m (before.on m (target.0, omega (arith, below, off), target.2) within))
      (cases_eq target.0 i);
  waits = λ m on.
      ⊎_elim (λ was. ⊎_elim (λ first. inl first) (λ waits. inr (here.still_waits m waits)) (before.waits m was)) (λ waits. inr waits) (here.waits m on);
  still_waits = λ m waits. here.still_waits m (before.still_waits m waits);
  queued = λ m waits. ⊎_elim (λ was. ⊎_elim (λ first. inl first) (λ on. inr (here.kept m on)) (before.queued m was)) (λ on. inr on) (here.queued m waits);
  work = here.work ∙ before.work;
}

pub below-contains : (targets : List ℕ) (i n : ℕ) → i ≡ length targets → IsBelow targets i n ↔ Contains targets n
below-contains targets i n all = (
  λ below. let within : below.0 < length targets = (let b : below.0 < i = below.1 in omega (arith, b)) in (below.0, within, get_or_default targets below.0 n 0 within ∙ below.2),
  λ place. let within : place.0 < length targets = place.1 in (place.0, omega (arith, within), get_or_default targets place.0 0 n within ∙ place.2),
)

pub follows-like : (P Q : ℕ → Type 0) (old : List Bool) (old_work : List ℕ) (new : List Bool) (new_work : List ℕ) → ((n : ℕ) → P n ↔ Q n) → Follows P old old_work new new_work → Follows Q old old_work new new_work
follows-like P Q old old_work new new_work like f = record {
  kept = f.kept;
  why = λ m on. ⊎_elim (λ was. inl was) (λ target. inr ((like m).0 target.0, target.1)) (f.why m on);
  on = λ m target within. f.on m ((like m).1 target) within;
  waits = f.waits;
  still_waits = f.still_waits;
  queued = f.queued;
  work = f.work;
}

-- ---- the search

-- where a search from a node begins, and how it goes on
abbrev pub First : List FlowNode → ℕ → ℕ → Type 0
First g from n = IsStep g from n × (n < length g)

abbrev pub Onward : List FlowNode → List Bool → ℕ → ℕ → Type 0
Onward g kept m n = IsStep g m n × (n < length g) × IsOn kept m

pub record Walking (g : List FlowNode) (kept : List Bool) (from : ℕ) (marks : List Bool) (work : List ℕ) : Type 0 where
  pub nodes : length marks ≡ length g
  pub waiting : (n : ℕ) → Contains work n → IsOn marks n
  pub search : Searches (First g from) (Onward g kept) (IsOn marks) (Contains work)

pub off-nothing : (n m : ℕ) → ¬ IsOn (replicate n false) m
off-nothing n m on =
    let within : m < n = subst (λ l. m < l) (length-replicate n false) (on-within (replicate n false) m on) in
    let off = get_or-replicate n m false false within in absurd (cc)

pub walking-begins : (g : List FlowNode) (kept : List Bool) (from : ℕ) (targets : List ℕ) (old : List Bool) (old_work : List ℕ) (marks : List Bool) (work : List ℕ) → ((n : ℕ) → Contains targets n ↔ IsStep g from n) → old ≡ replicate (length g) false → old_work ≡ [] → length marks ≡ length old → Follows (Contains targets) old old_work marks work → Walking g kept from marks work
walking-begins g kept from targets old old_work marks work next all_off none len f =
    let nodes : length old ≡ length g = ap (λ ms. length ms) all_off ∙ length-replicate (length g) false in
    let off : (n : ℕ) → ¬ IsOn old n = λ n on. off-nothing (length g) n (subst (λ ms. IsOn ms n) all_off on) in
    record {
      nodes = len ∙ nodes;
      waiting = λ n waits. ⊎_elim (λ never. let past : never.0 < length old_work = never.1 in absurd (omega (arith, past, ap (λ ws. length ws) none))) (λ on. on) (f.queued n waits);
      search = record {
        begins = λ n first. f.on n ((next n).1 first.0) (subst (λ l. n < l) (sym nodes) first.1);
        reached = λ n on. ⊎_elim (λ was. absurd (off n was)) (λ target. seed ((next n).0 target.0, subst (λ l. n < l) nodes target.1)) (f.why n on);
        followed = λ m n to on. ⊎_elim (λ was. absurd (off m was)) (λ waits. inr waits) (f.waits m on);
      };
    }

-- a node that isn't kept is passed over
pub walking-skips : (g : List FlowNode) (kept : List Bool) (from node : ℕ) (marks : List Bool) (work rest : List ℕ) → work ≡ rest ++ node ∷ [] → ¬ IsOn kept node → Walking g kept from marks work → Walking g kept from marks rest
walking-skips g kept from node marks work rest popped off w = record {
  nodes = w.nodes;
  waiting = λ n waits. w.waiting n (subst (λ ws. Contains ws n) (sym popped) (Contains-append_left rest (node ∷ []) n waits));
  search = record {
    begins = w.search.begins;
    reached = w.search.reached;
    followed = λ m n to on.
        ⊎_elim (λ done. inl done)
        (λ waits. ⊎_elim (λ still. inr still) (λ same. absurd (off (subst (λ j. IsOn kept j) (sym same) to.2))) (Contains-push_cases rest node m (subst (λ ws. Contains ws m) popped waits)))
        (w.search.followed m n to on);
  };
}

pub walking-follows : (g : List FlowNode) (kept : List Bool) (from node : ℕ) (targets : List ℕ) (marks : List Bool) (work rest : List ℕ) (new : List Bool) (new_work : List ℕ) → work ≡ rest ++ node ∷ [] → IsOn kept node → ((n : ℕ) → Contains targets n ↔ IsStep g node n) → length new ≡ length marks → Walking g kept from marks work → Follows (Contains targets) marks rest new new_work → Walking g kept from new new_work
walking-follows g kept from node targets marks work rest new new_work popped keeps next len w f =
    let was_on : IsOn marks node = w.waiting node (subst (λ ws. Contains ws node) (sym popped) (Contains-push rest node)) in
    record {
      nodes = len ∙ w.nodes;
      waiting = λ n waits. ⊎_elim (λ was. f.kept n (w.waiting n (subst (λ ws. Contains ws n) (sym popped) (Contains-append_left rest (node ∷ []) n was)))) (λ on. on) (f.queued n waits);
      search = record {
        begins = λ n first. f.kept n (w.search.begins n first);
        reached = λ n on.
            ⊎_elim (λ was. w.search.reached n was)
            (λ target. step ((next n).0 target.0, subst (λ l. n < l) w.nodes target.1, keeps) (w.search.reached node was_on))
            (f.why n on);
        followed = λ m n to on.
            ⊎_elim (λ was.
            ⊎_elim (λ done. inl (f.kept n done))
            (λ waits. ⊎_elim (λ still. inr (f.still_waits m still))
            (λ same. inl (f.on n ((next n).1 (subst (λ j. IsStep g j n) (sym same) to.0)) (subst (λ l. n < l) (sym w.nodes) to.1)))
            (Contains-push_cases rest node m (subst (λ ws. Contains ws m) popped waits)))
            (w.search.followed m n to was))
            (λ waits. inr waits)
            (f.waits m on);
      };
    }

marked-along : (g : List FlowNode) (kept : List Bool) (from m : ℕ) (inner : List ℕ) (n : ℕ) → Marked (First g from) (Onward g kept) m → IsOn kept m → Walk g m inner n → AllByRecursion (IsOn kept) inner → n < length g → Marked (First g from) (Onward g kept) n
marked-along g kept from m [] n marked keeps walk all within = step (walk, within, keeps) marked
marked-along g kept from m (i ∷ inner) n marked keeps walk all within =
    marked-along g kept from i inner n (step (walk.0, walk-within g i inner n walk.1, keeps) marked) all.0 walk.1 all.1 within

marked-by : (g : List FlowNode) (kept : List Bool) (from : ℕ) (inner : List ℕ) (n : ℕ) → Walk g from inner n → AllByRecursion (IsOn kept) inner → n < length g → Marked (First g from) (Onward g kept) n
marked-by g kept from [] n walk all within = seed (walk, within)
marked-by g kept from (i ∷ inner) n walk all within =
    marked-along g kept from i inner n (seed (walk.0, walk-within g i inner n walk.1)) all.0 walk.1 all.1 within

-- where none waits, the marks say where the walks go
pub walking-ends : (g : List FlowNode) (kept : List Bool) (from : ℕ) (marks : List Bool) (work : List ℕ) → length work ≡ 0 → Walking g kept from marks work → (n : ℕ) → n < length g → IsOn marks n ↔ Arrives g kept from n
walking-ends g kept from marks work none w n within = (
  λ on. marked_all (First g from) (Onward g kept) (λ m. Arrives g kept from m)
      (λ m first. ([], first.0, tt))
      (λ m o onward arrives. (arrives.0 ++ m ∷ [], walk-more g from arrives.0 m o arrives.1 onward.0, all-more (IsOn kept) arrives.0 m arrives.2 onward.2))
      (w.search.reached n on),
  λ arrives. all_marked w.search (λ m waits. let within : waits.0 < length work = waits.1 in omega (arith, within, none)) (marked-by g kept from arrives.0 n arrives.1 arrives.2 within),
)

-- a search begun with its own node marked finds what that node reaches
pub reach-marks : (g : List FlowNode) (kept marks : List Bool) (from : ℕ) → kept ≡ replicate (length g) true → length marks ≡ length g → ((n : ℕ) → n < length g → IsOn marks n ↔ Arrives g kept from n) → (n : ℕ) → n < length g → IsOn (set marks from true) n ↔ Reaches g from n
reach-marks g kept marks from all len arrives n within =
    let by = reaches-by g from n in
    let found : IsOn marks n ↔ Arrives g (replicate (length g) true) from n = subst (λ ks. IsOn marks n ↔ Arrives g ks from n) all (arrives n within) in (
      λ on. by.1 (⊎_elim (λ was. inr (found.0 was)) (λ same. inl (sym same)) (on-why marks from n on)),
      λ reaches. ⊎_elim (λ same. subst (λ m. IsOn (set marks from true) m) same (on-set marks from (subst (λ m. m < length marks) (sym same) (subst (λ l. n < l) (sym len) within))))
          (λ walk. ⊎_elim (λ same. subst (λ m. IsOn (set marks from true) m) same (on-set marks from (subst (λ m. m < length marks) (sym same) (subst (λ l. n < l) (sym len) within))))
          (λ other. get_or-set_other marks from n true false (λ is. other (sym is)) ∙ found.1 walk)
          (cases_eq from n))
          (by.0 reaches),
    )

-- ---- an end among the marked nodes

abbrev pub Meets : List FlowNode → List Bool → List Bool → ℕ → Type 0
Meets g marks kept n = IsOn marks n × IsOn kept n × IsEnd g n

abbrev pub MeetsNoneBelow : List FlowNode → List Bool → List Bool → ℕ → Type 0
MeetsNoneBelow g marks kept i = (n : ℕ) → n < i → ¬ Meets g marks kept n

pub meets-none : (g : List FlowNode) (marks kept : List Bool) (i : ℕ) → length g ≤ i → MeetsNoneBelow g marks kept i → ¬ ((n : ℕ) × IsOn marks n × IsOn kept n × IsEnd g n)
meets-none g marks kept i all none met =
    let inside = Has-within g met.0 (λ node. IsTrue node.end) met.3 in
    none met.0 (omega (arith, inside)) (met.1, met.2, met.3)
