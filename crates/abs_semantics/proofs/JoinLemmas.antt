-- What two states are joined to stands for what each does.
use Rattle.std.proofs.Common.{◌≡◌, ℕ, ◌<◌, ◌≤◌, ◌==◌, ◌⊎◌, inl, inr, Bool, true, false, not, cond, ◌&&◌, List, [], ◌∷◌, ◌++◌, Option, Some, None, refl, sym, ◌∙◌, ap, subst, arith, ℤ}
use Rattle.std.specs.Prelude.{nat_le, nat_lt, pos, ◌-ℤ◌, map}
use Rattle.std.proofs.lemmas.Bool.{cond_both, and_parts, or_cases, or_left, or_right, eqb-true, eq-eqb, leb-true, leb-false, true≢false, false≢true, not-true}
use Rattle.std.proofs.lemmas.Option.{same_Some}
use Rattle.image_map.specs.declared.region.Cell.{Cell}
use Rattle.image_map.specs.declared.region.RegionId.{RegionId}
use Rattle.image_map.specs.Regions.{same_region, region_before}
use Rattle.image_map.proofs.OrderLaws.{same_region-equal}
use Rattle.ia32_semantics.specs.State.{State, little_endian}
use Rattle.strided.specs.Interval.{IsMember, IsCanonical}
use Rattle.strided.proofs.JoinLemmas.{member_join_left, member_join_right, member_widen_new}
use Rattle.vset.specs.declared.facts.CmpFact.{CmpFact}
use Rattle.vset.specs.declared.part.Both.TheVariants.{Joined, Widened}
use Rattle.vset.specs.Values.{Values, Top}
use Rattle.vset.specs.Operations.{join, widen}
use Rattle.vset.specs.World.{BlockAt, region_of, is_called}
use Rattle.vset.specs.Members.{HasValue}
use Rattle.vset.proofs.MemberLemmas.{join_has_left, join_has_right, widen_has_right}
use Rattle.abs_semantics.specs.declared.parts.Link.{Link}
use Rattle.abs_semantics.specs.declared.parts.Known.{Known}
use Rattle.abs_semantics.specs.States.{AbsState, value_at, has_procedure, known_of, has_region, LinksAreCanonical}
use Rattle.abs_semantics.specs.Joins.{held_by, may_hold, joined_value, widened_value, with_number, numbers_of, same_link, offsets_of, link_before, with_link, links_of, widened_link, agreed, joined_align, put_known, with_known, known_anew, lesser, with_size, sizes_of, fact_of, same_fact, joined_state}
use Rattle.abs_semantics.specs.StandsFor.{world_of, IsLinked, IsSized, HoldsFact}
use Rattle.abs_semantics.specs.Laws.{JoinedStandsForFirst, JoinedStandsForSecond, WidenedStandsForNew, WidenedStandsForOld}
use Rattle.abs_semantics.proofs.CellLemmas.{rebuilt_value, value_canonical}
use Rattle.abs_semantics.proofs.BelowLemmas.{thing_has_region, same_fact_holds, same_fact-sym, same_linked, none_some, below_stands}

-- -- Cells

pub held_has : (lane : ℕ) (s : State) (n : ℕ) (c : Cell) (v : Values) → HasValue lane (world_of s) n v → HasValue lane (world_of s) n (held_by c v)
held_has lane s n c v m = cond_both (may_hold c v) v Top (HasValue lane (world_of s) n) (λ _. m) (λ _. tt)

not_both : (x y : Bool) → (x && not y) ≡ true → y ≡ true → ⊥
not_both x y e is = true≢false (sym is ∙ not-true y (and_parts x (not y) e).1)

module _ (P : Values → Type 0) (a b : AbsState) (c : Cell) where
  first_joined : has_region a c.region ≡ true → P (value_at a c) → P (held_by c (join (value_at a c) (value_at b c))) → P (joined_value a b c)
  first_joined has alone both =
      cond_both (has_region a c.region && not (has_region b c.region)) (value_at a c)
      (cond (has_region b c.region && not (has_region a c.region)) (value_at b c) (held_by c (join (value_at a c) (value_at b c)))) P
      (λ _. alone)
      (λ _. cond_both (has_region b c.region && not (has_region a c.region)) (value_at b c) (held_by c (join (value_at a c) (value_at b c))) P
      (λ other. absurd (not_both (has_region b c.region) (has_region a c.region) other has)) (λ _. both))

  second_joined : has_region b c.region ≡ true → P (value_at b c) → P (held_by c (join (value_at a c) (value_at b c))) → P (joined_value a b c)
  second_joined has alone both =
      cond_both (has_region a c.region && not (has_region b c.region)) (value_at a c)
      (cond (has_region b c.region && not (has_region a c.region)) (value_at b c) (held_by c (join (value_at a c) (value_at b c)))) P
      (λ other. absurd (not_both (has_region a c.region) (has_region b c.region) other has))
      (λ _. cond_both (has_region b c.region && not (has_region a c.region)) (value_at b c) (held_by c (join (value_at a c) (value_at b c))) P
      (λ _. alone) (λ _. both))

  new_widened : P (value_at b c) → P (held_by c (widen (value_at a c) (value_at b c))) → P (widened_value a b c)
  new_widened alone both = cond_both (has_region a c.region) (held_by c (widen (value_at a c) (value_at b c))) (value_at b c) P (λ _. both) (λ _. alone)

-- -- Procedures

module _ (p : ℕ) where
  number_keeps : (n : ℕ) (xs : List ℕ) → has_procedure p xs ≡ true → has_procedure p (with_number n xs) ≡ true
  number_keeps n [] has = absurd (false≢true has)
  number_keeps n (x ∷ xs) has =
      cond_both (x == n) (x ∷ xs) (cond (nat_lt x n) (x ∷ with_number n xs) (n ∷ x ∷ xs)) (λ ys. has_procedure p ys ≡ true)
      (λ _. has)
      (λ _. cond_both (nat_lt x n) (x ∷ with_number n xs) (n ∷ x ∷ xs) (λ ys. has_procedure p ys ≡ true)
      (λ _. by_cases (λ later. number_keeps n xs later) (or_cases (x == p) (has_procedure p xs) has))
      (λ _. or_right (n == p) (has_procedure p (x ∷ xs)) has))
    where
      by_cases : (has_procedure p xs ≡ true → has_procedure p (with_number n xs) ≡ true) → ((x == p) ≡ true) ⊎ (has_procedure p xs ≡ true) → has_procedure p (x ∷ with_number n xs) ≡ true
      by_cases rest (inl is) = or_left (x == p) (has_procedure p (with_number n xs)) is
      by_cases rest (inr later) = or_right (x == p) (has_procedure p (with_number n xs)) (rest later)

  number_has : (n : ℕ) (xs : List ℕ) → (n == p) ≡ true → has_procedure p (with_number n xs) ≡ true
  number_has n [] is = or_left (n == p) false is
  number_has n (x ∷ xs) is =
      cond_both (x == n) (x ∷ xs) (cond (nat_lt x n) (x ∷ with_number n xs) (n ∷ x ∷ xs)) (λ ys. has_procedure p ys ≡ true)
      (λ same. or_left (x == p) (has_procedure p xs) (eq-eqb x p (eqb-true x n same ∙ eqb-true n p is)))
      (λ _. cond_both (nat_lt x n) (x ∷ with_number n xs) (n ∷ x ∷ xs) (λ ys. has_procedure p ys ≡ true)
      (λ _. or_right (x == p) (has_procedure p (with_number n xs)) (number_has n xs is))
      (λ _. or_left (n == p) (has_procedure p (x ∷ xs)) is))

  numbers_keep : (xs ys : List ℕ) → has_procedure p ys ≡ true → has_procedure p (numbers_of xs ys) ≡ true
  unfolding numbers_of
  numbers_keep [] ys has = has
  numbers_keep (x ∷ xs) ys has = number_keeps x (numbers_of xs ys) (numbers_keep xs ys has)

  numbers_have : (xs ys : List ℕ) → has_procedure p xs ≡ true → has_procedure p (numbers_of xs ys) ≡ true
  unfolding numbers_of
  numbers_have [] ys has = absurd (false≢true has)
  numbers_have (x ∷ xs) ys has = by_cases (λ later. numbers_have xs ys later) (or_cases (x == p) (has_procedure p xs) has)
    where
      by_cases : (has_procedure p xs ≡ true → has_procedure p (numbers_of xs ys) ≡ true) → ((x == p) ≡ true) ⊎ (has_procedure p xs ≡ true) → has_procedure p (with_number x (numbers_of xs ys)) ≡ true
      by_cases rest (inl is) = number_has x (numbers_of xs ys) is
      by_cases rest (inr later) = number_keeps x (numbers_of xs ys) (rest later)

-- -- Links

module _ (child : ℕ) (aged : Bool) (parent : ℕ) (distance : ℤ) where
  abbrev Fits : Link → Type 0
  Fits l = (l.child ≡ child) × (l.aged ≡ aged) × (l.parent ≡ parent) × IsMember distance l.off

  link_keeps : (l : Link) (ms : List Link) → IsLinked ms child aged parent distance → IsLinked (with_link l ms) child aged parent distance
  link_keeps l [] is = absurd is
  link_keeps l (m ∷ ms) is =
      cond_both (same_link m l) (offsets_of Joined m l ∷ ms) (cond (link_before m l) (m ∷ with_link l ms) (l ∷ m ∷ ms)) (λ ls. IsLinked ls child aged parent distance)
      (λ _. merged is)
      (λ _. cond_both (link_before m l) (m ∷ with_link l ms) (l ∷ m ∷ ms) (λ ls. IsLinked ls child aged parent distance) (λ _. passed is (λ later. link_keeps l ms later)) (λ _. inr is))
    where
      merged : IsLinked (m ∷ ms) child aged parent distance → IsLinked (offsets_of Joined m l ∷ ms) child aged parent distance
      merged (inl h) = inl (h.0, h.1, h.2, member_join_left distance m.off l.off h.3)
      merged (inr later) = inr later

      passed : IsLinked (m ∷ ms) child aged parent distance → (IsLinked ms child aged parent distance → IsLinked (with_link l ms) child aged parent distance) → IsLinked (m ∷ with_link l ms) child aged parent distance
      passed (inl h) rest = inl h
      passed (inr later) rest = inr (rest later)

  link_has : (l : Link) (ms : List Link) → Fits l → IsLinked (with_link l ms) child aged parent distance
  link_has l [] h = inl h
  link_has l (m ∷ ms) h =
      cond_both (same_link m l) (offsets_of Joined m l ∷ ms) (cond (link_before m l) (m ∷ with_link l ms) (l ∷ m ∷ ms)) (λ ls. IsLinked ls child aged parent distance)
      (λ same. let key = same_linked child aged parent distance l m same (h.0, h.1, h.2) in inl (key.0, key.1, key.2, member_join_right distance m.off l.off h.3))
      (λ _. cond_both (link_before m l) (m ∷ with_link l ms) (l ∷ m ∷ ms) (λ ls. IsLinked ls child aged parent distance) (λ _. inr (link_has l ms h)) (λ _. inl h))

  links_keep : (ls ms : List Link) → IsLinked ms child aged parent distance → IsLinked (links_of ls ms) child aged parent distance
  unfolding links_of
  links_keep [] ms is = is
  links_keep (l ∷ ls) ms is = link_keeps l (links_of ls ms) (links_keep ls ms is)

  links_have : (ls ms : List Link) → IsLinked ls child aged parent distance → IsLinked (links_of ls ms) child aged parent distance
  unfolding links_of
  links_have [] ms is = absurd is
  links_have (l ∷ ls) ms (inl h) = link_has l (links_of ls ms) h
  links_have (l ∷ ls) ms (inr later) = link_keeps l (links_of ls ms) (links_have ls ms later)

  link_widens : (ms : List Link) (l : Link) → IsCanonical l.off → Fits l → Fits (widened_link ms l)
  link_widens [] l canonical h = h
  link_widens (m ∷ ms) l canonical h =
      cond_both (same_link m l) (offsets_of Widened m l) (widened_link ms l) (λ k. Fits k)
      (λ same. let key = same_linked child aged parent distance l m same (h.0, h.1, h.2) in (key.0, key.1, key.2, member_widen_new distance m.off l.off canonical h.3))
      (λ _. link_widens ms l canonical h)

  links_widen : (ms ls : List Link) → LinksAreCanonical ls → IsLinked ls child aged parent distance → IsLinked (map (widened_link ms) ls) child aged parent distance
  links_widen ms [] cs is = absurd is
  links_widen ms (l ∷ ls) cs (inl h) = inl (link_widens ms l cs.0 h)
  links_widen ms (l ∷ ls) cs (inr later) = inr (links_widen ms ls cs.1 later)

-- -- Alignments and sizes

module _ (P : Option ℕ → Type 0) (r : RegionId) where
  put_known_value : (k : Known) (ks : List Known) → P (known_of r ks) → (k.region ≡ r → P (Some k.number)) → P (known_of r (put_known k ks))
  put_known_value k [] before new = cond_both (same_region k.region r) (Some k.number) None P (λ same. new (same_region-equal k.region r same)) (λ _. before)
  put_known_value k (x ∷ xs) before new =
      cond_both (same_region x.region k.region) (k ∷ xs) (cond (region_before x.region k.region) (x ∷ put_known k xs) (k ∷ x ∷ xs)) (λ ks. P (known_of r ks))
      (λ same. cond_both (same_region k.region r) (Some k.number) (known_of r xs) P (λ is. new (same_region-equal k.region r is))
      (λ other. subst (λ t. P (cond t (Some x.number) (known_of r xs))) (ap (λ q. same_region q r) (same_region-equal x.region k.region same) ∙ other) before))
      (λ _. cond_both (region_before x.region k.region) (x ∷ put_known k xs) (k ∷ x ∷ xs) (λ ks. P (known_of r ks))
      (λ _. cond_both (same_region x.region r) (Some x.number) (known_of r (put_known k xs)) P
      (λ is. subst (λ t. P (cond t (Some x.number) (known_of r xs))) is before)
      (λ other. put_known_value k xs (subst (λ t. P (cond t (Some x.number) (known_of r xs))) other before) new))
      (λ _. cond_both (same_region k.region r) (Some k.number) (known_of r (x ∷ xs)) P (λ is. new (same_region-equal k.region r is)) (λ _. before)))

  known_anew_value : (f : RegionId → Option ℕ) (ks : List Known) → P None → P (f r) → P (known_of r (known_anew f ks))
  unfolding known_anew
  known_anew_value f [] none given = none
  known_anew_value f (k ∷ ks) none given = by_cases (f k.region) refl (known_anew_value f ks none given)
    where
      by_cases : (o : Option ℕ) → f k.region ≡ o → P (known_of r (known_anew f ks)) → P (known_of r (with_known k.region o (known_anew f ks)))
      by_cases None e rest = rest
      by_cases (Some n) e rest =
          put_known_value (record { region = k.region; number = n }) (known_anew f ks) rest
          (λ same. subst P (e) (subst (λ q. P (f q)) (sym same) given))

lesser_left : (m : ℕ) (o : Option ℕ) (given : ℕ) → m ≤ given → lesser m o ≤ given
lesser_left m None given le = le
lesser_left m (Some n) given le = cond_both (nat_le m n) m n (λ k. k ≤ given) (λ _. le) (λ more. let above : n < m = leb-false m n more in omega arith)

sized_at_most : (n given : ℕ) → IsSized (Some n) given → n ≤ given
sized_at_most n given size = subst (λ k. k ≤ given) (sym (same_Some n size.least size.known)) size.below

lesser_right : (m : ℕ) (o : Option ℕ) (given : ℕ) → IsSized o given → lesser m o ≤ given
lesser_right m None given size = absurd (none_some size.least size.known)
lesser_right m (Some n) given size =
    let small : n ≤ given = sized_at_most n given size in
    cond_both (nat_le m n) m n (λ k. k ≤ given) (λ less. let below : m ≤ n = leb-true m n less in omega arith) (λ _. small)

module _ (r : RegionId) where
  put_known_has : (P : Option ℕ → Type 0) (k : Known) (ks : List Known) → same_region k.region r ≡ true → P (Some k.number) → P (known_of r (put_known k ks))
  put_known_has P k [] is new = subst (λ t. P (cond t (Some k.number) None)) (sym is) new
  put_known_has P k (x ∷ xs) is new =
      cond_both (same_region x.region k.region) (k ∷ xs) (cond (region_before x.region k.region) (x ∷ put_known k xs) (k ∷ x ∷ xs)) (λ ks. P (known_of r ks))
      (λ _. subst (λ t. P (cond t (Some k.number) (known_of r xs))) (sym is) new)
      (λ other. cond_both (region_before x.region k.region) (x ∷ put_known k xs) (k ∷ x ∷ xs) (λ ks. P (known_of r ks))
      (λ _. subst (λ t. P (cond t (Some x.number) (known_of r (put_known k xs))))
      (sym (ap (λ q. same_region x.region q) (sym (same_region-equal k.region r is)) ∙ other)) (put_known_has P k xs is new))
      (λ _. subst (λ t. P (cond t (Some k.number) (known_of r (x ∷ xs)))) (sym is) new))

  size_keeps : (given : ℕ) (k : Known) (ks : List Known) → IsSized (known_of r ks) given → IsSized (known_of r (with_size k ks)) given
  size_keeps given k ks size =
      put_known_value (λ o. IsSized o given) r (record k { number = lesser k.number (known_of k.region ks) }) ks size
      (λ same. record {
        least = lesser k.number (known_of k.region ks);
        known = refl;
        below = lesser_right k.number (known_of k.region ks) given (subst (λ q. IsSized (known_of q ks) given) (sym same) size);
      })

  sizes_keep : (given : ℕ) (ks ls : List Known) → IsSized (known_of r ls) given → IsSized (known_of r (sizes_of ks ls)) given
  unfolding sizes_of
  sizes_keep given [] ls size = size
  sizes_keep given (k ∷ ks) ls size = size_keeps given k (sizes_of ks ls) (sizes_keep given ks ls size)

  size_has : (given : ℕ) (k : Known) (ks : List Known) → same_region k.region r ≡ true → k.number ≤ given → IsSized (known_of r (with_size k ks)) given
  size_has given k ks is le =
      put_known_has (λ o. IsSized o given) (record k { number = lesser k.number (known_of k.region ks) }) ks is
      (record { least = lesser k.number (known_of k.region ks); known = refl; below = lesser_left k.number (known_of k.region ks) given le })

  sizes_have : (given : ℕ) (ks ls : List Known) → IsSized (known_of r ks) given → IsSized (known_of r (sizes_of ks ls)) given
  unfolding sizes_of
  sizes_have given [] ls size = absurd (none_some size.least size.known)
  sizes_have given (k ∷ ks) ls size = by_cases (same_region k.region r) refl size (λ later. sizes_have given ks ls later)
    where
      by_cases : (t : Bool) → same_region k.region r ≡ t → IsSized (cond t (Some k.number) (known_of r ks)) given
          → (IsSized (known_of r ks) given → IsSized (known_of r (sizes_of ks ls)) given) → IsSized (known_of r (with_size k (sizes_of ks ls))) given
      by_cases true is here rest = size_has given k (sizes_of ks ls) is (sized_at_most k.number given here)
      by_cases false is here rest = size_keeps given k (sizes_of ks ls) (rest here)

pub agreed_left : (o p : Option ℕ) (n : ℕ) → agreed o p ≡ Some n → o ≡ Some n
agreed_left None p n e = absurd (none_some n e)
agreed_left (Some m) None n e = absurd (none_some n e)
agreed_left (Some m) (Some k) n e =
    cond_both (m == k) (Some m) None (λ o. o ≡ Some n → Some m ≡ Some n) (λ _. λ is. is) (λ _. λ is. absurd (none_some n is)) e

pub agreed_right : (o p : Option ℕ) (n : ℕ) → agreed o p ≡ Some n → p ≡ Some n
agreed_right None p n e = absurd (none_some n e)
agreed_right (Some m) None n e = absurd (none_some n e)
agreed_right (Some m) (Some k) n e =
    cond_both (m == k) (Some m) None (λ o. o ≡ Some n → Some k ≡ Some n) (λ same. λ is. ap (λ x. Some x) (sym (eqb-true m k same)) ∙ is) (λ _. λ is. absurd (none_some n is)) e

module _ (a b : AbsState) (r : RegionId) (n : ℕ) where
  first_align : has_region a r ≡ true → known_of r (joined_state a b).aligns ≡ Some n → known_of r a.aligns ≡ Some n
  first_align has =
      known_anew_value (λ o. o ≡ Some n → known_of r a.aligns ≡ Some n) r (joined_align a b) (a.aligns ++ b.aligns) (λ e. absurd (none_some n e))
      (cond_both (has_region a r && not (has_region b r)) (known_of r a.aligns)
      (cond (has_region b r && not (has_region a r)) (known_of r b.aligns) (agreed (known_of r a.aligns) (known_of r b.aligns))) (λ o. o ≡ Some n → known_of r a.aligns ≡ Some n)
      (λ _. λ is. is)
      (λ _. cond_both (has_region b r && not (has_region a r)) (known_of r b.aligns) (agreed (known_of r a.aligns) (known_of r b.aligns)) (λ o. o ≡ Some n → known_of r a.aligns ≡ Some n)
      (λ other. absurd (not_both (has_region b r) (has_region a r) other has)) (λ _. agreed_left (known_of r a.aligns) (known_of r b.aligns) n)))

  second_align : has_region b r ≡ true → known_of r (joined_state a b).aligns ≡ Some n → known_of r b.aligns ≡ Some n
  second_align has =
      known_anew_value (λ o. o ≡ Some n → known_of r b.aligns ≡ Some n) r (joined_align a b) (a.aligns ++ b.aligns) (λ e. absurd (none_some n e))
      (cond_both (has_region a r && not (has_region b r)) (known_of r a.aligns)
      (cond (has_region b r && not (has_region a r)) (known_of r b.aligns) (agreed (known_of r a.aligns) (known_of r b.aligns))) (λ o. o ≡ Some n → known_of r b.aligns ≡ Some n)
      (λ other. absurd (not_both (has_region a r) (has_region b r) other has))
      (λ _. cond_both (has_region b r && not (has_region a r)) (known_of r b.aligns) (agreed (known_of r a.aligns) (known_of r b.aligns)) (λ o. o ≡ Some n → known_of r b.aligns ≡ Some n)
      (λ _. λ is. is) (λ _. agreed_right (known_of r a.aligns) (known_of r b.aligns) n)))

-- -- The last comparison

module _ (lane : ℕ) (s : State) where
  fact_first : (f g : Option CmpFact) → HoldsFact lane s f → HoldsFact lane s (fact_of f g)
  fact_first None g h = tt
  fact_first (Some f) None h = tt
  fact_first (Some f) (Some g) h = cond_both (same_fact f g) (Some f) None (HoldsFact lane s) (λ _. h) (λ _. tt)

  fact_second : (f g : Option CmpFact) → HoldsFact lane s g → HoldsFact lane s (fact_of f g)
  fact_second None g h = tt
  fact_second (Some f) None h = tt
  fact_second (Some f) (Some g) h =
      cond_both (same_fact f g) (Some f) None (HoldsFact lane s) (λ same. same_fact_holds lane s g f (same_fact-sym lane s f g same) h) (λ _. tt)

-- -- States

pub first_stands : JoinedStandsForFirst
first_stands lane a b s ca cb h =
    record {
      registers = λ n lt. join_has_left lane (world_of s) (s.registers n) (a.registers n) (b.registers n) (ca.registers n) (cb.registers n) (h.registers n lt);
      flags = λ n lt. or_left (a.flags n (s.flags n)) (b.flags n (s.flags n)) (h.flags n lt);
      cells = λ t c at len bytes lies read.
          let has : has_region a c.region ≡ true = subst (λ r. has_region a r ≡ true) lies.region (thing_has_region lane a s h t lies.is_in) in
          let m = h.cells t c at len bytes lies read in
          rebuilt_value (HasValue lane (world_of s) (little_endian bytes)) c (joined_value a b) (a.cells ++ b.cells) tt
          (first_joined (HasValue lane (world_of s) (little_endian bytes)) a b c has m
          (held_has lane s (little_endian bytes) c (join (value_at a c) (value_at b c))
          (join_has_left lane (world_of s) (little_endian bytes) (value_at a c) (value_at b c) (value_canonical c a.cells ca.cells) (value_canonical c b.cells cb.cells) m)));
      root = h.root;
      live = λ newer older x split. numbers_keep x.callee b.live a.live (h.live newer older x split);
      older = λ newer older x split called. numbers_keep x.callee b.older a.older (h.older newer older x split called);
      links = λ newer older child parent split.
          links_keep child.callee (is_called child.callee newer) parent.callee (pos child.base -ℤ pos parent.base) b.links a.links (h.links newer older child parent split);
      aligns = λ t n is_in known. h.aligns t n is_in (first_align a b (region_of lane t) n (thing_has_region lane a s h t is_in) known);
      blocks = λ before later x is_in. sizes_keep (region_of lane (BlockAt before x later)) x.size b.blocks a.blocks (h.blocks before later x is_in);
      fact = fact_first lane s a.fact b.fact h.fact;
    }

pub second_stands : JoinedStandsForSecond
second_stands lane a b s ca cb roots h =
    record {
      registers = λ n lt. join_has_right lane (world_of s) (s.registers n) (a.registers n) (b.registers n) (ca.registers n) (cb.registers n) (h.registers n lt);
      flags = λ n lt. or_right (a.flags n (s.flags n)) (b.flags n (s.flags n)) (h.flags n lt);
      cells = λ t c at len bytes lies read.
          let has : has_region b c.region ≡ true = subst (λ r. has_region b r ≡ true) lies.region (thing_has_region lane b s h t lies.is_in) in
          let m = h.cells t c at len bytes lies read in
          rebuilt_value (HasValue lane (world_of s) (little_endian bytes)) c (joined_value a b) (a.cells ++ b.cells) tt
          (second_joined (HasValue lane (world_of s) (little_endian bytes)) a b c has m
          (held_has lane s (little_endian bytes) c (join (value_at a c) (value_at b c))
          (join_has_right lane (world_of s) (little_endian bytes) (value_at a c) (value_at b c) (value_canonical c a.cells ca.cells) (value_canonical c b.cells cb.cells) m)));
      root = λ newer oldest split. h.root newer oldest split ∙ sym roots;
      live = λ newer older x split. numbers_have x.callee b.live a.live (h.live newer older x split);
      older = λ newer older x split called. numbers_have x.callee b.older a.older (h.older newer older x split called);
      links = λ newer older child parent split.
          links_have child.callee (is_called child.callee newer) parent.callee (pos child.base -ℤ pos parent.base) b.links a.links (h.links newer older child parent split);
      aligns = λ t n is_in known. h.aligns t n is_in (second_align a b (region_of lane t) n (thing_has_region lane b s h t is_in) known);
      blocks = λ before later x is_in. sizes_have (region_of lane (BlockAt before x later)) x.size b.blocks a.blocks (h.blocks before later x is_in);
      fact = fact_second lane s a.fact b.fact h.fact;
    }

pub widened_stands : WidenedStandsForNew
widened_stands lane old new s co cn h =
    record {
      registers = λ n lt. widen_has_right lane (world_of s) (s.registers n) (old.registers n) (new.registers n) (co.registers n) (cn.registers n) (h.registers n lt);
      flags = h.flags;
      cells = λ t c at len bytes lies read.
          let m = h.cells t c at len bytes lies read in
          rebuilt_value (HasValue lane (world_of s) (little_endian bytes)) c (widened_value old new) (old.cells ++ new.cells) tt
          (new_widened (HasValue lane (world_of s) (little_endian bytes)) old new c m
          (held_has lane s (little_endian bytes) c (widen (value_at old c) (value_at new c))
          (widen_has_right lane (world_of s) (little_endian bytes) (value_at old c) (value_at new c) (value_canonical c old.cells co.cells) (value_canonical c new.cells cn.cells) m)));
      root = h.root;
      live = h.live;
      older = h.older;
      links = λ newer older child parent split.
          links_widen child.callee (is_called child.callee newer) parent.callee (pos child.base -ℤ pos parent.base) old.links new.links cn.links (h.links newer older child parent split);
      aligns = h.aligns;
      blocks = h.blocks;
      fact = h.fact;
    }

pub widened_stands_old : WidenedStandsForOld
widened_stands_old lane old new s co cn less h = widened_stands lane old new s co cn (below_stands lane old new s less h)

pub numbers_append : (xs ys into : List ℕ) → numbers_of (xs ++ ys) into ≡ numbers_of xs (numbers_of ys into)
unfolding numbers_of
numbers_append [] ys into = refl
numbers_append (x ∷ xs) ys into = ap (with_number x) (numbers_append xs ys into)
