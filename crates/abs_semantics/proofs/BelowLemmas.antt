-- What lies below an abstract state stands for no more.
use Rattle.std.proofs.Common.{◌≡◌, ℕ, zero, suc, ◌<◌, ◌≤◌, ◌==◌, ◌⊎◌, inl, inr, Bool, true, false, cond, ◌&&◌, List, [], ◌∷◌, Option, Some, None, refl, sym, ◌∙◌, ap, subst, arith, ℤ}
use Rattle.std.specs.Prelude.{is_some, pos, ◌-ℤ◌}
use Rattle.std.specs.List.{list_all}
use Rattle.std.proofs.lemmas.Bool.{cond_both, and_parts, and_from, or_cases, eqb-true, eq-eqb, leb-true, false≢true}
use Rattle.std.proofs.lemmas.Option.{same_Some}
use Rattle.image_map.specs.declared.region.Cell.{Cell}
use Rattle.image_map.specs.declared.region.RegionId.{RegionId}
use Rattle.image_map.specs.declared.region.RegionId.TheVariants.{Frame, OldFrame, Heap, OldHeap}
use Rattle.image_map.specs.Regions.{same_region, same_cell}
use Rattle.image_map.proofs.OrderLaws.{same_region-equal, same_cell-equal}
use Rattle.ia32_semantics.specs.State.{State, little_endian}
use Rattle.ia32_types.specs.Numbers.{reg_number}
use Rattle.strided.specs.Interval.{IsMember}
use Rattle.strided.specs.Operations as interval
use Rattle.vset.specs.declared.facts.CmpFact.{CmpFact}
use Rattle.vset.specs.declared.facts.CmpPlace.{CmpPlace}
use Rattle.vset.specs.declared.facts.CmpPlace.TheVariants as place
use Rattle.vset.specs.Operations as values
use Rattle.vset.specs.Operations.{same_interval}
use Rattle.vset.specs.World.{World, Thing, TheImage, ActivationAt, BlockAt, IsIn, region_of, is_called, key_of, has_key}
use Rattle.vset.specs.Members.{HasValue}
use Rattle.abs_semantics.proofs.LessLemmas.{less_members, less_has}
use Rattle.abs_cmp.specs.Facts.{IsCompared}
use Rattle.vset.proofs.SameLemmas.{same_interval-equal}
use Rattle.abs_semantics.specs.declared.parts.CellValue.{CellValue}
use Rattle.abs_semantics.specs.declared.parts.Link.{Link}
use Rattle.abs_semantics.specs.declared.parts.Known.{Known}
use Rattle.abs_semantics.specs.States.{AbsState, value_in, value_at, has_procedure, known_of, has_region}
use Rattle.abs_semantics.specs.Joins.{same_flag, same_link, same_place, same_fact}
use Rattle.abs_semantics.specs.Below.{register_numbers, flag_numbers, implies, is_flag_below, is_cell_below, is_link_below, is_at_most, is_size_below, is_number, is_align_below, is_fact_below}
use Rattle.abs_semantics.specs.StandsFor.{StandsFor, world_of, IsLinked, IsSized, IsTrueAt, IsComparedIn, HoldsFact, flags_of}
use Rattle.abs_semantics.specs.Laws.{BelowStandsForNoMore}
use Rattle.abs_semantics.proofs.CellLemmas.{head_value}

-- -- Tests

pub none_some : (n : ℕ) → None ≡ Some n → ⊥
none_some n e = absurd (cc)

pub implied : (x y : Bool) → implies x y ≡ true → x ≡ true → y ≡ true
implied true y e is = e
implied false y e is = absurd (false≢true is)

register_at : (test : ℕ → Bool) (n : ℕ) → list_all test register_numbers ≡ true → n < 8 → test n ≡ true
register_at test n e lt =
    let at0 = and_parts (test 0) (list_all test (1 ∷ 2 ∷ 3 ∷ 4 ∷ 5 ∷ 6 ∷ 7 ∷ [])) e in
    let at1 = and_parts (test 1) (list_all test (2 ∷ 3 ∷ 4 ∷ 5 ∷ 6 ∷ 7 ∷ [])) at0.1 in
    let at2 = and_parts (test 2) (list_all test (3 ∷ 4 ∷ 5 ∷ 6 ∷ 7 ∷ [])) at1.1 in
    let at3 = and_parts (test 3) (list_all test (4 ∷ 5 ∷ 6 ∷ 7 ∷ [])) at2.1 in
    let at4 = and_parts (test 4) (list_all test (5 ∷ 6 ∷ 7 ∷ [])) at3.1 in
    let at5 = and_parts (test 5) (list_all test (6 ∷ 7 ∷ [])) at4.1 in
    let at6 = and_parts (test 6) (list_all test (7 ∷ [])) at5.1 in
    let at7 = and_parts (test 7) true at6.1 in
    by_number n at0.0 at1.0 at2.0 at3.0 at4.0 at5.0 at6.0 at7.0 lt
  where
    by_number : (k : ℕ) → test 0 ≡ true → test 1 ≡ true → test 2 ≡ true → test 3 ≡ true → test 4 ≡ true → test 5 ≡ true → test 6 ≡ true → test 7 ≡ true → k < 8 → test k ≡ true
    by_number zero a b c d e f g h lt = a
    by_number (suc zero) a b c d e f g h lt = b
    by_number (suc (suc zero)) a b c d e f g h lt = c
    by_number (suc (suc (suc zero))) a b c d e f g h lt = d
    by_number (suc (suc (suc (suc zero)))) a b c d e f g h lt = e
    by_number (suc (suc (suc (suc (suc zero))))) a b c d e f g h lt = f
    by_number (suc (suc (suc (suc (suc (suc zero)))))) a b c d e f g h lt = g
    by_number (suc (suc (suc (suc (suc (suc (suc zero))))))) a b c d e f g h lt = h
    by_number (suc (suc (suc (suc (suc (suc (suc (suc n)))))))) a b c d e f g h lt = absurd (omega arith)

flag_at : (test : ℕ → Bool) (n : ℕ) → list_all test flag_numbers ≡ true → n < 6 → test n ≡ true
flag_at test n e lt =
    let at0 = and_parts (test 0) (list_all test (1 ∷ 2 ∷ 3 ∷ 4 ∷ 5 ∷ [])) e in
    let at1 = and_parts (test 1) (list_all test (2 ∷ 3 ∷ 4 ∷ 5 ∷ [])) at0.1 in
    let at2 = and_parts (test 2) (list_all test (3 ∷ 4 ∷ 5 ∷ [])) at1.1 in
    let at3 = and_parts (test 3) (list_all test (4 ∷ 5 ∷ [])) at2.1 in
    let at4 = and_parts (test 4) (list_all test (5 ∷ [])) at3.1 in
    let at5 = and_parts (test 5) true at4.1 in
    by_number n at0.0 at1.0 at2.0 at3.0 at4.0 at5.0 lt
  where
    by_number : (k : ℕ) → test 0 ≡ true → test 1 ≡ true → test 2 ≡ true → test 3 ≡ true → test 4 ≡ true → test 5 ≡ true → k < 6 → test k ≡ true
    by_number zero a b c d e f lt = a
    by_number (suc zero) a b c d e f lt = b
    by_number (suc (suc zero)) a b c d e f lt = c
    by_number (suc (suc (suc zero))) a b c d e f lt = d
    by_number (suc (suc (suc (suc zero)))) a b c d e f lt = e
    by_number (suc (suc (suc (suc (suc zero))))) a b c d e f lt = f
    by_number (suc (suc (suc (suc (suc (suc n)))))) a b c d e f lt = absurd (omega arith)

pub same_flag-equal : (x y : Bool) → same_flag x y ≡ true → x ≡ y
same_flag-equal true true e = refl
same_flag-equal true false e = sym e
same_flag-equal false true e = e
same_flag-equal false false e = refl

-- -- Regions

module _ (lane : ℕ) (a : AbsState) (s : State) (h : StandsFor lane a s) where
  -- the state has the region of each thing
  pub thing_has_region : (t : Thing) → IsIn (world_of s) t → has_region a (region_of lane t) ≡ true
  thing_has_region TheImage is_in = refl
  thing_has_region (ActivationAt newer x older) is_in =
      cond_both (is_called x.callee newer) (OldFrame x.callee) (Frame x.callee) (λ r. has_region a r ≡ true)
      (λ called. h.older newer older x is_in called) (λ _. h.live newer older x is_in)
  thing_has_region (BlockAt before x later) is_in = sized (h.blocks before later x is_in)
    where
      sized : IsSized (known_of (region_of lane (BlockAt before x later)) a.blocks) x.size → has_region a (region_of lane (BlockAt before x later)) ≡ true
      sized size =
          cond_both (has_key lane (key_of lane x) later) (OldHeap (key_of lane x)) (Heap (key_of lane x)) (λ r. known_of r a.blocks ≡ Some size.least → has_region a r ≡ true)
          (λ _. λ known. ap is_some known) (λ _. λ known. ap is_some known) size.known

-- -- Cells

cell_below : (lane : ℕ) (w : World) (n : ℕ) (a : AbsState) (c : Cell) (es : List CellValue)
    → has_region a c.region ≡ true → list_all (is_cell_below a) es ≡ true
    → HasValue lane w n (value_at a c) → HasValue lane w n (value_in c es)
cell_below lane w n a c [] has e m = tt
cell_below lane w n a c (x ∷ xs) has e m =
    let both = and_parts (is_cell_below a x) (list_all (is_cell_below a) xs) e in
    head_value (HasValue lane w n) c x xs
    (λ same. let is = same_cell-equal x.cell c same in
    less_has lane w n (value_at a c) x.value
    (implied (has_region a c.region) (values.below (value_at a c) x.value)
    (subst (λ d. implies (has_region a d.region) (values.below (value_at a d) x.value) ≡ true) is both.0) has) m)
    (λ _. cell_below lane w n a c xs has both.1 m)

-- -- Procedures

procedure_below : (test : ℕ → Bool) (p : ℕ) (ps : List ℕ) → list_all test ps ≡ true → has_procedure p ps ≡ true → test p ≡ true
procedure_below test p [] e has = absurd (false≢true has)
procedure_below test p (q ∷ qs) e has =
    let both = and_parts (test q) (list_all test qs) e in
    by_cases both.0 (λ later. procedure_below test p qs both.1 later) (or_cases (q == p) (has_procedure p qs) has)
  where
    by_cases : test q ≡ true → (has_procedure p qs ≡ true → test p ≡ true) → ((q == p) ≡ true) ⊎ (has_procedure p qs ≡ true) → test p ≡ true
    by_cases here rest (inl is) = subst (λ x. test x ≡ true) (eqb-true q p is) here
    by_cases here rest (inr later) = rest later

-- -- Links

module _ (child : ℕ) (aged : Bool) (parent : ℕ) (distance : ℤ) where
  pub same_linked : (l m : Link) → same_link m l ≡ true → ((l.child ≡ child) × (l.aged ≡ aged) × (l.parent ≡ parent)) → ((m.child ≡ child) × (m.aged ≡ aged) × (m.parent ≡ parent))
  same_linked l m same is =
      let outer = and_parts (m.child == l.child) (same_flag m.aged l.aged && m.parent == l.parent) same in
      let inner = and_parts (same_flag m.aged l.aged) (m.parent == l.parent) outer.1 in
      (eqb-true m.child l.child outer.0 ∙ is.0, same_flag-equal m.aged l.aged inner.0 ∙ is.1, eqb-true m.parent l.parent inner.1 ∙ is.2)

  one_below : (l : Link) (ms : List Link) → ((v : ℤ) → IsMember v l.off → (m : Link) → interval.below l.off m.off ≡ true → IsMember v m.off)
      → is_link_below ms l ≡ true → (l.child ≡ child) × (l.aged ≡ aged) × (l.parent ≡ parent) → IsMember distance l.off → IsLinked ms child aged parent distance
  one_below l [] carry e is within = absurd (false≢true e)
  one_below l (m ∷ ms) carry e is within =
      by_cases (λ later. one_below l ms carry later is within) (or_cases (same_link m l && interval.below l.off m.off) (is_link_below ms l) e)
    where
      by_cases : (is_link_below ms l ≡ true → IsLinked ms child aged parent distance) → ((same_link m l && interval.below l.off m.off) ≡ true) ⊎ (is_link_below ms l ≡ true) → IsLinked (m ∷ ms) child aged parent distance
      by_cases rest (inl here) =
          let both = and_parts (same_link m l) (interval.below l.off m.off) here in
          let key = same_linked l m both.0 is in
          inl (key.0, key.1, key.2, carry distance within m both.1)
      by_cases rest (inr later) = inr (rest later)

  links_below : (ls ms : List Link) → list_all (is_link_below ms) ls ≡ true → IsLinked ls child aged parent distance → IsLinked ms child aged parent distance
  links_below [] ms e is = absurd is
  links_below (l ∷ ls) ms e (inl here) =
      one_below l ms (λ v within m less. less_members l.off m.off less v within) (and_parts (is_link_below ms l) (list_all (is_link_below ms) ls) e).0
      (here.0, here.1, here.2) here.3
  links_below (l ∷ ls) ms e (inr later) = links_below ls ms (and_parts (is_link_below ms l) (list_all (is_link_below ms) ls) e).1 later

-- -- Sizes and alignments

module _ (r : RegionId) (n : ℕ) where
  pub first_known : (k : Known) (ks : List Known) (P : Type 0) → known_of r (k ∷ ks) ≡ Some n → (k.region ≡ r → k.number ≡ n → P) → (known_of r ks ≡ Some n → P) → P
  first_known k ks P known here later = by_cases (same_region k.region r) refl known
    where
      by_cases : (t : Bool) → same_region k.region r ≡ t → cond t (Some k.number) (known_of r ks) ≡ Some n → P
      by_cases true same is = here (same_region-equal k.region r same) (same_Some k.number n is)
      by_cases false other is = later is

  at_most_sized : (o : Option ℕ) (given : ℕ) → is_at_most o n ≡ true → n ≤ given → IsSized o given
  at_most_sized None given e le = absurd (false≢true e)
  at_most_sized (Some m) given e le = let less : m ≤ n = leb-true m n e in record { least = m; known = refl; below = omega arith }

  size_below : (given : ℕ) (ks ls : List Known) → list_all (is_size_below ls) ks ≡ true → known_of r ks ≡ Some n → n ≤ given → IsSized (known_of r ls) given
  size_below given [] ls e known le = absurd (none_some n known)
  size_below given (k ∷ ks) ls e known le =
      let both = and_parts (is_size_below ls k) (list_all (is_size_below ls) ks) e in
      first_known k ks (IsSized (known_of r ls) given) known
      (λ region number. at_most_sized (known_of r ls) given
      (subst (λ m. is_at_most (known_of r ls) m ≡ true) number (subst (λ q. is_at_most (known_of q ls) k.number ≡ true) region both.0)) le)
      (λ later. size_below given ks ls both.1 later le)

  is_number-equal : (o : Option ℕ) → is_number o n ≡ true → o ≡ Some n
  is_number-equal None e = absurd (false≢true e)
  is_number-equal (Some m) e = ap (λ k. Some k) (eqb-true m n e)

  align_below : (a : AbsState) (ks : List Known) → list_all (is_align_below a) ks ≡ true → has_region a r ≡ true → known_of r ks ≡ Some n → known_of r a.aligns ≡ Some n
  align_below a [] e has known = absurd (none_some n known)
  align_below a (k ∷ ks) e has known =
      let both = and_parts (is_align_below a k) (list_all (is_align_below a) ks) e in
      first_known k ks (known_of r a.aligns ≡ Some n) known
      (λ region number. is_number-equal (known_of r a.aligns)
      (implied (has_region a r) (is_number (known_of r a.aligns) n)
      (subst (λ m. implies (has_region a r) (is_number (known_of r a.aligns) m) ≡ true) number
      (subst (λ q. implies (has_region a q) (is_number (known_of q a.aligns) k.number) ≡ true) region both.0)) has))
      (λ later. align_below a ks both.1 has later)

-- -- The last comparison

same_place-sym : (p q : CmpPlace) → same_place p q ≡ true → same_place q p ≡ true
same_place-sym (place.Reg r) (place.Reg q) same = eq-eqb (reg_number q) (reg_number r) (sym (eqb-true (reg_number r) (reg_number q) same))
same_place-sym (place.Cell c) (place.Cell d) same =
    let equal : c ≡ d = same_cell-equal c d same in
    subst (λ e. same_cell e c ≡ true) equal (subst (λ e. same_cell c e ≡ true) (sym equal) same)
same_place-sym (place.Reg r) (place.Cell d) same = absurd (false≢true same)
same_place-sym (place.Cell c) (place.Reg q) same = absurd (false≢true same)

module _ (lane : ℕ) (s : State) where
  place_below : (f g : CmpFact) (p q : CmpPlace) → same_place p q ≡ true → f.bound ≡ g.bound → IsTrueAt lane s f p → IsTrueAt lane s g q
  place_below f g (place.Reg r) (place.Reg q) same bound h =
      subst (λ n. IsCompared g.bound (s.registers n) (flags_of s)) (eqb-true (reg_number r) (reg_number q) same) (subst (λ b. IsCompared b (s.registers (reg_number r)) (flags_of s)) bound h)
  place_below f g (place.Cell c) (place.Cell d) same bound h =
      subst (λ e. IsComparedIn lane s e g) (same_cell-equal c d same)
      (record { thing = h.thing; at = h.at; of_thing = h.of_thing; word = h.word; is_word = h.is_word; compared = subst (λ b. IsCompared b h.word (flags_of s)) bound h.compared })
  place_below f g (place.Reg r) (place.Cell d) same bound h = absurd (false≢true same)
  place_below f g (place.Cell c) (place.Reg q) same bound h = absurd (false≢true same)

  pub same_fact_holds : (f g : CmpFact) → same_fact f g ≡ true → IsTrueAt lane s f f.place → IsTrueAt lane s g g.place
  same_fact_holds f g same h =
      let both = and_parts (same_place f.place g.place) (same_interval f.bound g.bound) same in
      place_below f g f.place g.place both.0 (same_interval-equal f.bound g.bound both.1) h

  pub same_fact-sym : (f g : CmpFact) → same_fact f g ≡ true → same_fact g f ≡ true
  same_fact-sym f g same =
      let both = and_parts (same_place f.place g.place) (same_interval f.bound g.bound) same in
      let bound : f.bound ≡ g.bound = same_interval-equal f.bound g.bound both.1 in
      and_from (same_place g.place f.place) (same_interval g.bound f.bound) (same_place-sym f.place g.place both.0)
      (subst (λ i. same_interval i f.bound ≡ true) bound (subst (λ i. same_interval f.bound i ≡ true) (sym bound) both.1))

  fact_below : (f g : Option CmpFact) → is_fact_below f g ≡ true → HoldsFact lane s f → HoldsFact lane s g
  fact_below f None e h = tt
  fact_below None (Some g) e h = absurd (false≢true e)
  fact_below (Some f) (Some g) e h = same_fact_holds f g e h

-- -- States

pub below_stands : BelowStandsForNoMore
below_stands lane a b s e h =
    let e0 = and_parts (a.root == b.root) _ e in
    let e1 = and_parts (list_all (λ n. values.below (a.registers n) (b.registers n)) register_numbers) _ e0.1 in
    let e2 = and_parts (list_all (is_flag_below a b) flag_numbers) _ e1.1 in
    let e3 = and_parts (list_all (is_cell_below a) b.cells) _ e2.1 in
    let e4 = and_parts (list_all (λ p. has_procedure p b.live) a.live) _ e3.1 in
    let e5 = and_parts (list_all (λ p. has_procedure p b.older) a.older) _ e4.1 in
    let e6 = and_parts (list_all (is_link_below b.links) a.links) _ e5.1 in
    let e7 = and_parts (list_all (is_size_below b.blocks) a.blocks) _ e6.1 in
    let e8 = and_parts (list_all (is_align_below a) b.aligns) _ e7.1 in
    record {
      registers = λ n lt. less_has lane (world_of s) (s.registers n) (a.registers n) (b.registers n)
          (register_at (λ k. values.below (a.registers k) (b.registers k)) n e1.0 lt) (h.registers n lt);
      flags = λ n lt. flag_is n (s.flags n) (flag_at (is_flag_below a b) n e2.0 lt) (h.flags n lt);
      cells = λ t c at len bytes lies read.
          cell_below lane (world_of s) (little_endian bytes) a c b.cells (subst (λ r. has_region a r ≡ true) lies.region (thing_has_region lane a s h t lies.is_in))
          e3.0 (h.cells t c at len bytes lies read);
      root = λ newer oldest split. h.root newer oldest split ∙ eqb-true a.root b.root e0.0;
      live = λ newer older x split. procedure_below (λ p. has_procedure p b.live) x.callee a.live e4.0 (h.live newer older x split);
      older = λ newer older x split called. procedure_below (λ p. has_procedure p b.older) x.callee a.older e5.0 (h.older newer older x split called);
      links = λ newer older child parent split.
          links_below child.callee (is_called child.callee newer) parent.callee (pos child.base -ℤ pos parent.base) a.links b.links e6.0 (h.links newer older child parent split);
      aligns = λ t n is_in known. h.aligns t n is_in (align_below (region_of lane t) n a b.aligns e8.0 (thing_has_region lane a s h t is_in) known);
      blocks = λ before later x is_in.
          let size = h.blocks before later x is_in in
          size_below (region_of lane (BlockAt before x later)) size.least x.size a.blocks b.blocks e7.0 size.known size.below;
      fact = fact_below lane s a.fact b.fact e8.1 h.fact;
    }
  where
    flag_is : (n : ℕ) (t : Bool) → is_flag_below a b n ≡ true → a.flags n t ≡ true → b.flags n t ≡ true
    flag_is n true less is = implied (a.flags n true) (b.flags n true) (and_parts (implies (a.flags n true) (b.flags n true)) (implies (a.flags n false) (b.flags n false)) less).0 is
    flag_is n false less is = implied (a.flags n false) (b.flags n false) (and_parts (implies (a.flags n true) (b.flags n true)) (implies (a.flags n false) (b.flags n false)) less).1 is
