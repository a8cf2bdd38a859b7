-- States that are the same by a test are seen the same.
use Rattle.std.proofs.Common.{◌≡◌, ℕ, zero, suc, ◌<◌, ◌≤◌, ◌==◌, Bool, true, false, cond, ◌&&◌, List, [], ◌∷◌, length, refl, sym, ◌∙◌, ap, subst, arith}
use Rattle.std.specs.Prelude.{◌↔◌, nat_lt, Option, Some, None, IsTrue}
use Rattle.std.specs.List.{list_all}
use Rattle.std.proofs.lemmas.Bool.{and_parts, and_from, eqb-true, eq-eqb, le-ltb}
use Rattle.ia32_types.specs.declared.Reg.{Reg}
use Rattle.ia32_types.specs.Numbers.{reg_number, reg_of, flag_of}
use Rattle.ia32_types.specs.Sets.{has_flag}
use Rattle.ia32_types.proofs.NumberLemmas.{reg_of_number}
use Rattle.image_map.specs.Regions.{same_cell}
use Rattle.image_map.proofs.OrderLaws.{same_cell-equal, same_cell-itself}
use Rattle.vset.specs.declared.facts.AbsFlags.{AbsFlags}
use Rattle.vset.specs.declared.facts.CmpFact.{CmpFact}
use Rattle.vset.specs.declared.facts.CmpPlace.{CmpPlace}
use Rattle.vset.specs.declared.facts.CmpPlace.TheVariants as place
use Rattle.vset.specs.Operations.{same_interval}
use Rattle.vset.specs.Values.{Values}
use Rattle.abs_semantics.specs.declared.parts.CellValue.{CellValue}
use Rattle.abs_semantics.specs.States.{AbsState as State}
use Rattle.abs_semantics.specs.Joins.{same_flag, same_place, same_fact}
use Rattle.abs_semantics.specs.Below.{flag_numbers}
use Rattle.abs_semantics.proofs.BelowLemmas.{same_flag-equal}
use Rattle.cell_map.specs.Lists.{same_lists, same_whole, same_known}
use Rattle.vset.proofs.SameLemmas.{same_interval-equal, same_interval-itself}
use Rattle.cell_map.proofs.SameLemmas.{same_lists-equal, same_lists-itself, same_whole-equal, same_whole-itself, same_known-equal, same_known-itself, same_flag-itself}
use Rattle.abs_state.specs.declared.state.AbsState.{AbsState}
use Rattle.abs_state.specs.Registers.{register_in}
use Rattle.abs_state.specs.Same.{same_flag_of, same_facts, same_numbers, same_lists_of, same_but_values}
use Rattle.abs_state.specs.Views.{flag_in, seen}
use Rattle.abs_state.proofs.RegisterLemmas.{same_registers}

-- -- Flags

flag_beyond : (f : AbsFlags) (n : ℕ) (t : Bool) → 6 ≤ n → flag_in f n t ≡ true
flag_beyond f n true le = ap (λ b. cond b (has_flag f.one (flag_of n)) true) (le-ltb n 6 le)
flag_beyond f n false le = ap (λ b. cond b (has_flag f.zero (flag_of n)) true) (le-ltb n 6 le)

module _ (f g : AbsFlags) where
  one_flag : (n : ℕ) (t : Bool) → same_flag_of f g n ≡ true → flag_in f n t ≡ flag_in g n t
  one_flag n true e = same_flag-equal (flag_in f n true) (flag_in g n true) (and_parts (same_flag (flag_in f n true) (flag_in g n true)) (same_flag (flag_in f n false) (flag_in g n false)) e).0
  one_flag n false e = same_flag-equal (flag_in f n false) (flag_in g n false) (and_parts (same_flag (flag_in f n true) (flag_in g n true)) (same_flag (flag_in f n false) (flag_in g n false)) e).1

  head : (n : ℕ) (ns : List ℕ) → list_all (same_flag_of f g) (n ∷ ns) ≡ true → (same_flag_of f g n ≡ true) × (list_all (same_flag_of f g) ns ≡ true)
  head n ns e = and_parts (same_flag_of f g n) (list_all (same_flag_of f g) ns) e

  flag_equal : (n : ℕ) (t : Bool) → ((k : ℕ) → k < 6 → same_flag_of f g k ≡ true) → flag_in f n t ≡ flag_in g n t
  flag_equal zero t h = one_flag 0 t (h 0 (omega arith))
  flag_equal (suc zero) t h = one_flag 1 t (h 1 (omega arith))
  flag_equal (suc (suc zero)) t h = one_flag 2 t (h 2 (omega arith))
  flag_equal (suc (suc (suc zero))) t h = one_flag 3 t (h 3 (omega arith))
  flag_equal (suc (suc (suc (suc zero)))) t h = one_flag 4 t (h 4 (omega arith))
  flag_equal (suc (suc (suc (suc (suc zero))))) t h = one_flag 5 t (h 5 (omega arith))
  flag_equal (suc (suc (suc (suc (suc (suc n)))))) t h =
      flag_beyond f (suc (suc (suc (suc (suc (suc n)))))) t (omega arith) ∙ sym (flag_beyond g (suc (suc (suc (suc (suc (suc n)))))) t (omega arith))

  each_flag : list_all (same_flag_of f g) flag_numbers ≡ true → (k : ℕ) → k < 6 → same_flag_of f g k ≡ true
  each_flag e zero lt = (head 0 (1 ∷ 2 ∷ 3 ∷ 4 ∷ 5 ∷ []) e).0
  each_flag e (suc zero) lt = (head 1 (2 ∷ 3 ∷ 4 ∷ 5 ∷ []) (head 0 (1 ∷ 2 ∷ 3 ∷ 4 ∷ 5 ∷ []) e).1).0
  each_flag e (suc (suc zero)) lt = (head 2 (3 ∷ 4 ∷ 5 ∷ []) (head 1 (2 ∷ 3 ∷ 4 ∷ 5 ∷ []) (head 0 (1 ∷ 2 ∷ 3 ∷ 4 ∷ 5 ∷ []) e).1).1).0
  each_flag e (suc (suc (suc zero))) lt = (head 3 (4 ∷ 5 ∷ []) (head 2 (3 ∷ 4 ∷ 5 ∷ []) (head 1 (2 ∷ 3 ∷ 4 ∷ 5 ∷ []) (head 0 (1 ∷ 2 ∷ 3 ∷ 4 ∷ 5 ∷ []) e).1).1).1).0
  each_flag e (suc (suc (suc (suc zero)))) lt = (head 4 (5 ∷ []) (head 3 (4 ∷ 5 ∷ []) (head 2 (3 ∷ 4 ∷ 5 ∷ []) (head 1 (2 ∷ 3 ∷ 4 ∷ 5 ∷ []) (head 0 (1 ∷ 2 ∷ 3 ∷ 4 ∷ 5 ∷ []) e).1).1).1).1).0
  each_flag e (suc (suc (suc (suc (suc zero))))) lt =
      (head 5 [] (head 4 (5 ∷ []) (head 3 (4 ∷ 5 ∷ []) (head 2 (3 ∷ 4 ∷ 5 ∷ []) (head 1 (2 ∷ 3 ∷ 4 ∷ 5 ∷ []) (head 0 (1 ∷ 2 ∷ 3 ∷ 4 ∷ 5 ∷ []) e).1).1).1).1).1).0
  each_flag e (suc (suc (suc (suc (suc (suc k)))))) lt = absurd (omega (arith, lt))

  pub flags_equal : list_all (same_flag_of f g) flag_numbers ≡ true → flag_in f ≡ flag_in g
  flags_equal e = λ i n t. flag_equal n t (each_flag e) i

  flag_same : (n : ℕ) → flag_in f ≡ flag_in g → same_flag_of f g n ≡ true
  flag_same n e =
      and_from _ _ (subst (λ h. same_flag (flag_in f n true) (h n true) ≡ true) e (same_flag-itself (flag_in f n true))) (subst (λ h. same_flag (flag_in f n false) (h n false) ≡ true) e (same_flag-itself (flag_in f n false)))

  all_flags_same : (ns : List ℕ) → flag_in f ≡ flag_in g → list_all (same_flag_of f g) ns ≡ true
  all_flags_same [] e = refl
  all_flags_same (n ∷ ns) e = and_from _ _ (flag_same n e) (all_flags_same ns e)

-- -- Facts

reg_equal : (r q : Reg) → reg_number r ≡ reg_number q → r ≡ q
reg_equal r q e = sym (reg_of_number r) ∙ ap reg_of e ∙ reg_of_number q

place_equal : (p q : CmpPlace) → same_place p q ≡ true → p ≡ q
place_equal (place.Reg r) (place.Reg q) e = ap (λ x. place.Reg x) (reg_equal r q (eqb-true (reg_number r) (reg_number q) e))
place_equal (place.Cell c) (place.Cell d) e = ap (λ x. place.Cell x) (same_cell-equal c d e)
place_equal (place.Reg r) (place.Cell d) e = absurd (cc e)
place_equal (place.Cell c) (place.Reg q) e = absurd (cc e)

place_itself : (p : CmpPlace) → same_place p p ≡ true
place_itself (place.Reg r) = eq-eqb (reg_number r) (reg_number r) refl
place_itself (place.Cell c) = same_cell-itself c

fact_equal : (f g : CmpFact) → same_fact f g ≡ true → f ≡ g
fact_equal f g e =
    let both = and_parts (same_place f.place g.place) (same_interval f.bound g.bound) e in
    let place = place_equal f.place g.place both.0 in
    let bound = same_interval-equal f.bound g.bound both.1 in
    λ i. record { place = place i; bound = bound i }

pub facts_equal : (f g : Option CmpFact) → same_facts f g ≡ true → f ≡ g
facts_equal None None e = refl
facts_equal None (Some g) e = absurd (cc e)
facts_equal (Some f) None e = absurd (cc e)
facts_equal (Some f) (Some g) e = ap (λ x. Some x) (fact_equal f g e)

pub facts_itself : (f : Option CmpFact) → same_facts f f ≡ true
facts_itself None = refl
facts_itself (Some f) = and_from _ _ (place_itself f.place) (same_interval-itself f.bound)

-- -- States

module _ (a b : AbsState) where
  pub seen_equal : same_but_values a b ≡ true → register_in a.registers ≡ register_in b.registers → a.cells ≡ b.cells → seen a ≡ seen b
  seen_equal e registers cells =
      let p = and_parts (a.root == b.root) (list_all (same_flag_of a.flags b.flags) flag_numbers && (same_facts a.fact b.fact && same_lists_of a b)) e in
      let q = and_parts (list_all (same_flag_of a.flags b.flags) flag_numbers) (same_facts a.fact b.fact && same_lists_of a b) p.1 in
      let r = and_parts (same_facts a.fact b.fact) (same_lists_of a b) q.1 in
      let s = and_parts (same_lists same_numbers a.live b.live) (same_lists same_numbers a.older b.older && (same_lists same_whole a.links b.links && (same_lists same_known a.aligns b.aligns && same_lists same_known a.blocks b.blocks))) r.1 in
      let t = and_parts (same_lists same_numbers a.older b.older) (same_lists same_whole a.links b.links && (same_lists same_known a.aligns b.aligns && same_lists same_known a.blocks b.blocks)) s.1 in
      let u = and_parts (same_lists same_whole a.links b.links) (same_lists same_known a.aligns b.aligns && same_lists same_known a.blocks b.blocks) t.1 in
      let v = and_parts (same_lists same_known a.aligns b.aligns) (same_lists same_known a.blocks b.blocks) u.1 in
      let flags = flags_equal a.flags b.flags q.0 in
      let live = same_lists-equal same_numbers (λ m n. eqb-true m n) a.live b.live s.0 in
      let older = same_lists-equal same_numbers (λ m n. eqb-true m n) a.older b.older t.0 in
      let links = same_lists-equal same_whole same_whole-equal a.links b.links u.0 in
      let aligns = same_lists-equal same_known same_known-equal a.aligns b.aligns v.0 in
      let blocks = same_lists-equal same_known same_known-equal a.blocks b.blocks v.1 in
      let fact = facts_equal a.fact b.fact r.0 in
      let root = eqb-true a.root b.root p.0 in
      λ i. record {
        registers = registers i;
        flags = flags i;
        cells = cells i;
        live = live i;
        older = older i;
        links = links i;
        aligns = aligns i;
        blocks = blocks i;
        fact = fact i;
        root = root i;
      }

  number_itself : (n : ℕ) → same_numbers n n ≡ true
  number_itself n = eq-eqb n n refl

  pub equal_seen : seen a ≡ seen b → same_but_values a b ≡ true
  equal_seen e =
      and_from _ _ (eq-eqb a.root b.root (ap (λ (s : State). s.root) e))
      (and_from _ _ (all_flags_same a.flags b.flags flag_numbers (ap (λ (s : State). s.flags) e))
      (and_from _ _ (subst (λ (s : State). same_facts a.fact s.fact ≡ true) e (facts_itself a.fact))
      (and_from _ _ (subst (λ (s : State). same_lists same_numbers a.live s.live ≡ true) e (same_lists-itself same_numbers number_itself a.live))
      (and_from _ _ (subst (λ (s : State). same_lists same_numbers a.older s.older ≡ true) e (same_lists-itself same_numbers number_itself a.older))
      (and_from _ _ (subst (λ (s : State). same_lists same_whole a.links s.links ≡ true) e (same_lists-itself same_whole same_whole-itself a.links))
      (and_from _ _ (subst (λ (s : State). same_lists same_known a.aligns s.aligns ≡ true) e (same_lists-itself same_known same_known-itself a.aligns))
      (subst (λ (s : State). same_lists same_known a.blocks s.blocks ≡ true) e (same_lists-itself same_known same_known-itself a.blocks))))))))
