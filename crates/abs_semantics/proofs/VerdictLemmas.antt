-- What holds of an interval that resolving an address doesn't refuse.
use Rattle.std.proofs.Common.{◌≡◌, ℕ, ◌==◌, ◌⊎◌, inl, inr, Bool, true, false, cond, ◌&&◌, ◌||◌, not, refl, sym, ◌∙◌, subst, pos, negsuc}
use Rattle.std.specs.Prelude.{◌≤ℤ◌, int_le, int_lt, nat_lt}
use Rattle.std.proofs.lemmas.Bool.{and_parts, or_cases, or_parts, false≢true, true≢false}
use Rattle.image_map.specs.declared.region.RegionId.{RegionId}
use Rattle.strided.specs.Interval.{Interval, greatest}
use Rattle.alocs.proofs.CellLemmas.{int_lt_false}
use Rattle.strided.proofs.MemberLemmas.{int_le_true}
use Rattle.abs_semantics.specs.declared.parts.Reason.{Reason}
use Rattle.abs_semantics.specs.declared.parts.Reason.TheVariants.{UnknownWrite, OutOfRegion, HeapOverrun}
use Rattle.abs_semantics.specs.States.{AbsState, known_of}
use Rattle.abs_semantics.specs.Resolve.{Verdict, Refuses, Stays, Follows, end_of, links_from, is_empty, is_below_callee, most_links, refused_or, global_verdict, parent_verdict, frame_verdict, size_or_none, block_verdict}

abbrev pub Passes : Verdict → Type 0
Passes (Refuses r) = ⊥
Passes Stays = Unit {0}
Passes (Follows as_well) = Unit {0}

-- what isn't refused passed the test, and the rest decides
pub not_refused : (t : Bool) (r : Reason) (v : Verdict) → Passes (refused_or t r v) → (t ≡ false) × Passes v
not_refused true r v p = absurd p
not_refused false r v p = (refl, p)

pub refused_is : (t : Bool) (r : Reason) (v : Verdict) → t ≡ false → refused_or t r v ≡ v
refused_is true r v e = absurd (true≢false e)
refused_is false r v e = refl

-- -- Numbers and blocks

pub record NumberFacts (len : ℕ) (si : Interval) : Type 0 where
  pub below : end_of si len ≤ℤ greatest
  pub outside : (negsuc 1073741823 ≤ℤ si.lo) ⊎ (end_of si len ≤ℤ negsuc 1879048191)
  pub stays : global_verdict len si ≡ Stays

pub number_facts : (len : ℕ) (si : Interval) → Passes (global_verdict len si) → NumberFacts len si
number_facts len si p =
    let tests = (not_refused (int_lt greatest (end_of si len) || (int_lt si.lo (negsuc 1073741823) && int_lt (negsuc 1879048191) (end_of si len))) UnknownWrite Stays p).0 in
    let both = or_parts (int_lt greatest (end_of si len)) (int_lt si.lo (negsuc 1073741823) && int_lt (negsuc 1879048191) (end_of si len)) tests in
    record {
      below = int_lt_false greatest (end_of si len) both.0;
      outside = either (int_lt si.lo (negsuc 1073741823)) refl both.1;
      stays = refused_is (int_lt greatest (end_of si len) || (int_lt si.lo (negsuc 1073741823) && int_lt (negsuc 1879048191) (end_of si len))) UnknownWrite Stays tests;
    }
  where
    either : (t : Bool) → int_lt si.lo (negsuc 1073741823) ≡ t → (t && int_lt (negsuc 1879048191) (end_of si len)) ≡ false → (negsuc 1073741823 ≤ℤ si.lo) ⊎ (end_of si len ≤ℤ negsuc 1879048191)
    either true is e = inr (int_lt_false (negsuc 1879048191) (end_of si len) e)
    either false is e = inl (int_lt_false si.lo (negsuc 1073741823) is)

pub record BlockFacts (a : AbsState) (len : ℕ) (r : RegionId) (si : Interval) : Type 0 where
  pub low : pos 0 ≤ℤ si.lo
  pub high : end_of si len ≤ℤ pos (size_or_none (known_of r a.blocks))
  pub stays : block_verdict a len r si ≡ Stays

pub block_facts : (a : AbsState) (len : ℕ) (r : RegionId) (si : Interval) → Passes (block_verdict a len r si) → BlockFacts a len r si
block_facts a len r si p =
    let tests = (not_refused (int_lt si.lo (pos 0) || int_lt (pos (size_or_none (known_of r a.blocks))) (end_of si len)) HeapOverrun Stays p).0 in
    let both = or_parts (int_lt si.lo (pos 0)) (int_lt (pos (size_or_none (known_of r a.blocks))) (end_of si len)) tests in
    record {
      low = int_lt_false si.lo (pos 0) both.0;
      high = int_lt_false (pos (size_or_none (known_of r a.blocks))) (end_of si len) both.1;
      stays = refused_is (int_lt si.lo (pos 0) || int_lt (pos (size_or_none (known_of r a.blocks))) (end_of si len)) HeapOverrun Stays tests;
    }

-- -- Frames

-- the range is the activation's own, or it is followed
pub data Way (a : AbsState) (len followed q : ℕ) (aged : Bool) (si : Interval) (v : Verdict) : Type 0 where
  StaysBelow : v ≡ Stays → end_of si len ≤ℤ pos 4 → Way a len followed q aged si v
  StaysOldest : v ≡ Stays → is_empty (links_from a q aged) ≡ true → Way a len followed q aged si v
  Leads : v ≡ Follows (q == a.root) → pos 4 ≤ℤ si.lo → nat_lt (most_links a) followed ≡ false → Way a len followed q aged si v

pub record FrameFacts (a : AbsState) (p len followed q : ℕ) (aged : Bool) (si : Interval) : Type 0 where
  pub low : negsuc 1048575 ≤ℤ si.lo
  pub high : end_of si len ≤ℤ pos 65536
  pub above : (aged || not (q == p)) ≡ true → is_below_callee a q si ≡ false
  pub way : Way a len followed q aged si (frame_verdict a p len followed q aged si)

and_false : (x y : Bool) → (x && y) ≡ false → x ≡ true → y ≡ false
and_false true y e is = e
and_false false y e is = absurd (false≢true is)

module _ (a : AbsState) (p len followed q : ℕ) (aged : Bool) (si : Interval) where
  abbrev range_test : Bool
  range_test = int_lt si.lo (negsuc 1048575) || int_lt (pos 65536) (end_of si len)

  abbrev callee_test : Bool
  callee_test = (aged || not (q == p)) && is_below_callee a q si

  abbrev own_test : Bool
  own_test = int_le (end_of si len) (pos 4) || (is_empty (links_from a q aged) && q == a.root)

  abbrev parent_test : Bool
  parent_test = int_lt si.lo (pos 4) || (is_empty (links_from a q aged) || nat_lt (most_links a) followed)

  abbrev own_or_parent : Verdict
  own_or_parent = cond own_test Stays (parent_verdict a followed q aged si)

  lead : Passes (parent_verdict a followed q aged si) → Way a len followed q aged si (parent_verdict a followed q aged si)
  lead passes =
      let tests = (not_refused parent_test OutOfRegion (Follows (q == a.root)) passes).0 in
      let outer = or_parts (int_lt si.lo (pos 4)) (is_empty (links_from a q aged) || nat_lt (most_links a) followed) tests in
      let inner = or_parts (is_empty (links_from a q aged)) (nat_lt (most_links a) followed) outer.1 in
      Leads (refused_is parent_test OutOfRegion (Follows (q == a.root)) tests) (int_lt_false si.lo (pos 4) outer.0) inner.1

  own : (t : Bool) → own_test ≡ t → Passes (cond t Stays (parent_verdict a followed q aged si)) → Way a len followed q aged si (cond t Stays (parent_verdict a followed q aged si))
  own true is passes = by_cases (or_cases (int_le (end_of si len) (pos 4)) (is_empty (links_from a q aged) && q == a.root) is)
    where
      by_cases : (int_le (end_of si len) (pos 4) ≡ true) ⊎ ((is_empty (links_from a q aged) && q == a.root) ≡ true) → Way a len followed q aged si Stays
      by_cases (inl below) = StaysBelow refl (int_le_true (end_of si len) (pos 4) below)
      by_cases (inr oldest) = StaysOldest refl (and_parts (is_empty (links_from a q aged)) (q == a.root) oldest).0
  own false is passes = lead passes

  pub frame_facts : Passes (frame_verdict a p len followed q aged si) → FrameFacts a p len followed q aged si
  frame_facts passes =
      let outer = not_refused range_test OutOfRegion (refused_or callee_test OutOfRegion own_or_parent) passes in
      let inner = not_refused callee_test OutOfRegion own_or_parent outer.1 in
      let ends = or_parts (int_lt si.lo (negsuc 1048575)) (int_lt (pos 65536) (end_of si len)) outer.0 in
      let is : frame_verdict a p len followed q aged si ≡ own_or_parent =
      refused_is range_test OutOfRegion (refused_or callee_test OutOfRegion own_or_parent) outer.0 ∙ refused_is callee_test OutOfRegion own_or_parent inner.0 in
      record {
        low = int_lt_false si.lo (negsuc 1048575) ends.0;
        high = int_lt_false (pos 65536) (end_of si len) ends.1;
        above = λ other. and_false (aged || not (q == p)) (is_below_callee a q si) inner.0 other;
        way = subst (λ v. Way a len followed q aged si v) (sym is) (own own_test refl inner.1);
      }
