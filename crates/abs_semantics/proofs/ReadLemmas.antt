-- What is read is a value that a read gives.
use Rattle.std.proofs.Common.{◌≡◌, ℕ, zero, suc, ◌+◌, ◌*◌, ◌/◌, ◌<◌, ◌≤◌, ◌⊎◌, inl, inr, ⊎_elim, Bool, true, false, cond, ◌&&◌, List, [], ◌∷◌, ◌++◌, Option, Some, None, refl, sym, ◌∙◌, ap, subst, arith, ℤ, pos, ◌+ℤ◌}
use Rattle.std.specs.Prelude.{◌≤ℤ◌, int_lt, nat_lt, find}
use Rattle.std.specs.Int.{int_gap}
use Rattle.std.specs.Ordering.{int_eq}
use Rattle.std.proofs.lemmas.Int.{ints}
use Rattle.std.proofs.lemmas.Bool.{cond_both, and_parts}
use Rattle.image_map.specs.declared.image.Image.{Image}
use Rattle.image_map.specs.declared.region.Cell.{Cell}
use Rattle.image_map.specs.declared.region.RegionId.{RegionId}
use Rattle.ia32_semantics.specs.State.{State, bytes_at, little_endian}
use Rattle.alocs.specs.Cells.{Division, cells_of, holds, cells_from, cells_in}
use Rattle.alocs.specs.Extents.{extents}
use Rattle.alocs.specs.declared.extents.Extent.{Extent}
use Rattle.strided.specs.Interval.{Interval, IsMember}
use Rattle.strided.specs.Operations.{count}
use Rattle.vset.specs.declared.part.Part.{Part}
use Rattle.vset.specs.Members.{HasValue}
use Rattle.vset.specs.Operations.{join, with_parts}
use Rattle.vset.specs.Values.{Values, Top, Parts, CanonicalValues}
use Rattle.vset.specs.World.{base_of}
use Rattle.vset.proofs.MemberLemmas.{join_has_left, join_has_right, with_canonical}
use Rattle.vset.specs.declared.part.Both.TheVariants.{Joined}
use Rattle.abs_alu.proofs.CanonicalLemmas.{settled_canonical}
use Rattle.std.proofs.Math.Nat.{le-div_iff_mul-le}
use Rattle.std.specs.Cmp.{signed_Decides}
use Rattle.strided.proofs.SpacedLemmas.{gap_is}
use Rattle.abs_semantics.specs.States.{AbsState, HasCanonical, value_at}
use Rattle.abs_semantics.specs.Joins.{has_length}
use Rattle.abs_semantics.specs.Resolve.{resolve}
use Rattle.abs_semantics.specs.Touching.{if_range, cell_at, with_cell, both_lists, offsets, members, cells_at, cells_of_parts}
use Rattle.abs_semantics.specs.Accesses.{has_no_reason, number_of_members, cells_of_few, cells_read, joined_onto, value_of_cells, read}
use Rattle.abs_semantics.specs.Ranges.{value_of_cell, place_in, lone_range, value_within, read_range}
use Rattle.abs_semantics.specs.StandsFor.{Owns, world_of}
use Rattle.abs_semantics.specs.Ownership.{IsKnown, IsRange, IsOwnedAt, IsOwnedAmong}
use Rattle.abs_semantics.specs.Laws.{ReadsAreMembers, RangeReadsAreMembers}
use Rattle.abs_semantics.proofs.CellLemmas.{value_canonical}
use Rattle.abs_semantics.proofs.LevelLemmas.{IsAmong, among_before, among_after}
use Rattle.abs_semantics.proofs.EntryLemmas.{one_owned, no_reason, lone_is}
use Rattle.abs_semantics.proofs.OwnerLemmas.{resolved_bytes}

-- -- The cell that a range is

cell_equal : (c e : Cell) → Some c ≡ Some e → c ≡ e
cell_equal c e h = cc

-- cells of one region
abbrev AreOf : RegionId → List Cell → Type 0
AreOf r [] = Unit {0}
AreOf r (c ∷ cs) = (c.region ≡ r) × AreOf r cs

from_region : (r : RegionId) (start : ℤ) (cuts : List ℤ) (end : ℤ) → AreOf r (cells_from r start cuts end)
from_region r start [] end = (refl, tt)
from_region r start (cut ∷ cuts) end =
    cond_both (int_lt start cut && int_lt cut end) (record { region = r; start = start; end = cut } ∷ cells_from r cut cuts end) (cells_from r start cuts end) (AreOf r)
    (λ _. (refl, from_region r cut cuts end)) (λ _. from_region r start cuts end)

both_of : (r : RegionId) (cs ds : List Cell) → AreOf r cs → AreOf r ds → AreOf r (cs ++ ds)
both_of r [] ds of rest = rest
both_of r (c ∷ cs) ds of rest = (of.0, both_of r cs ds of.1 rest)

pub in_region : (r : RegionId) (xs : List Extent) (cuts : List ℤ) → AreOf r (cells_in r xs cuts)
in_region r [] cuts = tt
in_region r (x ∷ xs) cuts = both_of r (cells_from r x.start cuts x.end) (cells_in r xs cuts) (from_region r x.start cuts x.end) (in_region r xs cuts)

found_of : (r : RegionId) (test : Cell → Bool) (cs : List Cell) (c : Cell) → AreOf r cs → find test cs ≡ Some c → c.region ≡ r
found_of r test [] c of e = absurd (cc)
found_of r test (d ∷ ds) c of e = by_test (found_of r test ds c of.1) (test d) e
  where
    by_test : (find test ds ≡ Some c → c.region ≡ r) → (t : Bool) → cond t (Some d) (find test ds) ≡ Some c → c.region ≡ r
    by_test rest true e = ap (λ (x : Cell). x.region) (sym (cell_equal d c e)) ∙ of.0
    by_test rest false e = rest e

-- what the cell of a range is
pub record IsCellAt (r : RegionId) (offset : ℤ) (len : ℕ) (c : Cell) : Type 0 where
  pub region : c.region ≡ r
  pub start : c.start ≡ offset
  pub end : c.end ≡ c.start +ℤ pos len

pub cell_at_is : (d : Division) (r : RegionId) (offset : ℤ) (len : ℕ) (c : Cell) → cell_at d r offset len ≡ Some c → IsCellAt r offset len c
cell_at_is d r offset len c e = by_found (find (holds offset) (cells_of d r)) refl e
  where
    by_found : (o : Option Cell) → find (holds offset) (cells_of d r) ≡ o → if_range offset len o ≡ Some c → IsCellAt r offset len c
    by_found None is e = absurd (cc)
    by_found (Some f) is e = by_test (int_eq f.start offset && has_length len f) refl e
      where
        by_test : (t : Bool) → (int_eq f.start offset && has_length len f) ≡ t → cond t (Some f) None ≡ Some c → IsCellAt r offset len c
        by_test true test e =
            let same : f ≡ c = cell_equal f c e in
            let both = and_parts (int_eq f.start offset) (has_length len f) test in
            subst (IsCellAt r offset len) same
            (record { region = found_of r (holds offset) (cells_of d r) f (in_region r (extents d.image r) _) is; start = (signed_Decides f.start offset).0 both.0; end = (signed_Decides f.end (f.start +ℤ pos len)).0 both.1 })
        by_test false test e = absurd (cc)

-- -- Members

-- a member is one of those that are counted
among_offsets : (n stride : ℕ) (from : ℤ) (o : ℤ) (turns : ℕ) → turns < n → o ≡ from +ℤ pos (turns * stride) → IsAmong o (offsets n stride from)
among_offsets zero stride from o turns lt reached = absurd (omega arith)
among_offsets (suc n) stride from o zero lt reached = inl (let e : from ≡ o = omega (arith, ints) in e)
among_offsets (suc n) stride from o (suc turns) lt reached =
    inr (among_offsets n stride (from +ℤ pos stride) o turns (omega arith) (let more : suc turns * stride ≡ stride + turns * stride = omega arith in let e : o ≡ (from +ℤ pos stride) +ℤ pos (turns * stride) = omega (arith, ints) in e))

pub member_among : (o : ℤ) (si : Interval) → IsMember o si → IsAmong o (members si)
unfolding count
member_among o si m = by_stride si.stride refl
  where
    from : m.turns < int_gap si.lo si.hi / si.stride + 1 → IsAmong o (members si)
    from lt = among_offsets (int_gap si.lo si.hi / si.stride + 1) si.stride si.lo o m.turns lt m.reached

    by_stride : (stride : ℕ) → si.stride ≡ stride → IsAmong o (members si)
    by_stride zero none =
        let still : m.turns * si.stride ≡ 0 = ap (λ n. m.turns * n) none ∙ (let e : m.turns * 0 ≡ 0 = omega arith in e) in
        let reached : o ≡ si.lo +ℤ pos (m.turns * si.stride) = m.reached in
        among_offsets (int_gap si.lo si.hi / si.stride + 1) si.stride si.lo o 0 (omega arith) (let e : o ≡ si.lo +ℤ pos (0 * si.stride) = omega (arith, ints) in e)
    by_stride (suc t) is =
        let some : 0 < si.stride = omega arith in
        let reached : o ≡ si.lo +ℤ pos (m.turns * si.stride) = m.reached in
        let top : o ≤ℤ si.hi = m.in_range in
        let gap : si.hi ≡ si.lo +ℤ pos (int_gap si.lo si.hi) = gap_is si.lo si.hi (omega (arith, ints)) in
        let room : m.turns * si.stride ≤ int_gap si.lo si.hi = omega (arith, ints) in
        let few : m.turns ≤ int_gap si.lo si.hi / si.stride = (le-div_iff_mul-le some).1 room in
        from (omega arith)

-- -- Cells that are read

pub one_of_cells : (d : Division) (len : ℕ) (r : RegionId) (os : List ℤ) (cs : List Cell) (o : ℤ) → cells_at d len r os ≡ Some cs → IsAmong o os → (c : Cell) × IsAmong c cs × (cell_at d r o len ≡ Some c)
unfolding cells_at
one_of_cells d len r [] cs o e among = absurd among
one_of_cells d len r (x ∷ xs) cs o e among = by_parts (λ ds e' later. one_of_cells d len r xs ds o e' later) (cell_at d r x len) refl (cells_at d len r xs) refl e among
  where
    lists : (f g : List Cell) → Some f ≡ Some g → f ≡ g
    lists f g h = cc

    by_parts : ((ds : List Cell) → cells_at d len r xs ≡ Some ds → IsAmong o xs → (c : Cell) × IsAmong c ds × (cell_at d r o len ≡ Some c)) → (f : Option Cell) → cell_at d r x len ≡ f → (g : Option (List Cell)) → cells_at d len r xs ≡ g
        → with_cell f g ≡ Some cs → (x ≡ o) ⊎ IsAmong o xs → (c : Cell) × IsAmong c cs × (cell_at d r o len ≡ Some c)
    by_parts rest None f_is g g_is e among = absurd (cc)
    by_parts rest (Some c) f_is None g_is e among = absurd (cc)
    by_parts rest (Some c) f_is (Some ds) g_is e (inl here) =
        (c, subst (IsAmong c) (lists (c ∷ ds) cs e) (inl refl), subst (λ z. cell_at d r z len ≡ Some c) here f_is)
    by_parts rest (Some c) f_is (Some ds) g_is e (inr later) =
        let found = rest ds g_is later in
        (found.0, subst (IsAmong found.0) (lists (c ∷ ds) cs e) (inr found.1), found.2)

pub cell_of_parts : (d : Division) (len : ℕ) (xs : List Part) (cs : List Cell) (x : Part) (o : ℤ) → cells_of_parts d len xs ≡ Some cs → IsAmong x xs → IsMember o x.si → (c : Cell) × IsAmong c cs × (cell_at d x.region o len ≡ Some c)
unfolding cells_of_parts
cell_of_parts d len [] cs x o e among member = absurd among
cell_of_parts d len (y ∷ ys) cs x o e among member =
    by_parts (λ ds e' later. cell_of_parts d len ys ds x o e' later member) (cells_at d len y.region (members y.si)) refl (cells_of_parts d len ys) refl e among
  where
    lists : (f g : List Cell) → Some f ≡ Some g → f ≡ g
    lists f g h = cc

    by_parts : ((ds : List Cell) → cells_of_parts d len ys ≡ Some ds → IsAmong x ys → (c : Cell) × IsAmong c ds × (cell_at d x.region o len ≡ Some c)) → (f : Option (List Cell)) → cells_at d len y.region (members y.si) ≡ f
        → (g : Option (List Cell)) → cells_of_parts d len ys ≡ g → both_lists f g ≡ Some cs → (y ≡ x) ⊎ IsAmong x ys → (c : Cell) × IsAmong c cs × (cell_at d x.region o len ≡ Some c)
    by_parts rest None f_is g g_is e among = absurd (cc)
    by_parts rest (Some ds) f_is None g_is e among = absurd (cc)
    by_parts rest (Some ds) f_is (Some more) g_is e (inl here) =
        let mine = subst (λ (z : Part). cells_at d len z.region (members z.si) ≡ Some ds) here f_is in
        let found = one_of_cells d len x.region (members x.si) ds o mine (member_among o x.si member) in
        (found.0, subst (IsAmong found.0) (lists (ds ++ more) cs e) (among_before found.0 ds more found.1), found.2)
    by_parts rest (Some ds) f_is (Some more) g_is e (inr later) =
        let found = rest more g_is later in
        (found.0, subst (IsAmong found.0) (lists (ds ++ more) cs e) (among_after found.0 ds more found.1), found.2)

-- -- Joins of cells' values

pub join_form : (v w : Values) → CanonicalValues v → CanonicalValues w → CanonicalValues (join v w)
unfolding join
join_form Top w form_v form_w = tt
join_form (Parts xs) Top form_v form_w = tt
join_form (Parts xs) (Parts ys) form_v form_w = settled_canonical (with_parts Joined ys xs) (with_canonical Joined ys xs form_w form_v)

module _ (lane : ℕ) (a : AbsState) (s : State) (form : HasCanonical a) (n : ℕ) where
  canonical : (c : Cell) → CanonicalValues (value_at a c)
  canonical c = value_canonical c a.cells form.cells

  kept : (into : Values) (cs : List Cell) → CanonicalValues into → HasValue lane (world_of s) n into → HasValue lane (world_of s) n (joined_onto a into cs)
  kept into [] form_in m = m
  kept into (c ∷ cs) form_in m = kept (join into (value_at a c)) cs (join_form into (value_at a c) form_in (canonical c)) (join_has_left lane (world_of s) n into (value_at a c) form_in (canonical c) m)

  pub joined_has : (into : Values) (cs : List Cell) (c : Cell) → CanonicalValues into → IsAmong c cs → HasValue lane (world_of s) n (value_at a c) → HasValue lane (world_of s) n (joined_onto a into cs)
  joined_has into [] c form_in among m = absurd among
  joined_has into (x ∷ xs) c form_in (inl here) m =
      kept (join into (value_at a x)) xs (join_form into (value_at a x) form_in (canonical x))
      (join_has_right lane (world_of s) n into (value_at a x) form_in (canonical x) (subst (λ e. HasValue lane (world_of s) n (value_at a e)) (sym here) m))
  joined_has into (x ∷ xs) c form_in (inr later) m = joined_has (join into (value_at a x)) xs c (join_form into (value_at a x) form_in (canonical x)) later m

-- -- A cell that is some of a range's bytes

module _ (image : Image) (lane : ℕ) (a : AbsState) (p : ℕ) (s : State) (known : IsKnown image lane a p s) (at len : ℕ) where
  -- so many bytes, at a distance from the start of a range that one thing has
  pub cell_has : (x : Part) (owned : IsOwnedAt lane s at len x) (distance count : ℕ) (bytes : List ℕ) (c : Cell) → distance + count ≤ len → IsCellAt x.region (owned.offset +ℤ pos distance) count c → bytes_at s.memory (at + distance) count ≡ Some bytes
      → HasValue lane (world_of s) (little_endian bytes) (value_at a c)
  cell_has x owned distance count bytes c within is read =
      known.stands.cells owned.thing c (at + distance) count bytes
      (record {
        is_in = owned.is_in;
        region = owned.region ∙ sym is.region;
        lies = record {
          start = (let r : pos at ≡ pos (base_of owned.thing) +ℤ owned.offset = owned.reached in let b : c.start ≡ owned.offset +ℤ pos distance = is.start in let e : pos (at + distance) ≡ pos (base_of owned.thing) +ℤ c.start = omega (arith, ints) in e);
          end = is.end;
          owned = λ k lt. subst (Owns s owned.thing) (let e : at + (distance + k) ≡ at + distance + k = omega arith in e) (owned.owned (distance + k) (omega arith));
        };
      })
      read

  module _ (d : Division) (v : Values) (range : IsRange lane s v at len len) where
    pub read_has : HasCanonical a → (bytes : List ℕ) → bytes_at s.memory at len ≡ Some bytes → HasValue lane (world_of s) (little_endian bytes) (read a d p v len)
    unfolding read cells_read
    read_has form bytes is = by_reasons (has_no_reason (resolve a p v len).reasons) refl
      where
        of_cells : (o : Option (List Cell)) → cells_of_parts d len (resolve a p v len).entries ≡ o → (resolve a p v len).reasons ≡ [] → HasValue lane (world_of s) (little_endian bytes) (value_of_cells a o)
        of_cells None e quiet = tt
        of_cells (Some cs) e quiet =
            let one = one_owned lane s at len (resolve a p v len).entries (resolved_bytes image lane a p s v at len len known range quiet) in
            let x = one.2 in
            let found = cell_of_parts d len (resolve a p v len).entries cs one.0 x.offset e one.1 x.within in
            let at_cell = cell_at_is d one.0.region x.offset len found.0 found.2 in
            joined_has lane a s form (little_endian bytes) (Parts []) cs found.0 tt found.1
            (cell_has one.0 x 0 len bytes found.0 (omega arith)
            (record { region = at_cell.region; start = at_cell.start ∙ (let e : x.offset ≡ x.offset +ℤ pos 0 = omega (arith, ints) in e); end = at_cell.end })
            (subst (λ n. bytes_at s.memory n len ≡ Some bytes) (let e : at ≡ at + 0 = omega arith in e) is))

        by_reasons : (t : Bool) → has_no_reason (resolve a p v len).reasons ≡ t → HasValue lane (world_of s) (little_endian bytes) (value_of_cells a (cells_of_few d len (cond t (Some (resolve a p v len).entries) None)))
        by_reasons true quiet =
            cond_both (nat_lt 64 (number_of_members (resolve a p v len).entries)) None (cells_of_parts d len (resolve a p v len).entries) (λ o. HasValue lane (world_of s) (little_endian bytes) (value_of_cells a o))
            (λ many. tt) (λ few. of_cells (cells_of_parts d len (resolve a p v len).entries) refl (no_reason (resolve a p v len).reasons quiet))
        by_reasons false warned = tt

    -- the place of a range that is one alone
    pub lone_owned : (x : Part) → lone_range a p v len ≡ Some x → (owned : IsOwnedAt lane s at len x) × (owned.offset ≡ x.si.lo)
    lone_owned x is = by_reasons (has_no_reason (resolve a p v len).reasons) refl is
      where
        at_lo : (owned : IsOwnedAt lane s at len x) → x.si.stride ≡ 0 → owned.offset ≡ x.si.lo
        at_lo owned single =
            let reached : owned.offset ≡ x.si.lo +ℤ pos (owned.within.turns * x.si.stride) = owned.within.reached in
            let none : owned.within.turns * x.si.stride ≡ 0 = ap (λ n. owned.within.turns * n) single ∙ (let e : owned.within.turns * 0 ≡ 0 = omega arith in e) in
            omega (arith, ints)

        by_reasons : (t : Bool) → has_no_reason (resolve a p v len).reasons ≡ t → place_in (cond t (Some (resolve a p v len).entries) None) ≡ Some x → (owned : IsOwnedAt lane s at len x) × (owned.offset ≡ x.si.lo)
        by_reasons true quiet is =
            let lone = lone_is (resolve a p v len).entries x is in
            let owned = ⊎_elim (λ here. here) (λ none. absurd none) (subst (IsOwnedAmong lane s at len) lone.0 (resolved_bytes image lane a p s v at len len known range (no_reason (resolve a p v len).reasons quiet))) in
            (owned, at_lo owned lone.1)
        by_reasons false warned is = absurd (cc)

    pub read_range_has : (distance count : ℕ) (bytes : List ℕ) → distance + count ≤ len → bytes_at s.memory (at + distance) count ≡ Some bytes → HasValue lane (world_of s) (little_endian bytes) (read_range a d p v len distance count)
    unfolding read_range
    read_range_has distance count bytes within is = by_place (lone_range a p v len) refl
      where
        by_cell : (x : Part) (owned : IsOwnedAt lane s at len x) → owned.offset ≡ x.si.lo → (o : Option Cell) → cell_at d x.region (x.si.lo +ℤ pos distance) count ≡ o → HasValue lane (world_of s) (little_endian bytes) (value_of_cell a o)
        by_cell x owned lo None e = tt
        by_cell x owned lo (Some c) e =
            let at_cell = cell_at_is d x.region (x.si.lo +ℤ pos distance) count c e in
            cell_has x owned distance count bytes c within
            (record { region = at_cell.region; start = at_cell.start ∙ ap (λ z. z +ℤ pos distance) (sym lo); end = at_cell.end }) is

        by_place : (o : Option Part) → lone_range a p v len ≡ o → HasValue lane (world_of s) (little_endian bytes) (value_within a d distance count o)
        by_place None e = tt
        by_place (Some x) e = let one = lone_owned x e in by_cell x one.0 one.1 (cell_at d x.region (x.si.lo +ℤ pos distance) count) refl

pub reads_are_members : ReadsAreMembers
reads_are_members image lane a p s d v at len bytes known form range is = read_has image lane a p s known at len d v range form bytes is

pub range_reads_are_members : RangeReadsAreMembers
range_reads_are_members image lane a p s d v at len distance count bytes known range within is = read_range_has image lane a p s known at len d v range distance count bytes within is
