-- What is read of several cells.
use Rattle.std.proofs.Common.{◌≡◌, ℕ, zero, suc, ◌+◌, ◌<◌, ◌≤◌, Bool, true, false, cond, not, List, [], ◌∷◌, ◌++◌, length, drop, get_or, append_assoc, append-nil, refl, sym, ◌∙◌, ap, subst, arith}
use Rattle.std.specs.Prelude.{ℤ, pos, ◌+ℤ◌, ◌*◌, ◌-◌, Option, Some, None, sum_by, nat_lt}
use Rattle.std.proofs.lemmas.Int.{ints}
use Rattle.std.proofs.lemmas.List.{drop_all}
use Rattle.std.proofs.lemmas.List.Sums.{sum_by-cons}
use Rattle.std.proofs.lemmas.Bool.{le-ltb, lt-ltb}
use Rattle.image_map.specs.declared.region.Cell.{Cell}
use Rattle.image_map.specs.declared.region.RegionId.{RegionId}
use Rattle.alocs.specs.Cells.{Division}
use Rattle.strided.specs.Interval.{Interval, member_after}
use Rattle.strided.specs.Operations.{count}
use Rattle.vset.specs.declared.part.Part.{Part}
use Rattle.vset.specs.declared.part.Both.TheVariants.{Joined}
use Rattle.vset.specs.Values.{Values, Top, Parts, settled}
use Rattle.vset.specs.Operations.{join, with_parts, with_part}
use Rattle.abs_semantics.specs.States.{AbsState, value_at}
use Rattle.abs_semantics.specs.Touching.{cell_at, with_cell, both_lists, offsets, cells_at, cells_of_parts, members}
use Rattle.image_map.specs.declared.image.Image.{Image}
use Rattle.std.specs.Prelude.{Vec}
use Rattle.std.specs.declared.alloc.Global.{Global}
use Rattle.abs_semantics.specs.Resolve.{Resolved, resolve}
use Rattle.abs_semantics.specs.Accesses.{joined_onto, sure_entries, cells_of_few, cells_read, value_of_cells, read, written_to, write}
use Rattle.abs_resolve.specs.declared.search.Places.{Places}
use Rattle.abs_resolve.specs.Forms.{AreTold}
use Rattle.abs_state.specs.Reads.{items_of, told_by}
use Rattle.cell_map.proofs.ListLemmas.{more}

-- -- Values put to none

pub joined_to_none : (v : Values) (x : Part) → v ≡ Parts (x ∷ []) → settled (x ∷ []) ≡ join (Parts []) v
unfolding join with_parts with_part
joined_to_none v x is = ap (λ w. join (Parts []) w) (sym is)

pub top_to_none : (v : Values) → v ≡ Top → v ≡ join (Parts []) v
unfolding join
top_to_none v is = is ∙ ap (λ w. join (Parts []) w) (sym is)

pub none_settled : settled [] ≡ Parts []
unfolding settled
none_settled = refl

pub joined_settled : (v w z : Values) → w ≡ settled [] → z ≡ join w v → z ≡ join (Parts []) v
joined_settled v w z none is = is ∙ ap (λ u. join u v) (none ∙ none_settled)

-- -- Numbers of members

pub part_of_sum : (f : Part → ℕ) (xs : List Part) (i : ℕ) (d : Part) → i < length xs → f (get_or xs i d) ≤ sum_by f xs
part_of_sum f [] i d lt = absurd (omega arith)
part_of_sum f (x ∷ xs) zero d lt = omega (arith, sum_by-cons f x xs)
part_of_sum f (x ∷ xs) (suc i) d lt = let later = part_of_sum f xs i d (omega arith) in omega (arith, sum_by-cons f x xs, later)

-- -- Lists of which all are there

both_assoc : (a b c : Option (List Cell)) → both_lists (both_lists a b) c ≡ both_lists a (both_lists b c)
both_assoc None b c = refl
both_assoc (Some a) None c = refl
both_assoc (Some a) (Some b) None = refl
both_assoc (Some a) (Some b) (Some c) = ap Some (append_assoc a b c)

pub none_before : (o : Option (List Cell)) → both_lists (Some []) o ≡ o
none_before None = refl
none_before (Some cs) = refl

none_behind : (cs : List Cell) → both_lists (Some cs) (Some []) ≡ Some cs
none_behind cs = ap Some (append-nil cs)

one_more : (out : List Cell) (c : Cell) (o : Option (List Cell)) → both_lists (Some (out ++ c ∷ [])) o ≡ both_lists (Some out) (with_cell (Some c) o)
one_more out c None = refl
one_more out c (Some cs) = ap Some (append_assoc out (c ∷ []) cs)

one_missing : (out : List Cell) (o : Option (List Cell)) → both_lists (Some out) (with_cell None o) ≡ None
one_missing out o = refl

-- a cell at an offset, however the offset is written
pub cell_told : (r : Option Cell) (d : Division) (region : RegionId) (len : ℕ) {x : ℤ} → r ≡ cell_at d region x len → (o : ℤ) → x ≡ o → r ≡ cell_at d region o len
cell_told r d region len is o same = is ∙ ap (λ z. cell_at d region z len) same

-- -- Members one after the other

module _ (d : Division) (len : ℕ) (r : RegionId) (si : Interval) where
  -- what is read from a member on
  abbrev pub from_member : ℕ → Option (List Cell)
  from_member i = cells_at d len r (offsets (count si - i) si.stride (member_after si i))

  pub all_members : (out : List Cell) → both_lists (Some out) (from_member 0) ≡ both_lists (Some out) (cells_at d len r (members si))
  all_members out = λ i. both_lists (Some out) (cells_at d len r (offsets (all (count si) i) si.stride (first si.lo si.stride i)))
    where
      all : (n : ℕ) → n - 0 ≡ n
      all n = omega arith

      first : (lo : ℤ) (s : ℕ) → lo +ℤ pos (0 * s) ≡ lo
      first lo s = omega (arith, ints)

  next_member : (i : ℕ) → i < count si → from_member i ≡ with_cell (cell_at d r (member_after si i) len) (from_member (i + 1))
  unfolding cells_at
  next_member i lt =
      ap (λ n. cells_at d len r (offsets n si.stride (member_after si i))) (one_fewer (count si) i lt)
      ∙ ap (λ z. with_cell (cell_at d r (member_after si i) len) (cells_at d len r (offsets (count si - (i + 1)) si.stride z))) (one_on si.lo i si.stride)
    where
      one_fewer : (n i : ℕ) → i < n → n - i ≡ suc (n - (i + 1))
      one_fewer n i lt = omega arith

      one_on : (lo : ℤ) (i s : ℕ) → (lo +ℤ pos (i * s)) +ℤ pos s ≡ lo +ℤ pos ((i + 1) * s)
      one_on lo i s = omega (arith, ints)

  pub member_read : (i : ℕ) (out next : List Cell) (c : Cell) (whole : Option (List Cell)) → i < count si → Some c ≡ cell_at d r (member_after si i) len → next ≡ out ++ c ∷ []
      → both_lists (Some out) (from_member i) ≡ whole → both_lists (Some next) (from_member (i + 1)) ≡ whole
  member_read i out next c whole lt found put h =
      ap (λ t. both_lists (Some t) (from_member (i + 1))) put
      ∙ one_more out c (from_member (i + 1))
      ∙ ap (λ t. both_lists (Some out) (with_cell t (from_member (i + 1)))) found
      ∙ ap (both_lists (Some out)) (sym (next_member i lt)) ∙ h

  pub member_missing : (i : ℕ) (out : List Cell) (whole : Option (List Cell)) → i < count si → None ≡ cell_at d r (member_after si i) len → both_lists (Some out) (from_member i) ≡ whole → None ≡ whole
  member_missing i out whole lt lost h =
      ap (λ t. both_lists (Some out) (with_cell t (from_member (i + 1)))) lost
      ∙ ap (both_lists (Some out)) (sym (next_member i lt)) ∙ h

  pub members_end : (i : ℕ) (out : List Cell) (whole : Option (List Cell)) → count si ≤ i → both_lists (Some out) (from_member i) ≡ whole → Some out ≡ whole
  unfolding cells_at
  members_end i out whole le h =
      sym (none_behind out) ∙ ap (λ n. both_lists (Some out) (cells_at d len r (offsets n si.stride (member_after si i)))) (none_left (count si) i le) ∙ h
    where
      none_left : (n i : ℕ) → n ≤ i → 0 ≡ n - i
      none_left n i le = omega arith

-- -- Parts one after the other

module _ (d : Division) (len : ℕ) (xs : List Part) (i : ℕ) (x : Part) where
  pub part_read : (out : List Cell) (r : Option (List Cell)) (whole : Option (List Cell)) → i < length xs → x ≡ get_or xs i x → r ≡ both_lists (Some out) (cells_at d len x.region (members x.si))
      → both_lists (Some out) (cells_of_parts d len (drop i xs)) ≡ whole → both_lists r (cells_of_parts d len (drop (i + 1) xs)) ≡ whole
  unfolding cells_of_parts
  part_read out r whole lt here told h =
      ap (λ t. both_lists t (cells_of_parts d len (drop (i + 1) xs))) told
      ∙ both_assoc (Some out) (cells_at d len x.region (members x.si)) (cells_of_parts d len (drop (i + 1) xs))
      ∙ ap (λ t. both_lists (Some out) (cells_of_parts d len t)) (sym (more xs i x lt here)) ∙ h

pub parts_end : (d : Division) (len : ℕ) (xs : List Part) (i : ℕ) (out : List Cell) (whole : Option (List Cell)) → length xs ≤ i → both_lists (Some out) (cells_of_parts d len (drop i xs)) ≡ whole → Some out ≡ whole
unfolding cells_of_parts
parts_end d len xs i out whole le h = sym (none_behind out) ∙ ap (λ t. both_lists (Some out) (cells_of_parts d len t)) (sym (drop_all i xs le)) ∙ h

-- -- Values one after the other

pub value_joined : (a : AbsState) (cs : List Cell) (i : ℕ) (c : Cell) (out next v whole : Values) → i < length cs → c ≡ get_or cs i c → v ≡ value_at a c → next ≡ join out v → joined_onto a out (drop i cs) ≡ whole
    → joined_onto a next (drop (i + 1) cs) ≡ whole
value_joined a cs i c out next v whole lt here is put h =
    ap (λ w. joined_onto a w (drop (i + 1) cs)) (put ∙ ap (join out) is) ∙ ap (joined_onto a out) (sym (more cs i c lt here)) ∙ h

pub values_end : (a : AbsState) (cs : List Cell) (i : ℕ) (out whole : Values) → length cs ≤ i → joined_onto a out (drop i cs) ≡ whole → out ≡ whole
values_end a cs i out whole le h = ap (joined_onto a out) (sym (drop_all i cs le)) ∙ h

pub no_values : (a : AbsState) (into : Values) (cs : List Cell) → length cs ≡ 0 → into ≡ joined_onto a into cs
no_values a into [] none = refl
no_values a into (c ∷ cs) none = absurd (omega (arith, none))

-- one part alone
pub lone_part : (v : Values) (xs : List Part) (x : Part) → v ≡ Parts xs → 1 ≤ length xs → length xs < 2 → x ≡ get_or xs 0 x → v ≡ Parts (x ∷ [])
lone_part v [] x is some few here = absurd (omega (arith, some))
lone_part v (y ∷ []) x is some few here = is ∙ ap (λ z. Parts (z ∷ [])) (sym here)
lone_part v (y ∷ z ∷ xs) x is some few here = absurd (omega (arith, few))

-- -- What is told of an address

pub sure_known : (p : Places) (r : Resolved) (o : Option (Vec Part Global)) → AreTold p r → items_of o ≡ sure_entries (told_by p) → sure_entries r ≡ items_of o
sure_known p r o told is =
    let same : told_by p ≡ r = λ i. record { entries = told.0 i; reasons = told.1 i } in
    sym (is ∙ ap sure_entries same)

module _ (a : AbsState) (d : Division) (p : ℕ) (v : Values) (len : ℕ) where
  pub cells_read_is : (o : Option (List Part)) → sure_entries (resolve a p v len) ≡ o → cells_of_few d len o ≡ cells_read a d p v len
  unfolding cells_read
  cells_read_is o is = ap (cells_of_few d len) (sym is)

  pub read_is : (o : Option (List Cell)) → cells_read a d p v len ≡ o → value_of_cells a o ≡ read a d p v len
  unfolding read
  read_is o is = ap (value_of_cells a) (sym is)

  pub write_is : (image : Image) (w : Values) (o : Option (List Part)) → sure_entries (resolve a p v len) ≡ o → written_to image a d len w o ≡ write a d image p v len w
  unfolding write
  write_is image w o is = ap (written_to image a d len w) (sym is)
