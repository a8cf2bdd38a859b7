-- What a run starts with: flags, registers, and the cells of the image.
use Rattle.std.proofs.Common.{◌≡◌, ℕ, zero, suc, ◌+◌, ◌^◌, ◌≤◌, ◌==◌, Bool, true, false, cond, not, ◌||◌, ◌&&◌, append-nil, List, [], ◌∷◌, ◌++◌, Option, Some, None, refl, sym, ◌∙◌, ap, subst, ⊎_elim, inl, inr, arith}
use Rattle.std.specs.Prelude.{ℤ, pos, ◌≤ℤ◌, ◌+ℤ◌, ◌*◌, ◌↔◌, nat_lt, map, Contains, get_or, replicate, option_map}
use Rattle.std.specs.Int.{cast_unsigned, w32}
use Rattle.std.proofs.lemmas.Option.{none-some, same_Some}
use Rattle.std.proofs.lemmas.List.Elements.{Contains-append_left, Contains-append_right, Contains-append_cases}
use Rattle.std.specs.Cmp.{signed_Decides}
use Rattle.std.specs.Ordering.{int_eq}
use Rattle.std.specs.List.{find}
use Rattle.std.proofs.lemmas.Bool.{le-ltb, ne_eqb, cond-true, cond-false, true≢false}
use Rattle.std.proofs.lemmas.Int.{ints}
use Rattle.image_map.specs.declared.image.Segment.{Segment}
use Rattle.image_map.specs.declared.region.Cell.{Cell}
use Rattle.image_map.specs.declared.region.RegionId.{RegionId}
use Rattle.image_map.specs.declared.region.RegionId.TheVariants.{Global, Frame}
use Rattle.image_map.specs.Regions.{same_region}
use Rattle.image_map.specs.Whole.{ArePlaced, IsPlaced}
use Rattle.strided.specs.Interval.{one}
use Rattle.alocs.specs.declared.extents.Extent.{Extent}
use Rattle.alocs.specs.Extents.{AreOfImage}
use Rattle.alocs.specs.Cells.{Division, IsTouched, AreTouched, holds, cells_from, cells_in, cells_of, cuts_of}
use Rattle.alocs.proofs.CellLemmas.{EndBy, cells_end, cells_in_rise}
use Rattle.alocs.proofs.TouchLemmas.{end_of_all, all_above, end_later}
use Rattle.alocs.proofs.MemberLaws.{contains-cases, contains-head, contains-tail, contains-none}
use Rattle.ia32_types.specs.declared.Flag.{Flag}
use Rattle.ia32_types.specs.declared.Flag.TheVariants.{Cf, Pf, Zf, Sf, Of, Df}
use Rattle.ia32_types.specs.declared.sets.FlagSet.{FlagSet}
use Rattle.ia32_types.specs.Numbers.{flag_of, is_same_flag}
use Rattle.ia32_types.specs.Sets.{has_flag}
use Rattle.image_map.specs.declared.image.Image.{Image}
use Rattle.image_map.specs.Queries.{byte_at}
use Rattle.ia32_semantics.specs.State.{Bytes, bytes_at, joined, little_endian, put}
use Rattle.item_list.proofs.TruthLaws.{eqb_swapped}
use Rattle.vset.specs.Values.{Values, Top}
use Rattle.abs_semantics.specs.States.{rebuilt}
use Rattle.abs_semantics.specs.Joins.{has_length}
use Rattle.abs_semantics.specs.Accesses.{without_value}
use Rattle.abs_semantics.specs.Touching.{cell_at, if_range}
use Rattle.abs_semantics.specs.Accesses.{listed as listed_cell}
use Rattle.abs_semantics.specs.Start.{number_or_top, image_number, image_value, first_cells}
use Rattle.abs_state.specs.Puts.{folded}
use Rattle.abs_state.specs.Ranges.{number_length}
use Rattle.abs_state.specs.Registers.{register_in}
use Rattle.abs_state.specs.Writes.{news_of, put_value}
use Rattle.abs_state.specs.Views.{flag_in}
use Rattle.abs_state.proofs.RangeLemmas.{length_told, not_long, same_candidates}
use Rattle.abs_state.proofs.WriteLemmas.{news_put}

-- -- Flags

pub first_flags : (all five : FlagSet) → ((x : Flag) → has_flag all x ≡ true) → ((x : Flag) → has_flag five x ≡ not (is_same_flag x Df))
    → flag_in (record { zero = all; one = five }) ≡ (λ n t. cond (n == 5) (not t) true)
first_flags all five alls fives = λ i n t. first_flag n t i
  where
    first_flag : (n : ℕ) (t : Bool) → flag_in (record { zero = all; one = five }) n t ≡ cond (n == 5) (not t) true
    first_flag zero true = fives Cf
    first_flag zero false = alls Cf
    first_flag (suc zero) true = fives Pf
    first_flag (suc zero) false = alls Pf
    first_flag (suc (suc zero)) true = fives Zf
    first_flag (suc (suc zero)) false = alls Zf
    first_flag (suc (suc (suc zero))) true = fives Sf
    first_flag (suc (suc (suc zero))) false = alls Sf
    first_flag (suc (suc (suc (suc zero)))) true = fives Of
    first_flag (suc (suc (suc (suc zero)))) false = alls Of
    first_flag (suc (suc (suc (suc (suc zero))))) true = fives Df
    first_flag (suc (suc (suc (suc (suc zero))))) false = alls Df
    first_flag (suc (suc (suc (suc (suc (suc n)))))) t =
        let m = suc (suc (suc (suc (suc (suc n))))) in
        beyond m t (omega arith) ∙ sym (cond-false (m == 5) (not t) true (ne_eqb m 5 (λ e. absurd (omega (arith, e)))))
      where
        beyond : (m : ℕ) (t : Bool) → 6 ≤ m → flag_in (record { zero = all; one = five }) m t ≡ true
        beyond m true le = ap (λ b. cond b (has_flag five (flag_of m)) true) (le-ltb m 6 le)
        beyond m false le = ap (λ b. cond b (has_flag all (flag_of m)) true) (le-ltb m 6 le)

-- -- The cells of an image

both_end : (limit : ℤ) (xs ys : List Cell) → EndBy limit xs → EndBy limit ys → EndBy limit (xs ++ ys)
both_end limit [] ys ends more = more
both_end limit (x ∷ xs) ys ends more = (ends.0, both_end limit xs ys ends.1 more)

all_end : (r : RegionId) (limit : ℤ) (xs : List Extent) (cuts : List ℤ) → ((x : Extent) → Contains xs x → x.end ≤ℤ limit) → EndBy limit (cells_in r xs cuts)
all_end r limit [] cuts ends = tt
all_end r limit (x ∷ xs) cuts ends =
    both_end limit (cells_from r x.start cuts x.end) (cells_in r xs cuts) (end_later x.end limit (cells_from r x.start cuts x.end) (ends x (contains-head x xs)) (cells_end r x.start cuts x.end))
    (all_end r limit xs cuts (λ y h. ends y (contains-tail x xs y h)))

placed_in : (ss : List Segment) (s : Segment) → ArePlaced ss → Contains ss s → IsPlaced s
placed_in [] s all h = absurd (contains-none s h)
placed_in (t ∷ ts) s all h = ⊎_elim (λ (same : t ≡ s). subst IsPlaced same all.0) (λ later. placed_in ts s all.2 later) (contains-cases t ts s h)

module _ (ss : List Segment) (d : Division) (placed : ArePlaced ss) (of : AreOfImage ss d.image) where
  ends_low : (x : Extent) → Contains d.image x → x.end ≤ℤ pos 2147483647
  ends_low x h =
      let found = (of.each x).0 h in
      let p = placed_in ss found.0 placed found.1 in
      let at = found.2 in
      let high = p.high in
      let end = at.end in
      omega (arith, ints, high, end)

  -- each cell of the image lies where numbers aren't negative
  pub image_cell : (c : Cell) → Contains (cells_of d Global) c → (pos 0 ≤ℤ c.start) × IsTouched (one (pos 0)) (2 ^ 31) c
  image_cell c h =
      let lies = all_above (pos 0) (cells_of d Global) (cells_in_rise Global (pos 0) d.image (cuts_of d.lists Global) of.rise) c h in
      let last = end_of_all (pos 2147483647) (cells_of d Global) (all_end Global (pos 2147483647) d.image (cuts_of d.lists Global) ends_low) c h in (
        lies.0,
        record {
          from = pos 0;
          member = record { turns = 0; reached = refl; in_range = omega (arith, ints) };
          below_end = omega (arith, ints, lies.0, lies.1);
          past_start = omega (arith, ints, lies.1, last);
        },
      )

-- -- Registers

all_top : (k n : ℕ) → get_or (replicate k Top) n Top ≡ Top
all_top zero n = refl
all_top (suc k) zero = refl
all_top (suc k) (suc n) = all_top k n

pub first_registers : (vs : List Values) (v : Values) → vs ≡ replicate 8 Top → put (register_in vs) 4 v ≡ (λ n. cond (n == 4) v Top)
first_registers vs v is = λ i n. (ap (λ (ws : List Values). put (register_in ws) 4 v n) is ∙ (λ j. cond (eqb_swapped 4 n j) v (all_top 8 n j))) i

-- -- First cells

pub first_listed : (f : Cell → Values) (cs : List Cell) → folded put_value (news_of (λ c. true) f cs) [] ≡ rebuilt f (map without_value cs)
unfolding rebuilt
first_listed f cs = news_put f (λ c. true) f [] (λ c e. refl) (λ c e. absurd (true≢false e)) cs

pub first_same : (f : Cell → Values) (xs ys : List Cell) → ((c : Cell) → Contains xs c ↔ Contains ys c) → rebuilt f (map without_value xs) ≡ rebuilt f (map without_value ys)
first_same f xs ys same = same_candidates f [] xs ys same

-- -- What a cell of the image holds

some_length : (s t u : Bool) (n : ℕ) → cond {A = Option ℕ} s (Some 1) (cond t (Some 2) (cond u (Some 4) None)) ≡ Some n → (s || (t || u)) ≡ true
some_length true t u n e = refl
some_length false true u n e = refl
some_length false false true n e = refl
some_length false false false n e = absurd (none-some n e)

pub image_value_is : (image : Image) (c : Cell) (n : ℕ) {a : ℕ} (r : Option ℕ) → r ≡ option_map little_endian (bytes_at (byte_at image) a n) → number_length c ≡ Some n → a ≡ cast_unsigned w32 c.start → number_or_top r ≡ image_value image c
image_value_is image c n r told e at =
    ap (λ o. number_or_top o) told
    ∙ (λ i. number_or_top (option_map little_endian (bytes_at (byte_at image) (at i) (length_told c n e i))))
    ∙ sym (cond-true (has_length 1 c || (has_length 2 c || has_length 4 c)) (number_or_top (image_number image c)) Top (some_length (has_length 1 c) (has_length 2 c) (has_length 4 c) n e))

-- -- The cells that a run starts with

start_of : (d : Division) (r : RegionId) (o : ℤ) (len : ℕ) (c : Cell) → Some c ≡ cell_at d r o len → c.start ≡ o
start_of d r o len c e = by_found (find (holds o) (cells_of d r)) e
  where
    by_test : (x : Cell) (t : Bool) → int_eq x.start o ≡ t → (u : Bool) → Some c ≡ cond (t && u) (Some x) None → c.start ≡ o
    by_test x true is true h = ap (λ (y : Cell). y.start) (same_Some c x h) ∙ (signed_Decides x.start o).0 is
    by_test x true is false h = absurd (none-some c (sym h))
    by_test x false is u h = absurd (none-some c (sym h))

    by_found : (f : Option Cell) → Some c ≡ if_range o len f → c.start ≡ o
    by_found None h = absurd (none-some c (sym h))
    by_found (Some x) h = by_test x (int_eq x.start o) refl (has_length len x) h

module _ (ss : List Segment) (d : Division) (placed : ArePlaced ss) (of : AreOfImage ss d.image) (entry : ℕ) (found : List Cell) (are : AreTouched (cells_of d Global) (one (pos 0)) (2 ^ 31) found) where
  image_low : (c : Cell) → Contains found c → pos 0 ≤ℤ c.start
  image_low c h = (image_cell ss d placed of c ((are.each c).0 h).0).0

  image_all : (c : Cell) → Contains found c ↔ Contains (cells_of d Global) c
  image_all c = (λ h. ((are.each c).0 h).0, λ h. (are.each c).1 (h, (image_cell ss d placed of c h).1))

  pub low_alone : (c : Cell) → Contains found c → same_region c.region Global ≡ true → pos 0 ≤ℤ c.start
  low_alone c h numbers = image_low c h

  pub same_alone : None ≡ cell_at d (Frame entry) (pos 0) 4 → (c : Cell) → Contains found c ↔ Contains (first_cells d entry) c
  same_alone none c =
      let nothing : cells_of d Global ++ listed_cell (cell_at d (Frame entry) (pos 0) 4) ≡ cells_of d Global = ap (λ o. cells_of d Global ++ listed_cell o) (sym none) ∙ append-nil (cells_of d Global) in (
        λ h. subst (λ l. Contains l c) (sym nothing) ((image_all c).0 h),
        λ h. (image_all c).1 (subst (λ l. Contains l c) nothing h),
      )

  module _ (slot : Cell) (next : List Cell) (is : Some slot ≡ cell_at d (Frame entry) (pos 0) 4) (put : next ≡ found ++ slot ∷ []) where
    pub low_more : (c : Cell) → Contains next c → same_region c.region Global ≡ true → pos 0 ≤ℤ c.start
    low_more c h numbers =
        ⊎_elim (λ old. image_low c old) (λ new. ⊎_elim (λ (same : slot ≡ c). let at = start_of d (Frame entry) (pos 0) 4 slot is in subst (λ (y : Cell). pos 0 ≤ℤ y.start) same (omega (arith, ints, at))) (λ none. absurd (contains-none c none)) (contains-cases slot [] c new))
        (Contains-append_cases found (slot ∷ []) c (subst (λ l. Contains l c) put h))

    pub same_more : (c : Cell) → Contains next c ↔ Contains (first_cells d entry) c
    same_more c =
        let whole : cells_of d Global ++ listed_cell (cell_at d (Frame entry) (pos 0) 4) ≡ cells_of d Global ++ slot ∷ [] = ap (λ o. cells_of d Global ++ listed_cell o) (sym is) in (
          λ h. subst (λ l. Contains l c) (sym whole)
              (⊎_elim (λ old. Contains-append_left (cells_of d Global) (slot ∷ []) c ((image_all c).0 old)) (λ new. Contains-append_right (cells_of d Global) (slot ∷ []) c new) (Contains-append_cases found (slot ∷ []) c (subst (λ l. Contains l c) put h))),
          λ h. subst (λ l. Contains l c) (sym put)
              (⊎_elim (λ old. Contains-append_left found (slot ∷ []) c ((image_all c).1 old)) (λ new. Contains-append_right found (slot ∷ []) c new) (Contains-append_cases (cells_of d Global) (slot ∷ []) c (subst (λ l. Contains l c) whole h))),
        )
