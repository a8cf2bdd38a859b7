-- Rows put behind others, and the cells of a region.
use Rattle.std.proofs.Common.{◌≡◌, ◌≤◌, ◌<◌, ℕ, ◌+◌, ◌*◌, Bool, true, false, cond, ◌^◌, ⊎_elim, List, [], ◌∷◌, ◌++◌, length, ℤ, pos, ◌+ℤ◌, refl, sym, subst, ◌∙◌, ap, append_assoc, append-nil, arith}
use Rattle.std.specs.Prelude.{◌<ℤ◌, ◌≤ℤ◌, Contains}
use Rattle.std.proofs.lemmas.Int.{ints}
use Rattle.image_map.specs.declared.region.Cell.{Cell}
use Rattle.image_map.specs.declared.region.RegionId.{RegionId}
use Rattle.image_map.specs.declared.region.RegionId.TheVariants.{Global, Frame, OldFrame, Heap, OldHeap}
use Rattle.strided.specs.Interval.{Interval, full, least, greatest}
use Rattle.alocs.specs.declared.extents.Extent.{Extent}
use Rattle.std.specs.Prelude.{int_lt, ◌&&◌}
use Rattle.std.specs.Int.{int_gap}
use Rattle.std.proofs.lemmas.Bool.{and_parts}
use Rattle.std.proofs.lemmas.List.Elements.{Contains-append_cases}
use Rattle.alocs.proofs.CellLemmas.{cells_in_rise, int_lt_true}
use Rattle.alocs.proofs.ExtentLemmas.{extents_lower}
use Rattle.strided.proofs.SpacedLemmas.{gap_is}
use Rattle.image_map.specs.declared.image.Segment.{Segment}
use Rattle.image_map.specs.Whole.{ArePlaced, end_of}
use Rattle.alocs.specs.Extents.{AreOfImage, extents, frame_extent, heap_extent, RiseFrom}
use Rattle.alocs.specs.Cells.{cells_from, cells_in, cuts_of, CellsRise, IsTouched, AreTouched, Division, cells_of}
use Rattle.alocs.proofs.MemberLaws.{contains-cases, contains-head, contains-tail, contains-none}
use Rattle.access_facts.specs.declared.rows.Row.{Row}
use Rattle.access_facts.specs.Rows.{AreInside, AreNumbered, AreRows, AreSome, AreOf, cells_in_rows, end_of_rows}
use Rattle.abs_semantics.proofs.ReadLemmas.{in_region}

-- -- A row more

pub rows_more : (first : ℕ) (rows : List Row) (row : Row) → AreRows first rows → row.first ≡ end_of_rows first rows → end_of_rows first rows + length row.cells < 2 ^ 32 → AreSome row.cells → AreOf row.region row.cells → AreRows first (rows ++ row ∷ [])
rows_more first [] row are is few sound of = (is, few, sound, of, tt)
rows_more first (r ∷ rs) row are is few sound of = (are.0, are.1, are.2, are.3, rows_more (first + length r.cells) rs row are.4 is few sound of)

pub end_last : (first : ℕ) (rows : List Row) (row : Row) → AreRows first (rows ++ row ∷ []) → end_of_rows first (rows ++ row ∷ []) ≡ row.first + length row.cells
end_last first [] row are = ap (λ n. n + length row.cells) (sym are.0)
end_last first (r ∷ rs) row are = end_last (first + length r.cells) rs row are.4

pub cells_more : (rows : List Row) (row : Row) → cells_in_rows (rows ++ row ∷ []) ≡ cells_in_rows rows ++ row.cells
cells_more [] row = append-nil row.cells
cells_more (r ∷ rs) row = ap (λ t. r.cells ++ t) (cells_more rs row) ∙ sym (append_assoc r.cells (cells_in_rows rs) row.cells)

-- -- All cells of a region

-- lists of cells that rise and have the same members are one
rises_above : (low : ℤ) (cs : List Cell) (c : Cell) → CellsRise low cs → Contains cs c → low ≤ℤ c.start
rises_above low [] c rise has = absurd (contains-none c has)
rises_above low (x ∷ xs) c rise has =
    ⊎_elim (λ (same : x ≡ c). subst (λ (y : Cell). low ≤ℤ y.start) same rise.0)
    (λ later. let above = rises_above x.end xs c rise.2 later in let first = rise.0 in let some = rise.1 in omega (arith, ints))
    (contains-cases x xs c has)

head_is : (low bound : ℤ) (x y : Cell) (xs ys : List Cell) → CellsRise low (x ∷ xs) → CellsRise bound (y ∷ ys) → Contains (y ∷ ys) x → Contains (x ∷ xs) y → x ≡ y
head_is low bound x y xs ys rx ry hx hy =
    ⊎_elim (λ (same : y ≡ x). sym same)
    (λ later. ⊎_elim (λ (same : x ≡ y). same)
    (λ behind. let one = rises_above y.end ys x ry.2 later in let two = rises_above x.end xs y rx.2 behind in let a = rx.1 in let b = ry.1 in absurd (omega (arith, ints)))
    (contains-cases x xs y hy)) (contains-cases y ys x hx)

rest_of : (low : ℤ) (x : Cell) (xs ys : List Cell) → CellsRise low (x ∷ xs) → ((c : Cell) → Contains (x ∷ xs) c → Contains (x ∷ ys) c) → (c : Cell) → Contains xs c → Contains ys c
rest_of low x xs ys rx all c has =
    ⊎_elim (λ (same : x ≡ c). let above = rises_above x.end xs c rx.2 has in let some = rx.1 in let here : x.end ≤ℤ x.start = subst (λ (y : Cell). x.end ≤ℤ y.start) (sym same) above in absurd (omega (arith, ints)))
    (λ later. later) (contains-cases x ys c (all c (contains-tail x xs c has)))

one_list : (low bound : ℤ) (xs ys : List Cell) → CellsRise low xs → CellsRise bound ys → ((c : Cell) → Contains xs c → Contains ys c) → ((c : Cell) → Contains ys c → Contains xs c) → xs ≡ ys
one_list low bound [] [] rx ry to back = refl
one_list low bound [] (y ∷ ys) rx ry to back = absurd (contains-none y (back y (contains-head y ys)))
one_list low bound (x ∷ xs) [] rx ry to back = absurd (contains-none x (to x (contains-head x xs)))
one_list low bound (x ∷ xs) (y ∷ ys) rx ry to back =
    let same : x ≡ y = head_is low bound x y xs ys rx ry (to x (contains-head x xs)) (back y (contains-head y ys)) in
    let ry' : CellsRise bound (x ∷ ys) = subst (λ (c : Cell). CellsRise bound (c ∷ ys)) (sym same) ry in
    let to' : (c : Cell) → Contains (x ∷ xs) c → Contains (x ∷ ys) c = subst (λ (z : Cell). (c : Cell) → Contains (x ∷ xs) c → Contains (z ∷ ys) c) (sym same) to in
    let back' : (c : Cell) → Contains (x ∷ ys) c → Contains (x ∷ xs) c = subst (λ (z : Cell). (c : Cell) → Contains (z ∷ ys) c → Contains (x ∷ xs) c) (sym same) back in
    ap (λ t. x ∷ t) (one_list x.end x.end xs ys rx.2 ry'.2 (rest_of low x xs ys rx to') (rest_of bound x ys xs ry' back')) ∙ ap (λ (z : Cell). z ∷ ys) same

pub sound_of_rise : (low : ℤ) (cs : List Cell) → CellsRise low cs → AreSome cs
sound_of_rise low [] rise = tt
sound_of_rise low (c ∷ cs) rise = (rise.1, sound_of_rise c.end cs rise.2)

pub cells_are_of : (d : Division) (r : RegionId) → AreOf r (cells_of d r)
cells_are_of d r = in_region r (extents d.image r) (cuts_of d.lists r)

-- -- They are all touched by some offset

end_low : (xs : List Cell) (c : Cell) (high : ℤ) → ((d : Cell) → Contains xs d → d.end ≤ℤ high) → Contains xs c → c.end ≤ℤ high
end_low xs c high all has = all c has

from_low : (r : RegionId) (start : ℤ) (cuts : List ℤ) (end : ℤ) (c : Cell) → Contains (cells_from r start cuts end) c → c.end ≤ℤ end
from_low r start [] end c has = ⊎_elim (λ same. subst (λ (d : Cell). d.end ≤ℤ end) same (omega (arith, ints))) (λ later. absurd (contains-none c later)) (contains-cases (record { region = r; start = start; end = end }) [] c has)
from_low r start (cut ∷ cuts) end c has = by_test (int_lt start cut && int_lt cut end) refl (from_low r cut cuts end c) (from_low r start cuts end c) has
  where
    by_test : (b : Bool) → (int_lt start cut && int_lt cut end) ≡ b → (Contains (cells_from r cut cuts end) c → c.end ≤ℤ end) → (Contains (cells_from r start cuts end) c → c.end ≤ℤ end)
        → Contains (cond b (record { region = r; start = start; end = cut } ∷ cells_from r cut cuts end) (cells_from r start cuts end)) c → c.end ≤ℤ end
    by_test true is inner outer has =
        let inside : cut <ℤ end = int_lt_true cut end (and_parts (int_lt start cut) (int_lt cut end) is).1 in
        ⊎_elim (λ same. subst (λ (d : Cell). d.end ≤ℤ end) same (omega (arith, ints))) inner (contains-cases (record { region = r; start = start; end = cut }) (cells_from r cut cuts end) c has)
    by_test false is inner outer has = outer has

in_low : (r : RegionId) (xs : List Extent) (cuts : List ℤ) (high : ℤ) (c : Cell) → ((x : Extent) → Contains xs x → x.end ≤ℤ high) → Contains (cells_in r xs cuts) c → c.end ≤ℤ high
in_low r [] cuts high c all has = absurd (contains-none c has)
in_low r (x ∷ xs) cuts high c all has =
    ⊎_elim
    (λ here. let one = from_low r x.start cuts x.end c here in let two = all x (contains-head x xs) in omega (arith, ints))
    (in_low r xs cuts high c (λ y later. all y (contains-tail x xs y later)))
    (Contains-append_cases (cells_from r x.start cuts x.end) (cells_in r xs cuts) c has)

one_extent : (e x : Extent) → e.end ≤ℤ greatest → Contains (e ∷ []) x → x.end ≤ℤ greatest
one_extent e x low has = ⊎_elim (λ same. subst (λ (y : Extent). y.end ≤ℤ greatest) same low) (λ later. absurd (contains-none x later)) (contains-cases e [] x has)

extents_low : (image : List Extent) (r : RegionId) → AreInside image → (x : Extent) → Contains (extents image r) x → x.end ≤ℤ greatest
extents_low image Global inside = inside.1
extents_low image (Frame p) inside = λ x. one_extent frame_extent x (omega (arith, ints))
extents_low image (OldFrame p) inside = λ x. one_extent frame_extent x (omega (arith, ints))
extents_low image (Heap k) inside = λ x. one_extent heap_extent x (omega (arith, ints))
extents_low image (OldHeap k) inside = λ x. one_extent heap_extent x (omega (arith, ints))

extents_rise : (image : List Extent) (r : RegionId) → AreInside image → RiseFrom least (extents image r)
extents_rise image Global inside = extents_lower least (pos 0) image (omega (arith, ints)) inside.0
extents_rise image (Frame p) inside = (omega (arith, ints), omega (arith, ints), tt)
extents_rise image (OldFrame p) inside = (omega (arith, ints), omega (arith, ints), tt)
extents_rise image (Heap k) inside = (omega (arith, ints), omega (arith, ints), tt)
extents_rise image (OldHeap k) inside = (omega (arith, ints), omega (arith, ints), tt)

region_rises : (d : Division) (r : RegionId) → AreInside d.image → CellsRise least (cells_of d r)
region_rises d r inside = cells_in_rise r least (extents d.image r) (cuts_of d.lists r) (extents_rise d.image r inside)

some_between : (low : ℤ) (cs : List Cell) (c : Cell) → CellsRise low cs → Contains cs c → c.start <ℤ c.end
some_between low [] c rise has = absurd (contains-none c has)
some_between low (x ∷ xs) c rise has = ⊎_elim (λ same. subst (λ (y : Cell). y.start <ℤ y.end) same rise.1) (some_between x.end xs c rise.2) (contains-cases x xs c has)

by_one : (n : ℕ) → n ≡ n * 1
by_one n = omega arith

all_touched : (d : Division) (r : RegionId) (c : Cell) → AreInside d.image → Contains (cells_of d r) c → IsTouched full 1 c
all_touched d r c inside has =
    let rise = region_rises d r inside in
    let low : least ≤ℤ c.start = rises_above least (cells_of d r) c rise has in
    let some : c.start <ℤ c.end = some_between least (cells_of d r) c rise has in
    let high : c.end ≤ℤ greatest = in_low r (extents d.image r) (cuts_of d.lists r) greatest c (extents_low d.image r inside) has in
    record { from = c.start; member = record { turns = int_gap least c.start; reached = gap_is least c.start low ∙ ap (λ n. least +ℤ pos n) (by_one (int_gap least c.start)); in_range = omega (arith, ints) }; below_end = some; past_start = omega (arith, ints) }

pub touched_are_all : (d : Division) (r : RegionId) (found : List Cell) (offsets : Interval) → offsets ≡ full → AreInside d.image → AreTouched (cells_of d r) offsets 1 found → found ≡ cells_of d r
touched_are_all d r found offsets whole inside touched =
    let all : AreTouched (cells_of d r) full 1 found = subst (λ (o : Interval). AreTouched (cells_of d r) o 1 found) whole touched in
    one_list least least found (cells_of d r) all.rise (region_rises d r inside) (λ c has. ((all.each c).0 has).0) (λ c has. (all.each c).1 (has, all_touched d r c inside has))

-- -- Numbers

end_append : (first : ℕ) (rows : List Row) (row : Row) → end_of_rows first (rows ++ row ∷ []) ≡ end_of_rows first rows + length row.cells
end_append first [] row = refl
end_append first (r ∷ rs) row = end_append (first + length r.cells) rs row

pub numbered_more : (rows more : List Row) (row : Row) (n next : ℕ) → AreNumbered rows n → more ≡ rows ++ row ∷ [] → row.first ≡ n → next ≡ n + length row.cells → next < 2 ^ 32 → AreSome row.cells → AreOf row.region row.cells → AreNumbered more next
numbered_more rows more row n next are put first on few some of =
    let there : row.first ≡ end_of_rows 14 rows = first ∙ are.1 in
    let small : end_of_rows 14 rows + length row.cells < 2 ^ 32 = subst (λ m. m + length row.cells < 2 ^ 32) are.1 (subst (λ m. m < 2 ^ 32) on few) in
    subst (λ rs. AreNumbered rs next) (sym put) (rows_more 14 rows row are.0 there small some of, on ∙ ap (λ m. m + length row.cells) are.1 ∙ sym (end_append 14 rows row))

-- -- The extents of an image

extent_low : (segments : List Segment) (s : Segment) → ArePlaced segments → Contains segments s → end_of s ≤ 0x7FFFFFFF
extent_low [] s placed has = absurd (contains-none s has)
extent_low (x ∷ xs) s placed has = ⊎_elim (λ (same : x ≡ s). subst (λ (y : Segment). end_of y ≤ 0x7FFFFFFF) same placed.0.high) (extent_low xs s placed.2) (contains-cases x xs s has)

pub image_is_inside : (segments : List Segment) (xs : List Extent) → ArePlaced segments → AreOfImage segments xs → AreInside xs
image_is_inside segments xs placed of = (
  of.rise,
  λ x has.
      let taken = (of.each x).0 has in
      let high = extent_low segments taken.0 placed taken.1 in
      let end = taken.2.end in
      omega (arith, ints),
)
