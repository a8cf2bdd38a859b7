-- The registers and flags of both are seen as those of both.
use Rattle.std.proofs.Common.{◌≡◌, ℕ, zero, suc, ◌+◌, ◌<◌, ◌≤◌, Bool, true, false, cond, not, ◌||◌, ◌&&◌, List, [], ◌∷◌, ◌++◌, length, drop, get_or, refl, sym, ◌∙◌, ap, append_assoc, append-nil, arith}
use Rattle.std.proofs.lemmas.List.{drop_all}
use Rattle.std.proofs.lemmas.Bool.{cond-true, cond-false}
use Rattle.std.specs.Prelude.{map}
use Rattle.std.specs.Prelude.{nat_lt}
use Rattle.std.specs.List.{list_all}
use Rattle.ia32_types.specs.declared.Flag.{Flag}
use Rattle.ia32_types.specs.declared.Flag.TheVariants.{Cf, Pf, Zf, Sf, Of, Df}
use Rattle.ia32_types.specs.Numbers.{flag_number, flag_of}
use Rattle.ia32_types.specs.Sets.{has_flag}
use Rattle.image_map.specs.declared.region.Cell.{Cell}
use Rattle.image_map.specs.declared.region.RegionId.{RegionId}
use Rattle.image_map.specs.declared.region.RegionId.TheVariants.{Global, Frame, OldFrame, Heap, OldHeap}
use Rattle.vset.specs.declared.facts.AbsFlags.{AbsFlags}
use Rattle.vset.specs.declared.part.Both.{Both}
use Rattle.vset.specs.declared.part.Both.TheVariants.{Joined, Widened}
use Rattle.vset.specs.Operations.{join, widen, below}
use Rattle.abs_semantics.specs.declared.parts.CellValue.{CellValue}
use Rattle.abs_semantics.specs.States.{AbsState as State, value_in, value_at, has_region, rebuilt}
use Rattle.abs_semantics.specs.declared.parts.Link.{Link}
use Rattle.abs_semantics.specs.Joins.{held_by, joined_value, widened_value, same_link, offsets_of, widened_link}
use Rattle.abs_semantics.specs.Below.{implies, is_cell_below}
use Rattle.cell_map.specs.declared.regions.Side.TheVariants.{First, Second, Together}
use Rattle.cell_map.specs.Merges as lists
use Rattle.cell_map.specs.Merges.{Regions as Lists, value_by, value_of_both, is_entry_below}
use Rattle.abs_steps.specs.Flags.{allows, even_condition, may_hold}
use Rattle.abs_state.specs.Views.{flag_in}
use Rattle.vset.specs.Values.{Values, Top, Parts}
use Rattle.vset.specs.Operations.{of_both}
use Rattle.cell_map.proofs.ListLemmas.{more}
use Rattle.abs_state.specs.Registers.{register_in, registers_of}

left_top : (both : Both) (v : Values) → Top ≡ of_both both v Top
left_top both Top = refl
left_top both (Parts ps) = refl

pub register_of_both : (both : Both) (xs ys : List Values) (n : ℕ) → register_in (registers_of both xs ys) n ≡ of_both both (register_in xs n) (register_in ys n)
unfolding registers_of
register_of_both both [] ys n = refl
register_of_both both (x ∷ xs) [] n = left_top both (register_in (x ∷ xs) n)
register_of_both both (x ∷ xs) (y ∷ ys) zero = refl
register_of_both both (x ∷ xs) (y ∷ ys) (suc n) = register_of_both both xs ys n

pub as_many : (both : Both) (xs ys : List Values) → length xs ≡ length ys → length (registers_of both xs ys) ≡ length xs
unfolding registers_of
as_many both [] ys e = refl
as_many both (x ∷ xs) [] e = absurd (omega (arith, e))
as_many both (x ∷ xs) (y ∷ ys) e = ap suc (as_many both xs ys (omega arith))

module _ (both : Both) (xs ys : List Values) (i : ℕ) (x y v : Values) (out next whole : List Values) where
  pub registers_step : i < length xs → i < length ys → x ≡ get_or xs i x → y ≡ get_or ys i y → v ≡ of_both both x y → next ≡ out ++ v ∷ [] → out ++ registers_of both (drop i xs) (drop i ys) ≡ whole
      → next ++ registers_of both (drop (i + 1) xs) (drop (i + 1) ys) ≡ whole
  unfolding registers_of
  registers_step lx ly ix iy is put h =
      ap (λ t. t ++ registers_of both (drop (i + 1) xs) (drop (i + 1) ys)) put
      ∙ append_assoc out (v ∷ []) (registers_of both (drop (i + 1) xs) (drop (i + 1) ys))
      ∙ ap (λ w. out ++ (w ∷ registers_of both (drop (i + 1) xs) (drop (i + 1) ys))) is
      ∙ ap (λ t. out ++ registers_of both t (y ∷ drop (i + 1) ys)) (sym (more xs i x lx ix))
      ∙ ap (λ t. out ++ registers_of both (drop i xs) t) (sym (more ys i y ly iy))
      ∙ h

pub registers_end : (both : Both) (xs ys : List Values) (i : ℕ) (out whole : List Values) → length xs ≤ i → out ++ registers_of both (drop i xs) (drop i ys) ≡ whole → out ≡ whole
unfolding registers_of
registers_end both xs ys i out whole le h = sym (append-nil out) ∙ ap (λ t. out ++ registers_of both t (drop i ys)) (sym (drop_all i xs le)) ∙ h

-- -- Regions

pub same_has : (a : State) (r : RegionId) → has_region a r ≡ lists.has_region (record { live = a.live; older = a.older; blocks = a.blocks }) r
same_has a Global = refl
same_has a (Frame p) = refl
same_has a (OldFrame p) = refl
same_has a (Heap k) = refl
same_has a (OldHeap k) = refl

abbrev pub lists_of : State → Lists
lists_of a = record { live = a.live; older = a.older; blocks = a.blocks }

-- -- Cells of both

chosen : (both : Both) (s t : Bool) (c : Cell) (v w : Values) → value_by both (cond s First (cond t Second Together)) c v w ≡ cond s v (cond t w (held_by c (of_both both v w)))
chosen both true t c v w = refl
chosen both false true c v w = refl
chosen both false false c v w = refl

kept : (both : Both) (s : Bool) (c : Cell) (v w : Values) → value_by both (cond s Together Second) c v w ≡ cond s (held_by c (of_both both v w)) w
kept both true c v w = refl
kept both false c v w = refl

pub joined_cell : (a b : State) (c : Cell) → value_of_both Joined (lists_of a) (lists_of b) c (value_in c a.cells) (value_in c b.cells) ≡ joined_value a b c
unfolding join
joined_cell a b c =
    chosen Joined (lists.has_region (lists_of a) c.region && not (lists.has_region (lists_of b) c.region)) (lists.has_region (lists_of b) c.region && not (lists.has_region (lists_of a) c.region)) c (value_in c a.cells) (value_in c b.cells)
    ∙ sym (λ i. cond (same_has a c.region i && not (same_has b c.region i)) (value_at a c)
    (cond (same_has b c.region i && not (same_has a c.region i)) (value_at b c) (held_by c (join (value_at a c) (value_at b c)))))

pub widened_cell : (a b : State) (c : Cell) → value_of_both Widened (lists_of a) (lists_of b) c (value_in c a.cells) (value_in c b.cells) ≡ widened_value a b c
unfolding widen
widened_cell a b c =
    kept Widened (lists.has_region (lists_of a) c.region) c (value_in c a.cells) (value_in c b.cells)
    ∙ sym (λ i. cond (same_has a c.region i) (held_by c (widen (value_at a c) (value_at b c))) (value_at b c))

pub cells_below : (a : State) (ys : List CellValue) → list_all (is_entry_below (lists_of a) a.cells) ys ≡ list_all (is_cell_below a) ys
cells_below a ys = sym (λ i. list_all (λ (e : CellValue). implies (same_has a e.cell.region i) (below (value_in e.cell a.cells) e.value)) ys)

-- -- Flags

either : (s x y z : Bool) → x ≡ (y || z) → cond s x true ≡ (cond s y true || cond s z true)
either true x y z e = e
either false x y z e = refl

pub flags_of_both : (r a b : AbsFlags) → ((x : Flag) → has_flag r.zero x ≡ (has_flag a.zero x || has_flag b.zero x)) → ((x : Flag) → has_flag r.one x ≡ (has_flag a.one x || has_flag b.one x))
    → flag_in r ≡ (λ n t. flag_in a n t || flag_in b n t)
flags_of_both r a b zeros ones = λ i n t. point n t i
  where
    point : (n : ℕ) (t : Bool) → flag_in r n t ≡ (flag_in a n t || flag_in b n t)
    point n true = either (nat_lt n 6) (has_flag r.one (flag_of n)) (has_flag a.one (flag_of n)) (has_flag b.one (flag_of n)) (ones (flag_of n))
    point n false = either (nat_lt n 6) (has_flag r.zero (flag_of n)) (has_flag a.zero (flag_of n)) (has_flag b.zero (flag_of n)) (zeros (flag_of n))

pub flag_told : (f : AbsFlags) (x : Flag) (t : Bool) → flag_in f (flag_number x) t ≡ has_flag (cond t f.one f.zero) x
flag_told f Cf t = refl
flag_told f Pf t = refl
flag_told f Zf t = refl
flag_told f Sf t = refl
flag_told f Of t = refl
flag_told f Df t = refl

-- conditions ask for flags alone that the sets tell of
pub holds_told : (condition : ℕ) (f : AbsFlags) (holds : Bool) → may_hold condition (flag_in f) holds ≡ may_hold condition (allows f) holds
unfolding may_hold even_condition
holds_told condition f holds = refl

-- -- States of both

pub registers_joined : (r xs ys : List Values) → r ≡ registers_of Joined xs ys → register_in r ≡ (λ n. join (register_in xs n) (register_in ys n))
unfolding join
registers_joined r xs ys is = λ i n. (ap (λ (t : List Values). register_in t n) is ∙ register_of_both Joined xs ys n) i

pub registers_widened : (r xs ys : List Values) → r ≡ registers_of Widened xs ys → register_in r ≡ (λ n. widen (register_in xs n) (register_in ys n))
unfolding widen
registers_widened r xs ys is = λ i n. (ap (λ (t : List Values). register_in t n) is ∙ register_of_both Widened xs ys n) i

pub cells_joined : (a b : State) (m : List CellValue) (first second : Lists) → first ≡ lists_of a → second ≡ lists_of b
    → m ≡ rebuilt (λ c. value_of_both Joined first second c (value_in c a.cells) (value_in c b.cells)) (a.cells ++ b.cells) → m ≡ rebuilt (joined_value a b) (a.cells ++ b.cells)
cells_joined a b m first second p q is =
    is ∙ (λ i. rebuilt (λ c. value_of_both Joined (p i) (q i) c (value_in c a.cells) (value_in c b.cells)) (a.cells ++ b.cells))
    ∙ (λ i. rebuilt (λ c. joined_cell a b c i) (a.cells ++ b.cells))

pub cells_widened : (a b : State) (m : List CellValue) (first second : Lists) → first ≡ lists_of a → second ≡ lists_of b
    → m ≡ rebuilt (λ c. value_of_both Widened first second c (value_in c a.cells) (value_in c b.cells)) (a.cells ++ b.cells) → m ≡ rebuilt (widened_value a b) (a.cells ++ b.cells)
cells_widened a b m first second p q is =
    is ∙ (λ i. rebuilt (λ c. value_of_both Widened (p i) (q i) c (value_in c a.cells) (value_in c b.cells)) (a.cells ++ b.cells))
    ∙ (λ i. rebuilt (λ c. widened_cell a b c i) (a.cells ++ b.cells))

-- -- Links

module _ (old new : List Link) (i : ℕ) (l w : Link) (out next whole : List Link) where
  pub links_step : i < length new → l ≡ get_or new i l → w ≡ widened_link old l → next ≡ out ++ w ∷ [] → out ++ map (widened_link old) (drop i new) ≡ whole → next ++ map (widened_link old) (drop (i + 1) new) ≡ whole
  links_step lt here is put h =
      ap (λ t. t ++ map (widened_link old) (drop (i + 1) new)) put
      ∙ append_assoc out (w ∷ []) (map (widened_link old) (drop (i + 1) new))
      ∙ ap (λ (v : Link). out ++ (v ∷ map (widened_link old) (drop (i + 1) new))) is
      ∙ ap (λ t. out ++ map (widened_link old) t) (sym (more new i l lt here))
      ∙ h

pub links_end : (old new : List Link) (i : ℕ) (out whole : List Link) → length new ≤ i → out ++ map (widened_link old) (drop i new) ≡ whole → out ≡ whole
links_end old new i out whole le h = sym (append-nil out) ∙ ap (λ t. out ++ map (widened_link old) t) (sym (drop_all i new le)) ∙ h

pub link_later : (l : Link) (ms : List Link) (i : ℕ) (m whole : Link) → i < length ms → m ≡ get_or ms i m → same_link m l ≡ false → widened_link (drop i ms) l ≡ whole → widened_link (drop (i + 1) ms) l ≡ whole
link_later l ms i m whole lt is other e = sym (cond-false (same_link m l) _ _ other) ∙ ap (λ t. widened_link t l) (sym (more ms i m lt is)) ∙ e

pub link_here : (l : Link) (ms : List Link) (i : ℕ) (m whole : Link) → i < length ms → m ≡ get_or ms i m → same_link m l ≡ true → widened_link (drop i ms) l ≡ whole → offsets_of Widened m l ≡ whole
link_here l ms i m whole lt is same e = sym (cond-true (same_link m l) _ _ same) ∙ ap (λ t. widened_link t l) (sym (more ms i m lt is)) ∙ e

pub link_nowhere : (l : Link) (ms : List Link) (i : ℕ) (whole : Link) → length ms ≤ i → widened_link (drop i ms) l ≡ whole → l ≡ whole
link_nowhere l ms i whole le e = ap (λ t. widened_link t l) (sym (drop_all i ms le)) ∙ e
