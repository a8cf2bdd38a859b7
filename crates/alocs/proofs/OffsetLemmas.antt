-- The cell that has an offset.
use Rattle.std.proofs.Common.{◌≡◌, Bool, true, false, cond, ◌&&◌, ◌||◌, ◌⊎◌, inl, inr, ⊎_elim, ℤ, Option, Some, None, List, [], ◌∷◌, ◌++◌, refl, sym, subst, ap, ◌∙◌, arith}
use Rattle.std.specs.Prelude.{◌≤ℤ◌, ◌<ℤ◌, int_le, int_lt, Contains, find, is_some}
use Rattle.std.proofs.lemmas.Bool.{and_parts}
use Rattle.std.proofs.lemmas.Int.{ints}
use Rattle.std.proofs.lemmas.Option.{none-some, same_Some}
use Rattle.strided.proofs.MemberLemmas.{int_le_true, le_int_le, lt_int_le, int_either}
use Rattle.image_map.specs.declared.region.Cell.{Cell}
use Rattle.image_map.specs.declared.region.RegionId.{RegionId}
use Rattle.alocs.specs.declared.extents.Extent.{Extent}
use Rattle.alocs.specs.Extents.{RiseFrom, has_offset}
use Rattle.alocs.specs.Cells.{cells_from, cells_in, CellsRise, holds}
use Rattle.alocs.specs.Halves.{ends_after}
use Rattle.alocs.proofs.MemberLaws.{contains-cases, contains-none}
use Rattle.alocs.proofs.CellLemmas.{split, int_lt_true, int_lt_false, lt_int_lt, le_int_lt}

holds_not : (at : ℤ) (c : Cell) → (at <ℤ c.start) ⊎ (c.end ≤ℤ at) → holds at c ≡ false
holds_not at c h = ⊎_elim (λ (lt : at <ℤ c.start). let e : int_le c.start at ≡ false = lt_int_le c.start at lt in rw e refl) (λ (le : c.end ≤ℤ at). late (int_le c.start at) (le_int_lt at c.end le)) h
  where
    late : (b : Bool) → int_lt at c.end ≡ false → (b && int_lt at c.end) ≡ false
    late true e = e
    late false e = refl

holds_so : (at : ℤ) (c : Cell) → c.start ≤ℤ at → at <ℤ c.end → holds at c ≡ true
holds_so at c le lt = let a : int_le c.start at ≡ true = le_int_le c.start at le in let b : int_lt at c.end ≡ true = lt_int_lt at c.end lt in rw (a, b) refl

none_below : (low at : ℤ) (cs : List Cell) → CellsRise low cs → at <ℤ low → find (holds at) cs ≡ None
none_below low at [] r lt = refl
none_below low at (c ∷ cs) r lt =
    let p = r.0 in let q = r.1 in
    let here : holds at c ≡ false = holds_not at c (inl (omega (arith, ints))) in
    rw here (none_below c.end at cs r.2 (omega (arith, ints)))

-- ---- by the first cell that ends above the offset

pub held_none : (at : ℤ) (cs : List Cell) → find (ends_after at) cs ≡ None → find (holds at) cs ≡ None
held_none at [] none = refl
held_none at (c ∷ cs) none = go (int_lt at c.end) refl none (λ e. held_none at cs e)
  where
    go : (b : Bool) → int_lt at c.end ≡ b → cond b (Some c) (find (ends_after at) cs) ≡ None → (find (ends_after at) cs ≡ None → find (holds at) cs ≡ None) → find (holds at) (c ∷ cs) ≡ None
    go true is e f = absurd (none-some c (sym e))
    go false is e f = let here : holds at c ≡ false = holds_not at c (inr (int_lt_false at c.end is)) in rw here (f e)

pub held_in : (at : ℤ) (cs : List Cell) (x : Cell) → find (ends_after at) cs ≡ Some x → x.start ≤ℤ at → find (holds at) cs ≡ Some x
held_in at [] x some le = absurd (none-some x some)
held_in at (c ∷ cs) x some le = go (int_lt at c.end) refl some (λ e. held_in at cs x e le)
  where
    go : (b : Bool) → int_lt at c.end ≡ b → cond b (Some c) (find (ends_after at) cs) ≡ Some x → (find (ends_after at) cs ≡ Some x → find (holds at) cs ≡ Some x) → find (holds at) (c ∷ cs) ≡ Some x
    go true is e f =
        let same : c.start ≡ x.start = ap (λ (y : Cell). y.start) (same_Some c x e) in
        let here : holds at c ≡ true = holds_so at c (omega (arith, ints)) (int_lt_true at c.end is) in
        rw here e
    go false is e f = let here : holds at c ≡ false = holds_not at c (inr (int_lt_false at c.end is)) in rw here (f e)

pub held_out : (low at : ℤ) (cs : List Cell) (x : Cell) → CellsRise low cs → find (ends_after at) cs ≡ Some x → at <ℤ x.start → find (holds at) cs ≡ None
held_out low at [] x r some lt = absurd (none-some x some)
held_out low at (c ∷ cs) x r some lt = go (int_lt at c.end) refl some (λ e. held_out c.end at cs x r.2 e lt)
  where
    go : (b : Bool) → int_lt at c.end ≡ b → cond b (Some c) (find (ends_after at) cs) ≡ Some x → (find (ends_after at) cs ≡ Some x → find (holds at) cs ≡ None) → find (holds at) (c ∷ cs) ≡ None
    go true is e f =
        let same : c.start ≡ x.start = ap (λ (y : Cell). y.start) (same_Some c x e) in
        let here : holds at c ≡ false = holds_not at c (inl (omega (arith, ints))) in
        rw here (none_below c.end at cs r.2 (int_lt_true at c.end is))
    go false is e f = let here : holds at c ≡ false = holds_not at c (inr (int_lt_false at c.end is)) in rw here (f e)

-- ---- the cells share no offset, and fill the region

all_from : (low : ℤ) (cs : List Cell) → CellsRise low cs → (d : Cell) → Contains cs d → low ≤ℤ d.start
all_from low [] r d h = absurd (contains-none d h)
all_from low (c ∷ cs) r d h =
    ⊎_elim (λ (e : c ≡ d). subst (λ (x : Cell). low ≤ℤ x.start) e r.0)
    (λ (k : Contains cs d). let q = all_from c.end cs r.2 d k in let p = r.0 in let m = r.1 in omega (arith, ints))
    (contains-cases c cs d h)

pub held_alone : (low at : ℤ) (cs : List Cell) (d : Cell) → CellsRise low cs → Contains cs d → holds at d ≡ true → find (holds at) cs ≡ Some d
held_alone low at [] d r h here = absurd (contains-none d h)
held_alone low at (c ∷ cs) d r h here =
    ⊎_elim
    (λ (e : c ≡ d). let first : holds at c ≡ true = ap (holds at) e ∙ here in rw first (ap (λ (x : Cell). Some x) e))
    (λ (k : Contains cs d).
    let start : d.start ≤ℤ at = int_le_true d.start at (and_parts (int_le d.start at) (int_lt at d.end) here).0 in
    let above = all_from c.end cs r.2 d k in
    let first : holds at c ≡ false = holds_not at c (inr (omega (arith, ints))) in
    rw first (held_alone c.end at cs d r.2 k here))
    (contains-cases c cs d h)

some_or : {X : Type 0} (p : X → Bool) (xs ys : List X) → is_some (find p (xs ++ ys)) ≡ (is_some (find p xs) || is_some (find p ys))
some_or p [] ys = refl
some_or p (x ∷ xs) ys = go (p x) (some_or p xs ys)
  where
    go : (b : Bool) → is_some (find p (xs ++ ys)) ≡ (is_some (find p xs) || is_some (find p ys)) → is_some (cond b (Some x) (find p (xs ++ ys))) ≡ (is_some (cond b (Some x) (find p xs)) || is_some (find p ys))
    go true e = refl
    go false e = e

some_first : {X : Type 0} (b : Bool) (x : X) (o : Option X) → is_some (cond b (Some x) o) ≡ (b || is_some o)
some_first true x o = refl
some_first false x o = refl

-- two neighbouring ranges make one
joined : (s c e at : ℤ) → s <ℤ c → c <ℤ e → ((int_le s at && int_lt at c) || (int_le c at && int_lt at e)) ≡ (int_le s at && int_lt at e)
joined s c e at p q =
    ⊎_elim
    (λ (up : c ≤ℤ at).
    let a : int_le s at ≡ true = le_int_le s at (omega (arith, ints)) in
    let b : int_lt at c ≡ false = le_int_lt at c up in
    let d : int_le c at ≡ true = le_int_le c at up in
    rw (a, b, d) refl)
    (λ (down : at <ℤ c).
    let a : int_le c at ≡ false = lt_int_le c at down in
    let b : int_lt at c ≡ true = lt_int_lt at c down in
    let d : int_lt at e ≡ true = lt_int_lt at e (omega (arith, ints)) in
    rw (a, b, d) (either (int_le s at)))
    (int_either c at)
  where
    either : (b : Bool) → ((b && true) || false) ≡ (b && true)
    either true = refl
    either false = refl

filled : (r : RegionId) (start : ℤ) (cuts : List ℤ) (end at : ℤ) → start <ℤ end → is_some (find (holds at) (cells_from r start cuts end)) ≡ (int_le start at && int_lt at end)
filled r start [] end at lt = some_first (int_le start at && int_lt at end) _ None ∙ go (int_le start at && int_lt at end)
  where
    go : (b : Bool) → (b || false) ≡ b
    go true = refl
    go false = refl
filled r start (cut ∷ cuts) end at lt =
    split (λ cs. is_some (find (holds at) cs) ≡ (int_le start at && int_lt at end)) r start cut end cuts
    (λ above below.
    some_first (int_le start at && int_lt at cut) _ _
    ∙ (ap (λ b. (int_le start at && int_lt at cut) || b) (filled r cut cuts end at below) ∙ joined start cut end at above below))
    (λ out. filled r start cuts end at lt)

pub held_inside : (r : RegionId) (low : ℤ) (xs : List Extent) (cuts : List ℤ) (at : ℤ) → RiseFrom low xs → is_some (find (holds at) (cells_in r xs cuts)) ≡ has_offset xs at
held_inside r low [] cuts at h = refl
held_inside r low (x ∷ xs) cuts at h =
    some_or (holds at) (cells_from r x.start cuts x.end) (cells_in r xs cuts)
    ∙ (ap (λ b. b || is_some (find (holds at) (cells_in r xs cuts))) (filled r x.start cuts x.end at h.1)
    ∙ ap (λ b. (int_le x.start at && int_lt at x.end) || b) (held_inside r x.end xs cuts at h.2))

pub held_is : (o : Option Cell) {past : ℤ} {found : List Cell} → o ≡ find (holds past) found → (cells : List Cell) (at : ℤ) → found ≡ cells → past ≡ at → o ≡ find (holds at) cells
held_is o {past} {found} e cells at p q = e ∙ (ap (λ a. find (holds a) found) q ∙ ap (λ cs. find (holds at) cs) p)
