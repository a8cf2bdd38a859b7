-- What the rows of a fact add is what the fact makes and carries.
use Rattle.std.proofs.Common.{◌≡◌, ℕ, ◌<◌, ◌≤◌, ◌↔◌, ◌⊎◌, inl, inr, ⊎_elim, ℤ, pos, negsuc, ◌+ℤ◌, List, length, refl, sym, subst, ap, ◌∙◌, arith}
use Rattle.std.specs.Prelude.{Contains}
use Rattle.std.specs.declared.result.Result.{Result}
use Rattle.std.specs.declared.result.Result.TheVariants.{Ok, Err}
use Rattle.std.specs.Int.{w32}
use Rattle.std.proofs.lemmas.Int.{ints, to_z-of_z}
use mir.Val.{of_z, to_z}
use Rattle.image_map.specs.declared.image.Segment.{Segment}
use Rattle.image_map.specs.declared.region.RegionId.{RegionId}
use Rattle.image_map.specs.declared.region.RegionId.TheVariants.{Frame, OldFrame, Heap, OldHeap}
use Rattle.asi_cuts.specs.declared.facts.Constraint.{Constraint}
use Rattle.asi_cuts.specs.declared.facts.Constraint.TheVariants.{Elements, Bounds, Same}
use Rattle.asi_cuts.specs.declared.rows.Row.{Row}
use Rattle.asi_cuts.specs.declared.rows.Pair.{Pair}
use Rattle.asi_cuts.specs.declared.set.Cut.{Cut}
use Rattle.asi_cuts.specs.declared.set.Halt.{Halt}
use Rattle.asi_cuts.specs.Adding.{Adds, IsCarriedBy, IsEnd, IsIn, IsInWindow, IsMadeBy, IsOf, IsOfEither}
use Rattle.asi_cuts.specs.Cuts.{IsMoved, IsRepeated, element, lies_in, spans}
use Rattle.asi_cuts.proofs.AddLemmas.{adds_like, adds_none, first_stops, two_steps}
use Rattle.asi_cuts.proofs.RegionLemmas.{one_is}

pub frame_fits : (segments : List Segment) (r : RegionId) → ((n : ℕ) × (r ≡ Frame n)) ⊎ ((n : ℕ) × (r ≡ OldFrame n)) → (offset : ℤ) → lies_in segments r offset ≡ spans (negsuc 1048575) (pos 65536) offset
frame_fits segments r is offset =
    ⊎_elim (λ h. subst (λ (q : RegionId). lies_in segments q offset ≡ spans (negsuc 1048575) (pos 65536) offset) (sym h.1) refl)
    (λ h. subst (λ (q : RegionId). lies_in segments q offset ≡ spans (negsuc 1048575) (pos 65536) offset) (sym h.1) refl) is

pub heap_fits : (segments : List Segment) (r : RegionId) → ((n : ℕ) × (r ≡ Heap n)) ⊎ ((n : ℕ) × (r ≡ OldHeap n)) → (offset : ℤ) → lies_in segments r offset ≡ spans (pos 0) (pos 536870912) offset
heap_fits segments r is offset =
    ⊎_elim (λ h. subst (λ (q : RegionId). lies_in segments q offset ≡ spans (pos 0) (pos 536870912) offset) (sym h.1) refl)
    (λ h. subst (λ (q : RegionId). lies_in segments q offset ≡ spans (pos 0) (pos 536870912) offset) (sym h.1) refl) is

pub same_here : (segments : List Segment) (q r : RegionId) (low high : ℤ) → q ≡ r → ((offset : ℤ) → lies_in segments r offset ≡ spans low high offset) → (offset : ℤ) → lies_in segments q offset ≡ spans low high offset
same_here segments q r low high same fits offset = ap (λ (z : RegionId). lies_in segments z offset) same ∙ fits offset

-- a number of the code that is passed on
pub passed : (z : ℤ) (n : ℕ) → z ≡ pos n → n ≤ 2147483647 → to_z w32 (of_z w32 z) ≡ pos n
passed z n is few = to_z-of_z w32 z (omega (arith, ints)) ∙ is

-- the same window, said otherwise
pub same_window : (row : Row) (low low' high high' : ℤ) (old new : List Cut) (res : Result (Unit {0}) Halt) → low ≡ low' → high ≡ high' → Adds (IsInWindow row low high) old new res → Adds (IsInWindow row low' high') old new res
same_window row low low' high high' old new res p q a =
    subst (λ (h : ℤ). Adds (IsInWindow row low' h) old new res) q (subst (λ (l : ℤ). Adds (IsInWindow row l high) old new res) p a)

-- the cut of a row of one
abbrev pub IsOne : Row → RegionId → ℤ → ℕ → Type 0
IsOne row r start shift = row ≡ record { region = r; start = start; shift = shift; stride = 1; count = 1 }

of_one : (row : Row) (r : RegionId) (start : ℤ) (shift : ℕ) (x : Cut) → IsOne row r start shift → IsOf row x ↔ ((x.region ≡ r) × (x.offset ≡ start +ℤ pos shift))
of_one row r start shift x is = (λ h. (one_is r start shift x).0 (subst (λ (q : Row). IsOf q x) is h), λ h. subst (λ (q : Row). IsOf q x) (sym is) ((one_is r start shift x).1 h))

-- two rows add what P says
pub either_like : (segments : List Segment) (first second : Row) (P : Cut → Type 0) (old new : List Cut) (res : Result (Unit {0}) Halt) → length old ≤ 1024 → ((x : Cut) → P x ↔ (IsOf first x ⊎ IsOf second x))
    → Adds (IsOfEither segments first second) old new res → Adds (IsIn segments P) old new res
either_like segments first second P old new res few same a =
    adds_like (IsIn segments P) (IsOfEither segments first second) old new res few a
    (λ x h. ⊎_elim (λ k. ((same x).1 (inl k.0), k.1)) (λ k. ((same x).1 (inr k.0), k.1)) h)
    (λ x h. inl (⊎_elim (λ k. inl (k, h.1)) (λ k. inr (k, h.1)) ((same x).0 h.0)))

pub ends_like : (segments : List Segment) (first second : Row) (r : RegionId) (at start : ℤ) (len : ℕ) (old new : List Cut) (res : Result (Unit {0}) Halt) → IsOne first r at 0 → IsOne second r at len → at ≡ start → length old ≤ 1024
    → Adds (IsOfEither segments first second) old new res → Adds (IsIn segments (IsEnd r start len)) old new res
ends_like segments first second r at start len old new res one two same few a =
    either_like segments first second (IsEnd r start len) old new res few (λ x. (
      λ h. ⊎_elim (λ (k : x.offset ≡ start). inl ((of_one first r at 0 x one).1 (h.0, omega (arith, ints)))) (λ (k : x.offset ≡ start +ℤ pos len). inr ((of_one second r at len x two).1 (h.0, omega (arith, ints)))) h.1,
      λ h. ⊎_elim (λ k. let o = (of_one first r at 0 x one).0 k in let p = o.1 in (o.0, inl (omega (arith, ints)))) (λ k. let o = (of_one second r at len x two).0 k in let p = o.1 in (o.0, inr (omega (arith, ints)))) h,
    )) a

pub made_bounds : (segments : List Segment) (f : Constraint) (first second : Row) (r : RegionId) (low start high end : ℤ) (old new : List Cut) (res : Result (Unit {0}) Halt) → f ≡ Bounds r start end → IsOne first r low 0 → IsOne second r high 0 → low ≡ start → high ≡ end
    → length old ≤ 1024 → Adds (IsOfEither segments first second) old new res → Adds (IsIn segments (IsMadeBy f)) old new res
made_bounds segments f first second r low start high end old new res is one two p q few a =
    subst (λ (g : Constraint). Adds (IsIn segments (IsMadeBy g)) old new res) (sym is)
    (either_like segments first second (IsMadeBy (Bounds r start end)) old new res few (λ x. (
      λ h. ⊎_elim (λ (k : x.offset ≡ start). inl ((of_one first r low 0 x one).1 (h.0, omega (arith, ints)))) (λ (k : x.offset ≡ end). inr ((of_one second r high 0 x two).1 (h.0, omega (arith, ints)))) h.1,
      λ h. ⊎_elim (λ k. let o = (of_one first r low 0 x one).0 k in let at = o.1 in (o.0, inl (omega (arith, ints)))) (λ k. let o = (of_one second r high 0 x two).0 k in let at = o.1 in (o.0, inr (omega (arith, ints)))) h,
    )) a)

-- the row of the starts of elements, or of their ends
abbrev pub AreStarts : Row → RegionId → ℤ → ℕ → ℕ → ℕ → Type 0
AreStarts row r start shift stride count = row ≡ record { region = r; start = start; shift = shift; stride = stride; count = count }

of_starts : (row : Row) (r : RegionId) (at start : ℤ) (shift stride count : ℕ) (x : Cut) → AreStarts row r at shift stride count → at ≡ start → IsOf row x ↔ ((x.region ≡ r) × ((k : ℕ) × (k < count) × (x.offset ≡ element start stride k +ℤ pos shift)))
of_starts row r at start shift stride count x is same = (
  λ h. let q = subst (λ (w : Row). IsOf w x) (is ∙ there) h in q,
  λ h. subst (λ (w : Row). IsOf w x) (sym (is ∙ there)) h,
) where
  there : AreStarts (record { region = r; start = at; shift = shift; stride = stride; count = count }) r start shift stride count
  there = ap (λ z. record { region = r; start = z; shift = shift; stride = stride; count = count }) same

pub made_elements : (segments : List Segment) (f : Constraint) (first second : Row) (r : RegionId) (at start : ℤ) (stride count len : ℕ) (old new : List Cut) (res : Result (Unit {0}) Halt) → f ≡ Elements r start stride count len
    → AreStarts first r at 0 stride count → AreStarts second r at len stride count → at ≡ start → length old ≤ 1024 → Adds (IsOfEither segments first second) old new res → Adds (IsIn segments (IsMadeBy f)) old new res
made_elements segments f first second r at start stride count len old new res is starts ends same few a =
    subst (λ (g : Constraint). Adds (IsIn segments (IsMadeBy g)) old new res) (sym is)
    (either_like segments first second (IsMadeBy (Elements r start stride count len)) old new res few (λ x. (
      λ h. ⊎_elim (λ k. inl ((of_starts first r at start 0 stride count x starts same).1 (h.0, (h.1.0, h.1.1, k ∙ plain (element start stride h.1.0))))) (λ k. inr ((of_starts second r at start len stride count x ends same).1 (h.0, (h.1.0, h.1.1, k)))) h.1.2,
      λ h. ⊎_elim (λ k. let o = (of_starts first r at start 0 stride count x starts same).0 k in (o.0, (o.1.0, o.1.1, inl (o.1.2 ∙ sym (plain (element start stride o.1.0))))))
          (λ k. let o = (of_starts second r at start len stride count x ends same).0 k in (o.0, (o.1.0, o.1.1, inr o.1.2))) h,
    )) a)
  where
    plain : (z : ℤ) → z ≡ z +ℤ pos 0
    plain z = omega (arith, ints)

pub shifted_starts : (first second : Row) (r : RegionId) (at : ℤ) (stride count len : ℕ) → AreStarts first r at 0 stride count
    → second ≡ record { region = first.region; start = first.start; shift = len; stride = first.stride; count = first.count } → AreStarts second r at len stride count
shifted_starts first second r at stride count len starts is = is ∙ ap (λ (w : Row). record { region = w.region; start = w.start; shift = len; stride = w.stride; count = w.count }) starts

pub made_same : (segments : List Segment) (f : Constraint) (a b : RegionId) (a_at a_start b_at b_start : ℤ) (len : ℕ) (old mid new : List Cut) (res : Result (Unit {0}) Halt) → f ≡ Same a a_start b b_start len → a_at ≡ a_start → b_at ≡ b_start → length old ≤ 1024
    → Adds (IsIn segments (IsEnd a a_at len)) old mid (Ok tt) → Adds (IsIn segments (IsEnd b b_at len)) mid new res → Adds (IsIn segments (IsMadeBy f)) old new res
made_same segments f a b a_at a_start b_at b_start len old mid new res is p q few one two =
    subst (λ (g : Constraint). Adds (IsIn segments (IsMadeBy g)) old new res) (sym is)
    (two_steps (IsIn segments (IsMadeBy (Same a a_start b b_start len))) (IsIn segments (IsEnd a a_start len)) (IsIn segments (IsEnd b b_start len)) old mid new res few
    (subst (λ (s : ℤ). Adds (IsIn segments (IsEnd a s len)) old mid (Ok tt)) p one) (subst (λ (s : ℤ). Adds (IsIn segments (IsEnd b s len)) mid new res) q two)
    (λ x h. (inl h.0, h.1)) (λ x h. (inr h.0, h.1)) (λ x h. ⊎_elim (λ k. inl (k, h.1)) (λ k. inr (k, h.1)) h.0))

pub same_stops : (segments : List Segment) (f : Constraint) (a b : RegionId) (a_at a_start b_start : ℤ) (len : ℕ) (old new : List Cut) (e : Halt) → f ≡ Same a a_start b b_start len → a_at ≡ a_start → length old ≤ 1024
    → Adds (IsIn segments (IsEnd a a_at len)) old new (Err e) → Adds (IsIn segments (IsMadeBy f)) old new (Err e)
same_stops segments f a b a_at a_start b_start len old new e is p few one =
    subst (λ (g : Constraint). Adds (IsIn segments (IsMadeBy g)) old new (Err e)) (sym is)
    (first_stops (IsIn segments (IsMadeBy (Same a a_start b b_start len))) (IsIn segments (IsEnd a a_start len)) old new e few
    (subst (λ (s : ℤ). Adds (IsIn segments (IsEnd a s len)) old new (Err e)) p one) (λ x h. (inl h.0, h.1)))

-- ---- what is carried

pub carry_elsewhere : (segments : List Segment) (f : Constraint) (q : Cut) (r : RegionId) (start : ℤ) (stride count len : ℕ) (old : List Cut) → f ≡ Elements r start stride count len → (q.region ≡ r → ⊥) → length old ≤ 1024
    → Adds (IsIn segments (IsCarriedBy q f)) old old (Ok tt)
carry_elsewhere segments f q r start stride count len old is other few =
    subst (λ (g : Constraint). Adds (IsIn segments (IsCarriedBy q g)) old old (Ok tt)) (sym is)
    (adds_none (IsIn segments (IsCarriedBy q (Elements r start stride count len))) old few (λ x h. absurd (other h.0.0)))

-- a row is what a cut inside an element is repeated to
abbrev pub Repeats : Row → Row → ℕ → ℤ → Type 0
Repeats row starts len offset =
    (row.region ≡ starts.region) × ((x : Cut) → IsOf row x → IsRepeated starts.start starts.stride starts.count len offset x.offset)
    × ((x : Cut) → x.region ≡ starts.region → IsRepeated starts.start starts.stride starts.count len offset x.offset → IsOf row x ⊎ (x.offset ≡ offset))

pub carry_elements : (segments : List Segment) (f : Constraint) (q : Cut) (row starts : Row) (r : RegionId) (at start offset : ℤ) (stride count len : ℕ) (old new : List Cut) (res : Result (Unit {0}) Halt) → f ≡ Elements r start stride count len
    → AreStarts starts r at 0 stride count → at ≡ start → q.region ≡ r → offset ≡ q.offset → Repeats row starts len offset
    → Contains old q → length old ≤ 1024 → Adds (IsIn segments (IsOf row)) old new res → Adds (IsIn segments (IsCarriedBy q f)) old new res
carry_elements segments f q row starts r at start offset stride count len old new res is eq here there same repeats has few a =
    subst (λ (g : Constraint). Adds (IsIn segments (IsCarriedBy q g)) old new res) (sym is)
    (adds_like (IsIn segments (IsCarriedBy q (Elements r start stride count len))) (IsIn segments (IsOf row)) old new res few a
    (λ x h. ((there, h.0.0 ∙ known.0, known.1 x h.0), h.1))
    (λ x h. ⊎_elim (λ k. inl (k, h.1)) (λ k. inr (subst (λ (c : Cut). Contains old c) (whole x (there ∙ sym h.0.1) (sym k)) has)) (known.2 x h.0.1 h.0.2)))
  where
    known : Repeats row (record { region = r; start = start; shift = 0; stride = stride; count = count }) len q.offset
    known = subst (λ (o : ℤ). Repeats row (record { region = r; start = start; shift = 0; stride = stride; count = count }) len o) same
        (subst (λ (z : ℤ). Repeats row (record { region = r; start = z; shift = 0; stride = stride; count = count }) len offset) here (subst (λ (w : Row). Repeats row w len offset) eq repeats))

    whole : (x : Cut) → q.region ≡ x.region → q.offset ≡ x.offset → q ≡ x
    whole x p o = λ i. record { region = p i; offset = o i }

-- where the cuts of one range are moved to
abbrev pub Moves : Row → Pair → Cut → Type 0
Moves row p q = (x : Cut) → IsOf row x ↔ IsMoved p.a p.a_start p.b p.b_start p.len q.region q.offset x.region x.offset

pub carry_same : (segments : List Segment) (f : Constraint) (q : Cut) (first second : Row) (turned : Pair) (a b : RegionId) (a_at a_start b_at b_start : ℤ) (len : ℕ) (old new : List Cut) (res : Result (Unit {0}) Halt) → f ≡ Same a a_start b b_start len
    → a_at ≡ a_start → b_at ≡ b_start → turned ≡ record { a = b; a_start = b_at; b = a; b_start = a_at; len = len } → Moves first (record { a = a; a_start = a_at; b = b; b_start = b_at; len = len }) q → Moves second turned q
    → length old ≤ 1024 → Adds (IsOfEither segments first second) old new res → Adds (IsIn segments (IsCarriedBy q f)) old new res
carry_same segments f q first second turned a b a_at a_start b_at b_start len old new res is here there back one two few added =
    subst (λ (g : Constraint). Adds (IsIn segments (IsCarriedBy q g)) old new res) (sym is)
    (either_like segments first second (IsCarriedBy q (Same a a_start b b_start len)) old new res few
    (λ x. (λ h. ⊎_elim (λ k. inl ((forth x).1 k)) (λ k. inr ((home x).1 k)) h, λ h. ⊎_elim (λ k. inl ((forth x).0 k)) (λ k. inr ((home x).0 k)) h)) added)
  where
    forth : Moves first (record { a = a; a_start = a_start; b = b; b_start = b_start; len = len }) q
    forth = subst (λ (z : ℤ). Moves first (record { a = a; a_start = a_start; b = b; b_start = z; len = len }) q) there (subst (λ (z : ℤ). Moves first (record { a = a; a_start = z; b = b; b_start = b_at; len = len }) q) here one)

    home : Moves second (record { a = b; a_start = b_start; b = a; b_start = a_start; len = len }) q
    home = subst (λ (z : ℤ). Moves second (record { a = b; a_start = z; b = a; b_start = a_start; len = len }) q) there
        (subst (λ (z : ℤ). Moves second (record { a = b; a_start = b_at; b = a; b_start = z; len = len }) q) here (subst (λ (p : Pair). Moves second p q) back two))
