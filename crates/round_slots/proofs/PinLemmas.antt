-- Several loads of one lane, and what a row's slots admit.
use Rattle.std.proofs.Common.{◌≡◌, ℕ, zero, suc, ◌+◌, ◌<◌, Option, Some, None, List, [], ◌∷◌, ◌++◌, length, get_or, set, refl, sym, ap, ◌∙◌, subst, arith}
use lib.Seq.{set-get_or}
use Rattle.std.specs.Prelude.{Vec}
use Rattle.std.specs.declared.alloc.Global.{Global}
use Rattle.std.proofs.lemmas.List.Elements.{All-from_recursion}
use Rattle.atomic_table.specs.Seated.{TableId}
use Rattle.round_core.specs.declared.word.Word.{Word}
use Rattle.round_slots.specs.declared.view.LaneView.{LaneView}
use Rattle.round_slots.specs.declared.view.LaneTag.{LaneTag}
use Rattle.round_slots.specs.declared.view.Known.{Known}
use Rattle.round_slots.specs.declared.view.Key.{Key}
use Rattle.round_slots.specs.View.{no_view, lane_of, with_lane, saw}
use Rattle.round_slots.specs.Rule.{AgreesWith}
use Rattle.round_slots.specs.Seats.{Place, Sits, Becomes, Loads, Pins, view_in}
use Rattle.round_slots.specs.Rows.{Admits, IsRow, AreRows, Shows}
use Rattle.round_slots.specs.declared.slots.Held.{Held}
use Rattle.round_slots.proofs.ListLemmas.{all_map}
use Rattle.round_slots.proofs.ClaimLemmas.{changed_view}

set_twice : {X : Type 0} (xs : List X) (i : ℕ) (a b : X) → set (set xs i a) i b ≡ set xs i b
set_twice [] i a b = refl
set_twice (x ∷ xs) zero a b = refl
set_twice (x ∷ xs) (suc i) a b = ap (λ ys. x ∷ ys) (set_twice xs i a b)

append_none : {X : Type 0} (xs : List X) → xs ++ [] ≡ xs
append_none [] = refl
append_none (x ∷ xs) = ap (λ ys. x ∷ ys) (append_none xs)

append_more : {X : Type 0} (xs ys zs : List X) → (xs ++ ys) ++ zs ≡ xs ++ (ys ++ zs)
append_more [] ys zs = refl
append_more (x ∷ xs) ys zs = ap (λ ts. x ∷ ts) (append_more xs ys zs)

pub plus_zero : (n : ℕ) → n ≡ n + zero
plus_zero n = omega arith

pub plus_suc : (n k : ℕ) → (n + 1) + k ≡ n + suc k
plus_suc n k = omega arith

pub zero_plus : (n : ℕ) → 0 + n ≡ n
zero_plus n = omega arith

-- a view that saw nothing more is the same
saw_none : (a : LaneView) → saw a [] ≡ a
saw_none a = ap (λ ws. let b : LaneView = record a { seen = ws } in b) (append_none a.seen)

saw_more : (a : LaneView) (ws vs : List Word) → saw (saw a ws) vs ≡ saw a (ws ++ vs)
saw_more a ws vs = ap (λ us. let b : LaneView = record a { seen = us } in b) (append_more a.seen ws vs)

-- a claim shows one value
pub shows_one : {T : Type 0} (o : Option (Option (Held T))) (x y : T) → Shows o x → Shows o y → x ≡ y
shows_one None x y p q = absurd p
shows_one (Some None) x y p q = absurd p
shows_one (Some (Some h)) x y p q = sym p ∙ q

module _ {G : Type 0} where
  same_lane : (o : Option (Known G)) (lane : ℕ) → o ≡ with_lane o lane (lane_of o lane)
  same_lane None lane = refl
  same_lane (Some v) lane = ap (λ ls. let w : Known G = record v { lanes = ls } in Some w) (sym (set-get_or v.lanes lane no_view))

  lane_twice : (o : Option (Known G)) (lane : ℕ) (a b : LaneView) → with_lane (with_lane o lane a) lane b ≡ with_lane o lane b
  lane_twice None lane a b = refl
  lane_twice (Some v) lane a b = ap (λ ls. let w : Known G = record v { lanes = ls } in Some w) (set_twice v.lanes lane a b)

  -- no load yet
  pub no_loads : (old : Place G) (lane : ℕ) → Becomes old old lane (saw (view_in old lane) [])
  no_loads old lane = (refl, refl, same_lane old.me.0 lane ∙ ap (with_lane old.me.0 lane) (sym (saw_none (view_in old lane))))

  module _ (possible : G → ℕ → ℕ → Type 0) (id : TableId) (key : Key G) where
    -- one more
    pub one_load : (old mid new : Place G) (lane : ℕ) (ws : List Word) (w : Word) → Sits possible id key old → lane < key.lanes
        → Becomes old mid lane (saw (view_in old lane) ws) → Loads key mid new lane w
        → AgreesWith key.seats w (saw (view_in old lane) ws) × Becomes old new lane (saw (view_in old lane) (ws ++ (w ∷ [])))
    one_load old mid new lane ws w s inside b l =
        let is = changed_view possible id key old mid lane (saw (view_in old lane) ws) s inside b.2 in (
          subst (AgreesWith key.seats w) is l.agrees,
          (
            l.view.0 ∙ b.0,
            l.view.1 ∙ b.1,
            l.view.2 ∙ (ap (λ o. with_lane o lane (saw (view_in mid lane) (w ∷ []))) b.2
                ∙ (lane_twice old.me.0 lane (saw (view_in old lane) ws) (saw (view_in mid lane) (w ∷ []))
                ∙ (ap (λ a. with_lane old.me.0 lane (saw a (w ∷ []))) is
                ∙ ap (with_lane old.me.0 lane) (saw_more (view_in old lane) ws (w ∷ []))))),
          ),
        )

    pub pins_at : (old mid new : Place G) (lane : ℕ) (ws : List Word) (w : Word) (round : ℕ) → Sits possible id key old → lane < key.lanes
        → Becomes old mid lane (saw (view_in old lane) ws) → Loads key mid new lane w → w.round ≡ round → Pins key old new lane round
    pins_at old mid new lane ws w round s inside b l e = let t = one_load old mid new lane ws w s inside b l in record { before = ws; last = w; agrees = t.0; view = t.1; round_is = e }

  rows_from : (key : Key G) (rows : List (Vec (LaneTag G) Global)) (first k : ℕ) (d : Vec (LaneTag G) Global) → AreRows key first rows → k < length rows → IsRow key (first + k) (get_or rows k d).items
  rows_from key [] first k d h lt = absurd (omega arith)
  rows_from key (row ∷ rows) first zero d h lt = subst (λ n. IsRow key n row.items) (plus_zero first) h.0
  rows_from key (row ∷ rows) first (suc k) d h lt = subst (λ n. IsRow key n (get_or rows k d).items) (plus_suc first k) (rows_from key rows (first + 1) k d h.1 (omega arith))

  pub row_of : (key : Key G) (rows : List (Vec (LaneTag G) Global)) (k : ℕ) (row : Vec (LaneTag G) Global) → AreRows key 0 rows → k < length rows → row ≡ get_or rows k row → IsRow key k row.items
  row_of key rows k row h lt e = subst (λ r. IsRow key k r.items) (sym e) (subst (λ n. IsRow key n (get_or rows k row).items) (zero_plus k) (rows_from key rows 0 k row h lt))

  -- a value that belongs to the tag and the lane is admitted by each slot
  pub admits : {T : Type 0} (belongs : G → ℕ → T → Type 0) (key : Key G) (lane : ℕ) (x : T) (row : List (LaneTag G)) → IsRow key lane row → belongs key.tag.value lane x → Admits belongs x row
  admits belongs key lane x row h b = all_map _ (λ tag. belongs tag.tag.value tag.lane x) (λ tag t. subst (λ g. belongs g tag.lane x) (sym t.0) (subst (λ l. belongs key.tag.value l x) (sym t.1) b)) row h.1

  -- what a slot holds belongs to the tag and the lane
  pub belongs_there : {T : Type 0} (belongs : G → ℕ → T → Type 0) (key : Key G) (lane k : ℕ) (x : T) (tag : LaneTag G) (row : List (LaneTag G)) → IsRow key lane row → k < length row → tag ≡ get_or row k tag
      → belongs tag.tag.value tag.lane x → belongs key.tag.value lane x
  belongs_there belongs key lane k x tag row h lt e b =
      let t = subst (λ z. (z.tag.value ≡ key.tag.value) × (z.lane ≡ lane)) (sym e) (All-from_recursion _ row h.1 k tag lt) in
      subst (λ g. belongs g lane x) t.0 (subst (λ l. belongs tag.tag.value l x) t.1 b)
