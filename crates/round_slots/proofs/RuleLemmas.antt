-- A step of one seat on one lane's word keeps the rule.
use Rattle.std.proofs.Common.{◌≡◌, ◌≢◌, ℕ, ◌<◌, ⊎_elim, Option, Some, List, length, get_or, set, sym, ◌∙◌, subst, arith, length-set, get_or-set_same, get_or-set_other}
use mathlib.Core.Logic.{dite}
use mathlib.Core.Option.{some, none}
use mathlib.Core.Option as maybe
use native.Mathlib.Decide.{ℕ_discrete}
use lib.ListN.{get_elem?}
use Rattle.atomic_table.specs.Table.{State}
use Rattle.atomic_table.proofs.Lists.{at_set}
use Rattle.round_core.specs.declared.word.Word.{Word}
use Rattle.round_core.specs.Word.{unpacked}
use Rattle.round_slots.specs.declared.view.LaneView.{LaneView}
use Rattle.round_slots.specs.declared.view.Known.{Known}
use Rattle.round_slots.specs.declared.view.Key.{Key}
use Rattle.round_slots.specs.View.{no_view, lane_of, with_lane}
use Rattle.round_slots.specs.Rule.{AgreesWith, IsApart, word_of, Knows, Keeps}
use Rattle.round_slots.proofs.ListLemmas.{apart_sym}
use Rattle.std.proofs.lemmas.Option.{same_Some}

pub is_apart_sym : (a b : LaneView) → IsApart a b → IsApart b a
is_apart_sym a b h = record { turns = λ x y p q. h.turns y x q p; made = apart_sym a.made b.made h.made }

-- one word and one view were changed, at the same place
both_at : (P : Word → LaneView → Type 0) (words : List ℕ) (views : List LaneView) (lane n : ℕ) (a : LaneView) (k : ℕ) → lane < length words → lane < length views
    → (k ≡ lane → P (unpacked n) a) → (k ≢ lane → P (word_of words k) (get_or views k no_view)) → P (word_of (set words lane n) k) (get_or (set views lane a) k no_view)
both_at P words views lane n a k h g here apart = dite (ℕ_discrete k lane)
    (λ e. subst (λ m. P (word_of (set words lane n) m) (get_or (set views lane a) m no_view)) (sym e)
    (subst (λ x. P (unpacked x) (get_or (set views lane a) lane no_view)) (sym (get_or-set_same words lane n 0 h))
    (subst (P (unpacked n)) (sym (get_or-set_same views lane a no_view g)) (here e))))
    (λ ne. subst (λ x. P (unpacked x) (get_or (set views lane a) k no_view)) (sym (get_or-set_other words lane k n 0 ne))
    (subst (P (word_of words k)) (sym (get_or-set_other views lane k a no_view ne)) (apart ne)))

-- one word was changed
word_at : (P : Word → Type 0) (words : List ℕ) (lane n k : ℕ) → lane < length words → (k ≡ lane → P (unpacked n)) → (k ≢ lane → P (word_of words k)) → P (word_of (set words lane n) k)
word_at P words lane n k h here apart = dite (ℕ_discrete k lane)
    (λ e. subst (λ m. P (word_of (set words lane n) m)) (sym e) (subst (λ x. P (unpacked x)) (sym (get_or-set_same words lane n 0 h)) (here e)))
    (λ ne. subst (λ x. P (unpacked x)) (sym (get_or-set_other words lane k n 0 ne)) (apart ne))

-- one view was changed
pub view_at : (P : LaneView → Type 0) (views : List LaneView) (lane : ℕ) (a : LaneView) (k : ℕ) → lane < length views → (k ≡ lane → P a) → (k ≢ lane → P (get_or views k no_view)) → P (get_or (set views lane a) k no_view)
view_at P views lane a k g here apart = dite (ℕ_discrete k lane)
    (λ e. subst (λ m. P (get_or (set views lane a) m no_view)) (sym e) (subst P (sym (get_or-set_same views lane a no_view g)) (here e)))
    (λ ne. subst P (sym (get_or-set_other views lane k a no_view ne)) (apart ne))

module _ {G : Type 0} (possible : G → ℕ → ℕ → Type 0) (key : Key G) where
  -- what a step from one word to another asks, of the seat that steps and of any other
  pub record Moves (lane : ℕ) (w to : Word) (a b : LaneView) : Type 0 where
    pub rounds : possible key.tag.value lane to.round
    pub mine : AgreesWith key.seats to b
    pub others : (other : LaneView) → 1 < key.seats → IsApart a other → AgreesWith key.seats w other → AgreesWith key.seats to other
    pub apart : (other : LaneView) → 1 < key.seats → IsApart a other → AgreesWith key.seats w other → IsApart b other

  pub moves : (s : State (Unit {0}) (Option (Known G))) (homes : List (maybe.Option (Unit {0}))) (i lane n : ℕ) (v : Known G) (b : LaneView)
      → Keeps key possible s
      → get_elem? s.views i ≡ some (Some v)
      → lane < key.lanes
      → Moves lane (word_of s.words lane) (unpacked n) (lane_of (Some v) lane) b
      → Keeps key possible record { words = set s.words lane n; homes = homes; views = set s.views i (with_lane (Some v) lane b) }
  moves s homes i lane n v b r at inside m = record {
    lanes = length-set s.words lane n ∙ r.lanes;
    rounds = λ k h. word_at (λ x. possible key.tag.value k x.round) s.words lane n k wide (λ e. subst (λ l. possible key.tag.value l (unpacked n).round) (sym e) m.rounds) (λ ne. r.rounds k h);
    knows = λ j x e. ⊎_elim (λ t. subst (Knows key words') (same_Some _ _ t.1) own) (λ t. known j x t.0 t.1) (at_set s.views i j (with_lane (Some v) lane b) (Some x) e);
    apart = λ j k x y ne e f. ⊎_elim
        (λ t. ⊎_elim (λ u. absurd (ne (t.0 ∙ sym u.0)))
        (λ u. subst (λ z. (1 < key.seats) × ((l : ℕ) → l < key.lanes → IsApart (lane_of (Some z) l) (lane_of (Some y) l))) (same_Some _ _ t.1) (beside k y u.0 u.1))
        (at_set s.views i k (with_lane (Some v) lane b) (Some y) f))
        (λ t. ⊎_elim
        (λ u. subst (λ z. (1 < key.seats) × ((l : ℕ) → l < key.lanes → IsApart (lane_of (Some x) l) (lane_of (Some z) l))) (same_Some _ _ u.1)
        (let q = beside j x t.0 t.1 in (q.0, λ l h. is_apart_sym _ _ (q.1 l h))))
        (λ u. r.apart j k x y ne t.1 u.1)
        (at_set s.views i k (with_lane (Some v) lane b) (Some y) f))
        (at_set s.views i j (with_lane (Some v) lane b) (Some x) e);
  } where
    words' : List ℕ
    words' = set s.words lane n

    wide : lane < length s.words
    wide = omega (arith, r.lanes)

    was : Knows key s.words v
    was = r.knows i v at

    deep : lane < length v.lanes
    deep = let l = was.lanes in omega arith

    v' : Known G
    v' = record v { lanes = set v.lanes lane b }

    own : Knows key words' v'
    own = record {
      tag = was.tag;
      seats = was.seats;
      lanes = length-set v.lanes lane b ∙ was.lanes;
      agrees = λ k h. both_at (AgreesWith key.seats) s.words v.lanes lane n b k wide deep (λ e. m.mine) (λ ne. was.agrees k h);
    }

    known : (j : ℕ) (x : Known G) → j ≢ i → get_elem? s.views j ≡ some (Some x) → Knows key words' x
    known j x ne e = let old = r.knows j x e in let q = r.apart i j v x (λ z. ne (sym z)) at e in record {
      tag = old.tag;
      seats = old.seats;
      lanes = old.lanes;
      agrees = λ k h. word_at (λ z. AgreesWith key.seats z (lane_of (Some x) k)) s.words lane n k wide
          (λ is. subst (λ l. AgreesWith key.seats (unpacked n) (lane_of (Some x) l)) (sym is) (m.others (lane_of (Some x) lane) q.0 (q.1 lane inside) (old.agrees lane inside)))
          (λ apart. old.agrees k h);
    }

    beside : (j : ℕ) (x : Known G) → j ≢ i → get_elem? s.views j ≡ some (Some x) → (1 < key.seats) × ((l : ℕ) → l < key.lanes → IsApart (lane_of (Some v') l) (lane_of (Some x) l))
    beside j x ne e = let old = r.knows j x e in let q = r.apart i j v x (λ z. ne (sym z)) at e in (
      q.0,
      λ k h. view_at (λ a. IsApart a (lane_of (Some x) k)) v.lanes lane b k deep
          (λ is. subst (λ l. IsApart b (lane_of (Some x) l)) (sym is) (m.apart (lane_of (Some x) lane) q.0 (q.1 lane inside) (old.agrees lane inside)))
          (λ apart. q.1 k h),
    )
