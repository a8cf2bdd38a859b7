-- What every state keeps that events lead to from the start.
use Rattle.std.proofs.Common.{◌≡◌, ◌≢◌, ℕ, zero, suc, ◌+◌, ◌<◌, true, false, List, [], ◌∷◌, length, get_or, refl, sym, ap, ◌∙◌, subst, arith, inl, inr, length-set, lit<}
use Rattle.std.specs.Prelude.{◌⊎◌, Option, None, Some, replicate}
use Rattle.std.specs.List.{list_any}
use Rattle.std.specs.FinSet as sets
use Rattle.std.specs.Ordering.{nat_cmp}
use Rattle.std.proofs.lemmas.Bool.{true≢false, ltb-true, cond_both, and_parts, both_ways}
use Rattle.std.proofs.lemmas.List.{length-replicate, get_or-replicate}
use Rattle.std.proofs.lemmas.Option.{same_Some}
use Rattle.round_core.specs.declared.word.Word.{Word}
use Rattle.round_core.specs.declared.lane.Slot.{Slot}
use Rattle.round_core.specs.declared.lane.Slot.TheVariants.{Empty, Filled}
use Rattle.round_core.specs.declared.event.Event.{Event}
use Rattle.round_core.specs.Event.{lane_of, seat_of, slot_of}
use Rattle.round_core.specs.State.{LaneState, lane_at, no_lane, slot_at, is_taken_by, is_filled_with, is_read_by, is_seat}
use Rattle.round_core.specs.Protocol.{first_lane, start, reads_in, has_slot, has_place, allows, is_allowed, after, change, happens, run}
use Rattle.round_core.specs.Laws.{IsNoNewer, reads, reached}
use Rattle.round_core.proofs.ListLemmas.{none_at, at_set}
use Rattle.round_core.proofs.LaneLemmas.{LaneKept}
use Rattle.round_core.proofs.LaneStepLemmas.{Entered, kept-after, read-after}

pub record Kept (lanes seats : ℕ) (s : List LaneState) : Type 0 where
  pub count : length s ≡ lanes
  pub each : (i : ℕ) → i < length s → LaneKept seats (lane_at s i)
  pub one : (i j k m a : ℕ) → reads s i k a ≡ true → reads s j m a ≡ true → (i ≡ j) × (k ≡ m)

-- what an allowed event has
pub record Placed (s : List LaneState) (e : Event) : Type 0 where
  pub lane : lane_of e < length s
  pub seat : seat_of e < length (lane_at s (lane_of e)).loaded
  pub slot : has_slot (lane_at s (lane_of e)) (slot_of e) ≡ true
  pub row : allows s (lane_at s (lane_of e)) e ≡ true

pub placed : (s : List LaneState) (e : Event) → is_allowed s e ≡ true → Placed s e
placed s e h =
    let there = (and_parts (has_place s e) (allows s (lane_at s (lane_of e)) e) h).0 in
    record {
      lane = ltb-true _ _ ((and_parts _ _ ((and_parts _ _ there).0)).0);
      seat = ltb-true _ _ ((and_parts _ _ ((and_parts _ _ there).0)).1);
      slot = (and_parts _ _ there).1;
      row = (and_parts (has_place s e) (allows s (lane_at s (lane_of e)) e) h).1;
    }

-- a fact of a lane after an allowed event
pub at_lane : (P : LaneState → Type 0) (s : List LaneState) (e : Event) (i : ℕ) → lane_of e < length s
    → (i ≡ lane_of e → P (after (lane_at s (lane_of e)) e)) → (i ≢ lane_of e → P (lane_at s i)) → P (lane_at (change s e) i)
at_lane P s e i h here apart = at_set P s (lane_of e) (after (lane_at s (lane_of e)) e) no_lane i h here apart

-- a seat that read nothing reads no slot
nothing_read : (s : List LaneState) (i k a : ℕ) → list_any (reads_in a) s ≡ false → reads s i k a ≡ false
nothing_read s i k a fresh = none_at (λ x. is_read_by x a) (lane_at s i).slots Empty refl (none_at (reads_in a) s no_lane refl fresh i) k

pub record Newcomer (s : List LaneState) (e : Event) (lane slot seat : ℕ) : Type 0 where
  pub lane_is : lane ≡ lane_of e
  pub entered : Entered s e slot seat

came : (s : List LaneState) (e : Event) → Placed s e → (i k a : ℕ) → reads (change s e) i k a ≡ true → (reads s i k a ≡ true) ⊎ Newcomer s e i k a
came s e p i k a = at_lane (λ l. is_read_by (slot_at l k) a ≡ true → (reads s i k a ≡ true) ⊎ Newcomer s e i k a) s e i p.lane
    (λ is now. elim (read-after s (lane_at s (lane_of e)) e k a p.slot p.row now) [
      | inl old ↦ inl (subst (λ j. reads s j k a ≡ true) (sym is) old)
      | inr new ↦ inr (record { lane_is = is; entered = new })
    ])
    (λ _ old. inl old)

one_after : (s : List LaneState) (e : Event) (i j k m a : ℕ)
    → ((i j k m a : ℕ) → reads s i k a ≡ true → reads s j m a ≡ true → (i ≡ j) × (k ≡ m))
    → (reads s i k a ≡ true) ⊎ Newcomer s e i k a → (reads s j m a ≡ true) ⊎ Newcomer s e j m a → (i ≡ j) × (k ≡ m)
one_after s e i j k m a one (inl x) (inl y) = one i j k m a x y
one_after s e i j k m a one (inl x) (inr y) = absurd (both_ways _ (nothing_read s i k a y.entered.fresh) x)
one_after s e i j k m a one (inr x) (inl y) = absurd (both_ways _ (nothing_read s j m a x.entered.fresh) y)
one_after s e i j k m a one (inr x) (inr y) = (x.lane_is ∙ sym y.lane_is, same_Some k m (sym x.entered.slot_is ∙ y.entered.slot_is))

kept-change : (lanes seats : ℕ) (s : List LaneState) (e : Event) → Kept lanes seats s → Placed s e → Kept lanes seats (change s e)
kept-change lanes seats s e h p = record {
  count = length-set s (lane_of e) (after (lane_at s (lane_of e)) e) ∙ h.count;
  each = λ i in_range. at_lane (λ l. LaneKept seats l) s e i p.lane
      (λ _. let lane = h.each (lane_of e) p.lane in kept-after seats s (lane_at s (lane_of e)) e lane (omega (arith, p.seat, lane.seats_known)) p.slot p.row)
      (λ _. h.each i (omega (arith, length-set s (lane_of e) (after (lane_at s (lane_of e)) e), in_range)));
  one = λ i j k m a x y. one_after s e i j k m a h.one (came s e p i k a x) (came s e p j m a y);
}

pub kept-happens : (lanes seats : ℕ) (s : List LaneState) (e : Event) → Kept lanes seats s → Kept lanes seats (happens s e)
kept-happens lanes seats s e h = cond_both (is_allowed s e) (change s e) s (Kept lanes seats) (λ allowed. kept-change lanes seats s e h (placed s e allowed)) (λ _. h)

kept-run : (lanes seats : ℕ) (es : List Event) (s : List LaneState) → Kept lanes seats s → Kept lanes seats (run es s)
kept-run lanes seats [] s h = h
kept-run lanes seats (e ∷ es) s h = kept-run lanes seats es (happens s e) (kept-happens lanes seats s e h)

-- an element of a list of copies is the copy, or what stands for an element past the end
at_replicate : {X : Type 0} (P : X → Type 0) (n k : ℕ) (x d : X) → P x → P d → P (get_or (replicate n x) k d)
at_replicate P zero k x d px pd = pd
at_replicate P (suc n) zero x d px pd = px
at_replicate P (suc n) (suc k) x d px pd = at_replicate P n k x d px pd

-- a slot of the first lane is filled with round 0 and read by nobody, or empty
at_first : (P : Slot → Type 0) (seats k : ℕ) → (k ≡ 0 → P (Filled 0 sets.empty)) → P Empty → P (slot_at (first_lane seats) k)
at_first P seats zero first rest = first refl
at_first P seats (suc k) first rest = at_replicate P (seats + 1) k Empty Empty rest rest

first_kept : (seats : ℕ) → LaneKept seats (first_lane seats)
first_kept seats = record {
  slots = ap suc (length-replicate (seats + 1) Empty) ∙ omega arith;
  seats_known = length-replicate seats None;
  filled = refl;
  marked = refl;
  fits = lit< tt;
  limit = λ claimed. absurd (true≢false (sym claimed));
  claimer = λ a is. absurd (true≢false (sym is));
  taker = λ k a. at_first (λ x. is_taken_by x a ≡ true → is_seat None a ≡ true) seats k (λ _ t. t) (λ t. t);
  one_taken = λ k m a b. at_first (λ x. is_taken_by x a ≡ true → is_taken_by (slot_at (first_lane seats) m) b ≡ true → k ≡ m) seats k (λ _ t. absurd (true≢false (sym t))) (λ t. absurd (true≢false (sym t)));
  apart = λ k m a. at_first (λ x. is_taken_by x a ≡ true → is_filled_with (slot_at (first_lane seats) m) 1 ≡ false) seats k (λ _ t. absurd (true≢false (sym t))) (λ t. absurd (true≢false (sym t)));
  loaded = λ a w. at_replicate (λ (o : Option Word). o ≡ Some w → IsNoNewer w (first_lane seats).word) seats a None None (λ e. absurd (cc)) (λ e. absurd (cc));
  readers = λ k a. at_first (λ x. is_read_by x a ≡ true → a < seats) seats k (λ _ r. absurd (true≢false (sym r ∙ sets.contains-empty nat_cmp a))) (λ r. absurd (true≢false (sym r)));
}

nobody_reads : (lanes seats i k a : ℕ) → reads (start lanes seats) i k a ≡ false
nobody_reads lanes seats i k a =
    at_replicate (λ l. is_read_by (slot_at l k) a ≡ false) lanes i (first_lane seats) no_lane
    (at_first (λ x. is_read_by x a ≡ false) seats k (λ _. sets.contains-empty nat_cmp a) refl)
    refl

start_kept : (lanes seats : ℕ) → Kept lanes seats (start lanes seats)
start_kept lanes seats = record {
  count = length-replicate lanes (first_lane seats);
  each = λ i in_range. let here : i < lanes = omega (arith, in_range, length-replicate lanes (first_lane seats)) in subst (λ l. LaneKept seats l) (sym (get_or-replicate lanes i (first_lane seats) no_lane here)) (first_kept seats);
  one = λ i j k m a x _. absurd (both_ways _ (nobody_reads lanes seats i k a) x);
}

-- every state that events lead to keeps it
pub kept : (lanes seats : ℕ) (es : List Event) → Kept lanes seats (reached lanes seats es)
kept lanes seats es = kept-run lanes seats es (start lanes seats) (start_kept lanes seats)
