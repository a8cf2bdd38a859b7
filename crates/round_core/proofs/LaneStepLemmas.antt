-- What each allowed event leaves true in its lane.
use Rattle.std.proofs.Common.{◌≡◌, ◌≢◌, ℕ, ◌+◌, ◌<◌, true, false, List, length, refl, sym, ap, ◌∙◌, ◌==◌, subst, inl, inr}
use Rattle.std.specs.Prelude.{◌⊎◌, Option, Some}
use Rattle.std.specs.List.{list_any}
use Rattle.std.specs.FinSet as sets
use Rattle.std.specs.Ordering.{nat_cmp}
use Rattle.std.proofs.lemmas.Bool.{eqb-true, eq-eqb, true≢false, ltb-true, and_parts, not-true, both_ways}
use Rattle.round_core.specs.declared.lane.Slot.{Slot}
use Rattle.round_core.specs.declared.lane.Slot.TheVariants.{Empty, Taken, Filled}
use Rattle.round_core.specs.declared.event.Event.{Event}
use Rattle.round_core.specs.declared.event.Event.TheVariants.{Load, Claim, GiveUp, Publish, Enter, Leave, Take, Put}
use Rattle.round_core.specs.Event.{lane_of, seat_of, slot_of}
use Rattle.round_core.specs.State.{LaneState, slot_at, is_taken_by, is_filled_with, is_read_by, is_seat}
use Rattle.round_core.specs.Protocol.{has_taken, holds_next, reads_in, has_slot, allows, with_slot, entered, left, after}
use Rattle.round_core.specs.Laws.{round_of}
use Rattle.round_core.proofs.ListLemmas.{none_at, at_set}
use Rattle.round_core.proofs.SlotLemmas.{taken-entered, taken-left, filled-entered, filled-left, round-entered, round-left, read-entered, read_kept-entered, read-left, read_kept-left, taken-not_filled, taken-not_read, free-not_read}
use Rattle.round_core.proofs.LaneLemmas.{LaneKept, none_taken, kept_load, kept_claim, kept_give_up, kept_publish, kept_slot}

-- a slot changes and is taken and filled as before
kept_same : (seats : ℕ) (l : LaneState) (slot : ℕ) (y : Slot) → LaneKept seats l → slot < length l.slots
    → ((a : ℕ) → is_taken_by y a ≡ is_taken_by (slot_at l slot) a)
    → ((n : ℕ) → is_filled_with y n ≡ is_filled_with (slot_at l slot) n)
    → ((a : ℕ) → is_read_by y a ≡ true → a < seats)
    → LaneKept seats (with_slot l slot y)
kept_same seats l slot y h exists taken filled readers =
    kept_slot seats l slot y h exists
    (λ is. filled l.word.round ∙ subst (λ k. is_filled_with (slot_at l k) l.word.round ≡ true) is h.filled)
    (λ a t. h.taker slot a (sym (taken a) ∙ t))
    (λ m a b t _ other. h.one_taken slot m a b (sym (taken a) ∙ t) other)
    (λ m a t. h.apart slot m a (sym (taken a) ∙ t))
    (λ a t. filled (l.word.round + 1) ∙ h.apart slot slot a (sym (taken a) ∙ t))
    (λ k a _ t. filled (l.word.round + 1) ∙ h.apart k slot a t)
    readers

kept_enter : (seats : ℕ) (l : LaneState) (seat slot : ℕ) → LaneKept seats l → seat < seats → slot < length l.slots → LaneKept seats (with_slot l slot (entered (slot_at l slot) seat))
kept_enter seats l seat slot h in_range exists =
    kept_same seats l slot (entered (slot_at l slot) seat) h exists (taken-entered (slot_at l slot) seat) (filled-entered (slot_at l slot) seat)
    (λ a r. elim (read-entered (slot_at l slot) seat a r) [ inl is ↦ subst (λ b. b < seats) (sym is) in_range | inr old ↦ h.readers slot a old ])

kept_leave : (seats : ℕ) (l : LaneState) (seat slot : ℕ) → LaneKept seats l → slot < length l.slots → LaneKept seats (with_slot l slot (left (slot_at l slot) seat))
kept_leave seats l seat slot h exists =
    kept_same seats l slot (left (slot_at l slot) seat) h exists (taken-left (slot_at l slot) seat) (filled-left (slot_at l slot) seat)
    (λ a r. h.readers slot a (read-left (slot_at l slot) seat a r))

kept_take : (seats : ℕ) (l : LaneState) (seat slot : ℕ) → LaneKept seats l → slot < length l.slots
    → is_seat l.claimer seat ≡ true → has_taken l seat ≡ false → holds_next l ≡ false → (slot == l.word.slot) ≡ false → LaneKept seats (with_slot l slot (Taken seat))
kept_take seats l seat slot h exists claims none next other =
    kept_slot seats l slot (Taken seat) h exists
    (λ is. absurd (true≢false (sym (eq-eqb slot l.word.slot (sym is)) ∙ other)))
    (λ a t. subst (λ b. is_seat l.claimer b ≡ true) (eqb-true seat a t) claims)
    (λ m a b _ _ t. absurd (none_taken seats l seat h claims none m b t))
    (λ m a _. none_at (λ x. is_filled_with x (l.word.round + 1)) l.slots Empty refl next m)
    (λ _ _. refl)
    (λ _ _ _ _. refl)
    (λ a r. absurd (true≢false (sym r)))

kept_put : (seats : ℕ) (l : LaneState) (seat slot round : ℕ) → LaneKept seats l → slot < length l.slots → is_taken_by (slot_at l slot) seat ≡ true → LaneKept seats (with_slot l slot (Filled round sets.empty))
kept_put seats l seat slot round h exists taken =
    kept_slot seats l slot (Filled round sets.empty) h exists
    (λ is. absurd (both_ways _ (taken-not_filled (slot_at l slot) seat l.word.round taken) (subst (λ k. is_filled_with (slot_at l k) l.word.round ≡ true) is h.filled)))
    (λ a t. absurd (true≢false (sym t)))
    (λ m a b t _ _. absurd (true≢false (sym t)))
    (λ m a t. absurd (true≢false (sym t)))
    (λ a t. absurd (true≢false (sym t)))
    (λ k a ne t. absurd (ne (h.one_taken k slot a seat t taken)))
    (λ a r. absurd (true≢false (sym r ∙ sets.contains-empty nat_cmp a)))

-- what the lane keeps, it keeps
pub kept-after : (seats : ℕ) (s : List LaneState) (l : LaneState) (e : Event) → LaneKept seats l → seat_of e < seats → has_slot l (slot_of e) ≡ true → allows s l e ≡ true → LaneKept seats (after l e)
kept-after seats s l (Load lane seat) h in_range exists row = kept_load seats l seat h in_range
kept-after seats s l (Claim lane seat) h in_range exists row = kept_claim seats l seat h in_range (not-true _ ((and_parts _ _ ((and_parts _ _ row).0)).0)) (ltb-true l.word.round 4294967295 ((and_parts _ _ ((and_parts _ _ row).0)).1))
kept-after seats s l (GiveUp lane seat) h in_range exists row = kept_give_up seats l seat h in_range ((and_parts _ _ ((and_parts _ _ row).0)).0) (not-true _ ((and_parts _ _ ((and_parts _ _ row).0)).1))
kept-after seats s l (Publish lane seat slot) h in_range exists row = kept_publish seats l seat slot h in_range ((and_parts _ _ row).0) ((and_parts _ _ row).1)
kept-after seats s l (Enter lane seat slot) h in_range exists row = kept_enter seats l seat slot h in_range (ltb-true slot _ exists)
kept-after seats s l (Leave lane seat slot) h in_range exists row = kept_leave seats l seat slot h (ltb-true slot _ exists)
kept-after seats s l (Take lane seat slot) h in_range exists row =
    let claims_it = (and_parts _ _ ((and_parts _ _ row).0)).0 in
    kept_take seats l seat slot h (ltb-true slot _ exists) ((and_parts _ _ ((and_parts _ _ claims_it).0)).0) (not-true _ ((and_parts _ _ ((and_parts _ _ claims_it).0)).1)) (not-true _ ((and_parts _ _ claims_it).1)) (not-true _ ((and_parts _ _ ((and_parts _ _ row).0)).1))
kept-after seats s l (Put lane seat slot round) h in_range exists row = kept_put seats l seat slot round h (ltb-true slot _ exists) ((and_parts _ _ row).0)

-- a seat that comes to read a slot, which read nothing before
pub record Entered (s : List LaneState) (e : Event) (slot seat : ℕ) : Type 0 where
  pub slot_is : slot_of e ≡ Some slot
  pub fresh : list_any (reads_in seat) s ≡ false

-- who reads a slot after the event read it before, or has entered it
pub read-after : (s : List LaneState) (l : LaneState) (e : Event) (k a : ℕ) → has_slot l (slot_of e) ≡ true → allows s l e ≡ true → is_read_by (slot_at (after l e) k) a ≡ true → (is_read_by (slot_at l k) a ≡ true) ⊎ Entered s e k a
read-after s l (Load lane seat) k a exists row r = inl r
read-after s l (Claim lane seat) k a exists row r = inl r
read-after s l (GiveUp lane seat) k a exists row r = inl r
read-after s l (Publish lane seat slot) k a exists row r = inl r
read-after s l (Enter lane seat slot) k a exists row r =
    at_set (λ x. is_read_by x a ≡ true → (is_read_by (slot_at l k) a ≡ true) ⊎ Entered s (Enter lane seat slot) k a) l.slots slot (entered (slot_at l slot) seat) Empty k (ltb-true slot _ exists)
    (λ is now. elim (read-entered (slot_at l slot) seat a now) [
      | inl a_is ↦ inr (record { slot_is = ap Some (sym is); fresh = subst (λ b. list_any (reads_in b) s ≡ false) (sym a_is) (not-true _ ((and_parts _ _ ((and_parts _ _ row).0)).0)) })
      | inr old ↦ inl (subst (λ m. is_read_by (slot_at l m) a ≡ true) (sym is) old)
    ])
    (λ _ old. inl old) r
read-after s l (Leave lane seat slot) k a exists row r =
    at_set (λ x. is_read_by x a ≡ true → (is_read_by (slot_at l k) a ≡ true) ⊎ Entered s (Leave lane seat slot) k a) l.slots slot (left (slot_at l slot) seat) Empty k (ltb-true slot _ exists)
    (λ is now. inl (subst (λ m. is_read_by (slot_at l m) a ≡ true) (sym is) (read-left (slot_at l slot) seat a now)))
    (λ _ old. inl old) r
read-after s l (Take lane seat slot) k a exists row r =
    at_set (λ x. is_read_by x a ≡ true → (is_read_by (slot_at l k) a ≡ true) ⊎ Entered s (Take lane seat slot) k a) l.slots slot (Taken seat) Empty k (ltb-true slot _ exists)
    (λ _ now. absurd (true≢false (sym now)))
    (λ _ old. inl old) r
read-after s l (Put lane seat slot round) k a exists row r =
    at_set (λ x. is_read_by x a ≡ true → (is_read_by (slot_at l k) a ≡ true) ⊎ Entered s (Put lane seat slot round) k a) l.slots slot (Filled round sets.empty) Empty k (ltb-true slot _ exists)
    (λ _ now. absurd (true≢false (sym now ∙ sets.contains-empty nat_cmp a)))
    (λ _ old. inl old) r

-- a seat reads a slot that is filled with this round, if any
pub record ReadsRound (x : Slot) (seat : ℕ) (round : Option ℕ) : Type 0 where
  pub reader : is_read_by x seat ≡ true
  pub round_is : round_of x ≡ round

-- a slot that is read keeps its reader and its round, unless the reader leaves
pub reads_round-after : (s : List LaneState) (l : LaneState) (e : Event) (k a : ℕ) (n : Option ℕ) → has_slot l (slot_of e) ≡ true → allows s l e ≡ true → e ≢ Leave (lane_of e) a k → ReadsRound (slot_at l k) a n → ReadsRound (slot_at (after l e) k) a n
reads_round-after s l (Load lane seat) k a n exists row stays h = record { reader = h.reader; round_is = h.round_is }
reads_round-after s l (Claim lane seat) k a n exists row stays h = record { reader = h.reader; round_is = h.round_is }
reads_round-after s l (GiveUp lane seat) k a n exists row stays h = record { reader = h.reader; round_is = h.round_is }
reads_round-after s l (Publish lane seat slot) k a n exists row stays h = record { reader = h.reader; round_is = h.round_is }
reads_round-after s l (Enter lane seat slot) k a n exists row stays h =
    at_set (λ x. ReadsRound x a n) l.slots slot (entered (slot_at l slot) seat) Empty k (ltb-true slot _ exists)
    (λ is. let before = subst (λ m. ReadsRound (slot_at l m) a n) is h in record { reader = read_kept-entered (slot_at l slot) seat a before.reader; round_is = round-entered (slot_at l slot) seat ∙ before.round_is })
    (λ _. h)
reads_round-after s l (Leave lane seat slot) k a n exists row stays h =
    at_set (λ x. ReadsRound x a n) l.slots slot (left (slot_at l slot) seat) Empty k (ltb-true slot _ exists)
    (λ is. let before = subst (λ m. ReadsRound (slot_at l m) a n) is h in record {
      reader = read_kept-left (slot_at l slot) seat a (λ a_is. stays (ap (λ b. Leave lane b slot) (sym a_is) ∙ ap (Leave lane a) (sym is))) before.reader;
      round_is = round-left (slot_at l slot) seat ∙ before.round_is;
    })
    (λ _. h)
reads_round-after s l (Take lane seat slot) k a n exists row stays h =
    at_set (λ x. ReadsRound x a n) l.slots slot (Taken seat) Empty k (ltb-true slot _ exists)
    (λ is. let before = subst (λ m. ReadsRound (slot_at l m) a n) is h in absurd (both_ways _ (free-not_read (slot_at l slot) a ((and_parts _ _ row).1)) before.reader))
    (λ _. h)
reads_round-after s l (Put lane seat slot round) k a n exists row stays h =
    at_set (λ x. ReadsRound x a n) l.slots slot (Filled round sets.empty) Empty k (ltb-true slot _ exists)
    (λ is. let before = subst (λ m. ReadsRound (slot_at l m) a n) is h in absurd (both_ways _ (taken-not_read (slot_at l slot) seat a ((and_parts _ _ row).0)) before.reader))
    (λ _. h)
