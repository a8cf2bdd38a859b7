-- The laws over every list of events.
use Rattle.std.proofs.Common.{◌≡◌, ◌≢◌, ℕ, zero, suc, ◌+◌, ◌<◌, ◌≤◌, Bool, true, false, cond, List, [], ◌∷◌, length, get_or, set, refl, sym, ap, ◌∙◌, ◌==◌, subst, ⊎_elim, arith, length-set}
use Rattle.std.specs.Prelude.{not, ◌&&◌, ◌||◌, nat_lt, Option, None, Some, is_some}
use Rattle.std.specs.List.{list_any, AllByRecursion}
use Rattle.std.proofs.lemmas.Bool.{eq-eqb, ne_eqb, lt-ltb, ltb-true, true≢false, cond_both, ltb-false, and_parts, and_from, not-true, both_ways, and_cases}
use Rattle.std.proofs.lemmas.List.{get_or_past, get_or-set_same}
use Rattle.round_core.specs.declared.word.Word.{Word}
use Rattle.round_core.specs.declared.lane.Slot.{Slot}
use Rattle.round_core.specs.declared.lane.Slot.TheVariants.{Empty}
use Rattle.round_core.specs.declared.event.Event.{Event}
use Rattle.round_core.specs.declared.event.Event.TheVariants.{Load, Claim, GiveUp, Publish, Enter, Leave, Take, Put}
use Rattle.round_core.specs.Event.{lane_of}
use Rattle.round_core.specs.State.{LaneState, lane_at, no_lane, slot_at, loaded_by, is_filled, is_filled_with, is_read_by, is_seat, names_slot}
use Rattle.round_core.specs.Protocol.{has_taken, holds_next, reads_in, allows, is_allowed, entered, after, change, happens, run}
use Rattle.round_core.specs.Laws.{reached, word_at, claims, round_of, round_in, HasPinned, publishes_in, ends_claim, ClaimLasts, IsNoNewer, ReadSlotKeepsRound, NamedSlotIsFilled, RoundRisesAtPublish, RoundNeverFalls, WordFits, OneClaimer, ClaimerIsMarked, ClaimerAloneChangesWord, LoadedWordIsNoNewer, FreeSlotForClaimer, EnteredSlotIsPinned, LoadedSlotIsPinned}
use Rattle.round_core.proofs.SlotLemmas.{round_of-filled, filled-round_of, read-has_round, round-entered, read_same-entered}
use Rattle.round_core.proofs.LaneLemmas.{LaneKept, seat_is, no_seat, none_taken}
use Rattle.round_core.proofs.LaneStepLemmas.{ReadsRound, reads_round-after}
use Rattle.round_core.proofs.StateLemmas.{Kept, Placed, placed, at_lane, kept, kept-happens}
use Rattle.round_core.proofs.FreeSlotLemmas.{Free, free_slot}

-- a read slot keeps its round

reads_round-happens : (s : List LaneState) (e : Event) (lane slot seat : ℕ) (n : Option ℕ) → e ≢ Leave lane seat slot → ReadsRound (slot_at (lane_at s lane) slot) seat n → ReadsRound (slot_at (lane_at (happens s e) lane) slot) seat n
reads_round-happens s e lane slot seat n stays h =
    cond_both (is_allowed s e) (change s e) s (λ t. ReadsRound (slot_at (lane_at t lane) slot) seat n)
    (λ allowed. let p = placed s e allowed in
    at_lane (λ l. ReadsRound (slot_at l slot) seat n) s e lane p.lane
    (λ is. reads_round-after s (lane_at s (lane_of e)) e slot seat n p.slot p.row (λ leaves. stays (leaves ∙ ap (λ i. Leave i seat slot) (sym is))) (subst (λ i. ReadsRound (slot_at (lane_at s i) slot) seat n) is h))
    (λ _. h))
    (λ _. h)

reads_round-run : (later : List Event) (s : List LaneState) (lane slot seat : ℕ) (n : Option ℕ) → AllByRecursion (λ e. e ≢ Leave lane seat slot) later → ReadsRound (slot_at (lane_at s lane) slot) seat n → ReadsRound (slot_at (lane_at (run later s) lane) slot) seat n
reads_round-run [] s lane slot seat n stays h = h
reads_round-run (e ∷ later) s lane slot seat n stays h = reads_round-run later (happens s e) lane slot seat n stays.1 (reads_round-happens s e lane slot seat n stays.0 h)

pub read_slot_keeps_round_is : ReadSlotKeepsRound
read_slot_keeps_round_is lanes seats events later lane slot seat reader stays =
    let s = reached lanes seats events in
    let h = reads_round-run later s lane slot seat (round_in s lane slot) stays (record { reader = reader; round_is = refl }) in
    (h.reader, read-has_round (slot_at (lane_at s lane) slot) seat reader, h.round_is)

-- the word and its slot

pub named_slot_is_filled_is : NamedSlotIsFilled
named_slot_is_filled_is lanes seats events lane exists =
    let h = kept lanes seats events in
    let l = h.each lane (omega (arith, h.count)) in
    round_of-filled _ _ l.filled

filled_within : (xs : List Slot) (k n : ℕ) → is_filled_with (get_or xs k Empty) n ≡ true → k < length xs
filled_within [] k n h = absurd (true≢false (sym h))
filled_within (x ∷ xs) zero n h = omega arith
filled_within (x ∷ xs) (suc k) n h = omega (arith, filled_within xs k n h)

pub word_fits_is : WordFits
word_fits_is lanes seats events lane exists =
    let h = kept lanes seats events in
    let within : lane < length (reached lanes seats events) = omega (arith, h.count) in
    let l : LaneKept seats (lane_at (reached lanes seats events) lane) = h.each lane within in
    let there : (word_at (reached lanes seats events) lane).slot < length (lane_at (reached lanes seats events) lane).slots = filled_within _ _ _ l.filled in
    (l.fits, omega (arith, there, l.slots))

rises-after : (l : LaneState) (e : Event) → (after l e).word.round ≡ l.word.round + cond (publishes_in (lane_of e) e) 1 0
rises-after l (Load lane seat) = omega arith
rises-after l (Claim lane seat) = omega arith
rises-after l (GiveUp lane seat) = omega arith
rises-after l (Publish lane seat slot) = ap (λ b. l.word.round + cond b 1 0) (sym (eq-eqb lane lane refl))
rises-after l (Enter lane seat slot) = omega arith
rises-after l (Leave lane seat slot) = omega arith
rises-after l (Take lane seat slot) = omega arith
rises-after l (Put lane seat slot round) = omega arith

elsewhere : (lane : ℕ) (e : Event) → lane ≢ lane_of e → publishes_in lane e ≡ false
elsewhere lane (Load _ seat) ne = refl
elsewhere lane (Claim _ seat) ne = refl
elsewhere lane (GiveUp _ seat) ne = refl
elsewhere lane (Publish at seat slot) ne = ne_eqb at lane (λ is. ne (sym is))
elsewhere lane (Enter _ seat slot) ne = refl
elsewhere lane (Leave _ seat slot) ne = refl
elsewhere lane (Take _ seat slot) ne = refl
elsewhere lane (Put _ seat slot round) ne = refl

rises : (s : List LaneState) (e : Event) (lane : ℕ) (allowed : Bool) → is_allowed s e ≡ allowed → (word_at (cond allowed (change s e) s) lane).round ≡ (word_at s lane).round + cond (allowed && publishes_in lane e) 1 0
rises s e lane false no_event = omega arith
rises s e lane true happens_it =
    at_lane (λ l. l.word.round ≡ (word_at s lane).round + cond (publishes_in lane e) 1 0) s e lane (placed s e happens_it).lane
    (λ is. subst (λ i. (after (lane_at s (lane_of e)) e).word.round ≡ (word_at s i).round + cond (publishes_in i e) 1 0) (sym is) (rises-after (lane_at s (lane_of e)) e))
    (λ ne. subst (λ b. (word_at s lane).round ≡ (word_at s lane).round + cond b 1 0) (sym (elsewhere lane e ne)) (omega arith))

pub round_rises_at_publish_is : RoundRisesAtPublish
round_rises_at_publish_is lanes seats events e lane = rises (reached lanes seats events) e lane (is_allowed (reached lanes seats events) e) refl

no_less : (s : List LaneState) (e : Event) (lane : ℕ) → (word_at s lane).round ≤ (word_at (happens s e) lane).round
no_less s e lane = omega (arith, rises s e lane (is_allowed s e) refl)

never_falls : (later : List Event) (s : List LaneState) (lane : ℕ) → (word_at s lane).round ≤ (word_at (run later s) lane).round
never_falls [] s lane = omega arith
never_falls (e ∷ later) s lane = omega (arith, no_less s e lane, never_falls later (happens s e) lane)

pub round_never_falls_is : RoundNeverFalls
round_never_falls_is lanes seats events later lane = never_falls later (reached lanes seats events) lane

-- the claimer

pub one_claimer_is : OneClaimer
one_claimer_is lanes seats events lane a b x y = seat_is (lane_at (reached lanes seats events) lane).claimer a b x y

-- a fact of every lane, also of what stands for one that there is not
at_any : (P : LaneState → Type 0) (s : List LaneState) (lane : ℕ) → P no_lane → (lane < length s → P (lane_at s lane)) → P (lane_at s lane)
at_any P s lane past within = at (nat_lt lane (length s)) refl where
  at : (b : Bool) → nat_lt lane (length s) ≡ b → P (lane_at s lane)
  at true e = within (ltb-true lane (length s) e)
  at false e = subst P (sym (get_or_past s lane no_lane (ltb-false lane (length s) e))) past

pub claimer_is_marked_is : ClaimerIsMarked
claimer_is_marked_is lanes seats events lane =
    at_any (λ l. l.word.claimed ≡ is_some l.claimer) (reached lanes seats events) lane refl (λ exists. let l = (kept lanes seats events).each lane exists in l.marked)

-- the lane's claimer and its word, as they are
record SameClaim (l : LaneState) (seat : ℕ) (w : Word) : Type 0 where
  claims_it : is_seat l.claimer seat ≡ true
  same : l.word ≡ w

same_claim-after : (seats : ℕ) (s : List LaneState) (l : LaneState) (e : Event) (a : ℕ) (w : Word) → LaneKept seats l → allows s l e ≡ true → ends_claim (lane_of e) a e ≡ false → SameClaim l a w → SameClaim (after l e) a w
same_claim-after seats s l (Load lane seat) a w k row stays h = record { claims_it = h.claims_it; same = h.same }
same_claim-after seats s l (Claim lane seat) a w k row stays h = absurd (no_seat l.claimer a (sym k.marked ∙ not-true _ ((and_parts _ _ ((and_parts _ _ row).0)).0)) h.claims_it)
same_claim-after seats s l (GiveUp lane seat) a w k row stays h =
    absurd (both_ways _ stays (and_from (lane == lane) (seat == a) (eq-eqb lane lane refl) (eq-eqb seat a (seat_is l.claimer seat a ((and_parts _ _ ((and_parts _ _ row).0)).0) h.claims_it))))
same_claim-after seats s l (Publish lane seat slot) a w k row stays h =
    absurd (both_ways _ stays (and_from (lane == lane) (seat == a) (eq-eqb lane lane refl) (eq-eqb seat a (seat_is l.claimer seat a ((and_parts _ _ row).0) h.claims_it))))
same_claim-after seats s l (Enter lane seat slot) a w k row stays h = record { claims_it = h.claims_it; same = h.same }
same_claim-after seats s l (Leave lane seat slot) a w k row stays h = record { claims_it = h.claims_it; same = h.same }
same_claim-after seats s l (Take lane seat slot) a w k row stays h = record { claims_it = h.claims_it; same = h.same }
same_claim-after seats s l (Put lane seat slot round) a w k row stays h = record { claims_it = h.claims_it; same = h.same }

same_claim-happens : (lanes seats : ℕ) (s : List LaneState) (e : Event) (lane a : ℕ) (w : Word) → Kept lanes seats s → (is_allowed s e && ends_claim lane a e) ≡ false → SameClaim (lane_at s lane) a w → SameClaim (lane_at (happens s e) lane) a w
same_claim-happens lanes seats s e lane a w k lasts h =
    cond_both (is_allowed s e) (change s e) s (λ t. SameClaim (lane_at t lane) a w)
    (λ allowed. let p = placed s e allowed in
    let stays : ends_claim lane a e ≡ false = ⊎_elim (λ refused. absurd (both_ways (is_allowed s e) refused allowed)) (λ other. other) (and_cases (is_allowed s e) (ends_claim lane a e) lasts) in
    at_lane (λ l. SameClaim l a w) s e lane p.lane
    (λ is. same_claim-after seats s (lane_at s (lane_of e)) e a w (k.each (lane_of e) p.lane) p.row (subst (λ i. ends_claim i a e ≡ false) is stays) (subst (λ i. SameClaim (lane_at s i) a w) is h))
    (λ _. h))
    (λ _. h)

same_claim-run : (lanes seats : ℕ) (later : List Event) (s : List LaneState) (lane a : ℕ) (w : Word) → Kept lanes seats s → ClaimLasts lane a later s → SameClaim (lane_at s lane) a w → SameClaim (lane_at (run later s) lane) a w
same_claim-run lanes seats [] s lane a w k stays h = h
same_claim-run lanes seats (e ∷ later) s lane a w k stays h = same_claim-run lanes seats later (happens s e) lane a w (kept-happens lanes seats s e k) stays.1 (same_claim-happens lanes seats s e lane a w k stays.0 h)

pub claimer_alone_changes_word_is : ClaimerAloneChangesWord
claimer_alone_changes_word_is lanes seats events later lane seat claims_it stays =
    let s = reached lanes seats events in
    let h = same_claim-run lanes seats later s lane seat (word_at s lane) (kept lanes seats events) stays (record { claims_it = claims_it; same = refl }) in
    (h.claims_it, h.same)

-- loaded words

none_is : {P : Type 0} (w : Word) → None ≡ Some w → P
none_is w e = absurd (cc)

pub loaded_word_is_no_newer_is : LoadedWordIsNoNewer
loaded_word_is_no_newer_is lanes seats events lane seat w loaded =
    at_any (λ l. loaded_by l seat ≡ Some w → IsNoNewer w l.word) (reached lanes seats events) lane (λ e. none_is w e)
    (λ exists. let l = (kept lanes seats events).each lane exists in l.loaded seat w) loaded

-- a free slot

free_for_claimer : (lanes seats : ℕ) (s : List LaneState) (lane seat : ℕ) → Kept lanes seats s → lane < length s → claims s lane seat ≡ true → has_taken (lane_at s lane) seat ≡ false → holds_next (lane_at s lane) ≡ false
    → (slot : ℕ) × (slot < seats + 2) × (is_allowed s (Take lane seat slot) ≡ true)
free_for_claimer lanes seats s lane seat k exists claims_it none next =
    let l = lane_at s lane in
    let h : LaneKept seats l = k.each lane exists in
    let f : Free seats l = free_slot seats l (none_taken seats l seat h claims_it none) h.readers (λ i j a x y. (k.one lane lane i j a x y).1) in (
      f.slot,
      f.below,
      and_from _ _
          (and_from _ _ (and_from _ _ (lt-ltb lane (length s) exists) (lt-ltb seat (length l.loaded) (omega (arith, h.claimer seat claims_it, h.seats_known)))) (lt-ltb f.slot (length l.slots) (omega (arith, f.below, h.slots))))
          (and_from _ _ (and_from _ _ (and_from _ _ (and_from _ _ claims_it (ap not none)) (ap not next)) (ap not f.other)) f.free),
    )

pub free_slot_for_claimer_is : FreeSlotForClaimer
free_slot_for_claimer_is lanes seats events lane seat claims_it none next =
    let s = reached lanes seats events in
    let exists : lane < length s = at_any (λ l. is_seat l.claimer seat ≡ true → lane < length s) s lane (λ is. absurd (true≢false (sym is))) (λ within _. within) claims_it in
    free_for_claimer lanes seats s lane seat (kept lanes seats events) exists claims_it none next

-- pins

record Pins (l : LaneState) (slot seat : ℕ) (w : Word) : Type 0 where
  loaded : loaded_by l seat ≡ Some w
  reads_it : is_read_by (slot_at l slot) seat ≡ true
  filled : round_of (slot_at l slot) ≡ Some w.round

pins-after : (l : LaneState) (slot seat : ℕ) (w : Word) → slot < length l.slots → loaded_by l seat ≡ Some w → is_filled (slot_at l slot) ≡ true → round_of (slot_at l slot) ≡ Some w.round → (lane : ℕ) → Pins (after l (Enter lane seat slot)) slot seat w
pins-after l slot seat w exists loaded filled round lane =
    let now = get_or-set_same l.slots slot (entered (slot_at l slot) seat) Empty exists in
    record {
      loaded = loaded;
      reads_it = subst (λ x. is_read_by x seat ≡ true) (sym now) (read_same-entered (slot_at l slot) seat filled);
      filled = ap round_of now ∙ round-entered (slot_at l slot) seat ∙ round;
    }

entered_is_pinned : (s : List LaneState) (lane seat slot : ℕ) (w : Word) → is_allowed s (Enter lane seat slot) ≡ true → loaded_by (lane_at s lane) seat ≡ Some w → round_in s lane slot ≡ Some w.round → HasPinned (happens s (Enter lane seat slot)) lane seat w.round
entered_is_pinned s lane seat slot w allowed loaded round =
    let e : Event = Enter lane seat slot in
    let p : Placed s e = placed s e allowed in
    let pins : Pins (after (lane_at s lane) e) slot seat w = pins-after (lane_at s lane) slot seat w (ltb-true _ _ p.slot) loaded ((and_parts _ _ p.row).1) round lane in
    let there : Pins (lane_at (happens s e) lane) slot seat w =
    subst (λ t. Pins (lane_at t lane) slot seat w) (sym (ap (λ b. cond b (change s e) s) allowed))
    (at_lane (λ l. Pins l slot seat w) s e lane p.lane (λ _. pins) (λ ne. absurd (ne refl))) in
    record { slot = slot; word = w; loaded = there.loaded; round_is = refl; reads_it = there.reads_it; filled = there.filled }

pub entered_slot_is_pinned_is : EnteredSlotIsPinned
entered_slot_is_pinned_is lanes seats events lane seat slot w allowed loaded round = entered_is_pinned (reached lanes seats events) lane seat slot w allowed loaded round

-- a test that the changed element passes as before
list_any-set_same : {X : Type 0} (p : X → Bool) (xs : List X) (k : ℕ) (y d : X) → k < length xs → p y ≡ p (get_or xs k d) → list_any p (set xs k y) ≡ list_any p xs
list_any-set_same p [] k y d h e = refl
list_any-set_same p (x ∷ xs) zero y d h e = ap (λ b. b || list_any p xs) e
list_any-set_same p (x ∷ xs) (suc k) y d h e = ap (λ b. p x || b) (list_any-set_same p xs k y d (omega arith) e)

loaded_is_pinned : (lanes seats : ℕ) (s : List LaneState) (lane seat : ℕ) → Kept lanes seats s → lane < lanes → seat < seats → list_any (reads_in seat) s ≡ false
    → HasPinned (run (Load lane seat ∷ Enter lane seat (word_at s lane).slot ∷ []) s) lane seat (word_at s lane).round
loaded_is_pinned lanes seats s lane seat k lane_exists seat_exists fresh =
    let l = lane_at s lane in
    let e : Event = Load lane seat in
    let slot = l.word.slot in
    let within : lane < length s = omega (arith, k.count) in
    let h : LaneKept seats l = k.each lane within in
    let allowed : is_allowed s e ≡ true = and_from _ _ (and_from _ _ (and_from _ _ (lt-ltb lane (length s) within) (lt-ltb seat (length l.loaded) (omega (arith, h.seats_known)))) refl) refl in
    let t = change s e in
    let now : lane_at t lane ≡ after l e = get_or-set_same s lane (after l e) no_lane within in
    let loads : loaded_by (lane_at t lane) seat ≡ Some l.word = ap (λ x. loaded_by x seat) now ∙ get_or-set_same l.loaded seat (Some l.word) None (omega (arith, h.seats_known)) in
    let is_in : slot < length l.slots = filled_within l.slots slot l.word.round h.filled in
    let enters : is_allowed t (Enter lane seat slot) ≡ true =
    and_from _ _
    (and_from _ _ (and_from _ _ (lt-ltb lane (length t) (omega (arith, length-set s lane (after l e)))) (ap (λ x. nat_lt seat (length x.loaded)) now ∙ lt-ltb seat _ (omega (arith, h.seats_known, length-set l.loaded seat (Some l.word)))))
    (ap (λ x. nat_lt slot (length x.slots)) now ∙ lt-ltb slot (length l.slots) is_in))
    (and_from _ _ (and_from _ _ (ap not (list_any-set_same (reads_in seat) s lane (after l e) no_lane within refl ∙ fresh)) (ap (λ o. names_slot o slot) loads ∙ eq-eqb slot slot refl))
    (ap (λ x. is_filled (slot_at x slot)) now ∙ filled-round_of _ _ h.filled)) in
    subst (λ u. HasPinned (happens u (Enter lane seat slot)) lane seat l.word.round) (sym (ap (λ b. cond b t s) allowed))
    (entered_is_pinned t lane seat slot l.word enters loads (ap (λ x. round_of (slot_at x slot)) now ∙ round_of-filled _ _ h.filled))

pub loaded_slot_is_pinned_is : LoadedSlotIsPinned
loaded_slot_is_pinned_is lanes seats events lane seat lane_exists seat_exists fresh = loaded_is_pinned lanes seats (reached lanes seats events) lane seat (kept lanes seats events) lane_exists seat_exists fresh
