-- What each lane keeps, whatever event happens in it.
use Rattle.std.proofs.Common.{◌≡◌, ◌≢◌, ℕ, ◌+◌, ◌<◌, true, false, length, set, refl, sym, ◌∙◌, subst, arith, length-set}
use Rattle.std.specs.Prelude.{Option, None, Some, is_some}
use Rattle.std.proofs.lemmas.Bool.{eqb-true, true≢false, both_ways}
use Rattle.round_core.specs.declared.word.Word.{Word}
use Rattle.round_core.specs.declared.lane.Slot.{Slot}
use Rattle.round_core.specs.declared.lane.Slot.TheVariants.{Empty}
use Rattle.round_core.specs.State.{LaneState, slot_at, loaded_by, is_taken_by, is_filled_with, is_read_by, is_seat}
use Rattle.round_core.specs.Protocol.{has_taken, with_word, with_slot}
use Rattle.round_core.specs.Laws.{IsNoNewer}
use Rattle.round_core.proofs.ListLemmas.{none_at, at_set}

pub record LaneKept (seats : ℕ) (l : LaneState) : Type 0 where
  pub slots : length l.slots ≡ seats + 2
  pub seats_known : length l.loaded ≡ seats
  pub filled : is_filled_with (slot_at l l.word.slot) l.word.round ≡ true
  pub marked : l.word.claimed ≡ is_some l.claimer
  pub fits : l.word.round < 4294967296
  pub limit : l.word.claimed ≡ true → l.word.round < 4294967295
  pub claimer : (a : ℕ) → is_seat l.claimer a ≡ true → a < seats
  pub taker : (k a : ℕ) → is_taken_by (slot_at l k) a ≡ true → is_seat l.claimer a ≡ true
  pub one_taken : (k m a b : ℕ) → is_taken_by (slot_at l k) a ≡ true → is_taken_by (slot_at l m) b ≡ true → k ≡ m
  pub apart : (k m a : ℕ) → is_taken_by (slot_at l k) a ≡ true → is_filled_with (slot_at l m) (l.word.round + 1) ≡ false
  pub loaded : (a : ℕ) (w : Word) → loaded_by l a ≡ Some w → IsNoNewer w l.word
  pub readers : (k a : ℕ) → is_read_by (slot_at l k) a ≡ true → a < seats

pub seat_is : (o : Option ℕ) (a b : ℕ) → is_seat o a ≡ true → is_seat o b ≡ true → a ≡ b
seat_is None a b p q = absurd (true≢false (sym p))
seat_is (Some c) a b p q = sym (eqb-true c a p) ∙ eqb-true c b q

pub no_seat : (o : Option ℕ) (a : ℕ) → is_some o ≡ false → is_seat o a ≡ true → ⊥
no_seat None a fails p = true≢false (sym p)
no_seat (Some c) a fails p = true≢false fails

some_seat : (o : Option ℕ) (a : ℕ) → is_seat o a ≡ true → is_some o ≡ true
some_seat None a h = h
some_seat (Some c) a h = refl

some_is : (v w : Word) → Some v ≡ Some w → v ≡ w
some_is v w e = cc

newest : (w : Word) → IsNoNewer w w
newest w = record { round = omega arith; slot = λ _. refl }

-- the seat loads the word
pub kept_load : (seats : ℕ) (l : LaneState) (seat : ℕ) → LaneKept seats l → seat < seats → LaneKept seats (record l { loaded = set l.loaded seat (Some l.word) })
kept_load seats l seat h in_range = record {
  slots = h.slots;
  seats_known = length-set l.loaded seat (Some l.word) ∙ h.seats_known;
  filled = h.filled;
  marked = h.marked;
  fits = h.fits;
  limit = h.limit;
  claimer = h.claimer;
  taker = h.taker;
  one_taken = h.one_taken;
  apart = h.apart;
  readers = h.readers;
  loaded = λ a. at_set (λ (o : Option Word). (w : Word) → o ≡ Some w → IsNoNewer w l.word) l.loaded seat (Some l.word) None a
      (omega (arith, h.seats_known))
      (λ _ w e. subst (λ v. IsNoNewer v l.word) (some_is l.word w e) (newest l.word))
      (λ _. h.loaded a);
}

-- the seat changes the word
pub kept_word : (seats : ℕ) (l : LaneState) (seat : ℕ) (w : Word) (c : Option ℕ) → LaneKept seats l → seat < seats
    → is_filled_with (slot_at l w.slot) w.round ≡ true
    → w.claimed ≡ is_some c
    → w.round < 4294967296
    → (w.claimed ≡ true → w.round < 4294967295)
    → ((a : ℕ) → is_seat c a ≡ true → a < seats)
    → ((k a : ℕ) → is_taken_by (slot_at l k) a ≡ true → is_seat c a ≡ true)
    → ((k m a : ℕ) → is_taken_by (slot_at l k) a ≡ true → is_filled_with (slot_at l m) (w.round + 1) ≡ false)
    → ((v : Word) → IsNoNewer v l.word → IsNoNewer v w)
    → LaneKept seats (with_word l seat w c)
kept_word seats l seat w c h in_range filled marked fits limit claimer taker apart newer = record {
  slots = h.slots;
  seats_known = length-set l.loaded seat (Some w) ∙ h.seats_known;
  filled = filled;
  marked = marked;
  fits = fits;
  limit = limit;
  claimer = claimer;
  taker = taker;
  one_taken = h.one_taken;
  apart = apart;
  readers = h.readers;
  loaded = λ a. at_set (λ (o : Option Word). (v : Word) → o ≡ Some v → IsNoNewer v w) l.loaded seat (Some w) None a
      (omega (arith, h.seats_known))
      (λ _ v e. subst (λ x. IsNoNewer x w) (some_is w v e) (newest w))
      (λ _ v e. newer v (h.loaded a v e));
}

pub kept_claim : (seats : ℕ) (l : LaneState) (seat : ℕ) → LaneKept seats l → seat < seats → l.word.claimed ≡ false → l.word.round < 4294967295 → LaneKept seats (with_word l seat (record l.word { claimed = true }) (Some seat))
kept_claim seats l seat h in_range free below =
    kept_word seats l seat (record l.word { claimed = true }) (Some seat) h in_range h.filled refl h.fits (λ _. below)
    (λ a is. subst (λ b. b < seats) (eqb-true seat a is) in_range)
    (λ k a taken. absurd (no_seat l.claimer a (sym h.marked ∙ free) (h.taker k a taken)))
    h.apart
    (λ v older. record { round = older.round; slot = older.slot })

pub none_taken : (seats : ℕ) (l : LaneState) (seat : ℕ) → LaneKept seats l → is_seat l.claimer seat ≡ true → has_taken l seat ≡ false → (k a : ℕ) → is_taken_by (slot_at l k) a ≡ true → ⊥
none_taken seats l seat h is none k a taken =
    absurd (both_ways (is_taken_by (slot_at l k) seat) (none_at (λ slot. is_taken_by slot seat) l.slots Empty refl none k) (subst (λ b. is_taken_by (slot_at l k) b ≡ true) (seat_is l.claimer a seat (h.taker k a taken) is) taken))

pub kept_give_up : (seats : ℕ) (l : LaneState) (seat : ℕ) → LaneKept seats l → seat < seats → is_seat l.claimer seat ≡ true → has_taken l seat ≡ false → LaneKept seats (with_word l seat (record l.word { claimed = false }) None)
kept_give_up seats l seat h in_range is none =
    kept_word seats l seat (record l.word { claimed = false }) None h in_range h.filled refl h.fits (λ is. absurd (true≢false (sym is)))
    (λ a is. absurd (true≢false (sym is)))
    (λ k a taken. absurd (none_taken seats l seat h is none k a taken))
    h.apart
    (λ v older. record { round = older.round; slot = older.slot })

pub kept_publish : (seats : ℕ) (l : LaneState) (seat slot : ℕ) → LaneKept seats l → seat < seats → is_seat l.claimer seat ≡ true → is_filled_with (slot_at l slot) (l.word.round + 1) ≡ true
    → LaneKept seats (with_word l seat (record { round = l.word.round + 1; claimed = false; slot = slot }) None)
kept_publish seats l seat slot h in_range is next =
    let below : l.word.round < 4294967295 = h.limit (h.marked ∙ some_seat l.claimer seat is) in
    kept_word seats l seat (record { round = l.word.round + 1; claimed = false; slot = slot }) None h in_range next refl (omega arith) (λ claimed. absurd (true≢false (sym claimed)))
    (λ a is. absurd (true≢false (sym is)))
    (λ k a taken. absurd (both_ways (is_filled_with (slot_at l slot) (l.word.round + 1)) (h.apart k slot a taken) next))
    (λ k m a taken. absurd (both_ways (is_filled_with (slot_at l slot) (l.word.round + 1)) (h.apart k slot a taken) next))
    (λ v older. record { round = omega (arith, older.round); slot = λ same. absurd (omega (arith, older.round)) })

-- one slot changes
pub kept_slot : (seats : ℕ) (l : LaneState) (slot : ℕ) (y : Slot) → LaneKept seats l → slot < length l.slots
    → (l.word.slot ≡ slot → is_filled_with y l.word.round ≡ true)
    → ((a : ℕ) → is_taken_by y a ≡ true → is_seat l.claimer a ≡ true)
    → ((m a b : ℕ) → is_taken_by y a ≡ true → m ≢ slot → is_taken_by (slot_at l m) b ≡ true → slot ≡ m)
    → ((m a : ℕ) → is_taken_by y a ≡ true → is_filled_with (slot_at l m) (l.word.round + 1) ≡ false)
    → ((a : ℕ) → is_taken_by y a ≡ true → is_filled_with y (l.word.round + 1) ≡ false)
    → ((k a : ℕ) → k ≢ slot → is_taken_by (slot_at l k) a ≡ true → is_filled_with y (l.word.round + 1) ≡ false)
    → ((a : ℕ) → is_read_by y a ≡ true → a < seats)
    → LaneKept seats (with_slot l slot y)
kept_slot seats l slot y h exists filled taker one next itself others readers = record {
  slots = length-set l.slots slot y ∙ h.slots;
  seats_known = h.seats_known;
  filled = at_set (λ x. is_filled_with x l.word.round ≡ true) l.slots slot y Empty l.word.slot exists filled (λ _. h.filled);
  marked = h.marked;
  fits = h.fits;
  limit = h.limit;
  claimer = h.claimer;
  loaded = h.loaded;
  taker = λ k a. at_set (λ x. is_taken_by x a ≡ true → is_seat l.claimer a ≡ true) l.slots slot y Empty k exists (λ _. taker a) (λ _. h.taker k a);
  one_taken = λ k m a b. at_set (λ x. is_taken_by x a ≡ true → is_taken_by (slot_at (with_slot l slot y) m) b ≡ true → k ≡ m) l.slots slot y Empty k exists
      (λ k_is taken. at_set (λ x. is_taken_by x b ≡ true → k ≡ m) l.slots slot y Empty m exists (λ m_is _. k_is ∙ sym m_is) (λ m_not other. k_is ∙ one m a b taken m_not other))
      (λ k_not taken. at_set (λ x. is_taken_by x b ≡ true → k ≡ m) l.slots slot y Empty m exists (λ m_is new. sym (one k b a new k_not taken) ∙ sym m_is) (λ m_not other. h.one_taken k m a b taken other));
  apart = λ k m a. at_set (λ x. is_taken_by x a ≡ true → is_filled_with (slot_at (with_slot l slot y) m) (l.word.round + 1) ≡ false) l.slots slot y Empty k exists
      (λ k_is taken. at_set (λ x. is_filled_with x (l.word.round + 1) ≡ false) l.slots slot y Empty m exists (λ m_is. itself a taken) (λ m_not. next m a taken))
      (λ k_not taken. at_set (λ x. is_filled_with x (l.word.round + 1) ≡ false) l.slots slot y Empty m exists (λ m_is. others k a k_not taken) (λ m_not. h.apart k m a taken));
  readers = λ k a. at_set (λ x. is_read_by x a ≡ true → a < seats) l.slots slot y Empty k exists (λ _. readers a) (λ _. h.readers k a);
}
