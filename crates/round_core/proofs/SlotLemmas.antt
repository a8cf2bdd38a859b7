-- What entering, leaving, taking and filling do to one slot.
use Rattle.std.proofs.Common.{◌≡◌, ◌≢◌, ℕ, Bool, true, false, refl, sym, ap, ◌∙◌, ◌==◌, subst}
use Rattle.std.specs.Prelude.{◌⊎◌, Some, IsSome}
use Rattle.std.specs.FinSet as sets
use Rattle.std.specs.Ordering.{nat_cmp}
use Rattle.std.proofs.Common.{inl, inr}
use Rattle.std.proofs.lemmas.Cmp.{nat_cmp_total}
use Rattle.std.specs.FinMap.{nat_cmp-IsAntisymmetric}
use Rattle.std.proofs.lemmas.Bool.{eqb-true, eq-eqb, true≢false, both_ways}
use Rattle.round_core.specs.declared.lane.Slot.{Slot}
use Rattle.round_core.specs.declared.lane.Slot.TheVariants.{Empty, Taken, Filled}
use Rattle.round_core.specs.State.{is_free, is_taken_by, is_filled, is_filled_with, is_read_by}
use Rattle.round_core.specs.Protocol.{entered, left}
use Rattle.round_core.specs.Laws.{round_of}
use Rattle.round_core.proofs.FlagLemmas.{contains-insert_same, contains-insert_other, contains-remove_same, contains-remove_other}

pub taken-entered : (x : Slot) (seat a : ℕ) → is_taken_by (entered x seat) a ≡ is_taken_by x a
taken-entered Empty seat a = refl
taken-entered (Taken b) seat a = refl
taken-entered (Filled n rs) seat a = refl

pub taken-left : (x : Slot) (seat a : ℕ) → is_taken_by (left x seat) a ≡ is_taken_by x a
taken-left Empty seat a = refl
taken-left (Taken b) seat a = refl
taken-left (Filled n rs) seat a = refl

pub filled-entered : (x : Slot) (seat n : ℕ) → is_filled_with (entered x seat) n ≡ is_filled_with x n
filled-entered Empty seat n = refl
filled-entered (Taken b) seat n = refl
filled-entered (Filled m rs) seat n = refl

pub filled-left : (x : Slot) (seat n : ℕ) → is_filled_with (left x seat) n ≡ is_filled_with x n
filled-left Empty seat n = refl
filled-left (Taken b) seat n = refl
filled-left (Filled m rs) seat n = refl

pub round-entered : (x : Slot) (seat : ℕ) → round_of (entered x seat) ≡ round_of x
round-entered Empty seat = refl
round-entered (Taken b) seat = refl
round-entered (Filled m rs) seat = refl

pub round-left : (x : Slot) (seat : ℕ) → round_of (left x seat) ≡ round_of x
round-left Empty seat = refl
round-left (Taken b) seat = refl
round-left (Filled m rs) seat = refl

insert_new : (rs : sets.FinSet nat_cmp) (seat a : ℕ) → sets.contains (sets.insert rs seat) a ≡ true → (a ≡ seat) ⊎ (sets.contains rs a ≡ true)
insert_new rs seat a h = at (a == seat) refl where
  at : (same : Bool) → (a == seat) ≡ same → (a ≡ seat) ⊎ (sets.contains rs a ≡ true)
  at true e = inl (eqb-true a seat e)
  at false e = let ne : a ≢ seat = λ is. true≢false (sym (eq-eqb a seat is) ∙ e) in inr (sym (contains-insert_other rs seat a ne) ∙ h)

insert_old : (rs : sets.FinSet nat_cmp) (seat a : ℕ) → sets.contains rs a ≡ true → sets.contains (sets.insert rs seat) a ≡ true
insert_old rs seat a h = at (a == seat) refl where
  at : (same : Bool) → (a == seat) ≡ same → sets.contains (sets.insert rs seat) a ≡ true
  at true e = subst (λ b. sets.contains (sets.insert rs seat) b ≡ true) (sym (eqb-true a seat e)) (contains-insert_same rs seat)
  at false e = let ne : a ≢ seat = λ is. true≢false (sym (eq-eqb a seat is) ∙ e) in contains-insert_other rs seat a ne ∙ h

remove_old : (rs : sets.FinSet nat_cmp) (seat a : ℕ) → sets.contains (sets.remove rs seat) a ≡ true → sets.contains rs a ≡ true
remove_old rs seat a h = at (a == seat) refl where
  at : (same : Bool) → (a == seat) ≡ same → sets.contains rs a ≡ true
  at true e = absurd (both_ways (sets.contains (sets.remove rs seat) a) (subst (λ b. sets.contains (sets.remove rs seat) b ≡ false) (sym (eqb-true a seat e)) (contains-remove_same rs seat)) h)
  at false e = let ne : a ≢ seat = λ is. true≢false (sym (eq-eqb a seat is) ∙ e) in sym (contains-remove_other rs seat a ne) ∙ h

-- who reads a slot that one seat entered or left
pub read-entered : (x : Slot) (seat a : ℕ) → is_read_by (entered x seat) a ≡ true → (a ≡ seat) ⊎ (is_read_by x a ≡ true)
read-entered Empty seat a h = inr h
read-entered (Taken b) seat a h = inr h
read-entered (Filled n rs) seat a h = insert_new rs seat a h

pub read_kept-entered : (x : Slot) (seat a : ℕ) → is_read_by x a ≡ true → is_read_by (entered x seat) a ≡ true
read_kept-entered Empty seat a h = h
read_kept-entered (Taken b) seat a h = h
read_kept-entered (Filled n rs) seat a h = insert_old rs seat a h

pub read_same-entered : (x : Slot) (seat : ℕ) → is_filled x ≡ true → is_read_by (entered x seat) seat ≡ true
read_same-entered Empty seat h = h
read_same-entered (Taken b) seat h = h
read_same-entered (Filled n rs) seat h = contains-insert_same rs seat

pub read-left : (x : Slot) (seat a : ℕ) → is_read_by (left x seat) a ≡ true → is_read_by x a ≡ true
read-left Empty seat a h = h
read-left (Taken b) seat a h = h
read-left (Filled n rs) seat a h = remove_old rs seat a h

pub read_kept-left : (x : Slot) (seat a : ℕ) → a ≢ seat → is_read_by x a ≡ true → is_read_by (left x seat) a ≡ true
read_kept-left Empty seat a ne h = h
read_kept-left (Taken b) seat a ne h = h
read_kept-left (Filled n rs) seat a ne h = contains-remove_other rs seat a ne ∙ h

-- what rules what out
pub taken-not_filled : (x : Slot) (a n : ℕ) → is_taken_by x a ≡ true → is_filled_with x n ≡ false
taken-not_filled Empty a n h = refl
taken-not_filled (Taken b) a n h = refl
taken-not_filled (Filled m rs) a n h = absurd (true≢false (sym h))

pub taken-not_read : (x : Slot) (a b : ℕ) → is_taken_by x a ≡ true → is_read_by x b ≡ false
taken-not_read Empty a b h = refl
taken-not_read (Taken c) a b h = refl
taken-not_read (Filled m rs) a b h = absurd (true≢false (sym h))

pub free-not_read : (x : Slot) (a : ℕ) → is_free x ≡ true → is_read_by x a ≡ false
free-not_read Empty a h = refl
free-not_read (Taken b) a h = refl
free-not_read (Filled n rs) a h = ap (λ s. sets.contains s a) (sets.empty_of_len rs (eqb-true (sets.len rs) 0 h)) ∙ sets.contains-empty nat_cmp a

-- a slot that nobody has taken and nobody reads is free
pub unread-free : (x : Slot) → ((a : ℕ) → is_taken_by x a ≡ true → ⊥) → ((a : ℕ) → is_read_by x a ≡ false) → is_free x ≡ true
unread-free Empty untaken unread = refl
unread-free (Taken b) untaken unread = absurd (untaken b (eq-eqb b b refl))
unread-free (Filled n rs) untaken unread = eq-eqb (sets.len rs) 0 (ap sets.len (sets.same_set nat_cmp_total nat_cmp-IsAntisymmetric rs sets.empty (λ a. unread a ∙ sym (sets.contains-empty nat_cmp a))) ∙ sets.len-empty nat_cmp)

-- the round of a slot, as a test and as a value
pub round_of-filled : (x : Slot) (n : ℕ) → is_filled_with x n ≡ true → round_of x ≡ Some n
round_of-filled Empty n h = absurd (true≢false (sym h))
round_of-filled (Taken b) n h = absurd (true≢false (sym h))
round_of-filled (Filled m rs) n h = ap Some (eqb-true m n h)

pub filled-round_of : (x : Slot) (n : ℕ) → is_filled_with x n ≡ true → is_filled x ≡ true
filled-round_of Empty n h = h
filled-round_of (Taken b) n h = h
filled-round_of (Filled m rs) n h = refl

pub read-has_round : (x : Slot) (a : ℕ) → is_read_by x a ≡ true → IsSome (round_of x)
read-has_round Empty a h = absurd (true≢false (sym h))
read-has_round (Taken b) a h = absurd (true≢false (sym h))
read-has_round (Filled n rs) a h = refl
