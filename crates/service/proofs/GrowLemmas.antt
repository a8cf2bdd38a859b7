-- How what a seat says of a lane grows over several steps.
use Rattle.std.proofs.Common.{◌≡◌, ℕ, ◌+◌, ◌<◌, ◌≤◌, ◌==◌, ⊎_elim, Bool, true, false, cond, Option, Some, None, List, [], ◌∷◌, ◌++◌, refl, sym, ap, ◌∙◌, subst, arith, append_assoc, append-nil}
use Rattle.std.specs.List.{AllByRecursion}
use Rattle.std.proofs.lemmas.Bool.{eqb-true}
use Rattle.std.proofs.lemmas.List.{set-set}
use Rattle.std.proofs.lemmas.Option.{none-some}
use Rattle.round_core.specs.declared.word.Word.{Word}
use Rattle.round_core.specs.Laws.{IsNoNewer}
use Rattle.round_slots.specs.declared.store.ClaimRefused.{ClaimRefused}
use Rattle.round_slots.specs.declared.store.ClaimRefused.TheVariants.{Busy, Moved}
use Rattle.round_slots.specs.declared.view.LaneView.{LaneView}
use Rattle.round_slots.specs.declared.view.Known.{Known}
use Rattle.round_slots.specs.View.{with_lane, saw, marked, unmarked, next_word, claimed, gave_up, published}
use Rattle.round_slots.specs.Rule.{AgreesWith}
use Rattle.round_slots.specs.Seats.{Place, Becomes, Loads, Pins, view_in}
use Rattle.round_slots.specs.Claims.{refusal, Claims, Refuses}
use Rattle.round_slots.proofs.ListLemmas.{all_map, all_left}
use Rattle.round_slots.proofs.ClaimLemmas.{changed_view}
use Rattle.round_slots.proofs.PinLemmas.{no_loads}
use Rattle.rounds.specs.declared.numbered.RoundTag.{RoundTag}
use Rattle.rounds.specs.Tags.{HasNumber}
use Rattle.service.specs.declared.shop.Shop.{Shop}
use Rattle.service.specs.Seats.{key_of, SitsIn}
use Rattle.service.specs.Steps.{grown, Grows, LooksOn, Publishes}

lane_again : (o : Option (Known RoundTag)) (lane : ℕ) (a b : LaneView) → with_lane (with_lane o lane a) lane b ≡ with_lane o lane b
lane_again None lane a b = refl
lane_again (Some v) lane a b = ap (λ ls. let w : Known RoundTag = record v { lanes = ls } in Some w) (set-set v.lanes lane a b)

-- two changes of one lane are one
pub becomes_twice : (old mid new : Place RoundTag) (lane : ℕ) (a b : LaneView) → Becomes old mid lane a → Becomes mid new lane b → Becomes old new lane b
becomes_twice old mid new lane a b p q = (q.0 ∙ p.0, q.1 ∙ p.1, q.2 ∙ (ap (λ o. with_lane o lane b) p.2 ∙ lane_again old.me.0 lane a b))

-- a view that has seen these words more and made these numbers more
pub as_grown : (a b : LaneView) (words : List Word) (numbers : List ℕ) → b.seen ≡ a.seen ++ words → b.made ≡ a.made ++ numbers → b.turn ≡ None → b ≡ grown a words numbers
as_grown a b words numbers seen made turn = λ i. record { seen = seen i; made = made i; turn = turn i }

-- a claim isn't refused where the word is of the round
pub claim_round : (n : ℕ) (w : Word) → refusal n w ≡ None → w.round ≡ n
claim_round n w e = at (w.round == n) refl e
  where
    at : (b : Bool) → (w.round == n) ≡ b → cond b (cond w.claimed (Some (Busy n)) None) (Some (Moved w.round)) ≡ None → w.round ≡ n
    at true p q = eqb-true w.round n p
    at false p q = absurd (none-some (Moved w.round) (sym q))

module _ (shop : Shop) where
  pub view_after : (old new : Place RoundTag) (lane : ℕ) (a : LaneView) → SitsIn shop old → lane < (key_of shop).lanes → Becomes old new lane a → view_in new lane ≡ a
  view_after old new lane a s inside b = changed_view HasNumber shop.store.words.shared.table_id (key_of shop) old new lane a s inside b.2

  -- nothing has happened
  pub grows_none : (old : Place RoundTag) (lane : ℕ) → (view_in old lane).turn ≡ None → Grows old old lane [] []
  grows_none old lane turn =
      let a = view_in old lane in
      subst (λ v. Becomes old old lane v) (as_grown a (saw a []) [] [] refl (sym (append-nil a.made)) turn) (no_loads old lane)

  pub grows_then : (old mid new : Place RoundTag) (lane : ℕ) (words more : List Word) (numbers others : List ℕ) → SitsIn shop old → lane < (key_of shop).lanes
      → Grows old mid lane words numbers → Grows mid new lane more others → Grows old new lane (words ++ more) (numbers ++ others)
  grows_then old mid new lane words more numbers others s inside p q =
      let a = view_in old lane in
      let is = view_after old mid lane (grown a words numbers) s inside p in
      subst (λ v. Becomes old new lane v)
      (as_grown a (grown (view_in mid lane) more others) (words ++ more) (numbers ++ others)
      (ap (λ v. v.seen ++ more) is ∙ append_assoc a.seen words more) (ap (λ v. v.made ++ others) is ∙ append_assoc a.made numbers others) refl)
      (becomes_twice old mid new lane _ _ p q)

  -- a load
  pub grows_load : (old new : Place RoundTag) (lane : ℕ) (w : Word) → (view_in old lane).turn ≡ None → Loads (key_of shop) old new lane w → Grows old new lane (w ∷ []) []
  grows_load old new lane w turn l =
      let a = view_in old lane in
      subst (λ v. Becomes old new lane v) (as_grown a (saw a (w ∷ [])) (w ∷ []) [] refl (sym (append-nil a.made)) turn) l.view

  -- the loads of a pin
  pub grows_pin : (old new : Place RoundTag) (lane round : ℕ) → (view_in old lane).turn ≡ None → (p : Pins (key_of shop) old new lane round) → Grows old new lane (p.before ++ p.last ∷ []) []
  grows_pin old new lane round turn p =
      let a = view_in old lane in
      subst (λ v. Becomes old new lane v) (as_grown a (saw a (p.before ++ p.last ∷ [])) (p.before ++ p.last ∷ []) [] refl (sym (append-nil a.made)) turn) p.view

  turn_after : (old new : Place RoundTag) (lane : ℕ) (words : List Word) (numbers : List ℕ) → SitsIn shop old → lane < (key_of shop).lanes → Grows old new lane words numbers → (view_in new lane).turn ≡ None
  turn_after old new lane words numbers s inside g = ap (λ v. v.turn) (view_after old new lane _ s inside g)

  pub looks_refused : (old new : Place RoundTag) (lane round : ℕ) (cause : ClaimRefused) → SitsIn shop old → lane < (key_of shop).lanes → (view_in old lane).turn ≡ None → Refuses (key_of shop) old new lane round cause → LooksOn old new lane
  looks_refused old new lane round cause s inside turn r = ⊎_elim
      (λ t. (t.loaded ∷ [], grows_load old new lane t.loaded turn t.loads))
      (λ t. let first = grows_load old t.between lane t.loaded turn t.loads in (
        (t.loaded ∷ []) ++ (t.found ∷ []),
        grows_then old t.between new lane (t.loaded ∷ []) (t.found ∷ []) [] [] s inside first
            (grows_load t.between new lane t.found (turn_after old t.between lane _ _ s inside first) t.finds),
      ))
      r

  -- what a claim has made of the view
  module _ (old mid : Place RoundTag) (lane n : ℕ) (word : Word) (s : SitsIn shop old) (inside : lane < (key_of shop).lanes) (c : Claims (key_of shop) old mid lane n word) where
    abbrev a : LaneView
    a = view_in old lane

    between_is : view_in c.between lane ≡ saw a (c.loaded ∷ [])
    between_is = view_after old c.between lane _ s inside c.loads.view

    mid_becomes : Becomes old mid lane (claimed (view_in c.between lane) c.loaded (marked c.loaded))
    mid_becomes = becomes_twice old c.between mid lane _ _ c.loads.view c.view

    mid_is : view_in mid lane ≡ claimed (saw a (c.loaded ∷ [])) c.loaded (marked c.loaded)
    mid_is = view_after old mid lane _ s inside mid_becomes ∙ ap (λ v. claimed v c.loaded (marked c.loaded)) between_is

    abbrev two : List Word
    two = c.loaded ∷ c.loaded ∷ marked c.loaded ∷ []

    mid_seen : (view_in mid lane).seen ≡ a.seen ++ two
    mid_seen = ap (λ v. v.seen) mid_is ∙ append_assoc a.seen (c.loaded ∷ []) (c.loaded ∷ marked c.loaded ∷ [])

    mid_made : (view_in mid lane).made ≡ a.made
    mid_made = ap (λ v. v.made) mid_is

    pub claimed_round : word.round ≡ n
    claimed_round = ap (λ w. w.round) c.marks ∙ claim_round n c.loaded c.free

    pub looks_gave_up : (new : Place RoundTag) → Becomes mid new lane (gave_up (view_in mid lane) word (unmarked word)) → LooksOn old new lane
    looks_gave_up new b = (
      two ++ (word ∷ unmarked word ∷ []),
      subst (λ v. Becomes old new lane v)
          (as_grown a (gave_up (view_in mid lane) word (unmarked word)) (two ++ (word ∷ unmarked word ∷ [])) []
          (ap (λ ws. ws ++ (word ∷ unmarked word ∷ [])) mid_seen ∙ append_assoc a.seen two (word ∷ unmarked word ∷ []))
          (mid_made ∙ sym (append-nil a.made)) refl)
          (becomes_twice old mid new lane _ _ mid_becomes b),
    )

    pub publishes_next : (new : Place RoundTag) (slot number : ℕ) → AgreesWith (key_of shop).seats word (view_in mid lane) → Becomes mid new lane (published (view_in mid lane) word (next_word word slot)) → number ≡ n + 1 → Publishes old new lane number
    publishes_next new slot number agrees b is =
        let next = next_word word slot in
        let from : next.round ≡ number = ap (λ m. m + 1) claimed_round ∙ sym is in
        let seen = all_left (λ x. IsNoNewer x word) a.seen two (subst (AllByRecursion (λ x. IsNoNewer x word)) mid_seen agrees.seen) in
        let made = subst (AllByRecursion (λ m. (1 ≤ m) × (m ≤ word.round))) mid_made agrees.made in
        record {
          before = two ++ (word ∷ []);
          last = next;
          grows = subst (λ v. Becomes old new lane v)
              (as_grown a (published (view_in mid lane) word next) (two ++ (word ∷ next ∷ [])) (number ∷ [])
              (ap (λ ws. ws ++ (word ∷ next ∷ [])) mid_seen ∙ append_assoc a.seen two (word ∷ next ∷ []))
              (λ i. mid_made i ++ (from i ∷ [])) refl)
              (becomes_twice old mid new lane _ _ mid_becomes b);
          last_is = from;
          above = record {
            seen = all_map (λ x. IsNoNewer x word) (λ x. x.round < number) (λ x h. let le = h.round in omega (arith, le, from)) a.seen seen;
            made = all_map _ (λ m. m < number) (λ m h. let le = h.1 in omega (arith, le, from)) a.made made;
          };
        }
