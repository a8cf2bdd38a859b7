-- A seat of the store after a step on a lane's word.
use Rattle.std.proofs.Common.{◌≡◌, ◌≢◌, ℕ, ◌+◌, ◌<◌, ◌≤◌, Some, [], ◌∷◌, ◌++◌, set, refl, sym, ap, ◌∙◌, subst, arith, length-set}
use mathlib.Core.Logic.{dite}
use mathlib.Core.Option.{none}
use native.Mathlib.Decide.{ℕ_discrete}
use Rattle.std.specs.List.{AllByRecursion}
use Rattle.atomic_table.specs.Table.{step}
use Rattle.atomic_table.specs.Seated.{TableId}
use Rattle.round_core.specs.declared.word.Word.{Word}
use Rattle.round_core.specs.Word.{packed, unpacked}
use Rattle.round_core.specs.Laws.{IsNoNewer}
use Rattle.round_core.proofs.WordLemmas.{packed-unpacked}
use Rattle.round_slots.specs.declared.view.LaneView.{LaneView}
use Rattle.round_slots.specs.declared.view.Known.{Known}
use Rattle.round_slots.specs.declared.view.Key.{Key}
use Rattle.round_slots.specs.View.{lane_of, with_lane, saw, marked, unmarked, next_word, claimed, gave_up, published}
use Rattle.round_slots.specs.Rule.{AgreesWith}
use Rattle.round_slots.specs.Plays.{Told, looked, exchanged}
use Rattle.round_slots.specs.Seats.{Place, IsRising, HasSeen, Sits, Becomes, Loads, view_in}
use Rattle.round_slots.proofs.ListLemmas.{all_map, all_append, append_twice, rising_snoc}
use Rattle.round_slots.proofs.RuleLemmas.{view_at}

module _ {G : Type 0} (possible : G → ℕ → ℕ → Type 0) (id : TableId) (key : Key G) where
  -- one more word, no older than those that the seat saw
  seen_one : (lane : ℕ) (a : LaneView) (w : Word) → HasSeen possible key.tag.value lane a → AllByRecursion (λ x. x.round ≤ w.round) a.seen → possible key.tag.value lane w.round → HasSeen possible key.tag.value lane (saw a (w ∷ []))
  seen_one lane a w h k p = record {
    rising = rising_snoc a.seen w h.rising k;
    rounds = all_append (λ x. possible key.tag.value lane x.round) a.seen (w ∷ []) h.rounds (p, tt);
  }

  no_older : (a : LaneView) (w : Word) → AgreesWith key.seats w a → AllByRecursion (λ x. x.round ≤ w.round) a.seen
  no_older a w g = all_map (λ x. IsNoNewer x w) (λ x. x.round ≤ w.round) (λ x t. t.round) a.seen g.seen

  -- two more words, of which the second is no older
  seen_two : (lane : ℕ) (a b : LaneView) (w to : Word) → HasSeen possible key.tag.value lane a → AgreesWith key.seats w a → possible key.tag.value lane w.round → w.round ≤ to.round → possible key.tag.value lane to.round
      → b.seen ≡ a.seen ++ (w ∷ to ∷ []) → HasSeen possible key.tag.value lane b
  seen_two lane a b w to h g p up q e =
      let one = seen_one lane a w h (no_older a w g) p in
      let old = all_map (λ x. x.round ≤ w.round) (λ x. x.round ≤ to.round) (λ x t. omega (arith, t, up)) a.seen (no_older a w g) in
      let two = seen_one lane (saw a (w ∷ [])) to one (all_append (λ x. x.round ≤ to.round) a.seen (w ∷ []) old (up, tt)) q in
      let is : (a.seen ++ (w ∷ [])) ++ (to ∷ []) ≡ b.seen = append_twice a.seen w to ∙ sym e in
      record { rising = subst IsRising is two.rising; rounds = subst (AllByRecursion (λ x. possible key.tag.value lane x.round)) is two.rounds }

  sits_after : (old new : Place G) (lane : ℕ) (a : LaneView) → Sits possible id key old → lane < key.lanes → new.table_id ≡ old.table_id
      → new.me ≡ (with_lane old.me.0 lane a, old.me.1) → HasSeen possible key.tag.value lane a → Sits possible id key new
  sits_after old new lane a s inside same me h = record {
    table = same ∙ s.table;
    empty = ap (λ m. m.1) me ∙ s.empty;
    view = v;
    is_view = is;
    tag = s.tag;
    seats = s.seats;
    lanes = length-set s.view.lanes lane a ∙ s.lanes;
    seen = λ k lt. subst (λ o. HasSeen possible key.tag.value k (lane_of o k)) (sym is)
        (view_at (HasSeen possible key.tag.value k) s.view.lanes lane a k (omega (arith, s.lanes, inside))
        (λ e. subst (λ l. HasSeen possible key.tag.value l a) (sym e) h)
        (λ ne. subst (λ o. HasSeen possible key.tag.value k (lane_of o k)) s.is_view (s.seen k lt)));
  } where
    v : Known G
    v = record s.view { lanes = set s.view.lanes lane a }

    is : new.me.0 ≡ Some v
    is = ap (λ m. m.0) me ∙ ap (λ o. with_lane o lane a) s.is_view

  -- what the step told, in the store's words
  told_is : (old : Place G) (lane : ℕ) (w : Word) → Sits possible id key old → Told possible old.me.0 lane w → AgreesWith key.seats w (view_in old lane) × possible key.tag.value lane w.round
  told_is old lane w s t = let u = subst (λ o. Told possible o lane w) s.is_view t in (
    subst (λ o. AgreesWith key.seats w (lane_of o lane)) (sym s.is_view) (subst (λ n. AgreesWith n w (lane_of (Some s.view) lane)) s.seats u.0),
    subst (λ g. possible g lane w.round) s.tag u.1,
  )

  loads_after : (old new : Place G) (lane : ℕ) (w : Word) → Sits possible id key old → lane < key.lanes → new.table_id ≡ old.table_id → new.id ≡ old.id
      → Told possible old.me.0 lane w → new.me ≡ (with_lane old.me.0 lane (saw (view_in old lane) (w ∷ [])), old.me.1)
      → Sits possible id key new × Loads key old new lane w
  loads_after old new lane w s inside same id_same t me = let u = told_is old lane w s t in (
    sits_after old new lane (saw (view_in old lane) (w ∷ [])) s inside same me (seen_one lane (view_in old lane) w (s.seen lane inside) (no_older (view_in old lane) w u.0) u.1),
    record { agrees = u.0; view = (same, id_same, ap (λ m. m.0) me) },
  )

  pub after_look : (old new : Place G) (lane slots n : ℕ) (w : Word) → Sits possible id key old → lane < key.lanes → new.table_id ≡ old.table_id → new.id ≡ old.id
      → looked possible (step slots lane 0 0 none) old.me n new.me → w ≡ unpacked n → Sits possible id key new × Loads key old new lane w
  after_look old new lane slots n w s inside same id_same t e = subst (λ x. Sits possible id key new × Loads key old new lane x) (sym e) (loads_after old new lane (unpacked n) s inside same id_same t.0 t.1)

  -- where an exchange found what it expected
  abbrev pub Won : Place G → Place G → ℕ → (LaneView → Word → Word → LaneView) → Word → Word → Type 0
  Won old new lane change w to = AgreesWith key.seats w (view_in old lane) × Becomes old new lane (change (view_in old lane) w to)

  won_after : (old new : Place G) (lane slots first second n : ℕ) (change : LaneView → Word → Word → LaneView) (w to : Word)
      → ((a : LaneView) (x y : Word) → (change a x y).seen ≡ a.seen ++ (x ∷ y ∷ []))
      → unpacked first ≡ w → unpacked second ≡ to → w.round ≤ to.round
      → (possible key.tag.value lane w.round → possible key.tag.value lane to.round)
      → Sits possible id key old → lane < key.lanes → new.table_id ≡ old.table_id → new.id ≡ old.id
      → exchanged possible change (step slots lane first second none) old.me n new.me → n ≡ first
      → Sits possible id key new × Won old new lane change w to
  won_after old new lane slots first second n change w to grows is_w is_to up p s inside same id_same t e =
      let u = told_is old lane w s (subst (λ x. Told possible old.me.0 lane x) (ap unpacked e ∙ is_w) t.0) in
      let a : LaneView = view_in old lane in
      let me : new.me ≡ (with_lane old.me.0 lane (change a w to), old.me.1) = t.1 e ∙ (λ j. (with_lane old.me.0 lane (change a (is_w j) (is_to j)), old.me.1)) in (
        sits_after old new lane (change a w to) s inside same me (seen_two lane a (change a w to) w to (s.seen lane inside) u.0 u.1 up (p u.1) (grows a w to)),
        (u.0, (same, id_same, ap (λ m. m.0) me)),
      )

  -- the exchange that sets the mark
  pub record Marked (old new : Place G) (lane first n : ℕ) (w : Word) : Type 0 where
    pub sits : Sits possible id key new
    pub won : n ≡ first → Won old new lane claimed w (marked w)
    pub lost : n ≢ first → (unpacked n ≢ w) × Loads key old new lane (unpacked n)

  pub after_mark : (old new : Place G) (lane slots first second n : ℕ) (w : Word) → first ≡ packed w → unpacked first ≡ w → unpacked second ≡ marked w
      → Sits possible id key old → lane < key.lanes → new.table_id ≡ old.table_id → new.id ≡ old.id
      → exchanged possible claimed (step slots lane first second none) old.me n new.me → Marked old new lane first n w
  after_mark old new lane slots first second n w is_first is_w is_to s inside same id_same t = record {
    sits = dite (ℕ_discrete n first) (λ e. (hit e).0) (λ ne. (miss ne).0);
    won = λ e. (hit e).1;
    lost = λ ne. ((λ e. ne (sym (packed-unpacked n) ∙ ap packed e ∙ sym is_first)), (miss ne).1);
  } where
    hit : n ≡ first → Sits possible id key new × Won old new lane claimed w (marked w)
    hit e = won_after old new lane slots first second n claimed w (marked w) (λ a x y. refl) is_w is_to (omega arith) (λ p. p) s inside same id_same t e

    miss : n ≢ first → Sits possible id key new × Loads key old new lane (unpacked n)
    miss ne = loads_after old new lane (unpacked n) s inside same id_same t.0 (t.2 ne)

  pub lost_as : (old new : Place G) (lane n : ℕ) (w found : Word) → found ≡ unpacked n → (unpacked n ≢ w) × Loads key old new lane (unpacked n) → (found ≢ w) × Loads key old new lane found
  lost_as old new lane n w found e h = subst (λ x. (x ≢ w) × Loads key old new lane x) (sym e) h

  -- an exchange of the seat that has the turn finds what it expects
  turn_wins : (old : Place G) (lane first n : ℕ) (w : Word) → Sits possible id key old → (view_in old lane).turn ≡ Some w → first ≡ packed w → Told possible old.me.0 lane (unpacked n) → n ≡ first
  turn_wins old lane first n w s turn is_first t = let u = told_is old lane (unpacked n) s t in sym (packed-unpacked n) ∙ ap packed (sym (u.0.turn w turn).0) ∙ sym is_first

  pub after_unmark : (old new : Place G) (lane slots first second n : ℕ) (w : Word) → first ≡ packed w → unpacked first ≡ w → unpacked second ≡ unmarked w
      → (view_in old lane).turn ≡ Some w
      → Sits possible id key old → lane < key.lanes → new.table_id ≡ old.table_id → new.id ≡ old.id
      → exchanged possible gave_up (step slots lane first second none) old.me n new.me → Sits possible id key new × Won old new lane gave_up w (unmarked w)
  after_unmark old new lane slots first second n w is_first is_w is_to turn s inside same id_same t =
      won_after old new lane slots first second n gave_up w (unmarked w) (λ a x y. refl) is_w is_to (omega arith) (λ p. p) s inside same id_same t (turn_wins old lane first n w s turn is_first t.0)

  pub after_advance : (old new : Place G) (lane slots first second n slot : ℕ) (w : Word) → first ≡ packed w → unpacked first ≡ w → unpacked second ≡ next_word w slot
      → (view_in old lane).turn ≡ Some w → possible key.tag.value lane (w.round + 1)
      → Sits possible id key old → lane < key.lanes → new.table_id ≡ old.table_id → new.id ≡ old.id
      → exchanged possible published (step slots lane first second none) old.me n new.me → Sits possible id key new × Won old new lane published w (next_word w slot)
  after_advance old new lane slots first second n slot w is_first is_w is_to turn p s inside same id_same t =
      won_after old new lane slots first second n published w (next_word w slot) (λ a x y. refl) is_w is_to (omega arith) (λ q. p) s inside same id_same t (turn_wins old lane first n w s turn is_first t.0)
