-- What the table of words asks of each step: the rule is kept, and the seat is told what the step's play says.
use Rattle.std.proofs.Common.{◌≡◌, ◌≢◌, ℕ, ◌+◌, ◌<◌, ◌==◌, false, Option, Some, [], ◌∷◌, get_or, refl, sym, ap, ◌∙◌, subst}
use mathlib.Core.Option.{some, none}
use lib.ListN.{get_elem?}
use prog.Atomic.{either}
use Rattle.atomic_table.specs.Table.{State, Me, step, Act, keeps, stepped, Valid, carried_after, Allows}
use Rattle.atomic_table.proofs.Lists.{exchanged as exchange_cases}
use Rattle.round_core.specs.declared.word.Word.{Word}
use Rattle.round_core.specs.Word.{unpacked}
use Rattle.round_slots.specs.declared.view.LaneView.{LaneView}
use Rattle.round_slots.specs.declared.view.Known.{Known}
use Rattle.round_slots.specs.declared.view.Key.{Key}
use Rattle.round_slots.specs.View.{lane_of, with_lane, saw, marked, unmarked, next_word, claimed, gave_up, published}
use Rattle.round_slots.specs.Rule.{AgreesWith, word_of, Keeps}
use Rattle.round_slots.specs.Plays.{Told, looked, exchanged}
use Rattle.round_slots.proofs.RuleLemmas.{Moves, moves}
use Rattle.round_slots.proofs.MoveLemmas.{looks, claims, gives_up, publishes}

module _ {G : Type 0} (possible : G → ℕ → ℕ → Type 0) (key : Key G) where
  abbrev S : Type 0
  S = State (Unit {0}) (Option (Known G))

  abbrev M : Type 0
  M = Me (Unit {0}) (Option (Known G))

  -- what the rule says of the lane's word is what the seat is told of it
  told : (s : S) (i lane : ℕ) (v : Known G) → Keeps key possible s → get_elem? s.views i ≡ some (Some v) → lane < key.lanes → Told possible (Some v) lane (word_of s.words lane)
  told s i lane v r at inside = let k = r.knows i v at in (
    subst (λ n. AgreesWith n (word_of s.words lane) (lane_of (Some v) lane)) (sym k.seats) (k.agrees lane inside),
    subst (λ t. possible t lane (word_of s.words lane).round) (sym k.tag) (r.rounds lane inside),
  )

  -- the state after a step on the word of the lane, where the view is there
  abbrev After : S → ℕ → M → ℕ → ℕ → (ℕ → M → Type 0) → Type 0
  After s id me lane n then = (w : Option (Known G)) × (a : Act (Unit {0})) × Valid s.homes me.1 a × Keeps key possible (stepped s lane n id me.1 w a) × then (get_or s.words lane 0) (w, carried_after me.1 a)

  moved : (s : S) (id : ℕ) (me : M) (lane n : ℕ) (v : Known G) (b : LaneView) (then : ℕ → M → Type 0) → me.0 ≡ Some v → Keeps key possible s → get_elem? s.views id ≡ some me.0 → lane < key.lanes
      → Moves possible key lane (word_of s.words lane) (unpacked n) (lane_of (Some v) lane) b
      → (then (get_or s.words lane 0) (with_lane (Some v) lane b, me.1))
      → After s id me lane n then
  moved s id me lane n v b then is r at inside m t = (with_lane (Some v) lane b, keeps, tt, moves possible key s s.homes id lane n v b r (at ∙ ap some is) inside m, t)

  module _ (slots id : ℕ) (me : M) (v : Known G) (lane : ℕ) (is : me.0 ≡ Some v) (inside : lane < key.lanes) where
    told_me : (s : S) → Keeps key possible s → get_elem? s.views id ≡ some me.0 → Told possible me.0 lane (word_of s.words lane)
    told_me s r at = subst (λ o. Told possible o lane (word_of s.words lane)) (sym is) (told s id lane v r (at ∙ ap some is) inside)

    -- what is known of the word before the step
    abbrev Agreed : Word → Type 0
    Agreed w = AgreesWith key.seats w (lane_of (Some v) lane) × possible key.tag.value lane w.round

    agreed : (s : S) → Keeps key possible s → get_elem? s.views id ≡ some me.0 → Agreed (word_of s.words lane)
    agreed s r at = ((r.knows id v (at ∙ ap some is)).agrees lane inside, r.rounds lane inside)

    as_before : (s : S) (then : ℕ → M → Type 0) → Keeps key possible s → get_elem? s.views id ≡ some me.0
        → then (get_or s.words lane 0) (with_lane me.0 lane (saw (lane_of me.0 lane) (word_of s.words lane ∷ [])), me.1)
        → After s id me lane (get_or s.words lane 0) then
    as_before s then r at t = let g = agreed s r at in
        moved s id me lane (get_or s.words lane 0) v (saw (lane_of (Some v) lane) (word_of s.words lane ∷ [])) then is r at inside
        (looks possible key lane (word_of s.words lane) (lane_of (Some v) lane) g.0 g.1)
        (subst (λ o. then (get_or s.words lane 0) (with_lane o lane (saw (lane_of o lane) (word_of s.words lane ∷ [])), me.1)) is t)

    pub look_allowed : Allows (Keeps key possible) slots id me lane (λ n. n) (looked possible (step slots lane 0 0 none) me)
    look_allowed s r deep at small = as_before s (looked possible (step slots lane 0 0 none) me) r at (told_me s r at, refl)

    -- an exchange whose change is a move from the word that it expects
    pub exchange_allowed : (change : LaneView → Word → Word → LaneView) (old new : ℕ)
        → (Agreed (unpacked old) → Moves possible key lane (unpacked old) (unpacked new) (lane_of (Some v) lane) (change (lane_of (Some v) lane) (unpacked old) (unpacked new)))
        → Allows (Keeps key possible) slots id me lane (λ n. either (n == old) new n) (exchanged possible change (step slots lane old new none) me)
    exchange_allowed change old new m s r deep at small = exchange_cases n old new (λ k. After s id me lane k then) hit miss where
      n : ℕ
      n = get_or s.words lane 0

      then : ℕ → M → Type 0
      then = exchanged possible change (step slots lane old new none) me

      hit : n ≡ old → After s id me lane new then
      hit e = moved s id me lane new v (change (lane_of (Some v) lane) (unpacked old) (unpacked new)) then is r at inside
          (subst (λ k. Moves possible key lane (unpacked k) (unpacked new) (lane_of (Some v) lane) (change (lane_of (Some v) lane) (unpacked old) (unpacked new))) (sym e)
          (m (subst (λ k. Agreed (unpacked k)) e (agreed s r at)))) (
            told_me s r at,
            (λ same. λ j. (with_lane (sym is j) lane (change (lane_of (sym is j) lane) (unpacked old) (unpacked new)), me.1)),
            (λ other. absurd (other e)),
          )

      miss : n ≢ old → After s id me lane n then
      miss ne = as_before s then r at (told_me s r at, (λ e. absurd (ne e)), (λ other. refl))

    pub mark_allowed : (old new : ℕ) → (unpacked old).claimed ≡ false → unpacked new ≡ marked (unpacked old)
        → Allows (Keeps key possible) slots id me lane (λ n. either (n == old) new n) (exchanged possible claimed (step slots lane old new none) me)
    mark_allowed old new free e = exchange_allowed claimed old new
        (λ g. subst (λ w. Moves possible key lane (unpacked old) w (lane_of (Some v) lane) (claimed (lane_of (Some v) lane) (unpacked old) w)) (sym e)
        (claims possible key lane (unpacked old) (lane_of (Some v) lane) free g.0 g.1))

    pub unmark_allowed : (old new : ℕ) → (lane_of (Some v) lane).turn ≡ Some (unpacked old) → unpacked new ≡ unmarked (unpacked old)
        → Allows (Keeps key possible) slots id me lane (λ n. either (n == old) new n) (exchanged possible gave_up (step slots lane old new none) me)
    unmark_allowed old new turn e = exchange_allowed gave_up old new
        (λ g. subst (λ w. Moves possible key lane (unpacked old) w (lane_of (Some v) lane) (gave_up (lane_of (Some v) lane) (unpacked old) w)) (sym e)
        (gives_up possible key lane (unpacked old) (lane_of (Some v) lane) turn g.0 g.1))

    pub advance_allowed : (old new slot : ℕ) → (lane_of (Some v) lane).turn ≡ Some (unpacked old) → unpacked new ≡ next_word (unpacked old) slot
        → possible key.tag.value lane ((unpacked old).round + 1)
        → Allows (Keeps key possible) slots id me lane (λ n. either (n == old) new n) (exchanged possible published (step slots lane old new none) me)
    advance_allowed old new slot turn e p = exchange_allowed published old new
        (λ g. subst (λ w. Moves possible key lane (unpacked old) w (lane_of (Some v) lane) (published (lane_of (Some v) lane) (unpacked old) w)) (sym e)
        (publishes possible key lane (unpacked old) (lane_of (Some v) lane) slot turn g.0 p))
