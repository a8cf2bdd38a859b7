-- What a changed view says of each lane, for those who call.
use Rattle.std.proofs.Common.{◌≡◌, ◌≢◌, ℕ, ◌<◌, Bool, false, Option, Some, None, List, [], ◌∷◌, ◌++◌, refl, sym, ap, ◌∙◌, subst, ⊎_elim, get_or-set_other}
use Rattle.std.specs.List.{All}
use Rattle.std.specs.Option.{IfSome, option_to_list}
use Rattle.std.proofs.lemmas.List.Elements.{All-pop, All-same, All-from_recursion}
use mathlib.Core.Logic.{dite}
use native.Mathlib.Decide.{ℕ_discrete}
use Rattle.atomic_table.specs.Seated.{TableId}
use Rattle.round_slots.specs.declared.view.LaneView.{LaneView}
use Rattle.round_slots.specs.declared.view.Known.{Known}
use Rattle.round_slots.specs.declared.view.Key.{Key}
use Rattle.round_slots.specs.View.{no_view, lane_of, with_lane, first_view}
use Rattle.round_slots.specs.Seats.{Place, Sits, Becomes, HasNoTurn, view_in}
use Rattle.round_core.specs.declared.word.Word.{Word}
use Rattle.round_slots.specs.declared.store.ClaimRefused.{ClaimRefused}
use Rattle.round_slots.specs.Claims.{Claims, Refuses}
use Rattle.round_slots.proofs.ClaimLemmas.{changed_view}

module _ {G : Type 0} where
  other_lane : (o : Option (Known G)) (lane k : ℕ) (a : LaneView) → k ≢ lane → lane_of (with_lane o lane a) k ≡ lane_of o k
  other_lane None lane k a ne = refl
  other_lane (Some v) lane k a ne = get_or-set_other v.lanes lane k a no_view ne

  -- the other lanes' views stay
  pub other_view : (old new : Place G) (lane k : ℕ) (a : LaneView) → Becomes old new lane a → k ≢ lane → view_in new k ≡ view_in old k
  other_view old new lane k a b ne = ap (λ o. lane_of o k) b.2 ∙ other_lane old.me.0 lane k a ne

  -- where the view of one lane has no turn after it changed, and no lane had one, none has
  pub no_turn_after : (possible : G → ℕ → ℕ → Type 0) (id : TableId) (key : Key G) (old new : Place G) (lane : ℕ) (a : LaneView) → Sits possible id key old → lane < key.lanes → Becomes old new lane a
      → a.turn ≡ None → HasNoTurn key old → HasNoTurn key new
  no_turn_after possible id key old new lane a s inside b e h k lt = dite (ℕ_discrete k lane)
      (λ is. subst (λ l. (view_in new l).turn ≡ None) (sym is) (ap (λ c. c.turn) (changed_view possible id key old new lane a s inside b.2) ∙ e))
      (λ ne. ap (λ c. c.turn) (other_view old new lane k a b ne) ∙ h k lt)

  -- the seat has no turn in a lane other than this one
  abbrev pub HasNoTurnElsewhere : Key G → Place G → ℕ → Type 0
  HasNoTurnElsewhere key p lane = (k : ℕ) → k < key.lanes → k ≢ lane → (view_in p k).turn ≡ None

  pub elsewhere_after : (key : Key G) (old new : Place G) (lane : ℕ) (a : LaneView) → Becomes old new lane a → HasNoTurnElsewhere key old lane → HasNoTurnElsewhere key new lane
  elsewhere_after key old new lane a b h k lt ne = ap (λ c. c.turn) (other_view old new lane k a b ne) ∙ h k lt ne

  pub whole : (key : Key G) (p : Place G) (lane : ℕ) → HasNoTurnElsewhere key p lane → (view_in p lane).turn ≡ None → HasNoTurn key p
  whole key p lane h e k lt = dite (ℕ_discrete k lane) (λ is. subst (λ l. (view_in p l).turn ≡ None) (sym is) e) (λ ne. h k lt ne)

  pub elsewhere : (key : Key G) (p : Place G) (lane : ℕ) → HasNoTurn key p → HasNoTurnElsewhere key p lane
  elsewhere key p lane h k lt ne = h k lt

  pub claims_elsewhere : (key : Key G) (old new : Place G) (lane round : ℕ) (w : Word) → Claims key old new lane round w → HasNoTurnElsewhere key old lane → HasNoTurnElsewhere key new lane
  claims_elsewhere key old new lane round w c h = elsewhere_after key c.between new lane _ c.view (elsewhere_after key old c.between lane _ c.loads.view h)

  pub refuses_elsewhere : (key : Key G) (old new : Place G) (lane round : ℕ) (cause : ClaimRefused) → Refuses key old new lane round cause → HasNoTurnElsewhere key old lane → HasNoTurnElsewhere key new lane
  refuses_elsewhere key old new lane round cause r h = ⊎_elim
      (λ c. elsewhere_after key old new lane _ c.loads.view h)
      (λ c. elsewhere_after key c.between new lane _ c.finds.view (elsewhere_after key old c.between lane _ c.loads.view h))
      r

  -- seats that have done nothing, but for the last, which is taken out
  pub pop_ready : {X : Type 0} (place : X → Place G) (pinned : X → Bool) (possible : G → ℕ → ℕ → Type 0) (id : TableId) (key : Key G) (xs ys : List X) (r : Option X) → xs ≡ ys ++ option_to_list r
      → All (λ x. Sits possible id key (place x) × ((place x).me.0 ≡ first_view key) × HasNoTurn key (place x) × (pinned x ≡ false)) xs
      → All (λ x. Sits possible id key (place x) × ((place x).me.0 ≡ first_view key) × HasNoTurn key (place x) × (pinned x ≡ false)) ys
      × IfSome r (λ x. Sits possible id key (place x) × ((place x).me.0 ≡ first_view key) × HasNoTurn key (place x) × (pinned x ≡ false))
  pop_ready place pinned possible id key xs ys r e h = All-pop (λ x. Sits possible id key (place x) × ((place x).me.0 ≡ first_view key) × HasNoTurn key (place x) × (pinned x ≡ false)) xs ys r e h

  -- one seat of the store is all seats of the store
  pub one_sits : {X : Type 0} (place : X → Place G) (possible : G → ℕ → ℕ → Type 0) (id : TableId) (key : Key G) (xs : List X) (x : X) → xs ≡ x ∷ [] → Sits possible id key (place x) → All (λ y. Sits possible id key (place y)) xs
  one_sits place possible id key xs x e s = All-same (λ y. Sits possible id key (place y)) xs (x ∷ []) e (All-from_recursion (λ y. Sits possible id key (place y)) (x ∷ []) (s, tt))
