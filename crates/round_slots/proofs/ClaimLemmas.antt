-- A claim whose exchange fails found a word that refuses it.
use Rattle.std.proofs.Common.{◌≡◌, ◌≢◌, ℕ, ◌<◌, ◌==◌, Bool, true, false, cond, Option, Some, None, [], ◌∷◌, refl, sym, ap, ◌∙◌, subst, inr, arith, get_or-set_same}
use Rattle.std.proofs.lemmas.Bool.{eqb-true}
use Rattle.std.proofs.lemmas.Option.{none-some}
use Rattle.std.specs.List.{AllByRecursion}
use Rattle.std.specs.Option.{unwrap_or}
use Rattle.atomic_table.specs.Seated.{TableId}
use Rattle.round_core.specs.declared.word.Word.{Word}
use Rattle.round_core.specs.Laws.{IsNoNewer}
use Rattle.round_slots.specs.declared.view.LaneView.{LaneView}
use Rattle.round_slots.specs.declared.view.Key.{Key}
use Rattle.round_slots.specs.declared.store.ClaimRefused.{ClaimRefused}
use Rattle.round_slots.specs.declared.store.ClaimRefused.TheVariants.{Busy, Moved}
use Rattle.round_slots.specs.View.{no_view, lane_of, with_lane, saw}
use Rattle.round_slots.specs.Seats.{Place, Sits, Loads, view_in}
use Rattle.round_slots.specs.Claims.{refusal, Refuses}
use Rattle.round_slots.proofs.ListLemmas.{all_right}

refusal_none : (round : ℕ) (w : Word) → refusal round w ≡ None → (w.round ≡ round) × (w.claimed ≡ false)
refusal_none round w e = at (w.round == round) w.claimed refl refl e where
  at : (b c : Bool) → (w.round == round) ≡ b → w.claimed ≡ c → cond b (cond c (Some (Busy round)) None) (Some (Moved w.round)) ≡ None → (w.round ≡ round) × (w.claimed ≡ false)
  at true true p q e = absurd (none-some (Busy round) (sym e))
  at true false p q e = (eqb-true w.round round p, q)
  at false c p q e = absurd (none-some (Moved w.round) (sym e))

module _ {G : Type 0} (possible : G → ℕ → ℕ → Type 0) (id : TableId) (key : Key G) where
  -- the view of the lane in which the seat's view has changed
  pub changed_view : (old new : Place G) (lane : ℕ) (a : LaneView) → Sits possible id key old → lane < key.lanes → new.me.0 ≡ with_lane old.me.0 lane a → view_in new lane ≡ a
  changed_view old new lane a s inside e = ap (λ o. lane_of o lane) e ∙ (ap (λ o. lane_of (with_lane o lane a) lane) s.is_view ∙ get_or-set_same s.view.lanes lane a no_view (omega (arith, s.lanes, inside)))

  pub changed_turn : (old new : Place G) (lane : ℕ) (a : LaneView) → Sits possible id key old → lane < key.lanes → new.me.0 ≡ with_lane old.me.0 lane a → (view_in new lane).turn ≡ a.turn
  changed_turn old new lane a s inside e = ap (λ b. b.turn) (changed_view old new lane a s inside e)

  -- a load leaves the turn as it was
  pub same_turn : (old new : Place G) (lane : ℕ) (w : Word) → Sits possible id key old → lane < key.lanes → Loads key old new lane w → (view_in new lane).turn ≡ (view_in old lane).turn
  same_turn old new lane w s inside l = changed_turn old new lane (saw (view_in old lane) (w ∷ [])) s inside l.view.2

  pub refused_at_exchange : (old between new : Place G) (lane round : ℕ) (w found : Word) (cause : ClaimRefused)
      → Sits possible id key old → lane < key.lanes
      → Loads key old between lane w → refusal round w ≡ None → found ≢ w → Loads key between new lane found
      → cause ≡ unwrap_or (refusal round found) (Busy round)
      → Refuses key old new lane round cause
  refused_at_exchange old between new lane round w found cause s inside l free other m h = at (refusal round found) refl where
    same : refusal round found ≡ None → found ≡ w
    same e =
        let a = refusal_none round w free in
        let b = refusal_none round found e in
        let seen = subst (λ v. AllByRecursion (λ x. IsNoNewer x found) v.seen) (changed_view old between lane (saw (view_in old lane) (w ∷ [])) s inside l.view.2) m.agrees.seen in
        let newer : IsNoNewer w found = (all_right (λ x. IsNoNewer x found) (view_in old lane).seen (w ∷ []) seen).0 in
        let rounds : found.round ≡ w.round = b.0 ∙ sym a.0 in
        let slots : found.slot ≡ w.slot = sym (newer.slot (sym rounds)) in
        let marks : found.claimed ≡ w.claimed = b.1 ∙ sym a.1 in
        λ j. let x : Word = record { round = rounds j; claimed = marks j; slot = slots j } in x

    at : (o : Option ClaimRefused) → refusal round found ≡ o → Refuses key old new lane round cause
    at None e = absurd (other (same e))
    at (Some d) e = inr (record { loaded = w; found = found; between = between; loads = l; free = free; finds = m; other = other; refuses = e ∙ ap Some (sym (h ∙ ap (λ o. unwrap_or o (Busy round)) e)) })
