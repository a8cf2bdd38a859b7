use Rattle.std.proofs.Common.{◌+◌, ◌≤◌, length, Some, rules, arith, ap, sym, subst, ◌∙◌}
use Rattle.round_slots.specs.Rows.{Admits}
use Rattle.round_slots.specs.View.{lane_of, next_word}
use Rattle.round_slots.proofs.StepLemmas.{advance_allowed}
use Rattle.round_slots.proofs.SitLemmas.{after_advance}
use Rattle.round_slots.proofs.ClaimLemmas.{changed_turn}
use Rattle.round_slots.proofs.PinLemmas.{row_of, admits}
use Rattle.round_slots.proofs.store.Store.publish.Goals as goal

pub put-slot-requires-clause-admits : goal.put-slot-requires-clause-admits
put-slot-requires-clause-admits g c =
    let z = c.args.self.now.sized in
    let key = c.args.self.now.words.shared.key in
    let r = row_of key _ _ c.index.result.now c.args.self.now.tagged (omega (arith, z.2, c.requires.lane)) c.index.ensures in
    subst (Admits g.T.Numbered.belongs c.args.value) (sym c.as_slice-row.ensures.value) (admits g.T.Numbered.belongs key _ _ _ r c.requires.belongs)

pub put-slot-requires-clause-few : goal.put-slot-requires-clause-few
put-slot-requires-clause-few g c =
    let z = c.args.self.now.sized in
    let key = c.args.self.now.words.shared.key in
    let r = row_of key _ _ c.index.result.now c.args.self.now.tagged (omega (arith, z.2, c.requires.lane)) c.index.ensures in
    subst (λ xs. length xs ≤ 14) (sym c.as_slice-row.ensures.value) (omega (arith, r.0, z.3))

pub pack-requires-2 : goal.pack-requires-2
pack-requires-2 g c =
    let z = c.args.self.now.sized in
    let key = c.args.self.now.words.shared.key in
    let r = row_of key _ _ c.index.result.now c.args.self.now.tagged (omega (arith, z.2, c.requires.lane)) c.index.ensures in
    let few : length c.as_slice-row.result.now ≤ 14 = subst (λ xs. length xs ≤ 14) (sym c.as_slice-row.ensures.value) (omega (arith, r.0, z.3)) in
    omega (arith, few, c.put-slot.ensures)

pub compare_exchange-requires : goal.compare_exchange-requires
compare_exchange-requires g c =
    let s = c.requires.sits in
    let w = c.pack.ensures.back in
    let key = c.args.self.now.words.shared.key in
    let lane = c.args.turn.lane in (
      search rules,
      search rules,
      advance_allowed g.T.Numbered.possible key _ _ _ s.view _ s.is_view c.requires.lane _ _ c.put-slot.result
          (ap (λ o. (lane_of o lane).turn) (sym s.is_view) ∙ (c.requires.turn ∙ ap Some (sym w)))
          (c.pack-2.ensures.back ∙ ap (λ x. next_word x c.put-slot.result) (sym w))
          (subst (g.T.Numbered.possible key.tag.value lane) (c.requires.next ∙ ap (λ x. x.round + 1) (sym w)) (g.met.T.Numbered.belongs_to_possible _ _ _ c.requires.belongs)),
    )

pub returns-clause-sits : goal.returns-clause-sits
returns-clause-sits g c = let t = c.compare_exchange.ensures in let key = c.args.self.now.words.shared.key in
    (after_advance g.T.Numbered.possible _ _ _ _ _ c.args.self.now.words.shared.table_id.slots _ _ _ c.put-slot.result _ c.pack.ensures.bits c.pack.ensures.back c.pack-2.ensures.back c.requires.turn
    (subst (g.T.Numbered.possible key.tag.value c.args.turn.lane) c.requires.next (g.met.T.Numbered.belongs_to_possible _ _ _ c.requires.belongs))
    c.requires.sits c.requires.lane t.0 t.1 t.2).0

pub returns-clause-publishes : goal.returns-clause-publishes
returns-clause-publishes g c = let t = c.compare_exchange.ensures in let key = c.args.self.now.words.shared.key in
    let won = (after_advance g.T.Numbered.possible _ _ _ _ _ c.args.self.now.words.shared.table_id.slots _ _ _ c.put-slot.result _ c.pack.ensures.bits c.pack.ensures.back c.pack-2.ensures.back c.requires.turn
    (subst (g.T.Numbered.possible key.tag.value c.args.turn.lane) c.requires.next (g.met.T.Numbered.belongs_to_possible _ _ _ c.requires.belongs))
    c.requires.sits c.requires.lane t.0 t.1 t.2).1 in
    (c.put-slot.result, won.0, won.1)

pub returns-clause-ends : goal.returns-clause-ends
returns-clause-ends g c = let t = c.compare_exchange.ensures in let key = c.args.self.now.words.shared.key in
    let won = (after_advance g.T.Numbered.possible _ _ _ _ _ c.args.self.now.words.shared.table_id.slots _ _ _ c.put-slot.result _ c.pack.ensures.bits c.pack.ensures.back c.pack-2.ensures.back c.requires.turn
    (subst (g.T.Numbered.possible key.tag.value c.args.turn.lane) c.requires.next (g.met.T.Numbered.belongs_to_possible _ _ _ c.requires.belongs))
    c.requires.sits c.requires.lane t.0 t.1 t.2).1 in
    changed_turn g.T.Numbered.possible _ _ c.args.seat.now.place c.compare_exchange.new.seat _ _ c.requires.sits c.requires.lane won.1.2
