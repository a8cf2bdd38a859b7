use Rattle.std.proofs.Common.{[], ◌∷◌, ◌++◌, arith, ap, sym, subst, ◌∙◌}
use Rattle.round_slots.specs.Rows.{IsRow}
use Rattle.round_slots.proofs.PinLemmas.{no_loads, one_load, pins_at, shows_one, row_of, belongs_there}
use Rattle.round_slots.proofs.store.Store.pin.Goals as goal

pub loop-init : goal.loop-init
loop-init g c = (c.requires.sits, ([], no_loads c.args.seat.now.place c.args.lane))

pub loop-preserved : goal.loop-preserved
loop-preserved g c = let i = c.loop.invariant in (
  c.look-word.ensures.sits,
  (
    i.1.0 ++ (c.look-word.result ∷ []),
    (one_load g.T.Numbered.possible _ _ _ _ _ _ _ _ c.requires.sits c.requires.lane i.1.1 c.look-word.ensures.loads).1,
  ),
)

pub returns-in-Some-enter_round-clause-pins : goal.returns-in-Some-enter_round-clause-pins
returns-in-Some-enter_round-clause-pins g c = let i = c.loop.invariant in let t = c.in-Some-enter_round.ensures in
    pins_at g.T.Numbered.possible _ _ _ _ _ _ _ _ _ c.requires.sits c.requires.lane i.1.1 c.look-word.ensures.loads
    (sym t.1.2 ∙ ap g.T.Numbered.number (shows_one _ _ _ t.1.1 c.pinned-pin.ensures.shows))

pub returns-in-Some-enter_round-clause-belongs : goal.returns-in-Some-enter_round-clause-belongs
returns-in-Some-enter_round-clause-belongs g c =
    let t = c.in-Some-enter_round.ensures in
    let z = c.args.self.now.sized in
    let key = c.args.self.now.words.shared.key in
    let tag = c.in-Some-enter_round.right.tag in
    let r = row_of key _ _ c.index.result.now c.args.self.now.tagged (omega (arith, z.2, c.requires.lane)) c.index.ensures in
    subst (g.T.Numbered.belongs key.tag.value c.args.lane) (shows_one _ _ _ t.1.1 c.pinned-pin.ensures.shows)
    (belongs_there g.T.Numbered.belongs key _ _ _ tag _ (subst (IsRow key c.args.lane) (sym c.as_slice-row.ensures.value) r) t.2 (t.3 tag) t.1.3)
