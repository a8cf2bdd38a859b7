use Rattle.std.proofs.Common.{rules, false, Some, ap, sym, ◌∙◌}
use Rattle.round_core.specs.declared.word.Word.{Word}
use Rattle.round_slots.specs.View.{lane_of}
use Rattle.round_slots.proofs.StepLemmas.{unmark_allowed}
use Rattle.round_slots.proofs.SitLemmas.{after_unmark}
use Rattle.round_slots.proofs.store.Store.give_up.Goals as goal

pub compare_exchange-requires : goal.compare_exchange-requires
compare_exchange-requires g c = let s = c.requires.sits in let w = c.pack.ensures.back in (
  search rules,
  search rules,
  unmark_allowed g.T.Numbered.possible _ _ _ _ s.view _ s.is_view c.requires.lane _ _
      (ap (λ o. (lane_of o c.args.turn.lane).turn) (sym s.is_view) ∙ (c.requires.turn ∙ ap Some (sym w)))
      (c.pack-2.ensures.back ∙ ap (λ x. let z : Word = record x { claimed = false } in z) (sym w)),
)

pub returns-clause-sits : goal.returns-clause-sits
returns-clause-sits g c = let t = c.compare_exchange.ensures in
    (after_unmark g.T.Numbered.possible _ _ _ _ _ c.args.self.now.words.shared.table_id.slots _ _ _ _ c.pack.ensures.bits c.pack.ensures.back c.pack-2.ensures.back c.requires.turn c.requires.sits c.requires.lane t.0 t.1 t.2).0

pub returns-clause-gives_up : goal.returns-clause-gives_up
returns-clause-gives_up g c = let t = c.compare_exchange.ensures in
    (after_unmark g.T.Numbered.possible _ _ _ _ _ c.args.self.now.words.shared.table_id.slots _ _ _ _ c.pack.ensures.bits c.pack.ensures.back c.pack-2.ensures.back c.requires.turn c.requires.sits c.requires.lane t.0 t.1 t.2).1
