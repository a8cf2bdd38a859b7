use Rattle.std.proofs.Common.{rules, true, ap, sym, ◌∙◌}
use Rattle.round_core.specs.declared.word.Word.{Word}
use Rattle.round_slots.proofs.StepLemmas.{mark_allowed}
use Rattle.round_slots.proofs.SitLemmas.{after_mark, lost_as}
use Rattle.round_slots.proofs.store.Store.mark.Goals as goal

pub compare_exchange-found-requires : goal.compare_exchange-found-requires
compare_exchange-found-requires g c = let s = c.requires.sits in let w = c.pack-expected.ensures.back in (
  search rules,
  search rules,
  mark_allowed g.T.Numbered.possible _ _ _ _ s.view _ s.is_view c.requires.lane _ _ (ap (λ x. x.claimed) w ∙ c.requires.free) (c.pack.ensures.back ∙ ap (λ x. let z : Word = record x { claimed = true } in z) (sym w)),
)

pub returns-then-found-expected-clause-sits : goal.returns-then-found-expected-clause-sits
returns-then-found-expected-clause-sits g c = let t = c.compare_exchange-found.ensures in
    (after_mark g.T.Numbered.possible _ _ _ _ _ c.args.self.now.words.shared.table_id.slots _ _ _ _ c.pack-expected.ensures.bits c.pack-expected.ensures.back c.pack.ensures.back c.requires.sits c.requires.lane t.0 t.1 t.2).sits

pub returns-then-found-expected-clause-won : goal.returns-then-found-expected-clause-won
returns-then-found-expected-clause-won g c = let t = c.compare_exchange-found.ensures in
    (after_mark g.T.Numbered.possible _ _ _ _ _ c.args.self.now.words.shared.table_id.slots _ _ _ _ c.pack-expected.ensures.bits c.pack-expected.ensures.back c.pack.ensures.back c.requires.sits c.requires.lane t.0 t.1 t.2).won (search rules)

pub returns-else-found-expected-clause-sits : goal.returns-else-found-expected-clause-sits
returns-else-found-expected-clause-sits g c = let t = c.compare_exchange-found.ensures in
    (after_mark g.T.Numbered.possible _ _ _ _ _ c.args.self.now.words.shared.table_id.slots _ _ _ _ c.pack-expected.ensures.bits c.pack-expected.ensures.back c.pack.ensures.back c.requires.sits c.requires.lane t.0 t.1 t.2).sits

pub returns-else-found-expected-clause-lost : goal.returns-else-found-expected-clause-lost
returns-else-found-expected-clause-lost g c = let t = c.compare_exchange-found.ensures in
    lost_as g.T.Numbered.possible c.args.self.now.words.shared.table_id _ _ _ _ _ _ _ c.unpack.ensures.word
    ((after_mark g.T.Numbered.possible _ _ _ _ _ c.args.self.now.words.shared.table_id.slots _ _ _ _ c.pack-expected.ensures.bits c.pack-expected.ensures.back c.pack.ensures.back c.requires.sits c.requires.lane t.0 t.1 t.2).lost c.if-found-expected.false)
