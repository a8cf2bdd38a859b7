use Rattle.std.proofs.Common.{◌≡◌, [], ◌∷◌, ◌++◌, rules}
use Rattle.std.proofs.lemmas.List.Elements.{All-from_recursion, recursion_from_All}
use Rattle.round_slots.specs.Joins.{gathered_lane}
use Rattle.round_slots.proofs.JoinLemmas.{joins_allowed, gathered_merges}
use Rattle.round_slots.proofs.EndLemmas.{next_seat, gathered_next, gathered_all}
use Rattle.round_slots.proofs.make.gather.Goals as goal

pub join_seat-requires : goal.join_seat-requires
join_seat-requires g c =
    let i = c.loop-other.invariant in
    let key = c.args.words.now.shared.key in
    let e : c.loop-other.seats.items ≡ c.pop-in-loop-other.new.self.items ++ (c.in-Some-pop.field-0 ∷ []) = search rules in
    let o = next_seat _ key _ _ _ _ _ c.in-Some-pop.field-0 i e (recursion_from_All _ _ c.requires.sit) in (
      i.seat.table,
      o.table,
      o.empty,
      c.requires.some_word,
      joins_allowed g.T.Numbered.possible key gathered_lane (gathered_merges g.T.Numbered.possible key) _ _ _ _ i.seat.view o.view i.seat.is_view o.is_view,
    )

pub loop-other-preserved : goal.loop-other-preserved
loop-other-preserved g c =
    let i = c.loop-other.invariant in
    let key = c.args.words.now.shared.key in
    let e : c.loop-other.seats.items ≡ c.pop-in-loop-other.new.self.items ++ (c.in-Some-pop.field-0 ∷ []) = search rules in
    let o = next_seat _ key _ _ _ _ _ c.in-Some-pop.field-0 i e (recursion_from_All _ _ c.requires.sit) in
    let j = c.join_seat.ensures in
    gathered_next _ key _ _ _ _ _ c.join_seat.new.seat c.in-Some-pop.field-0 i e o j.0 j.2

pub returns-clause-covers : goal.returns-clause-covers
returns-clause-covers g c =
    let none : c.loop-other.seats.items ≡ [] = search rules in
    All-from_recursion _ _ (gathered_all _ _ _ _ _ _ c.loop-other.invariant none)
