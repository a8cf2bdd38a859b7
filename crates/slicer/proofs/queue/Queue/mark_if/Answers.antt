use Rattle.std.proofs.Common.{◌≡◌, ◌∙◌, ◌+◌, ◌<◌, false, get_or, length, set, sym, subst, take, IsTrue}
use Rattle.std.proofs.lemmas.List.{get_or_default}
use Rattle.slicer.specs.Search.{Adds, Met}
use Rattle.slicer.proofs.QueueLemmas.{queue-mark, adds-mark, room-left}
use Rattle.slicer.proofs.queue.Queue.mark_if.Goals as goal

pub index_mut-requires-2 : goal.index_mut-requires-2
index_mut-requires-2 c =
    let within : c.args.node < length c.self.inside.marks.items = subst (λ l. c.args.node < l) (c.len.ensures ∙ c.self.inside.marks.ok.0) c.if-place-len.false in
    let off : get_or c.self.inside.marks.items c.args.node false ≡ false = get_or_default c.self.inside.marks.items c.args.node false c.index.result.now within ∙ sym c.index.ensures ∙ c.if-index.false in
    subst (λ l. c.self.inside.count < l) (sym c.self.inside.list.ok.0) (room-left c.self.inside.marks.items c.self.inside.list.items c.self.inside.count c.args.node c.self.invariant within off)

pub invariant_of-self : goal.invariant_of-self
invariant_of-self c =
    let within : c.args.node < length c.self.inside.marks.items = subst (λ l. c.args.node < l) (c.len.ensures ∙ c.self.inside.marks.ok.0) c.if-place-len.false in
    let off : get_or c.self.inside.marks.items c.args.node false ≡ false = get_or_default c.self.inside.marks.items c.args.node false c.index.result.now within ∙ sym c.index.ensures ∙ c.if-index.false in
    queue-mark c.self.inside.marks.items c.self.inside.list.items c.self.inside.count c.args.node c.self.invariant within off

pub returns-clause-adds : goal.returns-clause-adds
returns-clause-adds c =
    let within : c.args.node < length c.self.inside.marks.items = subst (λ l. c.args.node < l) (c.len.ensures ∙ c.self.inside.marks.ok.0) c.if-place-len.false in
    let off : get_or c.self.inside.marks.items c.args.node false ≡ false = get_or_default c.self.inside.marks.items c.args.node false c.index.result.now within ∙ sym c.index.ensures ∙ c.if-index.false in
    subst (λ (v : Met). Adds (λ n. IsTrue c.args.is_wished × (n ≡ c.args.node) × (n < v.size)) v.nodes (take (c.self.inside.count + 1) (set c.self.inside.list.items c.self.inside.count c.args.node))) c.self.view_is
    (adds-mark c.self.inside.marks.items c.self.inside.list.items c.self.inside.count c.args.node c.args.is_wished c.if-not-is_wished.false c.self.invariant within off)
