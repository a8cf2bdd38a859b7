use Rattle.std.proofs.Common.{◌≡◌, ◌≤◌, ◌<◌, length, Some, slice_get, sym, ◌∙◌, arith, refl, subst}
use Rattle.std.specs.List.{Contains}
use Rattle.call_strings.proofs.NodeLemmas.{found_at, is_there, not_there}
use Rattle.call_strings.proofs.table.NodeTable.number.Goals as goal

pub overflow_cast-result : goal.overflow_cast-result
overflow_cast-result c =
    let few : length c.self.inside.nodes.keys ≤ 4096 = c.self.invariant in
    let within : c.in-Some.number < length c.self.inside.nodes.keys = c.in-Some.ensures.within in
    omega arith

pub returns-in-Some-clause-number : goal.returns-in-Some-clause-number
returns-in-Some-clause-number c =
    subst (λ nodes. slice_get nodes c.in-Some.number ≡ Some c.args.node.now) c.self.view_is
    (found_at c.self.inside.nodes.keys c.args.node.now c.in-Some.number (sym c.get_index_of.ensures.index ∙ c.in-Some.is))

pub returns-in-Some-clause-full : goal.returns-in-Some-clause-full
returns-in-Some-clause-full c =
    let there = is_there c.self.inside.nodes.keys c.args.node.now (sym c.in-Some.ensures.found) in
    (λ e. cc, λ h. absurd (h.1 (subst (λ nodes. Contains nodes c.args.node.now) c.self.view_is there)))

pub returns-then-len-ge-MAX_NODES-clause-full : goal.returns-then-len-ge-MAX_NODES-clause-full
returns-then-len-ge-MAX_NODES-clause-full c =
    let full : 4096 ≤ length c.self.inside.nodes.keys = subst (λ n. 4096 ≤ n) c.len.ensures.len c.if-len-ge-MAX_NODES.true in
    let absent = not_there c.self.inside.nodes.keys c.args.node.now (sym c.in_default.ensures.found) in
    (λ e. subst (λ nodes. (4096 ≤ length nodes) × (Contains nodes c.args.node.now → ⊥)) c.self.view_is (full, absent), λ h. refl)
