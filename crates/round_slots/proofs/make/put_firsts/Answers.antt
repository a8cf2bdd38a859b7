use Rattle.std.proofs.Common.{◌≡◌, ◌<◌, [], ◌∷◌, ◌++◌, length, get_or, rules, arith, ap, sym, subst, ◌∙◌}
use Rattle.round_slots.specs.Rows.{Admits}
use Rattle.round_slots.specs.Ends.{AreAdmitted}
use Rattle.round_slots.proofs.EndLemmas.{admitted_front, admitted_last, admitted_within}
use Rattle.round_slots.proofs.make.put_firsts.Goals as goal

pub offset_bounds-rows-len : goal.offset_bounds-rows-len
offset_bounds-rows-len g c =
    let e : c.loop-value.first.items ≡ c.pop.new.self.items ++ (c.in-Some.value ∷ []) = search rules in
    let w = admitted_within g.T.Numbered.belongs c.pop.new.self.items c.in-Some.value c.args.rows.now (subst (λ xs. AreAdmitted g.T.Numbered.belongs xs c.args.rows.now) e c.loop-value.invariant) in
    let lt : c.len.result < length c.args.rows.now = omega (arith, w, c.len.ensures) in
    search rules

pub bounds-rows-len : goal.bounds-rows-len
bounds-rows-len g c =
    let e : c.loop-value.first.items ≡ c.pop.new.self.items ++ (c.in-Some.value ∷ []) = search rules in
    let w = admitted_within g.T.Numbered.belongs c.pop.new.self.items c.in-Some.value c.args.rows.now (subst (λ xs. AreAdmitted g.T.Numbered.belongs xs c.args.rows.now) e c.loop-value.invariant) in
    omega (arith, w, c.len.ensures)

pub put_first-requires-clause-some : goal.put_first-requires-clause-some
put_first-requires-clause-some g c =
    let e : c.loop-value.first.items ≡ c.pop.new.self.items ++ (c.in-Some.value ∷ []) = search rules in
    let row = c.index-rows-len.result in
    let t = admitted_last g.T.Numbered.belongs c.pop.new.self.items c.in-Some.value c.args.rows.now row (subst (λ xs. AreAdmitted g.T.Numbered.belongs xs c.args.rows.now) e c.loop-value.invariant) in
    let n : c.len.result ≡ length c.pop.new.self.items = omega (arith, c.len.ensures) in
    let is : row ≡ get_or c.args.rows.now (length c.pop.new.self.items) row = c.index-rows-len.is ∙ ap (λ k. get_or c.args.rows.now k row) n in
    subst (λ xs. 0 < length xs) (sym (c.as_slice.ensures.value ∙ ap (λ r. r.items) is)) t.2

pub put_first-requires-clause-admits : goal.put_first-requires-clause-admits
put_first-requires-clause-admits g c =
    let e : c.loop-value.first.items ≡ c.pop.new.self.items ++ (c.in-Some.value ∷ []) = search rules in
    let row = c.index-rows-len.result in
    let t = admitted_last g.T.Numbered.belongs c.pop.new.self.items c.in-Some.value c.args.rows.now row (subst (λ xs. AreAdmitted g.T.Numbered.belongs xs c.args.rows.now) e c.loop-value.invariant) in
    let n : c.len.result ≡ length c.pop.new.self.items = omega (arith, c.len.ensures) in
    let is : row ≡ get_or c.args.rows.now (length c.pop.new.self.items) row = c.index-rows-len.is ∙ ap (λ k. get_or c.args.rows.now k row) n in
    subst (Admits g.T.Numbered.belongs c.in-Some.value) (sym (c.as_slice.ensures.value ∙ ap (λ r. r.items) is)) t.1

pub loop-value-preserved : goal.loop-value-preserved
loop-value-preserved g c =
    let e : c.loop-value.first.items ≡ c.pop.new.self.items ++ (c.in-Some.value ∷ []) = search rules in
    admitted_front g.T.Numbered.belongs c.pop.new.self.items (c.in-Some.value ∷ []) c.args.rows.now (subst (λ xs. AreAdmitted g.T.Numbered.belongs xs c.args.rows.now) e c.loop-value.invariant)
