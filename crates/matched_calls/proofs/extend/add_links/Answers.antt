use Rattle.std.proofs.Common.{refl, get_or, arith, eq-eqb, eqb-true}
use Rattle.matched_calls.proofs.ExtendLemmas.{link_all, link_more}
use Rattle.matched_calls.proofs.extend.add_links.Goals as goal

pub loop-j-preserved : goal.loop-j-preserved
loop-j-preserved c =
    link_more c.args.count c.args.node c.loop-j.j (get_or c.args.after.now c.loop-j.j (0, 0)).0 c.args.after.now _ c.args.list.now.items c.loop-j.list.items c.push_if.new.list.items
    refl (λ is. eqb-true (get_or c.args.after.now c.loop-j.j (0, 0)).0 c.args.node is, λ same. eq-eqb (get_or c.args.after.now c.loop-j.j (0, 0)).0 c.args.node same) c.loop-j.invariant c.in_ok-push_if.ensures

pub returns : goal.returns
returns c = link_all c.args.count c.args.node c.loop-j.j c.args.after.now c.args.list.now.items c.loop-j.list.items (omega arith) c.loop-j.invariant
