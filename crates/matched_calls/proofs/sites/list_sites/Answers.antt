use Rattle.matched_calls.proofs.ExtendLemmas.{sites_push}
use Rattle.matched_calls.proofs.sites.list_sites.Goals as goal

pub loop-pair-preserved : goal.loop-pair-preserved
loop-pair-preserved c =
    sites_push c.args.nodes.now c.args.kinds.now c.loop-pair.pair-index c.loop-pair.sites.items c.push.new.self.items c.as_slice-pair-items.result.now (record { entries = c.from_vec.result; exits = c.from_vec-in-loop-pair.result }) c.in_ok-entries.entries.items c.in_ok-exits.exits.items
    c.as_slice-pair-items.ensures c.from_vec.ensures c.from_vec-in-loop-pair.ensures c.in_ok-entries.ensures c.in_ok-exits.ensures c.in_ok-push.ensures.items c.loop-pair.invariant
