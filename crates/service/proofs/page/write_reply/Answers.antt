use Rattle.std.proofs.Common.{◌≡◌, length, sym, rules}
use Rattle.std.proofs.lemmas.Bool.{true≢false}
use Rattle.slicer.proofs.SliceLaws.{edges-nodes}
use Rattle.service.proofs.ReplyLemmas.{lists_slice}
use Rattle.service.proofs.page.write_reply.Goals as goal

pub backward-requires-clause-nodes : goal.backward-requires-clause-nodes
backward-requires-clause-nodes c = edges-nodes _ _ _ c.requires.edges

pub returns-in-Ok-clause-reply : goal.returns-in-Ok-clause-reply
returns-in-Ok-clause-reply c =
    let counted : c.len-warnings.result ≡ length c.args.round.now.warnings.items = search rules in
    lists_slice c.args.round.now c.args.at c.args.skip_sp c.backward.new.s.addresses c.addresses-addresses.result.now c.len-warnings.result _ c.requires.edges
    (λ h. true≢false (sym (c.in-Ok.ensures.absent.1 h))) c.backward.ensures.slice c.addresses-addresses.ensures.listed counted c.write_slice-len.ensures.text.text_is
