use Rattle.std.proofs.Common.{◌∙◌, ap, sym, map, length}
use Rattle.abs_semantics.specs.States.{AbsState}
use Rattle.abs_state.specs.Views.{seen}
use Rattle.access_facts.specs.Sets.{older_after, slot_reach}
use Rattle.std.specs.Prelude.{◌==◌}
use Rattle.abs_steps.specs.Places.{targets as targets_of}
use Rattle.access_facts.proofs.NodeLemmas.{call_accesses}
use Rattle.access_facts.proofs.visits.call_accesses.Goals as goal

pub returns : goal.returns
returns c = λ image v i goes_on is on read targets followed.
    call_accesses image v i goes_on _ on read (c.in_ok-writes.ensures ∙ ap (map slot_reach) followed) (ap (λ ts. length ts == 1) targets)
    (c.in_ok-older.ensures ∙ ap (older_after (seen c.args.state.now)) targets ∙ sym (ap (λ (s : AbsState). older_after s (targets_of v i.dst)) is))
