use Rattle.std.proofs.Common.{◌∙◌, ap, sym}
use Rattle.abs_semantics.specs.States.{AbsState}
use Rattle.abs_state.specs.Views.{seen}
use Rattle.abs_steps.specs.Accesses.{reads, writes}
use Rattle.access_facts.specs.Sets.{writes_a_known_count}
use Rattle.access_facts.proofs.NodeLemmas.{plain_accesses, list_reached}
use Rattle.access_facts.proofs.visits.plain_accesses.Goals as goal

pub returns : goal.returns
returns c = λ image v goes_on is read written plain.
    let i = c.args.instr.now in
    let a = seen c.args.state.now in
    plain_accesses image v i goes_on _ plain (list_reached a c.args.procedure v c.args.listed.now.reads.now (reads i.op v.state i) c.in_ok-reads.reads.items is read c.in_ok-reads.ensures)
    (list_reached a c.args.procedure v c.args.listed.now.writes.now (writes i.op v.state i) c.in_ok-writes.writes.items is written c.in_ok-writes.ensures)
    (c.writes_a_known_count-is_sure.ensures ∙ sym (ap (λ (s : AbsState). writes_a_known_count s i) is.0)) (c.in_ok-older.ensures.items ∙ c.as_slice.ensures ∙ sym (ap (λ (s : AbsState). s.older) is.0))
