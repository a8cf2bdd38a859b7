use Rattle.std.proofs.Common.{◌∙◌, ap, sym, refl}
use Rattle.abs_semantics.specs.States.{AbsState}
use Rattle.access_facts.proofs.NodeLemmas.{no_accesses}
use Rattle.access_facts.proofs.accesses.of_nothing.Goals as goal

pub returns : goal.returns
returns c = λ image v goes_on is. no_accesses image v goes_on _ c.new.ensures.items c.new-2.ensures.items refl (c.in_ok-older.ensures ∙ sym (ap (λ (s : AbsState). s.older) is))
