use Rattle.last_writers.proofs.RisingLemmas.{writer-replaced, rising-replaced}
use Rattle.last_writers.proofs.writers.LastWriters.set.Goals as goal

pub invariant_of-self : goal.invariant_of-self
invariant_of-self c = rw c.in_err-replace.ensures.err c.self.invariant

pub invariant_of-self-2 : goal.invariant_of-self-2
invariant_of-self-2 c = rw c.in_ok-replace.ensures.ok (rising-replaced _ _ _ _ c.requires c.self.invariant)

pub returns-clause-ok : goal.returns-clause-ok
returns-clause-ok c = λ a. rw (c.in_ok-replace.ensures.ok, ← c.self.view_is) (writer-replaced _ _ _ _ a c.requires)
