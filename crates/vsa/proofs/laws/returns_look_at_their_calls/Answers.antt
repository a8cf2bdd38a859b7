use Rattle.vsa.proofs.LookLemmas.{looks_near}
use Rattle.vsa.proofs.laws.returns_look_at_their_calls.Goals as goal

pub returns : goal.returns
returns c = record { calls = looks_near }
