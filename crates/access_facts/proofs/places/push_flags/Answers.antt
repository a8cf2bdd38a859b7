use Rattle.access_facts.proofs.CorePlaceLemmas.{flags_pushed}
use Rattle.access_facts.proofs.places.push_flags.Goals as goal

pub returns : goal.returns
returns c = λ xs has. flags_pushed c.args.set xs c.args.places.now.items c.push_flag.new.places.items c.push_flag-2.new.places.items c.push_flag-3.new.places.items c.push_flag-4.new.places.items c.push_flag-5.new.places.items c.push_flag-6.new.places.items has c.in_ok-push_flag.ensures c.in_ok-push_flag-2.ensures c.in_ok-push_flag-3.ensures c.in_ok-push_flag-4.ensures c.in_ok-push_flag-5.ensures c.in_ok-push_flag-6.ensures
