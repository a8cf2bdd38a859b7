use Rattle.access_facts.proofs.CorePlaceLemmas.{registers_pushed}
use Rattle.access_facts.proofs.places.push_registers.Goals as goal

pub returns : goal.returns
returns c = λ xs has. registers_pushed c.args.set xs c.args.places.now.items c.push_register.new.places.items c.push_register-2.new.places.items c.push_register-3.new.places.items c.push_register-4.new.places.items c.push_register-5.new.places.items c.push_register-6.new.places.items c.push_register-7.new.places.items c.push_register-8.new.places.items has c.in_ok-push_register.ensures c.in_ok-push_register-2.ensures c.in_ok-push_register-3.ensures c.in_ok-push_register-4.ensures c.in_ok-push_register-5.ensures c.in_ok-push_register-6.ensures c.in_ok-push_register-7.ensures c.in_ok-push_register-8.ensures
