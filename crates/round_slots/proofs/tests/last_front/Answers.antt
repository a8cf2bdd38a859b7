use Rattle.std.proofs.Common.{◌≡◌, [], ◌∷◌, rules, arith}
use Rattle.std.proofs.lemmas.Grind.{common_steps}
use Rattle.round_slots.proofs.ViewLaws.{one_sits}
use Rattle.round_slots.proofs.tests.last_front.Goals as goal

pub close-fronts-requires-clause-sit : goal.close-fronts-requires-clause-sit
close-fronts-requires-clause-sit c =
    let e : c.push.new.self.items ≡ c.args.seat ∷ [] = (first_of (search rules, grind (arith, common_steps))) in
    one_sits (λ s. s.place) _ _ _ c.push.new.self.items c.args.seat e c.requires
