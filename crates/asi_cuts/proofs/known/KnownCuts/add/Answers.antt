use Rattle.std.proofs.Common.{refl}
use Rattle.asi_cuts.proofs.KnownLemmas.{known_still, known_there}
use Rattle.asi_cuts.proofs.known.KnownCuts.add.Goals as goal

pub returns-then-is_recent : goal.returns-then-is_recent
returns-then-is_recent c =
    known_there c.self.inside.recent.items c.as_slice.result.now c.self.inside.set c.args.self.now c.args.cut c.as_slice.ensures.value c.self.view_is c.self.invariant c.requires (c.if-is_recent.ensures refl)

pub invariant_of-self-2 : goal.invariant_of-self-2
invariant_of-self-2 c = known_still c.self.inside.recent.items c.remember.new.recent.items c.self.inside.set c.add.new.self c.args.cut c.self.invariant c.remember.ensures c.in-Ok.ensures
