use Rattle.std.proofs.Common.{List, ℕ, [], ◌∷◌, ◌++◌, ◌∙◌, subst}
use Rattle.std.specs.Prelude.{codes}
use Rattle.surf_prog.specs.Once.{TellsLine}
use Rattle.surf_prog.proofs.refusal.tell_round.Goals as goal

pub returns : goal.returns
returns g c = subst
    (λ (l : List ℕ). TellsLine (g.E.Sink.written c.args.err.now) (g.E.Sink.written c.tell.new.err) (g.E.Sink.faults c.args.err.now) (g.E.Sink.faults c.tell.new.err) (codes "surf: absent round " ++ (l ++ 10 ∷ [])))
    (c.as_bytes-digits.ensures.value ∙ c.format.ensures.text) c.tell.ensures
