use Rattle.std.proofs.Common.{ap, rules, subst, sym}
use Rattle.abs_steps.specs.Successors.{States}
use Rattle.matched_calls.specs.declared.kinds.StepKinds.{StepKinds}
use Rattle.matched_calls.specs.Matched.{HasKinds}
use Rattle.rounds.proofs.RoundLemmas.{of_image}
use Rattle.round_answers.proofs.NodeLemmas.{kinds_within}
use Rattle.round_answers.proofs.TellLemmas.{ok_told}
use Rattle.round_answers.proofs.matched.kinds_of.Goals as goal

pub step_kinds-requires : goal.step_kinds-requires
step_kinds-requires c =
    let r = c.args.round.now in
    record {
      image = c.requires.image;
      settings = c.requires.settings;
      cells = of_image c.args.image.now c.args.settings.now r.lane r.number r.cells r.states.cells c.requires.round.cells (ap (λ (s : States). s.cells) c.requires.round.states);
    }

pub returns-clause-kinds : goal.returns-clause-kinds
returns-clause-kinds c = search rules

pub returns-clause-nodes : goal.returns-clause-nodes
returns-clause-nodes c = ok_told c.step_kinds.result
    (λ kinds is. subst (λ (ks : StepKinds). HasKinds c.args.round.now.graph.flow.nodes ks) (sym is) (kinds_within c.args.image.now c.args.settings.now c.args.round.now c.requires.round))
    (returns-clause-kinds c)
