use Rattle.std.proofs.Common.{ap}
use Rattle.abs_steps.specs.Successors.{States}
use Rattle.rounds.proofs.RoundLemmas.{of_image}
use Rattle.rounds.proofs.making.lists_behind.Goals as goal

pub next_lists-requires : goal.next_lists-requires
next_lists-requires c =
    let r = c.args.r.now in
    record {
      image = c.requires.image;
      settings = c.requires.settings;
      cells = of_image c.args.image.now c.args.settings.now r.lane r.number r.cells r.states.cells c.requires.round.cells (ap (λ (s : States). s.cells) c.requires.round.states);
    }
