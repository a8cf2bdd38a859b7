use Rattle.std.proofs.Common.{◌∙◌, ap}
use Rattle.transfer_flow.specs.Successors.{all_placed}
use Rattle.access_facts.specs.Flow.{next_of}
use Rattle.access_facts.specs.Maps.{all_of}
use Rattle.access_facts.specs.Next.{numbers_of_targets}
use Rattle.access_facts.proofs.next.next_numbers.Goals as goal

pub returns : goal.returns
unfolding next_of
returns c = c.in_ok-numbers.ensures ∙ ap (λ ts. numbers_of_targets ts (all_of c.args.placed.now)) (ap all_placed c.as_slice.ensures.value ∙ c.in_ok-targets.ensures)
