use Rattle.image_map.proofs.Cut.{is_any_here, is_any_past}
use Rattle.image_map.proofs.spans.is_in.Goals as goal

pub returns-in-None : goal.returns-in-None
returns-in-None c = is_any_past c.args.address c.passed.result c.args.spans.now c.requires c.passed.ensures.value c.in-None.ensures.lookup.0

pub returns-in-Some : goal.returns-in-Some
returns-in-Some c = is_any_here c.args.address c.passed.result c.args.spans.now c.in-Some.span.now c.requires c.passed.ensures.value c.in-Some.ensures.lookup.0 c.in-Some.ensures.lookup.1
