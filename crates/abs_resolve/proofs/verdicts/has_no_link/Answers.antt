use Rattle.std.proofs.Common.{◌∙◌, sym, ap, not, ◌&&◌}
use Rattle.std.specs.Prelude.{◌==◌, if◌then◌else◌}
use Rattle.abs_semantics.specs.declared.parts.Link.{Link}
use Rattle.abs_resolve.specs.Owned.{state_of}
use Rattle.abs_resolve.proofs.StepLemmas.{no_links}
use Rattle.abs_resolve.proofs.verdicts.has_no_link.Goals as goal

pub returns : goal.returns
returns c = ap not c.has_link.ensures ∙ sym (no_links (λ (l : Link). l.child == c.args.of.now.procedure && (if c.args.of.now.aged then l.aged else not l.aged)) (state_of c.args.owners.now).links)
