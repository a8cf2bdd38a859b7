use Rattle.std.proofs.Common.{sym, ◌∙◌}
use Rattle.std.specs.List.{list_any}
use Rattle.abs_semantics.specs.Resolve.{same_reason}
use Rattle.transfer_flow.specs.Written.{Met, met_by}
use Rattle.transfer_flow.proofs.WarningLemmas.{any_map}
use Rattle.transfer_flow.proofs.written.with_reason.Goals as goal

pub returns : goal.returns
returns c = c.some_with_reason.ensures ∙ sym (any_map (λ (m : Met). list_any (same_reason c.args.reason.now) m.places.reasons) met_by c.args.all.now)
