use Rattle.std.proofs.Common.{sym, ◌∙◌, ap}
use Rattle.cell_map.specs.Lists.{same_lists, same_entry}
use Rattle.cell_map.proofs.SameLemmas.{same_lists-equal, equal-same_lists, same_entry-equal, same_entry-itself}
use Rattle.cell_map.proofs.map.CellMap.equals.Goals as goal

pub returns : goal.returns
returns c =
    let told = c.are_same.ensures ∙ ap (λ xs. same_lists same_entry xs c.entries-2.result.now) c.entries.ensures.value ∙ ap (same_lists same_entry c.args.self.now) c.entries-2.ensures.value in (
      (λ h. same_lists-equal same_entry same_entry-equal c.args.self.now c.args.other.now (sym told ∙ h)),
      (λ h. told ∙ equal-same_lists same_entry same_entry-itself c.args.self.now c.args.other.now h),
    )
