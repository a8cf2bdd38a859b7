use Rattle.dynamic_slices.proofs.SliceLaws.{slices_are_closures, told_slices_are_dynamic, slices_are_one}
use Rattle.dynamic_slices.proofs.laws.dynamic_slice_laws.Goals as goal

pub returns : goal.returns
returns c = record { closures = slices_are_closures; told = told_slices_are_dynamic; one = slices_are_one }
