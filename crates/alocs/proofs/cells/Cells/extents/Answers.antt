use Rattle.std.proofs.Common.{negsuc, pos, List, sym, subst, arith}
use Rattle.std.proofs.lemmas.Int.{ints}
use Rattle.alocs.specs.declared.extents.Extent.{Extent}
use Rattle.alocs.specs.Extents.{RiseFrom}
use Rattle.alocs.proofs.ExtentLemmas.{extents_lower}
use Rattle.alocs.proofs.cells.Cells.extents.Goals as goal

pub returns-in-Global-clause-rise : goal.returns-in-Global-clause-rise
returns-in-Global-clause-rise c =
    subst (λ (xs : List Extent). RiseFrom (negsuc 2147483647) xs) (sym c.as_slice.ensures.value) (extents_lower (negsuc 2147483647) (pos 0) c.self.inside.image.items (omega (arith, ints)) c.self.invariant.1)
