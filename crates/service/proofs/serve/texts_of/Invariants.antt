use Rattle.std.proofs.Common.{◌≡◌, ◌++◌}
use Rattle.std.specs.Prelude.{IsOk}
use Rattle.std.specs.List.{AllByRecursion}
use Rattle.service.specs.Jobs.{texts_in}
use Rattle.service.proofs.serve.texts_of.Given as goal

abbrev pub invariant-loop-result : goal.invariant-loop-result
invariant-loop-result l =
    (l.texts.items ++ texts_in l.result-iterator.rest.items ≡ texts_in l.fn.done.items)
    × (AllByRecursion IsOk l.result-iterator.rest.items → AllByRecursion IsOk l.fn.done.items)
