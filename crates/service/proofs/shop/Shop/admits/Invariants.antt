use Rattle.std.proofs.Common.{ℕ, ◌<◌, get_or}
use Rattle.service.specs.Requests.{IsAskable}
use Rattle.service.proofs.shop.Shop.admits.Given as goal

abbrev pub invariant-loop-i : goal.invariant-loop-i
invariant-loop-i l = (k : ℕ) (d : _) → k < l.i → IsAskable l.self (get_or l.script.lines k d).1
