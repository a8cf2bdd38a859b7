use Rattle.std.proofs.Common.{◌≡◌, ◌++◌, ◌&&◌, drop}
use Rattle.image_map.specs.declared.region.Cell.{Cell}
use Rattle.abs_semantics.specs.States.{value_at}
use Rattle.abs_semantics.specs.Accesses.{may_change}
use Rattle.abs_state.specs.Views.{seen}
use Rattle.abs_state.specs.Writes.{news_of}
use Rattle.abs_state.proofs.state.AbsState.news.Given as goal

abbrev pub invariant-loop-i : goal.invariant-loop-i
invariant-loop-i g l =
    l.out.items ++ news_of (λ (c : Cell). g.W.Write.touched l.write c && may_change l.image c) (λ (c : Cell). g.W.Write.given l.write c (value_at (seen l.self) c)) (drop l.i l.more)
    ≡ news_of (λ (c : Cell). g.W.Write.touched l.write c && may_change l.image c) (λ (c : Cell). g.W.Write.given l.write c (value_at (seen l.self) c)) l.more
