use Rattle.std.proofs.Common.{refl, subst, sym, arith}
use Rattle.std.proofs.lemmas.List.Elements.{All-from_recursion}
use Rattle.round_slots.proofs.slots.put.Goals as goal

pub put-requires : goal.put-requires
put-requires g c = let t = c.in-Some-take_other.ensures.right in let d = c.in-Some-take_other.right.tag in (
  t.1,
  omega arith,
  refl,
  subst (λ tag. g.T.Numbered.belongs tag.tag.value tag.lane c.args.value) (sym (t.2 d)) (All-from_recursion _ c.args.row.now c.requires.admits c.in-Some-take_other.index d t.0),
)
