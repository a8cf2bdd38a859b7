use Rattle.std.proofs.Common.{◌≡◌, ◌∙◌, sym, ap, subst, List}
use Rattle.std.specs.Prelude.{OnOk}
use Rattle.std.proofs.lemmas.Bool.{eq-eqb, ne_eqb}
use Rattle.image_map.specs.declared.region.RegionId.TheVariants.{OldFrame}
use Rattle.strided.specs.Operations as interval
use Rattle.vset.specs.declared.part.Part.{Part}
use Rattle.vset.specs.Operations.{part}
use Rattle.abs_semantics.specs.Resolve.{put_part}
use Rattle.abs_resolve.specs.Owned.{state_of}
use Rattle.abs_resolve.proofs.StepLemmas.{through_self, through_both, through_one}
use Rattle.abs_resolve.proofs.levels.put_through.Goals as goal

pub returns-then-link : goal.returns-then-link
returns-then-link c =
    let l = c.args.link.now in
    let same = through_self (state_of c.args.owners.now) c.args.procedure c.args.x.now l c.args.parts.now.items (eq-eqb l.parent l.child c.if-link.true) in
    subst (λ (xs : List Part). OnOk c.put_moved.result (c.put_moved.new.parts.items ≡ xs)) (sym same) c.put_moved.ensures

pub returns-in_ok-put_moved-2 : goal.returns-in_ok-put_moved-2
returns-in_ok-put_moved-2 c =
    let l = c.args.link.now in
    let same = through_both (state_of c.args.owners.now) c.args.procedure c.args.x.now l c.args.parts.now.items (ne_eqb l.parent l.child c.if-link.false) (sym c.may_be_older.ensures ∙ c.if-may_be_older.true) in
    c.in_ok-put_moved-2.ensures ∙ ap (put_part (part (OldFrame l.parent) (interval.add c.args.x.now.si l.off))) c.in_ok-put_moved.ensures ∙ sym same

pub returns-else-may_be_older : goal.returns-else-may_be_older
returns-else-may_be_older c =
    let l = c.args.link.now in
    let same = through_one (state_of c.args.owners.now) c.args.procedure c.args.x.now l c.args.parts.now.items (ne_eqb l.parent l.child c.if-link.false) (sym c.may_be_older.ensures ∙ c.if-may_be_older.false) in
    c.in_ok-put_moved.ensures ∙ sym same
