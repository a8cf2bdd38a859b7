use Rattle.std.proofs.Common.{◌≤◌, sym, arith}
use Rattle.ia32_run.proofs.ActLemmas.{extern_act, kind_missing}
use Rattle.ia32_run.proofs.acts.act_at.Goals as goal

pub returns-in-None-kind_of-clause-act : goal.returns-in-None-kind_of-clause-act
returns-in-None-kind_of-clause-act c =
    let high : 0x7FFFFFFF ≤ c.args.at = (let at = c.in-Some.ensures.there.1 in omega arith) in
    kind_missing c.args.image.now c.args.settings.now c.args.at c.in-Some.number c.requires high (sym c.in-Some.ensures.number) (sym c.in-None-kind_of.ensures)

pub returns-in-Some-kind_of-clause-act : goal.returns-in-Some-kind_of-clause-act
returns-in-Some-kind_of-clause-act c =
    let high : 0x7FFFFFFF ≤ c.args.at = (let at = c.in-Some.ensures.there.1 in omega arith) in
    extern_act c.args.image.now c.args.settings.now c.args.at c.in-Some.number c.in-Some-kind_of.kind c.requires high (sym c.in-Some.ensures.number) (sym c.in-Some-kind_of.ensures)
