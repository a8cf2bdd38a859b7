use Rattle.ia32_machine.proofs.CoreLemmas.{turn_cf, turn_pf, turn_zf, turn_sf, turn_of, turn_df}
use Rattle.ia32_machine.proofs.apply.turn.Goals as goal

pub returns-in-Cf-clause-state : goal.returns-in-Cf-clause-state
returns-in-Cf-clause-state c = turn_cf c.args.core.now c.args.flag c.args.value c.in-Cf.is

pub returns-in-Pf-clause-state : goal.returns-in-Pf-clause-state
returns-in-Pf-clause-state c = turn_pf c.args.core.now c.args.flag c.args.value c.in-Pf.is

pub returns-in-Zf-clause-state : goal.returns-in-Zf-clause-state
returns-in-Zf-clause-state c = turn_zf c.args.core.now c.args.flag c.args.value c.in-Zf.is

pub returns-in-Sf-clause-state : goal.returns-in-Sf-clause-state
returns-in-Sf-clause-state c = turn_sf c.args.core.now c.args.flag c.args.value c.in-Sf.is

pub returns-in-Of-clause-state : goal.returns-in-Of-clause-state
returns-in-Of-clause-state c = turn_of c.args.core.now c.args.flag c.args.value c.in-Of.is

pub returns-in-Df-clause-state : goal.returns-in-Df-clause-state
returns-in-Df-clause-state c = turn_df c.args.core.now c.args.flag c.args.value c.in-Df.is
