use Rattle.access_facts.proofs.RiseLemmas.{registers_below, flags_below, flags_rise}
use Rattle.access_facts.proofs.MemberLemmas.{picked_has, has_picked}
use Rattle.access_facts.proofs.laws.places_of_cells.Goals as goal

pub returns-clause-registers : goal.returns-clause-registers
returns-clause-registers c = registers_below

pub returns-clause-flags : goal.returns-clause-flags
returns-clause-flags c = λ fs. (flags_rise fs, flags_below fs)

pub returns-clause-there : goal.returns-clause-there
returns-clause-there c = λ test cells k cell there yes. has_picked test 14 k cell cells there yes

pub returns-clause-back : goal.returns-clause-back
returns-clause-back c = λ test cells place has. let p = picked_has test 14 place cells has in (p.number, p.thing, p.there, p.picked, p.is)
