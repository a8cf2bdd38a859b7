use Rattle.access_facts.specs.Cores.{registers_used, flags_used}
use Rattle.access_facts.specs.Rows.{cells_in_rows}
use Rattle.access_facts.proofs.SetLemmas.{used_are}
use Rattle.access_facts.proofs.sets.used_places.Goals as goal

pub returns : goal.returns
returns c = λ v content cores is.
    used_are (cells_in_rows c.args.rows.now) v content c.args.reads.now c.in_ok-places.places is (c.in_ok-places.ensures (registers_used content) (flags_used content) cores.registers_used cores.flags_used)
