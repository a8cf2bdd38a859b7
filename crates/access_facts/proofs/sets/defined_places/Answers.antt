use Rattle.access_facts.specs.Cores.{registers_defined, flags_defined}
use Rattle.access_facts.specs.Rows.{cells_in_rows}
use Rattle.access_facts.proofs.SetLemmas.{defined_are}
use Rattle.access_facts.proofs.sets.defined_places.Goals as goal

pub returns : goal.returns
returns c = λ v content goes_on cores is.
    defined_are c.args.image.now (cells_in_rows c.args.rows.now) v content goes_on c.args.writes.now c.in_ok-places.places is (c.in_ok-places.ensures (registers_defined content) (flags_defined content) cores.registers_defined cores.flags_defined)
