use Rattle.access_facts.specs.Cores.{registers_always, flags_always}
use Rattle.access_facts.specs.Rows.{cells_in_rows}
use Rattle.access_facts.proofs.SetLemmas.{always_are}
use Rattle.access_facts.proofs.sets.sure_places.Goals as goal

pub returns : goal.returns
returns c = λ image v content goes_on cores older is.
    always_are image (cells_in_rows c.args.rows.now) v content goes_on c.args.older.now c.args.writes.now c.in_ok-places.places older is
    (c.in_ok-places.ensures (registers_always v.state content) (flags_always content) cores.registers_always cores.flags_always)
