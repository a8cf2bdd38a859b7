use Rattle.vsa.specs.Swept.{analysed, placed_in}
use Rattle.state_forms.proofs.MapForms.{map_formed, state_formed}
use Rattle.state_forms.proofs.laws.maps_have_forms.Goals as goal

pub returns : goal.returns
returns c = λ x bytes n a e. state_formed (placed_in (analysed x)) (map_formed x bytes) n a e
