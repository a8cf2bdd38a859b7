use Rattle.step_soundness.proofs.StoreLaws.{saves_stand}
use Rattle.step_soundness.proofs.laws.saved_values_stand.Goals as goal

pub returns : goal.returns
returns c = λ image lane a p s d width at n v w known form fv fw word small has held fits. saves_stand image lane a p s d known form width at n v w fv fw word small has held fits
