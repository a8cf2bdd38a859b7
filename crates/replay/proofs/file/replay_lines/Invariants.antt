use Rattle.std.proofs.Common.{length}
use Rattle.replay.proofs.FileLemmas.{Resumes}
use Rattle.replay.proofs.file.replay_lines.Given as goal

abbrev pub invariant-lines_left : goal.invariant-lines_left
invariant-lines_left l = Resumes l.fn.image l.fn.settings l.fn.words l.fn.lines l.rest l.count l.machine l.writers l.told l.finish

abbrev pub decreases-lines_left : goal.decreases-lines_left
decreases-lines_left l = length l.rest
