use Rattle.std.proofs.Common.{◌≡◌, ◌++◌, map}
use Rattle.service.specs.declared.job.Job.TheVariants.{Asks, Refines}
use Rattle.service.proofs.serve.jobs_of.Given as goal

abbrev pub invariant-loop-session : goal.invariant-loop-session
invariant-loop-session l = l.jobs.items ++ map Asks l.session-iterator.rest.items ≡ map Asks l.fn.sessions.items

abbrev pub invariant-loop-seat : goal.invariant-loop-seat
invariant-loop-seat l = l.jobs.items ++ map Refines l.seat-iterator.rest.items ≡ map Asks l.fn.sessions.items ++ map Refines l.fn.refiners.items
