use Rattle.replay.proofs.ReplayLaws.{replays_are_runs, failures_tell_no_run}
use Rattle.replay.proofs.laws.replay_laws.Goals as goal

pub returns : goal.returns
returns c = record { runs = replays_are_runs; failures = failures_tell_no_run }
