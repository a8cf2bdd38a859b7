-- What each task needs among the positionals and the options. The project's own.
use Rattle.std.specs.Prelude.{ℕ, codes, Option, Some, None, if◌then◌else◌}
use Rattle.std.specs.Str.{bytes_eq}
use Rattle.clap.specs.Walk.{Text}
use Rattle.command_words.specs.declared.line.Task.{Task}
use Rattle.command_words.specs.declared.line.Task.TheVariants as tasks
use Rattle.command_words.specs.declared.task.Op.{Op}
use Rattle.command_words.specs.declared.task.Op.TheVariants as op
use Rattle.command_words.specs.Reading.{◌>>=◌}
use Rattle.command_words.specs.Values.{number}

-- the task that a word names
unfoldable pub op_of : Text → Option Op
op_of word =
    if bytes_eq word (codes "slice") then Some op.Slice
    else (if bytes_eq word (codes "values") then Some op.Values
    else (if bytes_eq word (codes "locations") then Some op.Locations
    else (if bytes_eq word (codes "graph") then Some op.Graph
    else (if bytes_eq word (codes "list") then Some op.List
    else (if bytes_eq word (codes "trace") then Some op.Trace
    else (if bytes_eq word (codes "gen") then Some op.Gen
    else (if bytes_eq word (codes "serve") then Some op.Serve
    else (if bytes_eq word (codes "forward") then Some op.Forward
    else (if bytes_eq word (codes "chop") then Some op.Chop
    else (if bytes_eq word (codes "why") then Some op.Why
    else (if bytes_eq word (codes "matched") then Some op.Matched
    else (if bytes_eq word (codes "replay") then Some op.Replay
    else (if bytes_eq word (codes "serve-all") then Some op.ServeAll
    else None)))))))))))))

-- a task with one word more: IMAGE, and the addresses of --at and --from where it needs them
abbrev pub task_of_one : Op → Text → Option ℕ → Option ℕ → Option Task
task_of_one op.Slice image at from = do
  a ← at
  Some (tasks.Slice image a)
task_of_one op.Values image at from = do
  a ← at
  Some (tasks.Values image a)
task_of_one op.Locations image at from = Some (tasks.Locations image)
task_of_one op.Graph image at from = Some (tasks.Graph image)
task_of_one op.List image at from = Some (tasks.List image at)
task_of_one op.Trace image at from = Some (tasks.Trace image at)
task_of_one op.Forward image at from = do
  a ← at
  Some (tasks.Forward image a)
task_of_one op.Chop image at from = do
  f ← from
  a ← at
  Some (tasks.Chop image f a)
task_of_one op.Why image at from = do
  f ← from
  a ← at
  Some (tasks.Why image f a)
task_of_one op.Matched image at from = do
  a ← at
  Some (tasks.Matched image a)
task_of_one other image at from = None

-- a task with two words more
abbrev pub task_of_two : Op → Text → Text → Option ℕ → Option Task
task_of_two op.Gen first second at = do
  seed ← number 0 4294967295 first
  items ← number 1 1000 second
  Some (tasks.Gen seed items)
task_of_two op.Serve first second at = Some (tasks.Serve first second)
task_of_two op.ServeAll first second at = Some (tasks.ServeAll first second)
task_of_two op.Replay first second at = do
  a ← at
  Some (tasks.Replay first second a)
task_of_two other first second at = None

abbrev pub task_of : Op → Option Text → Option Text → Option ℕ → Option ℕ → Option Task
task_of task None second at from = None
task_of task (Some first) None at from = task_of_one task first at from
task_of task (Some first) (Some second) at from = task_of_two task first second at
