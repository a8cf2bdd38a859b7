-- What the words of the command line ask this program for. The project's own.
use Rattle.std.specs.Prelude.{◌≡◌, ℕ, List, Option, Some, None}
use Rattle.std.specs.Option.{option_and_then}
use Rattle.command_words.specs.declared.line.CommandLine.{CommandLine}
use Rattle.command_words.specs.declared.line.Options.{Options}
use Rattle.command_words.specs.declared.line.Task.{Task as Command}
use Rattle.command_words.specs.declared.line.Task.TheVariants as commands
use Rattle.command_words.specs.Said.{said}
use Rattle.round_answers.specs.declared.question.Question.{Question}
use Rattle.round_answers.specs.declared.question.Question.TheVariants as question
use Rattle.surf_prog.specs.declared.words.Task.{Task}
use Rattle.surf_prog.specs.declared.words.Task.TheVariants as task
use Rattle.surf_prog.specs.declared.words.Query.{Query}
use Rattle.surf_prog.specs.declared.words.Request.{Request}

-- this of a program that is entered as the options say
abbrev pub request : List ℕ → Options → Task → Request
request image options asked = record { name = image; query = record { entry = options.entry; task = asked } }

abbrev pub round_asked : List ℕ → Question → Options → Request
round_asked image q options =
    request image options (task.Ask (record { choice = record { lane = options.lane; round = options.round }; rounds = options.rounds; externs = options.externs }) q)

abbrev pub list_asked : List ℕ → Option ℕ → Options → Request
list_asked image at options = request image options (task.List at options.steps)

abbrev pub trace_asked : List ℕ → Option ℕ → Options → Request
trace_asked image at options =
    request image options (task.Trace (record { at = at; skip_sp = options.skip_sp; steps = options.steps; seed = options.seed; externs = options.externs }))

-- what a task and its options ask for; a task that isn't there yet is refused
abbrev pub task_asked : Command → Options → Option Request
task_asked (commands.Slice image at) options = Some (round_asked image (question.Slice at options.skip_sp) options)
task_asked (commands.Values image at) options = Some (round_asked image (question.Values at) options)
task_asked (commands.Locations image) options = Some (round_asked image question.Locations options)
task_asked (commands.Graph image) options = Some (round_asked image question.Graph options)
task_asked (commands.Forward image at) options = Some (round_asked image (question.Forward at options.skip_sp) options)
task_asked (commands.Chop image from at) options = Some (round_asked image (question.Chop from at options.skip_sp) options)
task_asked (commands.Why image from at) options = Some (round_asked image (question.Why from at options.skip_sp) options)
task_asked (commands.Matched image at) options = Some (round_asked image (question.Matched at options.skip_sp) options)
task_asked (commands.List image at) options = Some (list_asked image at options)
task_asked (commands.Trace image at) options = Some (trace_asked image at options)
task_asked other options = None

abbrev pub line_asked : CommandLine → Option Request
line_asked line = task_asked line.task line.options

-- what the words ask for
abbrev pub request_of : List (List ℕ) → Option Request
request_of words = option_and_then line_asked (said words)

-- The words ask for this of the file with this name.
abbrev pub Asks : List (List ℕ) → List ℕ → Query → Type 0
Asks words name query = request_of words ≡ Some (record { name = name; query = query })
