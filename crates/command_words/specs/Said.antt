-- What the words of the command line say. The project's own.
use Rattle.std.specs.Prelude.{false, List, [], ◌∷◌, codes, Option, Some, None, Bool}
use Rattle.std.specs.Option.{option_map_or}
use Rattle.std.specs.Str.{bytes_eq}
use Rattle.clap.specs.Walk.{Row, Text, first_of}
use Rattle.clap.specs.Simple.{matches_of}
use Rattle.clap.specs.Faults.{fault_of}
use Rattle.clap.specs.Kinds.{Kinds}
use Rattle.clap.specs.declared.error.kind.ErrorKind.{ErrorKind}
use Rattle.clap.specs.declared.error.kind.ErrorKind.TheVariants.{OutOfMemory}
use Rattle.command_words.specs.declared.line.WordsError.{WordsError}
use Rattle.command_words.specs.declared.line.WordsError.TheVariants.{Refused, Memory}
use Rattle.command_words.specs.declared.line.Options.{Options}
use Rattle.command_words.specs.declared.line.Task.{Task}
use Rattle.command_words.specs.declared.line.CommandLine.{CommandLine}
use Rattle.command_words.specs.Grammar.{surf}
use Rattle.command_words.specs.Reading.{◌>>=◌, optional, with_default}
use Rattle.command_words.specs.Values.{number, address, entry, externs}
use Rattle.command_words.specs.Tasks.{op_of, task_of}

-- the task, by the positionals and the two addresses
abbrev pub task_in : List Row → Option Task
task_in rows = do
  at ← optional address (first_of (codes "at") rows)
  from ← optional address (first_of (codes "from") rows)
  word ← first_of (codes "op") rows
  op ← op_of word
  task_of op (first_of (codes "first") rows) (first_of (codes "second") rows) at from

-- the flag was given, which clap tells by this text
abbrev pub is_set : Text → List Row → Bool
is_set name rows = option_map_or (λ text. bytes_eq text (codes "true")) (first_of name rows) false

abbrev pub options_in : List Row → Option Options
options_in rows = do
  entry ← optional entry (first_of (codes "entry") rows)
  lane ← with_default 2 (number 0 3) (first_of (codes "lane") rows)
  round ← optional (number 0 7) (first_of (codes "round") rows)
  rounds ← with_default 4 (number 1 8) (first_of (codes "rounds") rows)
  sessions ← with_default 1 (number 1 8) (first_of (codes "sessions") rows)
  refiners ← with_default 1 (number 0 4) (first_of (codes "refiners") rows)
  steps ← with_default 1000 (number 1 65536) (first_of (codes "steps") rows)
  seed ← with_default 1 (number 0 4294967295) (first_of (codes "seed") rows)
  kinds ← with_default [] externs (first_of (codes "extern") rows)
  Some (record {
    entry = entry;
    lane = lane;
    round = round;
    rounds = rounds;
    skip_sp = is_set (codes "skip-sp") rows;
    sessions = sessions;
    refiners = refiners;
    steps = steps;
    seed = seed;
    externs = kinds;
  })

-- what the matches of the command say
abbrev pub said_in : List Row → Option CommandLine
said_in rows = do
  options ← options_in rows
  task ← task_in rows
  Some (record { task = task; options = options })

-- why clap refuses words
abbrev pub reason_of : ErrorKind → WordsError
reason_of OutOfMemory = Memory
reason_of other = Refused

-- nothing where clap finds a fault
abbrev pub unless_fault : Kinds → Option CommandLine → Option CommandLine
unless_fault [] line = line
unless_fault (fault ∷ faults) line = None

-- what the words say, if they are within the grammar
unfoldable pub said : List Text → Option CommandLine
said words = unless_fault (fault_of surf words) (said_in (matches_of surf words))
