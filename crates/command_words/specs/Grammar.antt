-- The command line as one plain command of `clap`: positionals, options that take a value, and a flag. The project's own; the
-- words are those of clap's own definitions.
use Rattle.std.specs.Prelude.{true, List, [], ◌∷◌, Some, fold, codes}
use Rattle.clap.specs.Walk.{Rule, Text}
use Rattle.clap.specs.Simple.{App, new_app, new_rule, on_top, with_rule}
use Rattle.clap.specs.declared.builder.action.ArgAction.TheVariants.{SetTrue}

-- the task, and what it is to be done with
abbrev pub positional_names : List Text
positional_names = codes "op" ∷ codes "first" ∷ codes "second" ∷ []

-- the options that take a value
abbrev pub option_names : List Text
option_names =
    codes "entry" ∷ codes "at" ∷ codes "from" ∷ codes "lane" ∷ codes "round" ∷ codes "rounds" ∷ codes "sessions" ∷ codes "refiners"
    ∷ codes "steps" ∷ codes "seed" ∷ codes "extern" ∷ []

-- an option under its full name
abbrev pub option : Text → Rule
option name = record (new_rule name) { long = Some name }

-- the same without a value
abbrev pub flag : Text → Rule
flag name = record (option name) { action = Some SetTrue }

-- a command without the program's own name among the words, and without help or version
abbrev pub plain : App
plain = on_top (λ s. record s { no_binary_name = true; disable_help_flag = true; disable_version_flag = true }) (new_app (codes "surf"))

-- the command with an argument more for each name
abbrev pub with_rules : (Text → Rule) → App → List Text → App
with_rules rule = fold (λ app name. with_rule app (rule name))

-- the program's command
unfoldable pub surf : App
surf = with_rule (with_rules option (with_rules new_rule plain positional_names) option_names) (flag (codes "skip-sp"))
