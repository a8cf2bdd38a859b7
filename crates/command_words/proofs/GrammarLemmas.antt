-- The command and what its matches say.
use Rattle.std.proofs.Common.{◌≡◌, ⊎_elim, ℕ, zero, suc, ◌+◌, ◌<◌, true, List, [], ◌∷◌, length, take, get_or, Option, None, Err, refl, sym, ◌∙◌, ap, subst, add-one, arith}
use Rattle.std.specs.Borrow.{Bor}
use Rattle.clap.specs.Walk.{Rule, Text, rows_of, texts}
use Rattle.clap.specs.Matches.{found_of}
use Rattle.clap.specs.Values.{kind_of}
use Rattle.clap.specs.Simple.{App, HasMatchesOf, is_simple, matches_of, with_rule}
use Rattle.clap.specs.Faults.{fault_of, is_simple_and_free}
use Rattle.clap.specs.Kinds.{HasKind, IsAmong, Kinds}
use Rattle.clap.specs.declared.error.Error.{Error}
use Rattle.clap.specs.declared.error.kind.ErrorKind.{ErrorKind}
use Rattle.clap.specs.declared.parser.matches.ArgMatches.{ArgMatches}
use Rattle.clap.proofs.OnLiterals.{clap_on_literals}
use Rattle.command_words.specs.declared.line.CommandLine.{CommandLine}
use Rattle.command_words.specs.declared.line.WordsError.{WordsError}
use Rattle.command_words.specs.declared.line.WordsError.TheVariants.{Refused, Memory}
use Rattle.command_words.specs.Grammar.{surf, with_rules}
use Rattle.command_words.specs.Reading.{Tells}
use Rattle.command_words.specs.Said.{said, said_in, reason_of, unless_fault}

-- an argument more for one name more
with_one_more : (rule : Text → Rule) (app : App) (names : List (Bor Text)) (i : ℕ) (d : Bor Text) → i < length names
    → with_rules rule app (texts (take (suc i) names)) ≡ with_rule (with_rules rule app (texts (take i names))) (rule (get_or names i d).now)
with_one_more rule app [] i d lt = absurd (omega arith)
with_one_more rule app (name ∷ names) zero d lt = refl
with_one_more rule app (name ∷ names) (suc i) d lt = with_one_more rule (with_rule app (rule name.now)) names i d (omega arith)

-- the same as a step of a loop over the names
pub one_more : (rule : Text → Rule) (app old new : App) (names : List (Bor Text)) (i : ℕ) (d : Bor Text) → i < length names → old ≡ with_rules rule app (texts (take i names))
    → new ≡ with_rule old (rule (get_or names i d).now) → new ≡ with_rules rule app (texts (take (i + 1) names))
one_more rule app old new names i d lt so_far added =
    rw add-one (added ∙ ap (λ a. with_rule a (rule (get_or names i d).now)) so_far ∙ sym (with_one_more rule app names i d lt))

-- the command is one of which clap says what it takes
surf_is_simple : is_simple surf ≡ true
unfolding clap_on_literals surf
surf_is_simple = refl

surf_is_free : is_simple_and_free surf ≡ true
unfolding clap_on_literals surf
surf_is_free = refl

-- words that clap takes say what its matches say
pub said_by : (app : App) (words : List Text) (matches : ArgMatches) → app ≡ surf → HasMatchesOf app words matches → (is_simple_and_free app ≡ true → fault_of app words ≡ [])
    → said words ≡ said_in (rows_of (found_of matches))
unfolding said
said_by app words matches is found passes =
    let rows : rows_of (found_of matches) ≡ matches_of surf words = (found (ap is_simple is ∙ surf_is_simple)).0 ∙ ap (λ a. matches_of a words) is in
    let faults : fault_of surf words ≡ [] = ap (λ a. fault_of a words) (sym is) ∙ passes (ap is_simple_and_free is ∙ surf_is_free) in
    rw (faults, rows) refl

-- words that clap refuses say nothing
faulty : (kind : ErrorKind) (kinds : Kinds) (line : Option CommandLine) → IsAmong kind kinds → unless_fault kinds line ≡ None
faulty kind [] line among = absurd among
faulty kind (k ∷ ks) line among = refl

tells_nothing : (e : WordsError) (read : Option CommandLine) → read ≡ None → Tells (Err e) read
tells_nothing Refused read none = none
tells_nothing Memory read none = tt

pub unsaid : (app : App) (words : List Text) (error : Error) (reason : WordsError) → app ≡ surf → (is_simple_and_free app ≡ true → HasKind (fault_of app words) error) → reason ≡ reason_of (kind_of error)
    → Tells (Err reason) (said words)
unfolding said
unsaid app words error reason is fails because =
    let has = fails (ap is_simple_and_free is ∙ surf_is_free) in
    ⊎_elim
    (λ memory. let wants : reason ≡ Memory = because ∙ ap reason_of memory in rw wants tt)
    (λ among. tells_nothing reason _ (faulty (kind_of error) (fault_of surf words) (said_in (matches_of surf words)) (subst (λ a. IsAmong (kind_of error) (fault_of a words)) is among)))
    has
