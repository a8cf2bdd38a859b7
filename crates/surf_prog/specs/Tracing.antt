-- What a trace writes: one run of the machine with the choices of a seed. The project's own.
use Rattle.std.specs.Prelude.{◌≡◌, ℕ, zero, suc, ◌+◌, ◌*◌, ◌%◌, ◌^◌, Bool, List, [], ◌∷◌, ◌++◌, length, codes, Option, Some, None}
use Rattle.std.specs.List.{flat_map}
use Rattle.std.specs.Fmt.{decimal}
use Rattle.surf_base.specs.Hex.{hex8_text}
use Rattle.image_map.specs.declared.image.Image.{Image}
use Rattle.ia32_run.specs.declared.log.Occurrence.{Occurrence}
use Rattle.ia32_run.specs.declared.log.RunLog.{RunLog}
use Rattle.ia32_run.specs.declared.log.Finish.{Finish}
use Rattle.ia32_run.specs.declared.log.Finish.TheVariants as finish
use Rattle.ia32_run.specs.Traces.{IsTrace}
use Rattle.dynamic_slices.specs.Slices.{IsNeverAt, IsLastAt, IsDynamicSlice, depends_of, places_told, IsToldToDepend}
use Rattle.requests.specs.Texts.{address_line}
use Rattle.surf_prog.specs.Settings.{settings_of}
use Rattle.surf_prog.specs.declared.words.RunOptions.{RunOptions}
use Rattle.surf_prog.specs.declared.dynamic.Traced.{Traced}
use Rattle.surf_prog.specs.declared.dynamic.Traced.TheVariants as traced

-- -- The words of choice

abbrev pub next_word : ℕ → ℕ
next_word x = (1664525 * x + 1013904223) % 2 ^ 32

-- so many words, each made of the one before it, the first of the seed
unfoldable pub seed_words : ℕ → ℕ → List ℕ
seed_words zero x = []
seed_words (suc n) x = next_word x ∷ seed_words n (next_word x)

-- -- The text

abbrev pub finish_name : Finish → List ℕ
finish_name finish.Return = codes "return"
finish_name finish.Halt = codes "halt"
finish_name finish.Stop = codes "stop"
finish_name finish.Fault = codes "fault"
finish_name finish.Limit = codes "limit"

-- numbers, each after a space
abbrev pub spaced : List ℕ → List ℕ
spaced numbers = flat_map (λ n. 32 ∷ decimal n) numbers

-- a step's number, its address, and the numbers of those on which it depends
abbrev pub step_line : Bool → ℕ → Occurrence → List ℕ
step_line skip_sp k step = decimal k ++ (32 ∷ (hex8_text step.at ++ (spaced (depends_of skip_sp step) ++ 10 ∷ [])))

-- those of some steps, of which the first has a number
unfoldable pub step_lines : Bool → ℕ → List Occurrence → List ℕ
step_lines skip_sp k [] = []
step_lines skip_sp k (step ∷ steps) = step_line skip_sp k step ++ step_lines skip_sp (k + 1) steps

abbrev pub end_line : RunLog → List ℕ
end_line log = codes "end " ++ (finish_name log.finish ++ (32 ∷ (decimal (length log.steps) ++ (codes " steps" ++ 10 ∷ []))))

-- the last step at an address, and the addresses of its dynamic slice
abbrev pub dynamic_text : ℕ → ℕ → List ℕ → List ℕ
dynamic_text at last addresses = codes "dynamic " ++ (hex8_text at ++ (codes " occurrence " ++ (decimal last ++ (10 ∷ flat_map address_line addresses))))

-- the steps, what is told between them and the last line, and that line
abbrev pub trace_text : Bool → ℕ → RunLog → List ℕ → List ℕ
trace_text skip_sp place log between = codes "trace " ++ (hex8_text place ++ (10 ∷ (step_lines skip_sp 0 log.steps ++ (between ++ end_line log))))

-- -- What is written

-- a log of the run of the image from this place on
abbrev pub IsTraced : Image → ℕ → RunOptions → RunLog → Type 0
IsTraced image place options log = IsTrace image (settings_of image place 1 options.externs) (seed_words (8 * (options.steps + 2)) options.seed) options.steps log

-- the text tells the dynamic slice of the last of some steps at an address
pub record TellsSlice (skip_sp : Bool) (steps : List Occurrence) (at : ℕ) (text : List ℕ) : Type 0 where
  pub last : ℕ
  pub is_last : IsLastAt (places_told steps) at last
  pub addresses : List ℕ
  pub slice : IsDynamicSlice (IsToldToDepend skip_sp steps) (places_told steps) last addresses
  pub text_is : text ≡ dynamic_text at last addresses

-- it does so where an address was named, and else is empty
abbrev pub TellsDynamic : Bool → List Occurrence → Option ℕ → List ℕ → Type 0
TellsDynamic skip_sp steps None text = text ≡ []
TellsDynamic skip_sp steps (Some at) text = TellsSlice skip_sp steps at text

-- the text tells a run of the image from this place on
pub record IsTracing (image : Image) (place : ℕ) (options : RunOptions) (text : List ℕ) : Type 0 where
  pub log : RunLog
  pub traced : IsTraced image place options log
  pub between : List ℕ
  pub dynamic : TellsDynamic options.skip_sp log.steps options.at between
  pub text_is : text ≡ trace_text options.skip_sp place log between

-- this address was named, and the run never comes to it
pub record NeverComes (image : Image) (place : ℕ) (options : RunOptions) (at : ℕ) : Type 0 where
  pub named : options.at ≡ Some at
  pub log : RunLog
  pub traced : IsTraced image place options log
  pub never : IsNeverAt (places_told log.steps) at

-- the run comes to this address
pub record ComesTo (image : Image) (place : ℕ) (options : RunOptions) (at : ℕ) : Type 0 where
  pub log : RunLog
  pub traced : IsTraced image place options log
  pub last : ℕ
  pub is_last : IsLastAt (places_told log.steps) at last

-- the run comes to the address that was named, if one was
abbrev pub Comes : Image → ℕ → RunOptions → Type 0
Comes image place options = (at : ℕ) → options.at ≡ Some at → ComesTo image place options at

-- the code tells a run, or that it never comes to an address
abbrev pub Tells : Image → ℕ → RunOptions → Traced → Type 0
Tells image place options (traced.Text text) = IsTracing image place options text.items
Tells image place options (traced.Never at) = NeverComes image place options at

-- and of a log alone
abbrev pub TellsLog : Bool → List Occurrence → Option ℕ → Traced → Type 0
TellsLog skip_sp steps at (traced.Text text) = TellsDynamic skip_sp steps at text.items
TellsLog skip_sp steps at (traced.Never never) = (at ≡ Some never) × IsNeverAt (places_told steps) never
