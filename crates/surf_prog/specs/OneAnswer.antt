-- That a query is answered in one way at most.
use Rattle.std.specs.Prelude.{◌≡◌, ℕ, List}
use Rattle.image_map.specs.declared.image.Image.{Image}
use Rattle.elf32.specs.declared.error.ElfError.{ElfError}
use Rattle.elf32.specs.Loading.{Loads}
use Rattle.surf_prog.specs.declared.words.Query.{Query}
use Rattle.surf_prog.specs.declared.words.Task.{Task}
use Rattle.surf_prog.specs.declared.words.Task.TheVariants as task
use Rattle.surf_prog.specs.Once.{IsReply, HasReply, LacksEntry, IsBehind, IsAbsent, HasNoImage}

-- a reply of a file's image is one text
abbrev pub RepliesAreOne : Type 0
RepliesAreOne = (file : List ℕ) (image : Image) → Loads file image → (query : Query) (one other : List ℕ) → IsReply image query one → IsReply image query other → one ≡ other

-- a list of instructions, or a run, is asked for
abbrev pub ShowsCode : Task → Type 0
ShowsCode (task.Ask plan question) = ⊥
ShowsCode other = Unit {0}

-- a list or a run of a file is one text, by whatever image of the file
abbrev pub ListsAreOne : Type 0
ListsAreOne = (file : List ℕ) (i j : Image) → Loads file i → Loads file j → (query : Query) → ShowsCode query.task → (one other : List ℕ) → IsReply i query one → IsReply j query other → one ≡ other

-- what was named and is absent is one address
abbrev pub AbsencesAreOne : Type 0
AbsencesAreOne = (file : List ℕ) (image : Image) → Loads file image → (query : Query) (one other : ℕ) → IsAbsent image query one → IsAbsent image query other → one ≡ other

-- a file has an image, or a check that fails
abbrev pub ImagesPass : Type 0
ImagesPass = (file : List ℕ) (image : Image) (cause : ElfError) → Loads file image → ¬ HasNoImage file cause

-- of the four outcomes of a file's image, each excludes the ones after it
pub record OutcomesExclude : Type 0 where
  pub no_entry : (image : Image) (query : Query) → LacksEntry image query → ((n : ℕ) → ¬ IsBehind image query n) × ((at : ℕ) → ¬ IsAbsent image query at) × (¬ HasReply image query)
  pub behind : (image : Image) (query : Query) (n : ℕ) → IsBehind image query n → ((at : ℕ) → ¬ IsAbsent image query at) × (¬ HasReply image query)
  pub absent : (file : List ℕ) (image : Image) → Loads file image → (query : Query) (at : ℕ) → IsAbsent image query at → ¬ HasReply image query
