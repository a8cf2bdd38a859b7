-- What a list of prefixes says, told of the whole list and not byte by byte (SDM volume 2, 2.1.1). Which prefixes go with one
-- another is the project's own.

use Rattle.std.specs.Prelude.{◌≡◌, ◌↔◌, ℕ, ◌<◌, ◌≤◌, ◌==◌, Bool, false, ◌||◌, ◌&&◌, IsTrue, IsFalse, List, [], ◌∷◌, ◌++◌, length, if◌then◌else◌}
use Rattle.std.specs.List.{filter, list_all, list_any}
use Rattle.ia32_types.specs.declared.forms.Group.{Group}
use Rattle.ia32_types.specs.declared.forms.Segment.{Segment}
use Rattle.ia32_types.specs.declared.forms.Segment.TheVariants as segment
use Rattle.ia32_types.specs.declared.forms.Repeat.{Repeat}
use Rattle.ia32_types.specs.declared.forms.Repeat.TheVariants as repeat
use Rattle.ia32_types.specs.declared.forms.Prefixes.{Prefixes}
use Rattle.ia32_types.specs.declared.forms.Parts.{Parts}
use Rattle.ia32_types.specs.Readers.{Accepts}
use Rattle.ia32_types.specs.Forms.{reg_field}
use Rattle.ia32_types.specs.Rows.{group_form}
use Rattle.ia32_types.specs.Prefixes.{is_prefix}
use Rattle.ia32_types.specs.Spells.{grouped_form, grouped, opened, instruction}

-- whether the byte stands among the prefixes
abbrev pub stands : ℕ → List ℕ → Bool
stands b ps = list_any (λ p. p == b) ps

-- whether it is the last of them
abbrev pub is_last : ℕ → List ℕ → Bool
is_last b [] = false
is_last b (p ∷ []) = p == b
is_last b (p ∷ q ∷ ps) = is_last b (q ∷ ps)

-- how often it stands there
abbrev pub times : ℕ → List ℕ → ℕ
times b ps = length (filter (λ p. p == b) ps)

-- 65 is GS; else 2E is CS; else 3E is DS
abbrev pub segment_said : List ℕ → Segment
segment_said ps =
    (if stands 0x65 ps then segment.Gs else
    (if stands 0x2E ps then segment.Cs else
    (if stands 0x3E ps then segment.Ds else
    segment.None)))

abbrev pub repeat_said : List ℕ → Repeat
repeat_said ps = (if stands 0xF3 ps then (if is_last 0xF3 ps then repeat.Last else repeat.Earlier) else repeat.Absent)

-- what prefixes say, in whatever order they stand
abbrev pub said : List ℕ → Prefixes
said ps = record { operand16 = stands 0x66 ps; segment = segment_said ps; repeat = repeat_said ps }

-- prefixes that go with one another: F3 stands once at most, and 65 with neither 2E nor 3E
pub record GoTogether (ps : List ℕ) : Type 0 where
  pub once : times 0xF3 ps ≤ 1
  pub alone : IsFalse (stands 0x65 ps && (stands 0x2E ps || stands 0x3E ps))

abbrev pub ArePrefixes : List ℕ → Type 0
ArePrefixes ps = IsTrue (list_all is_prefix ps)

-- up to 14 prefixes before an opcode b are accepted exactly where they go with one another, and what follows b is accepted
-- with what they say
abbrev pub PrefixesAreAccepted : Type 0
PrefixesAreAccepted =
    (ps : List ℕ) (b : ℕ) (rest : List ℕ) (parts : Parts) →
    ArePrefixes ps → IsFalse (is_prefix b) → length ps < 15 →
    Accepts instruction (ps ++ b ∷ rest) parts ↔ (GoTogether ps × (b < 256) × Accepts (opened (said ps) (repeat_said ps) b) rest parts)

-- 15 prefixes are never accepted, and prefixes alone aren't either
abbrev pub FifteenAreRefused : Type 0
FifteenAreRefused = (ps rest : List ℕ) (parts : Parts) → ArePrefixes ps → 15 ≤ length ps → Accepts instruction (ps ++ rest) parts → ⊥

abbrev pub PrefixesAloneAreRefused : Type 0
PrefixesAloneAreRefused = (ps : List ℕ) (parts : Parts) → ArePrefixes ps → Accepts instruction ps parts → ⊥

-- a ModRM byte, and after it what the form takes that its reg field tells
pub record AcceptsForm (p : Prefixes) (g : Group) (bytes : List ℕ) (parts : Parts) : Type 0 where
  pub modrm : ℕ
  pub rest : List ℕ
  pub split : bytes ≡ modrm ∷ rest
  pub below : modrm < 256
  pub accepted : Accepts (grouped_form p modrm (group_form g (reg_field modrm))) rest parts

-- what follows an opcode of a group is accepted exactly where a form of the group accepts it
abbrev pub GroupsAreTheirForms : Type 0
GroupsAreTheirForms = (p : Prefixes) (g : Group) (bytes : List ℕ) (parts : Parts) → Accepts (grouped p g) bytes parts ↔ AcceptsForm p g bytes parts
