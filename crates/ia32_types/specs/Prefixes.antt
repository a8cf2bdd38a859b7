-- The prefixes of an instruction (SDM volume 2, 2.1.1). Refusing those that change nothing in most
-- processors, or that this project leaves out, is the project's own.

use Rattle.std.specs.Prelude.{ℕ, Bool, true, false, ◌==◌, ◌||◌, ◌&&◌, if◌then◌else◌, Option, Some, None, option_and_then}
use Rattle.ia32_types.specs.declared.forms.Segment.{Segment}
use Rattle.ia32_types.specs.declared.forms.Segment.TheVariants as segment
use Rattle.ia32_types.specs.declared.forms.Repeat.{Repeat}
use Rattle.ia32_types.specs.declared.forms.Repeat.TheVariants as repeat
use Rattle.ia32_types.specs.declared.forms.Prefixes.{Prefixes}
use Rattle.ia32_types.specs.Forms.{is_gs}

-- no prefix yet
abbrev pub no_prefixes : Prefixes
no_prefixes = record { operand16 = false; segment = segment.None; repeat = repeat.Absent }

abbrev pub is_prefix : ℕ → Bool
is_prefix b = b == 0x66 || b == 0x65 || b == 0x2E || b == 0x3E || b == 0xF3

-- the segment after 65, 2E or 3E: GS goes with no other
abbrev pub gs_after : Segment → Option Segment
gs_after segment.None = Some segment.Gs
gs_after segment.Cs = None
gs_after segment.Ds = None
gs_after segment.Gs = Some segment.Gs

abbrev pub cs_after : Segment → Option Segment
cs_after segment.None = Some segment.Cs
cs_after segment.Cs = Some segment.Cs
cs_after segment.Ds = Some segment.Cs
cs_after segment.Gs = None

abbrev pub ds_after : Segment → Option Segment
ds_after segment.None = Some segment.Ds
ds_after segment.Cs = Some segment.Cs
ds_after segment.Ds = Some segment.Ds
ds_after segment.Gs = None

-- F3, after one more prefix
abbrev pub later : Repeat → Repeat
later repeat.Absent = repeat.Absent
later repeat.Last = repeat.Earlier
later repeat.Earlier = repeat.Earlier

abbrev pub is_earlier : Repeat → Bool
is_earlier repeat.Earlier = true
is_earlier _ = false

-- after F3 and one more prefix only string instructions come, and none of them with GS
abbrev pub unless_lost : Prefixes → Option Prefixes
unless_lost p = (if is_earlier p.repeat && is_gs p.segment then None else Some p)

abbrev pub with_segment : Prefixes → Segment → Option Prefixes
with_segment p s = unless_lost (record { operand16 = p.operand16; segment = s; repeat = later p.repeat })

-- F3 stands once
abbrev pub with_repeat : Prefixes → Repeat → Option Prefixes
with_repeat p repeat.Absent = Some (record { operand16 = p.operand16; segment = p.segment; repeat = repeat.Last })
with_repeat p repeat.Last = None
with_repeat p repeat.Earlier = None

-- the prefixes with one more, if anything may follow it
unfoldable pub next_prefixes : Prefixes → ℕ → Option Prefixes
next_prefixes p b =
    (if b == 0x66 then unless_lost (record { operand16 = true; segment = p.segment; repeat = later p.repeat }) else
    (if b == 0x65 then option_and_then (with_segment p) (gs_after p.segment) else
    (if b == 0x2E then option_and_then (with_segment p) (cs_after p.segment) else
    (if b == 0x3E then option_and_then (with_segment p) (ds_after p.segment) else
    with_repeat p p.repeat))))

-- the fewest bytes that follow: after 66, 65 and F3 at last only 0F 1E FB does
abbrev pub bytes_after : Prefixes → Repeat → ℕ
bytes_after p repeat.Absent = 1
bytes_after p repeat.Last = (if p.operand16 && is_gs p.segment then 3 else 1)
bytes_after p repeat.Earlier = 1
