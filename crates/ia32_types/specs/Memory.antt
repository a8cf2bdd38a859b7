-- The memory that ModRM, SIB and a displacement name (SDM volume 2, 2.1.3 to 2.1.5).

use Rattle.std.specs.Prelude.{ℕ, ◌+◌, Bool, ◌==◌, ◌&&◌, if◌then◌else◌, Option, Some, None}
use Rattle.ia32_types.specs.declared.Reg.{Reg}
use Rattle.ia32_types.specs.declared.Width.TheVariants.{D32}
use Rattle.ia32_types.specs.declared.Mem.{Mem}
use Rattle.ia32_types.specs.Readers.{Reader, done, more, then_, byte, dword}
use Rattle.ia32_types.specs.Numbers.{reg_of}
use Rattle.ia32_types.specs.Forms.{sign_extended, mod_field, rm_field, scale_field, index_field, base_field}

-- a displacement of 0, 1 or 4 bytes; of one byte its sign is kept
abbrev pub displacement : ℕ → Reader ℕ
displacement bytes = (if bytes == 0 then done 0 else (if bytes == 1 then then_ 0 byte (λ n. done (sign_extended D32 n)) else dword))

-- how many bytes of displacement ModRM's mod field asks for
abbrev pub disp_bytes : ℕ → ℕ
disp_bytes mode = (if mode == 0 then 0 else (if mode == 1 then 1 else 4))

-- the displacement after base, index and scale
unfoldable pub displaced : Bool → Option Reg → Option Reg → ℕ → ℕ → Reader Mem
displaced gs base index scale bytes = then_ 0 (displacement bytes) (λ disp. done (record {
  base = base;
  index = index;
  scale = scale;
  disp = disp;
  gs = gs;
}))

-- 2 to the power of the scale field
abbrev pub scale_of : ℕ → ℕ
scale_of n = (if n == 0 then 1 else (if n == 1 then 2 else (if n == 2 then 4 else 8)))

-- index 4 is none
abbrev pub index_of : ℕ → Option Reg
index_of n = (if n == 4 then None else Some (reg_of n))

abbrev pub index_scale : ℕ → ℕ → ℕ
index_scale n scale = (if n == 4 then 1 else scale_of scale)

-- what follows SIB; base 5 is none where ModRM's mod field, mode, is 0
unfoldable pub indexed : Bool → ℕ → ℕ → Reader Mem
indexed gs mode sib =
    (if base_field sib == 5 && mode == 0 then displaced gs None (index_of (index_field sib)) (index_scale (index_field sib) (scale_field sib)) 4
    else displaced gs (Some (reg_of (base_field sib))) (index_of (index_field sib)) (index_scale (index_field sib) (scale_field sib)) (disp_bytes mode))

-- the memory that a ModRM byte with a mod field below 3 names: rm field 4 stands for SIB, and 5 where the mod
-- field is 0 for a displacement alone
unfoldable pub memory : Bool → ℕ → Reader Mem
memory gs modrm =
    (if rm_field modrm == 4 then more (1 + disp_bytes (mod_field modrm)) (λ sib. indexed gs (mod_field modrm) sib)
    else (if rm_field modrm == 5 && mod_field modrm == 0 then displaced gs None None 1 4
    else displaced gs (Some (reg_of (rm_field modrm))) None 1 (disp_bytes (mod_field modrm))))
