-- A small program with a call, a loop, memory and an extern, of which there are runs with dependences. The project's own.
--
--     08049000  call F0000000     an extern, which leaves any number in EAX
--     08049005  push eax
--     08049006  call 0804900d
--     0804900b  pop ecx
--     0804900c  ret
--     0804900d  dec eax
--     0804900e  jne 0804900d
--     08049010  ret
use Rattle.std.specs.Prelude.{ℕ, List, [], ◌∷◌}
use Rattle.image_map.specs.declared.image.Image.{Image}
use Rattle.image_map.specs.declared.image.Segment.{Segment}
use Rattle.image_map.specs.declared.region.Kind.TheVariants as kind
use Rattle.image_map.specs.declared.region.Settings.{Settings}

abbrev pub code : List ℕ
code =
    0xE8 ∷ 0xFB ∷ 0x6F ∷ 0xFB ∷ 0xE7 ∷ 0x50 ∷ 0xE8 ∷ 0x02 ∷ 0x00 ∷ 0x00 ∷ 0x00 ∷ 0x59 ∷ 0xC3 ∷ 0x48 ∷ 0x75 ∷ 0xFD ∷ 0xC3 ∷ []

-- the code may be read and executed
abbrev pub segment : Segment
segment = record { start = 0x08049000; bytes = code; flags = 5 }

abbrev pub image : Image
image = record { segments = segment ∷ []; externs = record { name = [] } ∷ []; symbols = []; any_bytes = []; words = []; entry = 0x08049000; bias = 0 }

-- the extern reads no memory
abbrev pub settings : Settings
settings = record { entry = 0x08049000; rounds = 1; kinds = kind.Pure 0 ∷ [] }
