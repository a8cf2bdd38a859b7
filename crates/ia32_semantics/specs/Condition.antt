-- The conditions of jcc, setcc and cmovcc by their numbers (SDM volume 1, appendix B). Each odd one is the negation of the one
-- before.
use Rattle.std.specs.Prelude.{ℕ, ◌/◌, ◌%◌, ◌==◌, ◌||◌, not, Bool, if◌then◌else◌}
use Rattle.ia32_semantics.specs.declared.flags.Flags.{Flags}
use Rattle.ia32_semantics.specs.Alu.{differ}

-- SF differs from OF
abbrev pub is_less : Flags → Bool
is_less f = differ f.sf f.of

-- the condition of number 2n
unfoldable pub even_condition : ℕ → Flags → Bool
even_condition n f =
    (if n == 0 then f.of else
    (if n == 1 then f.cf else
    (if n == 2 then f.zf else
    (if n == 3 then f.cf || f.zf else
    (if n == 4 then f.sf else
    (if n == 5 then f.pf else
    (if n == 6 then is_less f else
    f.zf || is_less f)))))))

unfoldable pub holds : ℕ → Flags → Bool
holds condition f = if condition % 2 == 1 then not (even_condition (condition / 2) f) else even_condition (condition / 2) f
