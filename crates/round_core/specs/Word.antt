-- A lane's word in the 64 bits of an atomic cell: this project's own layout.
use Rattle.std.specs.Prelude.{ℕ, ◌+◌, ◌*◌, ◌/◌, ◌%◌, ◌==◌, if◌then◌else◌}
use Rattle.round_core.specs.declared.word.Word.{Word}

-- the round in the high 32 bits, the mark "claimed" in bit 31, the slot in the low 31 bits
abbrev pub packed : Word → ℕ
packed w = w.round * 4294967296 + (if w.claimed then 2147483648 else 0) + w.slot

-- the round, the mark and the slot that these bits hold
abbrev pub unpacked : ℕ → Word
unpacked bits = record { round = bits / 4294967296; claimed = (bits / 2147483648) % 2 == 1; slot = bits % 2147483648 }
