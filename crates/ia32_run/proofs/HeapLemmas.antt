-- Where a block goes, and the site of the newest call.
use Rattle.std.proofs.Common.{◌≡◌, ℕ, ◌+◌, ◌≤◌, List, [], ◌∷◌, length, refl, sym, ap, ◌∙◌, arith}
use Rattle.std.specs.Prelude.{max}
use Rattle.image_map.specs.declared.region.Block.{Block}
use Rattle.ia32_run.specs.Choices.{heap_end}

pub end_low : (blocks : List Block) → 0x90000000 ≤ heap_end blocks
unfolding heap_end
end_low [] = omega arith
end_low (block ∷ others) = let low = end_low others in omega arith

pub end_start : (blocks : List Block) → max 0x90000000 (heap_end blocks) ≡ heap_end blocks
end_start blocks = let low = end_low blocks in omega arith

pub end_more : (blocks rest after : List Block) (block : Block) (end next : ℕ) → max end (heap_end rest) ≡ heap_end blocks → rest ≡ block ∷ after → next ≡ max end (block.base + block.size)
    → max next (heap_end after) ≡ heap_end blocks
unfolding heap_end
end_more blocks rest after block end next kept is more =
    let here : max end (max (block.base + block.size) (heap_end after)) ≡ heap_end blocks = ap (λ r. max end (heap_end r)) (sym is) ∙ kept in
    omega arith

pub end_none : (blocks rest : List Block) (end : ℕ) → max end (heap_end rest) ≡ heap_end blocks → 0x90000000 ≤ end → rest ≡ [] → end ≡ heap_end blocks
unfolding heap_end
end_none blocks rest end kept low none = let here : max end 0x90000000 ≡ heap_end blocks = ap (λ r. max end (heap_end r)) (sym none) ∙ kept in omega arith

pub no_blocks : (blocks : List Block) → length blocks ≡ 0 → blocks ≡ []
no_blocks [] e = refl
no_blocks (block ∷ others) e = absurd (omega arith)
