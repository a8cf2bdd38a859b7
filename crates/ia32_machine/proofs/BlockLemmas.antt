-- A machine that is given a block.
use Rattle.std.proofs.Common.{◌≡◌, ℕ, ◌+◌, ◌<◌, ◌≤◌, refl, sym, ap, ◌∙◌, arith}
use Rattle.std.specs.Prelude.{Bool, true, false, cond, not, ◌&&◌, ◌||◌, List, Option, Some, None, is_some}
use Rattle.std.proofs.lemmas.Bool.Decides.{nat_tests}
use Rattle.image_map.specs.declared.image.Image.{Image}
use Rattle.image_map.specs.declared.region.Block.{Block}
use Rattle.image_map.specs.Queries.{is_in_segment, is_writable}
use Rattle.image_map.specs.Whole.{IsImage}
use Rattle.ia32_semantics.specs.State.{Bytes}
use Rattle.ia32_semantics.specs.Outcome.{IsBlock}
use Rattle.ia32_memory.specs.Mapped.{Mapped, bytes_of, is_open_at}
use Rattle.ia32_memory.specs.Changes.{with_zeros}
use Rattle.ia32_memory.proofs.StartLaws.{segment_low}
use Rattle.item_list.specs.Ranges.{within}
use Rattle.ia32_machine.specs.Opens.{KnowsOpen}

high_go : (in_segment : Bool) (a : ℕ) → (in_segment ≡ true → a < 0x7FFFFFFF) → 0x90000000 ≤ a → in_segment ≡ false
high_go true a low high = absurd (let l = low refl in omega arith)
high_go false a low high = refl

inside : (base size a : ℕ) → 0x90000000 ≤ base → within base (base + size) a ≡ true → 0x90000000 ≤ a
inside base size a above there = grind (arith, nat_tests)

open_go : (mapped open_ range in_segment writable : Bool) (old new : Option ℕ) → is_some old ≡ mapped → open_ ≡ (mapped && (not in_segment || writable))
    → new ≡ cond mapped old (cond range (Some 0) None) → (range ≡ true → in_segment ≡ false) → cond mapped open_ range ≡ (is_some new && (not in_segment || writable))
open_go true open_ range in_segment writable old new was knows is apart =
    knows ∙ ap (λ b. b && (not in_segment || writable)) (sym (ap is_some is ∙ was))
open_go false open_ true in_segment writable old new was knows is apart =
    sym (ap (λ v. is_some v && (not in_segment || writable)) is ∙ ap (λ b. not b || writable) (apart refl))
open_go false open_ false in_segment writable old new was knows is apart = sym (ap (λ v. is_some v && (not in_segment || writable)) is)

-- memory knows what of its image may be written after zeros were put in place of nothing
pub block_open : (image : Image) (old new : Mapped) (block : Block) (slot : ℕ) (others : List Block) → IsImage image → IsBlock slot others block → KnowsOpen image old
    → bytes_of new ≡ with_zeros (bytes_of old) block.base block.size
    → ((a : ℕ) → is_open_at new a ≡ cond (is_some (bytes_of old a)) (is_open_at old a) (within block.base (block.base + block.size) a)) → KnowsOpen image new
block_open image old new block slot others whole lies knows bytes opened = record {
  opens = λ a.
      opened a ∙ open_go (is_some (bytes_of old a)) (is_open_at old a) (within block.base (block.base + block.size) a) (is_in_segment image a) (is_writable image a) (bytes_of old a) (bytes_of new a)
      refl (knows.opens a) (ap (λ (f : Bytes). f a) bytes)
      (λ there. high_go (is_in_segment image a) a (segment_low image a whole) (inside block.base block.size a lies.above there));
}
