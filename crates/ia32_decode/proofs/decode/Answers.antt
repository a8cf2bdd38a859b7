use Rattle.std.proofs.Common.{◌≡◌, ◌≤◌, length, arith}
use Rattle.ia32_decode.proofs.DecodedLemmas.{ok_exactly, short_exactly, unknown_exactly, are_bytes, if_placed}
use Rattle.ia32_decode.proofs.decode.Goals as goal

pub returns-clause-ok : goal.returns-clause-ok
returns-clause-ok c = ok_exactly _ _ _ (are_bytes _ (λ k. omega (arith, c.type_inv.bytes k))) c.read_instruction.ensures

pub returns-clause-short : goal.returns-clause-short
returns-clause-short c = short_exactly _ _ _ (are_bytes _ (λ k. omega (arith, c.type_inv.bytes k))) c.read_instruction.ensures

pub returns-clause-unknown : goal.returns-clause-unknown
returns-clause-unknown c = unknown_exactly _ _ _ (are_bytes _ (λ k. omega (arith, c.type_inv.bytes k))) c.read_instruction.ensures

pub returns-clause-place : goal.returns-clause-place
returns-clause-place c = if_placed _ _ _ (λ i. i.at ≡ c.args.at) (are_bytes _ (λ k. omega (arith, c.type_inv.bytes k))) c.read_instruction.ensures (λ i h. h.at_is)

pub returns-clause-some : goal.returns-clause-some
returns-clause-some c = if_placed _ _ _ (λ i. 1 ≤ i.len) (are_bytes _ (λ k. omega (arith, c.type_inv.bytes k))) c.read_instruction.ensures (λ i h. h.some)

pub returns-clause-few : goal.returns-clause-few
returns-clause-few c = if_placed _ _ _ (λ i. i.len ≤ 15) (are_bytes _ (λ k. omega (arith, c.type_inv.bytes k))) c.read_instruction.ensures (λ i h. h.few)

pub returns-clause-within : goal.returns-clause-within
returns-clause-within c = if_placed _ _ _ (λ i. i.len ≤ length c.args.bytes.now) (are_bytes _ (λ k. omega (arith, c.type_inv.bytes k))) c.read_instruction.ensures (λ i h. h.within)
