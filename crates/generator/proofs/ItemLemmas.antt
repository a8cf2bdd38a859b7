-- Items that are put one after the other.
use Rattle.std.proofs.Common.{◌≡◌, ℕ, zero, suc, ◌*◌, length, ◌+◌, ◌-◌, ◌<◌, ◌≤◌, List, [], ◌∷◌, ◌++◌, ap, sym, ◌∙◌, arith, append_assoc, append-nil, length-append}
use Rattle.std.specs.Prelude.{◌==◌, Bool, true, false, if◌then◌else◌}
use Rattle.generator.specs.declared.items.Asked.{Asked}
use Rattle.generator.specs.Items.{asked_of, code, item, item_of, items, next_word}

pub items_start : (n x : ℕ) (code : List ℕ) → code ++ items (n - 0) x ≡ code ++ items n x
items_start n x code = let same : n - 0 ≡ n = omega arith in ap (λ m. code ++ items m x) same

pub items_more : (n k x y : ℕ) (code more whole : List ℕ) → code ++ items (n - k) x ≡ whole → k < n → y ≡ next_word x → more ≡ code ++ item y → more ++ items (n - (k + 1)) y ≡ whole
unfolding items
items_more n k x y code more whole kept lt is push =
    let left : n - k ≡ suc (n - (k + 1)) = omega arith in
    ap (λ l. l ++ items (n - (k + 1)) y) push ∙ append_assoc code (item y) (items (n - (k + 1)) y)
    ∙ ap (λ z. code ++ (item z ++ items (n - (k + 1)) z)) is ∙ ap (λ m. code ++ items m x) (sym left) ∙ kept

pub items_all : (n k x : ℕ) (code whole : List ℕ) → code ++ items (n - k) x ≡ whole → n ≤ k → code ≡ whole
unfolding items
items_all n k x code whole kept past =
    let none : 0 ≡ n - k = omega arith in
    sym (append-nil code) ∙ ap (λ m. code ++ items m x) none ∙ kept

-- -- An item has at most six bytes

either_short : (t : Bool) (xs ys : List ℕ) → length xs ≤ 6 → length ys ≤ 6 → length (if t then xs else ys) ≤ 6
either_short true xs ys first second = first
either_short false xs ys first second = second

short_item : (a : Asked) → length (item_of a) ≤ 6
unfolding item_of
short_item a =
    let load : length ((0xB8 + a.first) ∷ a.number ∷ 0 ∷ 0 ∷ 0 ∷ []) ≤ 6 = omega arith in
    let add : length (0x01 ∷ (0xC0 + 8 * a.second + a.first) ∷ []) ≤ 6 = omega arith in
    let store : length (0x89 ∷ (0x45 + 8 * a.first) ∷ (256 - 4 * (1 + a.number)) ∷ []) ≤ 6 = omega arith in
    let count : length (0x83 ∷ (0xF8 + a.first) ∷ a.number ∷ 0x7C ∷ 0x01 ∷ (0x40 + a.first) ∷ []) ≤ 6 = omega arith in
    either_short (a.kind == 0) _ _ load (either_short (a.kind == 1) _ _ add (either_short (a.kind == 2) _ _ store count))

short_items : (n x : ℕ) → length (items n x) ≤ 6 * n
unfolding items
short_items zero x = omega arith
short_items (suc n) x =
    let one = short_item (asked_of (next_word x)) in
    let others = short_items n (next_word x) in
    let both = length-append (item (next_word x)) (items n (next_word x)) in
    omega (arith, one, others, both)

pub code_length : (seed n : ℕ) → length (code seed n) ≡ 11 + length (items n seed)
code_length seed n = let both = length-append (items n seed) (0xC9 ∷ 0xC3 ∷ []) in omega (arith, both)

-- some thousand items make a short program
pub short_code : (seed n : ℕ) → n ≤ 1000 → length (code seed n) ≤ 6011
short_code seed n few =
    let all = short_items n seed in
    let whole = code_length seed n in
    omega (arith, all, whole, few)
