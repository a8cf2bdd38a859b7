-- Texts that end at a NUL, and symbols whose names are such texts.
use Rattle.std.proofs.Common.{◌≡◌, ℕ, suc, ◌+◌, Bool, true, false, cond, not, ◌&&◌, ◌||◌, Option, Some, List, [], ◌∷◌, length, take, drop, refl, ap, sym, ◌∙◌, arith, eqb-true}
use Rattle.std.specs.Prelude.{◌==◌, find}
use Rattle.std.specs.List.{list_any, prefix_len}
use Rattle.std.specs.Option.{option_map}
use Rattle.std.specs.Str.{bytes_eq}
use Rattle.image_map.specs.declared.symbols.SymbolPlace.{SymbolPlace}
use Rattle.image_map.specs.Names.{Symbol, symbol_at, symbols_at, value_of}
use Rattle.image_map.specs.Texts.{is_nul, is_end, first_text, text_at}

cons_go : (b : Bool) (x n : ℕ) (xs : List ℕ) → take (cond (not b) (1 + n) 0) (x ∷ xs) ≡ cond b [] (x ∷ take n xs)
cons_go true x n xs = refl
cons_go false x n xs = let e : 1 + n ≡ suc n = omega arith in rw e refl

-- a text with one byte more before it
pub first_text-cons : (x : ℕ) (xs : List ℕ) → first_text (x ∷ xs) ≡ cond (is_nul x) [] (x ∷ first_text xs)
first_text-cons x xs = cons_go (is_nul x) x (prefix_len (λ b. not (is_nul b)) xs) xs

eq_cons : (nul : Bool) (x t : ℕ) (fs ts : List ℕ) → bytes_eq (cond nul [] (x ∷ fs)) (t ∷ ts) ≡ cond nul false ((x == t) && bytes_eq fs ts)
eq_cons true x t fs ts = refl
eq_cons false x t fs ts = refl

text_cons : (x t : ℕ) (xs ts : List ℕ) → bytes_eq (first_text (x ∷ xs)) (t ∷ ts) ≡ cond (is_nul x) false ((x == t) && bytes_eq (first_text xs) ts)
text_cons x t xs ts = ap (λ f. bytes_eq f (t ∷ ts)) (first_text-cons x xs) ∙ eq_cons (is_nul x) x t (first_text xs) ts

end_go : (nul : Bool) (x : ℕ) (fs : List ℕ) → nul ≡ bytes_eq (cond nul [] (x ∷ fs)) []
end_go true x fs = refl
end_go false x fs = refl

text_end : (bytes : List ℕ) → is_end bytes ≡ bytes_eq (first_text bytes) []
text_end [] = refl
text_end (x ∷ xs) = end_go (is_nul x) x (first_text xs) ∙ ap (λ f. bytes_eq f []) (sym (first_text-cons x xs))

nul_too : (x t : ℕ) → (x == t) ≡ true → is_nul x ≡ is_nul t
nul_too x t h = ap is_nul (eqb-true x t h)

unlike_go : (nul same p q : Bool) → (same && p) ≡ false → (p ≡ false → false ≡ q) → false ≡ cond nul false (same && q)
unlike_go true same p q h f = refl
unlike_go false true p q h f = f h
unlike_go false false p q h f = refl

-- bytes that don't begin with a text don't have it
pub text_unlike : (bytes text : List ℕ) → bytes_eq (take (length text) bytes) text ≡ false → false ≡ bytes_eq (first_text bytes) text
text_unlike [] [] h = sym h
text_unlike [] (t ∷ ts) h = refl
text_unlike (x ∷ xs) [] h = absurd (let e : true ≡ false = h in cc)
text_unlike (x ∷ xs) (t ∷ ts) h = unlike_go (is_nul x) (x == t) (bytes_eq (take (length ts) xs) ts) (bytes_eq (first_text xs) ts) h (text_unlike xs ts) ∙ sym (text_cons x t xs ts)

nul_go : (nul same within r q : Bool) → (same ≡ true → nul ≡ within) → (within || r) ≡ true → (r ≡ true → false ≡ q) → false ≡ cond nul false (same && q)
nul_go true same within r q e h f = refl
nul_go false false within r q e h f = refl
nul_go false true true r q e h f = absurd (let n : false ≡ true = e refl in cc)
nul_go false true false r q e h f = f h

-- a text with a NUL in it is none
pub text_nul : (bytes text : List ℕ) → list_any is_nul text ≡ true → false ≡ bytes_eq (first_text bytes) text
text_nul bytes [] h = absurd (let e : false ≡ true = h in cc)
text_nul [] (t ∷ ts) h = refl
text_nul (x ∷ xs) (t ∷ ts) h = nul_go (is_nul x) (x == t) (is_nul t) (list_any is_nul ts) (bytes_eq (first_text xs) ts) (nul_too x t) h (text_nul xs ts) ∙ sym (text_cons x t xs ts)

like_go : (nul same within p r q end : Bool) → (same ≡ true → nul ≡ within) → (same && p) ≡ true → (within || r) ≡ false → (p ≡ true → r ≡ false → end ≡ q) → end ≡ cond nul false (same && q)
like_go nul false within p r q end e h n f = absurd (cc)
like_go true true within p r q end e h n f = absurd (let w : true ≡ within = e refl in let v : (true || r) ≡ false = ap (λ b. b || r) w ∙ n in let u : true ≡ false = v in cc)
like_go false true true p r q end e h n f = absurd (let w : false ≡ true = e refl in cc)
like_go false true false p r q end e h n f = f h n

-- bytes that begin with a text have it where it ends there
pub text_like : (bytes text : List ℕ) → bytes_eq (take (length text) bytes) text ≡ true → list_any is_nul text ≡ false → is_end (drop (length text) bytes) ≡ bytes_eq (first_text bytes) text
text_like bytes [] h n = text_end bytes
text_like [] (t ∷ ts) h n = absurd (let e : false ≡ true = h in cc)
text_like (x ∷ xs) (t ∷ ts) h n =
    like_go (is_nul x) (x == t) (is_nul t) (bytes_eq (take (length ts) xs) ts) (list_any is_nul ts) (bytes_eq (first_text xs) ts) (is_end (drop (length ts) xs)) (nul_too x t) h n (text_like xs ts)
    ∙ sym (text_cons x t xs ts)

value_go : (b : Bool) (buffer : List ℕ) (p : SymbolPlace) (o : Option SymbolPlace) (v : Option Symbol) → option_map (λ (q : SymbolPlace). q.value) o ≡ option_map (λ (s : Symbol). s.value) v
    → option_map (λ (q : SymbolPlace). q.value) (cond b (Some p) o) ≡ option_map (λ (s : Symbol). s.value) (cond b (Some (symbol_at buffer p)) v)
value_go true buffer p o v h = refl
value_go false buffer p o v h = h

-- the value of a name, by the places of the symbols
pub value_at : (buffer : List ℕ) (places : List SymbolPlace) (name : List ℕ) → option_map (λ (q : SymbolPlace). q.value) (find (λ (p : SymbolPlace). bytes_eq (text_at buffer p.start) name) places) ≡ value_of (symbols_at buffer places) name
value_at buffer [] name = refl
value_at buffer (p ∷ ps) name = value_go (bytes_eq (text_at buffer p.start) name) buffer p _ _ (value_at buffer ps name)
