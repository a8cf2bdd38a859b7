-- Pieces with a byte between them.
use Rattle.std.proofs.Common.{◌≡◌, ℕ, List, [], ◌∷◌, ◌++◌, map, reverse, refl, ap, sym, ◌∙◌, append_assoc, append-nil}
use Rattle.std.specs.List.{flat_map, join_with_byte}
use Rattle.std.proofs.lemmas.List.{reverse-append}
use Rattle.surf_base.specs.Hex.{hex8_text}
use Rattle.vset.specs.declared.part.Part.{Part}
use Rattle.vset.specs.Values.{Parts}
use Rattle.round_texts.specs.Values.{part_text, sites_text, value_text}

-- the first piece, and then each other one behind the byte
pub joined_from : {A : Type 0} (c : ℕ) (f : A → List ℕ) (x : A) (xs : List A) → join_with_byte c (map f (x ∷ xs)) ≡ f x ++ flat_map (λ y. c ∷ f y) xs
joined_from c f x [] = sym (append-nil (f x))
joined_from c f x (y ∷ ys) = ap (λ t. f x ++ (c ∷ t)) (joined_from c f y ys)

-- the last of a list is the first of the list turned round
pub turned : {A : Type 0} (xs : List A) (x : A) → reverse (xs ++ x ∷ []) ≡ x ∷ reverse xs
turned xs x = reverse-append xs (x ∷ [])

-- the oldest, and then each newer one behind a comma
oldest_first : (newer : List ℕ) (oldest : ℕ) → sites_text (newer ++ oldest ∷ []) ≡ join_with_byte 44 (map hex8_text (reverse (newer ++ oldest ∷ [])))
oldest_first [] oldest = refl
oldest_first (site ∷ sites) oldest = refl

pub sites_are : (sites newer : List ℕ) (oldest : ℕ) → sites ≡ newer ++ oldest ∷ [] → sites_text sites ≡ hex8_text oldest ++ flat_map (λ site. 44 ∷ hex8_text site) (reverse newer)
sites_are sites newer oldest parts =
    ap sites_text parts ∙ oldest_first newer oldest ∙ ap (λ xs. join_with_byte 44 (map hex8_text xs)) (turned newer oldest) ∙ joined_from 44 hex8_text oldest (reverse newer)

-- the text grows by the sites in two steps
pub sites_pushed : (old mid new sites newer : List ℕ) (oldest : ℕ) → sites ≡ newer ++ oldest ∷ [] → mid ≡ old ++ hex8_text oldest → new ≡ mid ++ flat_map (λ site. 44 ∷ hex8_text site) (reverse newer) → new ≡ old ++ sites_text sites
sites_pushed old mid new sites newer oldest parts first more =
    more ∙ ap (λ t. t ++ flat_map (λ site. 44 ∷ hex8_text site) (reverse newer)) first
    ∙ append_assoc old (hex8_text oldest) (flat_map (λ site. 44 ∷ hex8_text site) (reverse newer)) ∙ ap (λ t. old ++ t) (sym (sites_are sites newer oldest parts))

-- and by parts
pub parts_pushed : (old mid new : List ℕ) (parts others : List Part) (first : Part) → parts ≡ first ∷ others → mid ≡ old ++ part_text first → new ≡ mid ++ flat_map (λ p. 32 ∷ part_text p) others → new ≡ old ++ value_text (Parts parts)
parts_pushed old mid new parts others first are one more =
    more ∙ ap (λ t. t ++ flat_map (λ p. 32 ∷ part_text p) others) one ∙ append_assoc old (part_text first) (flat_map (λ p. 32 ∷ part_text p) others)
    ∙ ap (λ t. old ++ t) (sym (joined_from 32 part_text first others)) ∙ ap (λ ps. old ++ value_text (Parts ps)) (sym are)
