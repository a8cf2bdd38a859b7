-- Steps of the loops that put parts among others.
use Rattle.std.proofs.Common.{◌≡◌, ℕ, ◌+◌, ◌<◌, ◌≤◌, Bool, true, false, not, ◌&&◌, ◌||◌, cond, List, [], ◌∷◌, map, length, drop, get_or, refl, sym, ◌∙◌, ap}
use Rattle.std.specs.Prelude.{◌==◌}
use Rattle.std.specs.List.{filter, flat_map, list_any}
use Rattle.std.proofs.lemmas.List.{drop_more, drop_all}
use Rattle.std.proofs.lemmas.Bool.{true≢false}
use Rattle.image_map.specs.declared.region.RegionId.TheVariants.{Frame, OldFrame}
use Rattle.image_map.specs.Regions.{same_region}
use Rattle.strided.specs.Operations as interval
use Rattle.vset.specs.declared.part.Part.{Part}
use Rattle.vset.specs.Operations.{part}
use Rattle.abs_semantics.specs.declared.parts.Link.{Link}
use Rattle.abs_semantics.specs.States.{AbsState, has_procedure}
use Rattle.abs_semantics.specs.Resolve as meaning
use Rattle.abs_semantics.specs.Resolve.{is_empty, links_of_region, met_after, next_of, put_part, rising_onto, through, verdict}
use Rattle.abs_resolve.specs.Search.{Noted, noted, all_noted}
use Rattle.abs_resolve.proofs.PartLemmas.{rising_append}

pub no_links : (f : Link → Bool) (ls : List Link) → is_empty (filter f ls) ≡ not (list_any f ls)
no_links f [] = refl
no_links f (l ∷ ls) = by_test (no_links f ls) (f l)
  where
    by_test : is_empty (filter f ls) ≡ not (list_any f ls) → (t : Bool) → is_empty (cond t (l ∷ filter f ls) (filter f ls)) ≡ not (t || list_any f ls)
    by_test rest true = refl
    by_test rest false = rest

-- -- Lists that are gone through

pub risen_item : (xs : List Part) (i : ℕ) (x : Part) (out next whole : List Part) → i < length xs → x ≡ get_or xs i x → next ≡ put_part x out → rising_onto out (drop i xs) ≡ whole → rising_onto next (drop (i + 1) xs) ≡ whole
unfolding rising_onto
risen_item xs i x out next whole lt is put e =
    ap (λ t. rising_onto t (drop (i + 1) xs)) (put ∙ ap (λ y. put_part y out) is) ∙ sym (ap (rising_onto out) (drop_more xs i x lt)) ∙ e

pub risen_all : (xs : List Part) (i : ℕ) (out whole : List Part) → length xs ≤ i → rising_onto out (drop i xs) ≡ whole → out ≡ whole
unfolding rising_onto
risen_all xs i out whole le e = sym (ap (rising_onto out) (drop_all i xs le)) ∙ e

pub link_taken : (f : Link → List Part) (g : Link → Bool) (ls : List Link) (i : ℕ) (l : Link) (out next whole : List Part) → i < length ls → l ≡ get_or ls i l → g l ≡ true → next ≡ rising_onto out (f l)
    → rising_onto out (flat_map f (filter g (drop i ls))) ≡ whole → rising_onto next (flat_map f (filter g (drop (i + 1) ls))) ≡ whole
link_taken f g ls i l out next whole lt is taken put e =
    let rest : List Link = filter g (drop (i + 1) ls) in
    let dropped : filter g (drop i ls) ≡ l ∷ rest = ap (filter g) (drop_more ls i l lt) ∙ ap (λ k. filter g (k ∷ drop (i + 1) ls)) (sym is) ∙ ap (λ t. cond t (l ∷ rest) rest) taken in
    ap (λ t. rising_onto t (flat_map f rest)) put ∙ sym (rising_append out (f l) (flat_map f rest)) ∙ sym (ap (λ ks. rising_onto out (flat_map f ks)) dropped) ∙ e

pub link_passed : (f : Link → List Part) (g : Link → Bool) (ls : List Link) (i : ℕ) (l : Link) (out whole : List Part) → i < length ls → l ≡ get_or ls i l → g l ≡ false
    → rising_onto out (flat_map f (filter g (drop i ls))) ≡ whole → rising_onto out (flat_map f (filter g (drop (i + 1) ls))) ≡ whole
link_passed f g ls i l out whole lt is passed e =
    let rest : List Link = filter g (drop (i + 1) ls) in
    let dropped : filter g (drop i ls) ≡ rest = ap (filter g) (drop_more ls i l lt) ∙ ap (λ k. filter g (k ∷ drop (i + 1) ls)) (sym is) ∙ ap (λ t. cond t (l ∷ rest) rest) passed in
    sym (ap (λ ks. rising_onto out (flat_map f ks)) dropped) ∙ e

pub links_all : (f : Link → List Part) (g : Link → Bool) (ls : List Link) (i : ℕ) (out whole : List Part) → length ls ≤ i → rising_onto out (flat_map f (filter g (drop i ls))) ≡ whole → out ≡ whole
unfolding rising_onto
links_all f g ls i out whole le e = sym (ap (λ ks. rising_onto out (flat_map f (filter g ks))) (drop_all i ls le)) ∙ e

pub level_item : (f : Part → List Part) (xs : List Part) (i : ℕ) (x : Part) (out next whole : List Part) → i < length xs → x ≡ get_or xs i x → next ≡ rising_onto out (f x)
    → rising_onto out (flat_map f (drop i xs)) ≡ whole → rising_onto next (flat_map f (drop (i + 1) xs)) ≡ whole
level_item f xs i x out next whole lt is put e =
    let rest : List Part = flat_map f (drop (i + 1) xs) in
    ap (λ t. rising_onto t rest) (put ∙ ap (λ y. rising_onto out (f y)) is) ∙ sym (rising_append out (f (get_or xs i x)) rest) ∙ sym (ap (λ ys. rising_onto out (flat_map f ys)) (drop_more xs i x lt)) ∙ e

pub level_all : (f : Part → List Part) (xs : List Part) (i : ℕ) (out whole : List Part) → length xs ≤ i → rising_onto out (flat_map f (drop i xs)) ≡ whole → out ≡ whole
unfolding rising_onto
level_all f xs i out whole le e = sym (ap (λ ys. rising_onto out (flat_map f ys)) (drop_all i xs le)) ∙ e

pub noted_item : (a : AbsState) (p len k : ℕ) (xs : List Part) (i : ℕ) (x : Part) (v : meaning.Verdict) (n next whole : Noted) → i < length xs → x ≡ get_or xs i x → v ≡ verdict a p len k x → next ≡ noted v x n
    → all_noted a p len n (map (met_after k) (drop i xs)) ≡ whole → all_noted a p len next (map (met_after k) (drop (i + 1) xs)) ≡ whole
unfolding all_noted
noted_item a p len k xs i x v n next whole lt is judged put e =
    ap (λ t. all_noted a p len t (map (met_after k) (drop (i + 1) xs))) (put ∙ ap (λ t. noted t x n) judged ∙ ap (λ y. noted (verdict a p len k y) y n) is)
    ∙ sym (ap (λ ys. all_noted a p len n (map (met_after k) ys)) (drop_more xs i x lt)) ∙ e

pub noted_all : (a : AbsState) (p len k : ℕ) (xs : List Part) (i : ℕ) (n whole : Noted) → length xs ≤ i → all_noted a p len n (map (met_after k) (drop i xs)) ≡ whole → n ≡ whole
unfolding all_noted
noted_all a p len k xs i n whole le e = sym (ap (λ ys. all_noted a p len n (map (met_after k) ys)) (drop_all i xs le)) ∙ e

-- -- Nothing to follow

pub no_region_links : (a : AbsState) (p : ℕ) (x : Part) (acc : List Part) → links_of_region a x.region ≡ [] → acc ≡ rising_onto acc (flat_map (through a p x) (links_of_region a x.region))
unfolding rising_onto
no_region_links a p x acc e = sym (ap (λ ls. rising_onto acc (flat_map (through a p x) ls)) e)

pub not_followed : (a : AbsState) (p len k : ℕ) (x : Part) (acc : List Part) → next_of a p len k x ≡ [] → acc ≡ rising_onto acc (next_of a p len k x)
unfolding rising_onto
not_followed a p len k x acc e = sym (ap (rising_onto acc) e)

-- -- What a link makes of a part

pub through_self : (a : AbsState) (p : ℕ) (x : Part) (l : Link) (acc : List Part) → (l.parent == l.child) ≡ true → rising_onto acc (through a p x l) ≡ put_part (part (OldFrame l.parent) (interval.add x.si l.off)) acc
unfolding rising_onto
through_self a p x l acc is = rw (is) refl

pub through_both : (a : AbsState) (p : ℕ) (x : Part) (l : Link) (acc : List Part) → (l.parent == l.child) ≡ false → (not (same_region x.region (Frame p)) && has_procedure l.parent a.older) ≡ true
    → rising_onto acc (through a p x l) ≡ put_part (part (OldFrame l.parent) (interval.add x.si l.off)) (put_part (part (Frame l.parent) (interval.add x.si l.off)) acc)
unfolding rising_onto
through_both a p x l acc isnt both = rw (isnt) (by_tests (same_region x.region (Frame p)) (has_procedure l.parent a.older) both)
  where
    moved : Part
    moved = part (Frame l.parent) (interval.add x.si l.off)

    by_tests : (s t : Bool) → (not s && t) ≡ true → rising_onto acc (map (λ r. part r (interval.add x.si l.off)) (cond s (Frame l.parent ∷ []) (cond t (Frame l.parent ∷ OldFrame l.parent ∷ []) (Frame l.parent ∷ [])))) ≡ put_part (part (OldFrame l.parent) (interval.add x.si l.off)) (put_part moved acc)
    by_tests true t is = absurd (true≢false (sym is))
    by_tests false true is = refl
    by_tests false false is = absurd (true≢false (sym is))

pub through_one : (a : AbsState) (p : ℕ) (x : Part) (l : Link) (acc : List Part) → (l.parent == l.child) ≡ false → (not (same_region x.region (Frame p)) && has_procedure l.parent a.older) ≡ false
    → rising_onto acc (through a p x l) ≡ put_part (part (Frame l.parent) (interval.add x.si l.off)) acc
unfolding rising_onto
through_one a p x l acc isnt one = rw (isnt) (by_tests (same_region x.region (Frame p)) (has_procedure l.parent a.older) one)
  where
    by_tests : (s t : Bool) → (not s && t) ≡ false → rising_onto acc (map (λ r. part r (interval.add x.si l.off)) (cond s (Frame l.parent ∷ []) (cond t (Frame l.parent ∷ OldFrame l.parent ∷ []) (Frame l.parent ∷ [])))) ≡ put_part (part (Frame l.parent) (interval.add x.si l.off)) acc
    by_tests true t is = refl
    by_tests false true is = absurd (true≢false is)
    by_tests false false is = refl
