-- Lists that are pushed one after the other.
use Rattle.std.proofs.Common.{◌≡◌, ◌≤◌, ◌<◌, ℕ, ◌+◌, List, [], ◌∷◌, ◌++◌, length, drop, get_or, map, sym, ◌∙◌, ap, append_assoc, append-nil}
use Rattle.std.proofs.lemmas.List.{drop_more, drop_all}
use Rattle.image_map.specs.declared.image.Image.{Image}
use Rattle.alocs.specs.declared.cells.CutList.{CutList}
use Rattle.access_facts.specs.Kept.{frame_list, global_list, heap_list, lists_of}

-- an element that is read in place
pub read_step : {A B : Type 0} (g : A → B) (xs : List A) (i : ℕ) (d : A) (out next whole : List B) → i < length xs → next ≡ out ++ g (get_or xs i d) ∷ [] → out ++ map g (drop i xs) ≡ whole → next ++ map g (drop (i + 1) xs) ≡ whole
read_step {A} {B} g xs i d out next whole lt put e =
    let rest : List B = map g (drop (i + 1) xs) in
    ap (λ t. t ++ rest) put ∙ append_assoc out (g (get_or xs i d) ∷ []) rest ∙ sym (ap (λ ys. out ++ map g ys) (drop_more xs i d lt)) ∙ e

pub number_step : {A : Type 0} (g : ℕ → A) (xs : List ℕ) (i : ℕ) (out next whole : List A) → i < length xs → next ≡ out ++ g (get_or xs i 0) ∷ [] → out ++ map g (drop i xs) ≡ whole → next ++ map g (drop (i + 1) xs) ≡ whole
number_step g xs i = read_step g xs i 0

pub number_end : {A : Type 0} (g : ℕ → A) (xs : List ℕ) (i : ℕ) (out whole : List A) → length xs ≤ i → out ++ map g (drop i xs) ≡ whole → out ≡ whole
number_end g xs i out whole le e = sym (append-nil out) ∙ sym (ap (λ ys. out ++ map g ys) (drop_all i xs le)) ∙ e

pub list_step : {A : Type 0} (xs : List A) (i : ℕ) (x : A) (out next whole : List A) → i < length xs → x ≡ get_or xs i x → next ≡ out ++ x ∷ [] → out ++ drop i xs ≡ whole → next ++ drop (i + 1) xs ≡ whole
list_step {A} xs i x out next whole lt is put e =
    let rest : List A = drop (i + 1) xs in
    ap (λ t. t ++ rest) (put ∙ ap (λ y. out ++ y ∷ []) is) ∙ append_assoc out (get_or xs i x ∷ []) rest ∙ sym (ap (λ ys. out ++ ys) (drop_more xs i x lt)) ∙ e

pub list_end : {A : Type 0} (xs : List A) (i : ℕ) (out whole : List A) → length xs ≤ i → out ++ drop i xs ≡ whole → out ≡ whole
list_end xs i out whole le e = sym (append-nil out) ∙ sym (ap (λ ys. out ++ ys) (drop_all i xs le)) ∙ e

pub lists_are : (image : Image) (ps ks : List ℕ) (more a b c d e : List CutList) → a ≡ [] → b ≡ a ++ global_list image ∷ [] → c ≡ b ++ map frame_list ps → d ≡ c ++ map heap_list ks → e ≡ d ++ more → e ≡ lists_of image ps ks more
lists_are image ps ks more a b c d e none first second third last =
    last ∙ ap (λ t. t ++ more) (third ∙ ap (λ t. t ++ map heap_list ks) (second ∙ ap (λ t. t ++ map frame_list ps) (first ∙ ap (λ t. t ++ global_list image ∷ []) none)))
