-- Things put one by one, from the last on.
use Rattle.std.proofs.Common.{◌≡◌, List, [], ◌∷◌, ◌++◌, Option, refl, sym, ◌∙◌, ap, ℕ, length, arith}
use Rattle.image_map.specs.declared.region.RegionId.{RegionId}
use Rattle.abs_semantics.specs.declared.parts.Known.{Known}
use Rattle.abs_semantics.specs.declared.parts.Link.{Link}
use Rattle.abs_semantics.specs.Joins.{with_number, numbers_of, with_link, links_of, with_known, known_anew, with_size, sizes_of}
use Rattle.abs_state.specs.Puts.{folded, known_by}

module _ {A B : Type 0} (op : A → List B → List B) where
  pub folded_last : (xs : List A) (x : A) (into : List B) → folded op (xs ++ x ∷ []) into ≡ folded op xs (op x into)
  unfolding folded
  folded_last [] x into = refl
  folded_last (y ∷ ys) x into = ap (op y) (folded_last ys x into)

  pub fold_step : (rest before : List A) (x : A) (out next : List B) (whole : List B) → rest ≡ before ++ x ∷ [] → next ≡ op x out → folded op rest out ≡ whole → folded op before next ≡ whole
  fold_step rest before x out next whole is put h =
      ap (folded op before) put ∙ sym (folded_last before x out) ∙ ap (λ t. folded op t out) (sym is) ∙ h

  pub fold_end : (rest : List A) (out whole : List B) → length rest ≡ 0 → folded op rest out ≡ whole → out ≡ whole
  unfolding folded
  fold_end [] out whole none h = h
  fold_end (x ∷ xs) out whole none h = absurd (omega arith)

  pub folded_both : (xs ys : List A) (into : List B) → folded op (xs ++ ys) into ≡ folded op xs (folded op ys into)
  unfolding folded
  folded_both [] ys into = refl
  folded_both (x ∷ xs) ys into = ap (op x) (folded_both xs ys into)

pub numbers_are : (xs into : List ℕ) → folded with_number xs into ≡ numbers_of xs into
unfolding folded numbers_of
numbers_are [] into = refl
numbers_are (x ∷ xs) into = ap (with_number x) (numbers_are xs into)

pub links_are : (xs into : List Link) → folded with_link xs into ≡ links_of xs into
unfolding folded links_of
links_are [] into = refl
links_are (x ∷ xs) into = ap (with_link x) (links_are xs into)

pub sizes_are : (xs into : List Known) → folded with_size xs into ≡ sizes_of xs into
unfolding folded sizes_of
sizes_are [] into = refl
sizes_are (x ∷ xs) into = ap (with_size x) (sizes_are xs into)

pub aligns_are : (f : RegionId → Option ℕ) (xs : List Known) → folded (known_by f) xs [] ≡ known_anew f xs
unfolding folded known_anew
aligns_are f [] = refl
aligns_are f (x ∷ xs) = ap (with_known x.region (f x.region)) (aligns_are f xs)
