-- Steps of loops over lists.
use Rattle.std.proofs.Common.{◌≡◌, ℕ, ◌+◌, ◌<◌, ◌≤◌, Bool, true, false, List, ◌∷◌, ◌++◌, Option, Some, None, length, drop, get_or, sym, ◌∙◌, ap}
use Rattle.std.proofs.Common.{append_assoc, append-nil}
use Rattle.std.proofs.lemmas.List.{drop_more, drop_all}
use Rattle.std.proofs.lemmas.Bool.{cond-true, cond-false}
use Rattle.image_map.specs.declared.region.RegionId.{RegionId}
use Rattle.image_map.specs.Regions.{same_region}
use Rattle.abs_semantics.specs.declared.parts.Known.{Known}
use Rattle.vset.specs.declared.part.Both.{Both}
use Rattle.abs_semantics.specs.declared.parts.CellValue.{CellValue}
use Rattle.abs_semantics.specs.States.{known_of}
use Rattle.cell_map.specs.declared.regions.Side.{Side}
use Rattle.cell_map.specs.Merges.{Regions, entry, value_alone, is_wanted, alone}

-- -- Known numbers

module _ (r : RegionId) (ks : List Known) (i : ℕ) (d : Known) (whole : Option ℕ) where
  pub known_here : i < length ks → same_region (get_or ks i d).region r ≡ true → known_of r (drop i ks) ≡ whole → Some (get_or ks i d).number ≡ whole
  known_here lt same e = sym (cond-true (same_region (get_or ks i d).region r) (Some (get_or ks i d).number) (known_of r (drop (i + 1) ks)) same) ∙ ap (known_of r) (sym (drop_more ks i d lt)) ∙ e

  pub known_later : i < length ks → same_region (get_or ks i d).region r ≡ false → known_of r (drop i ks) ≡ whole → known_of r (drop (i + 1) ks) ≡ whole
  known_later lt other e = sym (cond-false (same_region (get_or ks i d).region r) (Some (get_or ks i d).number) (known_of r (drop (i + 1) ks)) other) ∙ ap (known_of r) (sym (drop_more ks i d lt)) ∙ e

pub known_nowhere : (r : RegionId) (ks : List Known) (i : ℕ) (whole : Option ℕ) → length ks ≤ i → known_of r (drop i ks) ≡ whole → None ≡ whole
known_nowhere r ks i whole le e = ap (known_of r) (sym (drop_all i ks le)) ∙ e

-- -- Cells of one list alone

pub more : {A : Type 0} (xs : List A) (i : ℕ) (x : A) → i < length xs → x ≡ get_or xs i x → drop i xs ≡ x ∷ drop (i + 1) xs
more xs i x lt is = drop_more xs i x lt ∙ ap (λ y. y ∷ drop (i + 1) xs) (sym is)

module _ (both : Both) (a b : Regions) (side : Side) (es : List CellValue) (i : ℕ) (e : CellValue) (whole : List CellValue) where
  pub alone_more : (out next : List CellValue) (wanted : Bool) → i < length es → e ≡ get_or es i e → wanted ≡ is_wanted both a b side e → next ≡ out ++ entry e.cell (value_alone wanted e.value)
      → out ++ alone both a b side (drop i es) ≡ whole → next ++ alone both a b side (drop (i + 1) es) ≡ whole
  unfolding alone
  alone_more out next wanted lt here is put h =
      ap (λ t. t ++ alone both a b side (drop (i + 1) es)) put
      ∙ ap (λ (t : Bool). (out ++ entry e.cell (value_alone t e.value)) ++ alone both a b side (drop (i + 1) es)) is
      ∙ append_assoc out (entry e.cell (value_alone (is_wanted both a b side e) e.value)) (alone both a b side (drop (i + 1) es))
      ∙ ap (λ t. out ++ alone both a b side t) (sym (more es i e lt here))
      ∙ h

pub alone_end : (both : Both) (a b : Regions) (side : Side) (es : List CellValue) (i : ℕ) (out whole : List CellValue) → length es ≤ i → out ++ alone both a b side (drop i es) ≡ whole → out ≡ whole
unfolding alone
alone_end both a b side es i out whole le e = sym (append-nil out) ∙ ap (λ t. out ++ alone both a b side t) (sym (drop_all i es le)) ∙ e
