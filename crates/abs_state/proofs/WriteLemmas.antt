-- Cells that a write puts, and cells made anew.
use Rattle.std.proofs.Common.{◌≡◌, ℕ, ◌+◌, ◌<◌, ◌≤◌, Bool, true, false, cond, ◌&&◌, List, [], ◌∷◌, ◌++◌, length, drop, get_or, append_assoc, append-nil, refl, sym, ◌∙◌, ap, ⊎_elim}
use Rattle.std.specs.Prelude.{map}
use Rattle.std.proofs.lemmas.Bool.{cases_Bool, cond-true, cond-false}
use Rattle.std.proofs.lemmas.List.{drop_all}
use Rattle.image_map.specs.declared.region.Cell.{Cell}
use Rattle.vset.specs.Values.{Values, Top}
use Rattle.abs_semantics.specs.declared.parts.CellValue.{CellValue}
use Rattle.image_map.specs.declared.image.Image.{Image}
use Rattle.abs_semantics.specs.States.{AbsState as State, value_at, with_value, rebuilt}
use Rattle.abs_semantics.specs.Accesses.{without_value, may_change, changed_value}
use Rattle.cell_map.proofs.RebuiltLemmas.{is_among}
use Rattle.cell_map.proofs.RebuiltLaws.{absent_top, put_rebuilt, skip_rebuilt}
use Rattle.cell_map.proofs.ListLemmas.{more}
use Rattle.abs_state.specs.Puts.{folded}
use Rattle.abs_state.specs.Writes.{news_of, put_value}

module _ (f : Cell → Values) (test : Cell → Bool) (given : Cell → Values) (xs : List CellValue) (told : (c : Cell) → test c ≡ true → f c ≡ given c) (silent : (c : Cell) → test c ≡ false → is_among c xs ≡ false → f c ≡ Top) where
  pub news_put : (cs : List Cell) → folded put_value (news_of test given cs) (rebuilt f xs) ≡ rebuilt f (xs ++ map without_value cs)
  unfolding folded news_of
  news_put [] = ap (rebuilt f) (sym (append-nil xs))
  news_put (c ∷ cs) =
      ⊎_elim
      (λ yes'. ap (λ es. folded put_value es (rebuilt f xs)) (cond-true (test c) (record { cell = c; value = given c } ∷ news_of test given cs) (news_of test given cs) yes')
      ∙ ap (λ v. with_value c v (folded put_value (news_of test given cs) (rebuilt f xs))) (sym (told c yes'))
      ∙ ap (with_value c (f c)) (news_put cs) ∙ put_rebuilt f (without_value c) xs (map without_value cs))
      (λ no'. ap (λ es. folded put_value es (rebuilt f xs)) (cond-false (test c) (record { cell = c; value = given c } ∷ news_of test given cs) (news_of test given cs) no')
      ∙ news_put cs ∙ skip_rebuilt f (without_value c) xs (map without_value cs) (silent c no'))
      (cases_Bool (test c))

-- -- What is put, cell by cell

module _ (test : Cell → Bool) (given : Cell → Values) (cs : List Cell) (i : ℕ) (c : Cell) where
  news_here : i < length cs → c ≡ get_or cs i c → news_of test given (drop i cs) ≡ cond (test c) (record { cell = c; value = given c } ∷ news_of test given (drop (i + 1) cs)) (news_of test given (drop (i + 1) cs))
  unfolding news_of
  news_here lt here = ap (news_of test given) (more cs i c lt here)

  pub news_more : (out next whole : List CellValue) (v : Values) → i < length cs → c ≡ get_or cs i c → test c ≡ true → v ≡ given c → next ≡ out ++ record { cell = c; value = v } ∷ [] → out ++ news_of test given (drop i cs) ≡ whole
      → next ++ news_of test given (drop (i + 1) cs) ≡ whole
  news_more out next whole v lt here yes' is put h =
      ap (λ t. t ++ news_of test given (drop (i + 1) cs)) put
      ∙ append_assoc out (record { cell = c; value = v } ∷ []) (news_of test given (drop (i + 1) cs))
      ∙ ap (λ (w : Values). out ++ (record { cell = c; value = w } ∷ news_of test given (drop (i + 1) cs))) is
      ∙ ap (λ t. out ++ t) (sym (news_here lt here ∙ cond-true (test c) (record { cell = c; value = given c } ∷ news_of test given (drop (i + 1) cs)) (news_of test given (drop (i + 1) cs)) yes'))
      ∙ h

  pub news_less : (out whole : List CellValue) → i < length cs → c ≡ get_or cs i c → test c ≡ false → out ++ news_of test given (drop i cs) ≡ whole → out ++ news_of test given (drop (i + 1) cs) ≡ whole
  news_less out whole lt here no' h =
      ap (λ t. out ++ t) (sym (news_here lt here ∙ cond-false (test c) (record { cell = c; value = given c } ∷ news_of test given (drop (i + 1) cs)) (news_of test given (drop (i + 1) cs)) no')) ∙ h

pub news_end : (test : Cell → Bool) (given : Cell → Values) (cs : List Cell) (i : ℕ) (out whole : List CellValue) → length cs ≤ i → out ++ news_of test given (drop i cs) ≡ whole → out ≡ whole
unfolding news_of
news_end test given cs i out whole le h = sym (append-nil out) ∙ ap (λ t. out ++ news_of test given t) (sym (drop_all i cs le)) ∙ h

-- -- A state after a write

module _ (image : Image) (a : State) (touched : Cell → Bool) (given : Cell → Values) where
  told_cell : (c : Cell) → (touched c && may_change image c) ≡ true → changed_value image a touched given c ≡ given c
  told_cell c yes' = cond-true (touched c && may_change image c) (given c) (value_at a c) yes'

  silent_cell : (c : Cell) → (touched c && may_change image c) ≡ false → is_among c a.cells ≡ false → changed_value image a touched given c ≡ Top
  silent_cell c no' out = cond-false (touched c && may_change image c) (given c) (value_at a c) no' ∙ absent_top c a.cells out

  pub overwritten_cells : (cs : List Cell) (news first last : List CellValue) → news ≡ news_of (λ c. touched c && may_change image c) given cs → first ≡ rebuilt (changed_value image a touched given) a.cells
      → last ≡ folded put_value news first → last ≡ rebuilt (changed_value image a touched given) (a.cells ++ map without_value cs)
  overwritten_cells cs news first last new changed put =
      put ∙ (λ i. folded put_value (new i) (changed i))
      ∙ news_put (changed_value image a touched given) (λ c. touched c && may_change image c) given a.cells told_cell silent_cell cs
