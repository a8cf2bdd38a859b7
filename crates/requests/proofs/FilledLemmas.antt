-- Pieces put behind a text.
use Rattle.std.proofs.Common.{◌≡◌, ℕ, ◌+◌, ◌*◌, ◌≤◌, List, [], ◌∷◌, ◌++◌, length, take, drop, refl, sym, ap, ◌∙◌, subst, arith, append_assoc, append-nil}
use Rattle.std.specs.List.{flat_map}
use Rattle.std.proofs.lemmas.List.{length-append, drop-drop}
use Rattle.std.proofs.lemmas.Slice.{take-put_mid, drop-put_mid}
use borrow.Rule.Slice.PartMut.{put_mid}
use Rattle.requests.specs.Filled.{Filled}
use Rattle.requests.specs.Texts.{address_line}

pub filled_none : (xs : List ℕ) → Filled xs xs 0 []
filled_none xs = record { text_is = refl; rest_is = refl; end_is = refl }

pub filled_same : (before now : List ℕ) (end : ℕ) (text other : List ℕ) → text ≡ other → Filled before now end text → Filled before now end other
filled_same before now end text other same f = subst (λ t. Filled before now end t) same f

pub filled_put : (before now piece copy : List ℕ) (at k : ℕ) (text : List ℕ) → at + length piece ≤ length now → k ≡ length piece → copy ≡ piece → Filled before now at text
    → Filled before (put_mid at k now copy) (at + length piece) (text ++ piece)
filled_put before now piece copy at k text room size same f = rw (same, size) (record {
  text_is = take-put_mid at (length piece) now piece (at + length piece) refl (omega arith) ∙ ap (λ t. t ++ piece) f.text_is;
  rest_is = drop-put_mid at (length piece) now piece (at + length piece) (omega arith) (omega arith) refl
      ∙ sym (drop-drop (length piece) at now) ∙ ap (λ r. drop (length piece) r) f.rest_is ∙ drop-drop (length piece) at before;
  end_is = ap (λ n. n + length piece) f.end_is ∙ sym (length-append text piece);
})

-- the parts of a first line, put one by one
pub first_parts : (asked digits before_round round before_lane lane end : List ℕ) → asked ≡ digits
    → ((asked ++ (before_round ++ round)) ++ (before_lane ++ lane)) ++ end ≡ (digits ++ []) ++ (before_round ++ (round ++ (before_lane ++ (lane ++ end))))
first_parts asked digits before_round round before_lane lane end same = rw (same, append-nil) (simp append_assoc refl)

-- The lines of the first addresses are put, and the lines of the rest make them those of all.
pub record Listed (old now : List ℕ) (at end : ℕ) (addresses rest : List ℕ) : Type 0 where
  pub done : List ℕ
  pub whole : done ++ rest ≡ addresses
  pub end_is : end + 9 * length rest ≡ at + 9 * length addresses
  pub filled : (before text : List ℕ) → Filled before old at text → Filled before now end (text ++ flat_map address_line done)

pub listed_none : (old : List ℕ) (at : ℕ) (addresses : List ℕ) → Listed old old at at addresses addresses
listed_none old at addresses = record {
  done = [];
  whole = refl;
  end_is = refl;
  filled = λ before text f. filled_same before old at text (text ++ []) (sym (append-nil text)) f;
}

lines_more : (done : List ℕ) (address : ℕ) → flat_map address_line (done ++ address ∷ []) ≡ flat_map address_line done ++ address_line address
lines_more [] address = append-nil (address_line address)
lines_more (first ∷ done) address = ap (λ t. address_line first ++ t) (lines_more done address) ∙ sym (append_assoc (address_line first) (flat_map address_line done) (address_line address))

pub listed_more : (old now new : List ℕ) (at end next : ℕ) (addresses rest after : List ℕ) (address : ℕ) → rest ≡ address ∷ after → next ≡ end + 9
    → ((before text : List ℕ) → Filled before now end text → Filled before new next (text ++ address_line address))
    → Listed old now at end addresses rest → Listed old new at next addresses after
listed_more old now new at end next addresses rest after address split step put l = record {
  done = l.done ++ address ∷ [];
  whole = append_assoc l.done (address ∷ []) after ∙ ap (λ r. l.done ++ r) (sym split) ∙ l.whole;
  end_is = let count : length rest ≡ length after + 1 = ap length split ∙ omega arith in omega (arith, l.end_is);
  filled = λ before text f.
      filled_same before new next _ _ (append_assoc text (flat_map address_line l.done) (address_line address) ∙ ap (λ t. text ++ t) (sym (lines_more l.done address)))
      (put before (text ++ flat_map address_line l.done) (l.filled before text f));
}

pub listed_all : (old now : List ℕ) (at end : ℕ) (addresses rest : List ℕ) → length rest ≡ 0 → Listed old now at end addresses rest
    → (before text : List ℕ) → Filled before old at text → Filled before now end (text ++ flat_map address_line addresses)
listed_all old now at end addresses [] none l before text f =
    filled_same before now end _ _ (ap (λ done. text ++ flat_map address_line done) (sym (append-nil l.done) ∙ l.whole)) (l.filled before text f)
listed_all old now at end addresses (address ∷ rest) none l before text f = absurd (omega arith)
