-- An extern answers at its address, where there is no code.
use Rattle.std.proofs.Common.{◌≡◌, ◌↔◌, ℕ, zero, suc, ◌≤◌, List, [], length, take, refl, sym, ap, ◌∙◌, subst, arith}
use Rattle.std.specs.Prelude.{if◌then◌else◌, Option, Some, None, slice_get}
use Rattle.std.proofs.lemmas.Option.{none-some, same_Some}
use Rattle.image_map.specs.declared.image.Image.{Image}
use Rattle.image_map.specs.declared.region.Kind.{Kind}
use Rattle.image_map.specs.declared.region.Settings.{Settings}
use Rattle.image_map.specs.Memory.{has_flag, segment_at}
use Rattle.image_map.specs.Names.{extern_number}
use Rattle.image_map.specs.Queries.{byte_at, is_code}
use Rattle.image_map.specs.Whole.{IsImage}
use Rattle.ia32_types.specs.declared.Instr.{Instr}
use Rattle.ia32_types.specs.Spells.{Spells}
use Rattle.ia32_types.proofs.SpellsLemmas.{not_empty}
use Rattle.ia32_fetch.proofs.FetchLaws.{run_ended}
use Rattle.ia32_memory.proofs.StartLaws.{segment_low}
use Rattle.ia32_semantics.specs.Fetch.{code_byte, fetch_window, IsFetched}
use Rattle.ia32_semantics.specs.Step.{Act, Executes, Answers, IsActAt}
use Rattle.ia32_semantics.proofs.EffectLemmas.{by_test}
use Rattle.item_list.proofs.OptionLaws.{some_passes}

no_code : (image : Image) (a : ℕ) → IsImage image → 0x7FFFFFFF ≤ a → code_byte image a ≡ None
no_code image a whole high =
    by_test (is_code image a)
    (λ there. absurd (let low = segment_low image a whole (some_passes (segment_at image.segments a) (has_flag 1) there) in omega arith))
    (λ none. ap (λ b. if b then byte_at image a else None) none)

taken_none : (n : ℕ) → ◌≡◌ {A = List ℕ} (take n []) []
taken_none zero = refl
taken_none (suc n) = refl

pub not_fetched : (image : Image) (a : ℕ) (i : Instr) {P : Type 0} → IsImage image → 0x7FFFFFFF ≤ a → IsFetched image a i → P
not_fetched image a i whole high f =
    let empty : fetch_window image a ≡ [] = run_ended image a 15 (no_code image a whole high) in
    absurd (not_empty a i (subst (λ bytes. Spells bytes a i) (ap (take f.count) empty ∙ taken_none f.count) f.spelled))

abbrev Means : Image → Settings → ℕ → Option Act → Type 0
Means image settings at o = (act : Act) → (o ≡ Some act) ↔ IsActAt image settings at act

pub extern_act : (image : Image) (settings : Settings) (at n : ℕ) (k : Kind) → IsImage image → 0x7FFFFFFF ≤ at → extern_number (length image.externs) at ≡ Some n → slice_get settings.kinds n ≡ Some k
    → Means image settings at (Some (Answers at k))
extern_act image settings at n k whole high stands kind act = (
  λ same. subst (IsActAt image settings at) (same_Some (Answers at k) act same) (refl, record { number = n; stands = stands; kind = kind }),
  back act,
)
  where
    same_kind : (m : ℕ) (q : Kind) → extern_number (length image.externs) at ≡ Some m → slice_get settings.kinds m ≡ Some q → k ≡ q
    same_kind m q stands_too kind_too = same_Some k q (sym kind ∙ ap (slice_get settings.kinds) (same_Some n m (sym stands ∙ stands_too)) ∙ kind_too)

    back : (act : Act) → IsActAt image settings at act → Some (Answers at k) ≡ Some act
    back (Executes i) f = not_fetched image at i whole high f
    back (Answers a q) e = ap (λ x. Some (Answers x k)) (sym e.0) ∙ ap (λ x. Some (Answers a x)) (same_kind e.1.number q e.1.stands e.1.kind)

pub kind_missing : (image : Image) (settings : Settings) (at n : ℕ) → IsImage image → 0x7FFFFFFF ≤ at → extern_number (length image.externs) at ≡ Some n → slice_get settings.kinds n ≡ None
    → Means image settings at None
kind_missing image settings at n whole high stands kind act = (λ same. absurd (none-some act same), back act)
  where
    back : (act : Act) → IsActAt image settings at act → None ≡ Some act
    back (Executes i) f = not_fetched image at i whole high f
    back (Answers a q) e = absurd (none-some q (sym kind ∙ ap (slice_get settings.kinds) (same_Some n e.1.number (sym stands ∙ e.1.stands)) ∙ e.1.kind))

pub code_act : (image : Image) (settings : Settings) (at : ℕ) (j : Instr) → extern_number (length image.externs) at ≡ None → ((i : Instr) → (Some j ≡ Some i) ↔ IsFetched image at i)
    → Means image settings at (Some (Executes j))
code_act image settings at j none fetches act = (
  λ same. subst (IsActAt image settings at) (same_Some (Executes j) act same) ((fetches j).0 refl),
  back act,
)
  where
    back : (act : Act) → IsActAt image settings at act → Some (Executes j) ≡ Some act
    back (Executes i) f = ap (λ x. Some (Executes x)) (same_Some j i ((fetches i).1 f))
    back (Answers a q) e = absurd (none-some e.1.number (sym none ∙ e.1.stands))

pub no_act : (image : Image) (settings : Settings) (at : ℕ) → extern_number (length image.externs) at ≡ None → ((i : Instr) → (None ≡ Some i) ↔ IsFetched image at i)
    → Means image settings at None
no_act image settings at none fetches act = (λ same. absurd (none-some act same), back act)
  where
    back : (act : Act) → IsActAt image settings at act → None ≡ Some act
    back (Executes i) f = absurd (none-some i ((fetches i).1 f))
    back (Answers a q) e = absurd (none-some e.1.number (sym none ∙ e.1.stands))
