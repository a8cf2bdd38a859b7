-- A file's run with the choices of a seed is one.
use Rattle.std.proofs.Common.{◌≡◌, ℕ, ◌+◌, ◌*◌, List, length, map, sym, ap, ◌∙◌, subst}
use Rattle.std.specs.Prelude.{Bool, Option, None, Some, slice_get}
use Rattle.image_map.specs.declared.image.Image.{Image}
use Rattle.image_map.specs.declared.image.Extern.{Extern}
use Rattle.image_map.specs.declared.region.Settings.{Settings}
use Rattle.elf32.specs.Loading.{Loads}
use Rattle.ia32_run.specs.declared.log.Occurrence.{Occurrence}
use Rattle.ia32_run.specs.declared.log.RunLog.{RunLog}
use Rattle.ia32_run.specs.Traces.{IsTrace}
use Rattle.ia32_run.proofs.OneTraceLemmas.{ShowSame, one_trace}
use Rattle.surf_prog.specs.declared.words.RunOptions.{RunOptions}
use Rattle.dynamic_slices.specs.Slices.{IsDynamicSlice, places_told, IsToldToDepend}
use Rattle.dynamic_slices.proofs.SliceLaws.{one_slice, one_last}
use Rattle.surf_prog.specs.Settings.{kind_of, settings_of}
use Rattle.surf_prog.specs.Tracing.{seed_words, dynamic_text, trace_text, IsTraced, TellsSlice, TellsDynamic, IsTracing, NeverComes, Comes}
use Rattle.surf_prog.proofs.FileImage.{loaded_image, same_run, same_bytes, same_there, same_flag, same_externs}

show_same : (file : List ℕ) (i j : Image) → Loads file i → Loads file j → ShowSame i j
show_same file i j p q = record {
  code = λ a n. same_run file i j p q a n;
  bytes = λ a. same_bytes file i j p q a;
  segments = λ a. same_there file i j p q a;
  writable = λ a. same_flag file i j 2 p q a;
  externs = ap (λ (es : List Extern). length es) (same_externs file i j p q);
}

-- it has one log, by whatever image of the file
pub one_log : (file : List ℕ) (options : RunOptions) (i j : Image) (a : ℕ) (log other : RunLog) → Loads file i → Loads file j → IsTraced i a options log → IsTraced j a options other → log ≡ other
one_log file options i j a log other p q traced also =
    let settings : settings_of j a 1 options.externs ≡ settings_of i a 1 options.externs
    = ap (λ (es : List Extern). record (settings_of j a 1 options.externs) { kinds = map (kind_of options.externs) es }) (same_externs file j i q p) in
    one_trace i j (settings_of i a 1 options.externs) (seed_words (8 * (options.steps + 2)) options.seed) options.steps log other
    (loaded_image file i p) (show_same file i j p q) traced
    (subst (λ (s : Settings). IsTrace j s (seed_words (8 * (options.steps + 2)) options.seed) options.steps other) settings also)

-- what is told of a log is one text
one_between : (skip_sp : Bool) (steps : List Occurrence) (at : Option ℕ) (text other : List ℕ) → TellsDynamic skip_sp steps at text → TellsDynamic skip_sp steps at other → text ≡ other
one_between skip_sp steps None text other p q = p ∙ sym q
one_between skip_sp steps (Some at) text other p q =
    let last : p.last ≡ q.last = one_last (places_told steps) at p.last q.last p.is_last q.is_last in
    let slice = subst (λ n. IsDynamicSlice (IsToldToDepend skip_sp steps) (places_told steps) n p.addresses) last p.slice in
    let addresses : p.addresses ≡ q.addresses = one_slice (IsToldToDepend skip_sp steps) (places_told steps) q.last p.addresses q.addresses slice q.slice in
    p.text_is ∙ ap (λ n. dynamic_text at n p.addresses) last ∙ ap (dynamic_text at q.last) addresses ∙ sym q.text_is

pub one_tracing : (file : List ℕ) (options : RunOptions) (i j : Image) (a : ℕ) (one other : List ℕ) → Loads file i → Loads file j → IsTracing i a options one → IsTracing j a options other → one ≡ other
one_tracing file options i j a one other l m p q =
    let log : p.log ≡ q.log = one_log file options i j a p.log q.log l m p.traced q.traced in
    let dynamic = subst (λ (l : RunLog). TellsDynamic options.skip_sp l.steps options.at p.between) log p.dynamic in
    let between : p.between ≡ q.between = one_between options.skip_sp q.log.steps options.at p.between q.between dynamic q.dynamic in
    p.text_is ∙ ap (λ (l : RunLog). trace_text options.skip_sp a l p.between) log ∙ ap (trace_text options.skip_sp a q.log) between ∙ sym q.text_is

-- -- Whether the run comes to an address

-- where a trace is told, it does
pub trace_comes : (image : Image) (place : ℕ) (options : RunOptions) (text : List ℕ) → IsTracing image place options text → Comes image place options
trace_comes image place options text told at named =
    let slice : TellsSlice options.skip_sp told.log.steps at told.between = subst (λ o. TellsDynamic options.skip_sp told.log.steps o told.between) named told.dynamic in
    record { log = told.log; traced = told.traced; last = slice.last; is_last = slice.is_last }

-- and then it isn't so that it never comes there
pub run_comes : (file : List ℕ) (options : RunOptions) (image : Image) (a at : ℕ) → Loads file image → Comes image a options → ¬ NeverComes image a options at
run_comes file options image a at loads comes never =
    let there = comes at never.named in
    let log : there.log ≡ never.log = one_log file options image image a there.log never.log loads loads there.traced never.traced in
    never.never there.last (ap (λ (l : RunLog). slice_get (places_told l.steps) there.last) (sym log) ∙ there.is_last.stands)
