-- What memory holds where a run starts.
use Rattle.std.proofs.Common.{◌≡◌, ℕ, zero, suc, ◌+◌, ◌*◌, ◌^◌, ◌<◌, ◌⊎◌, inl, inr, ⊎_elim, true, cond, ◌||◌, List, [], ◌∷◌, map, Option, Some, None, refl, sym, ◌∙◌, ap, subst, arith, pos, ◌+ℤ◌}
use Rattle.std.specs.Prelude.{is_some, option_map}
use Rattle.std.specs.Int.{int_gap, cast_unsigned, w32}
use Rattle.std.proofs.lemmas.Int.{ints, int_wrap_fits}
use Rattle.std.proofs.lemmas.Bool.{cond_both, or_cases}
use Rattle.std.specs.Cmp.{signed_Decides}
use Rattle.image_map.specs.declared.image.Image.{Image}
use Rattle.image_map.specs.declared.region.Activation.{Activation}
use Rattle.image_map.specs.declared.region.Cell.{Cell}
use Rattle.image_map.specs.declared.region.RegionId.TheVariants.{Global, Frame}
use Rattle.image_map.specs.declared.region.Settings.{Settings}
use Rattle.image_map.specs.Queries.{byte_at}
use Rattle.image_map.specs.Regions.{same_region, same_cell}
use Rattle.image_map.proofs.OrderLaws.{same_region-equal, same_cell-equal}
use Rattle.ia32_semantics.specs.CallModel.{IsStart}
use Rattle.ia32_semantics.specs.State.{State, Bytes, bytes_at, little_endian, joined}
use Rattle.ia32_semantics.specs.Step.{HALT}
use Rattle.strided.specs.Concrete.{signed}
use Rattle.si_bits.proofs.SignLemmas.{word-number}
use Rattle.strided.proofs.SpacedLemmas.{gap_from}
use Rattle.vset.specs.Members.{HasValue}
use Rattle.vset.specs.Values.{Top}
use Rattle.vset.specs.World.{Thing, TheImage, ActivationAt, BlockAt, IsIn, base_of, region_of}
use Rattle.abs_alu.proofs.WordLemmas.{signed_is, number_has}
use Rattle.abs_semantics.specs.Joins.{has_length}
use Rattle.abs_semantics.specs.Operands.{word_number}
use Rattle.abs_semantics.specs.Start.{number_or_top, image_number, image_value, first_value, first_cells, initial_state}
use Rattle.abs_semantics.specs.Touching.{slot_of}
use Rattle.abs_semantics.specs.Accesses.{without_value}
use Rattle.abs_semantics.specs.StandsFor.{IsCellOf, Owns, world_of}
use Rattle.abs_semantics.specs.Laws.{StartsHaveStates}
use Rattle.abs_semantics.proofs.CellLemmas.{rebuilt_value}
use Rattle.abs_semantics.proofs.ClimbLemmas.{fits_word}
use Rattle.abs_semantics.proofs.RangeLemmas.{numbers_of, numbers_4, numbers_2, numbers_1}
use Rattle.abs_semantics.proofs.StartLemmas.{one_split, start_stands, empty_split}
use Rattle.abs_semantics.proofs.ThingLemmas.{is_image}

-- -- Bytes

first_byte : (m : Bytes) (a n : ℕ) (bytes : List ℕ) → bytes_at m a (suc n) ≡ Some bytes → (byte : ℕ) × (rest : List ℕ) × (m a ≡ Some byte) × (bytes_at m (a + 1) n ≡ Some rest) × (bytes ≡ byte ∷ rest)
unfolding bytes_at
first_byte m a n bytes e = by_parts (m a) refl (bytes_at m (a + 1) n) refl e
  where
    by_parts : (x : Option ℕ) → m a ≡ x → (y : Option (List ℕ)) → bytes_at m (a + 1) n ≡ y → joined x y ≡ Some bytes → (byte : ℕ) × (rest : List ℕ) × (m a ≡ Some byte) × (bytes_at m (a + 1) n ≡ Some rest) × (bytes ≡ byte ∷ rest)
    by_parts None x_is y y_is e = absurd (cc)
    by_parts (Some byte) x_is None y_is e = absurd (cc)
    by_parts (Some byte) x_is (Some rest) y_is e = (byte, rest, x_is, y_is, (let same : byte ∷ rest ≡ bytes = cc in sym same))

-- bytes that are read are there
pub bytes_mapped : (m : Bytes) (a n : ℕ) (bytes : List ℕ) → bytes_at m a n ≡ Some bytes → (k : ℕ) → k < n → is_some (m (a + k)) ≡ true
bytes_mapped m a zero bytes e k lt = absurd (omega arith)
bytes_mapped m a (suc n) bytes e zero lt = subst (λ x. is_some (m x) ≡ true) (let same : a ≡ a + 0 = omega arith in same) (ap is_some (first_byte m a n bytes e).2)
bytes_mapped m a (suc n) bytes e (suc k) lt =
    let f = first_byte m a n bytes e in
    subst (λ x. is_some (m x) ≡ true) (let same : a + 1 + k ≡ a + suc k = omega arith in same) (bytes_mapped m (a + 1) n f.1 f.3 k (omega arith))

-- so many bytes make a number below this
pub below_bytes : (m : Bytes) → ((a byte : ℕ) → m a ≡ Some byte → byte < 256) → (a n : ℕ) (bytes : List ℕ) → bytes_at m a n ≡ Some bytes → little_endian bytes < numbers_of n
unfolding bytes_at little_endian numbers_of
below_bytes m small a zero bytes e = let none : [] ≡ bytes = cc in subst (λ b. little_endian b < 1) none (omega arith)
below_bytes m small a (suc n) bytes e =
    let f = first_byte m a n bytes e in
    let byte : f.0 < 256 = small a f.0 f.2 in
    let rest : little_endian f.1 < numbers_of n = below_bytes m small (a + 1) n f.1 f.3 in
    subst (λ b. little_endian b < 256 * numbers_of n) (sym f.4) (let e : f.0 + 256 * little_endian f.1 < 256 * numbers_of n = omega arith in e)

-- bytes that are known of a memory are there
known_bytes : (m m' : Bytes) → ((a byte : ℕ) → m a ≡ Some byte → m' a ≡ Some byte) → (a n : ℕ) (bytes : List ℕ) → bytes_at m a n ≡ Some bytes → bytes_at m' a n ≡ Some bytes
unfolding bytes_at
known_bytes m m' known a zero bytes e = e
known_bytes m m' known a (suc n) bytes e =
    let f = first_byte m a n bytes e in
    let first : m' a ≡ Some f.0 = known a f.0 f.2 in
    let rest : bytes_at m' (a + 1) n ≡ Some f.1 = known_bytes m m' known (a + 1) n f.1 f.3 in
    (λ i. joined (first i) (rest i)) ∙ ap (λ b. Some b) (sym f.4)

low_address : (n : ℕ) → n < 2 ^ 31 → cast_unsigned w32 (pos n) ≡ n
low_address n lt =
    let fits : signed (pos n) ≡ pos n = int_wrap_fits w32 (pos n) (fits_word (pos n) (omega (arith, ints)) (omega (arith, ints))) in
    ap (cast_unsigned w32) (sym fits ∙ signed_is n (omega arith)) ∙ word-number n (omega arith)

-- -- The first cells

module _ (image : Image) (settings : Settings) (lane : ℕ) (s : State) (h : IsStart image settings s) where
  word_bytes : (a n : ℕ) (bytes : List ℕ) → (n ≡ 4) ⊎ ((n ≡ 1) ⊎ (n ≡ 2)) → bytes_at s.memory a n ≡ Some bytes → little_endian bytes < 4294967296
  word_bytes a n bytes len read =
      let below = below_bytes s.memory h.sized.memory a n bytes read in
      ⊎_elim
      (λ four. let e : numbers_of n ≡ 4294967296 = ap numbers_of four ∙ numbers_4 in omega arith)
      (λ few. ⊎_elim (λ one. let e : numbers_of n ≡ 256 = ap numbers_of one ∙ numbers_1 in omega arith) (λ two. let e : numbers_of n ≡ 65536 = ap numbers_of two ∙ numbers_2 in omega arith) few)
      len

  -- the image's bytes
  image_has : (c : Cell) (cat clen : ℕ) (bytes : List ℕ) → cat < 2 ^ 31 → c.start ≡ pos cat → (clen ≡ 4) ⊎ ((clen ≡ 1) ⊎ (clen ≡ 2)) → int_gap c.start c.end ≡ clen → bytes_at s.memory cat clen ≡ Some bytes
      → HasValue lane (world_of s) (little_endian bytes) (number_or_top (image_number image c))
  image_has c cat clen bytes low start len gap read =
      let address : cast_unsigned w32 c.start ≡ cat = ap (cast_unsigned w32) start ∙ low_address cat low in
      subst (λ a. HasValue lane (world_of s) (little_endian bytes) (number_or_top (option_map little_endian (bytes_at (byte_at image) a (int_gap c.start c.end))))) (sym address)
      (subst (λ n. HasValue lane (world_of s) (little_endian bytes) (number_or_top (option_map little_endian (bytes_at (byte_at image) cat n)))) (sym gap) (by_bytes (bytes_at (byte_at image) cat clen) refl))
    where
      by_bytes : (o : Option (List ℕ)) → bytes_at (byte_at image) cat clen ≡ o → HasValue lane (world_of s) (little_endian bytes) (number_or_top (option_map little_endian o))
      by_bytes None is = tt
      by_bytes (Some bs) is =
          let same : bs ≡ bytes = (let both : Some bs ≡ Some bytes = sym (known_bytes (byte_at image) s.memory h.known cat clen bs is) ∙ read in cc) in
          subst (λ b. HasValue lane (world_of s) (little_endian bytes) (word_number (little_endian b))) (sym same) (number_has lane (world_of s) (little_endian bytes) (word_bytes cat clen bytes len read))

  image_value_has : (t : Thing) (c : Cell) (cat clen : ℕ) (bytes : List ℕ) → IsCellOf lane s t c cat clen → c.region ≡ Global → bytes_at s.memory cat clen ≡ Some bytes → HasValue lane (world_of s) (little_endian bytes) (image_value image c)
  image_value_has t c cat clen bytes cell global read =
      cond_both (has_length 1 c || (has_length 2 c || has_length 4 c)) (number_or_top (image_number image c)) Top (HasValue lane (world_of s) (little_endian bytes))
      (λ some. of_length (lengths some)) (λ _. tt)
    where
      is_len : (n : ℕ) → has_length n c ≡ true → clen ≡ n
      is_len n is = let same : c.end ≡ c.start +ℤ pos n = (signed_Decides c.end (c.start +ℤ pos n)).0 is in let last : c.end ≡ c.start +ℤ pos clen = cell.lies.end in omega (arith, ints)

      lengths : (has_length 1 c || (has_length 2 c || has_length 4 c)) ≡ true → (clen ≡ 4) ⊎ ((clen ≡ 1) ⊎ (clen ≡ 2))
      lengths some =
          ⊎_elim (λ one. inr (inl (is_len 1 one))) (λ more. ⊎_elim (λ two. inr (inr (is_len 2 two))) (λ four. inl (is_len 4 four)) (or_cases (has_length 2 c) (has_length 4 c) more))
          (or_cases (has_length 1 c) (has_length 2 c || has_length 4 c) some)

      positive : (clen ≡ 4) ⊎ ((clen ≡ 1) ⊎ (clen ≡ 2)) → 0 < clen
      positive len = ⊎_elim (λ four. omega arith) (λ few. ⊎_elim (λ one. omega arith) (λ two. omega arith) few) len

      of_length : (clen ≡ 4) ⊎ ((clen ≡ 1) ⊎ (clen ≡ 2)) → HasValue lane (world_of s) (little_endian bytes) (number_or_top (image_number image c))
      of_length len =
          let is = is_image lane s t (cell.region ∙ global) in
          let base : base_of t ≡ 0 = ap base_of is in
          let start : pos cat ≡ pos (base_of t) +ℤ c.start = cell.lies.start in
          let at_zero : Owns s t (cat + 0) = cell.lies.owned 0 (positive len) in
          let low : cat + 0 < 2 ^ 31 = subst (λ u. Owns s u (cat + 0)) is at_zero in
          image_has c cat clen bytes (omega arith) (omega (arith, ints)) len (gap_from c.start c.end clen cell.lies.end) read

  -- the entry's return slot
  slot_has : (t : Thing) (c : Cell) (cat clen : ℕ) (bytes : List ℕ) → IsCellOf lane s t c cat clen → slot_of (Frame settings.entry) ≡ c → bytes_at s.memory cat clen ≡ Some bytes → HasValue lane (world_of s) (little_endian bytes) (word_number HALT)
  slot_has t c cat clen bytes cell is read =
      subst (λ n. HasValue lane (world_of s) n (word_number HALT)) (sym halt) (number_has lane (world_of s) HALT (omega arith))
    where
      is_frame_of : (u : Thing) → IsIn (world_of s) u → region_of lane u ≡ Frame settings.entry → base_of u ≡ s.slot
      is_frame_of TheImage u_in region = absurd (cc)
      is_frame_of (ActivationAt newer x older) u_in region = ap (λ (y : Activation). y.base) (one_split image settings lane s h newer older x u_in).1
      is_frame_of (BlockAt before x later) u_in region = absurd (empty_split before later x (sym h.allocs ∙ u_in.0))

      base : base_of t ≡ s.slot
      base = is_frame_of t cell.is_in (cell.region ∙ ap (λ (d : Cell). d.region) (sym is))

      halt : little_endian bytes ≡ HALT
      halt =
          let start : pos cat ≡ pos (base_of t) +ℤ c.start = cell.lies.start in
          let first : c.start ≡ pos 0 = ap (λ (d : Cell). d.start) (sym is) in
          let last : c.end ≡ pos 4 = ap (λ (d : Cell). d.end) (sym is) in
          let end : c.end ≡ c.start +ℤ pos clen = cell.lies.end in
          let b = base in
          let at_is : cat ≡ s.slot = omega (arith, ints) in
          let len_is : clen ≡ 4 = omega (arith, ints) in
          let there : bytes_at s.memory s.slot 4 ≡ Some bytes = subst (λ n. bytes_at s.memory n 4 ≡ Some bytes) at_is (subst (λ n. bytes_at s.memory cat n ≡ Some bytes) len_is read) in
          let both : Some (little_endian bytes) ≡ Some HALT = ap (option_map little_endian) (sym there) ∙ h.halt in
          cc

  first_has : (t : Thing) (c : Cell) (cat clen : ℕ) (bytes : List ℕ) → IsCellOf lane s t c cat clen → bytes_at s.memory cat clen ≡ Some bytes → HasValue lane (world_of s) (little_endian bytes) (first_value image settings.entry c)
  first_has t c cat clen bytes cell read =
      cond_both (same_region c.region Global) (image_value image c) (cond (same_cell (slot_of (Frame settings.entry)) c) (word_number HALT) Top) (HasValue lane (world_of s) (little_endian bytes))
      (λ global. image_value_has t c cat clen bytes cell (same_region-equal c.region Global global) read)
      (λ _. cond_both (same_cell (slot_of (Frame settings.entry)) c) (word_number HALT) Top (HasValue lane (world_of s) (little_endian bytes))
      (λ is. slot_has t c cat clen bytes cell (same_cell-equal (slot_of (Frame settings.entry)) c is) read) (λ _. tt))

pub starts_have_states : StartsHaveStates
unfolding initial_state
starts_have_states image settings lane s d h =
    let stands = start_stands image settings lane s h in
    record {
      registers = stands.registers;
      flags = stands.flags;
      cells = λ t c cat clen bytes cell read.
          rebuilt_value (HasValue lane (world_of s) (little_endian bytes)) c (first_value image settings.entry) (map without_value (first_cells d settings.entry)) tt (first_has image settings lane s h t c cat clen bytes cell read);
      root = stands.root;
      live = stands.live;
      older = stands.older;
      links = stands.links;
      aligns = stands.aligns;
      blocks = stands.blocks;
      fact = stands.fact;
    }
