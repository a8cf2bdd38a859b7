-- Places are covered by the graph's sets.
use Rattle.std.proofs.Common.{◌≡◌, ◌<◌, ℕ, ◌+◌, true, false, length, Option, Some, None, pos, refl, sym, ap, subst, ◌∙◌, arith, ltb-true}
use Rattle.std.specs.Prelude.{◌-ℤ◌, nat_lt, Contains}
use Rattle.std.proofs.lemmas.Bool.{and_parts}
use Rattle.std.proofs.lemmas.Option.{none-some, same_Some}
use Rattle.image_map.specs.declared.image.Image.{Image}
use Rattle.image_map.specs.declared.region.Settings.{Settings}
use Rattle.image_map.specs.CallModel.{AreSettings}
use Rattle.image_map.specs.Whole.{IsImage}
use Rattle.ia32_semantics.specs.Ia32.{machine}
use Rattle.ia32_semantics.specs.Machine.{Occurrence}
use Rattle.ia32_semantics.specs.State.{State, Location, InRegister, InFlag, AtByte}
use Rattle.ia32_semantics.specs.Step.{Act, reads as step_reads, writes as step_writes, forgets as step_forgets}
use Rattle.vset.specs.World.{key_of}
use Rattle.abs_steps.specs.Places.{content_at}
use Rattle.abs_steps.specs.Rows.{view_of}
use Rattle.abs_steps.specs.Successors.{States}
use Rattle.slice_soundness.specs.Located.{Spot, spot_of, Part, OfCore, OfRegion, IsPartAt, IsThere, LiesInCell, Accesses, IsLocated}
use Rattle.slice_soundness.specs.Maps.{here}
use Rattle.slice_soundness.specs.Premises.{Comes, GoesOn, IsClean, IsLocation, Covers, Describes}
use Rattle.slice_soundness.proofs.ArchitectureLemmas.{architecture_meets_laws}
use Rattle.slice_soundness.proofs.LocatedLemmas.{places_are_covered}
use Rattle.call_soundness.proofs.RowLaws.{abstract_steps}
use Rattle.graph_soundness.proofs.GraphLaws.{graph_is}
use Rattle.access_facts.specs.Places.{graph_cells}
use Rattle.graph_soundness.specs.Cores.{KeepsCores, core_always}
use Rattle.graph_soundness.specs.Drawn.{place_at, map_drawn, drawn_of, division_of}
use Rattle.graph_soundness.specs.Forms.{AreAllFormed, HaveCells}
use Rattle.graph_soundness.specs.Reached.{MustWrite, goes_on_from, accesses_of}
use Rattle.graph_soundness.proofs.CoreLaws.{cores_covered}
use Rattle.graph_soundness.proofs.MoveLaws.{bytes_move}
use Rattle.graph_soundness.proofs.SetLaws.{placed, has_sets}
use Rattle.graph_soundness.proofs.StepReads.{read_covered}
use Rattle.graph_soundness.proofs.StepWrites.{write_covered}
use Rattle.graph_soundness.proofs.StepAlways.{always_covered}

module _ (image : Image) (settings : Settings) (states : States) (is : IsImage image) (are : AreSettings (length image.externs) settings)
    (clean : IsClean (machine image settings) (map_drawn image settings states)) (there : HaveCells image settings states)
    (forms : AreAllFormed image settings states) where
  cell_of : (s : State) (byte place : ℕ) (o : Option Spot) → spot_of (key_of states.lane) s byte ≡ o → place_at (graph_cells states) o byte ≡ Some place → LiesInCell (division_of states) s byte place
  cell_of s byte place None e has = absurd (none-some place has)
  cell_of s byte place (Some spot) e has = record { spot = spot; spot_is = e; is_in = has }

  low_register : (n : ℕ) → IsLocation (InRegister n) → n < 8
  low_register n location = ltb-true n 8 (and_parts (nat_lt n 8) _ location).0

  low_flag : (n : ℕ) → IsLocation (InFlag n) → n < 6
  low_flag n location = ltb-true n 6 location

  cores : (o : Occurrence Act) (comes : Comes (machine image settings) (map_drawn image settings states) o) → KeepsCores comes.ready.value (content_at image settings o.before.eip) o
  cores o comes = cores_covered image settings states (drawn_of image settings states) o is comes

  abbrev acc : Accesses
  acc = accesses_of image settings states

  reads : (o : Occurrence Act) (l : Location) (part : Part) → Comes (machine image settings) (map_drawn image settings states) o → IsLocation l → step_reads o l ≡ true
      → IsPartAt (division_of states) o.before l part → acc.Reads (here (map_drawn image settings states) o.before) part
  reads o (InRegister n) part comes location e at =
      subst (acc.Reads (here (map_drawn image settings states) o.before)) (sym at)
      (record { state = comes.ready.value; has_state = comes.ready.has_value; does = (cores o comes).used (InRegister n) n (low_register n location, refl) e })
  reads o (InFlag n) part comes location e at =
      subst (acc.Reads (here (map_drawn image settings states) o.before)) (sym at)
      (record { state = comes.ready.value; has_state = comes.ready.has_value; does = (cores o comes).used (InFlag n) (n + 8) (low_flag n location, refl) e })
  reads o (AtByte byte) part comes location e at =
      subst (acc.Reads (here (map_drawn image settings states) o.before)) (sym at.2)
      (record { state = comes.ready.value; has_state = comes.ready.has_value; does = read_covered image settings states (drawn_of image settings states) is are o comes byte e at.0 at.1 })

  writes : (o : Occurrence Act) (l : Location) → GoesOn (machine image settings) (map_drawn image settings states) o → IsLocation l → step_writes o l ≡ true → step_forgets o l ≡ false
      → (part : Part) × IsPartAt (division_of states) o.after l part × acc.Writes (here (map_drawn image settings states) o.before) part × IsThere (division_of states) part
  writes o (InRegister n) goes location e kept =
      let comes = goes.comes in
      let low = low_register n location in
      let less : n < 14 = omega (arith, low) in
      (OfCore n, refl, record { state = comes.ready.value; has_state = comes.ready.has_value; does = (cores o comes).defined (InRegister n) n (low_register n location, refl) e }, less)
  writes o (InFlag n) goes location e kept =
      let comes = goes.comes in
      let low = low_flag n location in
      let less : n + 8 < 14 = omega (arith, low) in
      (OfCore (n + 8), refl, record { state = comes.ready.value; has_state = comes.ready.has_value; does = (cores o comes).defined (InFlag n) (n + 8) (low_flag n location, refl) e }, less)
  writes o (AtByte byte) goes location e kept =
      let found = write_covered image settings states is are o goes clean byte e kept in (
        OfRegion found.spot.region (pos byte -ℤ pos found.spot.base),
        (found.spot, found.lies, refl),
        record { state = goes.comes.ready.value; has_state = goes.comes.ready.has_value; does = found.may },
        there o goes byte found.spot e kept found.lies,
      )

  always : (o : Occurrence Act) (l : Location) (part : Part) → GoesOn (machine image settings) (map_drawn image settings states) o → IsLocation l → step_forgets o l ≡ false
      → IsPartAt (division_of states) o.after l part → acc.Always (here (map_drawn image settings states) o.before) part → step_writes o l ≡ true
  always o (InRegister n) part goes location kept at must =
      (cores o goes.comes).always (InRegister n) n (low_register n location, refl) (of_core n (subst (acc.Always (here (map_drawn image settings states) o.before)) at must))
    where
      of_core : (k : ℕ) → acc.Always (here (map_drawn image settings states) o.before) (OfCore k) → Contains (core_always goes.comes.ready.value (content_at image settings o.before.eip)) k
      of_core k h = subst (λ s. Contains (core_always s (content_at image settings o.before.eip)) k) (same_Some h.state goes.comes.ready.value (sym h.has_state ∙ goes.comes.ready.has_value)) h.does
  always o (InFlag n) part goes location kept at must =
      (cores o goes.comes).always (InFlag n) (n + 8) (low_flag n location, refl) (of_core (n + 8) (subst (acc.Always (here (map_drawn image settings states) o.before)) at must))
    where
      of_core : (k : ℕ) → acc.Always (here (map_drawn image settings states) o.before) (OfCore k) → Contains (core_always goes.comes.ready.value (content_at image settings o.before.eip)) k
      of_core k h = subst (λ s. Contains (core_always s (content_at image settings o.before.eip)) k) (same_Some h.state goes.comes.ready.value (sym h.has_state ∙ goes.comes.ready.has_value)) h.does
  always o (AtByte byte) part goes location kept at must =
      let h = subst (acc.Always (here (map_drawn image settings states) o.before)) at.2 must in
      always_covered image settings states is are o goes byte at.0 at.1 clean
      (subst (λ s. MustWrite image (view_of s states.cells (here (map_drawn image settings states) o.before).context.proc) (content_at image settings o.before.eip)
      (goes_on_from image settings states (here (map_drawn image settings states) o.before) s) (OfRegion at.0.region (pos byte -ℤ pos at.0.base)))
      (same_Some h.state goes.comes.ready.value (sym h.has_state ∙ goes.comes.ready.has_value)) h.does)

  pub located : IsLocated (machine image settings) (map_drawn image settings states) (division_of states) acc
  located =
      record {
        cells = λ s byte place has. cell_of s byte place (spot_of (key_of states.lane) s byte) refl has;
        cells_back = λ s byte place h. ap (λ o. place_at (graph_cells states) o byte) h.spot_is ∙ h.is_in;
        division = record {
          fills = λ region offset h. h;
          behind = λ region offset place e. let p = placed 14 (graph_cells states) region offset place e in let at = p.is in omega (arith, at);
        };
        sets = has_sets image settings states forms;
        accesses = record { reads = reads; writes = writes; always = always };
        moves = λ o goes. bytes_move image settings states (drawn_of image settings states) is are o goes;
      }

  pub places_covered : Covers (machine image settings) (map_drawn image settings states)
  places_covered = places_are_covered (machine image settings) (map_drawn image settings states) (division_of states) acc located

  pub graph_describes : Describes (machine image settings) (map_drawn image settings states)
  graph_describes =
      record {
        follows = record { machine = architecture_meets_laws image settings is; steps = abstract_steps image settings states (drawn_of image settings states) is are; clean = clean };
        graph = graph_is image settings states is;
        covers = places_covered;
      }
