-- Bytes that an occurrence accesses lie in the reaches of its node.
use Rattle.std.proofs.Common.{◌≡◌, inl, inr, ℕ, ◌+◌, Bool, true, false, cond, List, [], ◌∷◌, map, Option, Some, None, ℤ, pos, ◌+ℤ◌, refl, sym, ap, subst, ◌∙◌, arith}
use Rattle.std.specs.Prelude.{◌-ℤ◌}
use Rattle.std.proofs.lemmas.Int.{ints}
use Rattle.std.proofs.lemmas.Bool.{false≢true}
use Rattle.image_map.specs.declared.image.Image.{Image}
use Rattle.image_map.specs.declared.region.RegionId.{RegionId}
use Rattle.ia32_semantics.specs.State.{State}
use Rattle.alocs.specs.Extents.{home}
use Rattle.vset.specs.declared.part.Part.{Part}
use Rattle.vset.specs.Values.{Values}
use Rattle.vset.specs.World.{Thing, IsIn, base_of, region_of}
use Rattle.abs_semantics.specs.States.{AbsState}
use Rattle.abs_semantics.specs.StandsFor.{Owns, world_of}
use Rattle.abs_semantics.specs.Ownership.{IsKnown, IsOwnedAt, IsOwnedAmong}
use Rattle.abs_semantics.specs.Accesses.{has_no_reason, sure_entries}
use Rattle.abs_semantics.specs.Resolve.{resolve}
use Rattle.abs_semantics.proofs.EntryLemmas.{no_reason}
use Rattle.abs_semantics.proofs.OwnerLemmas.{resolved_bytes}
use Rattle.abs_semantics.proofs.ThingLemmas.{one_owner}
use Rattle.abs_steps.specs.declared.accesses.Access.{Access}
use Rattle.step_soundness.specs.Accessed.{IsNear, IsWithin, IsAccessed}
use Rattle.step_soundness.proofs.WriteLaws.{IsQuiet, AreQuiet}
use Rattle.access_facts.specs.Reach.{within_parts, reach_of, reach}
use Rattle.graph_soundness.specs.Reached.{IsInRange, IsInSome, IsRead, IsReadBy, IsWritten, IsWrittenBy}

module _ (image : Image) (lane p : ℕ) (a : AbsState) (s : State) (known : IsKnown image lane a p s) (byte : ℕ) (u : Thing) (is_in : IsIn (world_of s) u) (own : Owns s u byte) where
  abbrev r : RegionId
  r = home (region_of lane u)

  abbrev offset : ℤ
  offset = pos byte -ℤ pos (base_of u)

  module _ (v : Values) (len : ℕ) (near : IsNear lane s v len byte) where
    in_range : (x : Part) → IsOwnedAt lane s near.at near.count x → IsInRange len x r offset
    in_range x h =
        let owned : Owns s h.thing byte = subst (Owns s h.thing) (sym near.is) (h.owned near.distance near.near) in
        let same : h.thing ≡ u = one_owner image s known.image_is known.whole.laid_out byte h.thing u h.is_in is_in owned own in
        let reached : pos near.at ≡ pos (base_of u) +ℤ h.offset = h.reached ∙ ap (λ t. pos (base_of t) +ℤ h.offset) same in
        let is : byte ≡ near.at + near.distance = near.is in
        let less = near.near in
        let within = near.range.within in
        record {
          region_is = ap home (sym h.region ∙ ap (region_of lane) same);
          from = h.offset;
          member = h.within;
          low = omega (arith, ints);
          high = omega (arith, ints);
        }

    in_some : (xs : List Part) → IsOwnedAmong lane s near.at near.count xs → IsInSome len xs r offset
    in_some [] h = absurd h
    in_some (x ∷ xs) (inl h) = inl (in_range x h)
    in_some (x ∷ xs) (inr h) = inr (in_some xs h)

    pub resolved_in : (resolve a p v len).reasons ≡ [] → IsInSome len (resolve a p v len).entries r offset
    resolved_in none = in_some (resolve a p v len).entries (resolved_bytes image lane a p s v near.at near.count len known near.range none)

    near_read : IsRead (within_parts len (sure_entries (resolve a p v len))) r offset
    near_read = by (has_no_reason (resolve a p v len).reasons) refl
      where
        by : (b : Bool) → has_no_reason (resolve a p v len).reasons ≡ b → IsRead (within_parts len (cond b (Some (resolve a p v len).entries) None)) r offset
        by true e = resolved_in (no_reason (resolve a p v len).reasons e)
        by false e = tt

    near_written : (resolve a p v len).reasons ≡ [] → IsWritten (within_parts len (sure_entries (resolve a p v len))) r offset
    near_written none = by (has_no_reason (resolve a p v len).reasons) (ap has_no_reason none)
      where
        by : (b : Bool) → b ≡ true → IsWritten (within_parts len (cond b (Some (resolve a p v len).entries) None)) r offset
        by true e = resolved_in none
        by false e = absurd (false≢true e)

  one_read : (x : Access) (l : Option ℕ) → IsWithin lane s x.addr l byte → IsRead (reach_of a p x.addr l) r offset
  one_read x None h = tt
  one_read x (Some len) h = near_read x.addr len h

  pub each_read : (xs : List Access) → IsAccessed lane s xs byte → IsReadBy (map (reach a p) xs) r offset
  unfolding reach
  each_read [] h = absurd h
  each_read (x ∷ xs) (inl h) = inl (one_read x x.len h)
  each_read (x ∷ xs) (inr h) = inr (each_read xs h)

  one_written : (x : Access) (l : Option ℕ) → IsQuiet a p x.addr l → IsWithin lane s x.addr l byte → IsWritten (reach_of a p x.addr l) r offset
  one_written x None quiet h = absurd quiet
  one_written x (Some len) quiet h = near_written x.addr len h quiet.0

  pub each_written : (xs : List Access) → AreQuiet a p xs → IsAccessed lane s xs byte → IsWrittenBy (map (reach a p) xs) r offset
  unfolding reach
  each_written [] quiet h = absurd h
  each_written (x ∷ xs) quiet (inl h) = inl (one_written x x.len quiet.0 h)
  each_written (x ∷ xs) quiet (inr h) = inr (each_written xs quiet.1 h)
