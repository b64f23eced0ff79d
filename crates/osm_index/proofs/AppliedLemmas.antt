-- What changes take out of a set of objects and put into it makes the changed set.
use Rattle.std.proofs.Common.{◌≡◌, inl, inr, List, ◌∷◌, sym, subst}
use Rattle.std.specs.List.{Contains}
use Rattle.std.proofs.lemmas.List.Elements.{Contains-append_right}
use Rattle.osm_model.specs.Elements.{Element, reference, references}
use Rattle.osm_model.specs.Sets.{IsObjectSet}
use Rattle.osm_model.specs.declared.reference.Ref.{Ref}
use Rattle.opl_codec.specs.declared.change.Change.{Change}
use Rattle.opl_codec.specs.declared.change.Change.TheVariants.{Put, Delete}
use Rattle.osm_index.specs.Applying.{AreApart, DeleteThere, IsApplied, IsFirstMissing, name_of, names_of}
use Rattle.osm_index.specs.declared.apply_fault.ApplyFault.{ApplyFault}
use Rattle.osm_index.specs.declared.apply_fault.ApplyFault.TheVariants as faults
use Rattle.osm_index.specs.declared.object_changes.ObjectChanges.{ObjectChanges}
use Rattle.osm_index.specs.internal.Applying.{AreObjectChangesOf, RefusesChanges, RefusesDeletes}
use Rattle.osm_index.specs.internal.ChangedTrees.{IsChangedSet}
use Rattle.osm_index.specs.internal.HeldTrees.{AreNamed}
use Rattle.osm_index.proofs.SetLemmas.{changed_set, is_changed_set}
use Rattle.osm_keys.proofs.shared.Members.{from_map, here, in_map}

-- ---- deletes of objects that aren't among those named

module _ (objects : List Element) (all : List Change) (removed : List Element) (named : AreNamed objects (names_of all) removed) where
  pub named_there : (r : Ref) → Contains (references removed) r → Contains (references objects) r
  named_there r h =
      let found = from_map (λ (o : Element). reference o) removed r h in
      subst (λ (s : Ref). Contains (references objects) s) (sym found.2) (in_map (λ (o : Element). reference o) objects found.0 ((named.members found.0).0 found.1).0)

  pub deletes_there : (some : List Change) → DeleteThere removed some → DeleteThere objects some
  deletes_there some there = λ r h. named_there r (there r h)

  pub first_missing : (r : Ref) → IsFirstMissing removed all r → IsFirstMissing objects all r
  first_missing r is = record {
    before = is.before;
    after = is.after;
    cut = is.cut;
    there = deletes_there is.before is.there;
    missing = λ h.
        let found = from_map (λ (o : Element). reference o) objects r h in
        let deleted : Contains all (Delete r) = subst (λ (cs : List Change). Contains cs (Delete r)) (sym is.cut) (Contains-append_right is.before (Delete r ∷ is.after) (Delete r) (here (Delete r) is.after)) in
        let name = subst (λ (s : Ref). Contains (names_of all) s) found.2 (in_map name_of all (Delete r) deleted) in
        is.missing (subst (λ (s : Ref). Contains (references removed) s) (sym found.2) (in_map (λ (o : Element). reference o) removed found.0 ((named.members found.0).1 (found.1, name))));
  }

-- a refused delete refuses the changes
pub refused_deletes : (objects : List Element) (all : List Change) (removed : List Element) → AreNamed objects (names_of all) removed → AreApart all → (fault : ApplyFault) → RefusesDeletes removed all fault → RefusesChanges objects all fault
refused_deletes objects all removed named apart faults.LastSequence is = is
refused_deletes objects all removed named apart (faults.ChangedTwice r) is = absurd is
refused_deletes objects all removed named apart (faults.NotThere r) is = (apart, first_missing objects all removed named r is)
refused_deletes objects all removed named apart faults.TooMany is = is
refused_deletes objects all removed named apart faults.Clash is = is
refused_deletes objects all removed named apart faults.Memory is = tt

-- ---- the changed set

module _ (objects : List Element) (set : IsObjectSet objects) (all : List Change) (found : ObjectChanges) (is : AreObjectChangesOf objects all found) where
  there : (o : Element) → Contains found.removed o → Contains objects o
  there o h = ((is.removed.members o).0 h).0

  apart : (o x : Element) → Contains found.puts o → Contains objects x → reference x ≡ reference o → Contains found.removed x
  apart o x put was same =
      let name = in_map name_of all (Put o) ((is.puts.members o).0 put) in
      (is.removed.members x).1 (was, subst (λ (r : Ref). Contains (names_of all) r) (sym same) name)

  -- there is one,
  pub some_changed_set : (new : List Element) × IsChangedSet objects found.removed found.puts new
  some_changed_set = (changed_set objects found.removed found.puts set is.removed.set is.puts.set there apart, is_changed_set objects found.removed found.puts set is.removed.set is.puts.set there apart)

  -- and it is the changed set
  pub applied : (new : List Element) → IsChangedSet objects found.removed found.puts new → IsApplied objects all new
  applied new has = record {
    set = has.set;
    members = λ o. (
      (λ h. elim ((has.members o).0 h) [
        | inl put ↦ inl ((is.puts.members o).0 put)
        | inr (was, isnt) ↦ inr (was, λ name. isnt ((is.removed.members o).1 (was, name)))
      ]),
      (λ h. (has.members o).1 (elim h [
        | inl put ↦ inl ((is.puts.members o).1 put)
        | inr (was, unnamed) ↦ inr (was, λ old. unnamed ((is.removed.members o).0 old).1)
      ])),
    );
  }
