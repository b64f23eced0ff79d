-- What changes have to give that were read of a file.
use Rattle.std.proofs.Common.{◌≡◌, ℕ, List, ◌++◌, Option, Some, inl, inr, sym, subst, ◌∙◌}
use Rattle.std.proofs.lemmas.List.{append_cancel_left}
use Rattle.opl_codec.specs.declared.change_file.ChangeFile.{ChangeFile}
use Rattle.osm_keys.specs.Publications.{Publication}
use Rattle.osm_index.specs.declared.announced_fault.AnnouncedFault.{AnnouncedFault}
use Rattle.osm_index.specs.declared.announced_fault.AnnouncedFault.TheVariants as announcing
use Rattle.osm_index.specs.declared.apply_fault.ApplyFault.{ApplyFault}
use Rattle.osm_index.specs.declared.apply_fault.ApplyFault.TheVariants as refusals
use Rattle.osm_desk.specs.AnnouncedRoots.{GivesOtherRoot, RefusesAnnounced, root_digits, root_words}
use Rattle.osm_desk.specs.Made.{RefusesChanges}
use Rattle.osm_desk.proofs.shared.RootDigits.{some_digits}
use Rattle.osm_serving.specs.ChangeFiles.{fault_of_announced, fault_of_apply}
use Rattle.osm_serving.specs.internal.ReadChanges.{IsHeldTo, IsHeldToNone, IsRootComment, KeepsComment, RefusesRead, comment_of}
use Rattle.osm_serving.specs.declared.root_line.RootLine.{RootLine}

-- ---- what is made

-- a comment announces one text
one_text : (comment : Option (List ℕ)) (a b : List ℕ) → IsRootComment comment a → IsRootComment comment b → a ≡ b
one_text comment a b is are =
    let both : Some (root_words ++ a) ≡ Some (root_words ++ b) = sym is ∙ are in
    let same : root_words ++ a ≡ root_words ++ b = cc in
    append_cancel_left root_words a b same

pub held_keeps : (root_line : RootLine) (comment : Option (List ℕ)) (announced : List ℕ) (q : Publication) → IsHeldTo root_line comment announced → announced ≡ root_digits q
    → KeepsComment root_line comment q
held_keeps root_line comment announced q (inl is) same = record {
  announced = λ text are. one_text comment text announced are is ∙ same;
  line = λ _. (announced, is);
}
held_keeps root_line comment announced q (inr (required, empty, none)) same = absurd (some_digits q (sym same ∙ empty))

pub free_keeps : (root_line : RootLine) (comment : Option (List ℕ)) (q : Publication) → IsHeldToNone root_line comment → KeepsComment root_line comment q
free_keeps root_line comment q (optional, none) = record {
  announced = λ text is. absurd (none text is);
  line = λ required.
      let both = sym optional ∙ required in cc;
}

-- ---- why nothing is made

pub refused_announced : (root_line : RootLine) (read : ChangeFile) (p : Publication) (announced : List ℕ) (fault : AnnouncedFault) → IsHeldTo root_line (comment_of read) announced
    → RefusesAnnounced p read.changes.items announced fault → RefusesRead root_line read p (fault_of_announced fault)
refused_announced root_line read p announced (announcing.Apply refusals.Memory) is why = tt
refused_announced root_line read p announced (announcing.Apply refusals.LastSequence) is why = why
refused_announced root_line read p announced (announcing.Apply (refusals.ChangedTwice r)) is why = why
refused_announced root_line read p announced (announcing.Apply (refusals.NotThere r)) is why = why
refused_announced root_line read p announced (announcing.Apply refusals.TooMany) is why = why
refused_announced root_line read p announced (announcing.Apply refusals.Clash) is (fine, (q, changed, same, two)) = (fine, (q, changed, two))
refused_announced root_line read p announced announcing.OtherRoot (inl is) why = inl (announced, is, why)
refused_announced root_line read p announced announcing.OtherRoot (inr (required, empty, none)) why =
    inr (required, none, subst (λ (text : List ℕ). GivesOtherRoot p read.changes.items text) empty why)

pub refused_plain : (root_line : RootLine) (read : ChangeFile) (p : Publication) (fault : ApplyFault) → RefusesChanges p read.changes.items fault → RefusesRead root_line read p (fault_of_apply fault)
refused_plain root_line read p refusals.Memory why = tt
refused_plain root_line read p refusals.LastSequence why = why
refused_plain root_line read p (refusals.ChangedTwice r) why = why
refused_plain root_line read p (refusals.NotThere r) why = why
refused_plain root_line read p refusals.TooMany why = why
refused_plain root_line read p refusals.Clash why = why
