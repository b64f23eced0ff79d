use Rattle.std.proofs.Common.{◌∙◌, ℕ, List, Ok, IfErr, ap, sym, subst}
use Rattle.opl_codec.specs.Files.{HoldsChanges}
use Rattle.opl_codec.specs.declared.change.Change.{Change}
use Rattle.tree_node.specs.declared.digest.Digest.{Digest}
use Rattle.osm_index.specs.Snapshots.{HoldsPublication}
use Rattle.osm_index.specs.declared.snapshot.Snapshot.{Snapshot}
use Rattle.osm_desk.specs.Contents.{Contents}
use Rattle.osm_desk.specs.Made.{IsMade}
use Rattle.osm_changes.specs.AnnouncedChanges.{HasRootLine}
use Rattle.osm_commands.specs.RootLines.{digest_line}
use Rattle.osm_changes.specs.internal.Announcing.{ExplainsUnmade}
use Rattle.osm_changes.proofs.ChangingLemmas.{explained_applying, explained_memory, explained_reading, outside_applying, outside_memory, outside_reading}
use Rattle.osm_changes.proofs.changes_command.announce.Goals as goal

pub returns-in_err-read-clause-only : goal.returns-in_err-read-clause-only
returns-in_err-read-clause-only c = λ p holds all are.
    outside_reading p all c.in_err-read.field-0.0 c.from_residual.result c.from_residual.ensures.1
    (c.in_err-read.ensures.only all (subst (λ (t : List ℕ). HoldsChanges t all) (sym c.as_slice-reader.ensures.value) are))

pub returns-in_err-read-clause-refused : goal.returns-in_err-read-clause-refused
returns-in_err-read-clause-refused c = λ p holds.
    subst (λ (t : List ℕ). IfErr c.from_residual.result (ExplainsUnmade t p)) c.as_slice-reader.ensures.value
    (explained_reading _ _ p c.in_err-read.field-0.0 c.from_residual.result c.from_residual.ensures.1 c.in_err-read.ensures.refused)

pub returns-in_err-publish-clause-only : goal.returns-in_err-publish-clause-only
returns-in_err-publish-clause-only c = λ p holds all are.
    let there = subst (λ (d : Contents Snapshot). HoldsPublication d.mirror p) (sym c.new-desk.ensures) holds in
    outside_applying p c.in_ok-read.read.changes.items c.deref.result.now all c.in_err-publish.field-0.0 c.from_residual-in_err-publish.result c.deref.ensures.value
    (c.in_ok-read.ensures.only all (subst (λ (t : List ℕ). HoldsChanges t all) (sym c.as_slice-reader.ensures.value) are))
    c.from_residual-in_err-publish.ensures.1 (c.in_err-publish.ensures.refused p there)

pub returns-in_err-publish-clause-refused : goal.returns-in_err-publish-clause-refused
returns-in_err-publish-clause-refused c = λ p holds.
    let there = subst (λ (d : Contents Snapshot). HoldsPublication d.mirror p) (sym c.new-desk.ensures) holds in
    let changes = c.in_ok-read.read.changes.items in
    explained_applying c.args.text.items p changes c.deref.result.now c.in_err-publish.field-0.0 c.from_residual-in_err-publish.result c.deref.ensures.value
    c.from_residual-in_err-publish.ensures.1
    (subst (λ (t : List ℕ). HoldsChanges t changes) c.as_slice-reader.ensures.value c.in_ok-read.ensures.read.changes) (c.in_err-publish.ensures.refused p there)

pub returns-in_err-line-clause-only : goal.returns-in_err-line-clause-only
returns-in_err-line-clause-only c = λ p holds all are. outside_memory p all c.from_residual-in_err-line.result c.from_residual-in_err-line.ensures.1

pub returns-in_err-line-clause-refused : goal.returns-in_err-line-clause-refused
returns-in_err-line-clause-refused c = λ p holds. explained_memory c.args.text.items p c.from_residual-in_err-line.result c.from_residual-in_err-line.ensures.1

pub returns-in_err-text-clause-only : goal.returns-in_err-text-clause-only
returns-in_err-text-clause-only c = λ p holds all are. outside_memory p all c.from_residual-in_err-text.result c.from_residual-in_err-text.ensures.1

pub returns-in_err-text-clause-refused : goal.returns-in_err-text-clause-refused
returns-in_err-text-clause-refused c = λ p holds. explained_memory c.args.text.items p c.from_residual-in_err-text.result c.from_residual-in_err-text.ensures.1

pub returns-clause-made : goal.returns-clause-made
returns-clause-made c = λ p holds.
    let there = subst (λ (d : Contents Snapshot). HoldsPublication d.mirror p) (sym c.new-desk.ensures) holds in
    let changes = c.in_ok-read.read.changes.items in
    let (q, made, now) = c.in_ok-publish.ensures.made p there in
    let line = c.in_ok-line.ensures
    ∙ ap (λ (d : Digest). digest_line d.0) (c.root.ensures ∙ ap (λ (s : Snapshot). s.root) c.snapshot.ensures)
    ∙ ap digest_line now.root in (
      q,
      record {
        changes = changes;
        holds = subst (λ (t : List ℕ). HoldsChanges t changes) c.as_slice-reader.ensures.value c.in_ok-read.ensures.read.changes;
        made = subst (λ (all : List Change). IsMade p all (Ok q)) c.deref.ensures.value made;
      },
      subst (λ (l : List ℕ). HasRootLine c.args.text.items l c.in_ok-text.text.items) (c.as_bytes.ensures.value ∙ line) c.in_ok-text.ensures,
      line,
    )
