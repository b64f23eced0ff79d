use Rattle.std.proofs.Common.{◌∙◌, ◌≡◌, ap, inl, inr, length, subst}
use Rattle.std.specs.Io.KnownBytes.{Appends}
use Rattle.std.proofs.lemmas.Result.{on_ok_weaker}
use Rattle.osm_keys.specs.Publications.{Publication}
use Rattle.pack_update.specs.Adding.{IsAddedOf}
use Rattle.osm_commands.specs.RootLines.{digest_line}
use Rattle.osm_commands.specs.TreeRoots.{publication_line}
use Rattle.osm_pack_changes.specs.Faults.{Explains, fault_of_load}
use Rattle.osm_pack_changes.proofs.AddLemmas.{explained, given_of, next_of, unread}
use Rattle.osm_pack_changes.proofs.FaultLemmas.{refused_as}
use Rattle.osm_pack_changes.proofs.HeadLemmas.{readable, short_file, still_further}
use Rattle.osm_pack_changes.proofs.add_command.add_to_pack.Goals as goal

pub returns-in_err-read-clause-refused : goal.returns-in_err-read-clause-refused
returns-in_err-read-clause-refused g c = λ p is.
    let known = g.C.Read.remaining c.args.change_file.now in
    let left = g.C.Read.remaining c.read_change_file.new.reader in
    let number = length c.args.head.now.files.items in
    let load = c.in_err-read.field-0.0 in
    inl (refused_as (Explains p known left number c.args.name.now) c.from_residual.result (fault_of_load load) c.from_residual.ensures.1
    (unread p known left number c.args.name.now load c.in_err-read.ensures.refused))

pub returns-in_err-added-clause-refused : goal.returns-in_err-added-clause-refused
returns-in_err-added-clause-refused g c = λ p is.
    let known = g.C.Read.remaining c.args.change_file.now in
    let left = g.C.Read.remaining c.read_change_file.new.reader in
    let number = length c.args.head.now.files.items in
    let read = c.in_ok-read.read in
    let fault = c.in_err-added.field-0.0 in
    elim (c.in_err-added.ensures.refused p is) [
      | inl why ↦ inl (refused_as (Explains p known left number c.args.name.now) c.from_residual-in_err-added.result fault c.from_residual-in_err-added.ensures.1
          (explained known left read p number c.args.name.now (given_of known read c.in_ok-read.ensures.read c.in_ok-read.ensures.held) fault why))
      | inr clash ↦ inr clash
    ]

pub returns-clause-told : goal.returns-clause-told
returns-clause-told g c = λ p is.
    let known = g.C.Read.remaining c.args.change_file.now in
    let read = c.in_ok-read.read in
    let given = given_of known read c.in_ok-read.ensures.read c.in_ok-read.ensures.held in
    let line : (q : Publication) → IsAddedOf q c.in_ok-added.added → c.as_bytes.result.now ≡ publication_line q = λ q is_added. c.as_bytes.ensures.value ∙ c.in_ok-line.ensures ∙ ap digest_line is_added.root in
    elim (c.in_ok-added.ensures.safe p is) [
      | inl made ↦ inl (on_ok_weaker c.write_in_turn.result
          (λ written. (made.0, next_of known read p made.0 given made.1, subst (Appends (g.W.Write.contents c.args.output.now) (g.W.Write.contents c.write_in_turn.new.output)) (line made.0 made.2) written.1))
          c.write_in_turn.ensures.written)
      | inr clash ↦ inr clash
    ]

pub returns-clause-added : goal.returns-clause-added
returns-clause-added g c = λ p contents is reads had count.
    let known = g.C.Read.remaining c.args.change_file.now in
    let read = c.in_ok-read.read in
    let given = given_of known read c.in_ok-read.ensures.read c.in_ok-read.ensures.held in
    let line : (q : Publication) → IsAddedOf q c.in_ok-added.added → c.as_bytes.result.now ≡ publication_line q = λ q is_added. c.as_bytes.ensures.value ∙ c.in_ok-line.ensures ∙ ap digest_line is_added.root in
    elim (c.in_ok-added.ensures.whole p contents is reads had count) [
      | inl made ↦
          let added = c.in_ok-added.added in
          let file = still_further contents made.0 added (g.P.Write.contents c.args.further.now) (g.P.Write.contents c.add_read.new.further) (g.P.Write.contents c.write_in_turn.new.further) made.3 c.write_in_turn.ensures.kept in
          let (next, next_is, text) = c.in_ok-text.ensures in
          inl (on_ok_weaker c.write_in_turn.result
          (λ written. (
            made.0,
            next_of known read p made.0 given made.1,
            record {
              added = added;
              is = made.2;
              file = file;
              next = next;
              next_is = next_is;
              appended = subst (Appends (g.H.Write.contents c.args.new_head.now) (g.H.Write.contents c.write_in_turn.new.new_head)) (c.deref.ensures.value ∙ text) written.0;
              readable = readable c.args.head.now next c.args.name.now added next_is c.in_ok-added.ensures.named.0 c.in_ok-added.ensures.named.1 (short_file contents made.0 added _ _ file);
            },
            subst (Appends (g.W.Write.contents c.args.output.now) (g.W.Write.contents c.write_in_turn.new.output)) (line made.0 made.2) written.1,
          ))
          c.write_in_turn.ensures.written)
      | inr clash ↦ inr clash
    ]
