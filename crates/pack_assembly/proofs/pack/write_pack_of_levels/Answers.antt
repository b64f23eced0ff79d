use Rattle.std.proofs.Common.{Err, ◌≡◌, ◌≤◌, ◌+◌, ◌++◌, ℕ, List, ap, arith, inl, length, subst, sym, ◌∙◌}
use Rattle.std.specs.Io.KnownBytes.{Appends}
use Rattle.byte_io.specs.Written.{AppendsFront}
use Rattle.osm_keys.specs.Publications.{manifest_of, root_of}
use Rattle.tree_node.specs.Digests.{digest}
use Rattle.tree_node.specs.declared.digest.Digest.{Digest}
use Rattle.node_pack.specs.Packs.{pack, record_len}
use Rattle.pack_assembly.specs.declared.fault.AssemblyFault.TheVariants.{Device, TooLong}
use Rattle.pack_assembly.specs.declared.layout.Layout.{Layout}
use Rattle.pack_assembly.specs.declared.layout.PlacedRow.{PlacedRow}
use Rattle.pack_assembly.specs.internal.Front.{front_bytes}
use Rattle.pack_assembly.specs.internal.Order.{all_kepts, manifest_kept}
use Rattle.pack_assembly.specs.internal.Placing.{IsReady, rest_of}
use Rattle.pack_assembly.proofs.FaultLemmas.{residual, unwritten_device}
use Rattle.pack_assembly.proofs.KnownLemmas.{manifest_is, rows_are, short_manifest}
use Rattle.pack_assembly.proofs.LevelLemmas.{err_again, on_err}
use Rattle.pack_assembly.proofs.PackLemmas.{is_pack}
use Rattle.pack_assembly.proofs.ReadyLemmas.{ready_on, whole_pack}
use Rattle.pack_assembly.proofs.pack.write_pack_of_levels.Goals as goal

pub returns-in-Ok-clause-written : goal.returns-in-Ok-clause-written
returns-in-Ok-clause-written g c = λ true store holds p is are.
    let nodes = g.L.NodeLevels.nodes c.args.levels.now in
    let m : c.in_ok-manifest.manifest.items ≡ manifest_of p = c.in_ok-manifest.ensures ∙ manifest_is p c.args.trees.now nodes are in
    let root : c.digest_of-root.result.0 ≡ root_of p = c.digest_of-root.ensures ∙ ap digest (c.as_slice.ensures.value ∙ m) in
    let rows = c.as_slice-3.ensures.value ∙ c.in_ok-rows.ensures ∙ rows_are p c.args.trees.now nodes are in
    let few : length c.as_slice-2.result.now ≤ 141 = subst (λ (l : List ℕ). length l ≤ 141) (sym (c.as_slice-2.ensures.value ∙ m)) (short_manifest p) in
    let len = c.manifest_record_len.ensures few in
    let long : length c.as_slice-2.result.now ≡ length (manifest_of p) = ap (length {A = ℕ}) (c.as_slice-2.ensures.value ∙ m) in
    let first : 60 + c.from-first.result ≡ 60 + record_len (manifest_kept p) = omega (arith, c.from-first.ensures, len, long) in
    let laid = c.in-Ok.ensures.ready true store holds p is are root rows first in
    let same = subst (λ (ps : List PlacedRow). IsReady p nodes ps) (sym c.as_slice-in-Ok-3.ensures.value) laid.0 in
    let now = ready_on p nodes (g.L.NodeLevels.nodes c.lay_out_apart-placed.new.levels) c.as_slice-in-Ok-3.result.now same c.in-Ok.ensures.nodes in
    let short : length c.as_slice-in-Ok.result.now ≤ 141 = subst (λ (l : List ℕ). length l ≤ 141) (sym (c.as_slice-in-Ok.ensures.value ∙ m)) (short_manifest p) in
    let front : c.as_slice-in-Ok-2.result.now ≡ front_bytes c.digest_of-root.result c.in-Ok.layout.size (manifest_of p) =
    c.as_slice-in-Ok-2.ensures.value ∙ c.in_ok-front-in-Ok.ensures short ∙ ap (front_bytes c.digest_of-root.result c.in-Ok.layout.size) (c.as_slice-in-Ok.ensures.value ∙ m) in
    let bytes : c.as_slice-in-Ok-2.result.now ++ rest_of p ≡ pack (root_of p) (all_kepts p) =
    ap (λ (l : List ℕ). l ++ rest_of p) front ∙ whole_pack p c.digest_of-root.result c.in-Ok.layout.size root laid.1 in
    let packed = is_pack p is laid.0.apart laid.0.short laid.0.size in
    (root, (pack (root_of p) (all_kepts p), packed, subst (Appends (g.W.Write.contents c.args.writer.now) (g.W.Write.contents c.write_parts.new.writer)) bytes (c.in_ok-write_parts-in-Ok.ensures.whole true p now are.heights)))

pub returns-in_err-write_parts-in-Ok-clause-begun : goal.returns-in_err-write_parts-in-Ok-clause-begun
returns-in_err-write_parts-in-Ok-clause-begun g c = λ true store holds p is are.
    let nodes = g.L.NodeLevels.nodes c.args.levels.now in
    let m : c.in_ok-manifest.manifest.items ≡ manifest_of p = c.in_ok-manifest.ensures ∙ manifest_is p c.args.trees.now nodes are in
    let root : c.digest_of-root.result.0 ≡ root_of p = c.digest_of-root.ensures ∙ ap digest (c.as_slice.ensures.value ∙ m) in
    let rows = c.as_slice-3.ensures.value ∙ c.in_ok-rows.ensures ∙ rows_are p c.args.trees.now nodes are in
    let few : length c.as_slice-2.result.now ≤ 141 = subst (λ (l : List ℕ). length l ≤ 141) (sym (c.as_slice-2.ensures.value ∙ m)) (short_manifest p) in
    let len = c.manifest_record_len.ensures few in
    let long : length c.as_slice-2.result.now ≡ length (manifest_of p) = ap (length {A = ℕ}) (c.as_slice-2.ensures.value ∙ m) in
    let first : 60 + c.from-first.result ≡ 60 + record_len (manifest_kept p) = omega (arith, c.from-first.ensures, len, long) in
    let laid = c.in-Ok.ensures.ready true store holds p is are root rows first in
    let same = subst (λ (ps : List PlacedRow). IsReady p nodes ps) (sym c.as_slice-in-Ok-3.ensures.value) laid.0 in
    let now = ready_on p nodes (g.L.NodeLevels.nodes c.lay_out_apart-placed.new.levels) c.as_slice-in-Ok-3.result.now same c.in-Ok.ensures.nodes in
    let short : length c.as_slice-in-Ok.result.now ≤ 141 = subst (λ (l : List ℕ). length l ≤ 141) (sym (c.as_slice-in-Ok.ensures.value ∙ m)) (short_manifest p) in
    let front : c.as_slice-in-Ok-2.result.now ≡ front_bytes c.digest_of-root.result c.in-Ok.layout.size (manifest_of p) =
    c.as_slice-in-Ok-2.ensures.value ∙ c.in_ok-front-in-Ok.ensures short ∙ ap (front_bytes c.digest_of-root.result c.in-Ok.layout.size) (c.as_slice-in-Ok.ensures.value ∙ m) in
    let bytes : c.as_slice-in-Ok-2.result.now ++ rest_of p ≡ pack (root_of p) (all_kepts p) =
    ap (λ (l : List ℕ). l ++ rest_of p) front ∙ whole_pack p c.digest_of-root.result c.in-Ok.layout.size root laid.1 in
    let packed = is_pack p is laid.0.apart laid.0.short laid.0.size in
    on_err c.from_residual-in_err-write_parts-in-Ok.result (inl (pack (root_of p) (all_kepts p), packed, subst (AppendsFront (g.W.Write.contents c.args.writer.now) (g.W.Write.contents c.write_parts.new.writer)) bytes (c.write_parts.ensures.begun true p now are.heights)))

pub returns-clause-too_long : goal.returns-clause-too_long
returns-clause-too_long g c = λ told true store holds p is are.
    let nodes = g.L.NodeLevels.nodes c.args.levels.now in
    let m : c.in_ok-manifest.manifest.items ≡ manifest_of p = c.in_ok-manifest.ensures ∙ manifest_is p c.args.trees.now nodes are in
    let root : c.digest_of-root.result.0 ≡ root_of p = c.digest_of-root.ensures ∙ ap digest (c.as_slice.ensures.value ∙ m) in
    let rows = c.as_slice-3.ensures.value ∙ c.in_ok-rows.ensures ∙ rows_are p c.args.trees.now nodes are in
    let few : length c.as_slice-2.result.now ≤ 141 = subst (λ (l : List ℕ). length l ≤ 141) (sym (c.as_slice-2.ensures.value ∙ m)) (short_manifest p) in
    let len = c.manifest_record_len.ensures few in
    let long : length c.as_slice-2.result.now ≡ length (manifest_of p) = ap (length {A = ℕ}) (c.as_slice-2.ensures.value ∙ m) in
    let first : 60 + c.from-first.result ≡ 60 + record_len (manifest_kept p) = omega (arith, c.from-first.ensures, len, long) in
    c.in-Err.ensures.too_long (err_again {A = Digest} {B = Layout} c.in-Err.fault TooLong told) true store holds p is are root rows first

pub returns-in_err-write_parts-in-Ok-clause-device : goal.returns-in_err-write_parts-in-Ok-clause-device
returns-in_err-write_parts-in-Ok-clause-device g c = λ refuses sorts true store holds p is are told.
    let nodes = g.L.NodeLevels.nodes c.args.levels.now in
    let m : c.in_ok-manifest.manifest.items ≡ manifest_of p = c.in_ok-manifest.ensures ∙ manifest_is p c.args.trees.now nodes are in
    let root : c.digest_of-root.result.0 ≡ root_of p = c.digest_of-root.ensures ∙ ap digest (c.as_slice.ensures.value ∙ m) in
    let rows = c.as_slice-3.ensures.value ∙ c.in_ok-rows.ensures ∙ rows_are p c.args.trees.now nodes are in
    let few : length c.as_slice-2.result.now ≤ 141 = subst (λ (l : List ℕ). length l ≤ 141) (sym (c.as_slice-2.ensures.value ∙ m)) (short_manifest p) in
    let len = c.manifest_record_len.ensures few in
    let long : length c.as_slice-2.result.now ≡ length (manifest_of p) = ap (length {A = ℕ}) (c.as_slice-2.ensures.value ∙ m) in
    let first : 60 + c.from-first.result ≡ 60 + record_len (manifest_kept p) = omega (arith, c.from-first.ensures, len, long) in
    let laid = c.in-Ok.ensures.ready true store holds p is are root rows first in
    let same = subst (λ (ps : List PlacedRow). IsReady p nodes ps) (sym c.as_slice-in-Ok-3.ensures.value) laid.0 in
    let now = ready_on p nodes (g.L.NodeLevels.nodes c.lay_out_apart-placed.new.levels) c.as_slice-in-Ok-3.result.now same c.in-Ok.ensures.nodes in
    c.in_err-write_parts-in-Ok.ensures.device true refuses p now are.heights
    (ap Err (unwritten_device c.in_err-write_parts-in-Ok.field-0.0 (residual c.from_residual-in_err-write_parts-in-Ok.result _ _ c.from_residual-in_err-write_parts-in-Ok.ensures.1 told)))

pub returns-clause-device : goal.returns-clause-device
returns-clause-device g c = λ refuses sorts true store holds p is are told.
    let nodes = g.L.NodeLevels.nodes c.args.levels.now in
    let m : c.in_ok-manifest.manifest.items ≡ manifest_of p = c.in_ok-manifest.ensures ∙ manifest_is p c.args.trees.now nodes are in
    let root : c.digest_of-root.result.0 ≡ root_of p = c.digest_of-root.ensures ∙ ap digest (c.as_slice.ensures.value ∙ m) in
    let rows = c.as_slice-3.ensures.value ∙ c.in_ok-rows.ensures ∙ rows_are p c.args.trees.now nodes are in
    c.in-Err.ensures.device true refuses store sorts holds p is are root rows (err_again {A = Digest} {B = Layout} c.in-Err.fault Device told)
