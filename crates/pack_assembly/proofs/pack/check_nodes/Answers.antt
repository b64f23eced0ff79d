use Rattle.std.proofs.Common.{◌≡◌, ◌∙◌, ◌∷◌, ℕ, Err, ap, length, sym, subst}
use Rattle.osm_keys.specs.Publications.{manifest_of}
use Rattle.tree_node.proofs.shared.TreeLaws.{digest_len}
use Rattle.pack_assembly.proofs.CountLemmas.{are_digests, long_rows}
use Rattle.pack_assembly.proofs.FaultLemmas.{refusal_device, residual}
use Rattle.std.specs.List.{IsDistinct, flat_map}
use Rattle.std.specs.Str.{bytes_eq}
use Rattle.pack_assembly.specs.declared.row.Row.{Row}
use Rattle.pack_assembly.specs.internal.Keys.{key_entries}
use Rattle.pack_assembly.specs.internal.Order.{all_kepts, digests_of, nodes_in}
use Rattle.pack_assembly.proofs.ApartLemmas.{clash_of, from_distinct}
use Rattle.pack_assembly.proofs.KeyLemmas.{keys_are}
use Rattle.pack_assembly.proofs.LevelLemmas.{on_ok}
use Rattle.pack_assembly.proofs.pack.check_nodes.Goals as goal

pub returns-clause-apart : goal.returns-clause-apart
returns-clause-apart g c = λ true store holds p is are root rows.
    let held = c.in_ok-push_nodes.ensures.held true p is are rows holds in
    let keys = keys_are p c.args.root.now.0 c.args.rows.now root rows in
    on_ok c.check_apart.result (c.check_apart.ensures.apart store (key_entries (c.args.root.now.0 ∷ flat_map (λ (row : Row). digests_of (nodes_in p row)) c.args.rows.now)) held)
    (λ distinct. from_distinct (all_kepts p) (subst (IsDistinct bytes_eq) keys distinct))

pub returns-clause-clash : goal.returns-clause-clash
returns-clause-clash g c = λ clash true store holds p is are root rows.
    let held = c.in_ok-push_nodes.ensures.held true p is are rows holds in
    let keys = keys_are p c.args.root.now.0 c.args.rows.now root rows in
    clash_of p is (λ distinct.
    c.check_apart.ensures.clash clash store (key_entries (c.args.root.now.0 ∷ flat_map (λ (row : Row). digests_of (nodes_in p row)) c.args.rows.now)) held (subst (IsDistinct bytes_eq) (sym keys) distinct))

pub returns-in_err-push_nodes-clause-device : goal.returns-in_err-push_nodes-clause-device
returns-in_err-push_nodes-clause-device g c = λ true refuses store sorts holds p is are root rows told.
    c.in_err-push_nodes.ensures.device true refuses sorts p is are (ap Err (refusal_device c.in_err-push_nodes.field-0.0 (residual c.from_residual.result _ _ c.from_residual.ensures.1 told)))

pub returns-clause-device : goal.returns-clause-device
returns-clause-device g c = λ true refuses store sorts holds p is are root rows.
    let keys = c.args.root.now.0 ∷ flat_map (λ (row : Row). digests_of (nodes_in p row)) c.args.rows.now in
    let held = c.in_ok-push_nodes.ensures.held true p is are rows holds in
    let long : length c.args.root.now.0 ≡ 32 = ap (length {A = ℕ}) root ∙ digest_len (manifest_of p) in
    c.check_apart.ensures.device sorts store (key_entries keys) held (are_digests keys (long, long_rows p c.args.rows.now))
