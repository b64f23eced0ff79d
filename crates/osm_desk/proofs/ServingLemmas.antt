-- A connection that is opened, served and forgotten.
use Rattle.std.proofs.Common.{◌≡◌, ◌∙◌, ℕ, ap}
use Rattle.std.specs.FinMap.{get}
use Rattle.std.specs.Prelude.{None}
use Rattle.osm_gate.specs.Connections.{Rest}
use Rattle.osm_index.specs.declared.snapshot.Snapshot.{Snapshot}
use Rattle.osm_desk.specs.Contents.{Contents}
use Rattle.osm_desk.specs.OneConnection.{rest_if, rest_of, with_rest, without}
use Rattle.osm_desk.proofs.MapLemmas.{get-put_same, put-removed}

pub opened_rest : (d new : Contents Snapshot) (n : ℕ) (r : Rest) → new ≡ with_rest d n r → rest_of new n ≡ r
opened_rest d new n r is = ap (λ (d : Contents Snapshot). rest_of d n) is ∙ ap rest_if (get-put_same d.connections n r)

-- what is left after all is what there was
pub forgotten : (d opened served new : Contents Snapshot) (n : ℕ) (r : Rest) → get d.connections n ≡ None → opened ≡ with_rest d n r → without served n ≡ without opened n → new ≡ without served n → new ≡ d
forgotten d opened served new n r none is same left =
    left
    ∙ same
    ∙ ap (λ (d : Contents Snapshot). without d n) is
    ∙ ap (λ c. let e : Contents Snapshot = record { mirror = d.mirror; connections = c } in e) (put-removed d.connections n r none)
