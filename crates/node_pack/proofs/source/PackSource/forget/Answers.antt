use Rattle.std.proofs.Common.{List, ℕ, ap, subst, ◌∙◌}
use Rattle.node_pack.specs.Known.{IsKnown}
use Rattle.node_pack.proofs.source.PackSource.forget.Goals as goal

pub returns-clause-over : goal.returns-clause-over
returns-clause-over g c = λ place_of root nodes over. record {
  bytes = over.bytes;
  is_read = over.is_read;
  are = over.are;
  rooted = over.rooted;
  manifest = over.manifest;
  near = over.near;
  size = over.size;
  trues = c.in_ok-places.ensures.trues place_of (ap place_of over.rooted ∙ over.manifest);
}

pub returns-clause-knows : goal.returns-clause-knows
returns-clause-knows g c = λ place_of root nodes over.
    subst (λ (key : List ℕ). IsKnown c.in_ok-places.places key) over.rooted (c.in_ok-places.ensures.known over.near)
