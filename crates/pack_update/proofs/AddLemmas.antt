-- What an update says of what was added.
use Rattle.std.proofs.Common.{◌≡◌, ◌≢◌, ◌↔◌, ℕ, List, Option, sym, ap, subst, ◌∙◌}
use Rattle.opl_codec.specs.declared.change.Change.{Change}
use Rattle.tree_build.specs.Rebuilding.{IsAmong}
use Rattle.tree_node.specs.declared.new_node.NewNode.{NewNode}
use Rattle.osm_keys.specs.Publications.{IsNodeIn, Publication}
use Rattle.osm_index.specs.declared.update.Update.{Update}
use Rattle.osm_index.specs.internal.Updates.{IsUpdateBy}
use Rattle.node_pack.specs.Additions.{IsFurtherReason, bytes_of}
use Rattle.node_pack.specs.Further.{further_header}
use Rattle.node_pack.specs.Packs.{Kept}
use Rattle.node_pack.specs.declared.header.Header.{Header}
use Rattle.node_pack.specs.declared.place.Place.{Place}
use Rattle.node_pack.specs.declared.write_fault.WriteFault.{WriteFault}
use Rattle.node_pack.specs.declared.write_fault.WriteFault.TheVariants.{NotWritten}
use Rattle.pack_update.specs.Adding.{IsAddedOf, IsNextBy}
use Rattle.pack_update.specs.Faults.{IsUnwritten}

module _ (p : Publication) (all : List Change) (update : Update) (made : IsUpdateBy p all update) where
  pub next_is : IsNextBy p all made.0
  next_is = record { published = made.3.is.published; applied = made.1; edition = made.2; applicable = made.4 }

  -- the nodes that are written are those that the next publication has and the old one hasn't
  pub are_new : (nodes : List NewNode) → nodes ≡ update.nodes.items → (x : List ℕ) → IsAmong (bytes_of nodes) x ↔ (IsNodeIn made.0 x × ¬ IsNodeIn p x)
  are_new nodes same x = subst (λ (l : List NewNode). IsAmong (bytes_of l) x ↔ (IsNodeIn made.0 x × ¬ IsNodeIn p x)) (sym same) (made.3.nodes x)

  pub added_is : (header : Header) (number : ℕ) (old : List ℕ → Option Place) (nodes : List Kept) → header ≡ further_header number old update.root.0 nodes → IsAddedOf made.0 (record { manifest = update.manifest; header = header })
  added_is header number old nodes told = record {
    root = ap (λ (h : Header). h.root.0) told ∙ made.3.root;
    manifest = made.3.manifest;
    edition = sym made.3.is.same_edition;
  }

  pub unwritten : (number : ℕ) (old : List ℕ → Option Place) (nodes : List NewNode) (fault : WriteFault) → nodes ≡ update.nodes.items
      → (fault ≢ NotWritten → IsFurtherReason number old update.root.0 (bytes_of nodes) fault) → IsUnwritten p all number fault
  unwritten number old nodes fault same reason = record {
    next = made.0;
    is_next = next_is;
    new = bytes_of nodes;
    are_new = are_new nodes same;
    places = old;
    reason = λ other. subst (λ (root : List ℕ). IsFurtherReason number old root (bytes_of nodes) fault) made.3.root (reason other);
  }
