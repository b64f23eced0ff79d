use Rattle.std.proofs.Common.{ap, refl, subst, sym, ◌∙◌}
use Rattle.tree_node.specs.Digests.{digest}
use Rattle.tree_node.specs.Keys.{key_of}
use Rattle.outside_shelf.specs.Shelves.{HasBrought}
use Rattle.pack_update.specs.internal.Updating.{IsUnread}
use Rattle.pack_update.proofs.under.fetch_manifest.Goals as goal

pub returns-in_default-clause-unread : goal.returns-in_default-clause-unread
returns-in_default-clause-unread g c = subst (IsUnread c.args.root.now.0) (sym c.not_given.ensures) tt

pub returns-in-Some-clause-read : goal.returns-in-Some-clause-read
returns-in-Some-clause-read g c = (
  record {
    has_root = ap digest (sym c.in-Some.ensures.some) ∙ c.in-Ok.ensures.given.1;
    wide = c.in-Some.ensures.width;
    fits = c.sequence_fits.ensures;
  },
  subst (HasBrought c.fetch.new.self) c.in-Some.ensures.some c.in-Ok.ensures.given.0,
)

pub returns-in-None-clause-unread : goal.returns-in-None-clause-unread
returns-in-None-clause-unread g c = record {
  bytes = c.in-Ok.bytes.now;
  are = c.fetch.new.self.bytes (key_of c.in-Ok.bytes.now) c.in-Ok.bytes.now c.in-Ok.ensures.given.0;
  has_root = c.in-Ok.ensures.given.1;
  none = c.in-None.ensures.none refl;
}
