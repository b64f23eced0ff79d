-- What a snapshot holds, and a shelf over its stock.
use Rattle.std.proofs.Common.{◌≡◌, inr, ℕ, List, [], ◌∷◌, Option, Some, None, length, map, true, refl, sym, ap, subst, ◌∙◌}
use Rattle.std.specs.List.{Contains}
use Rattle.std.proofs.lemmas.List.{length-map}
use Rattle.osm_model.specs.Elements.{Element}
use Rattle.tree_build.specs.StrangeShelves.{HasNoTwin}
use Rattle.tree_node.specs.Nodes.{AreRisingFrom, keys_of}
use Rattle.tree_node.specs.Recorders.{RecorderHolds, RecorderUsed}
use Rattle.tree_node.specs.Shelves.{IsClashFree, SameNodes, Stays}
use Rattle.tree_node.specs.Stocks.{HasNode}
use Rattle.tree_node.specs.declared.digest.Digest.{Digest}
use Rattle.tree_node.specs.declared.recorder.Recorder.{Recorder}
use Rattle.tree_node.specs.declared.stock.Stock.{Stock}
use Rattle.tree_node.specs.declared.tree.Tree.{Tree}
use Rattle.tree_node.specs.declared.tree.Tree.TheVariants.{Objects}
use Rattle.tree_node.proofs.shared.StockLaws.{recorder_used}
use Rattle.osm_keys.specs.Entries.{object_entry}
use Rattle.osm_index.specs.Holdings.{AreHeld}
use Rattle.osm_keys.specs.Grains.{Whole}
use Rattle.osm_keys.specs.Manifests.{top_among}
use Rattle.osm_keys.specs.Publications.{IsNodeIn, IsPublication, Publication}
use Rattle.osm_keys.specs.declared.edition.Edition.{Edition}
use Rattle.osm_keys.specs.declared.manifest.Manifest.{Manifest}
use Rattle.osm_index.specs.internal.HeldTrees.{HoldsTree}
use Rattle.osm_index.specs.internal.Putting.{IsTreeNode}
use Rattle.osm_index.specs.internal.Updates.{IsUnder}
use Rattle.osm_index.proofs.SetLemmas.{RiseAt, set_rises}
use Rattle.osm_keys.proofs.shared.Members.{from_map, in_map}
use Rattle.osm_keys.proofs.shared.OnePublication.{one_entry_list, whole_lists}

-- ---- a shelf over its stock, and what a call leaves

module _ {edition : Edition} {stock : Stock} {found : Manifest} {key : Digest} {p : Publication} (held : AreHeld edition stock found key p)
    (before after : Recorder) (same : SameNodes (HasNode stock) (RecorderHolds before)) (stays : Stays true (RecorderHolds before) (RecorderHolds after)) where
  -- no node has a twin among those that were used
  alone : (x : List ℕ) → IsNodeIn p x → HasNoTwin (RecorderUsed after) x
  alone x is other uses one = held.no_clash other x ((held.nodes other).0 ((same other).0 ((stays other).0 refl (recorder_used after other uses)))) is one

  pub all_held : (x : List ℕ) → IsTreeNode p x → RecorderHolds after x
  all_held x is = (stays x).1 ((same x).1 ((held.nodes x).1 (inr is)))

  pub held_tree : (tree : Tree) → HoldsTree p tree (top_among found.tops tree) (HasNoTwin (RecorderUsed after))
  held_tree tree = record { published = held.is.published; is_top = held.tops tree; nodes = λ x is. alone x (inr (tree, is)) }

  pub held_under : (manifest : Manifest) → manifest.edition ≡ edition → manifest.tops ≡ found.tops → IsUnder p manifest (HasNoTwin (RecorderUsed after))
  held_under manifest same_edition same_tops = record {
    published = held.is.published;
    same_edition = held.is.same_edition ∙ sym same_edition;
    tops_are = λ tree. ap (λ (ds : List Digest). top_among ds tree) same_tops ∙ held.tops tree;
    nodes = λ x is. alone x (inr is);
  }

pub trees_free : (p : Publication) → IsClashFree (IsNodeIn p) → IsClashFree (IsTreeNode p)
trees_free p free a b is_a is_b same = free a b (inr is_a) (inr is_b) same

-- ---- the number of objects

entries_rise : (low : Option (List ℕ)) (objects : List Element) → RiseAt low objects → AreRisingFrom low (keys_of (map (object_entry Whole) objects))
entries_rise low [] rise = tt
entries_rise low (o ∷ objects) rise = (rise.0, entries_rise (Some (object_entry Whole o).key) objects rise.1)

-- the entries of the object tree, one for each object
pub objects_listed : (p : Publication) → IsPublication p → p.entries Objects ≡ map (object_entry Whole) p.objects
objects_listed p is =
    one_entry_list Whole p.objects Objects (p.entries Objects) (map (object_entry Whole) p.objects) (whole_lists p is Objects) (record {
      rising = entries_rise None p.objects (set_rises p.objects is.set);
      members = λ b. (
        (λ h. let found = from_map (object_entry Whole) p.objects b h in (found.0, found.1, found.2)),
        (λ (o, there, e). subst (λ (x : _). Contains (map (object_entry Whole) p.objects) x) (sym e) (in_map (object_entry Whole) p.objects o there)),
      );
    })

pub objects_counted : (p : Publication) → IsPublication p → length (p.entries Objects) ≡ length p.objects
objects_counted p is = ap length (objects_listed p is) ∙ length-map p.objects (object_entry Whole)
