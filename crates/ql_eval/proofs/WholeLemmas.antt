-- What the ranges of the trees find, where the object tree has the lines.
use Rattle.std.proofs.Common.{◌≡◌, ◌↔◌, ℕ, List, FitsSigned, w64, Option, Some, sym, subst}
use Rattle.std.specs.List.{Contains}
use Rattle.osm_model.specs.Boxes.{ExactBox}
use Rattle.osm_model.specs.Elements.{Element, kind_of, reference}
use Rattle.osm_model.specs.Limits.{HasNoNul}
use Rattle.osm_model.specs.Membership.{BodyLists}
use Rattle.osm_model.specs.Places.{Place}
use Rattle.osm_model.specs.Sets.{object_at}
use Rattle.osm_model.specs.Tagged.{HasTag}
use Rattle.osm_model.specs.declared.body.Body.TheVariants as bodies
use Rattle.osm_model.specs.declared.kind.Kind.{Kind}
use Rattle.osm_model.specs.declared.reference.Ref.{Ref}
use Rattle.tree_node.specs.Nodes.{Binding}
use Rattle.tree_node.specs.declared.tree.Tree.TheVariants.{Backs, Cells, Objects, Tags}
use Rattle.tree_walk.specs.Choices.{AreThose}
use Rattle.tree_walk.specs.Ranges.{IsIn, Range}
use Rattle.tree_walk.specs.Walks.{IsEntryIn}
use Rattle.osm_keys.specs.BoxRanges.{AreBoxRanges}
use Rattle.osm_keys.specs.Entries.{back_entry, cell_entry, object_entry, placed_key, tag_entry}
use Rattle.osm_keys.specs.Grains.{Grain, Whole, grain_of}
use Rattle.osm_keys.specs.Keys.{cell_key}
use Rattle.osm_keys.specs.Publications.{IsPublication, Publication}
use Rattle.osm_keys.specs.Ranges.{AreCellRanges, IsKindOf, back_range, kind_range, object_range, tag_key_range, tag_range}
use Rattle.osm_keys.proofs.shared.CellLaws.{cell_found}
use Rattle.osm_keys.proofs.shared.OnePublication.{whole_grain}
use Rattle.osm_keys.proofs.shared.RangeLaws.{back_found, kind_found, object_is_found, tag_found, tag_key_found}
use Rattle.ql_eval.specs.Work.{IsInCellsOf}

-- what holds of the place of the lines in the publication's edition holds of the object tree
at_whole : (p : Publication) (Says : Grain → Type 0) → Says (grain_of p.edition) → Says Whole
at_whole p Says says = subst Says (whole_grain p.edition) says

module _ (p : Publication) (is : IsPublication p) (found : List Binding) where
  pub whole_object_found : (r : Ref) → FitsSigned w64 r.id → AreThose (IsEntryIn (object_range r)) (p.entries Objects) found
      → (b : Binding) → Contains found b ↔ ((o : Element) × (object_at p.objects r ≡ Some o) × (b ≡ object_entry Whole o))
  whole_object_found r fits those b =
      at_whole p (λ grain. Contains found b ↔ ((o : Element) × (object_at p.objects r ≡ Some o) × (b ≡ object_entry grain o))) (object_is_found p is r fits found those b)

  pub whole_kind_found : (kind : Kind) → AreThose (IsEntryIn (kind_range kind)) (p.entries Objects) found
      → (b : Binding) → Contains found b ↔ ((o : Element) × Contains p.objects o × (kind_of o.body ≡ kind) × (b ≡ object_entry Whole o))
  whole_kind_found kind those b =
      at_whole p (λ grain. Contains found b ↔ ((o : Element) × Contains p.objects o × (kind_of o.body ≡ kind) × (b ≡ object_entry grain o))) (kind_found p is kind found those b)

  pub whole_tag_found : (key value : List ℕ) → HasNoNul key → HasNoNul value → (kind : Option Kind) → AreThose (IsEntryIn (tag_range key value kind)) (p.entries Tags) found
      → (b : Binding) → Contains found b ↔ ((o : Element) × Contains p.objects o × IsKindOf kind (reference o) × HasTag o key value × (b ≡ tag_entry Whole key value o))
  whole_tag_found key value hk hv kind those b =
      at_whole p (λ grain. Contains found b ↔ ((o : Element) × Contains p.objects o × IsKindOf kind (reference o) × HasTag o key value × (b ≡ tag_entry grain key value o)))
      (tag_found p is key value hk hv kind found those b)

  pub whole_tag_key_found : (key : List ℕ) → HasNoNul key → AreThose (IsEntryIn (tag_key_range key)) (p.entries Tags) found
      → (b : Binding) → Contains found b ↔ ((o : Element) × (value : List ℕ) × Contains p.objects o × HasNoNul value × HasTag o key value × (b ≡ tag_entry Whole key value o))
  whole_tag_key_found key hk those b =
      at_whole p (λ grain. Contains found b ↔ ((o : Element) × (value : List ℕ) × Contains p.objects o × HasNoNul value × HasTag o key value × (b ≡ tag_entry grain key value o)))
      (tag_key_found p is key hk found those b)

  pub whole_back_found : (target : Ref) → FitsSigned w64 target.id → (kind : Option Kind) → AreThose (IsEntryIn (back_range target kind)) (p.entries Backs) found
      → (b : Binding) → Contains found b ↔ ((o : Element) × Contains p.objects o × IsKindOf kind (reference o) × BodyLists o.body target × (b ≡ back_entry Whole target o))
  whole_back_found target fits kind those b =
      at_whole p (λ grain. Contains found b ↔ ((o : Element) × Contains p.objects o × IsKindOf kind (reference o) × BodyLists o.body target × (b ≡ back_entry grain target o)))
      (back_found p is target fits kind found those b)

  pub whole_cell_found : (range : Range) → AreThose (IsEntryIn range) (p.entries Cells) found
      → (b : Binding) → Contains found b ↔ ((o : Element) × (place : Place) × Contains p.objects o × (o.body ≡ bodies.Node place) × IsIn range (cell_key place o.id) × (b ≡ cell_entry Whole place o))
  whole_cell_found range those b =
      at_whole p
      (λ grain.
      Contains found b ↔ ((o : Element) × (place : Place) × Contains p.objects o × (o.body ≡ bodies.Node place) × IsIn range (placed_key grain place o.id) × (b ≡ cell_entry grain place o)))
      (cell_found p is range found those b)

-- ---- the cells of a box

module _ (p : Publication) (area : ExactBox) where
  pub boxed : (ranges : List Range) → AreCellRanges area ranges → AreBoxRanges (grain_of p.edition) area ranges
  boxed ranges are = subst (λ (grain : Grain). AreBoxRanges grain area ranges) (sym (whole_grain p.edition)) are

  pub celled : (ranges : List Range) → AreBoxRanges (grain_of p.edition) area ranges → AreCellRanges area ranges
  celled ranges are = at_whole p (λ grain. AreBoxRanges grain area ranges) are

  pub from_whole : (o : Element) → IsInCellsOf Whole area o → IsInCellsOf (grain_of p.edition) area o
  from_whole o inside = subst (λ (grain : Grain). IsInCellsOf grain area o) (sym (whole_grain p.edition)) inside

  pub to_whole : (o : Element) → IsInCellsOf (grain_of p.edition) area o → IsInCellsOf Whole area o
  to_whole o inside = at_whole p (λ grain. IsInCellsOf grain area o) inside
