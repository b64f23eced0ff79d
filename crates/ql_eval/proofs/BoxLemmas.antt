-- The nodes in a box.
use Rattle.std.proofs.Common.{◌≡◌, ◌↔◌, inl, inr, ℕ, ℤ, List, [], ◌∷◌, ◌++◌, length, map, FitsSigned, w64, Result, Ok, Err, MatchResult, refl, sym, ap, subst, ◌∙◌, arith}
use Rattle.std.specs.Prelude.{IfErr, OnOk}
use Rattle.std.specs.Int.Signed.{<ℤ-≤ℤ_trans, <ℤ_irrefl, ≤ℤ_refl}
use Rattle.std.specs.List.{Contains, flat_map}
use Rattle.osm_model.specs.Boxes.{ExactBox, Holds}
use Rattle.osm_model.specs.Degrees.{Decimal}
use Rattle.osm_model.specs.Edges.{IsCeiling, IsFloor}
use Rattle.osm_model.specs.Elements.{reference}
use Rattle.osm_model.specs.Limits.{BodyInRange}
use Rattle.osm_model.specs.Places.{IsPlace, Place}
use Rattle.osm_model.specs.declared.body.Body.{Body}
use Rattle.osm_model.specs.declared.body.Body.TheVariants as bodies
use Rattle.osm_model.specs.declared.reference.Ref.{Ref}
use Rattle.tree_node.specs.NodeRefs.{binding_of, bindings_of}
use Rattle.tree_node.specs.Nodes.{Binding}
use Rattle.tree_node.specs.Outcomes.{NoMemory}
use Rattle.tree_node.specs.declared.item.Item.{Item}
use Rattle.tree_node.specs.declared.tree.Tree.TheVariants.{Cells}
use Rattle.tree_walk.specs.Choices.{AreThose}
use Rattle.tree_walk.specs.Ranges.{Range}
use Rattle.tree_walk.specs.Walks.{IsEntryIn}
use Rattle.osm_keys.specs.Entries.{cell_entry}
use Rattle.osm_keys.specs.Grains.{Whole, grain_of}
use Rattle.osm_keys.specs.Publications.{IsPublication, Publication}
use Rattle.osm_keys.specs.Ranges.{AreCellRanges, AreColumns, AreRows, cell_range}
use Rattle.osm_keys.proofs.shared.CellLaws.{cell_held}
use Rattle.osm_keys.proofs.shared.Members.{from_map, in_map}
use Rattle.osm_keys.proofs.shared.OneKey.{one_location}
use Rattle.osm_keys.proofs.shared.OneObject.{is_element}
use Rattle.ref_sets.proofs.shared.Adding.{adds_as, adds_nothing, adds_one, adds_to_nothing}
use Rattle.ref_sets.specs.Adding.{Adds, From}
use Rattle.ref_sets.specs.Sets.{IsSetOf}
use Rattle.ql_meaning.specs.Values.{IsRefOf}
use Rattle.ql_eval.specs.Asks.{IsAskedInBox}
use Rattle.ql_eval.specs.Faults.{cause_of_evaluation}
use Rattle.ql_eval.specs.Questions.{NeededBy}
use Rattle.ql_eval.specs.declared.fault.EvalFault.{EvalFault}
use Rattle.ql_eval.specs.Work.{IsInCellsOf}
use Rattle.ql_eval.specs.internal.Affording.{IsSizeOf}
use Rattle.ql_eval.specs.internal.Boxes.{IsCellsAsk, IsFoundIn, IsInBox, IsInRange}
use Rattle.ql_eval.specs.Forms.{HasForm, Names, SaysPlace}
use Rattle.ql_eval.specs.internal.Entries.{AreMisread, IsSaid, Places, PlacesIn, SaysIn}
use Rattle.ql_eval.proofs.EachLemmas.{needed_as}
use Rattle.ql_eval.proofs.EntryLemmas.{entry_names, never_unread, set_as}
use Rattle.ql_eval.proofs.NameLemmas.{one_placed}
use Rattle.ql_eval.proofs.WholeLemmas.{boxed, celled, from_whole, to_whole, whole_cell_found}

place_of : (body : Body) (place : Place) → BodyInRange body → body ≡ bodies.Node place → IsPlace place
place_of body place fits e = subst BodyInRange e fits

-- an entry places one node, in one place
pub node_added : (area : ExactBox) (b : Binding) (r : Ref) (place : Place) (names more : List Ref) → SaysPlace b r place → FitsSigned w64 r.id → Holds area place → more ≡ names ++ r ∷ [] → Adds names more (PlacesIn area b)
node_added area b r place names more says fits holds e =
    adds_one r e ((place, says, holds), fits) (λ s ((other, said, held), fits_too). one_placed b r s place other fits fits_too says said)

pub node_outside : (area : ExactBox) (b : Binding) (r : Ref) (place : Place) (names : List Ref) → SaysPlace b r place → FitsSigned w64 r.id → ¬ Holds area place → Adds names names (PlacesIn area b)
node_outside area b r place names says fits outside =
    adds_nothing (λ s ((other, said, held), fits_too). outside (subst (Holds area) (one_location other place said.is_place says.is_place (sym said.value ∙ says.value)) held))

-- and is one of all
pub node_read : (b : Binding) (r : Ref) (place : Place) (cells more : List Ref) → SaysPlace b r place → FitsSigned w64 r.id → more ≡ cells ++ r ∷ [] → Adds cells more (Places b)
node_read b r place cells more says fits e = adds_one r e ((place, says), fits) (λ s ((other, said), fits_too). one_placed b r s place other fits fits_too says said)

pub nodes_read : (found : List Item) (cells more : List Ref) → Adds cells more (From found (λ item. Places (binding_of item))) → Adds cells more (IsSaid (Names Cells) (bindings_of found))
nodes_read found cells more so = adds_as
    (λ r (item, among, (says, fits)). (binding_of item, in_map binding_of found item among, says, fits))
    (λ r (b, among, says, fits). let (item, has, e) = from_map binding_of found b among in (item, has, subst (λ (c : Binding). Places c r) e (says, fits)))
    so

-- what items add, entries add
pub nodes_added : (area : ExactBox) (found : List Item) (names more : List Ref) → Adds names more (From found (λ item. PlacesIn area (binding_of item))) → Adds names more (IsSaid (SaysIn area) (bindings_of found))
nodes_added area found names more so = adds_as
    (λ r (item, among, (says, fits)). (binding_of item, in_map binding_of found item among, says, fits))
    (λ r (b, among, says, fits). let (item, has, e) = from_map binding_of found b among in (item, has, subst (λ (c : Binding). PlacesIn area c r) e (says, fits)))
    so

-- the entry of a node that lies somewhere is of its form
pub placed_form : (b : Binding) (r : Ref) (place : Place) → SaysPlace b r place → FitsSigned w64 r.id → HasForm Cells b
placed_form b r place says fits = (r, fits, (place, says))

-- ---- a box meets one list of cells

one_floor : (d : Decimal) (y z : ℤ) → IsFloor d y → IsFloor d z → y ≡ z
one_floor d y z first second = grind (arith, (second y).0 ((first y).1 (≤ℤ_refl y)), (first z).0 ((second z).1 (≤ℤ_refl z)))

one_ceiling : (d : Decimal) (y z : ℤ) → IsCeiling d y → IsCeiling d z → y ≡ z
one_ceiling d y z first second = grind (arith, (second y).0 ((first y).1 (≤ℤ_refl y)), (first z).0 ((second z).1 (≤ℤ_refl z)))

one_rows : (south north : ℤ) (these those : List ℕ) → AreRows south north these → AreRows south north those → these ≡ those
one_rows south north these those (inl (_, e)) (inl (_, f)) = e ∙ sym f
one_rows south north these those (inl (below, e)) (inr (above, f)) = absurd (<ℤ_irrefl (<ℤ-≤ℤ_trans below above))
one_rows south north these those (inr (above, e)) (inl (below, f)) = absurd (<ℤ_irrefl (<ℤ-≤ℤ_trans below above))
one_rows south north these those (inr (_, e)) (inr (_, f)) = e ∙ sym f

one_columns : (b : ExactBox) (west east : ℤ) (these those : List (ℕ × ℕ)) → AreColumns b west east these → AreColumns b west east those → these ≡ those
one_columns b west east these those (inl (_, e)) (inl (_, f)) = e ∙ sym f
one_columns b west east these those (inl (around, e)) (inr (between, _)) = absurd (between around)
one_columns b west east these those (inr (between, _)) (inl (around, e)) = absurd (between around)
one_columns b west east these those (inr (_, inl (_, e))) (inr (_, inl (_, f))) = e ∙ sym f
one_columns b west east these those (inr (_, inl (below, e))) (inr (_, inr (above, f))) = absurd (<ℤ_irrefl (<ℤ-≤ℤ_trans below above))
one_columns b west east these those (inr (_, inr (above, e))) (inr (_, inl (below, f))) = absurd (<ℤ_irrefl (<ℤ-≤ℤ_trans below above))
one_columns b west east these those (inr (_, inr (_, e))) (inr (_, inr (_, f))) = e ∙ sym f

pub one_ranges : (b : ExactBox) (these those : List Range) → AreCellRanges b these → AreCellRanges b those → these ≡ those
one_ranges b these those one two =
    let south = one_ceiling b.south.value one.south two.south one.south_is two.south_is in
    let west = one_ceiling b.west.value one.west two.west one.west_is two.west_is in
    let north = one_floor b.north.value one.north two.north one.north_is two.north_is in
    let east = one_floor b.east.value one.east two.east one.east_is two.east_is in
    let rows = one_rows two.south two.north one.rows two.rows (subst (λ (z : ℤ). AreRows two.south z one.rows) north (subst (λ (z : ℤ). AreRows z one.north one.rows) south one.rows_are)) two.rows_are in
    let columns = one_columns b two.west two.east one.columns two.columns (subst (λ (z : ℤ). AreColumns b two.west z one.columns) east (subst (λ (z : ℤ). AreColumns b z one.east one.columns) west one.columns_are)) two.columns_are in
    one.ranges_are ∙ ap (λ (l : List ℕ). flat_map (λ (row : ℕ). map (cell_range row) one.columns) l) rows
    ∙ ap (λ (l : List (ℕ × ℕ)). flat_map (λ (row : ℕ). map (cell_range row) l) two.rows) columns ∙ sym two.ranges_are

-- ---- what the ranges of a box find

module _ (p : Publication) (is : IsPublication p) (area : ExactBox) where
  -- what the entries of one range say
  pub said_in_box : (range : Range) (found : List Binding) → AreThose (IsEntryIn range) (p.entries Cells) found → (r : Ref) → IsSaid (SaysIn area) found r ↔ IsFoundIn p.objects area range r
  said_in_box range found those r = (
    (λ (b, among, (place, says, holds), fits).
        let (o, at, there, node, inside, entry) = (whole_cell_found p is found range those b).0 among in
        let element = is_element p.objects o is.set there in
        let (named_place, said) = entry_names o Cells b element (at, node, entry) in
        let same = one_placed b (reference o) r named_place place element.in_range fits said says in
        let one = one_location named_place place said.is_place says.is_place (sym said.value ∙ says.value) in
        let other = one_location at place (place_of o.body at element.body_in_range node) says.is_place (sym (ap (λ (c : Binding). c.value) entry) ∙ says.value) in
        (o, at, there, same, node, inside, subst (Holds area) (sym other) holds)),
    (λ (o, place, there, named, node, inside, holds).
        let element = is_element p.objects o is.set there in
        let entry = cell_entry Whole place o in
        let (named_place, said) = entry_names o Cells entry element (place, node, refl) in
        let same = one_location place named_place (place_of o.body place element.body_in_range node) said.is_place said.value in
        subst (λ (s : Ref). IsSaid (SaysIn area) found s) named
        (entry, (whole_cell_found p is found range those entry).1 (o, place, there, node, inside, refl), (named_place, said, subst (Holds area) same holds), element.in_range)),
  )

  -- and all of them together
  pub found_in_box : (ranges : List Range) → AreCellRanges area ranges → (r : Ref) → From ranges (IsFoundIn p.objects area) r ↔ IsRefOf p.objects (IsInBox area) r
  found_in_box ranges are r = (
    (λ (range, among, (o, place, there, named, node, inside, holds)). (o, there, named, (place, node, holds))),
    (λ (o, there, named, (place, node, holds)).
        let (range, among, inside) = cell_held p is area ranges are o there place node holds in
        (range, among, (o, place, there, named, node, inside, holds))),
  )

  -- all nodes that one range finds
  pub said_in_range : (range : Range) (found : List Binding) → AreThose (IsEntryIn range) (p.entries Cells) found → (r : Ref) → IsSaid (Names Cells) found r ↔ IsInRange p.objects range r
  said_in_range range found those r = (
    (λ (b, among, (place, says), fits).
        let (o, at, there, node, inside, entry) = (whole_cell_found p is found range those b).0 among in
        let element = is_element p.objects o is.set there in
        let (named_place, said) = entry_names o Cells b element (at, node, entry) in
        (o, at, there, one_placed b (reference o) r named_place place element.in_range fits said says, node, inside)),
    (λ (o, place, there, named, node, inside).
        let element = is_element p.objects o is.set there in
        let entry = cell_entry Whole place o in
        subst (λ (s : Ref). IsSaid (Names Cells) found s) named
        (entry, (whole_cell_found p is found range those entry).1 (o, place, there, node, inside, refl), entry_names o Cells entry element (place, node, refl), element.in_range)),
  )

  pub in_cells : (ranges : List Range) → AreCellRanges area ranges → (r : Ref) → From ranges (IsInRange p.objects) r ↔ IsRefOf p.objects (IsInCellsOf (grain_of p.edition) area) r
  in_cells ranges are r = (
    (λ (range, among, (o, place, there, named, node, inside)). (o, there, named, from_whole p area o (ranges, are, (range, place, among, node, inside)))),
    (λ (o, there, named, cells).
        let (others, are_too, (range, place, among, node, inside)) = to_whole p area o cells in
        (range, subst (λ (l : List Range). Contains l range) (one_ranges area others ranges are_too are) among, (o, place, there, named, node, inside))),
  )

  pub box_needs : (ranges : List Range) → AreCellRanges area ranges → (x : List ℕ) → NeededBy p (From ranges IsCellsAsk) x → NeededBy p (IsAskedInBox p area) x
  box_needs ranges are = needed_as (λ ask (range, among, e). (ranges, boxed p area ranges are, (range, among, e)))

  pub needs_box : (ranges : List Range) → AreCellRanges area ranges → (x : List ℕ) → NeededBy p (IsAskedInBox p area) x → NeededBy p (From ranges IsCellsAsk) x
  needs_box ranges are = needed_as (λ ask (others, are_too, (range, among, e)). (range, subst (λ (l : List Range). Contains l range) (one_ranges area others ranges (celled p area others are_too) are) among, e))

  -- reading what one range found adds its nodes, or is refused for memory
  pub range_added : (range : Range) (found : List Binding) (names more : List Ref) → AreThose (IsEntryIn range) (p.entries Cells) found → (result : Result (Unit {0}) EvalFault)
      → OnOk result (Adds names more (IsSaid (SaysIn area) found)) → IfErr result (AreMisread Cells found)
      → MatchResult result (λ _. Adds names more (IsFoundIn p.objects area range)) (λ fault. cause_of_evaluation fault ≡ NoMemory)
  range_added range found names more those (Ok value) added refused = adds_as (λ r. (said_in_box range found those r).0) (λ r. (said_in_box range found those r).1) added
  range_added range found names more those (Err fault) added refused = elim refused [
    | inl memory ↦ ap cause_of_evaluation memory
    | inr form ↦ absurd (never_unread p is Cells found range those form.1)
  ]

  -- and all nodes that it has
  pub range_read : (range : Range) (found : List Binding) (cells more : List Ref) → AreThose (IsEntryIn range) (p.entries Cells) found → (result : Result (Unit {0}) EvalFault)
      → OnOk result (Adds cells more (IsSaid (Names Cells) found)) → IfErr result (AreMisread Cells found)
      → MatchResult result (λ _. Adds cells more (IsInRange p.objects range)) (λ fault. cause_of_evaluation fault ≡ NoMemory)
  range_read range found cells more those (Ok value) added refused = adds_as (λ r. (said_in_range range found those r).0) (λ r. (said_in_range range found those r).1) added
  range_read range found cells more those (Err fault) added refused = elim refused [
    | inl memory ↦ ap cause_of_evaluation memory
    | inr form ↦ absurd (never_unread p is Cells found range those form.1)
  ]

  -- how many nodes all ranges have
  pub cells_size : (ranges : List Range) (cells sorted : List Ref) (size : ℕ) → AreCellRanges area ranges → Adds [] cells (From ranges (IsInRange p.objects)) → IsSetOf sorted (Contains cells) → size ≡ length sorted
      → IsSizeOf (IsRefOf p.objects (IsInCellsOf (grain_of p.edition) area)) size
  cells_size ranges cells sorted size are so set e = (
    sorted,
    set_as sorted (Contains cells) (IsRefOf p.objects (IsInCellsOf (grain_of p.edition) area))
        (λ r. ((λ has. (in_cells ranges are r).0 ((adds_to_nothing refl so r).0 has)), (λ within. (adds_to_nothing refl so r).1 ((in_cells ranges are r).1 within)))) set,
    e,
  )

  -- the nodes of all ranges, as a set
  pub box_set : (ranges : List Range) (names sorted : List Ref) → AreCellRanges area ranges → Adds [] names (From ranges (IsFoundIn p.objects area)) → IsSetOf sorted (Contains names) → IsSetOf sorted (IsRefOf p.objects (IsInBox area))
  box_set ranges names sorted are so set = set_as sorted (Contains names) (IsRefOf p.objects (IsInBox area))
      (λ r. ((λ has. (found_in_box ranges are r).0 ((adds_to_nothing refl so r).0 has)), (λ in_box. (adds_to_nothing refl so r).1 ((found_in_box ranges are r).1 in_box)))) set
