-- What `>` and `<` give and ask, in terms of what single references list and are listed by.
use Rattle.std.proofs.Common.{◌≡◌, ◌≢◌, ◌↔◌, ◌⊎◌, inl, inr, ℕ, ◌++◌, List, None, refl, sym, ap, subst, ◌∙◌, arith}
use Rattle.std.specs.List.{Contains}
use Rattle.osm_model.specs.Elements.{Element, kind_of, reference}
use Rattle.osm_model.specs.Membership.{BodyLists}
use Rattle.osm_model.specs.declared.body.Body.{Body}
use Rattle.osm_model.specs.declared.body.Body.TheVariants as bodies
use Rattle.osm_model.specs.declared.kind.Kind.{Kind}
use Rattle.osm_model.specs.declared.kind.Kind.TheVariants as kinds
use Rattle.osm_model.specs.declared.reference.Ref.{Ref}
use Rattle.osm_keys.specs.Publications.{Publication}
use Rattle.ql_syntax.specs.declared.recursion.Recursion.TheVariants as recursions
use Rattle.ref_sets.proofs.shared.Adding.{adds_as, adds_list, adds_then}
use Rattle.ref_sets.specs.Adding.{Adds, From}
use Rattle.ref_sets.specs.Sets.{IsSetOf}
use Rattle.ql_meaning.specs.Values.{IsAbove, IsBelow, IsDown, IsParent, IsReached, IsRefOf, IsUp}
use Rattle.ql_eval.specs.Asks.{AskedByRecursion, IsOfKindIn, IsWayBelow}
use Rattle.ql_eval.specs.Questions.{Ask, NeededBy}
use Rattle.ql_eval.specs.internal.Entries.{IsThere}
use Rattle.ref_sets.specs.Kinds.{IsBetween}
use Rattle.ql_eval.specs.internal.Links.{AreThere, IsBackAsk, IsBelowAsk, IsBelowThere, IsListedOf, IsMemberAsk, IsMemberBelow, ListsIt}
use Rattle.ql_eval.proofs.EachLemmas.{needed_as, needed_or}
use Rattle.ql_eval.proofs.EntryLemmas.{set_as}
use Rattle.ref_sets.proofs.shared.Kinds.{is_one_kind}

-- ---- kinds

pub all_kinds : (r : Ref) → IsBetween kinds.Node kinds.Rel r
all_kinds r = at r.kind refl
  where
    at : (kind : Kind) → r.kind ≡ kind → IsBetween kinds.Node kinds.Rel r
    at kinds.Node e = record { not_below = rw e (omega arith); not_above = rw e (omega arith) }
    at kinds.Way e = record { not_below = rw e (omega arith); not_above = rw e (omega arith) }
    at kinds.Rel e = record { not_below = rw e (omega arith); not_above = rw e (omega arith) }

-- from nodes to ways is all but relations
pub no_relation : (r : Ref) → IsBetween kinds.Node kinds.Way r → r.kind ≢ kinds.Rel
no_relation r is e = let above = rw e at is.not_above in absurd (omega (arith, above))

pub node_or_way : (r : Ref) → r.kind ≢ kinds.Rel → IsBetween kinds.Node kinds.Way r
node_or_way r other = at r.kind refl
  where
    at : (kind : Kind) → r.kind ≡ kind → IsBetween kinds.Node kinds.Way r
    at kinds.Node e = record { not_below = rw e (omega arith); not_above = rw e (omega arith) }
    at kinds.Way e = record { not_below = rw e (omega arith); not_above = rw e (omega arith) }
    at kinds.Rel e = absurd (other e)

-- ways list nodes alone
pub ways_list_nodes : (body : Body) (r : Ref) → kind_of body ≡ kinds.Way → BodyLists body r → r.kind ≡ kinds.Node
ways_list_nodes (bodies.Node place) r e lists = absurd lists
ways_list_nodes (bodies.Way nodes) r e lists = lists.0
ways_list_nodes (bodies.Rel members) r e lists = cc

-- the references of a set that are of one kind
pub of_one : (some all : List Ref) (kind : Kind) → ((r : Ref) → Contains some r ↔ (Contains all r × IsBetween kind kind r)) → (r : Ref) → Contains some r ↔ (Contains all r × (r.kind ≡ kind))
of_one some all kind are r = ((λ has. let so = (are r).0 has in (so.0, (is_one_kind kind r).0 so.1)), (λ has. (are r).1 (has.0, (is_one_kind kind r).1 has.1)))

-- ---- what is below objects of one kind

module _ (objects : List Element) (set : List Ref) (kind : Kind) (names : List Ref) (are : (r : Ref) → Contains names r ↔ (Contains set r × (r.kind ≡ kind))) where
  listed_below : (o : Element) → Contains objects o → From names (IsListedOf objects) (reference o) → IsBelow objects set kind o
  listed_below o there (name, among, (parent, has, named, lists)) =
      let so = (are name).0 among in
      (parent, record { there = has; child_there = there; lists = lists }, ap (λ (s : Ref). s.kind) named ∙ so.1, subst (λ (s : Ref). Contains set s) (sym named) so.0)

  below_listed : (o : Element) → IsBelow objects set kind o → From names (IsListedOf objects) (reference o)
  below_listed o (parent, is, of_kind, in_set) = (reference parent, (are (reference parent)).1 (in_set, of_kind), (parent, is.there, refl, is.lists))

  pub below_of : (r : Ref) → From names (IsListedOf objects) r → IsThere objects r → IsRefOf objects (IsBelow objects set kind) r
  below_of r listed (o, there, named) = (o, there, named, listed_below o there (subst (λ (s : Ref). From names (IsListedOf objects) s) (sym named) listed))

  pub of_below : (r : Ref) → IsRefOf objects (IsBelow objects set kind) r → From names (IsListedOf objects) r × IsThere objects r
  of_below r (o, there, named, below) = (subst (λ (s : Ref). From names (IsListedOf objects) s) named (below_listed o below), (o, there, named))

  -- the object that lists something is one of them
  pub one_of_set : (o : Element) (name : Ref) → reference o ≡ name → Contains names name → IsOfKindIn set kind (reference o)
  one_of_set o name named among = subst (λ (s : Ref). IsOfKindIn set kind s) (sym named) ((are name).0 among)

-- ---- `>`

module _ (p : Publication) (set ways relations : List Ref)
    (ways_are : (r : Ref) → Contains ways r ↔ (Contains set r × (r.kind ≡ kinds.Way))) (relations_are : (r : Ref) → Contains relations r ↔ (Contains set r × (r.kind ≡ kinds.Rel))) where
  abbrev objects : List Element
  objects = p.objects

  way_below : (o : Element) (way : Ref) → reference o ≡ way → way.kind ≡ kinds.Way → IsBelowThere objects relations kinds.Node kinds.Way way → IsWayBelow objects set (reference o)
  way_below o way named of_kind ((listed, between), there) =
      subst (λ (s : Ref). IsWayBelow objects set s) (sym named) (of_kind, below_of objects set kinds.Rel relations relations_are way listed there)

  ways_ask : (ask : Ask) → IsBelowAsk p ways kinds.Node kinds.Rel ask → AskedByRecursion p recursions.Down set ask
  ways_ask ask (inl (way, among, (other, e))) = inl (way, (((ways_are way).0 among).0, other), e)
  ways_ask ask (inr (r, ((way, among, (o, there, named, lists)), between), e)) = inr (inl (r, (o, there, one_of_set objects set kinds.Way ways ways_are o way named among, lists), e))

  pub ways_need : (x : List ℕ) → NeededBy p (IsBelowAsk p ways kinds.Node kinds.Rel) x → NeededBy p (AskedByRecursion p recursions.Down set) x
  ways_need = needed_as ways_ask

  members_ask : (ask : Ask) → IsMemberAsk p relations ask → AskedByRecursion p recursions.Down set ask
  members_ask ask (inl (inl (r, among, (other, e)))) = inl (r, (((relations_are r).0 among).0, other), e)
  members_ask ask (inl (inr (r, ((name, among, (o, there, named, lists)), between), e))) =
      inr (inr (inl (r, (no_relation r between, (o, there, one_of_set objects set kinds.Rel relations relations_are o name named among, lists)), e)))
  members_ask ask (inr (inl (way, (of_kind, ((listed, between), there)), e))) =
      inr (inr (inr (inl (way, (of_kind, below_of objects set kinds.Rel relations relations_are way listed there), e))))
  members_ask ask (inr (inr (r, (way, of_kind, below, (o, there, named, lists)), e))) = inr (inr (inr (inr (r, (o, there, way_below o way named of_kind below, lists), e))))

  pub members_need : (x : List ℕ) → NeededBy p (IsMemberAsk p relations) x → NeededBy p (AskedByRecursion p recursions.Down set) x
  members_need = needed_as members_ask

  ways_below : (way : Ref) → way.kind ≡ kinds.Way → IsRefOf objects (IsBelow objects set kinds.Rel) way → IsBelowThere objects relations kinds.Node kinds.Way way
  ways_below way of_kind below =
      let so = of_below objects set kinds.Rel relations relations_are way below in
      ((so.0, node_or_way way (λ is. let no : kinds.Way ≡ kinds.Rel = sym of_kind ∙ is in cc)), so.1)

  down_ask : (ask : Ask) → AskedByRecursion p recursions.Down set ask → IsBelowAsk p ways kinds.Node kinds.Rel ask ⊎ IsMemberAsk p relations ask
  down_ask ask (inl (r, (in_set, other), e)) = at r.kind refl
    where
      at : (kind : Kind) → r.kind ≡ kind → IsBelowAsk p ways kinds.Node kinds.Rel ask ⊎ IsMemberAsk p relations ask
      at kinds.Node is = absurd (other is)
      at kinds.Way is = inl (inl (r, (ways_are r).1 (in_set, is), (other, e)))
      at kinds.Rel is = inr (inl (inl (r, (relations_are r).1 (in_set, is), (other, e))))
  down_ask ask (inr (inl (r, (o, there, has, lists), e))) = inl (inr (r, ((reference o, (ways_are (reference o)).1 has, (o, there, refl, lists)), all_kinds r), e))
  down_ask ask (inr (inr (inl (r, (other, (o, there, has, lists)), e)))) =
      inr (inl (inr (r, ((reference o, (relations_are (reference o)).1 has, (o, there, refl, lists)), node_or_way r other), e)))
  down_ask ask (inr (inr (inr (inl (way, (of_kind, below), e))))) = inr (inr (inl (way, (of_kind, ways_below way of_kind below), e)))
  down_ask ask (inr (inr (inr (inr (r, (o, there, (of_kind, below), lists), e))))) =
      inr (inr (inr (r, (reference o, of_kind, ways_below (reference o) of_kind below, (o, there, refl, lists)), e)))

  pub down_splits : (x : List ℕ) → NeededBy p (AskedByRecursion p recursions.Down set) x → NeededBy p (IsBelowAsk p ways kinds.Node kinds.Rel) x ⊎ NeededBy p (IsMemberAsk p relations) x
  down_splits x needs = needed_or x (needed_as down_ask x needs)

  -- what was found is what `>` gives
  found_down : (r : Ref) → IsBelowThere objects ways kinds.Node kinds.Rel r ⊎ IsMemberBelow objects relations r → IsRefOf objects (IsDown objects set) r
  found_down r (inl ((listed, between), there)) = let (o, has, named, below) = below_of objects set kinds.Way ways ways_are r listed there in (o, has, named, inl below)
  found_down r (inr (inl ((listed, between), there))) =
      let (o, has, named, below) = below_of objects set kinds.Rel relations relations_are r listed there in
      (o, has, named, inr (inl ((λ is. no_relation r between (ap (λ (s : Ref). s.kind) (sym named) ∙ is)), below)))
  found_down r (inr (inr ((way, of_kind, ((listed, between), there_too), (w, has, named, lists)), (o, there, is)))) =
      let w_listed = subst (λ (s : Ref). From relations (IsListedOf objects) s) (sym named) listed in
      let w_below = listed_below objects set kinds.Rel relations relations_are w has w_listed in (
        o,
        there,
        is,
        inr (inr (
          w,
          record { there = has; child_there = there; lists = subst (λ (s : Ref). BodyLists w.body s) (sym is) lists },
          ap (λ (s : Ref). s.kind) named ∙ of_kind,
          w_below,
        )),
      )

  down_found : (r : Ref) → IsRefOf objects (IsDown objects set) r → IsBelowThere objects ways kinds.Node kinds.Rel r ⊎ IsMemberBelow objects relations r
  down_found r (o, there, named, (inl below)) = let so = of_below objects set kinds.Way ways ways_are r (o, there, named, below) in inl ((so.0, all_kinds r), so.1)
  down_found r (o, there, named, (inr (inl (other, below)))) =
      let so = of_below objects set kinds.Rel relations relations_are r (o, there, named, below) in
      inr (inl ((so.0, node_or_way r (λ is. other (ap (λ (s : Ref). s.kind) named ∙ is))), so.1))
  down_found r (o, there, named, (inr (inr (way, parent, of_kind, below)))) =
      let so = of_below objects set kinds.Rel relations relations_are (reference way) (way, parent.there, refl, below) in
      let between : IsBetween kinds.Node kinds.Way (reference way) = node_or_way (reference way) (λ is. let no : kinds.Way ≡ kinds.Rel = sym of_kind ∙ is in cc) in
      inr (inr (
        (reference way, of_kind, ((so.0, between), so.1), (way, parent.there, refl, subst (λ (s : Ref). BodyLists way.body s) named parent.lists)),
        (o, there, named),
      ))

  pub down_set : (refs more sorted : List Ref) → IsSetOf refs (IsBelowThere objects ways kinds.Node kinds.Rel) → Adds refs more (IsMemberBelow objects relations) → IsSetOf sorted (Contains more)
      → IsSetOf sorted (IsRefOf objects (IsReached objects recursions.Down set))
  down_set refs more sorted first adds set_of_more = set_as sorted (Contains more) (IsRefOf objects (IsReached objects recursions.Down set))
      (λ r. (
        (λ has. found_down r (elim ((adds.is r).0 has) [ inl before ↦ inl ((first.members r).0 before) | inr new ↦ inr new ])),
        (λ is. (adds.is r).1 (elim (down_found r is) [ inl before ↦ inl ((first.members r).1 before) | inr new ↦ inr new ])),
      )) set_of_more

-- ---- the nodes and ways of relations, and what these ways list

module _ (p : Publication) (relations members ways : List Ref) (are : IsSetOf members (IsBelowThere p.objects relations kinds.Node kinds.Way))
    (ways_are : (r : Ref) → Contains ways r ↔ (Contains members r × (r.kind ≡ kinds.Way))) where
  inner_ask : (ask : Ask) → IsBelowAsk p ways kinds.Node kinds.Rel ask → IsMemberAsk p relations ask
  inner_ask ask (inl (way, among, (other, e))) = let so = (ways_are way).0 among in inr (inl (way, (so.1, (are.members way).0 so.0), e))
  inner_ask ask (inr (r, ((way, among, listed), between), e)) = let so = (ways_are way).0 among in inr (inr (r, (way, so.1, (are.members way).0 so.0, listed), e))

  pub inner_needs : (x : List ℕ) → NeededBy p (IsBelowAsk p ways kinds.Node kinds.Rel) x → NeededBy p (IsMemberAsk p relations) x
  inner_needs = needed_as inner_ask

  member_ask : (ask : Ask) → IsMemberAsk p relations ask → IsBelowAsk p relations kinds.Node kinds.Way ask ⊎ IsBelowAsk p ways kinds.Node kinds.Rel ask
  member_ask ask (inl below) = inl below
  member_ask ask (inr (inl (way, (of_kind, below), e))) =
      inr (inl (way, (ways_are way).1 ((are.members way).1 below, of_kind), ((λ node. let no : kinds.Way ≡ kinds.Node = sym of_kind ∙ node in cc), e)))
  member_ask ask (inr (inr (r, (way, of_kind, below, listed), e))) = inr (inr (r, ((way, (ways_are way).1 ((are.members way).1 below, of_kind), listed), all_kinds r), e))

  pub members_split : (x : List ℕ) → NeededBy p (IsMemberAsk p relations) x → NeededBy p (IsBelowAsk p relations kinds.Node kinds.Way) x ⊎ NeededBy p (IsBelowAsk p ways kinds.Node kinds.Rel) x
  members_split x needs = needed_or x (needed_as member_ask x needs)

  -- the ways are there
  pub ways_there : AreThere p.objects ways
  ways_there r among = ((are.members r).0 ((ways_are r).0 among).0).1

  pub members_added : (inner list mid more : List Ref) → IsSetOf inner (IsBelowThere p.objects ways kinds.Node kinds.Rel) → mid ≡ list ++ members → more ≡ mid ++ inner → Adds list more (IsMemberBelow p.objects relations)
  members_added inner list mid more is one two = adds_as
      (λ r has. elim has [
        | inl member ↦ inl ((are.members r).0 member)
        | inr inside ↦ (let ((way, among, listed), between) = ((is.members r).0 inside).0 in let so = (ways_are way).0 among in inr ((way, so.1, (are.members way).0 so.0, listed), ((is.members r).0 inside).1))
      ])
      (λ r so. elim so [
        | inl below ↦ inl ((are.members r).1 below)
        | inr inside ↦ (let ((way, of_kind, below, listed), there) = inside in inr ((is.members r).1 (((way, (ways_are way).1 ((are.members way).1 below, of_kind), listed), all_kinds r), there)))
      ])
      (adds_then (adds_list members one) (adds_list inner two))

-- ---- `<`

pub children_need : (p : Publication) (set children : List Ref) → ((r : Ref) → Contains children r ↔ (Contains set r × IsBetween kinds.Node kinds.Way r)) → (x : List ℕ) → NeededBy p (From children (IsBackAsk None)) x
    → NeededBy p (AskedByRecursion p recursions.Up set) x
children_need p set children are = needed_as (λ ask (name, among, e). let (in_set, between) = (are name).0 among in inl (name, (in_set, no_relation name between), e))

module _ (p : Publication) (set children refs ways : List Ref) (children_are : (r : Ref) → Contains children r ↔ (Contains set r × IsBetween kinds.Node kinds.Way r))
    (are : IsSetOf refs (From children (ListsIt p.objects None))) (ways_are : (r : Ref) → Contains ways r ↔ (Contains refs r × (r.kind ≡ kinds.Way))) where
  -- what is above the first is listed
  above_listed : (kind : Kind) → kind ≢ kinds.Rel → (o : Element) → IsAbove p.objects set kind o → Contains refs (reference o)
  above_listed kind other o (child, parent, of_kind, in_set) =
      let no : (reference child).kind ≢ kinds.Rel = λ is. other (sym of_kind ∙ is) in
      (are.members (reference o)).1 (reference child, (children_are (reference child)).1 (in_set, node_or_way (reference child) no), (o, parent.there, refl, (tt, parent.lists)))

  -- a way that `<` gives was listed
  up_way : (r : Ref) → r.kind ≡ kinds.Way → IsRefOf p.objects (IsUp p.objects set) r → Contains ways r
  up_way r of_kind (o, there, named, (inl above)) = (ways_are r).1 (subst (λ (s : Ref). Contains refs s) named (above_listed kinds.Node (λ e. cc) o above), of_kind)
  up_way r of_kind (o, there, named, (inr (inl above))) = (ways_are r).1 (subst (λ (s : Ref). Contains refs s) named (above_listed kinds.Way (λ e. cc) o above), of_kind)
  up_way r of_kind (o, there, named, (inr (inr (way, parent, is_way, above)))) =
      let o_way : kind_of o.body ≡ kinds.Way = ap (λ (s : Ref). s.kind) named ∙ of_kind in
      let no : kinds.Way ≡ kinds.Node = sym is_way ∙ ways_list_nodes o.body (reference way) o_way parent.lists in
      cc

  module _ (there_all : AreThere p.objects set) where
    listed_up : (r : Ref) → Contains refs r → IsRefOf p.objects (IsUp p.objects set) r
    listed_up r has =
        let (name, among, (o, there, named, (any, lists))) = (are.members r).0 has in
        let (in_set, between) = (children_are name).0 among in
        let (child, child_there, is) = there_all name in_set in
        let parent : IsParent p.objects o child = record { there = there; child_there = child_there; lists = subst (λ (s : Ref). BodyLists o.body s) (sym is) lists } in
        let in_too : Contains set (reference child) = subst (λ (s : Ref). Contains set s) (sym is) in_set in
        (o, there, named, at o child parent in_too (λ rel. no_relation name between (ap (λ (s : Ref). s.kind) (sym is) ∙ rel)) (kind_of child.body) refl)
      where
        at : (o child : Element) → IsParent p.objects o child → Contains set (reference child) → kind_of child.body ≢ kinds.Rel → (kind : Kind) → kind_of child.body ≡ kind → IsUp p.objects set o
        at o child parent in_set other kinds.Node is = inl (child, parent, is, in_set)
        at o child parent in_set other kinds.Way is = inr (inl (child, parent, is, in_set))
        at o child parent in_set other kinds.Rel is = absurd (other is)

    outer_ask : (ask : Ask) → From ways (IsBackAsk None) ask → AskedByRecursion p recursions.Up set ask
    outer_ask ask (name, among, e) = let so = (ways_are name).0 among in inr (name, (so.1, listed_up name so.0), e)

    up_ask : (ask : Ask) → AskedByRecursion p recursions.Up set ask → From children (IsBackAsk None) ask ⊎ From ways (IsBackAsk None) ask
    up_ask ask (inl (r, (in_set, other), e)) = inl (r, (children_are r).1 (in_set, node_or_way r other), e)
    up_ask ask (inr (r, (of_kind, up), e)) = inr (r, up_way r of_kind up, e)

    pub outer_needs : (x : List ℕ) → NeededBy p (From ways (IsBackAsk None)) x → NeededBy p (AskedByRecursion p recursions.Up set) x
    outer_needs = needed_as outer_ask

    pub up_splits : (x : List ℕ) → NeededBy p (AskedByRecursion p recursions.Up set) x → NeededBy p (From children (IsBackAsk None)) x ⊎ NeededBy p (From ways (IsBackAsk None)) x
    up_splits x needs = needed_or x (needed_as up_ask x needs)

    -- what lists such a way
    outer_up : (r : Ref) → From ways (ListsIt p.objects None) r → IsRefOf p.objects (IsUp p.objects set) r
    outer_up r (way, among, (o, there, named, (any, lists))) =
        let so = (ways_are way).0 among in
        let (child_name, child_among, (w, w_there, w_named, (any_too, w_lists))) = (are.members way).0 so.0 in
        let (in_set, between) = (children_are child_name).0 child_among in
        let (child, child_there, is) = there_all child_name in_set in
        let w_way : kind_of w.body ≡ kinds.Way = ap (λ (s : Ref). s.kind) w_named ∙ so.1 in
        let child_node : kind_of child.body ≡ kinds.Node = ap (λ (s : Ref). s.kind) is ∙ ways_list_nodes w.body child_name w_way w_lists in
        let inside : IsParent p.objects w child = record { there = w_there; child_there = child_there; lists = subst (λ (s : Ref). BodyLists w.body s) (sym is) w_lists } in
        let outside : IsParent p.objects o w = record { there = there; child_there = w_there; lists = subst (λ (s : Ref). BodyLists o.body s) (sym w_named) lists } in
        (o, there, named, inr (inr (w, outside, w_way, (child, inside, child_node, subst (λ (s : Ref). Contains set s) (sym is) in_set))))

    up_found : (r : Ref) → IsRefOf p.objects (IsUp p.objects set) r → Contains refs r ⊎ From ways (ListsIt p.objects None) r
    up_found r (o, there, named, (inl above)) = inl (subst (λ (s : Ref). Contains refs s) named (above_listed kinds.Node (λ e. cc) o above))
    up_found r (o, there, named, (inr (inl above))) = inl (subst (λ (s : Ref). Contains refs s) named (above_listed kinds.Way (λ e. cc) o above))
    up_found r (o, there, named, (inr (inr (way, parent, is_way, above)))) =
        inr (reference way, (ways_are (reference way)).1 (above_listed kinds.Node (λ e. cc) way above, is_way), (o, there, named, (tt, parent.lists)))

    pub up_set : (outer sorted : List Ref) → IsSetOf outer (From ways (ListsIt p.objects None)) → IsSetOf sorted (λ r. Contains refs r ⊎ Contains outer r)
        → IsSetOf sorted (IsRefOf p.objects (IsReached p.objects recursions.Up set))
    up_set outer sorted is both = set_as sorted (λ r. Contains refs r ⊎ Contains outer r) (IsRefOf p.objects (IsReached p.objects recursions.Up set))
        (λ r. (
          (λ has. elim has [ inl before ↦ listed_up r before | inr new ↦ outer_up r ((is.members r).0 new) ]),
          (λ up. elim (up_found r up) [ inl before ↦ inl before | inr new ↦ inr ((is.members r).1 new) ]),
        )) both
