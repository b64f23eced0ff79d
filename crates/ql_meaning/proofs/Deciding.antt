-- What the definitions of meanings ask can be decided, of each object of a list.
use Rattle.std.proofs.Common.{◌≡◌, ℕ, List, [], ◌∷◌, map, ◌⊎◌, inl, inr, Bool, true, false, ℤ, refl, sym, ap, subst, arith}
use Rattle.std.proofs.lemmas.Int.{by_lt_z, ints}
use Rattle.std.proofs.lemmas.Slice.Eq.{bytes_eq-Decides}
use Rattle.std.specs.Bool.{Decides}
use Rattle.std.specs.List.{AllByRecursion, Contains}
use Rattle.std.specs.Ordering.{eq_by_cmp}
use Rattle.std.specs.Prelude.{◌<ℤ◌, ◌≤ℤ◌, bytes_eq, pos}
use Rattle.osm_model.specs.Boxes.{ExactBox, Holds, Spans}
use Rattle.osm_model.specs.Edges.{IsGreater, IsAtLeast, IsAtMost}
use Rattle.osm_model.specs.Elements.{Element, kind_of, ref_cmp, reference}
use Rattle.osm_model.specs.Membership.{BodyLists}
use Rattle.osm_model.specs.Places.{Place}
use Rattle.osm_model.specs.Tagged.{HasKeyOf, HasTag}
use Rattle.osm_model.specs.declared.body.Body.{Body}
use Rattle.osm_model.specs.declared.body.Body.TheVariants as bodies
use Rattle.osm_model.specs.declared.kind.Kind.{Kind}
use Rattle.osm_model.specs.declared.kind.Kind.TheVariants as kinds
use Rattle.osm_model.specs.declared.member.Member.{Member}
use Rattle.osm_model.specs.declared.reference.Ref.{Ref}
use Rattle.osm_model.specs.declared.tag.Tag.{Tag}
use Rattle.ql_syntax.specs.Filters.{Filter, InSet, HasKey, KeyIs, LacksKey, KeyIsNot, Ids, Within, Via}
use Rattle.ql_syntax.specs.declared.path.Path.{Path}
use Rattle.ql_syntax.specs.declared.path.Path.TheVariants as paths
use Rattle.ql_syntax.specs.declared.pick.Pick.{Pick}
use Rattle.ql_syntax.specs.declared.pick.Pick.TheVariants as picks
use Rattle.ql_syntax.specs.declared.recursion.Recursion.{Recursion}
use Rattle.ql_syntax.specs.declared.recursion.Recursion.TheVariants as recursions
use Rattle.ref_sets.proofs.shared.References.{equal_is_same, equal_itself}
use Rattle.ql_meaning.proofs.shared.Chains.{first_is_there, last_is_there}
use Rattle.ref_sets.proofs.shared.Adding.{first_or_in_rest, here, in_rest, none}
use Rattle.ref_sets.specs.NamedSets.{Env}
use Rattle.ql_meaning.specs.Values.{IsAbove as IsAboveOf, IsBelow, IsChain, IsDown, IsIn, IsOfKind, IsOnPath, IsPicked, IsReached, IsSelected, IsUp, Link, Longer, Passes}

-- it is so, or it isn't
abbrev pub Dec : Type 0 → Type 0
Dec P = P ⊎ (P → ⊥)

-- ---- ways to decide

module _ {P Q : Type 0} where
  pub dec_as : (P → Q) → (Q → P) → Dec P → Dec Q
  dec_as to from (inl p) = inl (to p)
  dec_as to from (inr isnt) = inr (λ q. isnt (from q))

  pub dec_both : Dec P → Dec Q → Dec (P × Q)
  dec_both (inl p) (inl q) = inl (p, q)
  dec_both (inl p) (inr isnt) = inr (λ both. isnt both.1)
  dec_both (inr isnt) other = inr (λ both. isnt both.0)

  pub dec_either : Dec P → Dec Q → Dec (P ⊎ Q)
  dec_either (inl p) other = inl (inl p)
  dec_either (inr isnt) (inl q) = inl (inr q)
  dec_either (inr isnt) (inr not_too) = inr (λ one. elim one [ inl p ↦ isnt p | inr q ↦ not_too q ])

pub dec_not : {P : Type 0} → Dec P → Dec (P → ⊥)
dec_not (inl p) = inr (λ isnt. isnt p)
dec_not (inr isnt) = inl isnt

pub dec_test : {P : Type 0} (b : Bool) → Decides b P → Dec P
dec_test true is = inl (is.0 refl)
dec_test false is = inr (λ p. let e = is.1 p in cc)

-- some item of a list
pub dec_some : {X : Type 0} (xs : List X) (Q : X → Type 0) → ((x : X) → Contains xs x → Dec (Q x)) → Dec ((x : X) × Contains xs x × Q x)
dec_some [] Q dec = inr (λ some. none some.0 some.1)
dec_some {X = X} (x ∷ xs) Q dec = by (dec x (here x xs)) (dec_some xs Q (λ y is. dec y (in_rest x xs y is)))
  where
    by : Dec (Q x) → Dec ((y : X) × Contains xs y × Q y) → Dec ((y : X) × Contains (x ∷ xs) y × Q y)
    by (inl q) rest = inl (x, here x xs, q)
    by (inr isnt) (inl some) = inl (some.0, in_rest x xs some.0 some.1, some.2)
    by (inr isnt) (inr never) = inr (λ some. elim (first_or_in_rest x xs some.0 some.1) [
      | inl same ↦ isnt (subst Q (sym same) some.2)
      | inr is ↦ never (some.0, is, some.2)
    ])

-- an item of a list
pub dec_contains : {X : Type 0} → ((x y : X) → Dec (x ≡ y)) → (xs : List X) (x : X) → Dec (Contains xs x)
dec_contains {X = X} dec xs x =
    dec_as (λ (some : (y : X) × Contains xs y × (y ≡ x)). subst (λ (z : X). Contains xs z) some.2 some.1) (λ is. (x, is, refl))
    (dec_some xs (λ y. y ≡ x) (λ y is. dec y x))

-- all items of a list
pub dec_all : {X : Type 0} (xs : List X) (Q : X → Type 0) → ((x : X) → Dec (Q x)) → Dec (AllByRecursion Q xs)
dec_all [] Q dec = inl tt
dec_all (x ∷ xs) Q dec = dec_both (dec x) (dec_all xs Q dec)

-- ---- equalities

pub dec_ref : (r s : Ref) → Dec (r ≡ s)
dec_ref r s = dec_test (eq_by_cmp ref_cmp r s) ((λ e. equal_is_same r s e), (λ same. equal_itself r s same))

dec_id : (i j : ℤ) → Dec (i ≡ j)
dec_id i j =
    let of : ℤ → Ref = λ k. record { kind = kinds.Node; id = k } in
    dec_as (λ (same : of i ≡ of j). ap (λ (r : Ref). r.id) same) (λ same. ap of same) (dec_ref (of i) (of j))

dec_kind : (k l : Kind) → Dec (k ≡ l)
dec_kind k l =
    let of : Kind → Ref = λ m. record { kind = m; id = pos 0 } in
    dec_as (λ (same : of k ≡ of l). ap (λ (r : Ref). r.kind) same) (λ same. ap of same) (dec_ref (of k) (of l))

dec_bytes : (a b : List ℕ) → Dec (a ≡ b)
dec_bytes a b = dec_test (bytes_eq a b) (bytes_eq-Decides a b)

dec_less : (a b : ℤ) → Dec (a <ℤ b)
dec_less a b = by_lt_z {P = Dec (a <ℤ b)} a b (λ less. inl less) (λ other. inr (λ less. omega (arith, ints)))

dec_up_to : (a b : ℤ) → Dec (a ≤ℤ b)
dec_up_to a b = by_lt_z {P = Dec (a ≤ℤ b)} b a (λ less. inr (λ up. omega (arith, ints))) (λ up. inl up)

-- ---- an object alone

dec_key : (o : Element) (key : List ℕ) → Dec (HasKeyOf o key)
dec_key o key = dec_some o.tags (λ (tag : Tag). tag.key ≡ key) (λ tag is. dec_bytes tag.key key)

dec_tag : (o : Element) (key value : List ℕ) → Dec (HasTag o key value)
dec_tag o key value =
    dec_as (λ (some : (tag : Tag) × Contains o.tags tag × ((tag.key ≡ key) × (tag.value ≡ value))). (some.0, some.1, some.2.0, some.2.1)) (λ has. (has.0, has.1, (has.2, has.3)))
    (dec_some o.tags (λ (tag : Tag). (tag.key ≡ key) × (tag.value ≡ value)) (λ tag is. dec_both (dec_bytes tag.key key) (dec_bytes tag.value value)))

dec_spans : (b : ExactBox) (lon : ℤ) → Dec (Spans b.west.value b.east.value lon)
dec_spans b lon =
    let crosses : Dec (IsGreater b.west.value b.east.value) = dec_less _ _ in
    let from_west : Dec (IsAtLeast lon b.west.value) = dec_up_to _ _ in
    let to_east : Dec (IsAtMost lon b.east.value) = dec_up_to _ _ in
    dec_either
    (dec_as (λ (x : (IsGreater b.west.value b.east.value → ⊥) × (IsAtLeast lon b.west.value × IsAtMost lon b.east.value)). (x.0, x.1.0, x.1.1)) (λ x. (x.0, (x.1, x.2)))
    (dec_both (dec_not crosses) (dec_both from_west to_east)))
    (dec_both crosses (dec_either from_west to_east))

dec_held : (b : ExactBox) (p : Place) → Dec (Holds b p)
dec_held b p =
    let south : Dec (IsAtLeast p.lat b.south.value) = dec_up_to _ _ in
    let north : Dec (IsAtMost p.lat b.north.value) = dec_up_to _ _ in
    dec_as (λ (x : IsAtLeast p.lat b.south.value × (IsAtMost p.lat b.north.value × Spans b.west.value b.east.value p.lon)). record { above_south = x.0; below_north = x.1.0; between = x.1.1 })
    (λ is. (is.above_south, (is.below_north, is.between))) (dec_both south (dec_both north (dec_spans b p.lon)))

dec_within : (area : ExactBox) (body : Body) → Dec ((place : Place) × (body ≡ bodies.Node place) × Holds area place)
dec_within area (bodies.Node place) =
    dec_as (λ (is : Holds area place). (place, refl, is)) (λ is. subst (λ (p : Place). Holds area p) (let e = is.1 in cc) is.2) (dec_held area place)
dec_within area (bodies.Way nodes) = inr (λ is. let e = is.1 in cc)
dec_within area (bodies.Rel members) = inr (λ is. let e = is.1 in cc)

pub dec_lists : (body : Body) (r : Ref) → Dec (BodyLists body r)
dec_lists (bodies.Node place) r = inr (λ is. is)
dec_lists (bodies.Way nodes) r = dec_both (dec_kind r.kind kinds.Node) (dec_contains dec_id nodes r.id)
dec_lists (bodies.Rel members) r = dec_contains dec_ref (map (λ (member : Member). member.target) members) r

-- ---- an object among others

module _ (objects : List Element) where
  module _ (set : List Ref) where
    dec_in : (o : Element) → Dec (IsIn set o)
    dec_in o = dec_contains dec_ref set (reference o)

    dec_below : (kind : Kind) (o : Element) → Contains objects o → Dec (IsBelow objects set kind o)
    dec_below kind o there =
        let Q : Element → Type 0 = λ p. BodyLists p.body (reference o) × (IsOfKind kind p × IsIn set p) in
        dec_as (λ (some : (p : Element) × Contains objects p × Q p). (some.0, record { there = some.1; child_there = there; lists = some.2.0 }, some.2.1.0, some.2.1.1))
        (λ is. (is.0, is.1.there, (is.1.lists, (is.2, is.3))))
        (dec_some objects Q (λ p has. dec_both (dec_lists p.body (reference o)) (dec_both (dec_kind (kind_of p.body) kind) (dec_in p))))

    dec_above : (kind : Kind) (o : Element) → Contains objects o → Dec (IsAboveOf objects set kind o)
    dec_above kind o there =
        let Q : Element → Type 0 = λ c. BodyLists o.body (reference c) × (IsOfKind kind c × IsIn set c) in
        dec_as (λ (some : (c : Element) × Contains objects c × Q c). (some.0, record { there = there; child_there = some.1; lists = some.2.0 }, some.2.1.0, some.2.1.1))
        (λ is. (is.0, is.1.child_there, (is.1.lists, (is.2, is.3))))
        (dec_some objects Q (λ c has. dec_both (dec_lists o.body (reference c)) (dec_both (dec_kind (kind_of c.body) kind) (dec_in c))))

    dec_path : (path : Path) (o : Element) → Contains objects o → Dec (IsOnPath objects set path o)
    dec_path paths.W o there = dec_below kinds.Way o there
    dec_path paths.R o there = dec_below kinds.Rel o there
    dec_path paths.Bn o there = dec_above kinds.Node o there
    dec_path paths.Bw o there = dec_above kinds.Way o there
    dec_path paths.Br o there = dec_above kinds.Rel o there

    dec_down : (o : Element) → Contains objects o → Dec (IsDown objects set o)
    dec_down o there =
        let Q : Element → Type 0 = λ w. BodyLists w.body (reference o) × (IsOfKind kinds.Way w × IsBelow objects set kinds.Rel w) in
        dec_either (dec_below kinds.Way o there)
        (dec_either (dec_both (dec_not (dec_kind (kind_of o.body) kinds.Rel)) (dec_below kinds.Rel o there))
        (dec_as (λ (some : (w : Element) × Contains objects w × Q w). (some.0, record { there = some.1; child_there = there; lists = some.2.0 }, some.2.1.0, some.2.1.1))
        (λ is. (is.0, is.1.there, (is.1.lists, (is.2, is.3))))
        (dec_some objects Q (λ w has. dec_both (dec_lists w.body (reference o)) (dec_both (dec_kind (kind_of w.body) kinds.Way) (dec_below kinds.Rel w has))))))

    dec_up : (o : Element) → Contains objects o → Dec (IsUp objects set o)
    dec_up o there =
        let Q : Element → Type 0 = λ w. BodyLists o.body (reference w) × (IsOfKind kinds.Way w × IsAboveOf objects set kinds.Node w) in
        dec_either (dec_above kinds.Node o there)
        (dec_either (dec_above kinds.Way o there)
        (dec_as (λ (some : (w : Element) × Contains objects w × Q w). (some.0, record { there = there; child_there = some.1; lists = some.2.0 }, some.2.1.0, some.2.1.1))
        (λ is. (is.0, is.1.child_there, (is.1.lists, (is.2, is.3))))
        (dec_some objects Q (λ w has. dec_both (dec_lists o.body (reference w)) (dec_both (dec_kind (kind_of w.body) kinds.Way) (dec_above kinds.Node w has))))))

  -- ---- chains

  -- A way from the first to the last by objects of the list alone: straight, or by the first of the list, to it and
  -- from it by others.
  abbrev Leads : List Element → Element → Element → Type 0
  Leads [] first last = BodyLists first.body (reference last)
  Leads (by ∷ others) first last = Leads others first last ⊎ (Leads others first by × Leads others by last)

  dec_leads : (others : List Element) (first last : Element) → Dec (Leads others first last)
  dec_leads [] first last = dec_lists first.body (reference last)
  dec_leads (by ∷ others) first last = dec_either (dec_leads others first last) (dec_both (dec_leads others first by) (dec_leads others by last))

  chains_join : (first next last : Element) → IsChain objects first next → IsChain objects next last → IsChain objects first last
  chains_join first next last (Link first' next' link) rest = Longer first' next' last link rest
  chains_join first next last (Longer first' second next' link more) rest = Longer first' second last link (chains_join second next' last more rest)

  leads_chain : (others : List Element) → ((o : Element) → Contains others o → Contains objects o) → (first last : Element) → Contains objects first → Contains objects last → Leads others first last → IsChain objects first last
  leads_chain [] all first last is is_too lists = Link first last (record { there = is; child_there = is_too; lists = lists })
  leads_chain (by ∷ others) all first last is is_too (inl straight) = leads_chain others (λ o has. all o (in_rest by others o has)) first last is is_too straight
  leads_chain (by ∷ others) all first last is is_too (inr through) =
      let rest : (o : Element) → Contains others o → Contains objects o = λ o has. all o (in_rest by others o has) in
      let there : Contains objects by = all by (here by others) in
      chains_join first by last (leads_chain others rest first by is there through.0) (leads_chain others rest by last there is_too through.1)

  straight : (others : List Element) (first last : Element) → BodyLists first.body (reference last) → Leads others first last
  straight [] first last lists = lists
  straight (by ∷ others) first last lists = inl (straight others first last lists)

  -- two ways that meet at one of the list are one
  ways_join : (others : List Element) (first next last : Element) → Contains others next → Leads others first next → Leads others next last → Leads others first last
  ways_join [] first next last is one two = absurd (none next is)
  ways_join (by ∷ others) first next last is one two = elim (first_or_in_rest by others next is) [
    | inl same ↦ inr (to_by (subst (λ (o : Element). Leads (by ∷ others) first o) (sym same) one), from_by (subst (λ (o : Element). Leads (by ∷ others) o last) (sym same) two))
    | inr has ↦ (
        let join : (a b : Element) → Leads others a next → Leads others next b → Leads others a b = λ a b. ways_join others a next b has in
        elim one [
          | inl left ↦ elim two [
            | inl right ↦ inl (join first last left right)
            | inr right ↦ inr (join first by left right.0, right.1)
          ]
          | inr left ↦ elim two [
            | inl right ↦ inr (left.0, join by last left.1 right)
            | inr right ↦ inr (left.0, right.1)
          ]
        ])
  ]
    where
      to_by : Leads (by ∷ others) first by → Leads others first by
      to_by (inl so) = so
      to_by (inr so) = so.0

      from_by : Leads (by ∷ others) by last → Leads others by last
      from_by (inl so) = so
      from_by (inr so) = so.1

  chain_leads : (first last : Element) → IsChain objects first last → Leads objects first last
  chain_leads first last (Link first' last' link) = straight objects first' last' link.lists
  chain_leads first last (Longer first' next last' link rest) = ways_join objects first' next last' link.child_there (straight objects first' next link.lists) (chain_leads next last' rest)

  dec_chain : (first last : Element) → Contains objects first → Contains objects last → Dec (IsChain objects first last)
  dec_chain first last is is_too = dec_as (leads_chain objects (λ o has. has) first last is is_too) (chain_leads first last) (dec_leads objects first last)

  pub dec_reached : (how : Recursion) (set : List Ref) (o : Element) → Contains objects o → Dec (IsReached objects how set o)
  dec_reached recursions.Down set o there = dec_down set o there
  dec_reached recursions.Up set o there = dec_up set o there
  dec_reached recursions.DownAll set o there =
      dec_as (λ (some : (f : Element) × Contains objects f × (IsIn set f × IsChain objects f o)). (some.0, some.2.0, some.2.1)) (λ is. (is.0, first_is_there objects is.0 o is.2, (is.1, is.2)))
      (dec_some objects (λ f. IsIn set f × IsChain objects f o) (λ f has. dec_both (dec_in set f) (dec_chain f o has there)))
  dec_reached recursions.UpAll set o there =
      dec_as (λ (some : (l : Element) × Contains objects l × (IsIn set l × IsChain objects o l)). (some.0, some.2.0, some.2.1)) (λ is. (is.0, last_is_there objects o is.0 is.2, (is.1, is.2)))
      (dec_some objects (λ l. IsIn set l × IsChain objects o l) (λ l has. dec_both (dec_in set l) (dec_chain o l there has)))

  -- ---- query statements

  dec_passes : (env : Env) (o : Element) → Contains objects o → (filter : Filter) → Dec (Passes objects env o filter)
  dec_passes env o there (InSet name) = dec_in (env name) o
  dec_passes env o there (HasKey key) = dec_key o key
  dec_passes env o there (KeyIs key value) = dec_tag o key value
  dec_passes env o there (LacksKey key) = dec_not (dec_key o key)
  dec_passes env o there (KeyIsNot key value) = dec_not (dec_tag o key value)
  dec_passes env o there (Ids ids) = dec_contains dec_id ids o.id
  dec_passes env o there (Within area) = dec_within area o.body
  dec_passes env o there (Via path name) = dec_path (env name) path o there

  dec_picked : (pick : Pick) (o : Element) → Dec (IsPicked pick o)
  dec_picked picks.Node o = dec_kind (kind_of o.body) kinds.Node
  dec_picked picks.Way o = dec_kind (kind_of o.body) kinds.Way
  dec_picked picks.Rel o = dec_kind (kind_of o.body) kinds.Rel
  dec_picked picks.Nwr o = inl tt

  pub dec_selected : (env : Env) (pick : Pick) (filters : List Filter) (o : Element) → Contains objects o → Dec (IsSelected objects env pick filters o)
  dec_selected env pick filters o there = dec_both (dec_picked pick o) (dec_all filters (λ filter. Passes objects env o filter) (λ filter. dec_passes env o there filter))
