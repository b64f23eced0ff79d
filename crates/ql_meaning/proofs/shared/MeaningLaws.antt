-- Laws of the meaning of queries.
use Rattle.std.proofs.Common.{◌≡◌, ℕ, zero, suc, List, [], ◌∷◌, ◌++◌, take, drop, ◌⊎◌, inl, inr, ◌↔◌, Bool, true, false, Option, Some, None, refl, sym, ap, subst, ◌∙◌, if◌then◌else◌}
use Rattle.std.proofs.lemmas.Cmp.{tied_itself}
use Rattle.std.proofs.lemmas.Grind.{flat_map-append}
use Rattle.std.proofs.lemmas.List.{take-append-drop}
use Rattle.std.proofs.lemmas.List.Elements.{All-contains, All-from_recursion}
use Rattle.std.proofs.lemmas.List.Kept.{IsStrictlySortedBy-filter}
use Rattle.std.specs.List.{AllByRecursion, Contains, filter, flat_map}
use Rattle.std.specs.List.Sorted.{IsStrictlySortedBy}
use Rattle.std.specs.declared.cmp.Ordering.TheVariants.{Less, Equal}
use Rattle.opl_codec.specs.Text.{text_of}
use Rattle.osm_model.specs.declared.out_mode.OutMode.{OutMode}
use Rattle.osm_model.proofs.shared.References.{refs_total}
use Rattle.osm_model.specs.Elements.{Element, kind_of, ref_cmp, reference, references}
use Rattle.osm_model.specs.Sets.{IsObjectSet}
use Rattle.osm_model.specs.declared.kind.Kind.{Kind}
use Rattle.osm_model.specs.declared.kind.Kind.TheVariants as kinds
use Rattle.osm_model.specs.declared.reference.Ref.{Ref}
use Rattle.ql_syntax.specs.Filters.{Filter}
use Rattle.ql_syntax.specs.Statements.{Statement, Statements, Select, Recurse, Item, Union, Minus, Print, End, Then}
use Rattle.ql_syntax.specs.declared.pick.Pick.TheVariants as picks
use Rattle.ref_sets.proofs.shared.Adding.{in_rest, first_or_in_rest, here, none}
use Rattle.ref_sets.proofs.shared.Mapped.{contains_mapped}
use Rattle.ql_meaning.specs.Meanings.{After, AfterAll, Means, Means_by, Prints_by, Telling, cut, given_by, is_in, printed_of, told_by}
use Rattle.ref_sets.specs.Sets.{IsSetOf}
use Rattle.ref_sets.specs.NamedSets.{nothing_named, put, Env}
use Rattle.ql_meaning.specs.Values.{IsSelected, Passes}
use Rattle.ref_sets.proofs.shared.Tests.{has}

-- ---- one set

above_head : (x : Ref) (xs : List Ref) → IsStrictlySortedBy ref_cmp (x ∷ xs) → (y : Ref) → Contains xs y → ref_cmp x y ≡ Less
unfolding IsStrictlySortedBy
above_head x xs up y is = All-contains (λ z. ref_cmp x z ≡ Less) xs y (All-from_recursion (λ z. ref_cmp x z ≡ Less) xs up.0) is

tail_rises : (x : Ref) (xs : List Ref) → IsStrictlySortedBy ref_cmp (x ∷ xs) → IsStrictlySortedBy ref_cmp xs
unfolding IsStrictlySortedBy
tail_rises x xs up = up.1

not_above_itself : (x y : Ref) → x ≡ y → ref_cmp x y ≡ Less → ⊥
not_above_itself x y same less = let equal : ref_cmp x y ≡ Equal = ap (λ (r : Ref). ref_cmp r y) same ∙ tied_itself refs_total y in cc

not_both : (x y : Ref) → ref_cmp x y ≡ Less → ref_cmp y x ≡ Less → ⊥
not_both x y up down = let turned = refs_total.antisymm x y in let bad = refs_total.trans x y x up down in not_above_itself x x refl bad

same_lists : (xs ys : List Ref) → IsStrictlySortedBy ref_cmp xs → IsStrictlySortedBy ref_cmp ys → ((r : Ref) → Contains xs r → Contains ys r) → ((r : Ref) → Contains ys r → Contains xs r) → xs ≡ ys
same_lists [] [] rx ry to back = refl
same_lists [] (y ∷ ys) rx ry to back = absurd (none y (back y (here y ys)))
same_lists (x ∷ xs) [] rx ry to back = absurd (none x (to x (here x xs)))
same_lists (x ∷ xs) (y ∷ ys) rx ry to back =
    let same : x ≡ y = heads (first_or_in_rest y ys x (to x (here x xs))) (first_or_in_rest x xs y (back y (here y ys))) in
    let rest = same_lists xs ys (tail_rises x xs rx) (tail_rises y ys ry)
    (λ r is. elim (first_or_in_rest y ys r (to r (in_rest x xs r is))) [ inl e ↦ absurd (not_above_itself x r (same ∙ e) (above_head x xs rx r is)) | inr in_ys ↦ in_ys ])
    (λ r is. elim (first_or_in_rest x xs r (back r (in_rest y ys r is))) [ inl e ↦ absurd (not_above_itself y r (sym same ∙ e) (above_head y ys ry r is)) | inr in_xs ↦ in_xs ]) in
    ap (λ (z : Ref). z ∷ xs) same ∙ ap (λ (zs : List Ref). y ∷ zs) rest
  where
    heads : (y ≡ x) ⊎ Contains ys x → (x ≡ y) ⊎ Contains xs y → x ≡ y
    heads (inl e) other = sym e
    heads (inr is) (inl e) = e
    heads (inr is) (inr is_too) = absurd (not_both x y (above_head x xs rx y is_too) (above_head y ys ry x is))

pub one_set : {P : Ref → Type 0} (xs ys : List Ref) → IsSetOf xs P → IsSetOf ys P → xs ≡ ys
one_set xs ys a b = same_lists xs ys a.rising b.rising (λ r is. (b.members r).1 ((a.members r).0 is)) (λ r is. (a.members r).1 ((b.members r).0 is))

-- ---- one meaning

written_once : {P : Ref → Type 0} (into : List ℕ) (env a b : Env) (xs ys : List Ref) → IsSetOf xs P → a ≡ put into xs env → IsSetOf ys P → b ≡ put into ys env → a ≡ b
written_once into env a b xs ys is ea is_too eb = ea ∙ ap (λ (zs : List Ref). put into zs env) (one_set xs ys is is_too) ∙ sym eb

mutual
  pub after_once : (objects : List Element) (statement : Statement) (env a b : Env) → After objects statement env a → After objects statement env b → a ≡ b
  after_once objects (Select pick filters into) env a b p q = written_once into env a b p.0 q.0 p.1 p.2 q.1 q.2
  after_once objects (Recurse start how into) env a b p q = written_once into env a b p.0 q.0 p.1 p.2 q.1 q.2
  after_once objects (Item start into) env a b p q = p ∙ sym q
  after_once objects (Union parts into) env a b p q =
      let same = all_once objects parts env p.0 q.0 p.1 q.1 p.2 q.2 in
      let refs : p.3.0 ≡ q.3.0 = one_set p.3.0 q.3.0 p.3.1 (subst (λ (given : List Ref). IsSetOf q.3.0 (Contains given)) (sym same.1) q.3.1) in
      p.3.2 ∙ ap (λ (zs : List Ref). put into zs p.0) refs ∙ ap (λ (mid : Env). put into q.3.0 mid) same.0 ∙ sym q.3.2
  after_once objects (Minus left right into) env a b p q =
      let first : p.0 ≡ q.0 = after_once objects left env p.0 q.0 p.2 q.2 in
      let second : p.1 ≡ q.1 = after_once objects right q.0 p.1 q.1 (subst (λ (m : Env). After objects right m p.1) first p.3) q.3 in
      let so : IsSetOf q.4.0 (λ r. Contains (given_by left p.0) r × ¬ (Contains (given_by right p.1) r)) =
      subst (λ (m : Env). IsSetOf q.4.0 (λ r. Contains (given_by left m) r × ¬ (Contains (given_by right p.1) r))) (sym first)
      (subst (λ (m : Env). IsSetOf q.4.0 (λ r. Contains (given_by left q.0) r × ¬ (Contains (given_by right m) r))) (sym second) q.4.1) in
      let refs : p.4.0 ≡ q.4.0 = one_set p.4.0 q.4.0 p.4.1 so in
      p.4.2 ∙ ap (λ (zs : List Ref). put into zs p.1) refs ∙ ap (λ (m : Env). put into q.4.0 m) second ∙ sym q.4.2
  after_once objects (Print start mode limit) env a b p q = p ∙ sym q

  pub all_once : (objects : List Element) (parts : Statements) (env a b : Env) (given other : List Ref) → AfterAll objects parts env a given → AfterAll objects parts env b other → (a ≡ b) × (given ≡ other)
  all_once objects End env a b given other p q = (p.0 ∙ sym q.0, p.1 ∙ sym q.1)
  all_once objects (Then part parts) env a b given other p q =
      let mid : p.0 ≡ q.0 = after_once objects part env p.0 q.0 p.2 q.2 in
      let rest = all_once objects parts q.0 a b p.1 q.1 (subst (λ (m : Env). AfterAll objects parts m a p.1) mid p.3) q.3 in
      (rest.0, p.4 ∙ ap (λ (m : Env). given_by part m ++ p.1) mid ∙ ap (λ (zs : List Ref). given_by part q.0 ++ zs) rest.1 ∙ sym q.4)

pub prints_once : (tell : Telling) (objects : List Element) (statements : Statements) (env : Env) (a b : List ℕ) → Prints_by tell objects statements env a → Prints_by tell objects statements env b → a ≡ b
prints_once tell objects End env a b p q = p ∙ sym q
prints_once tell objects (Then statement statements) env a b p q =
    let later : p.0 ≡ q.0 = after_once objects statement env p.0 q.0 p.2 q.2 in
    let rest : p.1 ≡ q.1 = prints_once tell objects statements q.0 p.1 q.1 (subst (λ (m : Env). Prints_by tell objects statements m p.1) later p.3) q.3 in
    p.4 ∙ ap (λ (bytes : List ℕ). told_by tell objects statement env ++ bytes) rest ∙ sym q.4

pub one_meaning_by : (tell : Telling) (objects : List Element) (statements : Statements) (first second : List ℕ) → IsObjectSet objects → Means_by tell objects statements first → Means_by tell objects statements second → first ≡ second
one_meaning_by tell objects statements first second set a b = prints_once tell objects statements nothing_named first second a b

pub one_meaning : (objects : List Element) (statements : Statements) (first second : List ℕ) → IsObjectSet objects → Means objects statements first → Means objects statements second → first ≡ second
one_meaning = one_meaning_by text_of

-- ---- kinds

pub nwr_is_all : (objects : List Element) (env : Env) (filters : List Filter) (o : Element) → IsSelected objects env picks.Nwr filters o
    ↔ (IsSelected objects env picks.Node filters o ⊎ (IsSelected objects env picks.Way filters o ⊎ IsSelected objects env picks.Rel filters o))
nwr_is_all objects env filters o = (
  (λ is. by_kind (kind_of o.body) refl is.1),
  (λ one. elim one [ inl node ↦ (tt, node.1) | inr other ↦ elim other [ inl way ↦ (tt, way.1) | inr relation ↦ (tt, relation.1) ] ]),
)
  where
    by_kind : (kind : Kind) → kind_of o.body ≡ kind → AllByRecursion (λ filter. Passes objects env o filter) filters
        → IsSelected objects env picks.Node filters o ⊎ (IsSelected objects env picks.Way filters o ⊎ IsSelected objects env picks.Rel filters o)
    by_kind kinds.Node e all = inl (e, all)
    by_kind kinds.Way e all = inr (inl (e, all))
    by_kind kinds.Rel e all = inr (inr (e, all))

-- ---- outs

pub number_cuts : (objects : List Element) (refs : List Ref) (mode : OutMode) (most : ℕ) → (rest : List ℕ) × (printed_of objects refs mode None ≡ printed_of objects refs mode (Some most) ++ rest)
number_cuts objects refs mode most =
    let line : Element → List ℕ = λ o. text_of o mode in
    let taken = filter (λ o. is_in refs o) objects in
    (flat_map line (drop most taken), sym (ap (flat_map line) (take-append-drop most taken)) ∙ flat_map-append line (take most taken) (drop most taken))

filtered_case : (refs : List Ref) (o : Element) (objects : List Element) (b : Bool) → references (filter (λ p. is_in refs p) objects) ≡ filter (has refs) (references objects)
    → references (if b then o ∷ filter (λ p. is_in refs p) objects else filter (λ p. is_in refs p) objects) ≡ (if b then reference o ∷ filter (has refs) (references objects) else filter (has refs) (references objects))
filtered_case refs o objects true same = ap (λ (rs : List Ref). reference o ∷ rs) same
filtered_case refs o objects false same = same

filtered : (refs : List Ref) (objects : List Element) → references (filter (λ p. is_in refs p) objects) ≡ filter (has refs) (references objects)
filtered refs [] = refl
filtered refs (o ∷ objects) = filtered_case refs o objects (is_in refs o) (filtered refs objects)

front_all : (P : Ref → Type 0) (n : ℕ) (xs : List Element) → AllByRecursion P (references xs) → AllByRecursion P (references (take n xs))
front_all P zero xs all = tt
front_all P (suc n) [] all = tt
front_all P (suc n) (x ∷ xs) all = (all.0, front_all P n xs all.1)

front_rises : (n : ℕ) (xs : List Element) → IsStrictlySortedBy ref_cmp (references xs) → IsStrictlySortedBy ref_cmp (references (take n xs))
unfolding IsStrictlySortedBy
front_rises zero xs up = tt
front_rises (suc n) [] up = tt
front_rises (suc n) (x ∷ xs) up = (front_all (λ y. ref_cmp (reference x) y ≡ Less) n xs up.0, front_rises n xs up.1)

pub printed_rise : (objects : List Element) (refs : List Ref) (limit : Option ℕ) → IsObjectSet objects → IsStrictlySortedBy ref_cmp (references (cut limit (filter (λ o. is_in refs o) objects)))
printed_rise objects refs None set = subst (λ (rs : List Ref). IsStrictlySortedBy ref_cmp rs) (sym (filtered refs objects)) (IsStrictlySortedBy-filter ref_cmp (has refs) (references objects) set.rising)
printed_rise objects refs (Some most) set =
    front_rises most (filter (λ o. is_in refs o) objects) (subst (λ (rs : List Ref). IsStrictlySortedBy ref_cmp rs) (sym (filtered refs objects)) (IsStrictlySortedBy-filter ref_cmp (has refs) (references objects) set.rising))

-- ---- the order of the objects

objects_above : (x : Element) (xs : List Element) → IsStrictlySortedBy ref_cmp (references (x ∷ xs)) → (y : Element) → Contains xs y → ref_cmp (reference x) (reference y) ≡ Less
objects_above x xs up y is = above_head (reference x) (references xs) up (reference y) (contains_mapped reference xs y is)

same_objects : (xs ys : List Element) → IsStrictlySortedBy ref_cmp (references xs) → IsStrictlySortedBy ref_cmp (references ys) → ((o : Element) → Contains xs o → Contains ys o) → ((o : Element) → Contains ys o → Contains xs o) → xs ≡ ys
same_objects [] [] rx ry to back = refl
same_objects [] (y ∷ ys) rx ry to back = absurd (none y (back y (here y ys)))
same_objects (x ∷ xs) [] rx ry to back = absurd (none x (to x (here x xs)))
same_objects (x ∷ xs) (y ∷ ys) rx ry to back =
    let same : x ≡ y = heads (first_or_in_rest y ys x (to x (here x xs))) (first_or_in_rest x xs y (back y (here y ys))) in
    let rest = same_objects xs ys (tail_rises (reference x) (references xs) rx) (tail_rises (reference y) (references ys) ry)
    (λ o is. elim (first_or_in_rest y ys o (to o (in_rest x xs o is))) [ inl e ↦ absurd (not_above_itself (reference x) (reference o) (ap reference (same ∙ e)) (objects_above x xs rx o is)) | inr in_ys ↦ in_ys ])
    (λ o is. elim (first_or_in_rest x xs o (back o (in_rest y ys o is))) [ inl e ↦ absurd (not_above_itself (reference y) (reference o) (ap reference (sym same ∙ e)) (objects_above y ys ry o is)) | inr in_xs ↦ in_xs ]) in
    ap (λ (z : Element). z ∷ xs) same ∙ ap (λ (zs : List Element). y ∷ zs) rest
  where
    heads : (y ≡ x) ⊎ Contains ys x → (x ≡ y) ⊎ Contains xs y → x ≡ y
    heads (inl e) other = sym e
    heads (inr is) (inl e) = e
    heads (inr is) (inr is_too) = absurd (not_both (reference x) (reference y) (objects_above x xs rx y is_too) (objects_above y ys ry x is))

pub set_alone : (first second : List Element) (statements : Statements) (text : List ℕ) → IsObjectSet first → IsObjectSet second → ((o : Element) → Contains first o ↔ Contains second o) → Means first statements text → Means second statements text
set_alone first second statements text set other same means =
    subst (λ (objects : List Element). Means objects statements text) (same_objects first second set.rising other.rising (λ o. (same o).0) (λ o. (same o).1)) means
