-- The changes of entries as they are found: one old entry after the other, each with the new entries up to it.
use Rattle.std.proofs.Common.{◌≡◌, ℕ, zero, suc, ◌+◌, ◌<◌, ◌≤◌, List, [], ◌∷◌, ◌++◌, length, get_or, drop, map, Option, Some, None, option_map, refl, sym, ap, ◌∙◌, append_assoc, add-one, arith, subst, length-drop}
use Rattle.std.proofs.Math.Seq.{drop-cons}
use Rattle.std.proofs.lemmas.List.{length-map, drop-drop}
use Rattle.std.specs.declared.cmp.Ordering.{Ordering}
use Rattle.std.specs.declared.cmp.Ordering.TheVariants.{Less, Equal, Greater}
use mir.Val.{bool_byte}
use Rattle.std.specs.Option.{is_some}
use Rattle.tree_build.specs.Changing.{Change, by_order}
use Rattle.tree_node.specs.NodeRefs.{binding_of, bindings_of}
use Rattle.tree_node.specs.Nodes.{Binding}
use Rattle.tree_node.specs.Order.{order}
use Rattle.tree_node.specs.declared.item.Item.{Item}
use Rattle.osm_index.specs.internal.EntryChanges.{change_between, parts_at_key, put_of}

-- the entries after those of the two parts
abbrev pub after_key : List ℕ → List Binding → List Binding
after_key key [] = []
after_key key (b ∷ bs) = by_order (order key b.key) (b ∷ bs) bs (after_key key bs)

abbrev pub turns : List Binding → List Binding → List (Change Binding)
turns [] new = map put_of new
turns (o ∷ old) new = map put_of (parts_at_key o.key new).0 ++ (change_between o (parts_at_key o.key new).1 ++ turns old (after_key o.key new))

-- how many it is
abbrev pub count_of : {X : Type 0} → Option X → ℕ
count_of None = 0
count_of (Some x) = 1

drop_map : (n : ℕ) (xs : List Item) → bindings_of (drop n xs) ≡ drop n (bindings_of xs)
drop_map zero xs = refl
drop_map (suc n) [] = refl
drop_map (suc n) (x ∷ xs) = drop_map n xs

pub after_is : (key : List ℕ) (bs : List Binding) → after_key key bs ≡ drop (length (parts_at_key key bs).0 + count_of (parts_at_key key bs).1) bs
after_is key [] = refl
after_is key (b ∷ bs) = by (order key b.key) (after_is key bs)
  where
    by : (o : Ordering) → after_key key bs ≡ drop (length (parts_at_key key bs).0 + count_of (parts_at_key key bs).1) bs → by_order o (b ∷ bs) bs (after_key key bs)
        ≡ drop (length (by_order {A = List Binding × Option Binding} o ([], None) ([], Some b) (b ∷ (parts_at_key key bs).0, (parts_at_key key bs).1)).0 + count_of (by_order {A = List Binding × Option Binding} o ([], None) ([], Some b) (b ∷ (parts_at_key key bs).0, (parts_at_key key bs).1)).1) (b ∷ bs)
    by Less rest = refl
    by Equal rest = refl
    by Greater rest =
        let n : suc (length (parts_at_key key bs).0 + count_of (parts_at_key key bs).1) ≡ suc (length (parts_at_key key bs).0) + count_of (parts_at_key key bs).1 = omega arith in
        rest ∙ ap (λ m. drop m (b ∷ bs)) n

pub within : (key : List ℕ) (bs : List Binding) → length (parts_at_key key bs).0 + count_of (parts_at_key key bs).1 ≤ length bs
within key [] = omega arith
within key (b ∷ bs) = by (order key b.key) (within key bs)
  where
    by : (o : Ordering) → length (parts_at_key key bs).0 + count_of (parts_at_key key bs).1 ≤ length bs → length (by_order {A = List Binding × Option Binding} o ([], None) ([], Some b) (b ∷ (parts_at_key key bs).0, (parts_at_key key bs).1)).0 + count_of (by_order {A = List Binding × Option Binding} o ([], None) ([], Some b) (b ∷ (parts_at_key key bs).0, (parts_at_key key bs).1)).1 ≤ length (b ∷ bs)
    by Less rest = omega arith
    by Equal rest = omega arith
    by Greater rest = omega (arith, rest)

count_map : (o : Option Item) → count_of (option_map binding_of o) ≡ count_of o
count_map None = refl
count_map (Some x) = refl

-- what is left of the new entries after an old one
left_behind : (key : List ℕ) (new : List Item) (at : ℕ) (below : List Item) (same : Option Item) → (bindings_of below, option_map binding_of same) ≡ parts_at_key key (bindings_of (drop at new))
    → after_key key (bindings_of (drop at new)) ≡ bindings_of (drop (at + (length below + count_of same)) new)
left_behind key new at below same parts =
    after_is key (bindings_of (drop at new))
    ∙ ap (λ (p : List Binding × Option Binding). drop (length p.0 + count_of p.1) (bindings_of (drop at new))) (sym parts)
    ∙ ap (λ n. drop n (bindings_of (drop at new))) (rw (length-map below binding_of, count_map same) refl)
    ∙ sym (drop_map (length below + count_of same) (drop at new))
    ∙ ap bindings_of (drop-drop (length below + count_of same) at new)

-- one old entry more
pub turn_step : (old new : List Item) (i at : ℕ) (x : Item) (below : List Item) (same : Option Item) (whole before middle after : List (Change Binding)) → i < length old
    → (bindings_of below, option_map binding_of same) ≡ parts_at_key (get_or old i x).key.now (bindings_of (drop at new))
    → whole ≡ before ++ turns (bindings_of (drop i old)) (bindings_of (drop at new))
    → middle ≡ before ++ map put_of (bindings_of below)
    → after ≡ middle ++ change_between (binding_of (get_or old i x)) (option_map binding_of same)
    → whole ≡ after ++ turns (bindings_of (drop (i + 1) old)) (bindings_of (drop (at + (length below + count_of same)) new))
turn_step old new i at x below same whole before middle after inside parts so_far put changed =
    let o = get_or old i x in
    let rest = bindings_of (drop at new) in
    let puts = map put_of (bindings_of below) in
    let between = change_between (binding_of o) (option_map binding_of same) in
    let others = bindings_of (drop (i + 1) old) in
    let more = turns others (bindings_of (drop (at + (length below + count_of same)) new)) in
    let next : bindings_of (drop i old) ≡ binding_of o ∷ others = ap bindings_of (drop-cons old i x inside ∙ ap (λ n. o ∷ drop n old) (sym (add-one i))) in
    let here : turns (binding_of o ∷ others) rest ≡ puts ++ (between ++ more) =
    ap (λ (p : List Binding × Option Binding). map put_of p.0 ++ (change_between (binding_of o) p.1 ++ turns others (after_key o.key.now rest))) (sym parts)
    ∙ ap (λ (bs : List Binding). puts ++ (between ++ turns others bs)) (left_behind o.key.now new at below same parts) in
    so_far
    ∙ ap (λ (bs : List Binding). before ++ turns bs rest) next
    ∙ ap (λ (cs : List (Change Binding)). before ++ cs) here
    ∙ sym (append_assoc before puts (between ++ more))
    ∙ ap (λ (cs : List (Change Binding)). cs ++ (between ++ more)) (sym put)
    ∙ sym (append_assoc middle between more)
    ∙ ap (λ (cs : List (Change Binding)). cs ++ more) (sym changed)

pub counted : {X : Type 0} (o : Option X) → bool_byte (is_some o) ≡ count_of o
counted None = refl
counted (Some x) = refl

-- the place in the new entries stays within them
pub stays_within : (new : List Item) (at : ℕ) (key : List ℕ) (below : List Item) (same : Option Item) → at ≤ length new → (bindings_of below, option_map binding_of same) ≡ parts_at_key key (bindings_of (drop at new)) → at + (length below + count_of same) ≤ length new
stays_within new at key below same inside parts =
    let few : length (bindings_of below) + count_of (option_map binding_of same) ≤ length (bindings_of (drop at new)) =
    subst (λ (p : List Binding × Option Binding). length p.0 + count_of p.1 ≤ length (bindings_of (drop at new))) (sym parts) (within key (bindings_of (drop at new))) in
    omega (arith, few, length-map below binding_of, count_map same, length-map (drop at new) binding_of, length-drop at new)
