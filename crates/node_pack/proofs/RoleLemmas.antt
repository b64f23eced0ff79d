-- What nodes are, by their bytes.
use Rattle.std.proofs.Common.{◌≡◌, ◌<◌, ◌≤◌, ◌-◌, ℕ, zero, suc, List, [], Ok, inl, inr, arith, length, get_or, map, refl, sym, ap, subst, ◌∙◌}
use Rattle.std.specs.Prelude.{Result}
use Rattle.std.proofs.lemmas.List.{get_or-map, length-map}
use Rattle.std.proofs.lemmas.List.Elements.{All-contains_itself}
use Rattle.osm_keys.proofs.shared.OneManifest.{same_tops}
use Rattle.tree_node.specs.NodeRefs.{number_of}
use Rattle.tree_node.specs.Nodes.{Inner, IsNode, Leaf, Link, Node, Spells, level_of, tree_of}
use Rattle.tree_node.specs.declared.fault.NodeFault.{NodeFault}
use Rattle.tree_node.specs.declared.tree.Tree.{Tree}
use Rattle.tree_node.specs.declared.tree.Tree.TheVariants.{Backs, Cells, Objects, Tags}
use Rattle.tree_node.proofs.shared.NodeLaws.{node_again}
use Rattle.node_pack.specs.Packs.{HasChildren, child_digests, top_digests}
use Rattle.node_pack.specs.Reached.{Fits, HasRole, IsAsWanted, Refers}
use Rattle.node_pack.specs.declared.role.Role.{Role}
use Rattle.node_pack.specs.declared.role.Role.TheVariants as roles
use Rattle.node_pack.specs.declared.role.Wanted.{Wanted}
use Rattle.node_pack.specs.declared.role.Wanted.TheVariants.{Below, Root, Top}
use Rattle.node_pack.specs.internal.Gathering.{IsRead, height_of, height_wanted, wanted_below}
use Rattle.node_pack.proofs.ChildLemmas.{not_both}

-- ---- one role

abbrev the_ok : Node → Result Node NodeFault
the_ok node = Ok node

one_ok : (m n : Node) → the_ok m ≡ the_ok n → m ≡ n
one_ok m n e = Prim.cc

-- bytes are one node at most
one_spelled : (bytes : List ℕ) (m n : Node) → Spells bytes m → Spells bytes n → m ≡ n
one_spelled bytes m n a b = one_ok m n (sym (node_again bytes m a) ∙ node_again bytes n b)

one_number : (t u : Tree) → number_of t ≡ number_of u → t ≡ u
one_number Objects Objects e = refl
one_number Objects Tags e = absurd (omega arith)
one_number Objects Cells e = absurd (omega arith)
one_number Objects Backs e = absurd (omega arith)
one_number Tags Objects e = absurd (omega arith)
one_number Tags Tags e = refl
one_number Tags Cells e = absurd (omega arith)
one_number Tags Backs e = absurd (omega arith)
one_number Cells Objects e = absurd (omega arith)
one_number Cells Tags e = absurd (omega arith)
one_number Cells Cells e = refl
one_number Cells Backs e = absurd (omega arith)
one_number Backs Objects e = absurd (omega arith)
one_number Backs Tags e = absurd (omega arith)
one_number Backs Cells e = absurd (omega arith)
one_number Backs Backs e = refl

role_is : (t u : Tree) (l k : ℕ) → t ≡ u → l ≡ k → roles.Node t l ≡ roles.Node u k
role_is t u l k e f = rw (e, f) refl

-- bytes have one role at most
pub one_role : (bytes : List ℕ) (r s : Role) → HasRole bytes r → HasRole bytes s → r ≡ s
one_role bytes roles.Manifest roles.Manifest a b = refl
one_role bytes roles.Manifest (roles.Node t l) (edition, tops, wide, is) (node, spells, tree, level) = absurd (not_both bytes node edition tops spells is)
one_role bytes (roles.Node t l) roles.Manifest (node, spells, tree, level) (edition, tops, wide, is) = absurd (not_both bytes node edition tops spells is)
one_role bytes (roles.Node t l) (roles.Node u k) (m, a, m-tree, m-level) (n, b, n-tree, n-level) =
    let same = one_spelled bytes m n a b in
    role_is t u l k (one_number t u (sym m-tree ∙ ap tree_of same ∙ n-tree)) (sym m-level ∙ ap level_of same ∙ n-level)

-- ---- what was read

pub role_read : (bytes : List ℕ) (role : Role) (children : List (List ℕ)) → IsRead bytes role children → HasRole bytes role
role_read bytes roles.Manifest children (edition, tops, wide, is, e) = (edition, tops, wide, is)
role_read bytes (roles.Node t l) children (node, spells, tree, level, e) = (node, spells, tree, level)

pub children_read : (bytes : List ℕ) (role : Role) (children : List (List ℕ)) → IsRead bytes role children → HasChildren bytes children
children_read bytes roles.Manifest children (edition, tops, wide, is, e) = inr (edition, tops, wide, is, e)
children_read bytes (roles.Node t l) children (node, spells, tree, level, e) = inl (node, spells, e)

-- what has no role is as nothing wants it
pub roleless : (bytes : List ℕ) (wanted : Wanted) → ((role : Role) → ¬ HasRole bytes role) → ¬ IsAsWanted wanted bytes
roleless bytes wanted none (role, has, fits) = none role has

-- nor is what has another role
pub misfit : (bytes : List ℕ) (role : Role) (wanted : Wanted) → HasRole bytes role → ¬ Fits role wanted → ¬ IsAsWanted wanted bytes
misfit bytes role wanted has unfit (other, is, fits) = unfit (subst (λ (r : Role). Fits r wanted) (sym (one_role bytes role other has is)) fits)

level_low : (node : Node) → IsNode node → level_of node ≤ 63
level_low (Leaf tree entries) is = omega arith
level_low (Inner tree level links) is = is.2

-- what is as wanted is not as high as that
pub role_low : (bytes : List ℕ) (role : Role) (wanted : Wanted) → HasRole bytes role → Fits role wanted → suc (height_of role) ≤ height_wanted wanted
role_low bytes roles.Manifest Root has fits = omega arith
role_low bytes roles.Manifest (Top tree) has fits = absurd fits
role_low bytes roles.Manifest (Below tree level) has fits = absurd fits
role_low bytes (roles.Node t l) Root has fits = absurd fits
role_low bytes (roles.Node t l) (Top tree) (node, spells, same, level) fits = omega (arith, level_low node spells.0, level)
role_low bytes (roles.Node t l) (Below tree level) has fits = omega (arith, fits.1)

-- ---- children

-- What a child at a place has to be: it is referred to, and is lower.
pub record RefersAt (bytes : List ℕ) (role : Role) (children : List (List ℕ)) (i : ℕ) : Type 0 where
  pub refers : Refers bytes (wanted_below role i) (get_or children i [])
  pub lower : height_wanted (wanted_below role i) ≤ height_of role

no_link : Link
no_link = record { greatest = []; number = 0; child = [] }

links_refer : (bytes : List ℕ) (t : Tree) (l : ℕ) (node : Node) → Spells bytes node → tree_of node ≡ number_of t → level_of node ≡ l → (i : ℕ) → i < length (child_digests node)
    → RefersAt bytes (roles.Node t l) (child_digests node) i
links_refer bytes t l (Leaf tree entries) spells same-tree same-level i lt = absurd (omega (arith, lt))
links_refer bytes t l (Inner tree level links) spells same-tree same-level i lt =
    let inside : i < length links = omega (arith, lt, length-map links (λ (link : Link). link.child)) in
    let some : 1 ≤ level = spells.0.1 in
    let below : level ≡ suc (l - 1) = omega (arith, some, same-level) in
    record {
      refers = (
        links,
        get_or links i no_link,
        subst (λ (n : ℕ). Spells bytes (Inner (number_of t) n links)) below (subst (λ (n : ℕ). Spells bytes (Inner n level links)) same-tree spells),
        All-contains_itself links i no_link inside,
        get_or-map (λ (link : Link). link.child) links i no_link [] inside,
      );
      lower = omega (arith, some, same-level);
    }

pub refers_at : (bytes : List ℕ) (role : Role) (children : List (List ℕ)) → IsRead bytes role children → (i : ℕ) → i < length children → RefersAt bytes role children i
refers_at bytes roles.Manifest children (edition, tops, wide, is, e) i lt =
    subst (λ (cs : List (List ℕ)). RefersAt bytes roles.Manifest cs i) (sym e) (at i (subst (λ (cs : List (List ℕ)). i < length cs) e lt))
  where
    at : (i : ℕ) → i < length (top_digests tops) → RefersAt bytes roles.Manifest (top_digests tops) i
    at zero lt = record { refers = (edition, tops, wide, is, refl); lower = omega arith }
    at (suc zero) lt = record { refers = (edition, tops, wide, is, refl); lower = omega arith }
    at (suc (suc zero)) lt = record { refers = (edition, tops, wide, is, refl); lower = omega arith }
    at (suc (suc (suc zero))) lt = record { refers = (edition, tops, wide, is, refl); lower = omega arith }
    at (suc (suc (suc (suc i)))) lt = absurd (omega (arith, lt))
refers_at bytes (roles.Node t l) children (node, spells, tree, level, e) i lt =
    subst (λ (cs : List (List ℕ)). RefersAt bytes (roles.Node t l) cs i) (sym e)
    (links_refer bytes t l node spells tree level i (subst (λ (cs : List (List ℕ)). i < length cs) e lt))

-- The place of a child that is referred to.
pub record IsAt (role : Role) (children : List (List ℕ)) (wanted : Wanted) (key : List ℕ) : Type 0 where
  pub place : ℕ
  pub inside : place < length children
  pub same : get_or children place [] ≡ key
  pub wanted_is : wanted ≡ wanted_below role place

top_at : (tops : Tree → List ℕ) (tree : Tree) (key : List ℕ) → tops tree ≡ key → IsAt roles.Manifest (top_digests tops) (Top tree) key
top_at tops Objects key e = record { place = 0; inside = omega arith; same = e; wanted_is = refl }
top_at tops Tags key e = record { place = 1; inside = omega arith; same = e; wanted_is = refl }
top_at tops Cells key e = record { place = 2; inside = omega arith; same = e; wanted_is = refl }
top_at tops Backs key e = record { place = 3; inside = omega arith; same = e; wanted_is = refl }

below_is : (t u : Tree) (l k : ℕ) → t ≡ u → l ≡ k → Below t l ≡ Below u k
below_is t u l k e f = rw (e, f) refl

-- what is referred to is a child, and wanted as such
pub is_at : (bytes : List ℕ) (role : Role) (children : List (List ℕ)) → IsRead bytes role children → (wanted : Wanted) (key : List ℕ) → Refers bytes wanted key → IsAt role children wanted key
is_at bytes roles.Manifest children read Root key refers = absurd refers
is_at bytes roles.Manifest children (edition, tops, wide, is, e) (Top tree) key (other, others, width, spelled, k) =
    subst (λ (cs : List (List ℕ)). IsAt roles.Manifest cs (Top tree) key) (sym e)
    (top_at tops tree key (same_tops edition other tops others wide width (sym is ∙ spelled) tree ∙ sym k))
is_at bytes roles.Manifest children (edition, tops, wide, is, e) (Below tree level) key (links, link, spells, among, k) =
    absurd (not_both bytes (Inner (number_of tree) (suc level) links) edition tops spells is)
is_at bytes (roles.Node t l) children read Root key refers = absurd refers
is_at bytes (roles.Node t l) children (node, spells, tree, level, e) (Top other) key (edition, tops, wide, is, k) = absurd (not_both bytes node edition tops spells is)
is_at bytes (roles.Node t l) children (node, spells, tree, level, e) (Below u k) key (links, link, other, among, last) =
    let same = one_spelled bytes node (Inner (number_of u) (suc k) links) spells other in
    let listed : children ≡ map (λ (link : Link). link.child) links = e ∙ ap child_digests same in
    let of_tree : u ≡ t = one_number u t (sym (ap tree_of same) ∙ tree) in
    let at_level : suc k ≡ l = sym (ap level_of same) ∙ level in
    let below : k ≡ l - 1 = omega (arith, at_level) in
    subst (λ (cs : List (List ℕ)). IsAt (roles.Node t l) cs (Below u k) key) (sym listed) (record {
      place = among.0;
      inside = omega (arith, among.1, length-map links (λ (link : Link). link.child));
      same = get_or-map (λ (link : Link). link.child) links among.0 link [] among.1 ∙ ap (λ (x : Link). x.child) among.2 ∙ sym last;
      wanted_is = below_is u t k (l - 1) of_tree below;
    })
