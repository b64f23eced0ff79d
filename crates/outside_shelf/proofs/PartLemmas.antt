-- The parts of the nodes that a shelf has brought.
use Rattle.std.proofs.Common.{◌≡◌, ℕ, suc, List, [], ◌∷◌, map, Option, Some, None, refl, sym, ap, subst, ◌∙◌, arith}
use Rattle.std.specs.Cmp.{IsEquivalence}
use Rattle.std.specs.HashMap.{HashMap, IsUnique, get, values}
use Rattle.std.specs.List.{Contains, IsDistinct}
use Rattle.std.specs.Map.{keys_of, values_of}
use Rattle.std.specs.Option.{ForSome, option_map}
use Rattle.std.proofs.lemmas.Cmp.{nat_list_eq_equiv}
use Rattle.std.proofs.lemmas.Map.Made.{Contains-from_values_of, Contains-values_of}
use Rattle.std.proofs.lemmas.Map.Views.{Contains-from_lookup, lookup-from_Contains}
use Rattle.tree_node.specs.Digests.{digest}
use Rattle.tree_node.specs.Keys.{StandsIn, digest_eq, key_of}
use Rattle.tree_node.specs.Parts.{HaveNode, node_of}
use Rattle.tree_node.specs.Shelves.{SameNodes}
use Rattle.tree_node.specs.declared.digest.Digest.{Digest}
use Rattle.tree_node.specs.declared.part.Part.{Part}
use Rattle.tree_node.specs.internal.Pairs.{HaveDistinctDigests, part_key}
use Rattle.tree_node.proofs.shared.MapLemmas.{eq_is, stands}
use Rattle.outside_shelf.specs.Brought.{brought_at}

-- equality of digests is an equivalence
digest_equiv : IsEquivalence digest_eq
digest_equiv = record {
  refl = λ x. nat_list_eq_equiv.refl x.0;
  symm = λ x y. nat_list_eq_equiv.symm x.0 y.0;
  congr = λ x y z. nat_list_eq_equiv.congr x.0 y.0 z.0;
}

-- where each part stands under its node's digest, the keys are these digests
keys_are : (es : List (Digest × Part)) → ((key : Digest) (part : Part) → Contains es (key, part) → part_key part ≡ key) → map part_key (values_of es) ≡ keys_of es
keys_are [] under = refl
keys_are (e ∷ es) under =
    ap (λ (k : Digest). k ∷ map part_key (values_of es)) (under e.0 e.1 (0, omega arith, refl))
    ∙ ap (λ (ks : List Digest). e.0 ∷ ks) (keys_are es (λ key part (k, lt, is). under key part (suc k, omega (arith, lt), is)))

-- what an option of a part holds
some_node : (o : Option Part) (x : List ℕ) → option_map node_of o ≡ Some x → (part : Part) × (o ≡ Some part) × (node_of part ≡ x)
some_node None x is = absurd (Prim.cc)
some_node (Some part) x is = (part, refl, Prim.cc)

module _ {S : Type 0} (brought : HashMap Digest Part S) (unique : IsUnique digest_eq brought) (own : (key : Digest) → ForSome (brought_at brought key) (λ node. digest node ≡ key.0)) where
  -- an entry is what the map has under its key, which is its node's digest
  under : (key : Digest) (part : Part) → Contains brought.entries (key, part) → (brought_at brought key ≡ Some (node_of part)) × (digest (node_of part) ≡ key.0)
  under key part has =
      let is : brought_at brought key ≡ Some (node_of part) = ap (option_map node_of) (lookup-from_Contains digest_equiv key part brought.entries unique has) in
      (is, own key (node_of part) is)

  -- no two parts have one digest
  pub parts_distinct : HaveDistinctDigests (values brought)
  parts_distinct =
      subst (λ (ks : List Digest). IsDistinct digest_eq ks)
      (sym (keys_are brought.entries (λ key part has. ap (λ (d : List ℕ). record { 0 = d }) (under key part has).1))) unique

  -- what a part holds was brought
  held_brought : (x : List ℕ) → HaveNode (values brought) x → StandsIn (brought_at brought) x
  held_brought x (k, part, lt, is, e) =
      let (key, has) = Contains-from_values_of brought.entries part (k, lt, is) in
      let there = under key part has in
      subst (StandsIn (brought_at brought)) e (stands (brought_at brought) key (node_of part) there.0 there.1)

  -- what was brought, a part holds
  brought_held : (x : List ℕ) → StandsIn (brought_at brought) x → HaveNode (values brought) x
  brought_held x is =
      let (part, at, e) = some_node (get digest_eq brought (key_of x)) x is in
      let (k, lt, there) = Contains-values_of brought.entries (key_of x) part (Contains-from_lookup eq_is (key_of x) part brought.entries at) in
      (k, part, lt, there, e)

  -- the parts hold exactly what was brought
  pub parts_brought : SameNodes (StandsIn (brought_at brought)) (HaveNode (values brought))
  parts_brought x = (held_brought x, brought_held x)
