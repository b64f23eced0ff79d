-- Sets that gain the nodes of a tree, one after the other.
use Rattle.std.proofs.Common.{◌≡◌, ℕ, List, [], ◌∷◌, ◌++◌, map, ◌⊎◌, inl, inr, Result, Ok, Err, OnOk, refl, sym, ap, subst, ◌∙◌, append_assoc}
use Rattle.std.proofs.lemmas.List.{map-append, append-nil}
use Rattle.tree_node.specs.Nodes.{Link, Node}
use Rattle.tree_node.specs.Outcomes.{GrownByAll}
use Rattle.tree_node.specs.Trees.{link_to}
use Rattle.tree_build.specs.declared.fault.BuildFault.{BuildFault}
use Rattle.tree_build.specs.declared.fault.BuildFault.TheVariants.{Clash, Memory}
use Rattle.tree_build.specs.internal.Building.{IsOneOf, PutAll}

-- one of some nodes, or of others after them
pub one_of_first : (xs ys : List Node) (bytes : List ℕ) → IsOneOf xs bytes → IsOneOf (xs ++ ys) bytes
one_of_first [] ys bytes none = absurd none
one_of_first (x ∷ xs) ys bytes is = elim is [ inl here ↦ inl here | inr there ↦ inr (one_of_first xs ys bytes there) ]

pub one_of_last : (xs ys : List Node) (bytes : List ℕ) → IsOneOf ys bytes → IsOneOf (xs ++ ys) bytes
one_of_last [] ys bytes is = is
one_of_last (x ∷ xs) ys bytes is = inr (one_of_last xs ys bytes is)

pub one_of_parts : (xs ys : List Node) (bytes : List ℕ) → IsOneOf (xs ++ ys) bytes → IsOneOf xs bytes ⊎ IsOneOf ys bytes
one_of_parts [] ys bytes is = inr is
one_of_parts (x ∷ xs) ys bytes is =
    elim is [ inl here ↦ inl (inl here) | inr there ↦ elim (one_of_parts xs ys bytes there) [ inl first ↦ inl (inr first) | inr last ↦ inr last ] ]

-- a set that stayed has gained no nodes
pub gained_none : (held : List ℕ → Type 0) → GrownByAll held held (IsOneOf [])
gained_none held bytes = (λ has. inl has, λ is. elim is [ inl has ↦ has | inr none ↦ absurd none ])

-- nodes gained after others
pub gained_more : (old mid new : List ℕ → Type 0) (xs ys : List Node) → GrownByAll old mid (IsOneOf xs) → GrownByAll mid new (IsOneOf ys) → GrownByAll old new (IsOneOf (xs ++ ys))
gained_more old mid new xs ys first last bytes = (
  (λ has. elim ((last bytes).0 has) [
    | inl before ↦ elim ((first bytes).0 before) [ inl was ↦ inl was | inr is ↦ inr (one_of_first xs ys bytes is) ]
    | inr is ↦ inr (one_of_last xs ys bytes is)
  ]),
  (λ is. elim is [
    | inl was ↦ (last bytes).1 (inl ((first bytes).1 (inl was)))
    | inr one ↦ elim (one_of_parts xs ys bytes one) [ inl is ↦ (last bytes).1 (inl ((first bytes).1 (inr is))) | inr is ↦ (last bytes).1 (inr is) ]
  ]),
)

-- all nodes were put
pub put_whole : {A : Type 0} (value : A) (old new : List ℕ → Type 0) (nodes : List Node) → GrownByAll old new (IsOneOf nodes) → PutAll (Ok value) old new nodes
put_whole value old new nodes gained = record {
  gained = gained;
  kept = λ bytes was. (gained bytes).1 (inl was);
  only = λ bytes has. (gained bytes).0 has;
  clash = λ e. absurd cc;
}

-- what a refused step leaves, of which some nodes were put before and others were to follow
pub put_stopped : {A B : Type 0} (step : Result A BuildFault) (whole : Result B BuildFault) (fault : BuildFault) (old mid new : List ℕ → Type 0) (done some rest all : List Node)
    → GrownByAll old mid (IsOneOf done) → PutAll step mid new some → all ≡ done ++ (some ++ rest) → step ≡ Err fault → whole ≡ Err fault → PutAll whole old new all
put_stopped {A} {B} step whole fault old mid new done some rest all gained put is stopped stops =
    let among : (bytes : List ℕ) → IsOneOf some bytes → IsOneOf all bytes = λ bytes one. subst (λ (ns : List Node). IsOneOf ns bytes) (sym is) (one_of_last done (some ++ rest) bytes (one_of_first some rest bytes one)) in
    let before : (bytes : List ℕ) → IsOneOf done bytes → IsOneOf all bytes = λ bytes one. subst (λ (ns : List Node). IsOneOf ns bytes) (sym is) (one_of_first done (some ++ rest) bytes one) in
    let held : (bytes : List ℕ) → mid bytes → old bytes ⊎ IsOneOf all bytes = λ bytes has. elim ((gained bytes).0 has) [ inl was ↦ inl was | inr one ↦ inr (before bytes one) ] in
    record {
      gained = subst (λ (r : Result B BuildFault). OnOk r (GrownByAll old new (IsOneOf all))) (sym stops) tt;
      kept = λ bytes was. put.kept bytes ((gained bytes).1 (inl was));
      only = λ bytes has. elim (put.only bytes has) [ inl was ↦ held bytes was | inr one ↦ inr (among bytes one) ];
      clash = λ e. let clash = put.clash (stopped ∙ ap (λ f. Err f) (same_fault fault Clash whole stops e)) in
          (clash.0, clash.1, elim clash.2 [ inl was ↦ held clash.0 was | inr one ↦ inr (among clash.0 one) ], among clash.1 clash.3, clash.4, clash.5);
    }
  where
    same_fault : {C : Type 0} (f g : BuildFault) (r : Result C BuildFault) → r ≡ Err f → r ≡ Err g → f ≡ g
    same_fault f g r p q = cc

-- what want of memory leaves, where some nodes were put before
pub put_no_memory : {B : Type 0} (whole : Result B BuildFault) (old new : List ℕ → Type 0) (done rest all : List Node)
    → GrownByAll old new (IsOneOf done) → all ≡ done ++ rest → whole ≡ Err Memory → PutAll whole old new all
put_no_memory {B} whole old new done rest all gained is stops = record {
  gained = subst (λ (r : Result B BuildFault). OnOk r (GrownByAll old new (IsOneOf all))) (sym stops) tt;
  kept = λ bytes was. (gained bytes).1 (inl was);
  only = λ bytes has. elim ((gained bytes).0 has) [ inl was ↦ inl was | inr one ↦ inr (subst (λ (ns : List Node). IsOneOf ns bytes) (sym is) (one_of_first done rest bytes one)) ];
  clash = λ e. absurd (let c = sym stops ∙ e in cc);
}

-- Some nodes of a level were put, and what an inner node says of each is at hand; the rest is still to come.
pub record Underway (old new : List ℕ → Type 0) (links : List Link) (all rest : List Node) : Type 0 where
  pub done : List Node
  pub whole : all ≡ done ++ rest
  pub linked : links ≡ map link_to done
  pub gained : GrownByAll old new (IsOneOf done)

-- at first none was put
pub underway_first : (held : List ℕ → Type 0) (all : List Node) → Underway held held [] all all
underway_first held all = record { done = []; whole = refl; linked = refl; gained = gained_none held }

-- one more
pub underway_more : (old mid new : List ℕ → Type 0) (links : List Link) (all rest : List Node) (node : Node) → Underway old mid links all (node ∷ rest) → GrownByAll mid new (IsOneOf (node ∷ [])) → Underway old new (links ++ link_to node ∷ []) all rest
underway_more old mid new links all rest node so gained = record {
  done = so.done ++ node ∷ [];
  whole = so.whole ∙ sym (append_assoc so.done (node ∷ []) rest);
  linked = ap (λ (ls : List Link). ls ++ link_to node ∷ []) so.linked ∙ sym (map-append link_to so.done (node ∷ []));
  gained = gained_more old mid new so.done (node ∷ []) so.gained gained;
}

-- at last all were put
pub underway_links : (old new : List ℕ → Type 0) (links : List Link) (all : List Node) → Underway old new links all [] → links ≡ map link_to all
underway_links old new links all so = so.linked ∙ ap (map link_to) (sym (so.whole ∙ append-nil so.done))

pub underway_gained : (old new : List ℕ → Type 0) (links : List Link) (all : List Node) → Underway old new links all [] → GrownByAll old new (IsOneOf all)
underway_gained old new links all so = subst (λ (ns : List Node). GrownByAll old new (IsOneOf ns)) (sym (so.whole ∙ append-nil so.done)) so.gained
