-- Several walks over one shelf, one after the other, and what each gave.
use Rattle.std.proofs.Common.{Bool, ◌≡◌, ◌≤◌, ℕ, List, [], ◌∷◌, ◌++◌, length, map, ◌⊎◌, inl, inr, refl, sym, ap, subst, ◌∙◌, length-append}
use Rattle.std.specs.List.{AllByRecursion}
use Rattle.std.proofs.lemmas.Grind.{flat_map-append}
use Rattle.std.proofs.lemmas.List.{append-nil, length-map}
use Rattle.std.proofs.lemmas.List.Folds.{flat_map-map}
use Rattle.tree_node.specs.Shelves.{GrownBy, SameNodes, Stays}
use Rattle.tree_node.specs.declared.tree.Tree.{Tree}
use Rattle.tree_node.proofs.shared.OutcomeLaws.{Nodes, uses}
use Rattle.tree_walk.specs.Fetches.{AreDifferent, HasFetched, IsNodeText, counted_up}
use Rattle.tree_walk.specs.Given.{Answer, IsWalk}
use Rattle.tree_walk.specs.Ranges.{Range}
use Rattle.tree_walk.specs.Walked.{HasWalked}
use Rattle.tree_walk.specs.WalksGiven.{HasGiven, IsMade, Walk, nodes_of}
use Rattle.tree_walk.proofs.FetchLemmas.{all_append, all_weaker, counted_then, fetched_none, fetched_then}
use Rattle.tree_walk.proofs.shared.GivenLaws.{gives_some}

-- ---- after a call that left what was used as it was

-- what was fetched was fetched since before that call
pub fetched_before : (held old mid new : Nodes) (from to : ℕ) (nodes : List (List ℕ)) → SameNodes old mid → HasFetched (uses held mid new) from to nodes → HasFetched (uses held old new) from to nodes
fetched_before held old mid new from to nodes same fetched = record {
  gained = λ x. (
    (λ has. elim ((fetched.gained x).0 has) [ inl was ↦ inl ((same x).0 was) | inr is ↦ inr is ]),
    (λ has. elim has [ inl was ↦ (fetched.gained x).1 (inl ((same x).1 was)) | inr is ↦ (fetched.gained x).1 (inr is) ]),
  );
  all_held = fetched.all_held;
  counted = fetched.counted;
}

-- so it is of a walk
pub walk_before : (held old mid new : Nodes) (from to : ℕ) (tree : Tree) (top : List ℕ) (range : Range) (answer : Answer) → SameNodes old mid
    → IsWalk (uses held mid new) from to tree top range answer → IsWalk (uses held old new) from to tree top range answer
walk_before held old mid new from to tree top range answer same walk =
    record { nodes = walk.nodes; fetched = fetched_before held old mid new from to walk.nodes same walk.fetched; differ = walk.differ; texts = walk.texts; gives = walk.gives }

module _ (top_of : Tree → List ℕ) (Fine : Walk → Type 0) where
  -- no walk was made, and what was used is the same
  pub given_same : (held used later : Nodes) (calls from : ℕ) → SameNodes used later → HasGiven top_of Fine (uses held used later) calls calls from from
  given_same held used later calls from same = record { walks = []; fetched = fetched_none held used later from same; called = refl; each = tt }

  -- as where nothing was done
  pub given_none : (held used : Nodes) (calls from : ℕ) → HasGiven top_of Fine (uses held used used) calls calls from from
  given_none held used calls from = given_same held used used calls from (λ x. ((λ is. is), (λ is. is)))

  -- one walk was, and ended well
  pub given_one : (held old new : Nodes) (calls later from to : ℕ) (tree : Tree) (range : Range) (answer : Answer) → later ≡ counted_up calls 1
      → IsWalk (uses held old new) from to tree (top_of tree) range answer → ((nodes : List (List ℕ)) → Fine (record { tree = tree; range = range; nodes = nodes; answer = answer }))
      → HasGiven top_of Fine (uses held old new) calls later from to
  given_one held old new calls later from to tree range answer called walk fine = record {
    walks = record { tree = tree; range = range; nodes = walk.nodes; answer = answer } ∷ [];
    fetched = subst (λ (ns : List (List ℕ)). HasFetched (uses held old new) from to ns) (sym (append-nil walk.nodes)) walk.fetched;
    called = called;
    each = (record { differ = walk.differ; texts = walk.texts; gives = walk.gives; fine = fine walk.nodes }, tt);
  }

  -- some walks were made, and then others
  pub given_then : {fixed : Bool} (held after old mid new : Nodes) (calls via later from at to : ℕ) → Stays fixed held after
      → HasGiven top_of Fine (uses held old mid) calls via from at → HasGiven top_of Fine (uses after mid new) via later at to → HasGiven top_of Fine (uses after old new) calls later from to
  given_then held after old mid new calls via later from at to stays one two = record {
    walks = one.walks ++ two.walks;
    fetched = subst (λ (ns : List (List ℕ)). HasFetched (uses after old new) from to ns) (sym (flat_map-append (λ (walk : Walk). walk.nodes) one.walks two.walks))
        (fetched_then held after old mid new from at to (nodes_of one.walks) (nodes_of two.walks) stays one.fetched two.fetched);
    called = two.called ∙ ap (λ n. counted_up n (length two.walks)) one.called ∙ counted_then calls (length one.walks) (length two.walks) ∙ ap (counted_up calls) (sym (length-append one.walks two.walks));
    each = all_append (IsMade top_of Fine) one.walks two.walks one.each two.each;
  }

  -- walks that began when one more node was used, as a manifest
  pub given_from : (held old mid new : Nodes) (node : List ℕ) (calls later from to : ℕ) → GrownBy old mid node → HasGiven top_of Fine (uses held mid new) calls later from to
      → HasGiven top_of Fine (uses held (λ x. old x ⊎ (x ≡ node)) new) calls later from to
  given_from held old mid new node calls later from to grown given = record {
    walks = given.walks;
    fetched = record {
      gained = λ x. (
        (λ has. elim ((given.fetched.gained x).0 has) [ inl was ↦ inl ((grown x).0 was) | inr is ↦ inr is ]),
        (λ has. elim has [ inl was ↦ (given.fetched.gained x).1 (inl ((grown x).1 was)) | inr is ↦ (given.fetched.gained x).1 (inr is) ]),
      );
      all_held = given.fetched.all_held;
      counted = given.fetched.counted;
    };
    called = given.called;
    each = given.each;
  }

  differ_each : (walks : List Walk) → AllByRecursion (IsMade top_of Fine) walks → AllByRecursion (λ (nodes : List (List ℕ)). AreDifferent nodes × AllByRecursion IsNodeText nodes) (map (λ (walk : Walk). walk.nodes) walks)
  differ_each [] all = tt
  differ_each (walk ∷ walks) all = ((all.0.differ, all.0.texts), differ_each walks all.1)

  some_each : (walks : List Walk) → AllByRecursion (IsMade top_of Fine) walks → AllByRecursion (λ (nodes : List (List ℕ)). 1 ≤ length nodes) (map (λ (walk : Walk). walk.nodes) walks)
  some_each [] all = tt
  some_each (walk ∷ walks) all = (gives_some walk.nodes walk.tree (top_of walk.tree) walk.range walk.answer all.0.gives, some_each walks all.1)

  -- They were made, whatever they gave.
  pub given_walked : (held old new : Nodes) (calls later from to : ℕ) → HasGiven top_of Fine (uses held old new) calls later from to → HasWalked (uses held old new) calls later from to
  given_walked held old new calls later from to given = record {
    walks = map (λ (walk : Walk). walk.nodes) given.walks;
    fetched = subst (λ (ns : List (List ℕ)). HasFetched (uses held old new) from to ns) (sym (flat_map-map (λ (ns : List (List ℕ)). ns) (λ (walk : Walk). walk.nodes) given.walks)) given.fetched;
    called = given.called ∙ ap (counted_up calls) (sym (length-map given.walks (λ (walk : Walk). walk.nodes)));
    each = differ_each given.walks given.each;
    some = some_each given.walks given.each;
  }

-- ---- what is asked of walks

-- Walks of which more is known are fine where less is asked.
pub given_weaker : (top_of : Tree → List ℕ) (Fine More : Walk → Type 0) (held old new : Nodes) (calls later from to : ℕ) → ((walk : Walk) → Fine walk → More walk)
    → HasGiven top_of Fine (uses held old new) calls later from to → HasGiven top_of More (uses held old new) calls later from to
given_weaker top_of Fine More held old new calls later from to so given = record {
  walks = given.walks;
  fetched = given.fetched;
  called = given.called;
  each = all_weaker (IsMade top_of Fine) (IsMade top_of More) given.walks (λ walk made. record { differ = made.differ; texts = made.texts; gives = made.gives; fine = so walk made.fine }) given.each;
}
