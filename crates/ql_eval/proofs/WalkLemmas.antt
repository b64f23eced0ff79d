-- One walk of an evaluation: what was made of what it gave, and what its refusal tells.
use Rattle.std.proofs.Common.{◌≡◌, inl, inr, ℕ, List, Option, Some, None, Result, Ok, Err, sym, subst}
use Rattle.std.specs.Prelude.{IfErr, IfOk}
use Rattle.osm_model.specs.Elements.{Element}
use Rattle.osm_model.specs.declared.reference.Ref.{Ref}
use Rattle.osm_keys.specs.Manifests.{top_among}
use Rattle.osm_keys.specs.Ranges.{object_range}
use Rattle.osm_keys.specs.declared.manifest.Manifest.{Manifest}
use Rattle.tree_node.specs.NodeRefs.{number_of}
use Rattle.tree_node.specs.Nodes.{Binding}
use Rattle.tree_node.specs.Outcomes.{Cause, Outcome}
use Rattle.tree_node.specs.Shelves.{SameNodes}
use Rattle.tree_node.specs.declared.tree.Tree.{Tree}
use Rattle.tree_node.specs.declared.tree.Tree.TheVariants.{Objects}
use Rattle.tree_node.proofs.shared.OutcomeLaws.{Nodes, uses}
use Rattle.tree_walk.specs.Given.{Gives, IsWalk, These}
use Rattle.tree_walk.specs.Ranges.{Range}
use Rattle.tree_walk.specs.Reasons.{HasReason}
use Rattle.tree_walk.specs.declared.fault.WalkFault.{WalkFault}
use Rattle.tree_walk.specs.declared.fault.WalkFault.TheVariants as walks
use Rattle.tree_walk.proofs.shared.GivenLaws.{given_entry, gives_more}
use Rattle.ql_eval.specs.Faults.{fault_of_walk}
use Rattle.ql_eval.specs.TrueFaults.{IsAbsent}
use Rattle.ql_eval.specs.internal.TrueFaults.{IsTrueUnder}
use Rattle.ql_eval.specs.declared.fault.EvalFault.{EvalFault}
use Rattle.ql_eval.specs.internal.Entries.{AreMisread, IsPutBy}

-- ---- what is told

-- a refused walk has its reason
pub walk_told : (held used : Nodes) (m : Manifest) (tree : Tree) (fault : WalkFault) → HasReason (number_of tree) (top_among m.tops tree) held used fault → IsTrueUnder held used m (fault_of_walk fault)
walk_told held used m tree walks.Missing reason = ((λ (e : walks.Missing ≡ walks.Memory). cc), tree, reason)
walk_told held used m tree (walks.Malformed fault) reason = ((λ (e : walks.Malformed fault ≡ walks.Memory). cc), tree, reason)
walk_told held used m tree walks.WrongTreeOrLevel reason = ((λ (e : walks.WrongTreeOrLevel ≡ walks.Memory). cc), tree, reason)
walk_told held used m tree walks.Disagrees reason = ((λ (e : walks.Disagrees ≡ walks.Memory). cc), tree, reason)
walk_told held used m tree walks.Memory reason = tt

-- entries that couldn't be read are told to be of another form
pub read_told : {B : Type 0} (held old used : Nodes) (m : Manifest) (from to : ℕ) (tree : Tree) (range : Range) (found : List Binding) (result : Result B EvalFault)
    → IsWalk (uses held old used) from to tree (top_among m.tops tree) range (These found) → IfErr result (AreMisread tree found) → IfErr result (IsTrueUnder held used m)
read_told held old used m from to tree range found (Ok b) walk refused = tt
read_told held old used m from to tree range found (Err fault) walk refused = elim refused [
  | inl memory ↦ subst (IsTrueUnder held used m) (sym memory) tt
  | inr form ↦ subst (IsTrueUnder held used m) (sym form.0) (record {
    tree = tree;
    range = range;
    entry = form.1.0;
    given = given_entry used tree (top_among m.tops tree) range found form.1.0 (walk_gives held old used from to tree (top_among m.tops tree) range found walk) form.1.1;
    malformed = form.1.2;
  })
]
  where
    walk_gives : (held old used : Nodes) (from to : ℕ) (tree : Tree) (top : List ℕ) (range : Range) (found : List Binding) → IsWalk (uses held old used) from to tree top range (These found) → Gives used tree top range (These found)
    walk_gives held old used from to tree top range found walk = gives_more _ used tree top range (These found) (λ x among. (walk.fetched.gained x).1 (inr among)) walk.gives

-- a walk that gave no entry says that there is no object
pub none_given : (held old used : Nodes) (m : Manifest) (from to : ℕ) (r : Ref) (found : List Binding) (result : Result (Option Element) EvalFault)
    → IsWalk (uses held old used) from to Objects (top_among m.tops Objects) (object_range r) (These found) → IfOk result (IsPutBy found) → IfOk result (λ object. object ≡ None → IsAbsent used m r)
none_given held old used m from to r found (Ok (Some o)) walk put = λ (e : Some o ≡ None). absurd cc
none_given held old used m from to r found (Ok None) walk put = λ e.
    subst (λ (bs : List Binding). Gives used Objects (top_among m.tops Objects) (object_range r) (These bs)) put
    (gives_more _ used Objects (top_among m.tops Objects) (object_range r) (These found) (λ x among. (walk.fetched.gained x).1 (inr among)) walk.gives)
none_given held old used m from to r found (Err fault) walk put = tt

-- ---- after a call that left what was used as it was

-- the outcome of a call is one since before that call
pub outcome_before : {A F : Type 0} {cause : F → Cause} {Is : A → Type 0} {needed held old mid new : Nodes} (result : Result A F) → SameNodes old mid → Outcome cause Is needed (uses held mid new) result → Outcome cause Is needed (uses held old new) result
outcome_before (Ok value) same so = record {
  ends = elim so.ends [
    | inl clash ↦ inl clash
    | inr ends ↦ inr (
      ends.0,
      λ x. (
        (λ has. elim ((ends.1 x).0 has) [ inl was ↦ inl ((same x).0 was) | inr needs ↦ inr needs ]),
        (λ is. elim is [ inl was ↦ (ends.1 x).1 (inl ((same x).1 was)) | inr needs ↦ (ends.1 x).1 (inr needs) ]),
      ),
    )
  ];
}
outcome_before (Err fault) same so = record { ends = so.ends }
