use Rattle.std.proofs.Common.{◌≡◌, ℕ, List, [], ◌∷◌, Result, Ok, inl, inr, refl, ap, subst, ◌∙◌, arith, rules}
use Rattle.std.specs.Prelude.{IsOkAnd}
use Rattle.tree_node.specs.Shelves.{GrownBy}
use Rattle.tree_walk.proofs.FetchLemmas.{fetched_one}
use Rattle.tree_node.specs.Fetches.{ReadsAs}
use Rattle.tree_node.specs.NodeRefs.{node_read, number_of}
use Rattle.tree_node.specs.Nodes.{IsNode, Node, spelling, tree_of}
use Rattle.tree_node.specs.declared.fault.NodeFault.{NodeFault}
use Rattle.tree_node.specs.declared.node.NodeRef.{NodeRef}
use Rattle.tree_node.proofs.shared.OutcomeLaws.{known_or_clash}
use Rattle.tree_walk.proofs.visit.open.Goals as goal

-- what was read of a node's spelling is the node
read_is : (bytes : List ℕ) (read : Result NodeRef NodeFault) (found : NodeRef) (node : Node) → ReadsAs bytes read → read ≡ Ok found → IsNode node → bytes ≡ spelling node → node_read found ≡ node
read_is bytes read found node reads was is same = subst (λ (r : Result NodeRef NodeFault). IsOkAnd r (λ n. node_read n ≡ node)) was (reads.only node (is, same))

pub returns-in-Ok-clause-answer : goal.returns-in-Ok-clause-answer
returns-in-Ok-clause-answer g c = λ node is in_tree key.
    let fetched = c.in_ok-read.field-0 in
    let given = c.in_ok-read.ensures.given in
    let used = (given.grown fetched.bytes.now).1 (inr refl) in
    record {
      ends = elim (known_or_clash (spelling node) fetched.bytes.now used (given.has_digest ∙ key)) [
        | inl same ↦ inr (read_is fetched.bytes.now fetched.read c.in-Ok.node node given.reads c.in-Ok.is is same, subst (λ (b : List ℕ). GrownBy (g.S.Shelf.used c.args.shelf.now) (g.S.Shelf.used c.fetch_node.new.self) b) same given.grown)
        | inr clash ↦ inl clash
      ];
    }

pub returns-in-Ok-2-clause-opens : goal.returns-in-Ok-2-clause-opens
returns-in-Ok-2-clause-opens g c =
    let fetched = c.in_ok-read.field-0 in
    let given = c.in_ok-read.ensures.given in
    record {
      nodes = fetched.bytes.now ∷ [];
      fetched = rw c.count_fetch.ensures.fetches (fetched_one _ _ _ _ fetched.bytes.now given.is_held given.grown);
      few = omega arith;
    }

pub returns-in-Err-clause-opens : goal.returns-in-Err-clause-opens
returns-in-Err-clause-opens g c =
    let fetched = c.in_ok-read.field-0 in
    let given = c.in_ok-read.ensures.given in
    record {
      nodes = fetched.bytes.now ∷ [];
      fetched = rw c.count_fetch.ensures.fetches (fetched_one _ _ _ _ fetched.bytes.now given.is_held given.grown);
      few = omega arith;
    }

pub returns-in-Ok-2-clause-answer : goal.returns-in-Ok-2-clause-answer
returns-in-Ok-2-clause-answer g c = λ node is in_tree key.
    let fetched = c.in_ok-read.field-0 in
    let given = c.in_ok-read.ensures.given in
    let used = (given.grown fetched.bytes.now).1 (inr refl) in
    let other : tree_of (node_read c.in-Ok.node) ≡ number_of c.args.tree → ⊥ = search rules in
    record {
      ends = elim (known_or_clash (spelling node) fetched.bytes.now used (given.has_digest ∙ key)) [
        | inl same ↦ absurd (other (ap tree_of (read_is fetched.bytes.now fetched.read c.in-Ok.node node given.reads c.in-Ok.is is same) ∙ in_tree))
        | inr clash ↦ inl clash
      ];
    }
