use Rattle.std.proofs.Common.{◌≡◌, ◌⊎◌, ℕ, List, Result, Ok, Err, refl, sym, ◌∙◌, inl, inr}
use Rattle.tree_node.specs.declared.fault.NodeFault.{NodeFault}
use Rattle.tree_node.specs.Faults.{IsFault}
use Rattle.tree_node.specs.Nodes.{AreBytes, Node, Spells, spelling}
use Rattle.tree_node.specs.internal.Reading.{node_at}
use Rattle.tree_node.proofs.shared.FieldLemmas.{ok_is}
use Rattle.tree_node.proofs.shared.NodeLaws.{node_takes, node_again}
use Rattle.tree_node.proofs.NodeFaults.{fault_found, fault_met}
use Rattle.tree_node.proofs.spelling.spelling_law.Goals as goal

-- what reading gives
decided_by : (bytes : List ℕ) → AreBytes bytes → (r : Result Node NodeFault) → node_at bytes ≡ r → ((n : Node) × Spells bytes n) ⊎ ((fault : NodeFault) × IsFault bytes fault)
decided_by bytes fits (Ok n) read = inl (n, node_takes bytes n fits read)
decided_by bytes fits (Err f) read = inr (f, fault_found bytes f fits read)

not_both : (n : Node) (f : NodeFault) (r : Result Node NodeFault) → r ≡ Ok n → r ≡ Err f → ⊥
not_both n f r p q = absurd cc

one_err : (f g : NodeFault) (r : Result Node NodeFault) → r ≡ Err f → r ≡ Err g → f ≡ g
one_err f g r p q = cc

pub returns-clause-unique : goal.returns-clause-unique
returns-clause-unique c = λ bytes n m s t. ok_is n m (sym (node_again bytes n s) ∙ node_again bytes m t)

pub returns-clause-injective : goal.returns-clause-injective
returns-clause-injective c = λ n m is_n is_m same. ok_is n m (sym (node_again (spelling n) n (is_n, refl)) ∙ node_again (spelling n) m (is_m, same))

pub returns-clause-decided : goal.returns-clause-decided
returns-clause-decided c = λ bytes fits. decided_by bytes fits (node_at bytes) refl

pub returns-clause-apart : goal.returns-clause-apart
returns-clause-apart c = λ bytes n fault fits spells is. not_both n fault (node_at bytes) (node_again bytes n spells) (fault_met bytes fault fits is)

pub returns-clause-one_fault : goal.returns-clause-one_fault
returns-clause-one_fault c = λ bytes fault other fits p q. one_err fault other (node_at bytes) (fault_met bytes fault fits p) (fault_met bytes other fits q)
