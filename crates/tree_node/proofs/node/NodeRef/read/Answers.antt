use Rattle.std.proofs.Common.{arith}
use Rattle.tree_node.proofs.NodeFaults.{refused_is, fault_refused}
use Rattle.tree_node.proofs.shared.NodeLaws.{is_found, is_only}
use Rattle.tree_node.proofs.node.NodeRef.read.Goals as goal

pub returns-clause-found : goal.returns-clause-found
returns-clause-found c = is_found c.args.bytes.now c.read_fields.result (λ i. omega (arith, c.type_inv.bytes i)) c.read_fields.ensures

pub returns-clause-only : goal.returns-clause-only
returns-clause-only c = λ n spells. is_only c.args.bytes.now n c.read_fields.result spells c.read_fields.ensures

pub returns-clause-refused : goal.returns-clause-refused
returns-clause-refused c = refused_is c.args.bytes.now c.read_fields.result (λ i. omega (arith, c.type_inv.bytes i)) c.read_fields.ensures

pub returns-clause-fault : goal.returns-clause-fault
returns-clause-fault c = λ fault is. fault_refused c.args.bytes.now fault c.read_fields.result (λ i. omega (arith, c.type_inv.bytes i)) is c.read_fields.ensures
