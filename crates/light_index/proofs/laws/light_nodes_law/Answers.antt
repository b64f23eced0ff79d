use Rattle.light_index.proofs.laws.light_nodes_law.Goals as goal
use Rattle.light_index.proofs.shared.LightNodeSorts.{line_no_manifest, line_no_node, manifest_no_node}

pub returns-clause-line_tree : goal.returns-clause-line_tree
returns-clause-line_tree c = line_no_node

pub returns-clause-line_manifest : goal.returns-clause-line_manifest
returns-clause-line_manifest c = line_no_manifest

pub returns-clause-tree_manifest : goal.returns-clause-tree_manifest
returns-clause-tree_manifest c = manifest_no_node
