use Rattle.std.proofs.Common.{◌∷◌, refl, ap, ◌∙◌}
use Rattle.tree_node.specs.NodeRefs.{link_of, node_read}
use Rattle.tree_node.specs.Trees.{links_in}
use Rattle.tree_build.proofs.shrink_top.child_alone.Goals as goal

pub returns-in-None-next : goal.returns-in-None-next
returns-in-None-next c =
    (link_of c.in-Some.child, ap (λ n. links_in (node_read n)) c.in-Inner.is ∙ c.in-Some.ensures.steps ∙ ap (λ ls. link_of c.in-Some.child ∷ ls) c.in-None-next.ensures.steps.0, refl)
