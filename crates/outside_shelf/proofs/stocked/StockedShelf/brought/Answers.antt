use Rattle.std.proofs.Common.{map, ap, ◌∙◌}
use Rattle.std.proofs.lemmas.Result.{IfOk-weaker}
use Rattle.tree_node.specs.Parts.{node_of}
use Rattle.outside_shelf.proofs.CopyLemmas.{all_copied, copied_rise}
use Rattle.outside_shelf.specs.Shelves.{HasBrought}
use Rattle.outside_shelf.specs.StockedShelves.{outside_of}
use Rattle.outside_shelf.proofs.stocked.StockedShelf.brought.Goals as goal

pub returns-clause-brought : goal.returns-clause-brought
returns-clause-brought g c =
    IfOk-weaker c.copies.result _ _ (λ nodes same. all_copied c.in_ok-parts.parts.items nodes.items (same ∙ ap (map node_of) c.as_slice.ensures.value) (HasBrought (outside_of c.args.self.now)) c.in_ok-parts.ensures.brought) c.copies.ensures

pub returns-clause-rising : goal.returns-clause-rising
returns-clause-rising g c =
    IfOk-weaker c.copies.result _ _ (λ nodes same. copied_rise c.in_ok-parts.parts.items nodes.items (same ∙ ap (map node_of) c.as_slice.ensures.value) c.in_ok-parts.ensures.rising) c.copies.ensures

pub returns-clause-apart : goal.returns-clause-apart
returns-clause-apart g c =
    IfOk-weaker c.copies.result _ _ (λ nodes same node has. c.args.self.now.apart node
    ((all_copied c.in_ok-parts.parts.items nodes.items (same ∙ ap (map node_of) c.as_slice.ensures.value) (HasBrought (outside_of c.args.self.now)) c.in_ok-parts.ensures.brought node).0 has)) c.copies.ensures
