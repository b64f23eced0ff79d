use Rattle.std.proofs.Common.{[], ◌++◌, length, map, refl, sym, ap, subst, ◌∙◌, arith}
use Rattle.tree_node.specs.NodeRefs.{link_of, links_of, number_of}
use Rattle.tree_node.specs.Nodes.{Inner}
use Rattle.tree_node.specs.declared.child.Child.{Child}
use Rattle.tree_node.specs.Trees.{Two, ends_by, is_marked_link}
use Rattle.std.specs.Prelude.{⊤}
use Rattle.tree_build.specs.internal.Building.{AreWithin}
use Rattle.tree_build.specs.internal.Cutting.{done_by, pending_after}
use Rattle.tree_build.specs.internal.Edits.{HaveCome}
use Rattle.tree_build.specs.internal.FitLaws.{links_parts}
use Rattle.tree_build.proofs.GrowLemmas.{level_made}
use Rattle.tree_build.proofs.MarkLemmas.{all_known, come_meant, done_meant, pending_meant}
use Rattle.tree_build.proofs.PendingLemmas.{last_fits}
use Rattle.tree_build.proofs.grow_top.level_over.Goals as goal

pub cut-requires : goal.cut-requires
cut-requires c κs = ((refl, tt), (omega (arith, ap (length {A = Child}) c.new-pending.ensures.items), subst (λ hs. AreWithin (links_of (hs ++ c.args.children.now))) (sym c.new-pending.ensures.items) c.requires))

pub close-requires : goal.close-requires
close-requires c κs =
    let fit = last_fits (ends_by Two is_marked_link) AreWithin links_parts [] (links_of c.args.children.now) c.requires in
    let pending = ap links_of (c.in_ok-cut.ensures.pending ∙ ap (λ hs. pending_after (ends_by Two (λ child. is_marked_link (link_of child))) hs c.args.children.now) c.new-pending.ensures.items)
    ∙ pending_meant link_of (λ child. is_marked_link (link_of child)) is_marked_link (λ _. ⊤) (λ x known. refl) [] c.args.children.now (all_known c.args.children.now) in
    ((refl, tt), (c.in_ok-cut.ensures.few, subst AreWithin (sym pending) fit))

pub returns : goal.returns
returns c =
    let none = c.new-pending.ensures.items in
    let over = Inner (number_of c.args.tree) c.args.level in
    let pending = ap links_of (c.in_ok-cut.ensures.pending ∙ ap (λ hs. pending_after (ends_by Two (λ child. is_marked_link (link_of child))) hs c.args.children.now) none)
    ∙ pending_meant link_of (λ child. is_marked_link (link_of child)) is_marked_link (λ _. ⊤) (λ x known. refl) [] c.args.children.now (all_known c.args.children.now) in
    let cut = subst (λ hs. HaveCome c.new-news.result.items c.cut.new.news.items (map (λ piece. over (links_of piece)) (done_by (ends_by Two (λ child. is_marked_link (link_of child))) hs c.args.children.now))) none c.in_ok-cut.ensures.news in
    let made = come_meant over link_of _ _ _ _ (done_meant link_of (λ child. is_marked_link (link_of child)) is_marked_link (λ _. ⊤) (λ x known. refl) [] c.args.children.now (all_known c.args.children.now)) cut in
    level_made over (links_of c.args.children.now) _ _ _ _ c.new-news.ensures.items made pending c.in_ok-close.ensures.news
