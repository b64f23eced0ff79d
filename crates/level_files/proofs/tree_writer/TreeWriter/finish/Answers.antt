use Rattle.std.proofs.Common.{◌∙◌, ap, sym, subst, List}
use Rattle.tree_node.specs.NodeRefs.{number_of}
use Rattle.tree_stream.specs.Streams.{HasTaken}
use Rattle.level_files.specs.Levels.{LevelNodes, level_in, unread_level}
use Rattle.level_files.specs.internal.Given.{given_to}
use Rattle.level_files.proofs.TreeLemmas.{level_in_map}
use Rattle.level_files.proofs.tree_writer.TreeWriter.finish.Goals as goal

pub returns-clause-nodes : goal.returns-clause-nodes
returns-clause-nodes g c = λ shape tree entries takes level.
    let taken = subst (λ w. HasTaken given_to w.1 shape (number_of tree) entries) (sym c.self.view_is) takes.1 in
    ap (λ (ls : List LevelNodes). level_in ls level) c.in_ok-levels.ensures
    ∙ level_in_map c.in_ok-top.field-0.writer.files.items level
    ∙ ap unread_level (c.in_ok-top.ensures.written shape (number_of tree) entries taken level)

pub returns-clause-top : goal.returns-clause-top
returns-clause-top g c = λ shape tree entries takes.
    c.in_ok-top.ensures.top shape (number_of tree) entries (subst (λ w. HasTaken given_to w.1 shape (number_of tree) entries) (sym c.self.view_is) takes.1)

pub returns-clause-height : goal.returns-clause-height
returns-clause-height g c = λ shape tree entries takes.
    c.in_ok-top.ensures.levels shape (number_of tree) entries (subst (λ w. HasTaken given_to w.1 shape (number_of tree) entries) (sym c.self.view_is) takes.1)
