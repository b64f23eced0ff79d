use Rattle.std.proofs.Common.{rules, ◌∙◌, ap, List, ◌++◌, ◌∷◌, [], ℕ}
use Rattle.level_files.proofs.KeptLemmas.{GetsNode, kept_more, nodes_more}
use Rattle.level_files.proofs.level_file.LevelFile.push.Goals as goal

pub invariant_of-self-2 : goal.invariant_of-self-2
invariant_of-self-2 g c =
    let gets : GetsNode c.self.inside.count c.self.inside.size c.in-Some-checked_add.count c.in-Some-checked_add-2.size
    (g.S.RunStore.in_hand c.self.inside.rows) (g.S.RunStore.in_hand c.self.inside.nodes) (g.S.RunStore.in_hand c.append-2.new.self) (g.S.RunStore.in_hand c.append.new.self) c.args.node.now =
    record {
      short = c.in-Some.ensures.0;
      number = search rules;
      size_is = search rules;
      rows_are = c.in_ok-append-2.ensures.in_hand ∙ ap (λ (bs : List ℕ). g.S.RunStore.in_hand c.self.inside.rows ++ bs) c.in-Some.ensures.1;
      bytes_are = c.in_ok-append.ensures.in_hand;
    } in
    λ _. kept_more _ _ _ _ _ _ _ _ _ _ _ _ c.args.node.now (c.self.invariant c.if-self.false) gets c.in_ok-append-2.ensures.runs c.in_ok-append.ensures.runs

pub returns : goal.returns
returns g c =
    let gets : GetsNode c.self.inside.count c.self.inside.size c.in-Some-checked_add.count c.in-Some-checked_add-2.size
    (g.S.RunStore.in_hand c.self.inside.rows) (g.S.RunStore.in_hand c.self.inside.nodes) (g.S.RunStore.in_hand c.append-2.new.self) (g.S.RunStore.in_hand c.append.new.self) c.args.node.now =
    record {
      short = c.in-Some.ensures.0;
      number = search rules;
      size_is = search rules;
      rows_are = c.in_ok-append-2.ensures.in_hand ∙ ap (λ (bs : List ℕ). g.S.RunStore.in_hand c.self.inside.rows ++ bs) c.in-Some.ensures.1;
      bytes_are = c.in_ok-append.ensures.in_hand;
    } in
    nodes_more _ _ _ _ _ _ _ _ _ _ c.args.node.now (c.self.invariant c.if-self.false) gets ∙ ap (λ (ns : List (List ℕ)). ns ++ c.args.node.now ∷ []) c.self.view_is
