use Rattle.std.proofs.Common.{◌≡◌, ◌≢◌, ℕ, List, ◌++◌, ◌∷◌, [], length, sym, ap, subst, ◌∙◌, Vec, Global}
use Rattle.tree_node.specs.Nodes.{Link}
use Rattle.tree_stream.specs.declared.level.OpenLevel.{OpenLevel}
use Rattle.tree_stream.specs.internal.Holding.{HoldsAt}
use Rattle.tree_stream.proofs.HoldLemmas.{held_new}
use Rattle.tree_stream.proofs.OkLemmas.{on_ok}
use Rattle.tree_stream.proofs.levels.push_at.Goals as goal
use Rattle.tree_stream.proofs.levels.push_at.Goals.{After-push_in, then-at-len+in_ok-push, else-at-len}

-- what is held where the level is there
there : (c : After-push_in) → (place : ℕ) (links : List Link) → HoldsAt c.args.levels.now.items place links → HoldsAt c.if-at-len.levels.items place links
there c place links held = elim c.if-at-len.branch [
  | then-at-len+in_ok-push w ↦
      subst (λ (ls : List OpenLevel). HoldsAt ls place links) (sym (ap (λ (v : Vec OpenLevel Global). v.items) w.levels-is ∙ w.in_ok-push.ensures.items))
      (held_new c.args.levels.now.items w.new.result place links w.new.ensures held)
  | else-at-len w ↦ subst (λ (ls : List OpenLevel). HoldsAt ls place links) (sym (ap (λ (v : Vec OpenLevel Global). v.items) w.levels-is)) held
]

pub returns-clause-number : goal.returns-clause-number
returns-clause-number c = λ links held. c.push_in.ensures.number links (there c c.args.at links held)

pub returns-clause-here : goal.returns-clause-here
returns-clause-here c = λ links held. c.push_in.ensures.here links (there c c.args.at links held)

pub returns-clause-others : goal.returns-clause-others
returns-clause-others c = on_ok c.push_in.result (λ rest place links ne held. rest place links ne (there c place links held)) c.push_in.ensures.others
