use Rattle.std.proofs.Common.{◌∙◌, ap, ℕ, List, drop}
use Rattle.external_sort.proofs.Parts.{part_passed_min}
use Rattle.external_sort.proofs.window.Window.pass.Goals as goal

pub returns : goal.returns
returns c =
    part_passed_min c.self.inside.buffer.items c.self.inside.start c.self.inside.end c.args.count c.min.result c.self.invariant.0 c.min.ensures
    ∙ ap (λ (l : List ℕ). drop c.args.count l) c.self.view_is
