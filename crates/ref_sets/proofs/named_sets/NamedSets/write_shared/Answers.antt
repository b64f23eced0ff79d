use Rattle.std.proofs.Common.{refl, ◌∙◌, ap}
use Rattle.std.proofs.Math.Path.{fun_ext}
use Rattle.ref_sets.proofs.NamedLists.{put_in_place, put_last}
use Rattle.ref_sets.specs.NamedSets.{lists_of}
use Rattle.ref_sets.proofs.named_sets.NamedSets.write_shared.Goals as goal

pub returns-in-Some : goal.returns-in-Some
returns-in-Some c = fun_ext (λ other. put_in_place c.args.name.now _ refl other c.args.self.now.named.items c.in-Some.place c.in-Some.ensures.found)

pub returns-in_ok-push-in-None : goal.returns-in_ok-push-in-None
returns-in_ok-push-in-None c =
    ap lists_of c.in_ok-push-in-None.ensures.items
    ∙ fun_ext (λ other. put_last c.args.name.now _ refl other c.args.self.now.named.items c.in-None.ensures.none)
