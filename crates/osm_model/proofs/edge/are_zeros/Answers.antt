use Rattle.std.proofs.Common.{◌≡◌, ◌↔◌, IsTrue, All, rules}
use Rattle.osm_model.proofs.EdgeSizes.{zeros, only_zeros}
use Rattle.osm_model.proofs.edge.are_zeros.Goals as goal

pub returns : goal.returns
returns c =
    let all : IsTrue c.all.result ↔ All (λ d. d ≡ 48) c.args.digits.now = search rules in
    ((λ h. zeros c.args.digits.now (all.0 h)), (λ e. all.1 (only_zeros c.args.digits.now c.requires e)))
