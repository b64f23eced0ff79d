use Rattle.std.proofs.Common.{ap, refl}
use Rattle.osm_model.specs.declared.out_mode.OutMode.{OutMode}
use Rattle.ql_syntax.specs.Statements.{Print}
use Rattle.ql_syntax.proofs.RuleLemmas.{follows_give, keeps_stop, follows_then}
use Rattle.ql_syntax.specs.StatementRules.{out_of}
use Rattle.ql_syntax.proofs.statements.read_out.Goals as goal

pub returns-in_err-options : goal.returns-in_err-options
unfolding out_of
returns-in_err-options c = keeps_stop _ c.in_err-options.ensures c.from_residual.ensures.1

pub returns : goal.returns
unfolding out_of
returns c = follows_then _ c.in_ok-options.ensures (follows_give (ap (λ (mode : OutMode). Print c.args.from mode c.in_ok-options.options.limit) c.unwrap_or-mode.ensures) refl)
