use Rattle.std.proofs.Common.{List, ◌++◌, ap, sym, ◌∙◌}
use Rattle.osm_model.specs.declared.reference.Ref.{Ref}
use Rattle.ql_syntax.specs.StatementViews.{filter_of}
use Rattle.ref_sets.specs.NamedSets.{lists_of}
use Rattle.ql_eval.specs.internal.Recalling.{set_read}
use Rattle.ql_eval.proofs.RecallLemmas.{reads_more}
use Rattle.ql_eval.proofs.reads.sets_read.Goals as goal

pub loop-filter-preserved : goal.loop-filter-preserved
loop-filter-preserved c =
    let env = lists_of c.args.sets.now.named.items in
    c.in_ok-add_read.ensures ∙ ap (λ (l : List (List Ref)). l ++ set_read env (filter_of c.filter-item.result)) c.loop-filter.invariant
    ∙ sym (reads_more env c.args.filters.now c.loop-filter.filter-index c.filter-item.result c.loop-filter-test.true c.filter-item.is)
