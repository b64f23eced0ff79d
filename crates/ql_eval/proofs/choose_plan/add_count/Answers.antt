use Rattle.std.proofs.Common.{refl}
use Rattle.tree_node.proofs.shared.OutcomeLaws.{outcome_as, outcome_stops}
use Rattle.ql_syntax.specs.StatementViews.{filter_of}
use Rattle.ql_eval.specs.Questions.{WithKey, WithTag}
use Rattle.ql_eval.proofs.CountLemmas.{counted_one, key_asks, key_counted, needs_rival, rival_needs, tag_asks, tag_counted}
use Rattle.ql_eval.proofs.choose_plan.add_count.Goals as goal

pub returns-in_err-count-in-KeyIs-clause-answer : goal.returns-in_err-count-in-KeyIs-clause-answer
returns-in_err-count-in-KeyIs-clause-answer g c = λ p is reads.
    let asks = tag_asks c.args.kind c.args.filter.now c.in-KeyIs.key c.in-KeyIs.value c.as_bytes.result.now c.as_bytes-in-KeyIs.result.now c.in-KeyIs.is c.as_bytes.ensures c.as_bytes-in-KeyIs.ensures in
    outcome_stops _ c.from_residual.ensures.1 refl (rival_needs p c.args.kind (filter_of c.args.filter.now) (WithTag c.as_bytes.result.now c.as_bytes-in-KeyIs.result.now c.args.kind) asks) (c.in_err-count-in-KeyIs.ensures.answer p is reads)

pub returns-in_err-count-in-HasKey-clause-answer : goal.returns-in_err-count-in-HasKey-clause-answer
returns-in_err-count-in-HasKey-clause-answer g c = λ p is reads.
    let asks = key_asks c.args.kind c.args.filter.now c.in-HasKey.key c.as_bytes-in-HasKey.result.now c.in-HasKey.is c.as_bytes-in-HasKey.ensures in
    outcome_stops _ c.from_residual-in_err-count-in-HasKey.ensures.1 refl (rival_needs p c.args.kind (filter_of c.args.filter.now) (WithKey c.as_bytes-in-HasKey.result.now) asks) (c.in_err-count-in-HasKey.ensures.answer p is reads)

pub returns-in_ok-push-in-KeyIs-clause-answer : goal.returns-in_ok-push-in-KeyIs-clause-answer
returns-in_ok-push-in-KeyIs-clause-answer g c = λ p is reads.
    let one = filter_of c.args.filter.now in
    let question = WithTag c.as_bytes.result.now c.as_bytes-in-KeyIs.result.now c.args.kind in
    let asks = tag_asks c.args.kind c.args.filter.now c.in-KeyIs.key c.in-KeyIs.value c.as_bytes.result.now c.as_bytes-in-KeyIs.result.now c.in-KeyIs.is c.as_bytes.ensures c.as_bytes-in-KeyIs.ensures in
    outcome_as (rival_needs p c.args.kind one question asks) (λ so. needs_rival p c.args.kind one question asks)
    (λ so. counted_one p c.args.kind one question c.in_ok-count-in-KeyIs.count c.args.counts.now.items c.push.new.self.items (tag_counted c.args.filter.now c.in-KeyIs.key c.in-KeyIs.value c.in-KeyIs.is) asks so c.in_ok-push-in-KeyIs.ensures.items)
    (c.in_ok-count-in-KeyIs.ensures.answer p is reads)

pub returns-in_ok-push-in-HasKey-clause-answer : goal.returns-in_ok-push-in-HasKey-clause-answer
returns-in_ok-push-in-HasKey-clause-answer g c = λ p is reads.
    let one = filter_of c.args.filter.now in
    let question = WithKey c.as_bytes-in-HasKey.result.now in
    let asks = key_asks c.args.kind c.args.filter.now c.in-HasKey.key c.as_bytes-in-HasKey.result.now c.in-HasKey.is c.as_bytes-in-HasKey.ensures in
    outcome_as (rival_needs p c.args.kind one question asks) (λ so. needs_rival p c.args.kind one question asks)
    (λ so. counted_one p c.args.kind one question c.in_ok-count-in-HasKey.count c.args.counts.now.items c.push-in-HasKey.new.self.items (key_counted c.args.filter.now c.in-HasKey.key c.in-HasKey.is) asks so c.in_ok-push-in-HasKey.ensures.items)
    (c.in_ok-count-in-HasKey.ensures.answer p is reads)
