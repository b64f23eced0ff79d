use Rattle.std.proofs.Common.{arith, length}
use Rattle.std.proofs.lemmas.List.{length_push}
use Rattle.std.proofs.lemmas.Slice.Zip.{zip_end, zip_turn}
use Rattle.std.specs.Borrow.{Bor}
use Rattle.ql_syntax.specs.StatementViews.{filter_of}
use Rattle.ql_syntax.specs.declared.filter.Filter.{Filter}
use Rattle.ql_eval.proofs.SameLemmas.{same_all, same_more}
use Rattle.ql_eval.proofs.same_filters.are_same_filters.Goals as goal

pub loop-one-preserved : goal.loop-one-preserved
loop-one-preserved c =
    let xs = c.args.first.now in
    let ys = c.args.second.now in
    let pair : Bor Filter × Bor Filter = (c.in-Some.one, c.in-Some.other) in
    let turn = zip_turn xs ys c.loop-one.yielded c.into_iter-one-iterator.result c.loop-one.one-iterator c.next.new.self _ (cc) (cc) c.loop-one.yielded_by pair c.in-Some.is c.next.ensures.steps in
    same_more filter_of xs ys (length c.loop-one.yielded) _ c.in-Some.one.now c.in-Some.other.now (length_push c.loop-one.yielded pair) turn.0 turn.1 (turn.2 c.in-Some.one.now) (turn.3 c.in-Some.other.now) (c.is_same_filter.ensures c.if-not-is_same_filter.false) c.loop-one.invariant

pub returns : goal.returns
returns c = λ yes.
    let xs = c.args.first.now in
    let ys = c.args.second.now in
    same_all filter_of xs ys (length c.loop-one.yielded) (omega (arith, c.if-first-second.false)) (zip_end xs ys c.loop-one.yielded c.into_iter-one-iterator.result c.loop-one.one-iterator c.next.new.self _ (cc) (cc) c.loop-one.yielded_by c.in-None.is c.next.ensures.steps) c.loop-one.invariant
