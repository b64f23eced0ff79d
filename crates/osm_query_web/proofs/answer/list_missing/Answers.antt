-- Some are wanted, and the table is of these.
use Rattle.std.proofs.Common.{◌≡◌, ◌≢◌, ◌∙◌, [], ap, arith, eq-eqb, length, vec_len}
use Rattle.std.proofs.lemmas.Bool.{false≢true}
use Rattle.osm_query_web.proofs.WantedLemmas.{are_wanted}
use Rattle.osm_query_web.specs.Spans.{table_of}
use Rattle.osm_query_web.proofs.answer.list_missing.Goals as goal

pub returns : goal.returns
returns c spans are =
    let wanted = c.in_ok-wanted.wanted.items in
    let some : wanted ≢ [] = λ none. (let empty : vec_len c.in_ok-wanted.wanted ≡ 0 = omega (arith, ap length none) in false≢true (c.if-is_empty.ensures ∙ eq-eqb (vec_len c.in_ok-wanted.wanted) 0 empty)) in
    record {
      wanted = wanted;
      table_is = c.in_ok-table_of.ensures ∙ ap table_of c.deref.ensures.value;
      are_wanted = are_wanted c.args.pieces.now.size spans c.args.noted.now wanted some (c.in_ok-wanted.ensures spans are);
    }
