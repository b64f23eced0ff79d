-- The pairs that are left have the answer.
use Rattle.std.proofs.Common.{◌≡◌, codes}
use Rattle.form_urlencoded.specs.Parse.{pairs_left}
use Rattle.http_messages.specs.Forms.{first_of, data_of}
use Rattle.http_messages.proofs.query_text.data_of.Given as goal

abbrev pub invariant-loop-pair : goal.invariant-loop-pair
invariant-loop-pair l =
    (goal.iterator-loop-pair).can_next l.pair-iterator ×
    (goal.iterator-loop-pair).is_finite l.pair-iterator ×
    (first_of (codes "data") (pairs_left l.pair-iterator) ≡ data_of l.form)
