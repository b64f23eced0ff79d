use Rattle.osm_serving.proofs.ReadingLemmas.{explained_publishing, explained_reading, made, outside_reading, published_only, read_from}
use Rattle.osm_serving.proofs.changes_publisher.publish_changes.Goals as goal

pub returns-in_err-read-clause-only : goal.returns-in_err-read-clause-only
returns-in_err-read-clause-only g c = λ p holds.
    outside_reading c.args.root_line (g.R.Read.remaining c.args.file.now) p c.in_err-read.field-0.0 c.from_residual.result c.args.desk.now.mirror c.from_residual.ensures.1 c.in_err-read.ensures.only

pub returns-in_err-read-clause-refused : goal.returns-in_err-read-clause-refused
returns-in_err-read-clause-refused g c = λ p holds.
    explained_reading c.args.root_line (g.R.Read.remaining c.args.file.now) _ p c.in_err-read.field-0.0 c.from_residual.result c.from_residual.ensures.1 c.in_err-read.ensures.refused

pub returns-clause-published : goal.returns-clause-published
returns-clause-published g c = λ p holds.
    let known = g.R.Read.remaining c.args.file.now in
    let read = c.in_ok-read.read in
    made c.args.root_line known p read c.publish_read.new.desk.mirror c.publish_read.result (read_from known read c.in_ok-read.ensures.read c.in_ok-read.ensures.held) (c.publish_read.ensures.made p holds)

pub returns-clause-only : goal.returns-clause-only
returns-clause-only g c = λ p holds.
    let known = g.R.Read.remaining c.args.file.now in
    published_only c.args.root_line known p c.in_ok-read.read c.publish_read.new.desk.mirror c.publish_read.result c.in_ok-read.ensures.read c.in_ok-read.ensures.only
    (c.publish_read.ensures.made p holds) (c.publish_read.ensures.refused p holds)

pub returns-clause-refused : goal.returns-clause-refused
returns-clause-refused g c = λ p holds.
    let known = g.R.Read.remaining c.args.file.now in
    let read = c.in_ok-read.read in
    explained_publishing c.args.root_line known _ p read c.publish_read.result (read_from known read c.in_ok-read.ensures.read c.in_ok-read.ensures.held) (c.publish_read.ensures.refused p holds)
