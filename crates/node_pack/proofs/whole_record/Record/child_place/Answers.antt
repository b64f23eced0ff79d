use Rattle.std.proofs.Common.{◌≡◌, ◌<◌, ◌+◌, ◌*◌, ◌∙◌, ap, subst, ℕ, List, drop, length}
use Rattle.std.specs.Prelude.{MatchOption}
use Rattle.node_pack.specs.Places.{first_place}
use Rattle.node_pack.specs.WholeRecords.{bytes_in}
use Rattle.node_pack.specs.declared.place.Place.{Place}
use Rattle.node_pack.specs.internal.Reading.{table_in}
use Rattle.node_pack.proofs.WholeRecordLemmas.{child_of, table_of}
use Rattle.node_pack.proofs.whole_record.Record.child_place.Goals as goal

pub returns-clause-given : goal.returns-clause-given
returns-clause-given c = λ place_of limit nodes key is lt.
    let number = c.args.number in
    let same = c.split_record.ensures.table ∙ ap table_in c.as_slice.ensures.value in
    child_of place_of limit is.kept number (table_in (bytes_in c.args.self.now)) c.place_in.result lt (table_of place_of limit nodes key c.args.self.now is)
    (subst (λ (t : List ℕ). MatchOption c.place_in.result (length t < 12 * number + 12) (λ (place : Place). place ≡ first_place (drop (12 * number) t))) same c.place_in.ensures)
