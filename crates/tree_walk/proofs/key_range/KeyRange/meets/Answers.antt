use Rattle.std.specs.Option.{option_copied}
use Rattle.tree_walk.specs.Ranges.{range_of}
use Rattle.tree_walk.proofs.MeetLemmas.{goes_on_from_meets, low_from_meets, meets_from_both}
use Rattle.tree_walk.proofs.key_range.KeyRange.meets.Goals as goal

pub returns-then-starts_by : goal.returns-then-starts_by
returns-then-starts_by c =
    let range = range_of c.args.self.now in
    let left = option_copied c.args.left in
    let greatest = c.args.greatest.now in (
      (λ is. meets_from_both range left greatest c.starts_by.ensures.bytes c.requires.some c.goes_on_above.ensures.bytes c.requires.rising (c.starts_by.ensures.told.0 c.if-starts_by.true) (c.goes_on_above.ensures.told.0 is)),
      (λ meets. c.goes_on_above.ensures.told.1 (goes_on_from_meets range left greatest meets)),
    )

pub returns-else-starts_by : goal.returns-else-starts_by
returns-else-starts_by c =
    ((λ is. absurd (cc (is, c.if-starts_by.false))), (λ meets. c.starts_by.ensures.told.1 (low_from_meets (range_of c.args.self.now) (option_copied c.args.left) c.args.greatest.now meets)))
