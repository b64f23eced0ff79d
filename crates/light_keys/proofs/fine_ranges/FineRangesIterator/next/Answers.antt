use Rattle.std.proofs.Common.{◌≡◌, [], ◌∷◌, ◌++◌, ◌+◌, ◌∙◌, ap, sym}
use Rattle.std.specs.Option.{option_to_list}
use Rattle.tree_walk.specs.Ranges.{Range}
use Rattle.osm_keys.specs.FineRanges.{fine_range}
use Rattle.light_keys.specs.internal.FineCells.{columns_in, ends_of}
use Rattle.light_keys.proofs.RangeSteps.{left_over, moved, nothing_left, one_more, two_more}
use Rattle.light_keys.proofs.fine_ranges.FineRangesIterator.next.Goals as goal

pub returns-in-None-clause-steps : goal.returns-in-None-clause-steps
returns-in-None-clause-steps c =
    let inside = c.self.inside in
    let none : c.args.self.now ≡ [] = sym c.self.view_is ∙ nothing_left (columns_in inside.columns) inside.row inside.end inside.second c.in_default.is (ap columns_in c.in-None.is) in
    (none, none)

pub returns-in-One-clause-steps : goal.returns-in-One-clause-steps
returns-in-One-clause-steps c =
    let inside = c.self.inside in
    sym c.self.view_is ∙ one_more (columns_in inside.columns) inside.row inside.end c.if-self.false inside.second c.in_default.is (ends_of c.in-One.span) (ap columns_in c.in-One.is)
    ∙ ap (λ (range : Range). range ∷ (option_to_list inside.second ++ left_over (columns_in inside.columns) (inside.row + 1) inside.end)) (sym c.in_row-range.ensures)

pub returns-in-One-clause-goes : goal.returns-in-One-clause-goes
returns-in-One-clause-goes c = moved _ _ _ _ tt (returns-in-One-clause-steps c)

pub returns-in-Two-clause-steps : goal.returns-in-Two-clause-steps
returns-in-Two-clause-steps c =
    let inside = c.self.inside in
    let left = left_over (columns_in inside.columns) (inside.row + 1) inside.end in
    sym c.self.view_is ∙ two_more (columns_in inside.columns) inside.row inside.end c.if-self.false inside.second c.in_default.is (ends_of c.in-Two.to_meridian) (ends_of c.in-Two.from_meridian) (ap columns_in c.in-Two.is)
    ∙ ap (λ (range : Range). range ∷ fine_range inside.row (ends_of c.in-Two.from_meridian) ∷ left) (sym c.in_row.ensures) ∙ ap (λ (range : Range). c.in_row.result ∷ range ∷ left) (sym c.in_row-second.ensures)

pub returns-in-Two-clause-goes : goal.returns-in-Two-clause-goes
returns-in-Two-clause-goes c = moved _ _ _ _ tt (returns-in-Two-clause-steps c)
