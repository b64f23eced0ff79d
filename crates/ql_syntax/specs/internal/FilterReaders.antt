-- What the private readers of filters give, without where it lies in memory.
use Rattle.std.specs.Borrow.{Bor}
use Rattle.std.specs.Prelude.{ℕ, ℤ, List, Option, None, Some}
use Rattle.std.specs.declared.alloc.Global.{Global}
use Rattle.std.specs.declared.vec.Vec.{Vec}
use Rattle.smallvec.specs.SmallVec.{SmallVec}
use Rattle.ql_syntax.specs.Areas.{Corners}
use Rattle.ql_syntax.specs.Filters as tree
use Rattle.ql_syntax.specs.internal.NumberParts.{decimal_of}
use Rattle.ql_syntax.specs.declared.filter.Filter.{Filter}
use Rattle.ql_syntax.specs.StatementViews.{filter_of, filters_of}
use Rattle.ql_syntax.specs.declared.number.Number.{Number}

abbrev pub the_filter : (Filter × Bor (List ℕ)) → tree.Filter × List ℕ
the_filter found = (filter_of found.0, found.1.now)

-- no filter, or one
abbrev pub other_filter : Option Filter → Option tree.Filter
other_filter None = None
other_filter (Some filter) = Some (filter_of filter)

abbrev pub the_other_filter : (Option Filter × Bor (List ℕ)) → Option tree.Filter × List ℕ
the_other_filter found = (other_filter found.0, found.1.now)

abbrev pub the_filters : (Vec Filter Global × Bor (List ℕ)) → List tree.Filter × List ℕ
the_filters found = (filters_of found.0.items, found.1.now)

abbrev pub the_id : (ℤ × Bor (List ℕ)) → ℤ × List ℕ
the_id found = (found.0, found.1.now)

abbrev pub the_other_id : (Option ℤ × Bor (List ℕ)) → Option ℤ × List ℕ
the_other_id found = (found.0, found.1.now)

abbrev pub the_ids : (SmallVec ℤ × Bor (List ℕ)) → List ℤ × List ℕ
the_ids found = (found.0.items, found.1.now)

abbrev pub corners_of : Number → Number → Number → Number → Corners
corners_of south west north east = record { south = decimal_of south; west = decimal_of west; north = decimal_of north; east = decimal_of east }
