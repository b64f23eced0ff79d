use Rattle.std.proofs.Common.{rules}
use Rattle.entry_sort.specs.Sorting.{Explains}
use Rattle.entry_sort.proofs.FinalLemmas.{any_file, only_fault, only_from}
use Rattle.entry_sort.proofs.file_entries.sort_entries.Goals as goal

pub returns-in-Ok-read_lines-clause-only : goal.returns-in-Ok-read_lines-clause-only
returns-in-Ok-read_lines-clause-only g c is_true fresh =
    only_from (g.R.Read.remaining c.args.reader.now) c.give_gathered.result (c.give_gathered.ensures.refused is_true fresh (g.R.Read.remaining c.args.reader.now) (search rules))

pub returns-in-Err-read_lines-clause-only : goal.returns-in-Err-read_lines-clause-only
returns-in-Err-read_lines-clause-only g c is_true fresh =
    only_fault (g.R.Read.remaining c.args.reader.now) c.sorting.result (any_file (g.R.Read.remaining c.args.reader.now) (λ file. Explains file c.sorting.result) c.sorting.ensures.outside)

pub returns-in-Err-read_lines-clause-refused : goal.returns-in-Err-read_lines-clause-refused
returns-in-Err-read_lines-clause-refused g c is_true fresh = any_file (g.R.Read.remaining c.args.reader.now) (λ file. Explains file c.sorting.result) c.sorting.ensures.outside
