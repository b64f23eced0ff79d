-- What a scan of sorted records finds.
use Rattle.std.proofs.Common.{◌≡◌, sym, subst, ℕ, List, Option}
use Rattle.std.specs.List.Sorted.{IsPermutation}
use Rattle.external_sort.specs.Records.{Entry, Rises}
use Rattle.entry_sort.specs.internal.Names.{IsLeastRepeat, scan, start}
use Rattle.entry_sort.proofs.ScanLemmas.{least_moves, scan_finds}

pub found_of : (records given : List Entry) (found : Option ℕ) → IsPermutation records given → Rises given → found ≡ (scan start given).found → IsLeastRepeat records found
found_of records given found order rises is = least_moves records given found order (subst (IsLeastRepeat given) (sym is) (scan_finds given rises))
