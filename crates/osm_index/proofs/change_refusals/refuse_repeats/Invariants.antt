use Rattle.std.proofs.Common.{take}
use Rattle.opl_codec.specs.internal.Loading.{HasJust}
use Rattle.osm_index.specs.Applying.{AreApart, names_of}
use Rattle.osm_index.proofs.change_refusals.refuse_repeats.Given as goal

-- the names so far, no two of them one
abbrev pub invariant-loop-change : goal.invariant-loop-change
invariant-loop-change l = record {
  just : HasJust l.names (names_of (take l.change-index l.changes));
  apart : AreApart (take l.change-index l.changes);
}
