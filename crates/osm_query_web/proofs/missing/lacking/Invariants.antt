-- Those of the spans so far.
use Rattle.std.proofs.Common.{List, take}
use Rattle.osm_query_web.specs.declared.span.Span.{Span}
use Rattle.osm_query_web.specs.internal.Reading.{AreOf, AreWantedAmong}
use Rattle.osm_query_web.proofs.missing.lacking.Given as goal

abbrev pub invariant-loop-span : goal.invariant-loop-span
invariant-loop-span l = (spans : List Span) → AreOf spans l.pieces → AreWantedAmong l.pieces.size spans (take l.span-index l.noted) l.wanted.items
