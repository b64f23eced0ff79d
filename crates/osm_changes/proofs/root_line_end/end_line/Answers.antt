use Rattle.std.proofs.Common.{inl, refl, subst}
use Rattle.osm_changes.specs.AnnouncedChanges.{IsEnded}
use Rattle.osm_changes.proofs.root_line_end.end_line.Goals as goal

pub returns-then-is_ended : goal.returns-then-is_ended
returns-then-is_ended c = inl (subst IsEnded c.deref.ensures.value (c.is_ended.ensures.0 c.if-is_ended.true), refl)
