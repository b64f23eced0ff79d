use Rattle.ql_syntax.proofs.PlaceLemmas.{ends_at}
use Rattle.ql_syntax.proofs.PlaceRules.{query_stops_inside}
use Rattle.ql_syntax.proofs.laws.stops_within.Goals as goal

pub returns : goal.returns
returns c = λ bytes cause place stops. ends_at (query_stops_inside bytes cause place stops)
