use Rattle.std.proofs.Common.{sym}
use Rattle.osm_relay.proofs.StarvedText.{starved-is}
use Rattle.osm_relay.proofs.starved.starved_response.Goals as goal

pub returns : goal.returns
returns c = sym starved-is
