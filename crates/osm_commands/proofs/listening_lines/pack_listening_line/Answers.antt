use Rattle.std.proofs.Common.{rules}
use Rattle.hex.specs.Hex.{encode_with}
use Rattle.osm_commands.proofs.listening_lines.pack_listening_line.Goals as goal

pub returns : goal.returns
unfolding encode_with
returns c = search rules
