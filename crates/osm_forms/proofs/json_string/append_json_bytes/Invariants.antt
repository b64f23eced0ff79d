use Rattle.std.proofs.Common.{◌≡◌, ◌++◌, take, flat_map}
use Rattle.json.specs.Print.{escape_byte}
use Rattle.osm_forms.proofs.json_string.append_json_bytes.Given as goal

abbrev pub invariant-loop-byte : goal.invariant-loop-byte
invariant-loop-byte l = l.out.items ≡ l.initial.out.items ++ flat_map escape_byte (take l.byte-index l.text)
