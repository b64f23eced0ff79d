-- The bytes of the fixed response.
use Rattle.std.proofs.Common.{◌≡◌, refl, codes}
use Rattle.std.specs.Fmt.{digits}
use Rattle.http_messages.specs.ResponseTexts.{response_text}
use Rattle.osm_gate.specs.Serving.{no_memory}

pub no_memory-is : no_memory ≡ codes "HTTP/1.1 503 Service Unavailable\r\nContent-Type: text/plain; charset=utf-8\r\nContent-Length: 10\r\nConnection: close\r\n\r\nno memory\n"
unfolding no_memory response_text digits
no_memory-is = refl
