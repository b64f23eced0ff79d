-- The bytes that ask a mirror for the answer to a query, with its proof.
-- Source: RFC 9112, sections 2.1, 3 and 7.2, RFC 9110, section 7.2; the path is this project's.
use Rattle.std.specs.Prelude.{ℕ, Bool, ◌&&◌, List, ◌++◌, length, codes, nat_lt}
use Rattle.std.specs.List.{list_all}
use Rattle.std.specs.Fmt.{decimal}

-- a visible ASCII character: neither a space nor an end of a line can stand in the name
abbrev pub is_host_byte : ℕ → Bool
is_host_byte b = nat_lt 32 b && nat_lt b 127

-- the name of a host, with or without a port, as it may stand in the field Host
unfoldable pub is_host_text : List ℕ → Bool
is_host_text host = nat_lt 0 (length host) && list_all is_host_byte host

-- the head of a request whose body has so many bytes
abbrev pub head_text : List ℕ → ℕ → List ℕ
head_text host body_len =
    codes "POST /api/checked HTTP/1.1\r\nHost: " ++ host
    ++ codes "\r\nConnection: close\r\nContent-Type: text/plain; charset=utf-8\r\nContent-Length: " ++ decimal body_len
    ++ codes "\r\n\r\n"

unfoldable pub request_text : List ℕ → List ℕ → List ℕ
request_text host query = head_text host (length query) ++ query
