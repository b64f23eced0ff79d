-- The bytes that ask for a range of a file.
-- Source: RFC 9112, sections 2.1 and 3, RFC 9110, sections 7.2, 12.5.3 and 14.2.
use Rattle.std.specs.Prelude.{ℕ, List, ◌++◌, codes}
use Rattle.std.specs.Fmt.{decimal}
use Rattle.http_ranges.specs.declared.byte_range.ByteRange.{ByteRange}

abbrev pub range_text : ByteRange → List ℕ
range_text range = decimal range.first ++ codes "-" ++ decimal range.last

abbrev pub request_text : List ℕ → List ℕ → ByteRange → List ℕ
request_text host path range =
    codes "GET " ++ path ++ codes " HTTP/1.1\r\nHost: " ++ host ++ codes "\r\nRange: bytes=" ++ range_text range
    ++ codes "\r\nAccept-Encoding: identity\r\n\r\n"
