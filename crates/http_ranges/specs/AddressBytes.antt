-- The bytes of the parts of an address.
-- Source: RFC 9110, section 4.2.1, and RFC 3986, section 3; that other bytes than visible ASCII characters are refused, and a
-- user's name, is this project's.
use Rattle.std.specs.Prelude.{ℕ, Bool, true, false, ◌&&◌, not, List, [], ◌∷◌, if◌then◌else◌, ◌==◌, length, nat_lt}
use Rattle.std.specs.List.{list_all}

-- a visible ASCII character: no space, and no end of a line
abbrev pub is_visible : ℕ → Bool
is_visible b = nat_lt 32 b && nat_lt b 127

-- none of the bytes @ ? # \
abbrev pub is_host_byte : ℕ → Bool
is_host_byte b = is_visible b && not (b == 64) && not (b == 63) && not (b == 35) && not (b == 92)

abbrev pub is_host : List ℕ → Bool
is_host bytes = not (length bytes == 0) && list_all is_host_byte bytes

-- no byte # begins a fragment
abbrev pub is_path_byte : ℕ → Bool
is_path_byte b = is_visible b && not (b == 35)

abbrev pub is_path : List ℕ → Bool
is_path bytes = list_all is_path_byte bytes

-- a colon comes after the last closing bracket
abbrev pub port_after : Bool → List ℕ → Bool
port_after found [] = found
port_after found (b ∷ bytes) = port_after (if b == 58 then true else (if b == 93 then false else found)) bytes

abbrev pub has_port : List ℕ → Bool
has_port host = port_after false host
