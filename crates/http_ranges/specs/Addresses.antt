-- What a place is, by its text.
-- Source: RFC 9110, section 4.2; that a path is never empty is this project's.
use Rattle.std.specs.Prelude.{ℕ, ◌&&◌, List, Option, Some, None, if◌then◌else◌, ◌==◌, codes, drop, nat_eq, position, take}
use Rattle.std.specs.List.{starts_with}
use Rattle.http_ranges.specs.AddressBytes.{is_host, is_path}
use Rattle.http_ranges.specs.declared.address.Address.{Address}
use Rattle.http_ranges.specs.declared.address.Target.{Target}
use Rattle.http_ranges.specs.declared.address.Target.TheVariants as target
use Rattle.http_ranges.specs.declared.address.TheConstants.{SLASH}

-- a server's name and a path
abbrev pub AddressText : Type 0
AddressText = List ℕ × List ℕ

pub data TargetText : Type 0 where
  file : TargetText
  http : AddressText → TargetText
  tls : TargetText
  malformed : TargetText

abbrev pub if_valid : AddressText → Option AddressText
if_valid text = if is_host text.0 && is_path text.1 then Some text else None

abbrev pub split_at_slash : List ℕ → Option ℕ → Option AddressText
split_at_slash rest None = None
split_at_slash rest (Some place) = if_valid (take place rest, drop place rest)

-- the name is what comes before the first slash
abbrev pub address_of : List ℕ → Option AddressText
address_of rest = split_at_slash rest (position (λ b. b == SLASH) rest)

abbrev pub by_address : Option AddressText → TargetText
by_address None = malformed
by_address (Some address) = http address

unfoldable pub target_of : List ℕ → TargetText
target_of text =
    if starts_with nat_eq text (codes "https://") then tls
    else if starts_with nat_eq text (codes "http://") then by_address (address_of (drop 7 text)) else file

-- ---- what the code tells

abbrev pub text_of : Address → AddressText
text_of address = (address.host.now, address.path.now)

abbrev pub told_target : Target → TargetText
told_target target.File = file
told_target (target.Http address) = http (text_of address)
told_target target.Tls = tls
told_target target.Malformed = malformed
