-- The methods that are told apart.
-- Source: RFC 9110, section 9.1: names of methods are case-sensitive.
use Rattle.std.specs.Prelude.{ℕ, List, if◌then◌else◌, codes}
use Rattle.std.specs.Str.{bytes_eq}
use Rattle.http_messages.specs.declared.method.Method.{Method}
use Rattle.http_messages.specs.declared.method.Method.TheVariants.{Get, Other, Post}

abbrev pub method_of : List ℕ → Method
method_of method = if bytes_eq method (codes "GET") then Get else (if bytes_eq method (codes "POST") then Post else Other)
