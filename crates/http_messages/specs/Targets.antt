-- The two parts of a target.
-- Source: RFC 9112, section 3.2.
use Rattle.std.specs.Prelude.{ℕ, List}
use Rattle.form_urlencoded.specs.Form.{split_once}
use Rattle.http_messages.specs.declared.target.TheConstants.{QUESTION_MARK}

-- a target's path and its query part, before and after the first `?`; the path isn't decoded
abbrev pub path_of : List ℕ → List ℕ
path_of target = (split_once QUESTION_MARK target).0

abbrev pub query_part : List ℕ → List ℕ
query_part target = (split_once QUESTION_MARK target).1
