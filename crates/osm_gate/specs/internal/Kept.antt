-- What a gate keeps between two pieces.
use Rattle.std.specs.Prelude.{◌≡◌, ℕ, ◌<◌, Bool, true, false, List, [], ◌∷◌, ◌++◌, None, take, length}
use Rattle.matchit.specs.Router.{RouteOf}
use Rattle.matchit.specs.Rows.{RowsOf}
use Rattle.http_messages.specs.HeadEnds.{head_length, is_break, skip_breaks}
use Rattle.http_messages.specs.Requests.{first_request}
use Rattle.osm_gate.specs.Routes.{route_rows}
use Rattle.http_messages.specs.declared.limits.TheConstants.{HEAD_LIMIT}
use Rattle.osm_gate.specs.declared.route.Route.{Route}

-- the bytes begin with no complete request: their head isn't complete, or no request is with fewer bytes than needed
pub record IsOpen (needed : ℕ) (bytes : List ℕ) : Type 0 where
  pub starts : skip_breaks bytes ≡ bytes
  pub head : needed ≡ 0 → head_length (take HEAD_LIMIT bytes) ≡ None
  pub some : 0 < needed → 0 < length bytes
  pub missing : 0 < needed → length bytes < needed
  pub none : first_request bytes ≡ None
  pub waits : (more : List ℕ) → length (bytes ++ more) < needed → first_request (bytes ++ more) ≡ None

-- nothing once the gate is closed, and else bytes that begin with no complete request
pub record IsKept (is_closed : Bool) (needed : ℕ) (bytes : List ℕ) (rows : RowsOf (RouteOf Route)) : Type 0 where
  pub closed : is_closed ≡ true → bytes ≡ []
  pub is_open : IsOpen needed bytes
  pub routes : rows ≡ route_rows

-- they end in CR or LF, so that what comes next may complete an empty line
abbrev pub ends_in_break : List ℕ → Bool
ends_in_break [] = false
ends_in_break (b ∷ []) = is_break b
ends_in_break (b ∷ c ∷ bytes) = ends_in_break (c ∷ bytes)
