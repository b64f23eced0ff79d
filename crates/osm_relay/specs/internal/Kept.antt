-- What is kept of a request that isn't complete.
use Rattle.std.specs.Prelude.{◌≡◌, ℕ, ◌<◌, List, ◌++◌, None, take, length}
use Rattle.http_messages.specs.HeadEnds.{head_length, skip_breaks}
use Rattle.http_messages.specs.Requests.{first_request}
use Rattle.http_messages.specs.declared.limits.TheConstants.{HEAD_LIMIT}

-- the bytes begin with no complete request: their head isn't complete, or no request is with fewer bytes than needed
pub record IsOpen (needed : ℕ) (bytes : List ℕ) : Type 0 where
  pub starts : skip_breaks bytes ≡ bytes
  pub head : needed ≡ 0 → head_length (take HEAD_LIMIT bytes) ≡ None
  pub some : 0 < needed → 0 < length bytes
  pub waits : (more : List ℕ) → length (bytes ++ more) < needed → first_request (bytes ++ more) ≡ None
