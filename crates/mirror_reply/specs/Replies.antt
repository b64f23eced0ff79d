-- A reply: the response of a mirror to a query, with the parts that a client can check.
-- Source: this project; RFC 9112, sections 4 and 6.
use Rattle.std.specs.Prelude.{◌≡◌, ℕ, ◌+◌, ◌≤◌, List, ◌++◌, length, Some}
use Rattle.std.specs.Int.{from_be_bytes, w64}
use Rattle.httparse.specs.Grammar.{ResponseHead, status_code}
use Rattle.mirror_reply.specs.Heads.{HasHead, fields_of}
use Rattle.mirror_reply.specs.Lengths.{told_length}

-- so many bytes of a body have these parts: the root, the length of the answer, the answer, and the proof
pub record IsBody (size : ℕ) (after root answer proof : List ℕ) : Type 0 where
  pub len : List ℕ
  pub rest : List ℕ
  pub spelled : after ≡ root ++ (len ++ (answer ++ (proof ++ rest)))
  pub root_size : length root ≡ 32
  pub len_size : length len ≡ 8
  pub answer_size : from_be_bytes w64 len ≡ length answer
  pub whole : size ≡ 40 + (length answer + length proof)

-- the bytes are a head with status 200 and the length of the body, which is within the limit, and then a body with these
-- parts, whatever comes after it
pub record HasReply (limit : ℕ) (received root answer proof : List ℕ) : Type 0 where
  pub h : ResponseHead
  pub after : List ℕ
  pub begins : HasHead received h after
  pub ok : status_code h ≡ 200
  pub size : ℕ
  pub told : told_length (fields_of h) ≡ Some size
  pub within : size ≤ limit
  pub body : IsBody size after root answer proof
