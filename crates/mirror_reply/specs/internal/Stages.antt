-- What the code knows of a response from its head, and what it says of the bytes that it keeps.
use Rattle.std.specs.Prelude.{◌≡◌, ◌≢◌, ◌⊎◌, ℕ, ◌+◌, ◌≤◌, ◌<◌, ◌^◌, Bool, List, [], ◌++◌, length, drop, take, Some}
use Rattle.httparse.specs.Grammar.{ResponseHead, status_code}
use Rattle.mirror_reply.specs.Heads.{BeginsWith, HasHead, fields_of, unfinished}
use Rattle.mirror_reply.specs.Lengths.{told_length}
use Rattle.mirror_reply.specs.Standings.{HasFault, HasText, Standing, Stands, failed, replied, text_len, waits}
use Rattle.mirror_reply.specs.Taken.{IsSettled}
use Rattle.mirror_reply.specs.declared.limits.TheConstants.{HEAD_LIMIT, PREFIX_SIZE}
use Rattle.mirror_reply.specs.declared.progress.Progress.{Progress}
use Rattle.mirror_reply.specs.declared.progress.Progress.TheVariants.{Failed, More, Whole}
use Rattle.mirror_reply.specs.declared.stage.Stage.{Stage}
use Rattle.mirror_reply.specs.declared.stage.Stage.TheVariants as stage

-- the head ends where the body or the text starts
pub record HasStart (bytes : List ℕ) (start : ℕ) (h : ResponseHead) : Type 0 where
  pub within : start ≤ length bytes
  pub low : start ≤ HEAD_LIMIT
  pub begins : HasHead bytes h (drop start bytes)

pub record HasBodyAt (limit : ℕ) (bytes : List ℕ) (start end : ℕ) : Type 0 where
  pub h : ResponseHead
  pub starts : HasStart bytes start h
  pub ok : status_code h ≡ 200
  pub size : ℕ
  pub told : told_length (fields_of h) ≡ Some size
  pub ends : end ≡ start + size
  pub room : PREFIX_SIZE ≤ size
  pub fits : size ≤ limit
  pub small : size < 10 ^ 19

pub record HasTextAt (bytes : List ℕ) (status start end : ℕ) : Type 0 where
  pub h : ResponseHead
  pub starts : HasStart bytes start h
  pub status_is : status_code h ≡ status
  pub other : status ≢ 200
  pub ends : end ≡ start + text_len (told_length (fields_of h))

abbrev pub IsStage : ℕ → List ℕ → Stage → Type 0
IsStage limit bytes stage.Head = BeginsWith bytes unfinished
IsStage limit bytes (stage.Body start end) = HasBodyAt limit bytes start end
IsStage limit bytes (stage.Text status start end) = HasTextAt bytes status start end
IsStage limit bytes (stage.Failed fault) =
    (closed : Bool) (more : List ℕ) → HasFault limit closed (bytes ++ more) fault × HasText (bytes ++ more) []

-- what is said of a standing
abbrev pub Says : Standing → Progress → Type 0
Says waits p = p ≡ More
Says (replied root answer proof) p = p ≡ Whole
Says (failed fault) p = p ≡ Failed fault

abbrev pub SaysOf : ℕ → Bool → List ℕ → Progress → Type 0
SaysOf limit closed bytes p = (s : Standing) × Stands limit closed bytes s × Says s p

-- the front of the piece was appended, and all of it if there are fewer bytes than so many then
pub record Pushes (old new piece : List ℕ) (end : ℕ) : Type 0 where
  pub count : ℕ
  pub pushed : new ≡ old ++ take count piece
  pub fits : count ≤ length piece
  pub enough : (count ≡ length piece) ⊎ (end ≤ length new)
  pub few : (length new ≤ end) ⊎ (count ≡ 0)

-- the piece was kept, or its front was that decides it
abbrev pub Keeps : ℕ → List ℕ → List ℕ → List ℕ → Type 0
Keeps limit old new piece =
    (later : List ℕ) × (old ++ piece ≡ new ++ later) × ((later ≡ []) ⊎ IsSettled limit new)
