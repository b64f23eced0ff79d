-- What the bytes received from a mirror say, whether it has closed or not: that more have to come, a reply, or why there is
-- none. Of several faults the first is told, in the order of these cases.
-- Source: this project.
use Rattle.std.specs.Prelude.{◌≡◌, ℕ, ◌+◌, ◌-◌, Bool, List, [], length, take, drop, min, Option, Some, None, if◌then◌else◌, ◌==◌, nat_lt}
use Rattle.std.specs.Int.{from_be_bytes, w64}
use Rattle.httparse.specs.Grammar.{status_code}
use Rattle.mirror_reply.specs.Heads.{Beginning, BeginsWith, fields_of, head, no_head, unfinished}
use Rattle.mirror_reply.specs.Lengths.{told_length}
use Rattle.mirror_reply.specs.declared.limits.TheConstants.{PREFIX_SIZE, ROOT_SIZE, TEXT_LIMIT}
use Rattle.mirror_reply.specs.declared.reply_fault.ReplyFault.{ReplyFault}
use Rattle.mirror_reply.specs.declared.reply_fault.ReplyFault.TheVariants.{BadBody, BadHead, BadLength, BadStatus, ClosedEarly, TooLong}

pub data Standing : Type 0 where
  waits : Standing
  replied : List ℕ → List ℕ → List ℕ → Standing
  failed : ReplyFault → Standing

-- more bytes have to come, and if the mirror has closed, this is why there is no reply
abbrev pub lacking : Bool → ReplyFault → Standing
lacking closed fault = if closed then failed fault else waits

-- the length of the answer stands after the root
abbrev pub answer_len : List ℕ → ℕ
answer_len body = from_be_bytes w64 (take 8 (drop ROOT_SIZE body))

-- a body of so many bytes, of which these have come
unfoldable pub by_body : Bool → ℕ → List ℕ → Standing
by_body closed size after =
    if nat_lt size PREFIX_SIZE then failed BadBody
    else if nat_lt (length after) PREFIX_SIZE then lacking closed ClosedEarly
    else if nat_lt (size - PREFIX_SIZE) (answer_len after) then failed BadBody
    else if nat_lt (length after) size then lacking closed ClosedEarly
    else replied (take ROOT_SIZE after) (take (answer_len after) (drop PREFIX_SIZE after))
    (drop (PREFIX_SIZE + answer_len after) (take size after))

-- the length of the body is this one, or isn't said
abbrev pub by_length : ℕ → Bool → Option ℕ → List ℕ → Standing
by_length limit closed None after = failed BadLength
by_length limit closed (Some size) after = if nat_lt limit size then failed TooLong else by_body closed size after

-- so much is kept of the text of a mirror whose status isn't 200: 200 bytes, or less if its head says so
abbrev pub text_len : Option ℕ → ℕ
text_len None = TEXT_LIMIT
text_len (Some size) = min size TEXT_LIMIT

-- a status is told once its text has come
abbrev pub by_status : ℕ → Bool → ℕ → Option ℕ → List ℕ → Standing
by_status limit closed status size after =
    if status == 200 then by_length limit closed size after
    else (if nat_lt (length after) (text_len size) then lacking closed (BadStatus status) else failed (BadStatus status))

abbrev pub standing : ℕ → Bool → Beginning → Standing
standing limit closed unfinished = lacking closed ClosedEarly
standing limit closed no_head = failed BadHead
standing limit closed (head h after) = by_status limit closed (status_code h) (told_length (fields_of h)) after

abbrev pub Stands : ℕ → Bool → List ℕ → Standing → Type 0
Stands limit closed received s = (b : Beginning) × BeginsWith received b × (s ≡ standing limit closed b)

-- this is why there is no reply, now that the mirror has closed, or whatever it may still send
abbrev pub HasFault : ℕ → Bool → List ℕ → ReplyFault → Type 0
HasFault limit closed received fault = Stands limit closed received (failed fault)

-- ---- the text of a mirror whose status isn't 200

abbrev pub text_after : ℕ → Option ℕ → List ℕ → List ℕ
text_after status size after = if status == 200 then [] else take (text_len size) after

abbrev pub text_of : Beginning → List ℕ
text_of unfinished = []
text_of no_head = []
text_of (head h after) = text_after (status_code h) (told_length (fields_of h)) after

-- the beginning of that text
abbrev pub HasText : List ℕ → List ℕ → Type 0
HasText received text = (b : Beginning) × BeginsWith received b × (text ≡ text_of b)
