-- The texts of faults, and the status of a response that tells a fault of a mirror.
-- Source: this project.
use Rattle.std.specs.Prelude.{ℕ, List, ◌++◌, codes}
use Rattle.std.specs.Fmt.{decimal}
use Rattle.ql_syntax.specs.Refusals.{code_text}
use Rattle.ql_syntax.specs.declared.fault.QlFault.{QlFault}
use Rattle.osm_check.specs.VerdictTexts.{why_text}
use Rattle.mirror_reply.specs.declared.reply_fault.ReplyFault.{ReplyFault}
use Rattle.mirror_reply.specs.declared.reply_fault.ReplyFault.TheVariants.{BadBody, BadHead, BadLength, BadStatus, ClosedEarly, TooLong}
use Rattle.mirror_answer.specs.declared.mirror_fault.MirrorFault.{MirrorFault}
use Rattle.mirror_answer.specs.declared.mirror_fault.MirrorFault.TheVariants.{OtherRoot, Proof, Reply, Silent, Unreached, Work}

-- of a query that doesn't read: the code of the cause, and the place: `Q7 byte 5`
abbrev pub fault_text : QlFault → List ℕ
fault_text fault = code_text fault.cause ++ (codes " byte " ++ decimal fault.byte)

abbrev pub reply_text : ReplyFault → List ℕ
reply_text BadHead = codes "the mirror's response has no valid head"
reply_text (BadStatus status) = codes "the mirror answered with status " ++ decimal status
reply_text BadLength = codes "the mirror's response doesn't say how long it is"
reply_text TooLong = codes "the mirror's response is too long"
reply_text BadBody = codes "the mirror's response has another form"
reply_text ClosedEarly = codes "the mirror closed the connection early"

abbrev pub mirror_text : MirrorFault → List ℕ
mirror_text Unreached = codes "the mirror can't be reached"
mirror_text Silent = codes "the mirror went silent"
mirror_text (Reply fault) = reply_text fault
mirror_text OtherRoot = codes "the mirror answers under another root"
mirror_text (Proof why) = codes "the mirror's proof is refused: " ++ why_text why
mirror_text Work = codes "too much work"

-- no mirror is at fault where the budget of the client's own check is passed
abbrev pub status_of_fault : MirrorFault → ℕ
status_of_fault Unreached = 502
status_of_fault Silent = 502
status_of_fault (Reply fault) = 502
status_of_fault OtherRoot = 502
status_of_fault (Proof why) = 502
status_of_fault Work = 503
