-- Bytes that say that they are a reply are spelled as one, and the other way round.
use Rattle.std.proofs.Common.{◌≡◌, ◌∙◌, ◌≤◌, ◌+◌, ℕ, Bool, true, false, List, [], ◌++◌, ap, sym, refl, subst, inl, inr, arith, length, take, drop}
use Rattle.std.specs.Prelude.{Option, Some, None, ◌≢◌, ◌↔◌}
use Rattle.std.proofs.lemmas.Bool.{cases_lt}
use Rattle.httparse.specs.Grammar.{status_code}
use Rattle.mirror_reply.specs.Heads.{fields_of, head, no_head, unfinished}
use Rattle.mirror_reply.specs.Lengths.{told_length}
use Rattle.mirror_reply.specs.Replies.{HasReply, IsBody}
use Rattle.mirror_reply.specs.Standings.{HasFault, Stands, answer_len, by_body, by_length, by_status, failed, lacking, replied, text_len, waits}
use Rattle.mirror_reply.specs.declared.reply_fault.ReplyFault.{ReplyFault}
use Rattle.mirror_reply.specs.declared.reply_fault.ReplyFault.TheVariants.{BadStatus, ClosedEarly}
use Rattle.mirror_reply.proofs.BodyLemmas.{body-cases, body-parts, body-spelled}
use Rattle.mirror_reply.proofs.StandingLemmas.{length-over, length-within, settled-append, stands-unique, status-cases, status-ok, status-text-open, status-text-whole}

lacks : (closed : Bool) (fault : ReplyFault) (r a p : List ℕ) → lacking closed fault ≢ replied r a p
lacks true fault r a p e = cc
lacks false fault r a p e = cc

body-says : (closed : Bool) (size : ℕ) (after root answer proof : List ℕ) → by_body closed size after ≡ replied root answer proof → IsBody size after root answer proof
body-says closed size after root answer proof = body-cases closed size after (λ s. s ≡ replied root answer proof → IsBody size after root answer proof)
    (λ a e. cc)
    (λ a b e. absurd (lacks closed ClosedEarly root answer proof e))
    (λ a b c e. cc)
    (λ a b c d e. absurd (lacks closed ClosedEarly root answer proof e))
    (λ a b c d e.
    let same_root : take 32 after ≡ root = cc in
    let same_answer : take (answer_len after) (drop 40 after) ≡ answer = cc in
    let same_proof : drop (40 + answer_len after) (take size after) ≡ proof = cc in
    subst (λ (p : List ℕ). IsBody size after root answer p) same_proof
    (subst (λ (x : List ℕ). IsBody size after root x (drop (40 + answer_len after) (take size after))) same_answer
    (subst (λ (r : List ℕ). IsBody size after r (take (answer_len after) (drop 40 after)) (drop (40 + answer_len after) (take size after))) same_root
    (body-parts size after a c d))))

-- the size of a reply's body, and the body
abbrev Sized : ℕ → Option ℕ → List ℕ → List ℕ → List ℕ → List ℕ → Type 0
Sized limit told after root answer proof = (size : ℕ) × (told ≡ Some size) × (size ≤ limit) × IsBody size after root answer proof

length-says : (limit : ℕ) (closed : Bool) (told : Option ℕ) (after root answer proof : List ℕ) → by_length limit closed told after ≡ replied root answer proof
    → Sized limit told after root answer proof
length-says limit closed None after root answer proof e = cc
length-says limit closed (Some size) after root answer proof e = elim (cases_lt limit size) [
  | inl over ↦ let both = sym (length-over limit closed size after over) ∙ e in cc both
  | inr fits ↦ (size, refl, fits, body-says closed size after root answer proof (sym (length-within limit closed size after fits) ∙ e))
]

status-says : (limit : ℕ) (closed : Bool) (status : ℕ) (told : Option ℕ) (after root answer proof : List ℕ) → by_status limit closed status told after ≡ replied root answer proof
    → (status ≡ 200) × Sized limit told after root answer proof
status-says limit closed status told after root answer proof e = elim (status-cases status) [
  | inl ok ↦ (ok, length-says limit closed told after root answer proof (sym (status-ok limit closed status told after ok) ∙ e))
  | inr other ↦ elim (cases_lt (length after) (text_len told)) [
    | inl short ↦ absurd (lacks closed (BadStatus status) root answer proof (sym (status-text-open limit closed status told after other short) ∙ e))
    | inr all ↦ let both = sym (status-text-whole limit closed status told after other all) ∙ e in cc both
  ]
]

pub reply-spelled : (limit : ℕ) (closed : Bool) (received root answer proof : List ℕ) → Stands limit closed received (replied root answer proof)
    → HasReply limit received root answer proof
reply-spelled limit closed received root answer proof (unfinished, is, e) = absurd (lacks closed ClosedEarly root answer proof (sym e))
reply-spelled limit closed received root answer proof (no_head, is, e) = cc
reply-spelled limit closed received root answer proof (head h after, is, e) =
    let (ok, sized) = status-says limit closed (status_code h) (told_length (fields_of h)) after root answer proof (sym e) in
    let (size, told, fits, body) = sized in
    record { h = h; after = after; begins = is; ok = ok; size = size; told = told; within = fits; body = body }

pub reply-stands : (limit : ℕ) (closed : Bool) (received root answer proof : List ℕ) → HasReply limit received root answer proof
    → Stands limit closed received (replied root answer proof)
reply-stands limit closed received root answer proof is = (
  head is.h is.after,
  is.begins,
  sym (status-ok limit closed (status_code is.h) (told_length (fields_of is.h)) is.after is.ok
      ∙ ap (λ (o : Option ℕ). by_length limit closed o is.after) is.told
      ∙ length-within limit closed is.size is.after is.within
      ∙ body-spelled closed is.size is.after root answer proof is.body),
)

pub reply-iff : (limit : ℕ) (closed : Bool) (received root answer proof : List ℕ)
    → Stands limit closed received (replied root answer proof) ↔ HasReply limit received root answer proof
reply-iff limit closed received root answer proof =
    (reply-spelled limit closed received root answer proof, reply-stands limit closed received root answer proof)

pub reply-unique : (limit : ℕ) (received a b c d e f : List ℕ) → HasReply limit received a b c → HasReply limit received d e f → (a ≡ d) × (b ≡ e) × (c ≡ f)
reply-unique limit received a b c d e f x y =
    let same = stands-unique limit false received (replied a b c) (replied d e f) (reply-stands limit false received a b c x) (reply-stands limit false received d e f y) in
    (cc same, cc same, cc same)

pub reply-no_fault : (limit : ℕ) (closed : Bool) (received root answer proof : List ℕ) (fault : ReplyFault) → HasReply limit received root answer proof
    → HasFault limit closed received fault → ⊥
reply-no_fault limit closed received root answer proof fault x y =
    let same = stands-unique limit closed received (replied root answer proof) (failed fault) (reply-stands limit closed received root answer proof x) y in
    cc same

pub reply-append : (limit : ℕ) (received more root answer proof : List ℕ) → HasReply limit received root answer proof → HasReply limit (received ++ more) root answer proof
reply-append limit received more root answer proof x =
    reply-spelled limit false (received ++ more) root answer proof
    (settled-append limit false received more (replied root answer proof) (reply-stands limit false received root answer proof x) (λ e. cc))

pub fault-append : (limit : ℕ) (closed : Bool) (received more : List ℕ) (fault : ReplyFault) → HasFault limit false received fault
    → HasFault limit closed (received ++ more) fault
fault-append limit closed received more fault x = settled-append limit closed received more (failed fault) x (λ e. cc)

-- bytes that wait for more hold no reply
pub waiting_holds_none : (limit : ℕ) (bytes a b c : List ℕ) → Stands limit false bytes waits → HasReply limit bytes a b c → ⊥
waiting_holds_none limit bytes a b c stands reply =
    let same = stands-unique limit false bytes waits (replied a b c) stands (reply-stands limit false bytes a b c reply) in
    cc same

-- nor do no bytes
pub none_replied : (limit : ℕ) (a b c : List ℕ) → HasReply limit [] a b c → ⊥
none_replied limit a b c reply = waiting_holds_none limit [] a b c (unfinished, (refl, omega arith), refl) reply
