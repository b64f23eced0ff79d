use Rattle.std.proofs.Common.{◌∙◌, ◌-◌, ◌<◌, ◌≤◌, drop, subst, sym, take, false, ap, length, arith}
use Rattle.std.specs.Prelude.{IfSome, IfNone, Option, Some, None}
use Rattle.std.proofs.lemmas.List.{length-drop, length-take-le}
use Rattle.mirror_reply.specs.Standings.{Stands, by_body, failed, replied}
use Rattle.mirror_reply.specs.internal.Stages.{IsStage}
use Rattle.mirror_reply.specs.declared.parts.Parts.{Parts}
use Rattle.mirror_reply.specs.declared.reply_fault.ReplyFault.TheVariants.{BadBody}
use Rattle.mirror_reply.proofs.BodyLemmas.{body-taken}
use Rattle.mirror_reply.proofs.StageLemmas.{body-short, body-stands, not-body}
use Rattle.mirror_reply.proofs.StandingLemmas.{stands-unique}
use Rattle.mirror_reply.proofs.standing.parts_of.Goals as goal

pub returns-in_default : goal.returns-in_default
returns-in_default c = record { some = tt; none = not-body c.args.limit c.args.bytes.now c.args.stage c.requires c.in_default.not-Body }

pub returns-then-bytes-end-clause-none : goal.returns-then-bytes-end-clause-none
returns-then-bytes-end-clause-none c = λ r a p stands.
    let bytes = c.args.bytes.now in
    let start = c.in-Body.start in
    let is = subst (IsStage c.args.limit bytes) c.in-Body.is c.requires in
    let short : length (drop start bytes) < c.in-Body.end - start = omega (arith, c.if-bytes-end.true, length-drop start bytes, is.starts.within, is.ends) in
    body-short (c.in-Body.end - start) (drop start bytes) r a p short
    (stands-unique c.args.limit false bytes _ (replied r a p) (body-stands c.args.limit false bytes start c.in-Body.end is) stands)

some-map : (o : Option Parts) (P Q : Parts → Type 0) → IfSome o P → ((parts : Parts) → P parts → Q parts) → IfSome o Q
some-map None P Q is f = tt
some-map (Some parts) P Q is f = f parts is

none-map : (o : Option Parts) (P Q : Type 0) → IfNone o P → (P → Q) → IfNone o Q
none-map None P Q is f = f is
none-map (Some parts) P Q is f = tt

pub returns-clause-some : goal.returns-clause-some
returns-clause-some c =
    let bytes = c.args.bytes.now in
    let start = c.in-Body.start in
    let size = c.in-Body.end - start in
    let is = subst (IsStage c.args.limit bytes) c.in-Body.is c.requires in
    let all : size ≤ length (drop start bytes) = omega (arith, c.if-bytes-end.false, length-drop start bytes, is.starts.within, is.ends) in
    let len = length-take-le size (drop start bytes) all in
    some-map c.split_body.result _ _ c.split_body.ensures.some λ parts e.
    subst (Stands c.args.limit false bytes)
    (sym (body-taken size (drop start bytes) all) ∙ ap (λ n. by_body false n (take size (drop start bytes))) (sym len) ∙ e)
    (body-stands c.args.limit false bytes start c.in-Body.end is)

pub returns-clause-none : goal.returns-clause-none
returns-clause-none c =
    let bytes = c.args.bytes.now in
    let start = c.in-Body.start in
    let size = c.in-Body.end - start in
    let is = subst (IsStage c.args.limit bytes) c.in-Body.is c.requires in
    let all : size ≤ length (drop start bytes) = omega (arith, c.if-bytes-end.false, length-drop start bytes, is.starts.within, is.ends) in
    let len = length-take-le size (drop start bytes) all in
    none-map c.split_body.result _ _ c.split_body.ensures.none λ e r a p stands.
    let fails : Stands c.args.limit false bytes (failed BadBody) = subst (Stands c.args.limit false bytes)
    (sym (body-taken size (drop start bytes) all) ∙ ap (λ n. by_body false n (take size (drop start bytes))) (sym len) ∙ e)
    (body-stands c.args.limit false bytes start c.in-Body.end is) in
    let same = stands-unique c.args.limit false bytes (failed BadBody) (replied r a p) fails stands in
    cc same
