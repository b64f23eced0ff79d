use Rattle.std.proofs.Common.{subst}
use Rattle.std.specs.Prelude.{Err, Ok, OnOk, Result}
use Rattle.mirror_reply.specs.internal.Stages.{IsStage}
use Rattle.mirror_reply.proofs.StageLemmas.{body-pushed, body-settled, failed-keeps, pushed-keeps, text-pushed, text-settled}
use Rattle.mirror_reply.proofs.keeping.keep_rest.Goals as goal

ok-map : {T E : Type 0} (r : Result T E) (P Q : Type 0) → OnOk r P → (P → Q) → OnOk r Q
ok-map (Ok done) P Q is f = f is
ok-map (Err fault) P Q is f = tt

pub returns-in-Body-clause-kept : goal.returns-in-Body-clause-kept
returns-in-Body-clause-kept c =
    let old = c.args.bytes.now.items in
    let new = c.push_up_to.new.bytes.items in
    let piece = c.args.piece.now in
    let is = subst (IsStage c.args.limit old) c.in-Body.is c.requires.known in
    ok-map c.push_up_to.result _ _ c.push_up_to.ensures.pushed λ pushed.
    pushed-keeps c.args.limit old new piece c.in-Body.end pushed
    (body-settled c.args.limit new c.in-Body.start c.in-Body.end (body-pushed c.args.limit old new piece c.in-Body.start c.in-Body.end is pushed))

pub returns-in-Text-clause-kept : goal.returns-in-Text-clause-kept
returns-in-Text-clause-kept c =
    let old = c.args.bytes.now.items in
    let new = c.push_up_to-in-Text.new.bytes.items in
    let piece = c.args.piece.now in
    let is = subst (IsStage c.args.limit old) c.in-Text.is c.requires.known in
    ok-map c.push_up_to-in-Text.result _ _ c.push_up_to-in-Text.ensures.pushed λ pushed.
    pushed-keeps c.args.limit old new piece c.in-Text.end pushed
    (text-settled c.args.limit new c.in-Text.status c.in-Text.start c.in-Text.end (text-pushed old new piece c.in-Text.status c.in-Text.start c.in-Text.end is pushed))

pub returns-in-Failed-clause-kept : goal.returns-in-Failed-clause-kept
returns-in-Failed-clause-kept c =
    let is = subst (IsStage c.args.limit c.args.bytes.now.items) c.in-Failed.is c.requires.known in
    failed-keeps c.args.limit c.args.bytes.now.items c.args.piece.now _ is

pub returns-in-Head-clause-kept : goal.returns-in-Head-clause-kept
returns-in-Head-clause-kept c = absurd (c.requires.complete c.in-Head.is)
