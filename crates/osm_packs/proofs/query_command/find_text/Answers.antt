use Rattle.std.proofs.Common.{◌∙◌, ◌≢◌, sym}
use Rattle.std.proofs.lemmas.Result.{IfErr-weaker}
use Rattle.osm_check.specs.Verdicts.{IsReadable}
use Rattle.osm_packs.specs.Querying.{Explains, HasRoot}
use Rattle.osm_packs.specs.internal.Faults.{IsOfNodes}
use Rattle.osm_packs.specs.declared.not_answered.NotAnswered.TheVariants.{Device}
use Rattle.osm_packs.proofs.QueryLemmas.{explained, has_root, not_device, ok_any, one_digest}
use Rattle.osm_packs.proofs.query_command.find_text.Goals as goal

pub returns-clause-right : goal.returns-clause-right
returns-clause-right g c = λ p is root. c.answer_text.ensures.right p c.args.query.now c.in-Ok.ensures.read is root

pub returns-clause-budget : goal.returns-clause-budget
returns-clause-budget g c = λ p is root none. c.answer_text.ensures.budget p c.args.query.now c.in-Ok.ensures.read is root none

pub returns-clause-refused : goal.returns-clause-refused
returns-clause-refused g c =
    let Gives = g.F.ReadAt.reads c.args.pack in
    let same = one_digest c.root.result c.args.root.now c.ne.result c.ne.ensures c.if-ne.false in
    IfErr-weaker c.answer_text.result IsOfNodes (Explains Gives c.args.query.now c.args.root.now.0)
    (λ fault of. explained Gives c.args.query.now c.args.root.now.0 fault (_, c.in-Ok.ensures.read) (has_root Gives c.args.root.now _ c.in-Ok-open.ensures.header (sym c.root.ensures ∙ same)) of)
    c.answer_text.ensures.told

pub returns-clause-no_device : goal.returns-clause-no_device
returns-clause-no_device g c = IfErr-weaker c.answer_text.result IsOfNodes (λ fault. fault ≢ Device) not_device c.answer_text.ensures.told

pub returns-clause-opened : goal.returns-clause-opened
returns-clause-opened g c =
    let Gives = g.F.ReadAt.reads c.args.pack in
    let same = one_digest c.root.result c.args.root.now c.ne.result c.ne.ensures c.if-ne.false in
    ok_any (IsReadable c.args.query.now × HasRoot Gives c.args.root.now.0)
    ((_, c.in-Ok.ensures.read), has_root Gives c.args.root.now _ c.in-Ok-open.ensures.header (sym c.root.ensures ∙ same)) c.answer_text.result
