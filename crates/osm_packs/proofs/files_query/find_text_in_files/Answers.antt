use Rattle.std.proofs.Common.{◌≡◌, ◌≢◌, ap}
use Rattle.std.proofs.lemmas.Result.{IfErr-weaker}
use Rattle.osm_check.specs.Verdicts.{IsReadable}
use Rattle.tree_node.specs.declared.digest.Digest.{Digest}
use Rattle.osm_packs.specs.Querying.{ExplainsInFiles}
use Rattle.osm_packs.specs.internal.Faults.{IsOfNodes}
use Rattle.osm_packs.specs.declared.not_answered.NotAnswered.TheVariants.{Device}
use Rattle.osm_packs.proofs.QueryLemmas.{explained_in_files, not_device, ok_any, one_digest}
use Rattle.osm_packs.proofs.files_query.find_text_in_files.Goals as goal

pub returns-clause-right : goal.returns-clause-right
returns-clause-right g c = λ p is root. c.answer_text.ensures.right p c.args.query.now c.in-Ok.ensures.read is root

pub returns-clause-budget : goal.returns-clause-budget
returns-clause-budget g c = λ p is root none. c.answer_text.ensures.budget p c.args.query.now c.in-Ok.ensures.read is root none

pub returns-clause-refused : goal.returns-clause-refused
returns-clause-refused g c =
    let same = ap (λ (d : Digest). d.0) (one_digest c.args.stated.now c.args.root.now c.ne.result c.ne.ensures c.if-ne.false) in
    IfErr-weaker c.answer_text.result IsOfNodes (ExplainsInFiles c.args.query.now c.args.root.now.0 c.args.stated.now.0)
    (λ fault of. explained_in_files c.args.query.now c.args.root.now.0 c.args.stated.now.0 fault (_, c.in-Ok.ensures.read) same of)
    c.answer_text.ensures.told

pub returns-clause-no_device : goal.returns-clause-no_device
returns-clause-no_device g c = IfErr-weaker c.answer_text.result IsOfNodes (λ fault. fault ≢ Device) not_device c.answer_text.ensures.told

pub returns-clause-opened : goal.returns-clause-opened
returns-clause-opened g c =
    let same = ap (λ (d : Digest). d.0) (one_digest c.args.stated.now c.args.root.now c.ne.result c.ne.ensures c.if-ne.false) in
    ok_any (IsReadable c.args.query.now × (c.args.stated.now.0 ≡ c.args.root.now.0)) ((_, c.in-Ok.ensures.read), same) c.answer_text.result
