-- A root of a publication has 32 bytes, and what is told as a yes is one.
use Rattle.std.proofs.Common.{◌≡◌, ◌∙◌, ℕ, List, Ok, ap, length, sym}
use Rattle.std.proofs.lemmas.Bool.{false≢true}
use Rattle.tree_node.proofs.shared.TreeLaws.{digest_len}
use Rattle.osm_keys.specs.Publications.{Publication, manifest_of, root_of}
use Rattle.osm_check_web.proofs.StatusLemmas.{yes_of}
use Rattle.osm_check_web.proofs.exports.osm_check_verdict.Goals as goal

root_len : (root : List ℕ) (p : Publication) → root ≡ root_of p → length root ≡ 32
root_len root p is = ap length is ∙ digest_len (manifest_of p)

pub returns-in_default-clause-honest : goal.returns-in_default-clause-honest
returns-in_default-clause-honest c p is root_is right =
    absurd (false≢true (c.in_default.ensures.some.1 (root_len c.args.root.now p root_is)))

pub returns-in_default-clause-only : goal.returns-in_default-clause-only
returns-in_default-clause-only c p owed is root_is tells =
    absurd (false≢true (c.in_default.ensures.some.1 (root_len c.args.root.now p root_is)))

pub returns-in-Ok-clause-headline : goal.returns-in-Ok-clause-headline
returns-in-Ok-clause-headline c p is root_is told =
    let found = yes_of c.in-Ok.verdict (sym c.status_of_verdict.ensures ∙ told) in
    c.check.ensures.headline p found.0 is (c.in-Some.ensures.same ∙ root_is) (c.in-Ok.is ∙ ap Ok found.1)
