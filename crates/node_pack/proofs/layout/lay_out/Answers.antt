use Rattle.std.proofs.Common.{◌+◌, ◌*◌, ◌^◌, IsSome, List, ap, arith, subst, sym, ◌∙◌}
use Rattle.std.proofs.lemmas.List.{take_all}
use Rattle.std.proofs.lemmas.List.Elements.{All-from_recursion}
use Rattle.node_pack.specs.Packs.{AreApart}
use Rattle.node_pack.specs.declared.gathered.Gathered.{Gathered}
use Rattle.node_pack.specs.internal.Gathering.{IsMeasured, kepts}
use Rattle.node_pack.proofs.LayoutLemmas.{is_none, lens_more, lens_within, not_apart, one_apart, one_laid, pack_lens, place_is}
use Rattle.node_pack.proofs.shared.RecordPlaces.{lens}
use Rattle.node_pack.proofs.layout.lay_out.Goals as goal

pub returns-then-end-gt-FILE_LIMIT-clause-refused : goal.returns-then-end-gt-FILE_LIMIT-clause-refused
returns-then-end-gt-FILE_LIMIT-clause-refused c =
    let nodes = c.args.nodes.now in
    let measured = All-from_recursion IsMeasured nodes c.requires.measured c.loop-node.node-index c.node-item.result c.loop-node-test.true in
    omega (
      arith,
      c.loop-node.invariant.place,
      lens_within nodes c.loop-node.node-index c.node-item.result c.loop-node-test.true,
      measured.len,
      ap (λ (n : Gathered). n.len) c.node-item.is,
      c.from.ensures,
      pack_lens (kepts nodes),
      c.if-end-gt-FILE_LIMIT.true,
    )

pub returns-then-is_some-clause-refused : goal.returns-then-is_some-clause-refused
returns-then-is_some-clause-refused c =
    let nodes = c.args.nodes.now in
    let i = c.loop-node.node-index in
    let d = c.node-item.result in
    let measured = All-from_recursion IsMeasured nodes c.requires.measured i d c.loop-node-test.true in
    let own = ap (λ (n : Gathered). n.key.0) c.node-item.is ∙ measured.key in
    let some : IsSome c.in_ok-before.before = sym c.is_some.ensures ∙ c.if-is_some.true in
    not_apart nodes i d c.loop-node-test.true (c.args.number * 2 ^ 48 + 60) c.loop-node.places d.key own c.loop-node.invariant.laid (subst (λ o. IsSome o) c.in_ok-before.ensures.old some)

pub loop-node-preserved : goal.loop-node-preserved
loop-node-preserved c =
    let nodes = c.args.nodes.now in
    let i = c.loop-node.node-index in
    let d = c.node-item.result in
    let lt = c.loop-node-test.true in
    let first = c.args.number * 2 ^ 48 + 60 in
    let m = c.loop-node.places in
    let inv = c.loop-node.invariant in
    let measured = All-from_recursion IsMeasured nodes c.requires.measured i d lt in
    let own = ap (λ (n : Gathered). n.key.0) c.node-item.is ∙ measured.key in
    let len = c.from.ensures ∙ ap (λ (n : Gathered). n.len) c.node-item.is ∙ measured.len in
    let none = sym c.in_ok-before.ensures.old ∙ is_none c.in_ok-before.before (sym c.is_some.ensures ∙ c.if-is_some.false) in
    record {
      place = omega (arith, inv.place, lens_more nodes i d lt, len);
      short = omega (arith, c.if-end-gt-FILE_LIMIT.false);
      apart = one_apart nodes i d lt first m d.key own inv.laid none inv.apart;
      laid = one_laid nodes i d lt first m c.insert.new.self d.key _ c.in_ok-before.ensures.updates own
          (place_is _ _ (omega (arith, inv.place, c.from-file.ensures)) (ap (λ (n : Gathered). n.len) c.node-item.is ∙ measured.len)) none inv.laid;
    }

pub returns-clause-len : goal.returns-clause-len
returns-clause-len c =
    c.loop-node.invariant.place ∙ ap (λ (l : List Gathered). 60 + lens (kepts l)) (take_all c.loop-node.node-index c.args.nodes.now c.loop-node-test.false) ∙ sym (pack_lens (kepts c.args.nodes.now))

pub returns-clause-apart : goal.returns-clause-apart
returns-clause-apart c =
    subst (λ (l : List Gathered). AreApart (kepts l)) (take_all c.loop-node.node-index c.args.nodes.now c.loop-node-test.false) c.loop-node.invariant.apart
