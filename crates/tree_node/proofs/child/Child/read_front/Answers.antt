use Rattle.std.proofs.Common.{◌≡◌, ◌∙◌, ℕ, List, false, true, ltb, Ok, ap, refl, sym, arith}
use Rattle.std.proofs.lemmas.Bool.{le-ltb, lt-ltb}
use Rattle.tree_node.specs.NodeRefs.{link_of}
use Rattle.tree_node.specs.Nodes.{Link}
use Rattle.tree_node.specs.internal.Reading.{link_by}
use Rattle.tree_node.proofs.FrontLemmas.{link_cut, link_whole, key_len}
use Rattle.tree_node.proofs.child.Child.read_front.Goals.{then-child-lt1-via-then-child-lt1, then-child-lt1-via-else-child-lt1+then-child-gt-NUMBER_LIMIT}
use Rattle.tree_node.proofs.child.Child.read_front.Goals as goal

pub returns-then-bytes-lt-FEWEST_BYTES-clause-read : goal.returns-then-bytes-lt-FEWEST_BYTES-clause-read
returns-then-bytes-lt-FEWEST_BYTES-clause-read c = link_cut c.args.bytes.now (omega arith)

pub returns-then-bytes-len-clause-read : goal.returns-then-bytes-len-clause-read
returns-then-bytes-len-clause-read c = link_cut c.args.bytes.now (omega (arith, c.u16_at-len.ensures.number))

pub returns-then-child-lt1-clause-read : goal.returns-then-child-lt1-clause-read
returns-then-child-lt1-clause-read c =
    let made : (link_of c.front_by.result.0, c.front_by.result.1.now) ≡ link_by (key_len c.args.bytes.now) c.args.bytes.now = c.front_by.ensures ∙ ap (λ n. link_by n c.args.bytes.now) c.u16_at-len.ensures.number in
    let number : (link_by (key_len c.args.bytes.now) c.args.bytes.now).0.number ≡ c.front_by.result.0.number = ap (λ (x : Link × List ℕ). x.0.number) (sym made) in
    let whole = link_whole c.args.bytes.now (omega (arith, c.u16_at-len.ensures.number)) in
    elim c.then-child-lt1.branch [
      | then-child-lt1-via-then-child-lt1 w ↦ let low : ltb (link_by (key_len c.args.bytes.now) c.args.bytes.now).0.number 1 ≡ true = lt-ltb _ _ (omega (arith, number, w.if-child-lt1.true)) in whole ∙ rw low refl
      | then-child-lt1-via-else-child-lt1+then-child-gt-NUMBER_LIMIT w ↦
          let low : ltb (link_by (key_len c.args.bytes.now) c.args.bytes.now).0.number 1 ≡ false = le-ltb _ _ (omega (arith, number, w.if-child-lt1.false)) in
          let high : ltb 1099511627776 (link_by (key_len c.args.bytes.now) c.args.bytes.now).0.number ≡ true = lt-ltb _ _ (omega (arith, number, w.if-child-gt-NUMBER_LIMIT.true)) in
          whole ∙ rw (low, high) refl
    ]

pub returns-clause-read : goal.returns-clause-read
returns-clause-read c =
    let made : (link_of c.front_by.result.0, c.front_by.result.1.now) ≡ link_by (key_len c.args.bytes.now) c.args.bytes.now = c.front_by.ensures ∙ ap (λ n. link_by n c.args.bytes.now) c.u16_at-len.ensures.number in
    let number : (link_by (key_len c.args.bytes.now) c.args.bytes.now).0.number ≡ c.front_by.result.0.number = ap (λ (x : Link × List ℕ). x.0.number) (sym made) in
    let low : ltb (link_by (key_len c.args.bytes.now) c.args.bytes.now).0.number 1 ≡ false = le-ltb _ _ (omega (arith, number)) in
    let high : ltb 1099511627776 (link_by (key_len c.args.bytes.now) c.args.bytes.now).0.number ≡ false = le-ltb _ _ (omega (arith, number)) in
    link_whole c.args.bytes.now (omega (arith, c.u16_at-len.ensures.number)) ∙ rw (low, high) (ap (λ x. Ok x) (sym made))
