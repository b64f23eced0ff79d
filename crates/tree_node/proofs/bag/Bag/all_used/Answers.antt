use Rattle.std.proofs.Common.{◌<◌, length, refl, sym, ap, ◌∙◌, arith, get_or, false, List, Bool}
use Rattle.tree_node.proofs.BagLemmas.{all_marked, some_unmarked}
use Rattle.tree_node.proofs.bag.Bag.all_used.Goals as goal

pub returns-then-not-mark : goal.returns-then-not-mark
returns-then-not-mark c =
    let same = c.as_slice-mark-items.ensures.value in
    let here = sym (ap (λ (ms : List Bool). get_or ms c.loop-mark.mark-index false) same) ∙ c.if-not-mark.true in
    let lt : c.loop-mark.mark-index < length c.args.self.now.marks.items = omega (arith, ap (length {A = Bool}) same) in
    let one = some_unmarked _ _ c.loop-mark.mark-index c.args.self.now.rising c.args.self.now.marked lt here in record {
      used = ((λ is. absurd cc), (λ used. absurd (one.2 (used one.0 one.1))));
      unused = λ _. one;
    }

pub returns : goal.returns
returns c =
    let same = c.as_slice-mark-items.ensures.value in record {
      used = (
        (λ _. all_marked _ _ c.args.self.now.marked
            (λ k lt. c.loop-mark.invariant k (omega (arith, ap (length {A = Bool}) same)))),
        (λ _. refl),
      );
      unused = λ is. absurd cc;
    }
