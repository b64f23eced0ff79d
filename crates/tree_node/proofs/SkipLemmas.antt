-- Skipping items one after the other, as a loop does.
use Rattle.std.proofs.Common.{◌≡◌, ℕ, suc, ◌-◌, ◌+◌, ◌≤◌, ◌<◌, List, true, false, Option, Some, Result, Ok, Err, refl, sym, ◌∙◌, arith}
use Rattle.tree_node.specs.declared.fault.NodeFault.{NodeFault}
use Rattle.tree_node.specs.declared.fault.NodeFault.TheVariants.{NotRising}
use Rattle.tree_node.specs.Nodes.{Binding, Link}
use Rattle.tree_node.specs.Fronts.{entry_at, link_at}
use Rattle.tree_node.specs.internal.Reading.{entries_after, links_after, is_above}

module _ (count i : ℕ) (low : Option (List ℕ)) (bytes : List ℕ) (total : Result (List ℕ) NodeFault) where
  pub entries_fail : (e : NodeFault) → i < count → entry_at bytes ≡ Err e → entries_after (count - i) low bytes ≡ total → total ≡ Err e
  unfolding entries_after
  entries_fail e lt h so_far =
      let k : count - i ≡ suc (count - (i + 1)) = omega arith in
      let one : entries_after (count - i) low bytes ≡ Err e = rw (k, h) refl in
      sym so_far ∙ one

  pub entries_stop : (x : Binding) (rest : List ℕ) → i < count → entry_at bytes ≡ Ok (x, rest) → is_above low x.key ≡ false → entries_after (count - i) low bytes ≡ total → total ≡ Err NotRising
  unfolding entries_after
  entries_stop x rest lt h below so_far =
      let k : count - i ≡ suc (count - (i + 1)) = omega arith in
      let one : entries_after (count - i) low bytes ≡ Err NotRising = rw (k, h, below) refl in
      sym so_far ∙ one

  pub entries_go : (x : Binding) (rest : List ℕ) → i < count → entry_at bytes ≡ Ok (x, rest) → is_above low x.key ≡ true → entries_after (count - i) low bytes ≡ total → entries_after (count - (i + 1)) (Some x.key) rest ≡ total
  unfolding entries_after
  entries_go x rest lt h above so_far =
      let k : count - i ≡ suc (count - (i + 1)) = omega arith in
      let one : entries_after (count - i) low bytes ≡ entries_after (count - (i + 1)) (Some x.key) rest = rw (k, h, above) refl in
      sym one ∙ so_far

  pub entries_end : count ≤ i → entries_after (count - i) low bytes ≡ total → total ≡ Ok bytes
  unfolding entries_after
  entries_end le so_far =
      let k : count - i ≡ 0 = omega arith in
      let one : entries_after (count - i) low bytes ≡ Ok bytes = rw k refl in
      sym so_far ∙ one

  pub links_fail : (e : NodeFault) → i < count → link_at bytes ≡ Err e → links_after (count - i) low bytes ≡ total → total ≡ Err e
  unfolding links_after
  links_fail e lt h so_far =
      let k : count - i ≡ suc (count - (i + 1)) = omega arith in
      let one : links_after (count - i) low bytes ≡ Err e = rw (k, h) refl in
      sym so_far ∙ one

  pub links_stop : (x : Link) (rest : List ℕ) → i < count → link_at bytes ≡ Ok (x, rest) → is_above low x.greatest ≡ false → links_after (count - i) low bytes ≡ total → total ≡ Err NotRising
  unfolding links_after
  links_stop x rest lt h below so_far =
      let k : count - i ≡ suc (count - (i + 1)) = omega arith in
      let one : links_after (count - i) low bytes ≡ Err NotRising = rw (k, h, below) refl in
      sym so_far ∙ one

  pub links_go : (x : Link) (rest : List ℕ) → i < count → link_at bytes ≡ Ok (x, rest) → is_above low x.greatest ≡ true → links_after (count - i) low bytes ≡ total → links_after (count - (i + 1)) (Some x.greatest) rest ≡ total
  unfolding links_after
  links_go x rest lt h above so_far =
      let k : count - i ≡ suc (count - (i + 1)) = omega arith in
      let one : links_after (count - i) low bytes ≡ links_after (count - (i + 1)) (Some x.greatest) rest = rw (k, h, above) refl in
      sym one ∙ so_far

  pub links_end : count ≤ i → links_after (count - i) low bytes ≡ total → total ≡ Ok bytes
  unfolding links_after
  links_end le so_far =
      let k : count - i ≡ 0 = omega arith in
      let one : links_after (count - i) low bytes ≡ Ok bytes = rw k refl in
      sym so_far ∙ one
