use Rattle.std.proofs.Common.{rules}
use Rattle.std.specs.Prelude.{bytes_eq}
use Rattle.std.proofs.lemmas.Fn.{dedup_same}
use Rattle.tree_node.specs.declared.item.Item.{Item}
use Rattle.light_index.proofs.light_entry_list.drop_repeats.Goals as goal

pub returns : goal.returns
returns c = dedup_same _ (λ (second first : Item). bytes_eq second.key.now first.key.now) _ (λ x y b f x' y' called. search rules) _ _ c.dedup_by.ensures.filtered
