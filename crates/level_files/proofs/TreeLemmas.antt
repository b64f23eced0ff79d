-- One tree, while its entries come, and at its end.
use Rattle.std.proofs.Common.{◌≡◌, refl, sym, subst, inl, inr, ℕ, zero, suc, List, [], ◌∷◌, map, None, Result, Ok, Err}
use Rattle.std.specs.Prelude.{OnOk, ◌⊎◌}
use Rattle.tree_node.specs.Nodes.{Binding}
use Rattle.tree_node.specs.Trees.{Shape}
use Rattle.tree_stream.specs.Streams.{HasTaken, IsSound}
use Rattle.tree_stream.specs.declared.fault.StreamFault.{StreamFault}
use Rattle.tree_stream.specs.declared.fault.StreamFault.TheVariants.{NotRising, TooLong, TooMany, Memory, Device}
use Rattle.tree_stream.specs.declared.stream.TreeStream.{TreeStream}
use Rattle.level_files.specs.Built.{fault_in}
use Rattle.level_files.specs.Levels.{level_in, unread_level}
use Rattle.level_files.specs.internal.Files.{file_at}

-- a stream that told no fault after which it can't be used is sound
pub sound_after : {A W : Type 0} (given : W → ℕ → List (List ℕ)) (old new : TreeStream W) (r : Result A StreamFault) (shape : Shape) (tree : ℕ) (entries next : List Binding)
    → HasTaken given old shape tree entries → fault_in r ≡ None → OnOk r (HasTaken given new shape tree next)
    → ((r ≡ Err NotRising) ⊎ (r ≡ Err TooLong) ⊎ (r ≡ Err TooMany) → new ≡ old) → IsSound given new
sound_after given old new (Ok x) shape tree entries next taken none more same = (shape, tree, next, more)
sound_after given old new (Err NotRising) shape tree entries next taken none more same = (shape, tree, entries, subst (λ s. HasTaken given s shape tree entries) (sym (same (inl refl))) taken)
sound_after given old new (Err TooLong) shape tree entries next taken none more same = (shape, tree, entries, subst (λ s. HasTaken given s shape tree entries) (sym (same (inr (inl refl)))) taken)
sound_after given old new (Err TooMany) shape tree entries next taken none more same = (shape, tree, entries, subst (λ s. HasTaken given s shape tree entries) (sym (same (inr (inr refl)))) taken)
sound_after given old new (Err Memory) shape tree entries next taken none more same = absurd (cc)
sound_after given old new (Err Device) shape tree entries next taken none more same = absurd (cc)

-- the levels that are read are those that were written
pub level_in_map : (files : List (List (List ℕ))) (level : ℕ) → level_in (map unread_level files) level ≡ unread_level (file_at files level)
level_in_map [] zero = refl
level_in_map [] (suc level) = refl
level_in_map (file ∷ files) zero = refl
level_in_map (file ∷ files) (suc level) = level_in_map files level
