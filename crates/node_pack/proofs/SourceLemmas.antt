-- How a source goes on.
use Rattle.std.proofs.Common.{◌≡◌, ℕ, List, Option, ◌∙◌}
use Rattle.node_pack.specs.Packs.{Kept}
use Rattle.node_pack.specs.Sources.{IsOver, Knows, root_in}
use Rattle.node_pack.specs.declared.place.Place.{Place}
use Rattle.node_pack.specs.declared.source.PackSource.{PackSource}

module _ {F : Type 0} (reads : F → List ℕ → Type 0) where
  -- no hint was heard, the root is the same, what was known is known, and where it was over nodes at places it still is
  abbrev pub GoesOn : PackSource F → PackSource F → Type 0
  GoesOn old new = record {
    announced : new.ahead.announced ≡ old.ahead.announced;
    root : root_in new ≡ root_in old;
    keeps : (key : List ℕ) → Knows old key → Knows new key;
    over : (place_of : List ℕ → Option Place) (root : List ℕ) (nodes : List Kept) → IsOver reads place_of old root nodes → IsOver reads place_of new root nodes;
  }

  pub goes_on : (a b c : PackSource F) → GoesOn a b → GoesOn b c → GoesOn a c
  goes_on a b c first second = record {
    announced = second.announced ∙ first.announced;
    root = second.root ∙ first.root;
    keeps = λ key known. second.keeps key (first.keeps key known);
    over = λ place_of root nodes over. second.over place_of root nodes (first.over place_of root nodes over);
  }
