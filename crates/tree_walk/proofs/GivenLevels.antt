-- The nodes of a level that were fetched and accepted, one for each pending child so far, and what was taken of them.
use Rattle.std.proofs.Common.{Bool, ◌≡◌, ℕ, List, [], ◌∷◌, ◌++◌, map, Option, None, Some, inl, refl, sym, subst, append_assoc}
use Rattle.std.specs.List.{AllByRecursion, flat_map}
use Rattle.std.proofs.lemmas.Grind.{flat_map-append}
use Rattle.std.proofs.lemmas.List.{append-nil}
use Rattle.tree_node.specs.Nodes.{Link, Node, Spells, level_of, spelling}
use Rattle.tree_node.specs.Shelves.{Stays}
use Rattle.tree_node.specs.Trees.{greatest_of}
use Rattle.tree_node.proofs.shared.OutcomeLaws.{uses}
use Rattle.tree_walk.specs.Choices.{AreThose}
use Rattle.tree_walk.specs.Fetches.{IsAmong}
use Rattle.tree_walk.specs.Given.{AreAccepted, wanted_of}
use Rattle.tree_walk.specs.Reasons.{IsAccepted}
use Rattle.tree_walk.specs.internal.Pendings.{AreInOrder, FetchedNode, IsOfLevel}
use Rattle.tree_walk.proofs.ChoiceLemmas.{those_append}
use Rattle.tree_walk.proofs.FetchLemmas.{all_weaker, among_last}
use Rattle.tree_walk.proofs.LevelFetches.{FetchingLevel, IsFetchedUpTo, level_start, level_step, of_level}

-- ---- what was taken of the nodes so far

-- what another node adds to what those before it have
pub those_of_next : {X : Type 0} (items : Option (List ℕ) × Node → List X) (Has : X → Type 0) (read : List (Option (List ℕ) × Node)) (node : Option (List ℕ) × Node) (found more : List X)
    → AreThose Has (flat_map items read) found → AreThose Has (items node) more → AreThose Has (flat_map items (read ++ node ∷ [])) (found ++ more)
those_of_next {X} items Has read node found more before these =
    let one : flat_map items (node ∷ []) ≡ items node = append-nil (items node) in
    subst (λ (xs : List X). AreThose Has xs (found ++ more)) (sym (flat_map-append items read (node ∷ [])))
    (those_append Has (flat_map items read) (flat_map items (node ∷ [])) found more before (subst (λ (xs : List X). AreThose Has xs more) (sym one) these))

-- ---- the nodes so far

module _ (tree level : ℕ) (all : List (Option (List ℕ) × Link)) where
  -- The nodes so far, read from these byte strings: with those of the rest after them they are those of all.
  abbrev pub AreRead : List (Option (List ℕ) × Link) → List (List ℕ) → List (Option (List ℕ) × Node) → Type 0
  AreRead rest done read =
      (more : List (List ℕ)) (others : List (Option (List ℕ) × Node)) → AreAccepted (IsAmong (done ++ more)) tree level (map (wanted_of level) rest) others
      → AreAccepted (IsAmong (done ++ more)) tree level (map (wanted_of level) all) (read ++ others)

  -- one more
  read_next : (rest : List (Option (List ℕ) × Link)) (spot : Option (List ℕ) × Link) (done : List (List ℕ)) (bytes : List ℕ) (read : List (Option (List ℕ) × Node)) (node : Node) (used : List ℕ → Type 0)
      → AreRead (spot ∷ rest) done read → Spells bytes node → level_of node ≡ level → IsAccepted used tree (wanted_of level spot) node → AreRead rest (done ++ bytes ∷ []) (read ++ (spot.0, node) ∷ [])
  read_next rest spot done bytes read node used so spells at_level accepted more others are =
      let same : (done ++ bytes ∷ []) ++ more ≡ done ++ bytes ∷ more = append_assoc done (bytes ∷ []) more in
      let here : IsAccepted (IsAmong (done ++ bytes ∷ more)) tree (wanted_of level spot) node = record {
        read = (accepted.read.0, (among_last done (bytes ∷ more) (spelling node) (inl (sym spells.1)), accepted.read.1.1));
        kind = accepted.kind;
        stated = accepted.stated;
      } in
      let after = subst (λ (ns : List (List ℕ)). AreAccepted (IsAmong ns) tree level (map (wanted_of level) rest) others) same are in
      subst (λ (ns : List (List ℕ)). AreAccepted (IsAmong ns) tree level (map (wanted_of level) all) ((read ++ (spot.0, node) ∷ []) ++ others)) (sym same)
      (subst (λ (rs : List (Option (List ℕ) × Node)). AreAccepted (IsAmong (done ++ bytes ∷ more)) tree level (map (wanted_of level) all) rs) (sym (append_assoc read ((spot.0, node) ∷ []) others))
      (so (bytes ∷ more) ((spot.0, node) ∷ others) (refl, at_level, here, after)))

  read_all : (done : List (List ℕ)) (read : List (Option (List ℕ) × Node)) → AreRead [] done read → AreAccepted (IsAmong done) tree level (map (wanted_of level) all) read
  read_all done read so =
      subst (λ (ns : List (List ℕ)). AreAccepted (IsAmong ns) tree level (map (wanted_of level) all) read) (append-nil done)
      (subst (λ (rs : List (Option (List ℕ) × Node)). AreAccepted (IsAmong (done ++ [])) tree level (map (wanted_of level) all) rs) (append-nil read) (so [] [] refl))

  module _ (old : List ℕ → Type 0) (from : ℕ) where
    -- the nodes so far were fetched and accepted: these
    pub record ReadingLevel (low : Option (List ℕ)) (held now : List ℕ → Type 0) (to : ℕ) (rest : List (Option (List ℕ) × Link)) (read : List (Option (List ℕ) × Node)) : Type 0 where
      pub so_far : FetchingLevel level low (uses held old now) from to rest
      pub are : AreRead rest so_far.done read

    -- at the start
    pub reading_start : (held : List ℕ → Type 0) → AreInOrder None all → ReadingLevel None held old from all []
    unfolding level_start
    reading_start held order = record { so_far = level_start level old from held all order; are = λ more others is. is }

    -- one more
    pub reading_step : {fixed : Bool} (low : Option (List ℕ)) (held after mid new : List ℕ → Type 0) (via to : ℕ) (spot : Option (List ℕ) × Link) (rest : List (Option (List ℕ) × Link)) (read : List (Option (List ℕ) × Node)) (node : Node)
        → ReadingLevel low held mid via (spot ∷ rest) read → Stays fixed held after → FetchedNode node (uses after mid new) via to
        → level_of node ≡ level → greatest_of node ≡ spot.1.greatest → IsAccepted new tree (wanted_of level spot) node
        → ReadingLevel (Some spot.1.greatest) after new to rest (read ++ (spot.0, node) ∷ [])
    unfolding level_step
    reading_step low held after mid new via to spot rest read node so stays is at_level greatest accepted = record {
      so_far = level_step level old from low held after mid new via to spot rest node so.so_far stays is at_level greatest;
      are = read_next rest spot so.so_far.done is.bytes read node new so.are is.spells at_level accepted;
    }

    -- each is a node of the level
    pub reading_texts : (low : Option (List ℕ)) (held now : List ℕ → Type 0) (to : ℕ) (rest : List (Option (List ℕ) × Link)) (read : List (Option (List ℕ) × Node)) → (so : ReadingLevel low held now to rest read)
        → AllByRecursion (IsOfLevel level) so.so_far.done
    reading_texts low held now to rest read so = all_weaker (IsFetchedUpTo level low) (IsOfLevel level) so.so_far.done (of_level level old from low) so.so_far.so_far

    -- at the end all were accepted
    pub reading_end : (low : Option (List ℕ)) (held now : List ℕ → Type 0) (to : ℕ) (read : List (Option (List ℕ) × Node)) → (so : ReadingLevel low held now to [] read)
        → AreAccepted (IsAmong so.so_far.done) tree level (map (wanted_of level) all) read
    reading_end low held now to read so = read_all so.so_far.done read so.are
