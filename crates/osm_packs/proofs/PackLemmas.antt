-- What a pack of a publication's nodes has, and why it isn't refused.
use Rattle.std.proofs.Common.{◌≡◌, ◌∙◌, ℕ, List, [], ◌∷◌, true, Option, None, Some, Result, Ok, Err, IfErr, IsErrAnd, inl, inr, refl, sym, subst}
use Rattle.std.specs.Prelude.{◌≢◌, IfSome, ⊤}
use Rattle.std.specs.List.{AllByRecursion}
use Rattle.osm_keys.specs.Publications.{IsNodeIn, IsPublication, Publication, root_of}
use Rattle.tree_node.specs.Digests.{digest}
use Rattle.tree_node.specs.Shelves.{IsClashFree, SameNodes, Stays}
use Rattle.tree_node.specs.Stocks.{HasNode}
use Rattle.tree_node.specs.declared.stock.Stock.{Stock}
use Rattle.osm_index.specs.Snapshots.{HoldsPublication}
use Rattle.osm_index.specs.declared.snapshot.Snapshot.{Snapshot}
use Rattle.node_pack.specs.Packs.{Kept, pack}
use Rattle.node_pack.specs.Reached.{ArePacked, AreTooLong, AtRoot, IsAsWanted, IsReached, IsReason, IsUnder, Referred}
use Rattle.node_pack.specs.declared.role.Wanted.{Wanted}
use Rattle.node_pack.specs.declared.role.Wanted.TheVariants.{Root}
use Rattle.node_pack.specs.declared.write_fault.WriteFault.{WriteFault}
use Rattle.node_pack.specs.declared.write_fault.WriteFault.TheVariants as faults
use Rattle.osm_model.specs.Elements.{Element}
use Rattle.opl_codec.specs.Files.{HoldsSet}
use Rattle.osm_keys.specs.declared.edition.Edition.{Edition}
use Rattle.osm_commands.specs.TreeRoots.{IsOutsideOrTrees, IsPublicationIn}
use Rattle.osm_commands.specs.declared.command_fault.CommandFault.{CommandFault}
use Rattle.osm_commands.specs.declared.command_fault.CommandFault.TheVariants as commands
use Rattle.pack_assembly.specs.Packing.{IsPackOf, IsTooLong}
use Rattle.osm_packs.specs.Packing.{IsOutsideOrLong}
use Rattle.osm_packs.specs.internal.Packing.{IsPackFault}
use Rattle.osm_packs.proofs.PublishedNodes.{all_each, published_stands, under_published}

-- what is held are the nodes of a publication, and no two of them clash
pub record HoldsNodes (p : Publication) (held : List ℕ → Type 0) : Type 0 where
  pub is : IsPublication p
  pub only : (bytes : List ℕ) → held bytes → IsNodeIn p bytes
  pub all : (bytes : List ℕ) → IsNodeIn p bytes → held bytes
  pub no_clash : IsClashFree (IsNodeIn p)

-- so it is of a recorder over a snapshot that holds the publication, whatever was fetched
pub holds_nodes : (snapshot : Snapshot) (p : Publication) (stock : Stock) (first last : List ℕ → Type 0) → HoldsPublication snapshot p → stock ≡ snapshot.stock
    → SameNodes (HasNode stock) first → Stays true first last → HoldsNodes p last
holds_nodes snapshot p stock first last held same nodes stays = record {
  is = held.is.published;
  only = λ bytes has. (held.nodes bytes).0 (subst (λ (s : Stock). HasNode s bytes) same ((nodes bytes).0 ((stays bytes).0 refl has)));
  all = λ bytes node. (stays bytes).1 ((nodes bytes).1 (subst (λ (s : Stock). HasNode s bytes) (sym same) ((held.nodes bytes).1 node)));
  no_clash = held.no_clash;
}

-- ---- what is held by a smaller set stands under the root of a larger one too

module _ (held more : List ℕ → Type 0) (wider : (bytes : List ℕ) → held bytes → more bytes) (root : List ℕ) where
  under_more : (wanted : Wanted) (key : List ℕ) → IsUnder held root wanted key → IsUnder more root wanted key
  under_more Root _ AtRoot = AtRoot
  under_more _ _ (Referred parent_as parent wanted key is_held as_wanted under refers) =
      Referred parent_as parent wanted key (wider parent is_held) as_wanted (under_more parent_as (digest parent) under) refers

  reached_more : (kept : Kept) → IsReached held root kept → IsReached more root kept
  reached_more kept reached = record {
    is_held = wider kept.bytes reached.is_held;
    children = reached.children;
    wanted = reached.wanted;
    as_wanted = reached.as_wanted;
    under = under_more reached.wanted (digest kept.bytes) reached.under;
  }

  all_reached_more : (nodes : List Kept) → AllByRecursion (IsReached held root) nodes → AllByRecursion (IsReached more root) nodes
  all_reached_more [] all = tt
  all_reached_more (kept ∷ others) all = (reached_more kept all.0, all_reached_more others all.1)

  long_more : AreTooLong held root → AreTooLong more root
  long_more (inl (kept, reached, long)) = inl (kept, reached_more kept reached, long)
  long_more (inr (nodes, reached, apart, long)) = inr (nodes, all_reached_more nodes reached, apart, long)

module _ (p : Publication) (held : List ℕ → Type 0) (holds : HoldsNodes p held) where
  pub too_long : AreTooLong held (root_of p) → IsTooLong p
  too_long long = long_more held (IsNodeIn p) holds.only (root_of p) long

  -- none is missing
  pub never_missing : IsReason held (root_of p) faults.Missing → ⊥
  never_missing (wanted, key, under, none) =
      let found = under_published p holds.is held holds.only wanted key under in
      none found.bytes (holds.all found.bytes found.is_node) found.has_digest

  -- and none malformed
  pub never_malformed : IsReason held (root_of p) faults.Malformed → ⊥
  never_malformed (wanted, bytes, has, under, not) =
      let found = under_published p holds.is held holds.only wanted (digest bytes) under in
      let same : found.bytes ≡ bytes = holds.no_clash found.bytes bytes found.is_node (holds.only bytes has) found.has_digest in
      not (subst (IsAsWanted wanted) same found.as_wanted)

  -- what is packed are just the nodes of the publication
  pub packs_all : (nodes : List Kept) → ArePacked held (root_of p) nodes → IsPackOf p (pack (root_of p) nodes)
  packs_all nodes packed = record {
    nodes = nodes;
    is_pack = packed.is_pack;
    same = λ bytes. (
      (λ has. let (kept, is_in, e) = has in subst (IsNodeIn p) e (holds.only kept.bytes (all_each (IsReached held (root_of p)) nodes packed.reached kept is_in).is_held)),
      (λ node.
          let stands = published_stands p holds.is held holds.all bytes node in
          let found = packed.whole stands.wanted (digest bytes) stands.under in
          let reached = all_each (IsReached held (root_of p)) nodes packed.reached found.kept found.is_in in
          (found.kept, found.is_in, holds.no_clash found.kept.bytes bytes (holds.only found.kept.bytes reached.is_held) node found.has_digest)),
    );
  }

-- ---- reasons

abbrev IsOfNodes : WriteFault → Type 0
IsOfNodes faults.Missing = ⊤
IsOfNodes faults.Malformed = ⊤
IsOfNodes faults.TooLong = ⊤
IsOfNodes faults.Memory = ⊤
IsOfNodes faults.NotWritten = ⊥

-- the reason of a fault that isn't the writer's
pub reason_of : (held : List ℕ → Type 0) (root : List ℕ) (fault known : WriteFault) → fault ≡ known → IsOfNodes known
    → (fault ≢ faults.NotWritten → IsReason held root fault) → IsReason held root known
reason_of held root fault known same of given = subst (IsReason held root) same (given (λ e. subst IsOfNodes (sym same ∙ e) of))

-- ---- what the command is refused for

fault_outside : (file : List ℕ) (set : List Element) (edition : Edition) (p : Publication) (fault : CommandFault) → IsPublicationIn file edition p → IsPackFault p fault → IsOutsideOrLong file set edition fault
fault_outside file set edition p commands.TooLarge is long = inl (refl, (p, is, long))
fault_outside file set edition p commands.Memory is any = inr tt
fault_outside file set edition p commands.Device is any = inr tt
fault_outside file set edition p (commands.Opl load) is never = absurd never
fault_outside file set edition p (commands.Query fault) is never = absurd never
fault_outside file set edition p commands.Endless is never = absurd never
fault_outside file set edition p commands.Work is never = absurd never
fault_outside file set edition p commands.Clash is never = absurd never
fault_outside file set edition p commands.TooMany is never = absurd never
fault_outside file set edition p (commands.Apply fault) is never = absurd never

pub only_unmade : (known : Option (List ℕ)) (edition : Edition) (fault : CommandFault) (result : Result (Unit {0}) CommandFault) → IsErrAnd result (λ told. told ≡ fault)
    → IfSome known (λ file. (set : List Element) → HoldsSet file set → IsOutsideOrTrees set edition fault)
    → IfSome known (λ file. (set : List Element) → HoldsSet file set → IfErr result (IsOutsideOrLong file set edition))
only_unmade None edition fault result told only = tt
only_unmade (Some file) edition fault (Ok done) told only = λ set holds. tt
only_unmade (Some file) edition fault (Err given) told only = λ set holds. inr (subst (IsOutsideOrTrees set edition) (sym told) (only set holds))

pub only_unwritten : (known : Option (List ℕ)) (edition : Edition) (p : Publication) (fault : CommandFault) (result : Result (Unit {0}) CommandFault) → IsErrAnd result (λ told. told ≡ fault)
    → IfSome known (λ file. IsPublicationIn file edition p) → IsPackFault p fault
    → IfSome known (λ file. (set : List Element) → HoldsSet file set → IfErr result (IsOutsideOrLong file set edition))
only_unwritten None edition p fault result told is why = tt
only_unwritten (Some file) edition p fault (Ok done) told is why = λ set holds. tt
only_unwritten (Some file) edition p fault (Err given) told is why = λ set holds.
    subst (IsOutsideOrLong file set edition) (sym told) (fault_outside file set edition p fault is why)
