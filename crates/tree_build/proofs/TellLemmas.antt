-- Telling what a level has gained and lost, new node by new node.
use Rattle.std.proofs.Common.{◌≡◌, ℕ, ◌+◌, ◌-◌, List, [], ◌∷◌, ◌++◌, length, take, drop, map, Bool, refl, sym, ap, ◌∙◌, append_assoc}
use Rattle.std.specs.List.{AllByRecursion}
use Rattle.std.proofs.lemmas.List.{append-nil, map-append}
use Rattle.tree_node.specs.Nodes.{IsNode, Link, Node, spelling}
use Rattle.tree_build.specs.Changing.{Change}
use Rattle.tree_build.specs.internal.Differing.{GoesOn, gained_by, gone_changes, step_changes}
use Rattle.tree_build.specs.internal.Edits.{Each, IsNewNode, IsOldNode, StandForNodes}
use Rattle.tree_build.specs.internal.Telling.{HasTold, node_digest}
use Rattle.tree_build.specs.declared.old_node.OldNode.{OldNode}
use Rattle.tree_build.specs.declared.piece.NewPiece.{NewPiece}
use Rattle.tree_node.specs.declared.new_node.NewNode.{NewNode}
use Rattle.tree_build.specs.Rebuilding.{nodes_of}
use Rattle.tree_build.proofs.DifferLemmas.{IsMerging, merging_done, merging_next, merging_start}

pub digests_are : (olds : List OldNode) (nodes : List Node) → Each IsOldNode olds nodes → map (λ (old : OldNode). old.digest.0) olds ≡ map node_digest nodes
digests_are [] [] all = refl
digests_are [] (n ∷ ns) all = absurd all
digests_are (o ∷ os) [] all = absurd all
digests_are (o ∷ os) (n ∷ ns) all = ap (λ (d : List ℕ). d ∷ map (λ (old : OldNode). old.digest.0) os) all.0.digest_is ∙ ap (λ (ds : List (List ℕ)). node_digest n ∷ ds) (digests_are os ns all.1)

more_mapped : {X Y : Type 0} (f : X → Y) (start mid end : List Y) (one two : List X) → mid ≡ start ++ map f one → end ≡ mid ++ map f two → end ≡ start ++ map f (one ++ two)
more_mapped {X} {Y} f start mid end one two first second =
    second ∙ ap (λ (ys : List Y). ys ++ map f two) first ∙ append_assoc start (map f one) (map f two) ∙ ap (λ (ys : List Y). start ++ ys) (sym (map-append f one two))

-- what was told so far, and what is left of both lists
pub record IsTelling (olds news : List Node) (rest : List OldNode) (others : List NewPiece) (added later gone lost_later : List (List ℕ)) : Type 0 where
  pub lost : List Node
  pub gained : List Node
  pub changes : List (Change Link)
  pub merging : IsMerging olds news rest others lost gained changes
  pub added_are : later ≡ added ++ map spelling gained
  pub gone_are : lost_later ≡ gone ++ map node_digest lost

pub telling_start : (olds news : List Node) (rest : List OldNode) (others : List NewPiece) (added gone : List (List ℕ)) → StandForNodes rest others olds news → IsTelling olds news rest others added added gone gone
telling_start olds news rest others added gone stand = record {
  lost = [];
  gained = [];
  changes = [];
  merging = merging_start olds news rest others [] refl stand;
  added_are = sym (append-nil added);
  gone_are = sym (append-nil gone);
}

pub telling_next : (olds news : List Node) (items : List OldNode) (done up_to : ℕ) (added later gone lost_later : List (List ℕ)) (xs : List NewPiece) (new : NewPiece) (others : List NewPiece) (lost_olds below : List OldNode) (is_new : Bool)
    (after lost_after : List (List ℕ)) → xs ≡ new ∷ others → IsTelling olds news (drop done items) xs added later gone lost_later
    → ((nodes : List Node) (node : Node) → Each IsOldNode (take (length items - done) (drop done items)) nodes → IsNewNode new node → AllByRecursion IsNode nodes → IsNode node
    → GoesOn nodes node lost_olds (drop up_to (take (length items - done) (drop done items))) (gained_by is_new node) (step_changes below is_new node))
    → ((nodes : List Node) → Each IsOldNode lost_olds nodes → lost_after ≡ lost_later ++ map node_digest nodes)
    → ((node : Node) → IsNewNode new node → after ≡ later ++ map spelling (gained_by is_new node)) → IsTelling olds news (drop (done + up_to) items) others added after gone lost_after
telling_next olds news items done up_to added later gone lost_later xs new others lost_olds below is_new after lost_after next so step went came =
    let on = merging_next olds news items done up_to so.lost so.gained so.changes xs new others lost_olds below is_new next so.merging step in
    record {
      lost = so.lost ++ on.now_lost;
      gained = so.gained ++ gained_by is_new on.node;
      changes = so.changes ++ step_changes below is_new on.node;
      merging = on.merging;
      added_are = more_mapped spelling added later after so.gained (gained_by is_new on.node) so.added_are (came on.node on.stands);
      gone_are = more_mapped node_digest gone lost_later lost_after so.lost on.now_lost so.gone_are (went on.now_lost on.lost_stand);
    }

pub telling_done : (olds news : List Node) (rest : List OldNode) (added later gone lost_later : List (List ℕ)) (xs : List NewPiece) (end : List (List ℕ)) → xs ≡ [] → IsTelling olds news rest xs added later gone lost_later
    → ((nodes : List Node) → Each IsOldNode rest nodes → end ≡ lost_later ++ map node_digest nodes) → HasTold olds news added later gone end
telling_done olds news rest added later gone lost_later xs end none_left so told =
    let all = merging_done olds news rest xs so.lost so.gained so.changes none_left so.merging in
    record {
      lost = so.lost ++ all.left;
      gained = so.gained;
      changes = so.changes ++ gone_changes rest;
      parent_changes = all.parent_changes;
      added_are = so.added_are;
      gone_are = more_mapped node_digest gone lost_later end so.lost all.left so.gone_are (told all.left all.left_stand);
    }

-- one more node was added
pub pushed_node : (old after : List NewNode) (x : NewNode) (node : Node) → after ≡ old ++ x ∷ [] → x.bytes.items ≡ spelling node → nodes_of after ≡ nodes_of old ++ map spelling (node ∷ [])
pushed_node old after x node is says = ap nodes_of is ∙ map-append (λ (n : NewNode). n.bytes.items) old (x ∷ []) ∙ ap (λ (b : List ℕ). nodes_of old ++ b ∷ []) says
