-- The nodes of a level, where the first piece of what is left was cut.
use Rattle.std.proofs.Common.{◌≡◌, ◌≢◌, ℕ, zero, suc, ◌+◌, ◌-◌, ◌≤◌, List, [], ◌∷◌, ◌++◌, length, take, drop, map, Bool, Result, Err, sym, ap, subst, ◌∙◌, append_assoc, arith}
use Rattle.std.specs.List.{AllByRecursion}
use Rattle.std.proofs.lemmas.List.{length-drop, map-append, drop-drop}
use Rattle.std.proofs.Math.Seq.{take-length, drop-length}
use Rattle.tree_node.specs.Nodes.{Link, Node}
use Rattle.tree_node.specs.NodeRefs.{link_of, links_of}
use Rattle.tree_node.specs.declared.child.Child.{Child}
use Rattle.tree_node.specs.Trees.{Shape, pieces, one_at_least, ends_by, link_to}
use Rattle.tree_node.specs.Outcomes.{GrownByAll}
use Rattle.tree_node.proofs.shared.TreeLemmas.{numbers_of}
use Rattle.tree_node.proofs.shared.PieceLemmas.{pieces_map, some_pieces, least_maps, ends_same}
use Rattle.tree_build.specs.declared.fault.BuildFault.{BuildFault}
use Rattle.tree_build.specs.declared.fault.BuildFault.TheVariants.{Memory}
use Rattle.tree_build.specs.internal.Building.{AreWithin, IsFirstPiece, IsOneOf, PutAll}
use Rattle.tree_build.proofs.FitLemmas.{sum_part, sum_rest}
use Rattle.tree_build.proofs.StockLemmas.{Underway, put_stopped, put_no_memory, gained_more, underway_more}

module _ {X Y : Type 0} (shape : Shape) (marked : Y → Bool) (f : X → Y) (make : List Y → Node) where
  -- the nodes over a list, one at least
  abbrev pub nodes_over : List X → List Node
  nodes_over xs = map make (one_at_least (pieces (ends_by shape marked) (map f xs)))

  -- the pieces of what f makes of each item
  over_pieces : (xs : List X) → pieces (ends_by shape marked) (map f xs) ≡ map (map f) (pieces (ends_by shape (λ x. marked (f x))) xs)
  over_pieces xs = pieces_map f (ends_by shape marked) [] xs ∙ ap (λ (ends : ℕ → X → Bool). map (map f) (pieces ends xs)) (ends_same shape marked f)

  module _ (xs piece : List X) (first : IsFirstPiece (ends_by shape (λ x. marked (f x))) xs piece) where
    -- the first node is that of the first piece
    first_node : nodes_over xs ≡ make (map f piece) ∷ map make (map (map f) (pieces (ends_by shape (λ x. marked (f x))) (drop (length piece) xs)))
    first_node =
        ap (λ (ps : List (List Y)). map make (one_at_least ps)) (over_pieces xs)
        ∙ ap (map make) (least_maps f (pieces (ends_by shape (λ x. marked (f x))) xs))
        ∙ ap (λ (ps : List (List X)). map make (map (map f) ps)) first.cut

    -- after it stand those over what is left, where something is
    pub next_nodes : 1 ≤ length (drop (length piece) xs) → nodes_over xs ≡ make (map f piece) ∷ nodes_over (drop (length piece) xs)
    next_nodes some =
        first_node
        ∙ ap (λ (ps : List (List X)). make (map f piece) ∷ map make (map (map f) ps)) (sym (some_pieces (ends_by shape (λ x. marked (f x))) (drop (length piece) xs) some))
        ∙ ap (λ (ps : List (List Y)). make (map f piece) ∷ map make ps)
        (sym (least_maps f (pieces (ends_by shape (λ x. marked (f x))) (drop (length piece) xs))) ∙ ap one_at_least (sym (over_pieces (drop (length piece) xs))))

    -- and where nothing is left, none
    pub last_node : drop (length piece) xs ≡ [] → nodes_over xs ≡ make (map f piece) ∷ []
    last_node none = first_node ∙ ap (λ (ys : List X). make (map f piece) ∷ map make (map (map f) (pieces (ends_by shape (λ x. marked (f x))) ys))) none

  -- ---- one step of a loop that puts the nodes over a list, at this part of it
  module _ (old mid new : List ℕ → Type 0) (links : List Link) (all : List Node) (xs piece : List X)
      (first : IsFirstPiece (ends_by shape (λ x. marked (f x))) xs piece) (so : Underway old mid links all (nodes_over xs)) where
    -- the node is refused
    pub step_stopped : {A B : Type 0} (step : Result A BuildFault) (whole : Result B BuildFault) (fault : BuildFault)
        → PutAll step mid new (make (map f piece) ∷ []) → step ≡ Err fault → whole ≡ Err fault → PutAll whole old new all
    step_stopped step whole fault put stopped stops =
        put_stopped step whole fault old mid new so.done (make (map f piece) ∷ []) (map make (map (map f) (pieces (ends_by shape (λ x. marked (f x))) (drop (length piece) xs)))) all
        so.gained put (so.whole ∙ ap (λ (ns : List Node). so.done ++ ns) (first_node xs piece first)) stopped stops

    -- memory to remember the node is refused
    pub step_no_memory : {B : Type 0} (whole : Result B BuildFault) → GrownByAll mid new (IsOneOf (make (map f piece) ∷ [])) → whole ≡ Err Memory → PutAll whole old new all
    step_no_memory whole grown stops =
        let after = map make (map (map f) (pieces (ends_by shape (λ x. marked (f x))) (drop (length piece) xs))) in
        put_no_memory whole old new (so.done ++ make (map f piece) ∷ []) after all
        (gained_more old mid new so.done (make (map f piece) ∷ []) so.gained grown)
        (so.whole ∙ ap (λ (ns : List Node). so.done ++ ns) (first_node xs piece first) ∙ sym (append_assoc so.done (make (map f piece) ∷ []) after)) stops

    module _ (grown : GrownByAll mid new (IsOneOf (make (map f piece) ∷ []))) where
      -- more nodes are to come
      pub step_next : 1 ≤ length (drop (length piece) xs) → Underway old new (links ++ link_to (make (map f piece)) ∷ []) all (nodes_over (drop (length piece) xs))
      step_next some =
          underway_more old mid new links all (nodes_over (drop (length piece) xs)) (make (map f piece))
          (subst (λ (rest : List Node). Underway old mid links all rest) (next_nodes xs piece first some) so) grown

      -- it was the last one
      pub step_last : drop (length piece) xs ≡ [] → Underway old new (links ++ link_to (make (map f piece)) ∷ []) all []
      step_last none =
          underway_more old mid new links all [] (make (map f piece)) (subst (λ (rest : List Node). Underway old mid links all rest) (last_node xs piece first none) so) grown

-- the first piece of what is left of a list, as a slice of it
pub first_of_rest : {X : Type 0} (ends : ℕ → X → Bool) (xs : List X) (start : ℕ) (piece : List X) → IsFirstPiece ends (take (length xs - start) (drop start xs)) piece → IsFirstPiece ends (drop start xs) piece
first_of_rest {X} ends xs start piece first =
    subst (λ (ys : List X). IsFirstPiece ends ys piece) (ap (λ n. take n (drop start xs)) (sym (length-drop start xs)) ∙ take-length (drop start xs)) first

-- what holds of each item of a list holds of each of its first piece
pub piece_all : {X Y : Type 0} (P : Y → Type 0) (f : X → Y) (ends : ℕ → X → Bool) (xs piece : List X) → IsFirstPiece ends xs piece → AllByRecursion P (map f xs) → AllByRecursion P (map f piece)
piece_all {X} {Y} P f ends xs piece first all =
    subst (λ (ys : List X). AllByRecursion P (map f ys)) (sym first.front) (taken (length piece) xs all)
  where
    taken : (n : ℕ) (ys : List X) → AllByRecursion P (map f ys) → AllByRecursion P (map f (take n ys))
    taken zero ys h = tt
    taken (suc n) [] h = tt
    taken (suc n) (y ∷ ys) h = (h.0, taken n ys h.1)

pub rest_all : {X Y : Type 0} (P : Y → Type 0) (f : X → Y) (n : ℕ) (xs : List X) → AllByRecursion P (map f xs) → AllByRecursion P (map f (drop n xs))
rest_all P f zero xs h = h
rest_all P f (suc n) [] h = tt
rest_all P f (suc n) (x ∷ xs) h = rest_all P f n xs h.1

-- what an inner node says of one more child
pub links_more : (before after : List Child) (child : Child) (link : Link) → after ≡ before ++ child ∷ [] → link_of child ≡ link → links_of after ≡ links_of before ++ link ∷ []
links_more before after child link is says = ap (λ (cs : List Child). links_of cs) is ∙ map-append link_of before (child ∷ []) ∙ ap (λ (l : Link). links_of before ++ l ∷ []) says

-- nothing comes after the last piece
pub drop_end : {X : Type 0} (xs : List X) (start n : ℕ) → start + n ≡ length xs → drop n (drop start xs) ≡ []
drop_end {X} xs start n is = drop-drop n start xs ∙ ap (λ k. drop k xs) is ∙ drop-length xs

-- something comes after another piece
pub drop_some : {X : Type 0} (xs : List X) (start n : ℕ) → start ≤ length xs → n ≤ length (drop start xs) → start + n ≢ length xs → 1 ≤ length (drop n (drop start xs))
drop_some xs start n within fits isnt = omega (arith, length-drop n (drop start xs), length-drop start xs)

-- what is within the limits, is so at its first piece
pub within_piece : (ends : ℕ → Child → Bool) (children : List Child) (start : ℕ) (piece : List Child) → IsFirstPiece ends (drop start children) piece → AreWithin (links_of children) → AreWithin (links_of piece)
within_piece ends children start piece first within = record {
  greatest = piece_all (λ (l : Link). length l.greatest ≤ 8203) link_of ends (drop start children) piece first (rest_all (λ (l : Link). length l.greatest ≤ 8203) link_of start children within.greatest);
  few = let part : numbers_of (links_of piece) ≤ numbers_of (links_of (drop start children)) =
      subst (λ (cs : List Child). numbers_of (links_of cs) ≤ numbers_of (links_of (drop start children))) (sym first.front) (sum_part (drop start children) (length piece)) in
      omega (arith, sum_rest children start, within.few);
}
