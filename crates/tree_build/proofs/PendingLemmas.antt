-- How far the cutting of some items has come: what was made of them, and what is pending.
use Rattle.std.proofs.Common.{◌≡◌, ℕ, zero, suc, ◌+◌, ◌<◌, ◌≤◌, List, [], ◌∷◌, ◌++◌, length, get_or, drop, map, take, Bool, true, false, cond, refl, sym, ap, subst, ◌∙◌, append_assoc, add-one, arith}
use Rattle.std.proofs.lemmas.List.{append-nil, map-append, take_more}
use Rattle.std.proofs.Math.Seq.{drop-cons}
use Rattle.tree_node.specs.Nodes.{Node}
use Rattle.tree_node.specs.Trees.{pieces_from}
use Rattle.tree_node.proofs.shared.PieceLemmas.{join}
use Rattle.tree_build.specs.declared.piece.NewPiece.{NewPiece}
use Rattle.tree_build.specs.internal.Cutting.{done_by, pending_after}
use Rattle.tree_build.specs.internal.Edits.{Each, HaveCome, IsNewNode}
use Rattle.tree_build.specs.internal.Steps.{HaveGoneOn}
use Rattle.tree_build.proofs.RecutLemmas.{done_append, pending_append}

-- ---- what is left of a list that a loop goes over

pub next_item : {X : Type 0} (xs : List X) (i : ℕ) (x : X) → i < length xs → x ≡ get_or xs i x → drop i xs ≡ x ∷ drop (i + 1) xs
next_item {X} xs i x lt is = drop-cons xs i x lt ∙ ap (λ (y : X). y ∷ drop (suc i) xs) (sym is) ∙ ap (λ n. x ∷ drop n xs) (sym (add-one i))

pub next_mapped : {X Y : Type 0} (f : X → Y) (xs : List X) (i : ℕ) (x : X) → i < length xs → x ≡ get_or xs i x → map f (drop i xs) ≡ f x ∷ map f (drop (i + 1) xs)
next_mapped f xs i x lt is = ap (map f) (next_item xs i x lt is)

-- one more of the list was mapped
pub next_taken : {X Y : Type 0} (f : X → Y) (xs : List X) (i : ℕ) (x : X) (ys : List Y) (y : Y) → i < length xs → x ≡ get_or xs i x → ys ≡ map f (take i xs) → y ≡ f x → ys ++ y ∷ [] ≡ map f (take (i + 1) xs)
next_taken {X} f xs i x ys y lt is so same =
    ap (λ zs. zs ++ y ∷ []) so ∙ ap (λ z. map f (take i xs) ++ z ∷ []) (same ∙ ap f is) ∙ sym (map-append f (take i xs) (get_or xs i x ∷ [])) ∙ ap (map f) (sym (take_more xs i x lt))

pub none_mapped : {X Y : Type 0} (f : X → Y) (xs : List X) (i : ℕ) → length xs ≤ i → map f (drop i xs) ≡ []
none_mapped f [] zero le = refl
none_mapped f [] (suc i) le = refl
none_mapped f (x ∷ xs) zero le = absurd (omega arith)
none_mapped f (x ∷ xs) (suc i) le = none_mapped f xs i (omega arith)

-- ---- what stands for nodes

pub each_append : {X Y : Type 0} (Stands : X → Y → Type 0) (xs : List X) (ys : List Y) (more : List X) (others : List Y) → Each Stands xs ys → Each Stands more others → Each Stands (xs ++ more) (ys ++ others)
each_append Stands [] [] more others one two = two
each_append Stands [] (y ∷ ys) more others one two = absurd one
each_append Stands (x ∷ xs) [] more others one two = absurd one
each_append Stands (x ∷ xs) (y ∷ ys) more others one two = (one.0, each_append Stands xs ys more others one.1 two)

-- a part of items that fit, by what they are, fits
pub fit_meant : {T M : Type 0} (meaning : T → M) (Fit : List M → Type 0) → ((xs ys : List M) → Fit (xs ++ ys) → Fit xs × Fit ys) → (xs ys : List T) → Fit (map meaning (xs ++ ys)) → Fit (map meaning xs) × Fit (map meaning ys)
fit_meant meaning Fit parts xs ys fit = parts (map meaning xs) (map meaning ys) (subst Fit (map-append meaning xs ys) fit)

-- nothing has come
pub come_none : (news : List NewPiece) → HaveCome news news []
come_none news = record { more = []; whole = sym (append-nil news); stand = tt }

-- some have come, and then others
pub come_then : (old mid new : List NewPiece) (nodes others : List Node) → HaveCome old mid nodes → HaveCome mid new others → HaveCome old new (nodes ++ others)
come_then old mid new nodes others one two = record {
  more = one.more ++ two.more;
  whole = two.whole ∙ ap (λ (ns : List NewPiece). ns ++ two.more) one.whole ∙ append_assoc old one.more two.more;
  stand = each_append IsNewNode one.more nodes two.more others one.stand two.stand;
}

module _ {X : Type 0} (Fit : List X → Type 0) (ends : ℕ → X → Bool) (node : List X → Node) where
  -- what was made, with what the items to come will make
  pub record IsCutting (first items : List X) (before after : List NewPiece) (pending rest : List X) : Type 0 where
    pub fit : Fit (pending ++ rest)
    pub made : List Node
    pub come : HaveCome before after made
    pub whole : map node (done_by ends first items) ≡ made ++ map node (done_by ends pending rest)
    pub pending_is : pending_after ends first items ≡ pending_after ends pending rest

  pub cutting_start : (first items : List X) (news : List NewPiece) → Fit (first ++ items) → IsCutting first items news news first items
  cutting_start first items news fit = record { fit = fit; made = []; come = come_none news; whole = refl; pending_is = refl }

  module _ (parts : (xs ys : List X) → Fit (xs ++ ys) → Fit xs × Fit ys) (first items : List X) (before mid : List NewPiece) (pending : List X) (x : X) (rest : List X) (so : IsCutting first items before mid pending (x ∷ rest)) where
    fit_all : Fit ((pending ++ x ∷ []) ++ rest)
    fit_all = subst Fit (sym (append_assoc pending (x ∷ []) rest)) so.fit

    -- the item can be pending too
    pub cutting_fit : Fit (pending ++ x ∷ [])
    cutting_fit = (parts (pending ++ x ∷ []) rest fit_all).0

    fit_next : Fit (pending_after ends pending (x ∷ []) ++ rest)
    fit_next = by (ends (length pending + 1) x)
      where
        by : (b : Bool) → Fit (cond b [] (pending ++ x ∷ []) ++ rest)
        by true = (parts (pending ++ x ∷ []) rest fit_all).1
        by false = fit_all

    -- the item was taken
    pub cutting_next : (after : List NewPiece) (next : List X) → HaveCome mid after (map node (done_by ends pending (x ∷ []))) → next ≡ pending_after ends pending (x ∷ []) → IsCutting first items before after next rest
    cutting_next after next come is = subst (λ (h : List X). IsCutting first items before after h rest) (sym is) (record {
      fit = fit_next;
      made = so.made ++ map node (done_by ends pending (x ∷ []));
      come = come_then before mid after so.made (map node (done_by ends pending (x ∷ []))) so.come come;
      whole = so.whole
          ∙ ap (λ (ps : List (List X)). so.made ++ map node ps) (done_append ends pending (x ∷ []) rest)
          ∙ ap (λ (ns : List Node). so.made ++ ns) (map-append node (done_by ends pending (x ∷ [])) (done_by ends (pending_after ends pending (x ∷ [])) rest))
          ∙ sym (append_assoc so.made (map node (done_by ends pending (x ∷ []))) (map node (done_by ends (pending_after ends pending (x ∷ [])) rest)));
      pending_is = so.pending_is ∙ pending_append ends pending (x ∷ []) rest;
    })

  -- all were taken
  pub cutting_done : (first items : List X) (before after : List NewPiece) (pending : List X) → IsCutting first items before after pending [] → HaveCome before after (map node (done_by ends first items))
  cutting_done first items before after pending so = subst (λ (ns : List Node). HaveCome before after ns) (sym (so.whole ∙ append-nil so.made)) so.come

-- ---- what is pending behind some items

module _ {X : Type 0} (ends : ℕ → X → Bool) where
  -- the pieces that ended, and what is pending, are what there was
  pub pending_joins : (pending xs : List X) → join (done_by ends pending xs) ++ pending_after ends pending xs ≡ pending ++ xs
  pending_joins pending [] = sym (append-nil pending)
  pending_joins pending (x ∷ xs) = step (ends (length pending + 1) x) (pending_joins [] xs) (pending_joins (pending ++ x ∷ []) xs)
    where
      step : (b : Bool) → join (done_by ends [] xs) ++ pending_after ends [] xs ≡ xs → join (done_by ends (pending ++ x ∷ []) xs) ++ pending_after ends (pending ++ x ∷ []) xs ≡ (pending ++ x ∷ []) ++ xs
          → join (cond b ((pending ++ x ∷ []) ∷ done_by ends [] xs) (done_by ends (pending ++ x ∷ []) xs)) ++ cond b (pending_after ends [] xs) (pending_after ends (pending ++ x ∷ []) xs) ≡ pending ++ x ∷ xs
      step true one two = append_assoc (pending ++ x ∷ []) (join (done_by ends [] xs)) (pending_after ends [] xs) ∙ ap (λ (ys : List X). (pending ++ x ∷ []) ++ ys) one ∙ append_assoc pending (x ∷ []) xs
      step false one two = two ∙ append_assoc pending (x ∷ []) xs

  module _ (Fit : List X → Type 0) (parts : (xs ys : List X) → Fit (xs ++ ys) → Fit xs × Fit ys) where
    -- what is pending fits, where all did
    pub pending_fits : (pending xs others : List X) → Fit (pending ++ (xs ++ others)) → Fit (pending_after ends pending xs ++ others)
    pending_fits pending xs others fit =
        (parts (join (done_by ends pending xs)) (pending_after ends pending xs ++ others)
        (subst Fit
        (sym (append_assoc pending xs others) ∙ ap (λ (ys : List X). ys ++ others) (sym (pending_joins pending xs)) ∙ append_assoc (join (done_by ends pending xs)) (pending_after ends pending xs) others)
        fit)).1

    pub last_fits : (pending xs : List X) → Fit (pending ++ xs) → Fit (pending_after ends pending xs)
    last_fits pending xs fit = (parts (join (done_by ends pending xs)) (pending_after ends pending xs) (subst Fit (sym (pending_joins pending xs)) fit)).1

  -- the items were cut, and the level closed where they are its last
  pub gone_on : (over : List X → Node) (is_last : Bool) (pending : List X) (news : List NewPiece) (items others mid_pending next : List X) (mid later : List NewPiece)
      → HaveCome news mid (map over (done_by ends pending others)) → mid_pending ≡ pending_after ends pending others → others ≡ items
      → HaveCome mid later (map over (cond is_last (pieces_from ends mid_pending []) [])) → next ≡ cond is_last [] mid_pending → HaveGoneOn ends over is_last pending news items next later
  gone_on over is_last pending news items others mid_pending next mid later cut pending_is same come next_is =
      let all : mid_pending ≡ pending_after ends pending items = pending_is ∙ ap (pending_after ends pending) same in
      let last : HaveCome mid later (map over (cond is_last (pieces_from ends (pending_after ends pending items) []) [])) =
      subst (λ (h : List X). HaveCome mid later (map over (cond is_last (pieces_from ends h []) []))) all come in
      let first : HaveCome news mid (map over (done_by ends pending items)) = subst (λ (ys : List X). HaveCome news mid (map over (done_by ends pending ys))) same cut in
      record {
        come = subst (λ (ns : List Node). HaveCome news later ns) (sym (map-append over (done_by ends pending items) (cond is_last (pieces_from ends (pending_after ends pending items) []) [])))
            (come_then news mid later (map over (done_by ends pending items)) (map over (cond is_last (pieces_from ends (pending_after ends pending items) []) [])) first last);
        pending_is = next_is ∙ ap (λ (h : List X). cond is_last [] h) all;
      }
