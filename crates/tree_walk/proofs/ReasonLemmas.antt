-- Why a walk was refused: what it came to want, on its way down from the top.
use Rattle.std.proofs.Common.{◌≡◌, ℕ, zero, suc, ◌-◌, ◌<◌, ◌≤◌, List, [], ◌∷◌, ◌++◌, length, get_or, Option, Result, Err, inl, inr, refl, sym, ap, subst, ◌∙◌, arith}
use Rattle.std.specs.List.{AllByRecursion, Contains}
use Rattle.std.specs.Prelude.{IfErr}
use Rattle.tree_node.specs.Nodes.{Inner, Link}
use Rattle.tree_walk.specs.Choices.{AreThose}
use Rattle.tree_walk.specs.Reasons.{Child, FromParent, FromTop, HasReason, IsAccepted, IsReason, IsWanted, Top, Wanted, left_wanted}
use Rattle.tree_walk.specs.Spans.{children_placed}
use Rattle.tree_walk.specs.internal.Pendings.{AreWanted, spot_of, spots_of}
use Rattle.tree_walk.specs.Given.{wanted_of}
use Rattle.tree_walk.specs.declared.pending.Pending.{Pending}
use Rattle.tree_walk.specs.declared.fault.WalkFault.{WalkFault}
use Rattle.tree_walk.specs.declared.fault.WalkFault.TheVariants as faults
use Rattle.tree_walk.proofs.shared.WantedLaws.{wanted_more}

-- ---- more used nodes

pub all_wanted_more : (used later : List ℕ → Type 0) (tree : ℕ) (top : List ℕ) (level : ℕ) (spots : List (Option (List ℕ) × Link)) → ((x : List ℕ) → used x → later x) → AreWanted used tree top level spots → AreWanted later tree top level spots
all_wanted_more used later tree top level [] grows all = tt
all_wanted_more used later tree top level (spot ∷ spots) grows all = (wanted_more used later tree top (wanted_of level spot) grows all.0, all_wanted_more used later tree top level spots grows all.1)

-- ---- children of a node that was accepted

-- what holds of each item that a list contains holds of all
pub all_of : {X : Type 0} (P : X → Type 0) (xs : List X) → ((x : X) → Contains xs x → P x) → AllByRecursion P xs
all_of P [] each = tt
all_of P (x ∷ xs) each = (each x (zero, omega arith, refl), all_of P xs (λ y is. each y (suc is.0, omega (arith, is.1), is.2)))

-- what holds of all items holds of those that were chosen
pub all_those : {X : Type 0} (Has P : X → Type 0) (xs found : List X) → AllByRecursion P xs → AreThose Has xs found → AllByRecursion P found
all_those Has P [] found all is = subst (λ (ys : List _). AllByRecursion P ys) (sym is) tt
all_those Has P (x ∷ xs) found all (inl is) = subst (λ (ys : List _). AllByRecursion P ys) (sym is.1.1) (all.0, all_those Has P xs is.1.0 all.1 is.1.2)
all_those Has P (x ∷ xs) found all (inr isnt) = all_those Has P xs found all.1 isnt.1

-- each child of a node that was wanted and accepted is wanted
pub children_wanted : (used : List ℕ → Type 0) (tree : ℕ) (top : List ℕ) (wanted : Wanted) (number level : ℕ) (links : List Link) → IsWanted used tree top wanted → IsAccepted used tree wanted (Inner number (suc level) links)
    → AreWanted used tree top level (children_placed (left_wanted wanted) links)
children_wanted used tree top wanted number level links is accepted =
    all_of (λ (spot : Option (List ℕ) × Link). IsWanted used tree top (wanted_of level spot)) (children_placed (left_wanted wanted) links)
    (λ spot among. FromParent wanted (Inner number (suc level) links) level spot.0 spot.1 is accepted refl among)

-- so is each of those that are picked of them
pub picked_wanted : (used : List ℕ → Type 0) (tree : ℕ) (top : List ℕ) (level : ℕ) (spot : Option (List ℕ) × Link) (Has : Option (List ℕ) × Link → Type 0) (links : List Link) (picked : List (Option (List ℕ) × Link)) → 1 ≤ level
    → IsWanted used tree top (wanted_of level spot) → IsAccepted used tree (wanted_of level spot) (Inner tree level links) → AreThose Has (children_placed spot.0 links) picked → AreWanted used tree top (level - 1) picked
picked_wanted used tree top zero spot Has links picked some is accepted those = absurd (omega (arith, some))
picked_wanted used tree top (suc level) spot Has links picked some is accepted those =
    let below : suc level - 1 ≡ level = omega arith in
    subst (λ (l : ℕ). AreWanted used tree top l picked) (sym below)
    (all_those Has (λ (child : Option (List ℕ) × Link). IsWanted used tree top (wanted_of level child)) (children_placed spot.0 links) picked
    (children_wanted used tree top (wanted_of (suc level) spot) tree level links is accepted) those)

-- ---- reasons

-- what is wrong with a node, also where it is wanted as a child
pub reason_of_child : (tree : ℕ) (held used : List ℕ → Type 0) (level : ℕ) (left : Option (List ℕ)) (link : Link) (fault : WalkFault) → IsReason tree held used (Top link.child) fault → IsReason tree held used (Child level left link) fault
reason_of_child tree held used level left link faults.Missing is = is
reason_of_child tree held used level left link (faults.Malformed fault) is = is
reason_of_child tree held used level left link faults.WrongTreeOrLevel is = (is.0, is.1, λ kind. is.2 kind.0)
reason_of_child tree held used level left link faults.Disagrees is = absurd (is.3 tt)
reason_of_child tree held used level left link faults.Memory is = tt

-- the walk is refused so
pub refused_for : {A : Type 0} (tree : ℕ) (top : List ℕ) (held used : List ℕ → Type 0) (wanted : Wanted) (fault : WalkFault) (result : Result A WalkFault) → result ≡ Err fault
    → IsWanted used tree top wanted → IsReason tree held used wanted fault → IfErr result (HasReason tree top held used)
refused_for {A} tree top held used wanted fault result stopped is reason =
    subst (λ (r : Result A WalkFault). IfErr r (HasReason tree top held used)) (sym stopped) (record { wanted = wanted; is_wanted = is; reason = reason })

-- memory may always be refused
pub refused_memory : {A : Type 0} (tree : ℕ) (top : List ℕ) (held used : List ℕ → Type 0) (result : Result A WalkFault) → result ≡ Err faults.Memory → IfErr result (HasReason tree top held used)
refused_memory tree top held used result stopped = refused_for tree top held used (Top top) faults.Memory result stopped FromTop tt

-- so is a whole of which a part was
pub refused_as : {A : Type 0} (tree : ℕ) (top : List ℕ) (held used : List ℕ → Type 0) (fault : WalkFault) (result : Result A WalkFault) → result ≡ Err fault → HasReason tree top held used fault → IfErr result (HasReason tree top held used)
refused_as {A} tree top held used fault result stopped reason = subst (λ (r : Result A WalkFault). IfErr r (HasReason tree top held used)) (sym stopped) reason

-- ---- lists of wanted children

-- a pending child of them is
pub wanted_at : (used : List ℕ → Type 0) (tree : ℕ) (top : List ℕ) (level : ℕ) (nodes : List Pending) (i : ℕ) (node : Pending) → i < length nodes → AreWanted used tree top level (spots_of nodes)
    → IsWanted used tree top (wanted_of level (spot_of (get_or nodes i node)))
wanted_at used tree top level [] i node lt all = absurd (omega (arith, lt))
wanted_at used tree top level (n ∷ ns) zero node lt all = all.0
wanted_at used tree top level (n ∷ ns) (suc i) node lt all = wanted_at used tree top level ns i node (omega (arith, lt)) all.1

pub all_wanted_append : (used : List ℕ → Type 0) (tree : ℕ) (top : List ℕ) (level : ℕ) (first last : List (Option (List ℕ) × Link)) → AreWanted used tree top level first → AreWanted used tree top level last → AreWanted used tree top level (first ++ last)
all_wanted_append used tree top level [] last one two = two
all_wanted_append used tree top level (spot ∷ spots) last one two = (one.0, all_wanted_append used tree top level spots last one.1 two)

-- a whole is refused for a missing node where its part was
pub refused_missing : {A B : Type 0} (fault : WalkFault) (part : Result A WalkFault) (whole : Result B WalkFault) → part ≡ Err fault → part ≡ Err faults.Missing → whole ≡ Err fault → whole ≡ Err faults.Missing
refused_missing {A} fault part whole was missing is = is ∙ ap (λ f. Err f) (same part was missing)
  where
    same : (r : Result A WalkFault) → r ≡ Err fault → r ≡ Err faults.Missing → fault ≡ faults.Missing
    same r p q = cc
