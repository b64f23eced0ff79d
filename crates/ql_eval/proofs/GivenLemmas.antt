-- References that an evaluation was given, and what was made of them.
use Rattle.std.proofs.Common.{◌≡◌, ℕ, List, [], ◌∷◌, ◌++◌, ◌⊎◌, inl, inr, Option, Some, None, Result, Ok, Err, Bool, true, false, take, drop, sym, subst, if◌then◌else◌}
use Rattle.std.proofs.lemmas.List.{take-append-drop}
use Rattle.std.proofs.lemmas.List.Elements.{Contains-append_cases, Contains-append_left, Contains-append_right}
use Rattle.std.specs.Borrow.{Bor}
use Rattle.std.specs.Option.{is_some, option_copied}
use Rattle.std.specs.BTreeMap.{BTreeMap, get}
use Rattle.std.specs.List.{Contains}
use Rattle.std.specs.Prelude.{IfOk, OnOk, bytes_eq}
use Rattle.osm_model.specs.Boxes.{ExactBox}
use Rattle.osm_model.specs.Elements.{Element, ref_cmp}
use Rattle.osm_model.specs.declared.reference.Ref.{Ref}
use Rattle.osm_keys.specs.Manifests.{top_among}
use Rattle.osm_keys.specs.declared.manifest.Manifest.{Manifest}
use Rattle.tree_node.specs.NodeRefs.{number_of}
use Rattle.tree_node.specs.Nodes.{Binding, Leaf}
use Rattle.tree_node.specs.declared.tree.Tree.{Tree}
use Rattle.tree_node.specs.declared.tree.Tree.TheVariants.{Cells}
use Rattle.tree_node.proofs.shared.OutcomeLaws.{Nodes, uses}
use Rattle.tree_walk.specs.Given.{IsGivenEntry, IsWalk, These}
use Rattle.tree_walk.specs.Ranges.{Range}
use Rattle.tree_walk.proofs.shared.WantedLaws.{accepted_more, wanted_more}
use Rattle.tree_walk.proofs.shared.GivenLaws.{given_entry, gives_more}
use Rattle.ref_sets.proofs.shared.Adding.{first_or_in_rest, none}
use Rattle.ref_sets.specs.Adding.{Adds}
use Rattle.ref_sets.specs.Sets.{IsSetOf}
use Rattle.ref_sets.specs.NamedSets.{nothing_named, put, Env}
use Rattle.ql_meaning.specs.Meanings.{cut, given_by}
use Rattle.ql_syntax.specs.Statements.{Statement, Select, Recurse, Item, Union, Minus, Print}
use Rattle.ql_eval.specs.Forms.{Names}
use Rattle.ql_eval.specs.TrueFaults.{IsNamedIn}
use Rattle.ql_eval.specs.declared.fault.EvalFault.{EvalFault}
use Rattle.ql_eval.specs.internal.Entries.{IsSaid, SaysIn}
use Rattle.ql_eval.specs.internal.Giving.{AllGiven, AllSetsGiven}
use Rattle.ql_eval.specs.internal.Objects.{IsGivenOrThere, IsKnownThere}

-- ---- lists of references

pub none_given : (gave : Ref → Type 0) (refs : List Ref) → refs ≡ [] → AllGiven gave refs
none_given gave refs empty r has = absurd (none r (subst (λ (l : List Ref). Contains l r) empty has))

pub one_given : (gave : Ref → Type 0) (name : Ref) → gave name → AllGiven gave (name ∷ [])
one_given gave name is r has = elim (first_or_in_rest name [] r has) [ inl same ↦ subst gave same is | inr later ↦ absurd (none r later) ]

module _ {gave : Ref → Type 0} where
  -- what is given now stays given
  pub all_later : {later : Ref → Type 0} (refs : List Ref) → ((r : Ref) → gave r → later r) → AllGiven gave refs → AllGiven later refs
  all_later refs grows all r has = grows r (all r has)

  pub sets_later : {later : Ref → Type 0} (env : Env) → ((r : Ref) → gave r → later r) → AllSetsGiven gave env → AllSetsGiven later env
  sets_later env grows all name r has = grows r (all name r has)

  pub all_appended : (first more all : List Ref) → all ≡ first ++ more → AllGiven gave first → AllGiven gave more → AllGiven gave all
  all_appended first more all e before after r has = elim (Contains-append_cases first more r (subst (λ (l : List Ref). Contains l r) e has)) [ inl one ↦ before r one | inr other ↦ after r other ]

  -- sorted, they are the same
  pub sorted_given : (refs sorted : List Ref) → IsSetOf sorted (Contains refs) → AllGiven gave refs → AllGiven gave sorted
  sorted_given refs sorted set all r has = all r ((set.members r).0 has)

  -- and some of them are given as all are
  pub part_given : (refs part : List Ref) {P : Ref → Type 0} → IsSetOf part (λ r. Contains refs r × P r) → AllGiven gave refs → AllGiven gave part
  part_given refs part set all r has = all r ((set.members r).0 has).0

  pub added_given : (old new : List Ref) {P : Ref → Type 0} → Adds old new P → AllGiven gave old → ((r : Ref) → P r → gave r) → AllGiven gave new
  added_given old new adds before more r has = elim ((adds.is r).0 has) [ inl was ↦ before r was | inr is ↦ more r is ]

-- ---- entries

-- more nodes that were used give the same entry
pub entry_more : (used later : Nodes) (tree : ℕ) (top : List ℕ) (range : Range) (entry : Binding) → ((x : List ℕ) → used x → later x) → IsGivenEntry used tree top range entry → IsGivenEntry later tree top range entry
entry_more used later tree top range entry grows is = record {
  wanted = is.wanted;
  entries = is.entries;
  is_wanted = wanted_more used later tree top is.wanted grows is.is_wanted;
  accepted = accepted_more used later tree is.wanted (Leaf tree is.entries) grows is.accepted;
  among = is.among;
  within = is.within;
}

pub named_more : (used later : Nodes) (m : Manifest) (r : Ref) → ((x : List ℕ) → used x → later x) → IsNamedIn used m r → IsNamedIn later m r
named_more used later m r grows is = record {
  tree = is.tree;
  range = is.range;
  entry = is.entry;
  given = entry_more used later (number_of is.tree) (top_among m.tops is.tree) is.range is.entry grows is.given;
  names = is.names;
}

-- the entries that a walk gave name these
pub said_named : (held old used : Nodes) (m : Manifest) (from to : ℕ) (tree : Tree) (range : Range) (found : List Binding) (Says : Binding → Ref → Type 0) → ((b : Binding) (r : Ref) → Says b r → Names tree b r)
    → IsWalk (uses held old used) from to tree (top_among m.tops tree) range (These found) → (r : Ref) → IsSaid Says found r → IsNamedIn used m r
said_named held old used m from to tree range found Says names walk r (b, among, says, fits) = record {
  tree = tree;
  range = range;
  entry = b;
  given = given_entry used tree (top_among m.tops tree) range found b (gives_more _ used tree (top_among m.tops tree) range (These found) (λ x is. (walk.fetched.gained x).1 (inr is)) walk.gives) among;
  names = names b r says;
}

pub read_named : (held old used : Nodes) (m : Manifest) (from to : ℕ) (tree : Tree) (range : Range) (found : List Binding) (result : Result (List Ref) EvalFault)
    → IsWalk (uses held old used) from to tree (top_among m.tops tree) range (These found) → IfOk result (λ names. IsSetOf names (IsSaid (Names tree) found)) → IfOk result (AllGiven (IsNamedIn used m))
read_named held old used m from to tree range found (Ok names) walk read = λ r has. said_named held old used m from to tree range found (Names tree) (λ b s is. is) walk r ((read.members r).0 has)
read_named held old used m from to tree range found (Err fault) walk read = tt

-- ---- what was looked up

pub given_later : (used later : Nodes) (m : Manifest) (old new : BTreeMap Ref (Option Element)) → ((x : List ℕ) → used x → later x)
    → ((s : Ref) (o : Option Element) → get ref_cmp old s ≡ Some o → get ref_cmp new s ≡ Some o) → (r : Ref) → IsGivenOrThere used m old r → IsGivenOrThere later m new r
given_later used later m old new grows keeps r (inl named) = inl (named_more used later m r grows named)
given_later used later m old new grows keeps r (inr (o, there)) = inr (o, keeps r (Some o) there)

-- an object that a look-up found is known
pub found_known : (knows : Ref → Option Element → Type 0) (r : Ref) (lent : Option (Bor Element)) → (object : Option Element) × knows r object
    → ((object : Option Element) → knows r object → option_copied lent ≡ object) → is_some lent ≡ true → IsKnownThere knows r
found_known knows r None known says is = absurd cc
found_known knows r (Some o) known says is = (o.now, subst (λ (object : Option Element). knows r object) (sym (says known.0 known.1)) known.1)

-- ---- named sets

pub put_given : {gave : Ref → Type 0} (into : List ℕ) (refs : List Ref) (env later : Env) → later ≡ put into refs env → AllGiven gave refs → AllSetsGiven gave env → AllSetsGiven gave later
put_given {gave = gave} into refs env later e of_set of_env = subst (λ (sets : Env). AllSetsGiven gave sets) (sym e) (λ name. one (bytes_eq into name) refs (env name) of_set (of_env name))
  where
    one : (b : Bool) (new old : List Ref) → AllGiven gave new → AllGiven gave old → AllGiven gave (if b then new else old)
    one true new old first second = first
    one false new old first second = second

pub nothing_given : (gave : Ref → Type 0) (env : Env) → env ≡ nothing_named → AllSetsGiven gave env
nothing_given gave env e = subst (λ (sets : Env). AllSetsGiven gave sets) (sym e) (λ name r has. absurd (none r has))

-- ---- parts of lists

pub rest_given : {gave : Ref → Type 0} (at : ℕ) (refs : List Ref) → AllGiven gave refs → AllGiven gave (drop at refs)
rest_given at refs all r has = all r (subst (λ (l : List Ref). Contains l r) (take-append-drop at refs) (Contains-append_right (take at refs) (drop at refs) r has))

pub front_given : {gave : Ref → Type 0} (at : ℕ) (refs : List Ref) → AllGiven gave refs → AllGiven gave (take at refs)
front_given at refs all r has = all r (subst (λ (l : List Ref). Contains l r) (take-append-drop at refs) (Contains-append_left (take at refs) (drop at refs) r has))

pub cut_given : {gave : Ref → Type 0} (limit : Option ℕ) (refs : List Ref) → AllGiven gave refs → AllGiven gave (cut limit refs)
cut_given None refs all = all
cut_given (Some most) refs all = front_given most refs all

pub union_given : {gave : Ref → Type 0} (first second both : List Ref) → IsSetOf both (λ r. Contains first r ⊎ Contains second r) → AllGiven gave first → AllGiven gave second → AllGiven gave both
union_given first second both set of_first of_second r has = elim ((set.members r).0 has) [ inl one ↦ of_first r one | inr other ↦ of_second r other ]

-- the nodes in a box that entries of the cell tree place, and those that came before
pub box_named : (held old used : Nodes) (m : Manifest) (from to : ℕ) (range : Range) (found : List Binding) (area : ExactBox) (names more : List Ref) {A E : Type 0} (result : Result A E)
    → IsWalk (uses held old used) from to Cells (top_among m.tops Cells) range (These found) → ((x : List ℕ) → old x → used x)
    → OnOk result (Adds names more (IsSaid (SaysIn area) found)) → AllGiven (IsNamedIn old m) names → OnOk result (AllGiven (IsNamedIn used m) more)
box_named held old used m from to range found area names more (Ok value) walk grows adds all =
    added_given names more adds (all_later names (λ r. named_more old used m r grows) all)
    (said_named held old used m from to Cells range found (SaysIn area) (λ b r (place, says, held_in). (place, says)) walk)
box_named held old used m from to range found area names more (Err fault) walk grows adds all = tt

-- what a statement wrote
pub written_given : {gave : Ref → Type 0} (statement : Statement) (env : Env) → AllSetsGiven gave env → AllGiven gave (given_by statement env)
written_given (Select pick filters into) env all = all into
written_given (Recurse start how into) env all = all into
written_given (Item start into) env all = all into
written_given (Union parts into) env all = all into
written_given (Minus left right into) env all = all into
written_given (Print start mode limit) env all = λ r has. absurd (none r has)

pub always_ok : {T E P : Type 0} (result : Result T E) → P → OnOk result P
always_ok (Ok value) p = p
always_ok (Err e) p = tt
