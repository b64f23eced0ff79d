-- Chains of membership, step by step.
use Rattle.std.proofs.Common.{◌≡◌, ◌⊎◌, inl, inr, ℕ, suc, ◌≤◌, List, [], ◌∷◌, length, take, drop, Result, Ok, refl, sym, ap, subst, ◌∙◌, arith}
use Rattle.std.specs.List.{Contains}
use Rattle.std.proofs.lemmas.List.{length-take, take-append-drop}
use Rattle.std.proofs.lemmas.List.Elements.{Contains-append_cases, Contains-append_left, Contains-append_right}
use Rattle.osm_model.specs.Elements.{Element}
use Rattle.osm_model.specs.declared.kind.Kind.{Kind}
use Rattle.osm_model.specs.declared.kind.Kind.TheVariants as kinds
use Rattle.osm_model.specs.declared.reference.Ref.{Ref}
use Rattle.tree_node.specs.Outcomes.{Outcome, ShelfUse}
use Rattle.osm_keys.specs.Publications.{Publication}
use Rattle.osm_keys.proofs.shared.Members.{none}
use Rattle.ref_sets.proofs.shared.Adding.{adds_to_nothing}
use Rattle.ref_sets.specs.Adding.{Adds, From}
use Rattle.ql_eval.specs.internal.Founds.{Goes}
use Rattle.ref_sets.specs.Sets.{IsSetOf}
use Rattle.ql_eval.specs.Faults.{cause_of_evaluation}
use Rattle.ql_eval.specs.Questions.{NeededBy}
use Rattle.ql_eval.specs.declared.chains.Direction.{Direction}
use Rattle.ql_eval.specs.declared.chains.Direction.TheVariants.{Down, Up}
use Rattle.ql_eval.specs.declared.fault.EvalFault.{EvalFault}
use Rattle.ql_eval.specs.internal.Chains.{AreChained, IsChainAsk, IsEnd, IsEndAsk, IsWay, Leads, LeadsAsk, More, One}
use Rattle.ql_eval.specs.internal.Entries.{IsThere}
use Rattle.ref_sets.specs.Kinds.{IsBetween}
use Rattle.ql_eval.specs.internal.Links.{AreThere, IsBelowAsk, IsListedIn}
use Rattle.ql_eval.proofs.EachLemmas.{needed_as}
use Rattle.ql_eval.proofs.EntryLemmas.{set_as}

-- how steps from some references end, with what is known then
abbrev pub LedWell : Publication → Direction → List Ref → Type 0 → ShelfUse → Result (List Ref) EvalFault → Type 0
LedWell p direction names Known shelf result =
    Outcome cause_of_evaluation (λ refs. IsSetOf refs (From names (Leads direction p.objects)) × Known) (NeededBy p (From names (LeadsAsk direction p))) shelf result

-- how far chains have been gone along
abbrev pub ChainedWell : Publication → Direction → List Ref → List Ref → List Ref → Type 0 → ShelfUse → Type 0
ChainedWell p direction from followed refs Known shelf =
    Outcome cause_of_evaluation (λ (_ : Unit {0}). AreChained direction p.objects from followed refs × Known) (NeededBy p (IsChainAsk direction p from followed)) shelf (Ok tt)

-- ---- steps down

all_kinds : (r : Ref) → IsBetween kinds.Node kinds.Rel r
all_kinds r = at r.kind refl
  where
    at : (kind : Kind) → r.kind ≡ kind → IsBetween kinds.Node kinds.Rel r
    at kinds.Node e = record { not_below = rw e (omega arith); not_above = rw e (omega arith) }
    at kinds.Way e = record { not_below = rw e (omega arith); not_above = rw e (omega arith) }
    at kinds.Rel e = record { not_below = rw e (omega arith); not_above = rw e (omega arith) }

pub down_leads : (objects : List Element) (names refs : List Ref) → IsSetOf refs (λ r. IsListedIn objects names kinds.Node kinds.Rel r × IsThere objects r) → IsSetOf refs (From names (Leads Down objects))
down_leads objects names refs set = set_as refs (λ r. IsListedIn objects names kinds.Node kinds.Rel r × IsThere objects r) (From names (Leads Down objects))
    (λ r. (
      (λ (((name, among, listed), kind), there). (name, among, (listed, there))),
      (λ (name, among, (listed, there)). (((name, among, listed), all_kinds r), there)),
    )) set

module _ (p : Publication) (names : List Ref) where
  pub down_needs : (x : List ℕ) → NeededBy p (IsBelowAsk p names kinds.Node kinds.Rel) x → NeededBy p (From names (LeadsAsk Down p)) x
  down_needs = needed_as (λ ask asked. elim asked [
    | inl (name, among, parent) ↦ (name, among, inl parent)
    | inr (r, ((name, among, listed), kind), e) ↦ (name, among, inr (r, listed, e))
  ])

  pub needs_down : (x : List ℕ) → NeededBy p (From names (LeadsAsk Down p)) x → NeededBy p (IsBelowAsk p names kinds.Node kinds.Rel) x
  needs_down = needed_as (λ ask (name, among, asked). elim asked [
    | inl parent ↦ inl (name, among, parent)
    | inr (r, listed, e) ↦ inr (r, ((name, among, listed), all_kinds r), e)
  ])

-- ---- rounds

-- what stays in its place is a front
pub front_stays : (earlier later : List Ref) → Goes earlier later → take (length earlier) later ≡ earlier
front_stays [] later goes = refl
front_stays (x ∷ xs) [] goes = absurd (omega (arith, (goes 0 x (omega arith)).0))
front_stays (x ∷ xs) (y ∷ ys) goes =
    let head : y ≡ x = (goes 0 x (omega arith)).1 in
    let rest = front_stays xs ys (λ k d lt. let so = goes (suc k) d (omega (arith, lt)) in (omega (arith, so.0), so.1)) in
    ap (λ (l : List Ref). y ∷ l) rest ∙ ap (λ (z : Ref). z ∷ xs) head

pub longer : (earlier later : List Ref) → Goes earlier later → length earlier ≤ length later
longer earlier later goes = let same = ap (λ (l : List Ref). length l) (front_stays earlier later goes) in omega (arith, same, length-take (length earlier) later)

taken_or_left : (at : ℕ) (refs : List Ref) (r : Ref) → Contains refs r → Contains (take at refs) r ⊎ Contains (drop at refs) r
taken_or_left at refs r has = Contains-append_cases (take at refs) (drop at refs) r (subst (λ (l : List Ref). Contains l r) (sym (take-append-drop at refs)) has)

taken_is_there : (at : ℕ) (refs : List Ref) (r : Ref) → Contains (take at refs) r → Contains refs r
taken_is_there at refs r has = subst (λ (l : List Ref). Contains l r) (take-append-drop at refs) (Contains-append_left (take at refs) (drop at refs) r has)

left_is_there : (at : ℕ) (refs : List Ref) (r : Ref) → Contains (drop at refs) r → Contains refs r
left_is_there at refs r has = subst (λ (l : List Ref). Contains l r) (take-append-drop at refs) (Contains-append_right (take at refs) (drop at refs) r has)

leads_there : (direction : Direction) (objects : List Element) (first second : Ref) → Leads direction objects first second → IsThere objects second
leads_there Down objects first second leads = leads.1
leads_there Up objects first second leads = (leads.0, leads.1, leads.2)

way_there : (direction : Direction) (objects : List Element) (first last : Ref) → IsWay direction objects first last → IsThere objects last
way_there direction objects first last (One a b leads) = leads_there direction objects a b leads
way_there direction objects first last (More a n b way leads) = leads_there direction objects n b leads

module _ (direction : Direction) (objects : List Element) (from : List Ref) where
  -- the first steps
  pub chained_first : (next refs : List Ref) → IsSetOf next (From from (Leads direction objects)) → Adds [] refs (Contains next) → AreChained direction objects from [] refs
  chained_first next refs set so = record {
    starts = λ r led. (adds_to_nothing refl so r).1 ((set.members r).1 led);
    closed = λ r (s, among, leads). absurd (none s among);
    sound = λ r has. let (s, among, leads) = (set.members r).0 ((adds_to_nothing refl so r).0 has) in (s, among, One s r leads);
  }

  -- and those from what was found last
  pub chained_next : (at : ℕ) (refs next more : List Ref) → AreChained direction objects from (take at refs) refs → IsSetOf next (From (drop at refs) (Leads direction objects)) → Adds refs more (Contains next)
      → AreChained direction objects from refs more
  chained_next at refs next more so set adds = record {
    starts = λ r led. (adds.is r).1 (inl (so.starts r led));
    closed = λ r (s, among, leads). (adds.is r).1 (elim (taken_or_left at refs s among) [
      | inl taken ↦ inl (so.closed r (s, taken, leads))
      | inr left ↦ inr ((set.members r).1 (s, left, leads))
    ]);
    sound = λ r has. elim ((adds.is r).0 has) [
      | inl before ↦ so.sound r before
      | inr new ↦
          let (s, left, leads) = (set.members r).0 new in
          let (first, among, way) = so.sound s (left_is_there at refs s left) in
          (first, among, More first s r way leads)
    ];
  }

  reached : (refs : List Ref) → AreChained direction objects from refs refs → (first last : Ref) → Contains from first → IsWay direction objects first last → Contains refs last
  reached refs so first last among (One a b leads) = so.starts b (a, among, leads)
  reached refs so first last among (More a n b way leads) = so.closed b (n, reached refs so a n among way, leads)

  -- where nothing is left to be gone on from, all ends were found
  pub chained_all : (refs sorted : List Ref) → AreChained direction objects from refs refs → IsSetOf sorted (Contains refs) → IsSetOf sorted (IsEnd direction objects from)
  chained_all refs sorted so set = set_as sorted (Contains refs) (IsEnd direction objects from) (λ r. (so.sound r, (λ (first, among, way). reached refs so first r among way))) set

  -- what was found is there
  pub left_there : (at : ℕ) (refs : List Ref) → AreChained direction objects from (take at refs) refs → AreThere objects (drop at refs)
  left_there at refs so r left = let (first, among, way) = so.sound r (left_is_there at refs r left) in way_there direction objects first r way

  pub end_there : (r : Ref) → IsEnd direction objects from r → IsThere objects r
  end_there r (first, among, way) = way_there direction objects first r way

module _ (p : Publication) (direction : Direction) (from : List Ref) where
  pub first_needs : (x : List ℕ) → NeededBy p (From from (LeadsAsk direction p)) x → NeededBy p (IsChainAsk direction p from []) x
  first_needs = needed_as (λ ask asked. inl asked)

  pub needs_first : (x : List ℕ) → NeededBy p (IsChainAsk direction p from []) x → NeededBy p (From from (LeadsAsk direction p)) x
  needs_first = needed_as (λ ask asked. elim asked [ inl of ↦ of | inr other ↦ absurd (none other.0 other.1) ])

  -- what some rounds asked, all of them ask
  pub chain_ends : (followed : List Ref) (x : List ℕ) → NeededBy p (IsChainAsk direction p from followed) x → NeededBy p (IsEndAsk direction p from) x
  chain_ends followed = needed_as (λ ask asked. elim asked [ inl of ↦ inl of | inr (r, among, end, asks) ↦ inr (r, end, asks) ])

  pub ends_chain : (refs : List Ref) → AreChained direction p.objects from refs refs → (x : List ℕ) → NeededBy p (IsEndAsk direction p from) x → NeededBy p (IsChainAsk direction p from refs) x
  ends_chain refs so = needed_as (λ ask asked. elim asked [
    | inl of ↦ inl of
    | inr (r, (first, among, way), asks) ↦ inr (r, reached direction p.objects from refs so first r among way, (first, among, way), asks)
  ])

  module _ (at : ℕ) (refs : List Ref) where
    pub front_asks : (x : List ℕ) → NeededBy p (IsChainAsk direction p from (take at refs)) x → NeededBy p (IsChainAsk direction p from refs) x
    front_asks = needed_as (λ ask asked. elim asked [ inl of ↦ inl of | inr (r, taken, end, asks) ↦ inr (r, taken_is_there at refs r taken, end, asks) ])

    pub left_asks : AreChained direction p.objects from (take at refs) refs → (x : List ℕ) → NeededBy p (From (drop at refs) (LeadsAsk direction p)) x → NeededBy p (IsChainAsk direction p from refs) x
    left_asks so = needed_as (λ ask (r, left, asks). let among = left_is_there at refs r left in inr (r, among, so.sound r among, asks))

    pub left_ends : AreChained direction p.objects from (take at refs) refs → (x : List ℕ) → NeededBy p (From (drop at refs) (LeadsAsk direction p)) x → NeededBy p (IsEndAsk direction p from) x
    left_ends so x needs = chain_ends refs x (left_asks so x needs)

    pub asks_split : (x : List ℕ) → NeededBy p (IsChainAsk direction p from refs) x → NeededBy p (IsChainAsk direction p from (take at refs)) x ⊎ NeededBy p (From (drop at refs) (LeadsAsk direction p)) x
    asks_split x needs = elim needs.asked [
      | inl of ↦ inl (record { ask = needs.ask; asked = inl of; needs = needs.needs })
      | inr (r, among, end, asks) ↦ elim (taken_or_left at refs r among) [
        | inl taken ↦ inl (record { ask = needs.ask; asked = inr (r, taken, end, asks); needs = needs.needs })
        | inr left ↦ inr (record { ask = needs.ask; asked = (r, left, asks); needs = needs.needs })
      ]
    ]
