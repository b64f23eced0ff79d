-- `>>` and `<<` as chains of membership between objects and as steps between references.
use Rattle.std.proofs.Common.{◌≡◌, ◌↔◌, ◌⊎◌, inl, inr, ℕ, List, Result, refl, sym, subst, ◌∙◌}
use Rattle.std.specs.List.{Contains}
use Rattle.osm_model.specs.Elements.{Element, reference}
use Rattle.osm_model.specs.Membership.{BodyLists}
use Rattle.osm_model.specs.Sets.{IsObjectSet}
use Rattle.osm_model.specs.declared.reference.Ref.{Ref}
use Rattle.osm_keys.proofs.shared.OneObject.{one_object}
use Rattle.tree_node.specs.Outcomes.{Outcome, ShelfUse}
use Rattle.osm_keys.specs.Publications.{Publication}
use Rattle.ql_syntax.specs.declared.recursion.Recursion.{Recursion}
use Rattle.ql_syntax.specs.declared.recursion.Recursion.TheVariants as recursions
use Rattle.ref_sets.specs.Sets.{IsSetOf}
use Rattle.ql_meaning.specs.Values.{IsChain, IsParent, IsReached, IsRefOf, Link, Longer}
use Rattle.ql_eval.specs.Asks.{AskedByRecursion, IsReachedDown}
use Rattle.ql_eval.specs.Faults.{cause_of_evaluation}
use Rattle.ql_eval.specs.Questions.{Ask, NeededBy, object_ask}
use Rattle.ql_eval.specs.Work.{OfSet}
use Rattle.ql_eval.specs.declared.chains.Direction.{Direction}
use Rattle.ql_eval.specs.declared.chains.Direction.TheVariants.{Down, Up}
use Rattle.ql_eval.specs.declared.fault.EvalFault.{EvalFault}
use Rattle.ql_eval.specs.internal.Chains.{IsEnd, IsEndAsk, IsWay, Leads, More, One}
use Rattle.ql_eval.specs.internal.Links.{AreThere, IsListedOf}
use Rattle.ql_eval.specs.internal.Metering.{IsBounded}
use Rattle.ql_eval.proofs.EachLemmas.{needed_as}
use Rattle.ql_eval.proofs.EntryLemmas.{set_as}

-- how a recursion ends, with what is known then
abbrev pub RecursedWell : Publication → Recursion → List Ref → Type 0 → ShelfUse → Result (List Ref) EvalFault → Type 0
RecursedWell p how set Known shelf result =
    Outcome cause_of_evaluation (λ refs. IsSetOf refs (IsRefOf p.objects (IsReached p.objects how set)) × Known) (NeededBy p (AskedByRecursion p how set)) shelf result

-- ---- chains and their ends

chain_after : (objects : List Element) (a b c : Element) → IsChain objects a b → IsParent objects b c → IsChain objects a c
chain_after objects a b c (Link a' b' parent) last = Longer a' b' c parent (Link b' c last)
chain_after objects a b c (Longer a' n b' parent chain) last = Longer a' n c parent (chain_after objects n b' c chain last)

last_there : (objects : List Element) (a b : Element) → IsChain objects a b → Contains objects b
last_there objects a b (Link a' b' parent) = parent.child_there
last_there objects a b (Longer a' n b' parent chain) = last_there objects n b' chain

first_there : (objects : List Element) (a b : Element) → IsChain objects a b → Contains objects a
first_there objects a b (Link a' b' parent) = parent.there
first_there objects a b (Longer a' n b' parent chain) = parent.there

-- a step before a way
way_before : (direction : Direction) (objects : List Element) (first next last : Ref) → Leads direction objects first next → IsWay direction objects next last → IsWay direction objects first last
way_before direction objects first next last leads (One a b on) = More first a b (One first a leads) on
way_before direction objects first next last leads (More a n b way on) = More first n b (way_before direction objects first a n leads way) on

module _ (objects : List Element) (set : IsObjectSet objects) where
  -- two objects, of which the first lists the second
  parent_of : (a b : Element) (r s : Ref) → Contains objects a → Contains objects b → reference a ≡ r → reference b ≡ s → (o : Element) → Contains objects o → reference o ≡ r → BodyLists o.body s → IsParent objects a b
  parent_of a b r s has has_too is is_too o there named lists =
      let same : o ≡ a = one_object objects o a set there has (named ∙ sym is) in
      record { there = has; child_there = has_too; lists = subst (λ (e : Element). BodyLists e.body (reference b)) same (subst (λ (t : Ref). BodyLists o.body t) (sym is_too) lists) }

  -- ---- down

  down_chain : (first last : Ref) → IsWay Down objects first last → (a : Element) → Contains objects a → reference a ≡ first → IsRefOf objects (λ o. IsChain objects a o) last
  down_chain first last (One x y ((o, there, named, lists), (b, b_there, b_named))) a has is = (b, b_there, b_named, Link a b (parent_of a b x y has b_there is b_named o there named lists))
  down_chain first last (More x n y way ((o, there, named, lists), (b, b_there, b_named))) a has is =
      let (m, m_there, m_named, chain) = down_chain x n way a has is in
      (b, b_there, b_named, chain_after objects a m b chain (parent_of m b n y m_there b_there m_named b_named o there named lists))

  chain_down : (a b : Element) → IsChain objects a b → IsWay Down objects (reference a) (reference b)
  chain_down a b (Link x y parent) = One (reference x) (reference y) ((x, parent.there, refl, parent.lists), (y, parent.child_there, refl))
  chain_down a b (Longer x n y parent chain) =
      way_before Down objects (reference x) (reference n) (reference y) ((x, parent.there, refl, parent.lists), (n, parent.child_there, refl)) (chain_down n y chain)

  -- ---- up

  up_chain : (first last : Ref) → IsWay Up objects first last → (a : Element) → Contains objects a → reference a ≡ first → IsRefOf objects (λ o. IsChain objects o a) last
  up_chain first last (One x y (o, there, named, (any, lists))) a has is = (o, there, named, Link o a (parent_of o a y x there has named is o there named lists))
  up_chain first last (More x n y way (o, there, named, (any, lists))) a has is =
      let (m, m_there, m_named, chain) = up_chain x n way a has is in
      (o, there, named, Longer o m a (parent_of o m y n there m_there named m_named o there named lists) chain)

  chain_up : (a b : Element) → IsChain objects a b → IsWay Up objects (reference b) (reference a)
  chain_up a b (Link x y parent) = One (reference y) (reference x) (x, parent.there, refl, (tt, parent.lists))
  chain_up a b (Longer x n y parent chain) = More (reference y) (reference n) (reference x) (chain_up n y chain) (x, parent.there, refl, (tt, parent.lists))

-- ---- what is reached

module _ (p : Publication) (is_set : IsObjectSet p.objects) (set : List Ref) (there_all : AreThere p.objects set) where
  down_reached : (r : Ref) → IsEnd Down p.objects set r ↔ IsRefOf p.objects (IsReached p.objects recursions.DownAll set) r
  down_reached r = (
    (λ (first, among, way).
        let (a, has, is) = there_all first among in
        let (o, there, named, chain) = down_chain p.objects is_set first r way a has is in
        (o, there, named, (a, subst (λ (s : Ref). Contains set s) (sym is) among, chain))),
    (λ (o, there, named, (a, among, chain)). (reference a, among, subst (λ (s : Ref). IsWay Down p.objects (reference a) s) named (chain_down p.objects is_set a o chain))),
  )

  up_reached : (r : Ref) → IsEnd Up p.objects set r ↔ IsRefOf p.objects (IsReached p.objects recursions.UpAll set) r
  up_reached r = (
    (λ (first, among, way).
        let (a, has, is) = there_all first among in
        let (o, there, named, chain) = up_chain p.objects is_set first r way a has is in
        (o, there, named, (a, subst (λ (s : Ref). Contains set s) (sym is) among, chain))),
    (λ (o, there, named, (a, among, chain)). (reference a, among, subst (λ (s : Ref). IsWay Up p.objects (reference a) s) named (chain_up p.objects is_set o a chain))),
  )

  pub down_all_set : (refs : List Ref) → IsSetOf refs (IsEnd Down p.objects set) → IsSetOf refs (IsRefOf p.objects (IsReached p.objects recursions.DownAll set))
  down_all_set refs is = set_as refs (IsEnd Down p.objects set) (IsRefOf p.objects (IsReached p.objects recursions.DownAll set)) down_reached is

  pub up_all_set : (refs : List Ref) → IsSetOf refs (IsEnd Up p.objects set) → IsSetOf refs (IsRefOf p.objects (IsReached p.objects recursions.UpAll set))
  up_all_set refs is = set_as refs (IsEnd Up p.objects set) (IsRefOf p.objects (IsReached p.objects recursions.UpAll set)) up_reached is

  -- what is bounded by the references that were reached, whichever way they are said
  module _ (Work : List Ref → ℕ → Type 0) (old new : ℕ) where
    pub down_all_bounded : IsBounded (OfSet (IsEnd Down p.objects set) Work) old new → IsBounded (OfSet (IsRefOf p.objects (IsReached p.objects recursions.DownAll set)) Work) old new
    down_all_bounded bounded n work = bounded n (record {
      set = work.set;
      is_set = set_as work.set (IsRefOf p.objects (IsReached p.objects recursions.DownAll set)) (IsEnd Down p.objects set) (λ r. ((down_reached r).1, (down_reached r).0)) work.is_set;
      work = work.work;
    })

    pub up_all_bounded : IsBounded (OfSet (IsEnd Up p.objects set) Work) old new → IsBounded (OfSet (IsRefOf p.objects (IsReached p.objects recursions.UpAll set)) Work) old new
    up_all_bounded bounded n work = bounded n (record {
      set = work.set;
      is_set = set_as work.set (IsRefOf p.objects (IsReached p.objects recursions.UpAll set)) (IsEnd Up p.objects set) (λ r. ((up_reached r).1, (up_reached r).0)) work.is_set;
      work = work.work;
    })

  -- ---- what is asked

  listed_ask : (r s : Ref) (ask : Ask) → (Contains set r ⊎ IsEnd Down p.objects set r) → IsListedOf p.objects r s → ask ≡ object_ask s → AskedByRecursion p recursions.DownAll set ask
  listed_ask r s ask has (o, there, named, lists) e =
      inr (s, (o, there, subst (λ (t : Ref). IsReachedDown p.objects set t) (sym named) (elim has [ inl in_set ↦ inl in_set | inr end ↦ inr ((down_reached r).0 end) ]), lists), e)

  ends_ask : (ask : Ask) → IsEndAsk Down p set ask → AskedByRecursion p recursions.DownAll set ask
  ends_ask ask (inl (name, among, (inl (other, e)))) = inl (name, (inl among, other), e)
  ends_ask ask (inl (name, among, (inr (s, listed, e)))) = listed_ask name s ask (inl among) listed e
  ends_ask ask (inr (r, end, (inl (other, e)))) = inl (r, (inr ((down_reached r).0 end), other), e)
  ends_ask ask (inr (r, end, (inr (s, listed, e)))) = listed_ask r s ask (inr end) listed e

  ask_ends : (ask : Ask) → AskedByRecursion p recursions.DownAll set ask → IsEndAsk Down p set ask
  ask_ends ask (inl (name, ((inl among), other), e)) = inl (name, among, inl (other, e))
  ask_ends ask (inl (r, ((inr reached), other), e)) = inr (r, (down_reached r).1 reached, inl (other, e))
  ask_ends ask (inr (s, (o, there, (inl in_set), lists), e)) = inl (reference o, in_set, inr (s, (o, there, refl, lists), e))
  ask_ends ask (inr (s, (o, there, (inr reached), lists), e)) = inr (reference o, (down_reached (reference o)).1 reached, inr (s, (o, there, refl, lists), e))

  pub down_all_needs : (x : List ℕ) → NeededBy p (IsEndAsk Down p set) x → NeededBy p (AskedByRecursion p recursions.DownAll set) x
  down_all_needs = needed_as ends_ask

  pub needs_down_all : (x : List ℕ) → NeededBy p (AskedByRecursion p recursions.DownAll set) x → NeededBy p (IsEndAsk Down p set) x
  needs_down_all = needed_as ask_ends

  up_ends_ask : (ask : Ask) → IsEndAsk Up p set ask → AskedByRecursion p recursions.UpAll set ask
  up_ends_ask ask (inl (name, among, e)) = (name, inl among, e)
  up_ends_ask ask (inr (r, end, e)) = (r, inr ((up_reached r).0 end), e)

  up_ask_ends : (ask : Ask) → AskedByRecursion p recursions.UpAll set ask → IsEndAsk Up p set ask
  up_ask_ends ask (r, (inl among), e) = inl (r, among, e)
  up_ask_ends ask (r, (inr reached), e) = inr (r, (up_reached r).1 reached, e)

  pub up_all_needs : (x : List ℕ) → NeededBy p (IsEndAsk Up p set) x → NeededBy p (AskedByRecursion p recursions.UpAll set) x
  up_all_needs = needed_as up_ends_ask

  pub needs_up_all : (x : List ℕ) → NeededBy p (AskedByRecursion p recursions.UpAll set) x → NeededBy p (IsEndAsk Up p set) x
  needs_up_all = needed_as up_ask_ends
