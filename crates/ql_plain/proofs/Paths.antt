-- Paths of steps, and the chains of membership that they are.
use Rattle.std.proofs.Common.{◌≡◌, List, [], true, false, inl, inr, refl, sym, ap, subst, ◌∙◌}
use Rattle.std.specs.List.{Contains}
use Rattle.osm_model.specs.Elements.{Element, reference}
use Rattle.osm_model.specs.Sets.{IsObjectSet}
use Rattle.osm_model.specs.declared.reference.Ref.{Ref}
use Rattle.ql_syntax.specs.declared.recursion.Recursion.TheVariants as recursions
use Rattle.ref_sets.proofs.shared.Adding.{adds_to_nothing}
use Rattle.ref_sets.proofs.shared.Keeping.{set_as}
use Rattle.ref_sets.specs.Adding.{Adds, From}
use Rattle.ref_sets.specs.Sets.{IsSetOf}
use Rattle.ql_meaning.proofs.shared.Chains.{chain_after, first_is_there, last_is_there}
use Rattle.ql_meaning.specs.Values.{IsChain, IsParent, IsReached, IsRefOf, Link as Last, Longer}
use Rattle.ql_plain.proofs.Selecting.{one_object}
use Rattle.ql_plain.specs.declared.links.Link.{Link}
use Rattle.ql_plain.specs.declared.step.Step.{Step}
use Rattle.ql_plain.specs.internal.Founds.{IsClosure}
use Rattle.ql_plain.specs.internal.Linked.{AreLinks}
use Rattle.ql_plain.specs.internal.Paths.{IsPath, IsStep, More, One}
use Rattle.ql_plain.specs.internal.Steps.{AreSteps}

-- ---- paths

pub path_before : (steps : List Step) (a b c : Ref) → IsStep steps a b → IsPath steps b c → IsPath steps a c
path_before steps a b c first (One b' c' step) = More a b' c' (One a b' first) step
path_before steps a b c first (More b' n c' path step) = More a n c' (path_before steps a b' n first path) step

-- what is closed has all that paths lead to
pub path_closed : (steps : List Step) (later : List Ref) (from : Ref → Type 0) → ((s r : Ref) → from s → IsStep steps s r → Contains later r) → ((s r : Ref) → Contains later s → IsStep steps s r → Contains later r)
    → (a c : Ref) → from a → IsPath steps a c → Contains later c
path_closed steps later from first closed a c is (One a' c' step) = first a' c' is step
path_closed steps later from first closed a c is (More a' n c' path step) = closed n c' (path_closed steps later from first closed a' n is path) step

pub paths_are : (steps : List Step) (from begun later refs : List Ref) → Adds [] begun (From from (IsStep steps)) → IsClosure steps begun later → IsSetOf refs (Contains later)
    → IsSetOf refs (λ r. (s : Ref) × Contains from s × IsPath steps s r)
paths_are steps from begun later refs first whole tidied =
    set_as
    (λ r has. elim (whole.sound r has) [
      | inl begin ↦ (let of = (adds_to_nothing refl first r).0 begin in (of.0, of.1, One of.0 r of.2))
      | inr far ↦ (let of = (adds_to_nothing refl first far.0).0 far.1 in (of.0, of.1, path_before steps of.0 far.0 r of.2 far.2))
    ])
    (λ r of. path_closed steps later (Contains from) (λ s t is step. whole.kept t ((adds_to_nothing refl first t).1 (s, is, step))) whole.closed of.0 r of.1 of.2)
    tidied

-- ---- chains

module _ (objects : List Element) (set : IsObjectSet objects) (links : List Link) (are : AreLinks objects links) (steps : List Step) where
  abbrev pub Linked : Ref → Ref → Type 0
  Linked a b = (parent child : Element) × IsParent objects parent child × (reference parent ≡ a) × (reference child ≡ b)

  -- ---- down

  module _ (down : AreSteps false links steps) where
    step_down : (a b : Ref) → IsStep steps a b → Linked a b
    step_down a b is =
        let of = (down is.0).0 is.1 in
        let one = (are of.0).0 of.1 in (
          one.0,
          one.1,
          one.2,
          sym (ap (λ (l : Link). l.parent) one.3) ∙ ap (λ (s : Step). s.from) of.2 ∙ is.2,
          sym (ap (λ (l : Link). l.child) one.3) ∙ ap (λ (s : Step). s.to) of.2 ∙ is.3,
        )

    down_step : (parent child : Element) → IsParent objects parent child → IsStep steps (reference parent) (reference child)
    down_step parent child is = (
      record { from = reference parent; to = reference child },
      (down _).1 (record { parent = reference parent; child = reference child }, (are _).1 (parent, child, is, refl), refl),
      refl,
      refl,
    )

    chain_from_path : (a b : Ref) → IsPath steps a b → (first last : Element) × (reference first ≡ a) × (reference last ≡ b) × IsChain objects first last
    chain_from_path a b (One a' b' step) = let one = step_down a' b' step in (one.0, one.1, one.3, one.4, Last one.0 one.1 one.2)
    chain_from_path a b (More a' n b' path step) =
        let before = chain_from_path a' n path in
        let one = step_down n b' step in
        let same : one.0 ≡ before.1 = one_object objects set one.0 before.1 one.2.there (last_is_there objects before.0 before.1 before.4) (one.3 ∙ sym before.3) in
        (before.0, one.1, before.2, one.4, chain_after objects before.0 before.1 one.1 before.4 (subst (λ (o : Element). IsParent objects o one.1) same one.2))

    path_from_chain : (first last : Element) → IsChain objects first last → IsPath steps (reference first) (reference last)
    path_from_chain first last (Last a b parent) = One (reference a) (reference b) (down_step a b parent)
    path_from_chain first last (Longer a n b parent chain) = path_before steps (reference a) (reference n) (reference b) (down_step a n parent) (path_from_chain n b chain)

    pub down_all : (from refs : List Ref) → IsSetOf refs (λ r. (s : Ref) × Contains from s × IsPath steps s r) → IsSetOf refs (IsRefOf objects (IsReached objects recursions.DownAll from))
    down_all from refs =
        set_as
        (λ r of.
        let one = chain_from_path of.0 r of.2 in
        (one.1, last_is_there objects one.0 one.1 one.4, one.3, (one.0, subst (λ (s : Ref). Contains from s) (sym one.2) of.1, one.4)))
        (λ r of. (reference of.3.0, of.3.1, subst (λ (s : Ref). IsPath steps (reference of.3.0) s) of.2 (path_from_chain of.3.0 of.0 of.3.2)))

  -- ---- up

  module _ (up : AreSteps true links steps) where
    step_up : (a b : Ref) → IsStep steps a b → Linked b a
    step_up a b is =
        let of = (up is.0).0 is.1 in
        let one = (are of.0).0 of.1 in (
          one.0,
          one.1,
          one.2,
          sym (ap (λ (l : Link). l.parent) one.3) ∙ ap (λ (s : Step). s.to) of.2 ∙ is.3,
          sym (ap (λ (l : Link). l.child) one.3) ∙ ap (λ (s : Step). s.from) of.2 ∙ is.2,
        )

    up_step : (parent child : Element) → IsParent objects parent child → IsStep steps (reference child) (reference parent)
    up_step parent child is = (
      record { from = reference child; to = reference parent },
      (up _).1 (record { parent = reference parent; child = reference child }, (are _).1 (parent, child, is, refl), refl),
      refl,
      refl,
    )

    chain_from_path_up : (a b : Ref) → IsPath steps a b → (first last : Element) × (reference last ≡ a) × (reference first ≡ b) × IsChain objects first last
    chain_from_path_up a b (One a' b' step) = let one = step_up a' b' step in (one.0, one.1, one.4, one.3, Last one.0 one.1 one.2)
    chain_from_path_up a b (More a' n b' path step) =
        let before = chain_from_path_up a' n path in
        let one = step_up n b' step in
        let same : one.1 ≡ before.0 = one_object objects set one.1 before.0 one.2.child_there (first_is_there objects before.0 before.1 before.4) (one.4 ∙ sym before.3) in
        (one.0, before.1, before.2, one.3, Longer one.0 before.0 before.1 (subst (λ (o : Element). IsParent objects one.0 o) same one.2) before.4)

    path_up_from_chain : (first last : Element) → IsChain objects first last → IsPath steps (reference last) (reference first)
    path_up_from_chain first last (Last a b parent) = One (reference b) (reference a) (up_step a b parent)
    path_up_from_chain first last (Longer a n b parent chain) = More (reference b) (reference n) (reference a) (path_up_from_chain n b chain) (up_step a n parent)

    pub up_all : (from refs : List Ref) → IsSetOf refs (λ r. (s : Ref) × Contains from s × IsPath steps s r) → IsSetOf refs (IsRefOf objects (IsReached objects recursions.UpAll from))
    up_all from refs =
        set_as
        (λ r of.
        let one = chain_from_path_up of.0 r of.2 in
        (one.0, first_is_there objects one.0 one.1 one.4, one.3, (one.1, subst (λ (s : Ref). Contains from s) (sym one.2) of.1, one.4)))
        (λ r of. (reference of.3.0, of.3.1, subst (λ (s : Ref). IsPath steps (reference of.3.0) s) of.2 (path_up_from_chain of.0 of.3.0 of.3.2)))
