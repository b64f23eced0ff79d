use Rattle.std.proofs.Common.{◌≡◌, List, ◌++◌, ◌∷◌, [], ℤ, FitsSigned, get_or, pos, refl, sym, ap, subst, ◌∙◌, ◌⊎◌, inl, inr, rules, to_z-of_z, w64}
use Rattle.std.proofs.lemmas.List.{get_or_default}
use Rattle.std.specs.List.{Contains}
use Rattle.osm_model.specs.declared.kind.Kind.{Kind}
use Rattle.osm_model.specs.declared.kind.Kind.TheVariants.{Node, Way, Rel}
use Rattle.osm_model.specs.declared.reference.Ref.{Ref}
use Rattle.ref_sets.proofs.shared.Adding.{adds_all, adds_as, adds_more, adds_one, adds_start, adds_then}
use Rattle.ref_sets.proofs.shared.Keeping.{set_as}
use Rattle.ref_sets.specs.Adding.{Adds}
use Rattle.ql_plain.proofs.Selecting.{set_from_added}
use Rattle.ql_plain.proofs.filter.with_ids.Goals as goal

-- a reference with an id is of one of the three kinds
one_of_three : (id : ℤ) (kind : Kind) (r : Ref) → r.kind ≡ kind → r.id ≡ id → ((record { kind = Node; id = id } ≡ r) ⊎ (record { kind = Way; id = id } ≡ r)) ⊎ (record { kind = Rel; id = id } ≡ r)
one_of_three id Node r kind_is id_is = inl (inl (let of : Kind → Ref = λ k. record { kind = k; id = id } in let by : ℤ → Ref = λ i. record { kind = r.kind; id = i } in sym (ap by id_is ∙ ap of kind_is)))
one_of_three id Way r kind_is id_is = inl (inr (let of : Kind → Ref = λ k. record { kind = k; id = id } in let by : ℤ → Ref = λ i. record { kind = r.kind; id = i } in sym (ap by id_is ∙ ap of kind_is)))
one_of_three id Rel r kind_is id_is = inr (let of : Kind → Ref = λ k. record { kind = k; id = id } in let by : ℤ → Ref = λ i. record { kind = r.kind; id = i } in sym (ap by id_is ∙ ap of kind_is))

three_kinds : (id : ℤ) {a b c d : List Ref} → b ≡ a ++ record { kind = Node; id = id } ∷ [] → c ≡ b ++ record { kind = Way; id = id } ∷ [] → d ≡ c ++ record { kind = Rel; id = id } ∷ [] → Adds a d (λ (r : Ref). r.id ≡ id)
three_kinds id node way relation =
    adds_as
    (λ r is. elim is [
      | inl first ↦ elim first [ inl same ↦ ap (λ (s : Ref). s.id) (sym same) | inr same ↦ ap (λ (s : Ref). s.id) (sym same) ]
      | inr same ↦ ap (λ (s : Ref). s.id) (sym same)
    ])
    (λ r is. one_of_three id r.kind r refl is)
    (adds_then (adds_then (adds_one (record { kind = Node; id = id }) node refl (λ r is. is)) (adds_one (record { kind = Way; id = id }) way refl (λ r is. is))) (adds_one (record { kind = Rel; id = id }) relation refl (λ r is. is)))

pub loop-id-init : goal.loop-id-init
loop-id-init c = rw c.new-refs.ensures.items (adds_start c.args.ids.now (λ id (r : Ref). r.id ≡ id))

pub loop-id-preserved : goal.loop-id-preserved
loop-id-preserved c =
    let id = get_or c.args.ids.now c.loop-id.id-index (pos 0) in
    let small : FitsSigned w64 id = search rules in
    let node : c.push.new.self.items ≡ c.loop-id.refs.items ++ record { kind = Node; id = id } ∷ [] = simp (to_z-of_z small) at c.in_ok-push.ensures.items in
    let way : c.push-in-loop-id.new.self.items ≡ c.push.new.self.items ++ record { kind = Way; id = id } ∷ [] = simp (to_z-of_z small) at c.in_ok-push-2.ensures.items in
    let relation : c.push-in-loop-id-2.new.self.items ≡ c.push-in-loop-id.new.self.items ++ record { kind = Rel; id = id } ∷ [] = simp (to_z-of_z small) at c.in_ok-push-3.ensures.items in
    adds_more c.args.ids.now (λ id (r : Ref). r.id ≡ id) c.loop-id.id-index id c.loop-id-test.true (get_or_default c.args.ids.now c.loop-id.id-index (pos 0) id c.loop-id-test.true) c.loop-id.invariant
    (three_kinds id node way relation)

pub returns : goal.returns
returns c =
    set_as
    (λ r of. subst (λ (id : ℤ). Contains c.args.ids.now id) (sym of.2) of.1)
    (λ r has. (r.id, has, refl))
    (set_from_added (adds_all c.args.ids.now (λ id (r : Ref). r.id ≡ id) c.loop-id.id-index c.loop-id-test.false c.loop-id.invariant) c.from_refs.ensures)
