-- What was found, one after the other.
use Rattle.std.proofs.Common.{◌≡◌, ◌∙◌, List, [], ◌∷◌, ◌++◌, Option, None, Some, refl, sym, subst, ap, append_assoc}
use Rattle.osm_keys.specs.Publications.{Publication}
use Rattle.osm_desk.specs.Published.{FoundFile, IsMadeByAll, TakesFound}

-- first this, then that
made_after : (first second : List FoundFile) (p m q : Publication) → IsMadeByAll first p m → IsMadeByAll second m q → IsMadeByAll (second ++ first) p q
made_after first [] p m q before same = subst (IsMadeByAll first p) (sym same) before
made_after first (found ∷ second) p m q before (n, by, last) = (n, made_after first second p m n before by, last)

-- at mirrors, where this says which publications one holds
module _ {M : Type 0} (holds : M → Publication → Type 0) where
  still : (old new : M) → new ≡ old → (p : Publication) → holds old p → holds new p
  still old new same p held = subst (λ (m : M). holds m p) (sym same) held

  -- it wasn't asked
  pub none_found : (told now : Option (List FoundFile)) (old new : M) → now ≡ told → new ≡ old → TakesFound told now (holds old) (holds new)
  none_found None now old new unasked same = tt
  none_found (Some before) now old new unasked same = ([], unasked, λ p held. (p, still old new same p held, refl))

  pub found_after : (told mid now : Option (List FoundFile)) (old between new : M) → TakesFound told mid (holds old) (holds between) → TakesFound mid now (holds between) (holds new)
      → TakesFound told now (holds old) (holds new)
  found_after None mid now old between new first second = tt
  found_after (Some before) mid now old between new (some, is, takes) second =
      let (more, are, take) = subst (λ (o : Option (List FoundFile)). TakesFound o now (holds between) (holds new)) is second in (
        more ++ some,
        are ∙ ap (λ (xs : List FoundFile). Some xs) (sym (append_assoc more some before)),
        λ p held.
            let (m, between_holds, by) = takes p held in
            let (q, held_now, then) = take m between_holds in
            (q, held_now, made_after some more p m q by then),
      )

  -- what stays as it was afterwards
  pub found_kept : (told now : Option (List FoundFile)) (old mid new : M) → new ≡ mid → TakesFound told now (holds old) (holds mid) → TakesFound told now (holds old) (holds new)
  found_kept told now old mid new same takes = subst (λ (m : M). TakesFound told now (holds old) (holds m)) (sym same) takes
