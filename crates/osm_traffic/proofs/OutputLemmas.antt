-- The table of outputs, as the map of what the connections have coming.
use Rattle.std.proofs.Common.{◌≡◌, ◌∙◌, ℕ, List, ap, sym, refl, subst, length, Bor, MutBor}
use Rattle.std.specs.BTreeMap as tree
use Rattle.std.specs.BTreeMap.{BTreeMap}
use Rattle.std.specs.FinMap.{from_entries, get, insert, len, remove}
use Rattle.std.specs.Option.{option_copied, option_copied_mut}
use Rattle.std.specs.Ordering.{nat_cmp}
use Rattle.std.specs.Prelude.{Option, Some, None, IfSome, IfNone}
use Rattle.osm_traffic.specs.internal.Standing.{Waiting}
use Rattle.osm_traffic.proofs.MapLemmas.{get-view, len-view, view-insert, view-remove}

module _ (s : Waiting) (m : BTreeMap ℕ (List ℕ)) (is : from_entries m.entries ≡ s) (n : ℕ) where
  pub found : get s n ≡ tree.get_by (nat_cmp n) m
  found = ap (λ (s : Waiting). get s n) (sym is) ∙ get-view n m.entries

  pub size : tree.IsOrdered nat_cmp m → len s ≡ length m.entries
  size o = ap (λ (s : Waiting). len s) (sym is) ∙ len-view m o

  pub put : (bytes : List ℕ) (m' : BTreeMap ℕ (List ℕ)) → tree.UpdatesBy nat_cmp (nat_cmp n) m m' (Some bytes) → from_entries m'.entries ≡ insert s n bytes
  put bytes m' u = view-insert m m' n bytes u ∙ ap (λ (s : Waiting). insert s n bytes) is

  pub taken : (m' : BTreeMap ℕ (List ℕ)) → tree.UpdatesBy nat_cmp (nat_cmp n) m m' None → from_entries m'.entries ≡ remove s n
  taken m' u = view-remove m m' n u ∙ ap (λ (s : Waiting). remove s n) is

  pub written : (r r' : List ℕ) (m' : BTreeMap ℕ (List ℕ)) → tree.get_by (nat_cmp n) m ≡ Some r → tree.WritesThrough nat_cmp (nat_cmp n) m r' m' → from_entries m'.entries ≡ insert s n r'
  written r r' m' some w = put r' m' (w.3 (rw some refl))

  pub is_none : tree.get_by (nat_cmp n) m ≡ None → get s n ≡ None
  is_none none = found ∙ none

pub none_lent : (o : Option (MutBor (List ℕ))) → ((x : MutBor (List ℕ)) → o ≡ Some x → ⊥) → option_copied_mut o ≡ None
none_lent None h = refl
none_lent (Some x) h = absurd (h x refl)

pub if_some : {X : Type 0} (P : X → Type 0) (o : Option X) (x : X) → o ≡ Some x → P x → IfSome o P
if_some P o x is holds = subst (λ o. IfSome o P) (sym is) holds

pub if_none : {X : Type 0} (P : X → Type 0) (o : Option X) → o ≡ None → IfSome o P
if_none P o is = subst (λ o. IfSome o P) (sym is) tt

pub some_of : {X : Type 0} (P : X → Type 0) (o : Option X) (x : X) → o ≡ Some x → IfSome o P → P x
some_of P o x is holds = subst (λ o. IfSome o P) is holds

pub lent_some : (o : Option (Bor (List ℕ))) (found : Option (List ℕ)) → option_copied o ≡ found → IfSome o (λ output. found ≡ Some output.now)
lent_some None at is = tt
lent_some (Some output) at is = sym is

pub lent_none : (o : Option (Bor (List ℕ))) (found : Option (List ℕ)) → option_copied o ≡ found → IfNone o (found ≡ None)
lent_none None at is = sym is
lent_none (Some output) at is = tt
