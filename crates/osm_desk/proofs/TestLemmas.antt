-- What the tests of a desk tell.
use Rattle.std.proofs.Common.{◌≡◌, ◌∙◌, ◌≤◌, ◌<◌, inl, inr, ℕ, Bool, true, false, arith, refl, sym}
use Rattle.std.proofs.lemmas.Bool.Decides.{leb_tells}
use Rattle.std.specs.Bool.{OnFalse}
use Rattle.std.specs.Prelude.{Option, None, IsTrue, is_some, nat_le}
use Rattle.osm_desk.proofs.StepLemmas.{none_by}

on_false : (P : Type 0) (b : Bool) → (b ≡ false → P) → OnFalse b P
on_false P true tells = tt
on_false P false tells = tells refl

pub on_none : {X : Type 0} → (b : Bool) (o : Option X) → b ≡ is_some o → OnFalse b (o ≡ None)
on_none b o is = on_false (o ≡ None) b (λ isnt. none_by o (sym is ∙ isnt))

module _ (limit n k : ℕ) (is : n ≡ k) where
  pub full_to : IsTrue (nat_le limit k) → limit ≤ n
  full_to full = elim (leb_tells limit k) [ inl below ↦ omega (arith, below.1, is) | inr above ↦ let isnt = sym above.0 ∙ full in absurd (cc) ]

  pub full_from : limit ≤ n → IsTrue (nat_le limit k)
  full_from le = elim (leb_tells limit k) [ inl below ↦ below.0 | inr above ↦ absurd (omega (arith, above.1, is, le)) ]

  pub on_room : OnFalse (nat_le limit k) (n < limit)
  on_room = on_false (n < limit) (nat_le limit k) (λ isnt. elim (leb_tells limit k) [ inl below ↦ (let no = sym below.0 ∙ isnt in absurd (cc)) | inr above ↦ omega (arith, above.1, is) ])
