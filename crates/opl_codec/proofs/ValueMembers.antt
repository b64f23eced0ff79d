-- Members: where what they refer to ends.
use Rattle.std.proofs.Common.{◌≡◌, ℕ, suc, ◌+◌, ◌<◌, List, [], ◌∷◌, ◌++◌, length, get_or, drop, false, ◌==◌, refl, sym, ◌∙◌, ap, subst, arith, add-one, inr, length-append}
use Rattle.osm_model.specs.Bytes.{at_sign}
use Rattle.osm_model.specs.CanonicalLine.{kind_letter}
use Rattle.osm_model.specs.declared.kind.Kind.{Kind}
use Rattle.osm_model.specs.declared.kind.Kind.TheVariants as kinds
use Rattle.osm_model.specs.declared.reference.Ref.{Ref}
use Rattle.byte_io.specs.Pieces.{Lacks}
use Rattle.opl_codec.specs.Members.{SpellsReference, HasTarget, MemberFault}
use Rattle.opl_codec.specs.ValueFaults.{TextFault, further_by}
use Rattle.opl_codec.specs.declared.value_fault.ValueFault.{ValueFault}
use Rattle.opl_codec.specs.declared.value_fault.ValueFault.TheVariants as faults
use Rattle.opl_codec.proofs.ValueNodes.{no_cut, number_lacks, same_cut}

letter_other : (kind : Kind) → (kind_letter kind == at_sign) ≡ false
letter_other kinds.Node = refl
letter_other kinds.Way = refl
letter_other kinds.Rel = refl

-- no reference has an `@`
pub reference_lacks : (text : List ℕ) (target : Ref) → SpellsReference text target → Lacks at_sign text
reference_lacks text target h = subst (Lacks at_sign) (sym h.parts) (letter_other target.kind, number_lacks at_sign h.digits target.id (omega arith) (λ e. omega (arith, e)) h.id_is.0)

-- where the text has no `@`, or none after a reference, it has no target
pub never_target : (spelled : List ℕ) → Lacks at_sign spelled → (role : List ℕ) (place : ℕ) → HasTarget spelled role place → ⊥
never_target spelled lack role place h = no_cut at_sign spelled h.target role lack h.parts

pub no_target : (spelled text rest : List ℕ) → spelled ≡ text ++ at_sign ∷ rest → Lacks at_sign text → ((target : Ref) → SpellsReference text target → ⊥) → (role : List ℕ) (place : ℕ) → HasTarget spelled role place → ⊥
no_target spelled text rest parts lack none role place h =
    let same = same_cut at_sign text h.target rest role lack (reference_lacks h.target h.reference h.target_is) (sym parts ∙ h.parts) in
    none h.reference (subst (λ t. SpellsReference t h.reference) (sym same.0) h.target_is)

-- what stands after the `@`
drop_past : (text rest : List ℕ) (byte : ℕ) → drop (suc (length text)) (text ++ byte ∷ rest) ≡ rest
drop_past [] rest byte = refl
drop_past (x ∷ text) rest byte = drop_past text rest byte

pub after_at : (spelled text rest : List ℕ) → spelled ≡ text ++ at_sign ∷ rest → drop (length text + 1) spelled ≡ rest
after_at spelled text rest parts = rw add-one (ap (drop (suc (length text))) parts ∙ drop_past text rest at_sign)

pub at_there : (spelled text rest : List ℕ) → spelled ≡ text ++ at_sign ∷ rest → (length text < length spelled) × (get_or spelled (length text) 0 ≡ at_sign)
at_there spelled text rest parts = (omega (arith, ap length parts, length-append text (at_sign ∷ rest)), ap (λ s. get_or s (length text) 0) parts ∙ at_end text)
  where
    at_end : (t : List ℕ) → get_or (t ++ at_sign ∷ rest) (length t) 0 ≡ at_sign
    at_end [] = refl
    at_end (x ∷ t) = at_end t

pub has_target : (spelled text rest : List ℕ) (target : Ref) → spelled ≡ text ++ at_sign ∷ rest → SpellsReference text target → HasTarget spelled rest (length text + 1)
has_target spelled text rest target parts is = record { target = text; parts = parts; reference = target; target_is = is; at = refl }

-- the fault of a role is that of its member
pub role_fault : (spelled text role : List ℕ) (target : Ref) (place : ℕ) (fault : ValueFault) → spelled ≡ text ++ at_sign ∷ role → SpellsReference text target → length spelled ≡ place + length role
    → TextFault role fault → MemberFault spelled (further_by place fault)
role_fault spelled text role target place fault parts is at h = by_cause fault h
  where
    there : HasTarget spelled role place
    there = record { target = text; parts = parts; reference = target; target_is = is; at = omega (arith, at, ap length parts, length-append text (at_sign ∷ role)) }

    by_cause : (cause : ValueFault) → TextFault role cause → MemberFault spelled (further_by place cause)
    by_cause faults.Form h = inr (role, place, there, h)
    by_cause (faults.Escape byte) h = (role, place, byte, there, h, refl)
    by_cause faults.NodeLocation h = absurd h
    by_cause faults.Limit h = absurd h
    by_cause faults.Memory h = λ e. omega (arith, ap length e, ap length parts, length-append text (at_sign ∷ role))
