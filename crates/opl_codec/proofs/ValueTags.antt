-- Tags: where their keys end, and what makes none.
use Rattle.std.proofs.Common.{◌≡◌, ◌≢◌, ℕ, ◌+◌, ◌<◌, ◌≤◌, List, ◌∷◌, ◌++◌, length, length-append, get_or, take, drop, All, refl, sym, ◌∙◌, ap, subst, arith, inl, inr}
use Rattle.std.proofs.lemmas.Bool.{cases_lt}
use Rattle.std.proofs.lemmas.List.{take-append-drop, drop_more, take_all, length-take-le}
use Rattle.osm_model.specs.Bytes.{equals_sign}
use Rattle.osm_model.specs.Limits.{IsShort, HasDistinctKeys}
use Rattle.osm_model.specs.declared.limits.TheConstants.{LIST_LIMIT}
use Rattle.std.specs.List.Sorted.{IsPermutation}
use Rattle.std.proofs.lemmas.List.Sorted.{All-permutation, length_permutation}
use Rattle.osm_model.specs.declared.tag.Tag.{Tag}
use Rattle.opl_codec.specs.Texts.{IsText, TextMisfit}
use Rattle.opl_codec.specs.Values.{SpellsTags, TagsFit}
use Rattle.opl_codec.specs.ValueFaults.{further_by, HasKey, KeyMisfit, TagFault, TextFault}
use Rattle.opl_codec.specs.declared.value_fault.ValueFault.{ValueFault}
use Rattle.opl_codec.specs.declared.value_fault.ValueFault.TheVariants as faults
use Rattle.opl_codec.specs.internal.ItemPlaces.{escape_within}
use Rattle.opl_codec.specs.internal.ListParts.{place_in}
use Rattle.opl_codec.specs.internal.TextParts.{IsTextFront, EndsText}

module _ (spelled : List ℕ) (len : ℕ) (front : IsTextFront spelled len) where
  split_here : len < length spelled → spelled ≡ take len spelled ++ get_or spelled len 0 ∷ drop (len + 1) spelled
  split_here lt = sym (take-append-drop len spelled) ∙ ap (λ r. take len spelled ++ r) (drop_more spelled len 0 lt)

  -- the text goes to the end
  pub whole_text : length spelled ≤ len → IsText spelled
  whole_text le = subst IsText (take_all len spelled le) front.text

  -- it ends at a byte that no text has
  pub misfit_here : len < length spelled → (misfit : TextMisfit spelled) × (misfit.byte ≡ get_or spelled len 0)
  misfit_here lt =
      let ends : EndsText (get_or spelled len 0 ∷ drop (len + 1) spelled) = subst EndsText (drop_more spelled len 0 lt) front.ends in (
        record { front = take len spelled; byte = get_or spelled len 0; rest = drop (len + 1) spelled; spelled_is = split_here lt; text = front.text; misfit = ends.0; no_escape = ends.1 },
        refl,
      )

  pub text_misfit : length spelled ≢ len → TextMisfit spelled
  text_misfit other = let le = front.within in let lt : len < length spelled = omega arith in (misfit_here lt).0

  pub key_misfit : ((len < length spelled) × (get_or spelled len 0 ≡ equals_sign) → ⊥) → KeyMisfit spelled
  key_misfit other = elim (cases_lt len (length spelled)) [
    | inl lt ↦ let here = misfit_here lt in inr (here.0, λ e. other (lt, sym here.1 ∙ e))
    | inr le ↦ inl (whole_text le)
  ]

  pub has_key : (len < length spelled) × (get_or spelled len 0 ≡ equals_sign) → HasKey spelled (drop (len + 1) spelled) (len + 1)
  has_key here = record {
    key = take len spelled;
    parts = split_here here.0 ∙ ap (λ b. take len spelled ++ b ∷ drop (len + 1) spelled) here.1;
    text = front.text;
    at = let le = front.within in omega (arith, length-take-le len spelled le);
  }

-- ---- a text that stands after something else
pub text_within : (spelled : List ℕ) (fault : ValueFault) → TextFault spelled fault → place_in fault ≤ length spelled
text_within spelled faults.Form h = omega arith
text_within spelled (faults.Escape at) h = escape_within spelled at h
text_within spelled faults.NodeLocation h = absurd h
text_within spelled faults.Limit h = absurd h
text_within spelled faults.Memory h = omega arith

pub value_fault : (spelled key value : List ℕ) (fault : ValueFault) → spelled ≡ key ++ equals_sign ∷ value → IsText key → TextFault value fault → TagFault spelled (further_by (length key + 1) fault)
value_fault spelled key value faults.Form parts is h = inr (value, length key + 1, record { key = key; parts = parts; text = is; at = refl }, h)
value_fault spelled key value (faults.Escape at) parts is h = inr (value, length key + 1, at, record { key = key; parts = parts; text = is; at = refl }, h, refl)
value_fault spelled key value faults.NodeLocation parts is h = absurd h
value_fault spelled key value faults.Limit parts is h = absurd h
value_fault spelled key value faults.Memory parts is h = λ e. omega (arith, ap length e, ap length parts, length-append key (equals_sign ∷ value))

-- ---- all tags of a text
pub tags_made : (text : List ℕ) (written tags : List Tag) → SpellsTags text written → length written ≤ LIST_LIMIT → All (λ tag. IsShort tag.key × IsShort tag.value) written → IsPermutation written tags → HasDistinctKeys tags
    → (w : List Tag) × SpellsTags text w × IsPermutation w tags × TagsFit tags
tags_made text written tags spelled few short same differ = (
  written,
  spelled,
  same,
  record {
    few = omega (arith, length_permutation written tags same);
    short = All-permutation (λ tag. IsShort tag.key × IsShort tag.value) written tags same short;
    differ = differ;
  },
)
