-- A spelled text has no NUL.
use Rattle.std.proofs.Common.{◌≡◌, ◌≢◌, ℕ, true, List, [], ◌∷◌, flat_map, sym, subst, arith}
use Rattle.std.specs.List.{AllByRecursion}
use Rattle.std.specs.Str.Parse.{digits_value}
use Rattle.std.proofs.lemmas.Bool.Decides.{nat_tests}
use Rattle.osm_model.specs.Limits.{HasNoNul}
use Rattle.opl_codec.specs.Texts.{is_free, Character, Itself, Escape, IsCharacter, meaning, SpellsText}
use Rattle.osm_model.proofs.shared.EncodedCharacters.{IsSome, encoded_some}
use Rattle.osm_model.proofs.shared.Each.{all_append, all_places}

free_some : (byte : ℕ) → is_free byte ≡ true → byte ≢ 0
free_some byte free e = grind (arith, nat_tests)

one_some : (c : Character) → IsCharacter c → AllByRecursion IsSome (meaning c)
one_some (Itself byte) is = (free_some byte is, tt)
one_some (Escape digits) is = encoded_some (digits_value 16 digits) is.not_nul

all_some : (cs : List Character) → AllByRecursion IsCharacter cs → AllByRecursion IsSome (flat_map meaning cs)
all_some [] are = tt
all_some (c ∷ cs) are = all_append IsSome (meaning c) (flat_map meaning cs) (one_some c are.0) (all_some cs are.1)

pub no_nul : (spelled text : List ℕ) → SpellsText spelled text → HasNoNul text
unfolding HasNoNul
no_nul spelled text h k d lt = all_places IsSome text k d (subst (AllByRecursion IsSome) (sym h.text_is) (all_some h.characters h.are)) lt
