-- Texts between quotes and runs have no NUL.
use Rattle.std.proofs.Common.{◌≡◌, ◌≢◌, ℕ, true, List, [], ◌∷◌, flat_map, Some, sym, subst, arith}
use Rattle.std.specs.List.{AllByRecursion, list_all}
use Rattle.std.proofs.lemmas.Bool.Decides.{nat_tests}
use Rattle.osm_model.specs.Limits.{HasNoNul}
use Rattle.osm_model.proofs.shared.EncodedCharacters.{IsSome, encoded_some}
use Rattle.osm_model.proofs.shared.Each.{all_append, all_places}
use Rattle.ql_syntax.proofs.TokenLaws.{further, passes}
use Rattle.ql_syntax.specs.QuotedTexts.{Piece, Literal, Escape, Code, IsPiece, IsQuoted, escaped, value}
use Rattle.ql_syntax.specs.Words.{IsRun, is_run_byte}

escaped_some : (letter b : ℕ) → escaped letter ≡ Some b → b ≢ 0
escaped_some letter b e = grind (arith, nat_tests)

piece_some : (quote : ℕ) (piece : Piece) → IsPiece quote piece → AllByRecursion IsSome (value piece)
piece_some quote (Literal b) is = (is.2, tt)
piece_some quote (Escape letter b) is = (escaped_some letter b is, tt)
piece_some quote (Code digits c) is = encoded_some c (λ e. omega (arith, is.some, e))

pieces_some : (quote : ℕ) (pieces : List Piece) → AllByRecursion (IsPiece quote) pieces → AllByRecursion IsSome (flat_map value pieces)
pieces_some quote [] are = tt
pieces_some quote (piece ∷ pieces) are = all_append IsSome (value piece) (flat_map value pieces) (piece_some quote piece are.0) (pieces_some quote pieces are.1)

pub quoted_has_no_nul : (text bytes rest : List ℕ) → IsQuoted text bytes rest → HasNoNul bytes
unfolding HasNoNul
quoted_has_no_nul text bytes rest quoted k d lt = all_places IsSome bytes k d (subst (AllByRecursion IsSome) (sym quoted.passes.bytes_are) (pieces_some quoted.quote quoted.passes.pieces quoted.passes.each)) lt

byte_some : (b : ℕ) → is_run_byte b ≡ true → b ≢ 0
byte_some b is none = absurd (let e : is_run_byte 0 ≡ true = subst (λ (c : ℕ). is_run_byte c ≡ true) none is in cc)

run_some : (run : List ℕ) → list_all is_run_byte run ≡ true → AllByRecursion IsSome run
run_some [] all = tt
run_some (b ∷ run) all = (byte_some b (passes (is_run_byte b) (list_all is_run_byte run) all), run_some run (further (is_run_byte b) (list_all is_run_byte run) all))

pub run_has_no_nul : (text run rest : List ℕ) → IsRun text run rest → HasNoNul run
unfolding HasNoNul
run_has_no_nul text run rest is k d lt = all_places IsSome run k d (run_some run is.bytes) lt
