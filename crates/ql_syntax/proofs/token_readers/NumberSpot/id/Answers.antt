use Rattle.ql_syntax.specs.internal.Following.{Keeps, Read, Stopped}
use Rattle.std.proofs.Common.{refl}
use Rattle.std.proofs.Common.{◌≡◌, ℕ, ℤ, List, Option, Some, None, IfSome}
use Rattle.std.specs.Prelude.{IfNone}
use Rattle.std.specs.Option.{ok_or}
use Rattle.osm_model.specs.Degrees.{Decimal}
use Rattle.ql_syntax.specs.internal.NumberParts.{decimal_of}
use Rattle.ql_syntax.specs.WholeNumbers.{IsId, id_of}
use Rattle.ql_syntax.specs.declared.cause.QlCause.TheVariants.{NumberOutOfRange}
use Rattle.ql_syntax.specs.declared.syntax_error.SyntaxError.{SyntaxError}
use Rattle.ql_syntax.proofs.token_readers.NumberSpot.id.Goals as goal

value_or : (number : Decimal) (place text : List ℕ) (value : Option ℤ) (stop : SyntaxError) → stop.cause ≡ NumberOutOfRange → stop.rest.now ≡ place
    → IfSome value (λ v. IsId number v) → IfNone value ((v : ℤ) → IsId number v → ⊥) → Keeps (id_of number place) (λ v. (v, text)) text (ok_or value stop)
unfolding id_of
value_or number place text (Some v) stop cause at some none = Read v refl (some, refl)
value_or number place text None stop cause at some none = Stopped stop refl (none, cause, at)

pub returns : goal.returns
returns c =
    λ text. rw c.ok_or.ensures.value (value_or (decimal_of c.args.self.number) c.args.self.place.now text c.id_of.result c.at.result c.at.ensures.cause c.at.ensures.rest c.id_of.ensures.some c.id_of.ensures.none)
