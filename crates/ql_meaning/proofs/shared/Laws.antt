-- What a query determines.
use Rattle.std.specs.Prelude.{◌≡◌, ℕ, List}
use Rattle.osm_model.specs.Elements.{Element}
use Rattle.osm_model.specs.Sets.{IsObjectSet}
use Rattle.ql_syntax.specs.Statements.{Statements}
use Rattle.ql_meaning.specs.Meanings.{Means, Means_by, Telling}
use Rattle.ql_meaning.proofs.HavingMeaning as having
use Rattle.ql_meaning.proofs.shared.MeaningLaws as laws

-- it means one text over a set of objects, however they are told
pub one_meaning_by : (tell : Telling) (objects : List Element) (statements : Statements) (first second : List ℕ) → IsObjectSet objects → Means_by tell objects statements first → Means_by tell objects statements second → first ≡ second
one_meaning_by tell objects statements first second set means other = laws.one_meaning_by tell objects statements first second set means other

-- and it means some text
pub has_meaning_by : (tell : Telling) (objects : List Element) (statements : Statements) → (text : List ℕ) × Means_by tell objects statements text
has_meaning_by tell objects statements = having.has_meaning_by tell objects statements

-- it means one text in OPL over a set of objects
pub one_meaning : (objects : List Element) (statements : Statements) (first second : List ℕ) → IsObjectSet objects → Means objects statements first → Means objects statements second → first ≡ second
one_meaning objects statements first second set means other = laws.one_meaning objects statements first second set means other
