-- What statements print, one after the other.
use Rattle.std.proofs.Common.{◌≡◌, ℕ, ◌+◌, ◌<◌, List, [], ◌∷◌, ◌++◌, get_or, length, take, refl, sym, ap, subst, ◌∙◌, append_assoc}
use Rattle.std.proofs.lemmas.List.{append-nil}
use Rattle.osm_model.specs.Elements.{Element}
use Rattle.opl_codec.specs.Text.{text_of}
use Rattle.ql_syntax.specs.StatementViews.{statement_of, statements_of}
use Rattle.ql_syntax.specs.Statements.{Statements, End, Then}
use Rattle.ql_syntax.specs.declared.statement.Stmt.{Stmt}
use Rattle.ref_sets.proofs.shared.Adding.{one_more}
use Rattle.ql_meaning.specs.Meanings.{After, Prints, Prints_by, Telling, told, told_by}
use Rattle.ref_sets.specs.NamedSets.{Env}

-- the text is what these statements print, and these are the named sets after them
abbrev pub PrintsTo_by : Telling → List Element → Statements → Env → Env → List ℕ → Type 0
PrintsTo_by tell objects End env later text = (later ≡ env) × (text ≡ [])
PrintsTo_by tell objects (Then statement statements) env later text =
    (mid : Env) × (more : List ℕ) × After objects statement env mid × PrintsTo_by tell objects statements mid later more × (text ≡ told_by tell objects statement env ++ more)

-- the same in OPL
abbrev pub PrintsTo : List Element → Statements → Env → Env → List ℕ → Type 0
PrintsTo objects statements env later text = PrintsTo_by text_of objects statements env later text

prints_more_by : (tell : Telling) (objects : List Element) (xs : List Stmt) (x : Stmt) (env mid later : Env) (text : List ℕ)
    → PrintsTo_by tell objects (statements_of xs) env mid text → After objects (statement_of x) mid later → PrintsTo_by tell objects (statements_of (xs ++ x ∷ [])) env later (text ++ told_by tell objects (statement_of x) mid)
prints_more_by tell objects [] x env mid later text so one = (
  later,
  [],
  subst (λ (m : Env). After objects (statement_of x) m later) so.0 one,
  (refl, refl),
  ap (λ (bytes : List ℕ). bytes ++ told_by tell objects (statement_of x) mid) so.1 ∙ ap (λ (m : Env). told_by tell objects (statement_of x) m) so.0 ∙ sym (append-nil (told_by tell objects (statement_of x) env)),
)
prints_more_by tell objects (y ∷ ys) x env mid later text so one = (
  so.0,
  so.1 ++ told_by tell objects (statement_of x) mid,
  so.2,
  prints_more_by tell objects ys x so.0 mid later so.1 so.3 one,
  ap (λ (bytes : List ℕ). bytes ++ told_by tell objects (statement_of x) mid) so.4 ∙ append_assoc (told_by tell objects (statement_of y) env) so.1 (told_by tell objects (statement_of x) mid),
)

-- one statement more of a list
pub prints_next_by : (tell : Telling) (objects : List Element) (statements : List Stmt) (k : ℕ) (x : Stmt) → k < length statements → x ≡ get_or statements k x → (env mid later : Env) (text all : List ℕ)
    → PrintsTo_by tell objects (statements_of (take k statements)) env mid text → After objects (statement_of x) mid later → all ≡ text ++ told_by tell objects (statement_of x) mid
    → PrintsTo_by tell objects (statements_of (take (k + 1) statements)) env later all
prints_next_by tell objects statements k x lt is env mid later text all so one same =
    subst (λ (bytes : List ℕ). PrintsTo_by tell objects (statements_of (take (k + 1) statements)) env later bytes) (sym same)
    (subst (λ (ss : List Stmt). PrintsTo_by tell objects (statements_of ss) env later (text ++ told_by tell objects (statement_of x) mid)) (sym (one_more statements k x lt is))
    (prints_more_by tell objects (take k statements) x env mid later text so one))

pub prints_by : (tell : Telling) (objects : List Element) (statements : Statements) (env later : Env) (text : List ℕ) → PrintsTo_by tell objects statements env later text → Prints_by tell objects statements env text
prints_by tell objects End env later text so = so.1
prints_by tell objects (Then statement statements) env later text so = (so.0, so.1, so.2, prints_by tell objects statements so.0 later so.1 so.3, so.4)

-- the same in OPL
pub prints_next : (objects : List Element) (statements : List Stmt) (k : ℕ) (x : Stmt) → k < length statements → x ≡ get_or statements k x → (env mid later : Env) (text all : List ℕ)
    → PrintsTo objects (statements_of (take k statements)) env mid text → After objects (statement_of x) mid later → all ≡ text ++ told objects (statement_of x) mid
    → PrintsTo objects (statements_of (take (k + 1) statements)) env later all
prints_next = prints_next_by text_of

pub prints : (objects : List Element) (statements : Statements) (env later : Env) (text : List ℕ) → PrintsTo objects statements env later text → Prints objects statements env text
prints = prints_by text_of
