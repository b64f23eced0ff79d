-- The end of a query.
use Rattle.std.proofs.Common.{◌≡◌, ℕ, List, [], drop, arith, Option, None, Some, Ok, Err, refl, sym, ◌∙◌, ap, subst, inl, inr}
use Rattle.std.specs.Prelude.{◌⊎◌, ◌-◌, length}
use Rattle.ql_syntax.specs.internal.Following.{Follows, Read, Stopped, NoMemory}
use Rattle.ql_syntax.specs.Grammar as grammar
use Rattle.ql_syntax.specs.Queries.{query, IsText, Reads, HasFault, NoQuery, memory_fault}
use Rattle.ql_syntax.specs.Rules.{◌>>=◌, give, from, choose, repeat, gather, gather_round, gathered, Done, RoundsRead, Last, Next}
use Rattle.ql_syntax.specs.StatementRules.{top_statement}
use Rattle.ql_syntax.specs.Statements.{Statement, Statements}
use Rattle.ql_syntax.specs.declared.cause.QlCause.{QlCause}
use Rattle.ql_syntax.specs.declared.cause.QlCause.TheVariants as causes
use Rattle.ql_syntax.specs.declared.fault.QlFault.{QlFault}
use Rattle.ql_syntax.specs.declared.syntax_error.SyntaxError.{SyntaxError}
use Rattle.ql_syntax.proofs.GivesRules.{query_gives}
use Rattle.ql_syntax.proofs.PlaceLemmas.{ends_at}
use Rattle.ql_syntax.proofs.PlaceRules.{query_stops_inside}
use Rattle.ql_syntax.proofs.QuerySpellings.{query_sound}
use Rattle.ql_syntax.proofs.RuleLemmas.{read_of}

-- where no statement comes next, nothing is left
none_left : (text rest : List ℕ) (front : Option Statement) → front ≡ None → top_statement.reads text front rest → rest ≡ []
unfolding top_statement ◌>>=◌ choose from give
none_left text rest front none reads = elim reads.back_reads [
  | inl end ↦ end.1.1
  | inr other ↦ (let some : None ≡ Some (other.1).front = sym none ∙ ((other.1).back_reads).0 in absurd (cc))
]

last_left : (state : List Statement) (text rest : List ℕ) (value : List Statement) → (gather_round top_statement state).reads text (Done value) rest → rest ≡ []
unfolding gather_round ◌>>=◌ give
last_left state text rest value reads = reads.back_reads.1 ∙ none_left text reads.middle reads.front (is_none reads.front reads.back_reads.0) reads.front_reads
  where
    is_none : (front : Option Statement) → Done value ≡ gathered state front → front ≡ None
    is_none None e = refl
    is_none (Some s) e = absurd (cc)

rounds_end : (value : List Statement) (rest : List ℕ) (state : List Statement) (text : List ℕ) → RoundsRead (gather_round top_statement) value rest state text → rest ≡ []
rounds_end value rest _ _ (Last state text reads) = last_left state text rest value reads
rounds_end value rest _ _ (Next state next text middle reads more) = rounds_end value rest next middle more

-- after a query nothing is left
pub query_ends : (text rest : List ℕ) (value : Statements) → query.reads text value rest → rest ≡ []
unfolding query ◌>>=◌ gather repeat give
query_ends text rest value reads = let all = reads.back_reads in all.back_reads.1 ∙ rounds_end _ _ _ _ all.front_reads

-- what rules read to the end is spelled so
pub reads_whole : (text : List ℕ) (all : Statements) (rest : List ℕ) → IsText text → query.reads text all rest → Reads text all
reads_whole text all rest is reads = record { text = is; spelled = subst (λ (s : List ℕ). grammar.query all text s) (query_ends text rest all reads) (query_sound text rest all reads); lawful = query_gives.gives text all rest reads }

pub read_whole : {X : Type 0} {v : X → Statements × List ℕ} {text : List ℕ} {x : X} → IsText text → Follows query v text (Ok x) → Reads text (v x).0
read_whole {v = v} {text = text} {x = x} is follows = reads_whole text (v x).0 (v x).1 is (read_of follows)

-- a place at which a query can't go on, as the byte of a fault
pub fault_of : {text : List ℕ} (place : List ℕ) {fault : QlFault} → IsText text → query.stops text fault.cause place → fault.byte ≡ length text - length place → HasFault text fault
fault_of {text = text} place {fault = fault} is stops byte =
    let at : drop fault.byte text ≡ place = ap (λ (n : ℕ). drop n text) byte ∙ ends_at (query_stops_inside text fault.cause place stops) in
    NoQuery is (omega arith) (subst (λ (s : List ℕ). query.stops text fault.cause s) (sym at) stops)

pub same_fault : {f g : QlFault} → f.cause ≡ g.cause → f.byte ≡ g.byte → f ≡ g
same_fault {f = f} {g = g} cause byte = ap (λ (c : QlCause). let x : QlFault = record { cause = c; byte = f.byte } in x) cause ∙ ap (λ (b : ℕ). let x : QlFault = record { cause = g.cause; byte = b } in x) byte

out_of_memory : {cause : QlCause} {fault : QlFault} → fault.cause ≡ cause → (cause ≡ causes.Memory → fault.byte ≡ 0) → cause ≡ causes.Memory → fault ≡ memory_fault
out_of_memory cause_is at_start memory = same_fault (cause_is ∙ memory) (at_start memory)

-- the fault of a text that a reader refuses
module _ {text : List ℕ} {stop : SyntaxError} {fault : QlFault} (cause : fault.cause ≡ stop.cause) (at_start : stop.cause ≡ causes.Memory → fault.byte ≡ 0)
    (byte : (stop.cause ≡ causes.Memory) ⊎ (fault.byte ≡ length text - length stop.rest.now)) where
  pub refused_at : {X : Type 0} {v : X → Statements × List ℕ} → IsText text → Follows query v text (Err stop) → (fault ≡ memory_fault) ⊎ HasFault text fault
  refused_at is (Read x same reads) = absurd (cc)
  refused_at is (Stopped at same stops) =
      let e : stop ≡ at = cc in
      elim byte [
        | inl memory ↦ inl (out_of_memory cause at_start memory)
        | inr place ↦ inr (fault_of stop.rest.now is (rw cause (subst (λ (s : SyntaxError). query.stops text s.cause s.rest.now) (sym e) stops)) place)
      ]
  refused_at is (NoMemory scarce at same memory) = let e : stop ≡ at = cc in inl (out_of_memory cause at_start (ap (λ (s : SyntaxError). s.cause) e ∙ memory))
