-- Queries are spelled as rules read them.
use Rattle.std.proofs.Common.{◌≡◌, ℕ, List, [], ◌∷◌, Option, None, Some, refl, sym, subst, inl, inr}
use Rattle.std.specs.List.{AllByRecursion}
use Rattle.ql_syntax.specs.Formats.{settings_asking, last_format}
use Rattle.ql_syntax.specs.Grammar as grammar
use Rattle.ql_syntax.specs.LawfulQueries.{IsTop, IsQuery}
use Rattle.ql_syntax.specs.Queries.{query}
use Rattle.ql_syntax.specs.Rules.{Rule, ◌>>=◌, give, gather}
use Rattle.ql_syntax.specs.Spellings.{Both, the_end}
use Rattle.ql_syntax.specs.StatementRules.{top_statement}
use Rattle.ql_syntax.specs.Settings.{settings}
use Rattle.ql_syntax.specs.Statements.{Statement, Statements, Select, Recurse, Item, Union, Minus, Print, End, Then, row_of}
use Rattle.ql_syntax.specs.declared.format.Format.{Format}
use Rattle.ql_syntax.specs.declared.level.Level.TheVariants as levels
use Rattle.ql_syntax.specs.declared.token_kind.TokenKind.{TokenKind}
use Rattle.ql_syntax.specs.declared.token_kind.TokenKind.TheVariants as kinds
use Rattle.ql_syntax.proofs.GatherSpellings.{reads_gather}
use Rattle.ql_syntax.proofs.GivesRules.{IsAt}
use Rattle.ql_syntax.proofs.SettingSpellings.{settings_asked, settings_sound, reads_settings, reads_no_settings}
use Rattle.ql_syntax.proofs.SpellingLemmas.{Alike, alike, from_token, both, spelled_to, other_kind, shifts_then, Reading, reads_then, reads_give, reads_as, reads_yes, reads_no, reads_from, reads_token}
use Rattle.ql_syntax.proofs.StatementReadings.{list_of, row_again, each_spelled, first_token, not_first, reads_statement, shift_reading}
use Rattle.ql_syntax.proofs.StatementSpellings.{shifts_statement, shifts_gather, shifts_top, statements_sound}
use Rattle.ql_syntax.proofs.TokenSpellings.{IsPunctuation, end_token}

-- the statements of a query
abbrev all_statements : Rule Statements
all_statements = gather top_statement [] >>= (λ all. give (row_of all))

all_sound : (text rest : List ℕ) (all : Statements) → all_statements.reads text all rest → Both (grammar.row all) the_end text rest
unfolding ◌>>=◌ give
all_sound text rest all r = let is = r.back_reads in
    subst (λ (s : Statements). Both (grammar.row s) the_end text rest) (sym is.0)
    (spelled_to (λ begin end. Both (grammar.row (row_of r.front)) the_end begin end) is.1 (statements_sound text r.middle r.front r.front_reads))

pub query_sound : (text rest : List ℕ) (all : Statements) → query.reads text all rest → grammar.query all text rest
unfolding query ◌>>=◌
query_sound text rest all r = elim (settings_sound text r.middle r.front r.front_reads) [
  | inl some ↦ both r.middle (inl some) (all_sound r.middle rest all r.back_reads)
  | inr like ↦ both text (inr refl) (all_sound text rest all ((shifts_then _ (shifts_gather shifts_top [])).shift r.middle text all rest like r.back_reads))
]

top_kept : (s : Statement) → IsTop s → IsAt levels.Top 32 s
top_kept (Print start mode limit) is = tt
top_kept (Select pick filters set) is = is
top_kept (Recurse start how set) is = tt
top_kept (Item start set) is = tt
top_kept (Union parts set) is = is
top_kept (Minus left right set) is = is

reads_top : (s : Statement) → IsTop s → (text rest : List ℕ) → grammar.statement s text rest → Reading top_statement text (Some s) rest
unfolding top_statement
reads_top s is text rest g = let f = first_token s text rest g in
    reads_then _ (reads_token (alike text) f.at) (reads_no _ (not_first kinds.End f.begins (λ e. cc) (λ e. cc) (λ e. cc) refl)
    (reads_then _ (reads_from _ (shift_reading (shifts_statement levels.Top 32) (from_token f.at) (reads_statement levels.Top 32 s (top_kept s is) text rest g))) reads_give))

reads_end : {text rest : List ℕ} → the_end text rest → Reading top_statement text None []
unfolding top_statement
reads_end {text = text} ends = let e = end_token ends in reads_then _ (reads_token (alike text) e.at) (reads_yes _ e.is (reads_from _ reads_give))

each_top : (all : Statements) → IsQuery all → AllByRecursion IsTop (list_of all)
each_top End such = tt
each_top (Then s all) such = (such.0, each_top all such.1)

reads_all : (all : Statements) (text middle rest : List ℕ) → IsQuery all → grammar.row all text middle → the_end middle rest → Reading all_statements text all []
reads_all all text middle rest such these end =
    reads_then _ (reads_gather top_statement reads_top [] (list_of all) (each_top all such) (each_spelled all text middle these) (reads_end end)) (reads_as (sym (row_again all)))

-- what comes next is no `[`
record No_settings (text : List ℕ) : Type 0 where
  kind : TokenKind
  after : List ℕ
  is : IsPunctuation kind text after
  other : kind ≡ kinds.OpenBracket → ⊥

no_settings : (all : Statements) (text middle rest : List ℕ) → grammar.row all text middle → the_end middle rest → No_settings text
no_settings End text middle rest these end =
    let e = end_token (subst (λ (t : List ℕ). the_end t rest) these end) in
    record { kind = (e.next).kind; after = e.place; is = record { next = e.next; at = e.at; is = refl }; other = other_kind e.is (λ e. cc) }
no_settings (Then s all) text middle rest these end =
    let f = first_token s text these.middle these.front in
    record { kind = (f.next).kind; after = f.after; is = record { next = f.next; at = f.at; is = refl }; other = not_first kinds.OpenBracket f.begins (λ e. cc) (λ e. cc) (λ e. cc) refl }

-- settings, or none, are read so, and what is left is what follows them
pub record Begun (text middle : List ℕ) (asked : List (Option Format)) : Type 0 where
  pub place : List ℕ
  pub settings_read : settings.reads text (last_format asked) place
  pub alike : Alike place middle

pub begun : (asked : List (Option Format)) (all : Statements) (text middle rest : List ℕ) → settings_asking asked text middle → Both (grammar.row all) the_end middle rest → Begun text middle asked
begun [] all text middle rest none these =
    let first = no_settings all middle these.middle rest these.front these.back in
    let here = subst (λ (t : List ℕ). IsPunctuation first.kind t first.after) none first.is in
    record { place = (here.next).place; settings_read = (reads_no_settings here first.other).reads; alike = subst (λ (t : List ℕ). Alike (here.next).place t) (sym none) (from_token here.at) }
begun (first ∷ more) all text middle rest some these = record { place = middle; settings_read = (reads_settings first more some).reads; alike = alike middle }

reads_query : (text : List ℕ) (all : Statements) → IsQuery all → grammar.query all text [] → Reading query text all []
unfolding query
reads_query text all such g =
    let asked = settings_asked g.front in
    let begin = begun asked.0 all text g.middle [] asked.1 g.back in
    reads_then _ (record { reads = begin.settings_read }) (shift_reading (shifts_then _ (shifts_gather shifts_top [])) begin.alike (reads_all all g.middle (g.back).middle [] such (g.back).front (g.back).back))

pub query_reads : (text : List ℕ) (all : Statements) → IsQuery all → grammar.query all text [] → query.reads text all []
query_reads text all such g = (reads_query text all such g).reads
