-- Rows of the grammar and of the rules, computed from their definitions alone.
use Rattle.std.proofs.Common.{◌≡◌, ℕ, zero, suc, true, false, List, [], ◌∷◌, ◌++◌, Option, None, refl, inl, inr}
use Rattle.std.specs.List.{list_all}
use Rattle.std.specs.Prelude.{codes}
use Rattle.osm_model.specs.declared.out_mode.OutMode.TheVariants as modes
use Rattle.osm_model.specs.Boxes.{ExactBox}
use Rattle.ql_syntax.specs.Filters.{Within}
use Rattle.ql_syntax.specs.Gaps.{gap, Between, After}
use Rattle.ql_syntax.specs.Grammar as grammar
use Rattle.ql_syntax.specs.LawfulQueries.{Allows, IsInner, IsQuery}
use Rattle.ql_syntax.specs.TokenRules.{Next, next_token, unexpected}
use Rattle.ql_syntax.specs.Queries.{query}
use Rattle.ql_syntax.specs.Rules.{First, Second, Here, give, refuse, from, choose, by_case, ◌>>=◌, gather, gather_round, repeat}
use Rattle.ql_syntax.specs.Settings.{settings}
use Rattle.ql_syntax.specs.Spellings as spelling
use Rattle.ql_syntax.specs.Spellings.{AfterGap, BeginsWith, the_end}
use Rattle.ql_syntax.specs.StatementRules.{top_statement, statement, plain_statement}
use Rattle.ql_syntax.specs.Statements.{Statements, Recurse, Item, Union, Minus, Print, End, Then}
use Rattle.ql_syntax.specs.Words.{IsRun, begins_with, is_run_byte}
use Rattle.ql_syntax.specs.declared.cause.QlCause.TheVariants as causes
use Rattle.ql_syntax.specs.declared.pick.Pick.TheVariants as picks
use Rattle.ql_syntax.specs.declared.recursion.Recursion.TheVariants as recursions
use Rattle.ql_syntax.specs.declared.token_kind.TokenKind.TheVariants as kinds
use Rattle.ql_syntax.proofs.SpellingLemmas.{both}

-- this text, without blanks before it
here : (said rest : List ℕ) → gap Between (said ++ rest) ≡ After (said ++ rest) → AfterGap (BeginsWith said) (said ++ rest) rest
here said rest passed = record { place = said ++ rest; passed = passed; spelled = record { parts = refl } }

-- this word, after a space
word_here : (said rest : List ℕ) → gap Between (32 ∷ (said ++ rest)) ≡ After (said ++ rest) → list_all is_run_byte said ≡ true → begins_with is_run_byte rest ≡ false → AfterGap (λ place end. IsRun place said end) (32 ∷ (said ++ rest)) rest
word_here said rest passed bytes longest = record { place = said ++ rest; passed = passed; spelled = record { parts = refl; bytes = bytes; longest = longest } }

-- the default set, and the `;`
end : (rest : List ℕ) → gap Between (codes ";" ++ rest) ≡ After (codes ";" ++ rest) → spelling.into (codes "_") (codes ";" ++ rest) rest
end rest passed = inr (both (codes ";" ++ rest) (refl, refl) (here (codes ";") rest passed))

-- a query that ends here
stop : the_end [] []
stop = record { place = []; passed = refl; spelled = (refl, refl) }

-- the empty text reads
pub nothing_row : grammar.query End [] []
nothing_row = both [] (inr refl) (both [] refl stop)

-- `->` after the first statement of a parenthesis is the `-` of a difference, and `>`
difference_row : grammar.query (Then (Minus (Item (codes "a") (codes "_")) (Recurse (codes "_") recursions.Down (codes "_")) (codes "_")) End) (codes "(.a;->;);") []
difference_row =
    both (codes "(.a;->;);") (inr refl)
    (both [] (both []
    (both (codes ";")
    (both (codes ".a;->;);") (here (codes "(") (codes ".a;->;);") refl)
    (both (codes ");")
    (both (codes "->;);")
    (both (codes ";->;);") (both (codes "a;->;);") (here (codes ".") (codes "a;->;);") refl) (record { run = record { parts = refl; bytes = refl; longest = refl }; start = refl })) (end (codes "->;);") refl))
    (both (codes ">;);") (here (codes "-") (codes ">;);") refl)
    (both (codes ">;);") (inr (refl, refl)) (both (codes ";);") (here (codes ">") (codes ";);") refl) (end (codes ");") refl)))))
    (here (codes ")") (codes ";") refl)))
    (end [] refl)) refl) stop)

difference_is_lawful : IsQuery (Then (Minus (Item (codes "a") (codes "_")) (Recurse (codes "_") recursions.Down (codes "_")) (codes "_")) End)
difference_is_lawful = ((31, refl, tt, tt), tt)

-- what stands after `out` stands in any order
out_row : grammar.query (Then (Print (codes "_") modes.Ids None) End) (codes " out qt ids;") []
out_row =
    both (codes " out qt ids;") (inr refl)
    (both [] (both []
    (both (codes " out qt ids;") (inr (refl, refl))
    (both (codes " qt ids;") (word_here (codes "out") (codes " qt ids;") refl refl refl)
    (both (codes ";")
    (inr (inr (inl (both (codes " ids;") (inr (inl (word_here (codes "qt") (codes " ids;") refl refl refl))) (both (codes ";") (inl (word_here (codes "ids") (codes ";") refl refl refl)) refl)))))
    (here (codes ";") [] refl)))) refl) stop)

-- no union stands where none may be opened, no box on ways, and no out statement in a union
deep_row : (parts : Statements) (set : List ℕ) → IsInner zero (Union parts set) → ⊥
deep_row parts set is = let bad : zero ≡ suc is.0 = is.1 in cc

box_row : (area : ExactBox) → Allows picks.Way (Within area) → ⊥
box_row area is = cc

out_inside_row : (depth : ℕ) (set : List ℕ) (limit : Option ℕ) → IsInner depth (Print set modes.Body limit) → ⊥
out_inside_row depth set limit is = is

-- `;` is at fault at its first byte
semicolon_row : query.stops (codes ";") causes.UnexpectedCharacter (codes ";")
unfolding query settings gather repeat gather_round top_statement statement plain_statement ◌>>=◌ choose from give by_case unexpected refuse next_token
semicolon_row =
    let found : Next = record { kind = kinds.Semicolon; place = codes ";" } in
    Second None (codes ";") (record { front = found; middle = []; front_reads = record { after_gap = refl; kind_is = refl; rest_is = refl }; back_reads = inr (λ e. cc, (refl, refl)) })
    (First (Here [] (codes ";") (First (Second found [] (record { after_gap = refl; kind_is = refl; rest_is = refl })
    (inr (λ e. cc, First (Second found [] (record { after_gap = refl; kind_is = refl; rest_is = refl }) (inr (λ e. cc, inr (λ e. cc, inr (λ e. cc, (refl, refl))))))))))))
