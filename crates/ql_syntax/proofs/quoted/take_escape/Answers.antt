use Rattle.std.proofs.Common.{inr, ◌∙◌, ap, subst, List, ℕ, ◌++◌, drop}
use Rattle.std.specs.Prelude.{encode_utf8}
use Rattle.ql_syntax.specs.QuotedTexts.{AtEscape, InEscape, IsBadEscape, IsCutEscape}
use Rattle.ql_syntax.specs.internal.EscapeParts.{IsEscape}
use Rattle.ql_syntax.proofs.GapLemmas.{tail_is}
use Rattle.ql_syntax.proofs.QuotedLemmas.{first_is, takes_escape}
use Rattle.ql_syntax.proofs.quoted.take_escape.Goals as goal

pub returns-in_ok-extend_from_slice-in-Character-clause-read : goal.returns-in_ok-extend_from_slice-in-Character-clause-read
returns-in_ok-extend_from_slice-in-Character-clause-read c =
    let s = c.args.place.now in
    let opens = first_is s 92 c.requires.some c.requires.escape in
    let tail = tail_is s 1 in
    λ quote. takes_escape quote s (drop 1 s) c.in-Character.rest.now (encode_utf8 c.in-Character.character) c.args.content.now.items c.extend_from_slice.new.self.items opens
    (subst (λ (x : List ℕ). IsEscape x (encode_utf8 c.in-Character.character) c.in-Character.rest.now) tail c.in-Character.ensures)
    (c.in_ok-extend_from_slice-in-Character.ensures.items ∙ ap (λ (x : List ℕ). c.args.content.now.items ++ x) (c.as_bytes.ensures.value ∙ c.encode_utf8.ensures.value))

pub returns-in-Bad-clause-refused : goal.returns-in-Bad-clause-refused
returns-in-Bad-clause-refused c =
    let s = c.args.place.now in
    inr (AtEscape (drop 1 s) (first_is s 92 c.requires.some c.requires.escape) (subst (λ (x : List ℕ). IsBadEscape x) (tail_is s 1) c.in-Bad.ensures) c.at.ensures.cause c.at.ensures.rest)

pub returns-in-Cut-clause-refused : goal.returns-in-Cut-clause-refused
returns-in-Cut-clause-refused c =
    let s = c.args.place.now in
    inr (InEscape (drop 1 s) (first_is s 92 c.requires.some c.requires.escape) (subst (λ (x : List ℕ). IsCutEscape x) (tail_is s 1) c.in-Cut.ensures) c.at-in-Cut.ensures.cause c.at-in-Cut.ensures.rest)
