use Rattle.std.proofs.Common.{rules, ◌≡◌, ◌∙◌, inl, inr, ap, ap₂, sym, map}
use Rattle.std.specs.String.{string_bytes}
use Rattle.std.proofs.lemmas.Result.{IfErr-weaker}
use Rattle.clap.specs.Words.{fault_of, found_of, is_simple_and_free, rows_of, takes}
use Rattle.clap.proofs.OnLiterals.{clap_on_literals}
use Rattle.command_line.proofs.Commands.{entered_match, named, on_ok, of_match, bad_edition_match, bad_form_match, bad_root_match}
use Rattle.command_line.proofs.words.read_words.Goals as goal

pub job_of-requires : goal.job_of-requires
job_of-requires c =
    let words_are : map (λ s. string_bytes s) c.as_slice.result.now ≡ map (λ s. string_bytes s) c.args.words.items = search rules in
    let same = entered_match _ _ _ c.in-Ok.matches c.in-Some.name.now (rows_of (found_of c.in-Some.inner.now))
    c.in_ok-program.ensures.0 words_are c.in-Ok.ensures.matches c.in-Some.ensures.name c.in-Some.ensures.rows in
    named (map (λ s. string_bytes s) c.args.words.items) _ same

pub returns-in-Some-clause-read : goal.returns-in-Some-clause-read
returns-in-Some-clause-read c =
    let words_are : map (λ s. string_bytes s) c.as_slice.result.now ≡ map (λ s. string_bytes s) c.args.words.items = search rules in
    let same = entered_match _ _ _ c.in-Ok.matches c.in-Some.name.now (rows_of (found_of c.in-Some.inner.now))
    c.in_ok-program.ensures.0 words_are c.in-Ok.ensures.matches c.in-Some.ensures.name c.in-Some.ensures.rows in
    of_match _ c.job_of.result (sym same) c.job_of.ensures.given

pub returns-in-Some-clause-accepted : goal.returns-in-Some-clause-accepted
unfolding clap_on_literals
returns-in-Some-clause-accepted c =
    let words_are : map (λ s. string_bytes s) c.as_slice.result.now ≡ map (λ s. string_bytes s) c.args.words.items = search rules in
    on_ok c.job_of.result (sym (ap₂ fault_of c.in_ok-program.ensures.0 words_are) ∙ c.in-Ok.ensures.kinds (ap is_simple_and_free c.in_ok-program.ensures.0))

pub returns-in-Some-clause-refused : goal.returns-in-Some-clause-refused
returns-in-Some-clause-refused c = λ taken. IfErr-weaker c.job_of.result _ _ (λ e why. elim why [
  | inl memory ↦ inl memory
  | inr (inl root) ↦ inr (inl root.0)
  | inr (inr (inl form)) ↦ inr (inr (inl form.0))
  | inr (inr (inr edition)) ↦ inr (inr (inr edition.0))
]) c.job_of.ensures.refused

pub returns-in-Some-clause-bad_root : goal.returns-in-Some-clause-bad_root
returns-in-Some-clause-bad_root c =
    let words_are : map (λ s. string_bytes s) c.as_slice.result.now ≡ map (λ s. string_bytes s) c.args.words.items = search rules in
    let same = entered_match _ _ _ c.in-Ok.matches c.in-Some.name.now (rows_of (found_of c.in-Some.inner.now))
    c.in_ok-program.ensures.0 words_are c.in-Ok.ensures.matches c.in-Some.ensures.name c.in-Some.ensures.rows in
    λ is. bad_root_match _ c.job_of.result c.in-Some.name.now (rows_of (found_of c.in-Some.inner.now)) (sym same) is c.job_of.ensures.refused

pub returns-in-Some-clause-bad_form : goal.returns-in-Some-clause-bad_form
returns-in-Some-clause-bad_form c =
    let words_are : map (λ s. string_bytes s) c.as_slice.result.now ≡ map (λ s. string_bytes s) c.args.words.items = search rules in
    let same = entered_match _ _ _ c.in-Ok.matches c.in-Some.name.now (rows_of (found_of c.in-Some.inner.now))
    c.in_ok-program.ensures.0 words_are c.in-Ok.ensures.matches c.in-Some.ensures.name c.in-Some.ensures.rows in
    λ is. bad_form_match _ c.job_of.result c.in-Some.name.now (rows_of (found_of c.in-Some.inner.now)) (sym same) is c.job_of.ensures.refused

pub returns-in-Some-clause-bad_edition : goal.returns-in-Some-clause-bad_edition
returns-in-Some-clause-bad_edition c =
    let words_are : map (λ s. string_bytes s) c.as_slice.result.now ≡ map (λ s. string_bytes s) c.args.words.items = search rules in
    let same = entered_match _ _ _ c.in-Ok.matches c.in-Some.name.now (rows_of (found_of c.in-Some.inner.now))
    c.in_ok-program.ensures.0 words_are c.in-Ok.ensures.matches c.in-Some.ensures.name c.in-Some.ensures.rows in
    λ is. bad_edition_match _ c.job_of.result c.in-Some.name.now (rows_of (found_of c.in-Some.inner.now)) (sym same) is c.job_of.ensures.refused

pub returns-clause-refused : goal.returns-clause-refused
unfolding clap_on_literals
returns-clause-refused c = λ taken.
    let words_are : map (λ s. string_bytes s) c.as_slice.result.now ≡ map (λ s. string_bytes s) c.args.words.items = search rules in
    inl (c.fault_from.ensures.memory (c.in-Err.ensures.passes (ap₂ takes c.in_ok-program.ensures.0 words_are ∙ taken)))
