use Rattle.std.proofs.Common.{refl}
use Rattle.clap.proofs.OnLiterals.{clap_on_literals}
use Rattle.command_line.proofs.laws.each_command_takes_words.Goals as goal

pub returns-clause-ask : goal.returns-clause-ask
unfolding clap_on_literals
returns-clause-ask c = λ program query. (refl, (refl, refl))

pub returns-clause-publish : goal.returns-clause-publish
unfolding clap_on_literals
returns-clause-publish c = λ program file. (refl, (refl, refl))

pub returns-clause-prove : goal.returns-clause-prove
unfolding clap_on_literals
returns-clause-prove c = λ program file query answer proof. (refl, (refl, (refl, refl, refl, refl)))

pub returns-clause-check : goal.returns-clause-check
unfolding clap_on_literals
returns-clause-check c = λ program root query answer proof. (refl, (refl, (refl, refl, refl, refl)))

pub returns-clause-serve : goal.returns-clause-serve
unfolding clap_on_literals
returns-clause-serve c = λ program file. (refl, (refl, (refl, refl, refl, refl, refl, refl, refl)))

pub returns-clause-check_within : goal.returns-clause-check_within
unfolding clap_on_literals
returns-clause-check_within c = λ program root query answer proof. (refl, (refl, (refl, refl, refl, refl, refl)))

pub returns-clause-explain : goal.returns-clause-explain
unfolding clap_on_literals
returns-clause-explain c = λ program code. (refl, (refl, refl))

pub returns-clause-fetch : goal.returns-clause-fetch
unfolding clap_on_literals
returns-clause-fetch c = λ program root mirror query. (refl, (refl, (refl, refl, refl, refl)))

pub returns-clause-relay : goal.returns-clause-relay
unfolding clap_on_literals
returns-clause-relay c = λ program root mirror. (refl, (refl, (refl, refl, refl, refl)))

pub returns-clause-changes : goal.returns-clause-changes
unfolding clap_on_literals
returns-clause-changes c = λ program file change_file. (refl, (refl, (refl, refl, refl)))

pub returns-clause-serve_plain : goal.returns-clause-serve_plain
unfolding clap_on_literals
returns-clause-serve_plain c = λ program file. (refl, (refl, (refl, refl, refl)))

pub returns-clause-ask_in : goal.returns-clause-ask_in
unfolding clap_on_literals
returns-clause-ask_in c = λ program query. (refl, (refl, (refl, refl)))

pub returns-clause-fetch_within : goal.returns-clause-fetch_within
unfolding clap_on_literals
returns-clause-fetch_within c = λ program root mirror query. (refl, (refl, (refl, refl, refl, refl, refl)))

pub returns-clause-relay_with : goal.returns-clause-relay_with
unfolding clap_on_literals
returns-clause-relay_with c = λ program root mirror. (refl, (refl, (refl, refl, refl, refl, refl, refl)))

pub returns-clause-pack : goal.returns-clause-pack
unfolding clap_on_literals
returns-clause-pack c = λ program file pack. (refl, (refl, (refl, refl)))

pub returns-clause-query : goal.returns-clause-query
unfolding clap_on_literals
returns-clause-query c = λ program root place query. (refl, (refl, (refl, refl, refl, refl)))

pub returns-clause-query_within : goal.returns-clause-query_within
unfolding clap_on_literals
returns-clause-query_within c = λ program root place query. (refl, (refl, (refl, refl, refl, refl, refl)))
