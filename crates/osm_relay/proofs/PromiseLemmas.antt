-- What is known of the wires at each stage keeps the promise.
use Rattle.std.proofs.Common.{◌≡◌, [], ap, sym, refl, subst, inl, inr}
use Rattle.std.specs.Prelude.{Option, Some, None}
use Rattle.http_messages.specs.HeadEnds.{skip_breaks}
use Rattle.osm_relay.specs.Logs.{Log, fresh}
use Rattle.osm_relay.specs.Relayed.{IsAskedFor, IsTakenAt}
use Rattle.osm_relay.specs.declared.stage.Stage.{Stage}
use Rattle.osm_relay.specs.declared.stage.Stage.TheVariants.{Answering, Asking, Choosing, Hearing, Listening, Over}
use Rattle.osm_relay.specs.declared.terms.Terms.{Terms}
use Rattle.osm_relay.specs.internal.Stages.{StandsAt, ending_of}
use Rattle.osm_relay.proofs.StageLemmas.{asked_for, asked_none}

pub promised : (terms : Terms) (stage : Stage) (c : Log) (m : Option Log) → StandsAt terms stage c m → IsTakenAt (ending_of stage) terms c m × IsAskedFor c.brought m
promised terms (Hearing heard) c m is = (inl is.0, asked_none c.brought m is.1)
promised terms (Choosing search) c m is = (inl is.0.silent, is.2)
promised terms (Asking search request) c m is =
    let (log, same, asking) = is.1 in
    let here : StandsAt terms (Asking search request) c (Some log) = (is.0, (log, refl, asking)) in
    (inl is.0.silent, subst (IsAskedFor c.brought) (sym same) (asked_for terms search request c log here))
promised terms (Listening search reply) c m is = (inl is.0.silent, is.2)
promised terms (Answering left) c m is = let (response, split, of_it) = is.0 in (inr (response, left, split, of_it), is.1)
promised terms (Over whole) c m is = is

-- a conversation that begins
pub stands_new : (terms : Terms) (c : Log) → c ≡ fresh → StandsAt terms (Hearing []) c None
stands_new terms c new = (ap (λ (l : Log). l.took) new, refl, subst (λ (l : Log). [] ≡ skip_breaks l.brought) (sym new) refl)
