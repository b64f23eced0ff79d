-- What the code finds of a client's bytes.
use Rattle.std.specs.Prelude.{◌≡◌, ℕ, List, None}
use Rattle.http_messages.specs.Requests.{first_request}
use Rattle.osm_relay.specs.Errands.{BeginsErrand, Errand, answer_to, not_allowed, slots, unmet}
use Rattle.osm_relay.specs.Questions.{WantsForm}
use Rattle.osm_relay.specs.Relayed.{IsAlone}
use Rattle.osm_relay.specs.declared.finding.Found.{Found}
use Rattle.osm_relay.specs.declared.finding.Found.TheVariants.{Ask, Open, Respond}
use Rattle.osm_relay.specs.declared.hearing.Reaction.{Reaction}
use Rattle.osm_relay.specs.declared.hearing.Reaction.TheVariants as reactions
use Rattle.osm_relay.specs.declared.question.Question.{Question}
use Rattle.osm_relay.specs.internal.Kept.{IsOpen}

-- the question is that of an errand
abbrev pub IsQuestionOf : Errand → Question → Type 0
IsQuestionOf (unmet status text) q = ⊥
IsQuestionOf (not_allowed methods) q = ⊥
IsQuestionOf slots q = ⊥
IsQuestionOf (answer_to query) q = (q.query ≡ query) × WantsForm query q.form

-- this is what an errand comes to
abbrev pub Meets : Errand → Found → Type 0
Meets e (Open needed) = ⊥
Meets e (Respond response) = IsAlone e response.items
Meets e (Ask question) = IsQuestionOf e question

-- and what bytes come to that begin with no CR or LF
abbrev pub IsFound : List ℕ → Found → Type 0
IsFound bytes (Open needed) = (first_request bytes ≡ None) × IsOpen needed bytes
IsFound bytes (Respond response) = (e : Errand) × BeginsErrand bytes e × IsAlone e response.items
IsFound bytes (Ask question) = (e : Errand) × BeginsErrand bytes e × IsQuestionOf e question

abbrev pub Reacts : List ℕ → Reaction → Type 0
Reacts bytes (reactions.More heard) = heard ≡ bytes
Reacts bytes (reactions.Respond response) = (e : Errand) × BeginsErrand bytes e × IsAlone e response.items
Reacts bytes (reactions.Ask question) = (e : Errand) × BeginsErrand bytes e × IsQuestionOf e question
