-- What is known of the wires after each step.
use Rattle.std.proofs.Common.{◌≡◌, ◌∙◌, List, ℕ, [], ◌++◌, ap, sym, refl, subst, false, true, take, drop, inl, inr, append_assoc, append-nil, arith}
use Rattle.std.specs.Prelude.{Option, Some, None}
use Rattle.std.proofs.lemmas.List.{take-append-drop}
use Rattle.http_messages.specs.HeadEnds.{skip_breaks}
use Rattle.http_messages.proofs.shared.BreakLemmas.{skip-append}
use Rattle.ql_eval.specs.declared.evaluation.Report.{Report}
use Rattle.mirror_reply.specs.Heads.{unfinished}
use Rattle.mirror_reply.specs.Replies.{HasReply}
use Rattle.mirror_reply.specs.Requests.{is_host_text, request_text}
use Rattle.mirror_reply.specs.Standings.{Stands, waits}
use Rattle.mirror_reply.specs.Standings as standings
use Rattle.mirror_reply.specs.Taken.{HasTaken, Kept, Tells}
use Rattle.mirror_reply.specs.declared.reply_fault.ReplyFault.{ReplyFault}
use Rattle.mirror_reply.specs.declared.progress.Progress.TheVariants.{More, Whole, Failed}
use Rattle.mirror_answer.specs.Showing.{IsFaultOf, IsShownWithin}
use Rattle.mirror_answer.specs.declared.mirror_fault.MirrorFault.{MirrorFault}
use Rattle.mirror_answer.specs.declared.mirror_fault.MirrorFault.TheVariants as faults
use Rattle.osm_relay.specs.Errands.{BeginsErrand, Errand, answer_to, not_allowed, slots, unmet}
use Rattle.osm_relay.specs.Logs.{Log, brings, ends, fresh, takes}
use Rattle.osm_relay.specs.MirrorTexts.{mirror_text, status_of_fault}
use Rattle.osm_relay.specs.Pages.{document_response, error_response, starved}
use Rattle.osm_relay.specs.Questions.{WantsForm}
use Rattle.osm_relay.specs.Relayed.{Alone, Given, IsAlone, IsAskedFor, IsMirrorFault, NotGiven, Relayed, Starved, Wants}
use Rattle.http_messages.specs.ResponseTexts.{response_text}
use Rattle.osm_relay.specs.declared.limits.TheConstants.{REPLY_LIMIT}
use Rattle.osm_relay.specs.declared.question.Question.{Question}
use Rattle.osm_relay.specs.declared.stage.Search.{Search}
use Rattle.osm_relay.specs.declared.stage.Stage.TheVariants.{Answering, Asking, Choosing, Hearing, Listening, Over}
use Rattle.osm_relay.specs.declared.terms.Terms.{Terms}
use Rattle.osm_relay.specs.internal.Finding.{IsQuestionOf}
use Rattle.osm_relay.specs.internal.Judging.{wanted}
use Rattle.osm_relay.specs.internal.Stages.{IsAnswering, IsAsking, IsHeard, IsListening, IsWaiting, StandsAt}

-- ---- the client is answered

-- the response is begun
begins : (terms : Terms) (c : Log) (m : Option Log) (text : List ℕ) → c.took ≡ [] → Relayed terms c.brought m text → IsAnswering terms text c m
begins terms c m text silent is = (text, ap (λ (t : List ℕ). t ++ text) (sym silent), is)

pub begins_starved : (terms : Terms) (c : Log) (m : Option Log) → c.took ≡ [] → IsAskedFor c.brought m → StandsAt terms (Answering starved) c m
begins_starved terms c m silent asked = (begins terms c m starved silent (Starved refl), asked)

-- ---- the request

pub asked_none : (brought : List ℕ) (m : Option Log) → m ≡ None → IsAskedFor brought m
asked_none brought m e = subst (IsAskedFor brought) (sym e) tt

module _ (terms : Terms) (heard : List ℕ) (c : Log) (m : Option Log) (piece : List ℕ) (is : StandsAt terms (Hearing heard) c m) where
  all_heard : skip_breaks (heard ++ piece) ≡ skip_breaks (c.brought ++ piece)
  all_heard = ap (λ (t : List ℕ). skip_breaks (t ++ piece)) is.2 ∙ sym (skip-append c.brought piece)

  pub heard_more : (new : List ℕ) → new ≡ skip_breaks (heard ++ piece) → StandsAt terms (Hearing new) (brings piece c) m
  heard_more new e = (is.0, is.1, e ∙ all_heard)

  pub heard_answer : (e : Errand) (text : List ℕ) → BeginsErrand (skip_breaks (heard ++ piece)) e → IsAlone e text → StandsAt terms (Answering text) (brings piece c) m
  heard_answer e text begun alone = (
    begins terms (brings piece c) m text is.0 (Alone e (subst (λ (t : List ℕ). BeginsErrand t e) all_heard begun) is.1 alone),
    asked_none (c.brought ++ piece) m is.1,
  )

  pub heard_question : (e : Errand) (question : Question) (next : ℕ) → BeginsErrand (skip_breaks (heard ++ piece)) e → IsQuestionOf e question
      → StandsAt terms (Choosing (record { question = question; next = next; fault = faults.Unreached })) (brings piece c) m
  heard_question e question next begun of_it = (
    record { silent = is.0; wants = wants e (subst (λ (t : List ℕ). BeginsErrand t e) all_heard begun) of_it },
    subst (λ (o : Option Log). IsMirrorFault (wanted question terms) o faults.Unreached) (sym is.1) refl,
    asked_none (c.brought ++ piece) m is.1,
  )
    where
      wants : (e : Errand) → BeginsErrand (skip_breaks (c.brought ++ piece)) e → IsQuestionOf e question → Wants (c.brought ++ piece) question.query question.form
      wants (unmet status text) begun of_it = absurd of_it
      wants (not_allowed methods) begun of_it = absurd of_it
      wants slots begun of_it = absurd of_it
      wants (answer_to query) begun (same, form_is) = record {
        errand = subst (λ (q : List ℕ). BeginsErrand (skip_breaks (c.brought ++ piece)) (answer_to q)) (sym same) begun;
        form_is = subst (λ (q : List ℕ). WantsForm q question.form) (sym same) form_is;
      }

  pub heard_starved : StandsAt terms (Answering starved) (brings piece c) m
  heard_starved = begins_starved terms (brings piece c) m is.0 (asked_none (c.brought ++ piece) m is.1)

-- ---- the choice of a mirror

module _ (terms : Terms) (search : Search) (c : Log) (m : Option Log) (is : StandsAt terms (Choosing search) c m) where
  pub choosing_starved : StandsAt terms (Answering starved) c m
  choosing_starved = begins_starved terms c m is.0.silent is.2

  pub choosing_ends : (text : List ℕ) → text ≡ response_text (error_response (status_of_fault search.fault) (mirror_text search.fault)) → StandsAt terms (Answering text) c m
  choosing_ends text e = (
    begins terms c m text is.0.silent (NotGiven search.question.query search.question.form search.fault is.0.wants is.1 e),
    is.2,
  )

  module _ (next : Search) (same : next.question ≡ search.question) (unreached : next.fault ≡ faults.Unreached) where
    waits_still : IsWaiting next.question c
    waits_still = subst (λ (q : Question). IsWaiting q c) (sym same) is.0

    pub choosing_none : StandsAt terms (Choosing next) c None
    choosing_none = (waits_still, unreached, tt)

    pub choosing_some : (host request : List ℕ) → is_host_text host ≡ true → request ≡ request_text host search.question.query → StandsAt terms (Asking next request) c (Some fresh)
    choosing_some host request is_host e = (
      waits_still,
      (
        fresh,
        refl,
        record {
          host = host;
          is_host = is_host;
          front = ap (λ (q : Question). request_text host q.query) same ∙ sym e;
          silent = refl;
          open_is = refl;
          fails = subst (λ (f : MirrorFault). IsMirrorFault (wanted next.question terms) (Some fresh) f) (sym unreached) (refl, refl);
        },
      ),
    )

-- ---- the request to the mirror

-- a mirror that has sent nothing decides nothing
none_yet : Stands REPLY_LIMIT false [] waits
none_yet = (unfinished, (refl, omega arith), refl)

module _ (terms : Terms) (search : Search) (request : List ℕ) (c : Log) (m : Log) (is : StandsAt terms (Asking search request) c (Some m)) where
  asking : IsAsking search terms request c m
  asking = let (log, same, of_it) = is.1 in let one : log ≡ m = cc in subst (λ (l : Log). IsAsking search terms request c l) one of_it

  pub asked_for : IsAskedFor c.brought (Some m)
  asked_for = (search.question.query, search.question.form, asking.host, request, is.0.wants, asking.is_host, asking.front)

  pub asking_fails : StandsAt terms (Choosing search) c (Some m)
  asking_fails = (is.0, asking.fails, asked_for)

  silent_now : Stands REPLY_LIMIT false m.brought waits
  silent_now = subst (λ (t : List ℕ). Stands REPLY_LIMIT false t waits) (sym asking.silent) none_yet

  later_front : (count : ℕ) → request_text asking.host search.question.query ≡ (m.took ++ take count request) ++ drop count request
  later_front count = asking.front ∙ ap (λ (t : List ℕ). m.took ++ t) (sym (take-append-drop count request)) ∙ sym (append_assoc m.took (take count request) (drop count request))

  pub asking_more : (count : ℕ) → StandsAt terms (Asking (record { question = search.question; next = search.next; fault = faults.Silent }) (drop count request)) c (Some (takes (take count request) m))
  asking_more count = (
    is.0,
    (
      takes (take count request) m,
      refl,
      record {
        host = asking.host;
        is_host = asking.is_host;
        front = later_front count;
        silent = asking.silent;
        open_is = asking.open_is;
        fails = silent_now;
      },
    ),
  )

  pub asking_done : (count : ℕ) (reply : Kept) → reply ≡ record { limit = REPLY_LIMIT; bytes = [] }
      → StandsAt terms (Listening (record { question = search.question; next = search.next; fault = faults.Silent }) reply) c (Some (takes (take count request) m))
  asking_done count reply new = (
    is.0,
    (
      takes (take count request) m,
      refl,
      record {
        limit = ap (λ (k : Kept). k.limit) new;
        taken = ([], asking.silent ∙ ap (λ (k : Kept). k.bytes ++ []) (sym new), inl refl);
        decides_none = silent_now;
        open_is = asking.open_is;
      },
    ),
    (search.question.query, search.question.form, asking.host, drop count request, is.0.wants, asking.is_host, later_front count),
  )

-- ---- the mirror's response

module _ (terms : Terms) (search : Search) (reply : Kept) (c : Log) (m : Log) (is : StandsAt terms (Listening search reply) c (Some m)) where
  listening : IsListening reply m
  listening = let (log, same, of_it) = is.1 in let one : log ≡ m = cc in subst (IsListening reply) one of_it

  abbrev pub failed : MirrorFault → Search
  failed fault = record { question = search.question; next = search.next; fault = fault }

  pub listening_silent : StandsAt terms (Choosing (failed faults.Silent)) c (Some m)
  listening_silent = (is.0, listening.decides_none, is.2)

  pub listening_ends : (fault : ReplyFault) → ((received : List ℕ) → HasTaken reply received → standings.HasFault reply.limit true received fault)
      → StandsAt terms (Choosing (failed (faults.Reply fault))) c (Some (ends m))
  listening_ends fault tells = (
    is.0,
    subst (λ n. standings.HasFault n true m.brought fault) listening.limit (tells m.brought listening.taken),
    is.2,
  )

  pub heard_at_end : ((received : List ℕ) → HasTaken reply received → Tells reply.limit true received Whole) → IsHeard search reply c (ends m)
  heard_at_end tells = record {
    waits_for = is.0;
    asked = is.2;
    limit = listening.limit;
    taken = listening.taken;
    whole = subst (λ n. Tells n true m.brought Whole) listening.limit (tells m.brought listening.taken);
  }

  module _ (piece : List ℕ) where
    pub listening_starved : StandsAt terms (Answering starved) c (Some (brings piece m))
    listening_starved = begins_starved terms c (Some (brings piece m)) is.0.silent is.2

    pub listening_fails : (fault : ReplyFault) → ((received : List ℕ) → HasTaken reply received → Tells reply.limit false (received ++ piece) (Failed fault))
        → StandsAt terms (Choosing (failed (faults.Reply fault))) c (Some (brings piece m))
    listening_fails fault tells = (
      is.0,
      subst (λ b. standings.HasFault REPLY_LIMIT b (m.brought ++ piece) fault) (sym listening.open_is)
          (subst (λ n. standings.HasFault n false (m.brought ++ piece) fault) listening.limit (tells m.brought listening.taken)),
      is.2,
    )

    module _ (new : Kept) (limit : new.limit ≡ reply.limit) (taken : (received : List ℕ) → HasTaken reply received → HasTaken new (received ++ piece)) where
      pub listening_more : ((received : List ℕ) → HasTaken reply received → Tells reply.limit false (received ++ piece) More)
          → StandsAt terms (Listening search new) c (Some (brings piece m))
      listening_more tells = (
        is.0,
        (
          brings piece m,
          refl,
          record {
            limit = limit ∙ listening.limit;
            taken = taken m.brought listening.taken;
            decides_none = subst (λ n. Stands n false (m.brought ++ piece) waits) listening.limit (tells m.brought listening.taken);
            open_is = listening.open_is;
          },
        ),
        is.2,
      )

      pub heard_whole : ((received : List ℕ) → HasTaken reply received → Tells reply.limit false (received ++ piece) Whole) → IsHeard search new c (brings piece m)
      heard_whole tells = record {
        waits_for = is.0;
        asked = is.2;
        limit = limit ∙ listening.limit;
        taken = taken m.brought listening.taken;
        whole = subst (λ n. Tells n false (m.brought ++ piece) Whole) listening.limit (tells m.brought listening.taken);
      }

-- ---- the whole reply

module _ (terms : Terms) (search : Search) (reply : Kept) (c : Log) (m : Log) (is : IsHeard search reply c m) where
  pub heard_none : {X : Type 0} → ((received : List ℕ) → HasTaken reply received → (named answer proof : List ℕ) → HasReply reply.limit received named answer proof → ⊥) → X
  heard_none none =
      let (named, answer, proof, has) = is.whole in
      absurd (none m.brought is.taken named answer proof (subst (λ n. HasReply n m.brought named answer proof) (sym is.limit) has))

  pub settled_starved : StandsAt terms (Answering starved) c (Some m)
  settled_starved = begins_starved terms c (Some m) is.waits_for.silent is.asked

  pub reply_is : (named answer proof : List ℕ) → ((received : List ℕ) → HasTaken reply received → HasReply reply.limit received named answer proof) → HasReply REPLY_LIMIT m.brought named answer proof
  reply_is named answer proof has = subst (λ n. HasReply n m.brought named answer proof) is.limit (has m.brought is.taken)

  module _ (named answer proof : List ℕ) (whole_is : HasReply REPLY_LIMIT m.brought named answer proof) where
    pub settled_given : (response text : List ℕ) (report : Report) → IsShownWithin (wanted search.question terms) proof text report
        → response ≡ response_text (document_response search.question.form terms.root.0 text) → StandsAt terms (Answering response) c (Some m)
    settled_given response text report shows e = (
      begins terms c (Some m) response is.waits_for.silent
          (Given search.question.query search.question.form m named answer proof text report is.waits_for.wants refl whole_is shows e),
      is.asked,
    )

    fails : (fault : MirrorFault) → IsFaultOf (wanted search.question terms) named proof fault → IsMirrorFault (wanted search.question terms) (Some m) fault
    fails faults.Unreached of_it = absurd of_it
    fails faults.Silent of_it = absurd of_it
    fails (faults.Reply fault) of_it = absurd of_it
    fails faults.OtherRoot of_it = (named, answer, proof, whole_is, of_it)
    fails (faults.Proof why) of_it = (named, answer, proof, whole_is, of_it)
    fails faults.Work of_it = (named, answer, proof, whole_is, of_it)

    pub settled_refused : (fault : MirrorFault) → IsFaultOf (wanted search.question terms) named proof fault
        → StandsAt terms (Choosing (record { question = search.question; next = search.next; fault = fault })) c (Some m)
    settled_refused fault of_it = (is.waits_for, fails fault of_it, is.asked)

-- ---- the response to the client

module _ (terms : Terms) (left : List ℕ) (c : Log) (m : Option Log) (is : StandsAt terms (Answering left) c m) where
  pub answering_more : (count : ℕ) → StandsAt terms (Answering (drop count left)) (takes (take count left) c) m
  answering_more count =
      let (response, split, of_it) = is.0 in (
        (
          response,
          split ∙ ap (λ (t : List ℕ). c.took ++ t) (sym (take-append-drop count left)) ∙ sym (append_assoc c.took (take count left) (drop count left)),
          of_it,
        ),
        is.1,
      )

  pub answering_gone : StandsAt terms (Over false) c m
  answering_gone = let (response, split, of_it) = is.0 in (inr (response, left, split, of_it), is.1)

pub answering_done : (terms : Terms) (left : List ℕ) (c : Log) (m : Option Log) → StandsAt terms (Answering left) c m → left ≡ [] → StandsAt terms (Over true) c m
answering_done terms left c m ((response, split, of_it), asked) none =
    let all : response ≡ c.took = split ∙ ap (λ (t : List ℕ). c.took ++ t) none ∙ append-nil c.took in
    (subst (Relayed terms c.brought m) all of_it, asked)

pub hearing_gone : (terms : Terms) (heard : List ℕ) (c : Log) (m : Option Log) → StandsAt terms (Hearing heard) c m → StandsAt terms (Over false) c m
hearing_gone terms heard c m is = (inl is.0, asked_none c.brought m is.1)

-- ---- a mirror without a wire

pub no_asking : (terms : Terms) (search : Search) (request : List ℕ) (c : Log) (m : Option Log) → m ≡ None → StandsAt terms (Asking search request) c m → StandsAt terms (Choosing search) c m
no_asking terms search request c m none is = let (log, same, of_it) = is.1 in absurd (cc)

pub no_listening : (terms : Terms) (search : Search) (reply : Kept) (c : Log) (m : Option Log) → m ≡ None → StandsAt terms (Listening search reply) c m → StandsAt terms (Choosing search) c m
no_listening terms search reply c m none is = let (log, same, of_it) = is.1 in absurd (cc)
