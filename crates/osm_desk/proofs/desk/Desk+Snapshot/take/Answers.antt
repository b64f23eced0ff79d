use Rattle.std.proofs.Common.{subst, sym, ◌∙◌}
use Rattle.std.specs.Prelude.{IfErr, IfOk, Ok}
use Rattle.osm_desk.specs.Contents.{desk_over}
use Rattle.osm_desk.specs.Faults.{fault_of}
use Rattle.osm_desk.specs.Made.{IsMade, RefusesChanges}
use Rattle.osm_desk.specs.Stepping.{HasStepped, IsRefusal, texts_of}
use Rattle.osm_desk.specs.declared.desk_fault.DeskFault.TheVariants.{NotOpen}
use Rattle.osm_desk.specs.declared.event.Event.{Event}
use Rattle.osm_desk.proofs.StepLemmas.{arrive_refused, arrived_steps, end_refused, end_steps, ended_none, if_err, if_ok, none_by, open_refused, open_steps, publish_refused, publish_steps, quiet_steps, refused_by}
use Rattle.osm_desk.proofs.desk.Desk+Snapshot.take.Goals as goal
use Rattle.osm_desk.proofs.desk.Desk+Snapshot.take.Goals.{in-Open+in_ok-open-in-Open, in-End+else-not-forget, in-Publish+in_ok-publish-in-Publish}

pub returns-in_err-open-in-Open-clause-refused : goal.returns-in_err-open-in-Open-clause-refused
returns-in_err-open-in-Open-clause-refused c = λ p holds.
    subst (λ (e : Event). IfErr c.from_residual.result (IsRefusal (desk_over c.args.self.now p) e)) (sym c.in-Open.is)
    (refused_by _ c.from_residual.result c.in_err-open-in-Open.field-0.0 c.from_residual.ensures.1
    (open_refused c.args.self.now c.in-Open.number p c.in_err-open-in-Open.field-0.0 c.in_err-open-in-Open.ensures.refused))

pub returns-in-Arrive-clause-steps : goal.returns-in-Arrive-clause-steps
returns-in-Arrive-clause-steps c = λ p holds.
    subst (λ (e : Event). IfOk c.arrive.result (λ answers. HasStepped (desk_over c.args.self.now p) e (texts_of answers.items) c.arrive.new.self)) (sym c.in-Arrive.is)
    (if_ok c.arrive.result (c.arrive.ensures.responses p holds)
    (λ answers h. arrived_steps (desk_over c.args.self.now p) c.in-Arrive.number c.in-Arrive.piece c.deref.result.now (texts_of answers.items) c.arrive.new.self c.deref.ensures.value h))

pub returns-in-Arrive-clause-refused : goal.returns-in-Arrive-clause-refused
returns-in-Arrive-clause-refused c = λ p holds.
    subst (λ (e : Event). IfErr c.arrive.result (IsRefusal (desk_over c.args.self.now p) e)) (sym c.in-Arrive.is)
    (if_err c.arrive.result c.arrive.ensures.refused (λ fault h. arrive_refused c.args.self.now c.in-Arrive.number p c.in-Arrive.piece fault h))

pub returns-then-not-forget-clause-refused : goal.returns-then-not-forget-clause-refused
returns-then-not-forget-clause-refused c = λ p holds.
    subst (λ (e : Event). IsRefusal (desk_over c.args.self.now p) e NotOpen) (sym c.in-End.is)
    (end_refused c.args.self.now c.in-End.number p (none_by _ (sym c.forget.ensures.was ∙ c.if-not-forget.true)))

pub returns-then-not-forget-clause-unchanged : goal.returns-then-not-forget-clause-unchanged
returns-then-not-forget-clause-unchanged c =
    ended_none c.args.self.now c.forget.new.self c.in-End.number (none_by _ (sym c.forget.ensures.was ∙ c.if-not-forget.true)) c.forget.ensures.forgotten

pub returns-in_err-publish-in-Publish-clause-refused :
    goal.returns-in_err-publish-in-Publish-clause-refused
returns-in_err-publish-in-Publish-clause-refused c = λ p holds.
    let fault = c.in_err-publish-in-Publish.field-0.0 in
    subst (λ (e : Event). IfErr c.from_residual-in_err-publish-in-Publish.result (IsRefusal (desk_over c.args.self.now p) e)) (sym c.in-Publish.is)
    (refused_by _ c.from_residual-in_err-publish-in-Publish.result (fault_of fault) c.from_residual-in_err-publish-in-Publish.ensures.1
    (publish_refused c.args.self.now p c.in-Publish.changes fault
    (subst (λ all. RefusesChanges p all fault) c.deref-in-Publish.ensures.value (c.in_err-publish-in-Publish.ensures.refused p holds))))

pub returns-clause-steps : goal.returns-clause-steps
returns-clause-steps c = λ p holds. elim c.match-event.branch [
  | in-Open+in_ok-open-in-Open w ↦
      quiet_steps (desk_over c.args.self.now p) c.args.event _ c.new.result.items c.match-event.self _ w.in-Open.is c.new.ensures.items w.self-is
      (open_steps c.args.self.now w.in-Open.number p w.open.new.self holds w.in_ok-open-in-Open.ensures.opened.0 w.in_ok-open-in-Open.ensures.opened.1)
  | in-End+else-not-forget w ↦
      quiet_steps (desk_over c.args.self.now p) c.args.event _ c.new.result.items c.match-event.self _ w.in-End.is c.new.ensures.items w.self-is
      (end_steps c.args.self.now w.in-End.number p w.forget.new.self holds (sym w.forget.ensures.was ∙ w.if-not-forget.false) w.forget.ensures.forgotten)
  | in-Publish+in_ok-publish-in-Publish w ↦
      let (q, made, held) = w.in_ok-publish-in-Publish.ensures.made p holds in
      quiet_steps (desk_over c.args.self.now p) c.args.event _ c.new.result.items c.match-event.self _ w.in-Publish.is c.new.ensures.items w.self-is
      (publish_steps c.args.self.now p w.in-Publish.changes w.publish.new.self q (subst (λ all. IsMade p all (Ok q)) w.deref-in-Publish.ensures.value made) held w.in_ok-publish-in-Publish.ensures.connections)
]
