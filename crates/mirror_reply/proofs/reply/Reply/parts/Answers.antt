use Rattle.std.specs.Prelude.{IfNone, IfSome, Option, Some, None}
use Rattle.mirror_reply.specs.declared.parts.Parts.{Parts}
use Rattle.mirror_reply.proofs.TakenLemmas.{view-none, view-reply}
use Rattle.mirror_reply.proofs.reply.Reply.parts.Goals as goal

some-map : (o : Option Parts) (P Q : Parts → Type 0) → IfSome o P → ((parts : Parts) → P parts → Q parts) → IfSome o Q
some-map None P Q is f = tt
some-map (Some parts) P Q is f = f parts is

none-map : (o : Option Parts) (P Q : Type 0) → IfNone o P → (P → Q) → IfNone o Q
none-map None P Q is f = f is
none-map (Some parts) P Q is f = tt

pub returns-clause-some : goal.returns-clause-some
returns-clause-some c = λ received taken.
    some-map c.parts_of.result _ _ c.parts_of.ensures.some λ parts is.
    view-reply c.args.self.now c.self.inside.limit c.self.inside.bytes.items c.deref.result.now received c.self.view_is c.deref.ensures.value taken
    parts.root.now parts.answer.now parts.proof.now is

pub returns-clause-none : goal.returns-clause-none
returns-clause-none c = λ received taken.
    none-map c.parts_of.result _ _ c.parts_of.ensures.none λ none.
    view-none c.args.self.now c.self.inside.limit c.self.inside.bytes.items c.deref.result.now received c.self.view_is c.deref.ensures.value taken none
