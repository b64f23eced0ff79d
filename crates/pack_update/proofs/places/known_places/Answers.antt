use Rattle.pack_update.specs.Faults.{fault_of_open}
use Rattle.pack_update.specs.internal.Updating.{IsOfSource}
use Rattle.pack_update.proofs.ToldLemmas.{refused_as}
use Rattle.pack_update.proofs.UnderLemmas.{source_open}
use Rattle.pack_update.proofs.places.known_places.Goals as goal

pub returns-in_err-source-clause-told : goal.returns-in_err-source-clause-told
returns-in_err-source-clause-told g c =
    let fault = c.in_err-source.field-0.0 in
    refused_as IsOfSource c.from_residual.result (fault_of_open fault) c.from_residual.ensures.1 (source_open fault)

pub returns-in_err-learn-clause-told : goal.returns-in_err-learn-clause-told
returns-in_err-learn-clause-told g c =
    refused_as IsOfSource c.from_residual-in_err-learn.result c.in_err-learn.field-0.0 c.from_residual-in_err-learn.ensures.1 c.in_err-learn.ensures.told

pub returns-clause-over : goal.returns-clause-over
returns-clause-over g c = λ bytes place_of old reads are is near.
    c.learn.ensures.over place_of c.args.root.now.0 old (c.in_ok-source.ensures.over bytes place_of old reads are is near).0
