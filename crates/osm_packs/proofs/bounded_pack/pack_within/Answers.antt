use Rattle.osm_packs.proofs.BuiltLemmas.{refusal_explained, refusal_outside}
use Rattle.osm_packs.proofs.bounded_pack.pack_within.Goals as goal

pub returns-in-Err-clause-only : goal.returns-in-Err-clause-only
returns-in-Err-clause-only g c = λ is_true.
    refusal_outside (g.R.Read.remaining c.args.input.now) c.args.edition c.in-Err.fault c.command_fault.result c.command_fault.ensures (c.in-Err.ensures.refused is_true)

pub returns-in-Err-clause-refused : goal.returns-in-Err-clause-refused
returns-in-Err-clause-refused g c = λ is_true.
    refusal_explained (g.R.Read.remaining c.args.input.now) c.args.edition c.in-Err.fault c.command_fault.result c.command_fault.ensures (c.in-Err.ensures.refused is_true)
