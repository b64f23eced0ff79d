use Rattle.std.proofs.Common.{ℕ, List, ◌++◌, ap, ◌∙◌}
use Rattle.opl_codec.specs.Text.{text_of}
use Rattle.osm_model.specs.declared.out_mode.OutMode.TheVariants.{Meta}
use Rattle.tree_node.specs.Digests.{digest}
use Rattle.light_keys.proofs.LineLemmas.{line_left}
use Rattle.light_keys.proofs.digests.line_digest.Goals as goal

pub returns : goal.returns
returns c =
    let left = line_left c.args.object.now c.write_object.new.out.items c.pop.new.self.items c.write_object.new.out.len (c.in_ok-write_object.ensures.written ∙ ap (λ (t : List ℕ). t ++ text_of c.args.object.now Meta) c.new-line.ensures.items) c.write_object.new.out.ok.0 c.pop.ensures.rest in
    c.digest_of.ensures ∙ ap digest c.deref.ensures.value ∙ ap digest left
