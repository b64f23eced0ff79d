use Rattle.std.proofs.Common.{List, ℕ, ◌++◌, ap, ◌∙◌}
use Rattle.light_index.proofs.LightLineLemmas.{line_left}
use Rattle.light_index.proofs.lines.write_line.Goals as goal
use Rattle.opl_codec.specs.Text.{text_of}
use Rattle.osm_model.specs.declared.out_mode.OutMode.TheVariants.{Meta}

pub returns : goal.returns
returns c =
    line_left c.args.object.now c.write_object.new.out.items c.pop.new.self.items c.write_object.new.out.len
    (c.in_ok-write_object.ensures.written ∙ ap (λ (t : List ℕ). t ++ text_of c.args.object.now Meta) c.clear.ensures.items) c.write_object.new.out.ok.0 c.pop.ensures.rest
