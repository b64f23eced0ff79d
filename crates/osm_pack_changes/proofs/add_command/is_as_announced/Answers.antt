use Rattle.std.proofs.Common.{◌∙◌, ap, ℕ, Some, sym}
use Rattle.std.proofs.lemmas.Bool.Decides.{Decides-eqb}
use Rattle.std.proofs.lemmas.Slice.Eq.{strip_prefix_is}
use Rattle.std.specs.Global.{Vec}
use Rattle.std.specs.Prelude.{option_map}
use Rattle.osm_desk.specs.AnnouncedRoots.{root_words}
use Rattle.osm_serving.specs.internal.ReadChanges.{comment_of}
use Rattle.osm_pack_changes.proofs.AddLemmas.{as_commented}
use Rattle.osm_pack_changes.proofs.add_command.is_as_announced.Goals as goal

pub returns-in-Some-strip_prefix : goal.returns-in-Some-strip_prefix
returns-in-Some-strip_prefix c =
    as_commented (comment_of c.args.read.now) c.in-Some.comment.items c.in-Some-strip_prefix.announced.now c.args.root.now.0 c.are_digits_of.result
    (ap (option_map (λ (comment : Vec ℕ). comment.items)) c.in-Some.is) (sym c.deref.ensures.value ∙ strip_prefix_is Decides-eqb c.deref.result.now root_words (Some c.in-Some-strip_prefix.announced) c.in-Some-strip_prefix.ensures.cases) c.are_digits_of.ensures
