use Rattle.std.proofs.Common.{◌++◌, ◌∙◌, ℕ, List, take, append_assoc, ap, subst}
use Rattle.osm_desk.specs.AnnouncedRoots.{root_words}
use Rattle.osm_changes.specs.AnnouncedChanges.{IsWithLineEnd, IsWithoutRootLine}
use Rattle.osm_changes.proofs.root_line_end.with_root_line.Goals as goal

pub returns : goal.returns
returns c =
    let ended = c.end_line.new.text.items in
    let line = c.args.line.now in
    record {
      kept = take c.kept_len-kept.result c.args.text.items;
      ended = ended;
      without = subst (λ (t : List ℕ). IsWithoutRootLine t (take c.kept_len-kept.result t)) c.deref.ensures.value c.kept_len-kept.ensures;
      line_end = subst (λ (t : List ℕ). IsWithLineEnd t ended) c.truncate.ensures.items c.in_ok-end_line.ensures;
      is = c.in_ok-extend_from_slice-2.ensures.items
          ∙ ap (λ (l : List ℕ). l ++ line) c.in_ok-extend_from_slice.ensures.items
          ∙ append_assoc ended root_words line;
    }
