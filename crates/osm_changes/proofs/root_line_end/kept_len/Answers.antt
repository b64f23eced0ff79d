use Rattle.std.proofs.Common.{◌-◌, ◌∙◌, ℕ, List, length, sym, take, drop}
use Rattle.std.proofs.lemmas.Bool.Decides.{Decides-eqb}
use Rattle.std.proofs.lemmas.Slice.Eq.{starts_is}
use Rattle.osm_desk.specs.AnnouncedRoots.{root_words}
use Rattle.osm_changes.proofs.RootLineLemmas.{Parts, kept_before, kept_whole, last_is}
use Rattle.osm_changes.proofs.root_line_end.kept_len.Goals as goal

pub returns-then-starts_with : goal.returns-then-starts_with
returns-then-starts_with c =
    let text = c.args.text.now in
    let lines = c.without_line_feeds-lines.result.now in
    let kept = c.without_last_line-kept.result.now in
    let (after, text_is, feeds) = c.without_line_feeds-lines.ensures.parts in
    let (line, lines_are, lacks) = c.without_last_line-kept.ensures.parts in
    let last : List ℕ = take (length lines - length kept) (drop (length kept) lines) in
    let starts = starts_is Decides-eqb last root_words c.starts_with.result c.starts_with.ensures.value in
    let parts : Parts text kept line = record {
      lines = lines;
      after = after;
      text_is = text_is;
      feeds = feeds;
      all = c.without_line_feeds-lines.ensures.all;
      lines_are = lines_are;
      lacks = lacks;
      ended = c.without_last_line-kept.ensures.ended;
    } in
    kept_before text kept line (drop 7 last) parts (sym (last_is lines kept line lines_are) ∙ starts.0 c.if-starts_with.true)

pub returns-else-starts_with : goal.returns-else-starts_with
returns-else-starts_with c =
    let text = c.args.text.now in
    let lines = c.without_line_feeds-lines.result.now in
    let kept = c.without_last_line-kept.result.now in
    let (after, text_is, feeds) = c.without_line_feeds-lines.ensures.parts in
    let (line, lines_are, lacks) = c.without_last_line-kept.ensures.parts in
    let last : List ℕ = take (length lines - length kept) (drop (length kept) lines) in
    let starts = starts_is Decides-eqb last root_words c.starts_with.result c.starts_with.ensures.value in
    let parts : Parts text kept line = record {
      lines = lines;
      after = after;
      text_is = text_is;
      feeds = feeds;
      all = c.without_line_feeds-lines.ensures.all;
      lines_are = lines_are;
      lacks = lacks;
      ended = c.without_last_line-kept.ensures.ended;
    } in
    kept_whole text kept line parts (λ announced is.
    let yes = starts.1 announced (last_is lines kept line lines_are ∙ is) in
    let none = c.if-starts_with.false in
    cc)
