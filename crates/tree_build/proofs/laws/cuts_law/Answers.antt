use Rattle.std.proofs.Common.{◌≢◌, ℕ, suc, ◌<◌, ◌≤◌, List, [], ◌∷◌, length, map, add-one, refl, sym, ap, subst, ◌∙◌, arith}
use Rattle.tree_node.specs.Nodes.{Binding, Link, Leaf}
use Rattle.tree_node.specs.Trees.{ends_by, entries_in, is_marked_entry, is_marked_link, level_at, levels, link_to, links_in, pieces}
use Rattle.tree_node.proofs.shared.PieceLemmas.{some_pieces}
use Rattle.tree_node.proofs.shared.TreeLaws.{pair_at, whole}
use Rattle.tree_build.specs.Cuts.{IsCut}
use Rattle.tree_build.proofs.shared.PieceCuts.{entries_of_each, is_cut, links_of_each, one_cut}
use Rattle.tree_build.proofs.laws.cuts_law.Goals as goal

-- a list that isn't empty has a length
some_length : (entries : List Binding) → entries ≢ [] → 1 ≤ length entries
some_length [] some = absurd (some refl)
some_length (e ∷ es) some = omega arith

pub returns-clause-leaves : goal.returns-clause-leaves
unfolding levels
returns-clause-leaves c = λ shape tree entries some.
    let ps = pieces (ends_by shape is_marked_entry) entries in
    subst (λ (qs : List (List Binding)). IsCut shape is_marked_entry entries qs)
    (sym (ap (λ (qs : List (List Binding)). map entries_in (map (Leaf tree) qs)) (some_pieces (ends_by shape is_marked_entry) entries (some_length entries some)) ∙ entries_of_each tree ps))
    (is_cut shape is_marked_entry entries)

pub returns-clause-above : goal.returns-clause-above
unfolding levels
returns-clause-above c = λ shape tree entries level.
    subst (λ (n : ℕ). n < length (whole shape tree entries) → IsCut shape is_marked_link (map link_to (level_at (whole shape tree entries) level)) (map links_in (level_at (whole shape tree entries) n))) (sym (add-one level))
    (λ lt. let links = map link_to (level_at (whole shape tree entries) level) in
    subst (λ (qs : List (List Link)). IsCut shape is_marked_link links qs)
    (sym (ap (map links_in) (pair_at shape tree entries level lt).1 ∙ links_of_each tree (suc level) (pieces (ends_by shape is_marked_link) links)))
    (is_cut shape is_marked_link links))

pub returns-clause-one_way : goal.returns-clause-one_way
returns-clause-one_way c = λ shape entries ps qs one two. one_cut shape is_marked_entry entries ps qs one two

pub returns-clause-one_way_above : goal.returns-clause-one_way_above
returns-clause-one_way_above c = λ shape links ps qs one two. one_cut shape is_marked_link links ps qs one two
