use Rattle.std.proofs.Common.{[], ◌∷◌, ℕ, List, refl, subst, sym}
use Rattle.osm_keys.specs.Publications.{root_of}
use Rattle.node_pack.specs.Packs.{IsPack, pack}
use Rattle.pack_update.specs.Files.{AreFilesOf}
use Rattle.pack_update.proofs.FirstLemmas.{first_files}
use Rattle.pack_update.proofs.laws.files_law.Goals as goal

pub returns : goal.returns
returns c = λ p file nodes manifest is same found.
    let root = root_of p in
    let whole : IsPack (pack root nodes) root nodes = record { bytes = refl; wide = is.wide; kept = is.kept; apart = is.apart; rooted = is.rooted; short = is.short } in
    subst (λ (f : List ℕ). AreFilesOf (f ∷ []) p manifest) (sym is.bytes)
    (first_files p nodes manifest whole same found (c.first_law.ensures.nodes root nodes whole) (c.first_law.ensures.root root nodes whole) (c.first_law.ensures.short root nodes whole))
