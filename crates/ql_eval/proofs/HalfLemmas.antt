-- The two halves of what filters ask: what of the object, and what of its reference.
use Rattle.std.proofs.Common.{◌≡◌, List, [], ◌∷◌, refl, sym, ap, subst, ◌∙◌}
use Rattle.std.specs.List.{AllByRecursion, Contains}
use Rattle.osm_model.specs.Elements.{Element, reference}
use Rattle.osm_model.specs.Membership.{BodyLists}
use Rattle.osm_model.specs.declared.kind.Kind.{Kind}
use Rattle.osm_model.specs.declared.kind.Kind.TheVariants as kinds
use Rattle.osm_model.specs.declared.reference.Ref.{Ref}
use Rattle.ql_syntax.specs.Filters.{Filter, InSet, HasKey, KeyIs, LacksKey, KeyIsNot, Ids, Within, Via}
use Rattle.ql_syntax.specs.declared.path.Path.{Path}
use Rattle.ql_syntax.specs.declared.path.Path.TheVariants as paths
use Rattle.ref_sets.specs.Adding.{From}
use Rattle.ref_sets.specs.Sets.{IsSetOf}
use Rattle.ref_sets.specs.NamedSets.{Env}
use Rattle.ql_meaning.specs.Values.{IsAbove, IsBelow, IsOnPath, Passes}
use Rattle.ql_eval.specs.Asks.{IsListedBy, IsOfKindIn}
use Rattle.ql_eval.specs.internal.Links.{AreAllThere, AreThere}
use Rattle.ql_eval.specs.internal.Selecting.{IsKeptBy}
use Rattle.ql_eval.proofs.EntryLemmas.{set_as}
use Rattle.ql_eval.specs.internal.Narrowing.{IsNamedBy, IsNamedByAll, IsNamedOnPath, IsPassingAs, ListsIn, PassesAll, PassesItself, PassesPath}

module _ (objects : List Element) (o : Element) (is_there : Contains objects o) where
  -- ---- paths

  module _ (set : List Ref) where
    below_named : (kind : Kind) → IsBelow objects set kind o → IsListedBy objects (IsOfKindIn set kind) (reference o)
    below_named kind (parent, is, of_kind, among) = (parent, is.there, (among, of_kind), is.lists)

    named_below : (kind : Kind) → IsListedBy objects (IsOfKindIn set kind) (reference o) → IsBelow objects set kind o
    named_below kind (parent, there, of, lists) = (parent, record { there = there; child_there = is_there; lists = lists }, of.1, of.0)

    above_lists : (kind : Kind) → IsAbove objects set kind o → ListsIn set kind o.body
    above_lists kind (child, is, of_kind, among) = (reference child, is.lists, of_kind, among)

    lists_above : AreThere objects set → (kind : Kind) → ListsIn set kind o.body → IsAbove objects set kind o
    lists_above all kind (r, lists, of_kind, among) =
        let (child, there, named) = all r among in (
          child,
          record { there = is_there; child_there = there; lists = subst (λ (s : Ref). BodyLists o.body s) (sym named) lists },
          ap (λ (s : Ref). s.kind) named ∙ of_kind,
          subst (λ (s : Ref). Contains set s) (sym named) among,
        )

    path_itself : (path : Path) → IsOnPath objects set path o → PassesPath set path o
    path_itself paths.W on = tt
    path_itself paths.R on = tt
    path_itself paths.Bn on = above_lists kinds.Node on
    path_itself paths.Bw on = above_lists kinds.Way on
    path_itself paths.Br on = above_lists kinds.Rel on

    path_named : (path : Path) → IsOnPath objects set path o → IsNamedOnPath objects set path (reference o)
    path_named paths.W on = below_named kinds.Way on
    path_named paths.R on = below_named kinds.Rel on
    path_named paths.Bn on = tt
    path_named paths.Bw on = tt
    path_named paths.Br on = tt

    path_from : AreThere objects set → (path : Path) → PassesPath set path o → IsNamedOnPath objects set path (reference o) → IsOnPath objects set path o
    path_from all paths.W passes named = named_below kinds.Way named
    path_from all paths.R passes named = named_below kinds.Rel named
    path_from all paths.Bn passes named = lists_above all kinds.Node passes
    path_from all paths.Bw passes named = lists_above all kinds.Way passes
    path_from all paths.Br passes named = lists_above all kinds.Rel passes

  -- ---- filters

  module _ (env : Env) where
    itself_of : (f : Filter) → Passes objects env o f → PassesItself env o f
    itself_of (InSet name) passes = tt
    itself_of (HasKey key) passes = passes
    itself_of (KeyIs key value) passes = passes
    itself_of (LacksKey key) passes = passes
    itself_of (KeyIsNot key value) passes = passes
    itself_of (Ids ids) passes = tt
    itself_of (Within area) passes = passes
    itself_of (Via path name) passes = path_itself (env name) path passes

    named_of : (f : Filter) → Passes objects env o f → IsNamedBy objects env (reference o) f
    named_of (InSet name) passes = passes
    named_of (HasKey key) passes = tt
    named_of (KeyIs key value) passes = tt
    named_of (LacksKey key) passes = tt
    named_of (KeyIsNot key value) passes = tt
    named_of (Ids ids) passes = passes
    named_of (Within area) passes = tt
    named_of (Via path name) passes = path_named (env name) path passes

    passes_from : AreAllThere objects env → (f : Filter) → PassesItself env o f → IsNamedBy objects env (reference o) f → Passes objects env o f
    passes_from all (InSet name) itself named = named
    passes_from all (HasKey key) itself named = itself
    passes_from all (KeyIs key value) itself named = itself
    passes_from all (LacksKey key) itself named = itself
    passes_from all (KeyIsNot key value) itself named = itself
    passes_from all (Ids ids) itself named = named
    passes_from all (Within area) itself named = itself
    passes_from all (Via path name) itself named = path_from (env name) (all name) path itself named

    all_itself : (filters : List Filter) → AllByRecursion (λ filter. Passes objects env o filter) filters → PassesAll env filters o
    all_itself [] passes = tt
    all_itself (f ∷ filters) passes = (itself_of f passes.0, all_itself filters passes.1)

    all_named : (filters : List Filter) → AllByRecursion (λ filter. Passes objects env o filter) filters → IsNamedByAll objects env filters (reference o)
    all_named [] passes = tt
    all_named (f ∷ filters) passes = (named_of f passes.0, all_named filters passes.1)

    all_pass : AreAllThere objects env → (filters : List Filter) → PassesAll env filters o → IsNamedByAll objects env filters (reference o) → AllByRecursion (λ filter. Passes objects env o filter) filters
    all_pass all [] itself named = tt
    all_pass all (f ∷ filters) itself named = (passes_from all f itself.0 named.0, all_pass all filters itself.1 named.1)

-- what the filters keep of the candidates, by the two halves
pub kept_is : (objects : List Element) (env : Env) → AreAllThere objects env → (candidates : List Ref) (filters : List Filter) (refs left : List Ref)
    → IsSetOf refs (From candidates (IsPassingAs objects env filters)) → IsSetOf left (λ r. Contains refs r × IsNamedByAll objects env filters r) → IsSetOf left (λ r. Contains candidates r × IsKeptBy objects env filters r)
kept_is objects env all candidates filters refs left passing named =
    set_as left (λ r. Contains refs r × IsNamedByAll objects env filters r) (λ r. Contains candidates r × IsKeptBy objects env filters r)
    (λ r. (
      (λ (among, names).
          let (name, has, (same, (o, there, of, itself))) = (passing.members r).0 among in
          let is_r : reference o ≡ r = of ∙ same in (
            subst (λ (s : Ref). Contains candidates s) same has,
            (o, there, is_r, all_pass objects o there env all filters itself (subst (λ (s : Ref). IsNamedByAll objects env filters s) (sym is_r) names)),
          )),
      (λ (among, (o, there, of, passes)). (
        (passing.members r).1 (r, among, (refl, (o, there, of, all_itself objects o there env filters passes))),
        subst (λ (s : Ref). IsNamedByAll objects env filters s) of (all_named objects o there env filters passes),
      )),
    )) named

-- without filters all candidates stay, where they are there
pub all_kept : (objects : List Element) (env : Env) (candidates refs : List Ref) → AreThere objects candidates → IsSetOf refs (Contains candidates) → IsSetOf refs (λ r. Contains candidates r × IsKeptBy objects env [] r)
all_kept objects env candidates refs all is =
    set_as refs (Contains candidates) (λ r. Contains candidates r × IsKeptBy objects env [] r)
    (λ r. ((λ has. let (o, there, named) = all r has in (has, (o, there, named, tt))), (λ both. both.0))) is
