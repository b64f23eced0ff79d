-- Which texts are paths.
use Rattle.std.proofs.Common.{◌≡◌, ◌∙◌, ap, sym, refl, List, ℕ, Bool, true, false}
use Rattle.std.specs.Prelude.{Some, None, option_map, IsUtf8, if◌then◌else◌}
use Rattle.std.specs.Str.{is_utf8}
use Rattle.std.proofs.lemmas.Str.{IsUtf8-from_is_utf8, is_utf8-from_IsUtf8}
use Rattle.matchit.specs.Seek.{first}
use Rattle.matchit.specs.Rows.{RowsOf}
use Rattle.matchit.specs.Router.{RouteOf, Refused, nearest}
use Rattle.matchit.specs.declared.error.InsertError.{InsertError}
use Rattle.matchit.specs.declared.error.InsertError.TheVariants.{Conflict, OutOfMemory, InvalidParamSegment, InvalidParam, InvalidCatchAll}
use Rattle.osm_gate.specs.Routes.{route_of, route_rows}
use Rattle.osm_gate.specs.declared.route.Route.{Route}

pub route-none : (path : List ℕ) → ¬ (IsUtf8 path) → None ≡ route_of path
unfolding route_of
route-none path not = go (is_utf8 path) refl
  where
    go : (c : Bool) → is_utf8 path ≡ c → None ≡ (if c then option_map (λ route. route.value) (first route_rows path) else None)
    go true hit = absurd (not (IsUtf8-from_is_utf8 path hit))
    go false miss = refl

pub route-some : (path : List ℕ) → IsUtf8 path → option_map (λ route. route.value) (first route_rows path) ≡ route_of path
unfolding route_of
route-some path is = rw (is_utf8-from_IsUtf8 path is) refl

pub route-found : (rows : RowsOf (RouteOf Route)) (text path : List ℕ) → rows ≡ route_rows → text ≡ path → IsUtf8 path
    → option_map (λ route. route.value) (first rows text) ≡ route_of path
route-found rows text path same is utf8 = rw (same, is) (route-some path utf8)

-- where no route conflicts, a route is refused for memory alone
pub refused-memory : (p : List ℕ) (rows others : RowsOf (RouteOf Route)) (e : InsertError) → rows ≡ others → nearest p others ≡ None
    → Refused p rows e → e ≡ OutOfMemory
refused-memory p rows others (Conflict with) same none (n, found, _) = let clash : Some n ≡ None = sym found ∙ ap (nearest p) same ∙ none in cc
refused-memory p rows others OutOfMemory same none refused = refl
refused-memory p rows others InvalidParamSegment same none refused = absurd refused
refused-memory p rows others InvalidParam same none refused = absurd refused
refused-memory p rows others InvalidCatchAll same none refused = absurd refused
