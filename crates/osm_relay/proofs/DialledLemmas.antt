-- What is known of the wires once a mirror was dialled, and of a wire that took nothing.
use Rattle.std.proofs.Common.{◌≡◌, ◌∙◌, List, ℕ, ap, sym, refl, subst, take, append-nil, true, false, IfSome}
use Rattle.std.specs.Prelude.{Bool, Option, Some, None, option_map}
use Rattle.std.specs.Option.{is_some}
use Rattle.osm_relay.specs.Logs.{Log, fresh, takes}
use Rattle.osm_relay.specs.declared.stage.Stage.{Stage}
use Rattle.osm_relay.specs.declared.terms.Terms.{Terms}
use Rattle.osm_relay.specs.internal.Stages.{StandsAt}

-- a wire that took no bytes
pub took_none : (old new : Log) (count : ℕ) (bytes : List ℕ) → count ≡ 0 → new ≡ takes (take count bytes) old → new ≡ old
took_none old new count bytes z e =
    e ∙ ap (λ (n : ℕ). takes (take n bytes) old) z ∙ ap (λ (t : List ℕ). let log : Log = record { brought = old.brought; took = t; ended = old.ended } in log) (append-nil old.took)

-- there is a fresh connection, or none
pub dialled : {W : Type 0} (log : W → Log) (wire : Option W) (tells : Bool) → tells ≡ true → IfSome wire (λ w. tells ≡ true → log w ≡ fresh)
    → (terms : Terms) (c : Log) (stage : Stage)
    → (is_some wire ≡ true → StandsAt terms stage c (Some fresh)) → (is_some wire ≡ false → StandsAt terms stage c None) → StandsAt terms stage c (option_map log wire)
dialled log None tells told new terms c stage asking choosing = choosing refl
dialled log (Some w) tells told new terms c stage asking choosing = subst (λ (l : Log). StandsAt terms stage c (Some l)) (sym (new told)) (asking refl)
