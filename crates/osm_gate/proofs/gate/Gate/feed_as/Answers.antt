use Rattle.std.proofs.Common.{rules, ◌≡◌, ◌∙◌, ap, sym, arith, ◌++◌, ◌<◌, length, inl, inr}
use Rattle.std.specs.Prelude.{◌⊎◌}
use Rattle.osm_gate.specs.Connections.{Requests, Rest, requests_next}
use Rattle.osm_gate.proofs.FeedLemmas.{next-open, still-waits, waits-requests_in, scanned-before}
use Rattle.osm_gate.proofs.StepLemmas.{open-empty}
use Rattle.osm_gate.proofs.gate.Gate.feed_as.Goals as goal
use Rattle.osm_gate.proofs.gate.Gate.feed_as.Goals.{then-self-eq0, else-self-eq0}

pub invariant_of-self-then-len-self : goal.invariant_of-self-then-len-self
invariant_of-self-then-len-self g c =
    let items : c.extend_from_slice.new.self.items ≡ c.self.inside.rest.items ++ c.args.piece.now = search rules in
    let size : c.len.result ≡ length c.extend_from_slice.new.self.items = search rules in
    let whole = ap length items in
    let short : length (c.self.inside.rest.items ++ c.args.piece.now) < c.self.inside.needed = omega (arith, size, whole, c.if-len-self.true) in
    record {
      closed = λ e. cc (c.if-self.false);
      is_open = rw items (still-waits c.self.inside.needed c.self.inside.rest.items c.args.piece.now c.self.invariant.is_open short);
      routes = c.self.invariant.routes;
    }

pub returns-then-len-self-clause-responses : goal.returns-then-len-self-clause-responses
returns-then-len-self-clause-responses g c =
    let items : c.extend_from_slice.new.self.items ≡ c.self.inside.rest.items ++ c.args.piece.now = search rules in
    let size : c.len.result ≡ length c.extend_from_slice.new.self.items = search rules in
    let whole = ap length items in
    let short : length (c.self.inside.rest.items ++ c.args.piece.now) < c.self.inside.needed = omega (arith, size, whole, c.if-len-self.true) in
    let said = next-open c.self.inside.is_closed c.self.inside.rest.items c.args.piece.now c.if-self.false
    ∙ waits-requests_in c.self.inside.needed c.self.inside.rest.items c.args.piece.now c.self.invariant.is_open short in
    let nothing = ap (λ (r : Rest). (requests_next r c.args.piece.now).complete) (sym c.self.view_is) ∙ ap (λ (s : Requests). s.complete) said in
    λ p holds. rw nothing c.none-then-len-self.ensures

pub returns-then-len-self-clause-rest : goal.returns-then-len-self-clause-rest
returns-then-len-self-clause-rest g c =
    let items : c.extend_from_slice.new.self.items ≡ c.self.inside.rest.items ++ c.args.piece.now = search rules in
    let size : c.len.result ≡ length c.extend_from_slice.new.self.items = search rules in
    let whole = ap length items in
    let short : length (c.self.inside.rest.items ++ c.args.piece.now) < c.self.inside.needed = omega (arith, size, whole, c.if-len-self.true) in
    let said = next-open c.self.inside.is_closed c.self.inside.rest.items c.args.piece.now c.if-self.false
    ∙ waits-requests_in c.self.inside.needed c.self.inside.rest.items c.args.piece.now c.self.invariant.is_open short in
    let now_open : c.self.inside.is_closed ≡ _ = c.if-self.false in
    (λ i. record { is_closed = now_open i; bytes = items i })
    ∙ sym (ap (λ (r : Rest). (requests_next r c.args.piece.now).rest) (sym c.self.view_is) ∙ ap (λ (s : Requests). s.rest) said)

pub respond_as-requires-clause-scanned : goal.respond_as-requires-clause-scanned
respond_as-requires-clause-scanned g c =
    let items : c.as_slice-rest.result.now ≡ c.self.inside.rest.items ++ c.args.piece.now = search rules in
    let before : c.len-before.result ≡ length c.self.inside.rest.items = search rules in
    let from : ((c.self.inside.needed ≡ 0) × (c.if-self-eq0.scanned ≡ length c.self.inside.rest.items)) ⊎ (c.if-self-eq0.scanned ≡ 0) =
    elim c.if-self-eq0.branch [
      | then-self-eq0 w ↦ inl (w.if-self-eq0.true, w.scanned-is ∙ before)
      | else-self-eq0 w ↦ inr w.scanned-is
    ] in
    rw items (scanned-before c.self.inside.needed c.if-self-eq0.scanned c.self.inside.rest.items c.args.piece.now c.self.invariant.is_open from)

pub invariant_of-self-in-None : goal.invariant_of-self-in-None
invariant_of-self-in-None g c = record { closed = λ e. c.clear.ensures.items; is_open = open-empty c.clear.new.self.items c.clear.ensures.items; routes = c.self.invariant.routes }
