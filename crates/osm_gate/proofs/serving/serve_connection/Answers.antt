use Rattle.std.proofs.Common.{◌≡◌, ◌≤◌, ◌<◌, ◌∙◌, ◌++◌, ◌∷◌, [], List, ℕ, ap, false, rules, length, take, sym, true, inl, inr}
use Rattle.std.proofs.KnownBytes.{Appends-trans}
use Rattle.osm_gate.specs.Connections.{Responds, Rest, requests_next}
use Rattle.osm_gate.specs.Serving.{longest_piece, most_reads}
use Rattle.osm_gate.proofs.ServeLemmas.{broken_writer, closed_whole, ended_whole, given_up, is_piece, more_front, one_longer, read-end, read-kept, read-more, responds-before, responds-on, rest-on}
use Rattle.osm_gate.proofs.serving.serve_connection.Goals as goal

-- ---- a read that fails, and the end of the input

pub returns-in_default-clause-ended : goal.returns-in_default-clause-ended
returns-in_default-clause-ended g c = λ p over.
    let (pieces, number, are, opened, gate_is, responds) = c.loop-reads.invariant.served in
    let (text, to_all, written) = responds p over in
    let few : length pieces < most_reads = search rules in
    (pieces, text, read-kept _ _ _ pieces are c.in_default.ensures.bytes, (opened, few), to_all, written)

pub returns-then-n-eq0-clause-ended : goal.returns-then-n-eq0-clause-ended
returns-then-n-eq0-clause-ended g c = λ p over.
    let (pieces, number, are, opened, gate_is, responds) = c.loop-reads.invariant.served in
    let (text, to_all, written) = responds p over in
    let few : length pieces < most_reads = search rules in
    let none = rw c.if-n-eq0.true at c.in-Ok.ensures.bytes.0 in
    let end = c.in-Ok.ensures.bytes.1 c.if-n-eq0.true (search rules) in
    (pieces, text, read-end _ _ _ pieces are none, inr (opened, few, end), to_all, written)

pub returns-then-n-eq0-clause-done : goal.returns-then-n-eq0-clause-done
returns-then-n-eq0-clause-done g c = λ p over.
    let (pieces, number, are, opened, gate_is, responds) = c.loop-reads.invariant.served in
    let (text, to_all, written) = responds p over in
    let none = rw c.if-n-eq0.true at c.in-Ok.ensures.bytes.0 in
    let end = c.in-Ok.ensures.bytes.1 c.if-n-eq0.true (search rules) in
    let all = read-end _ _ _ pieces are none in
    ended_whole p _ _ _ text _ _ all.consumed end to_all written

-- ---- one piece more

pub returns-in_default-feed-clause-ended : goal.returns-in_default-feed-clause-ended
returns-in_default-feed-clause-ended g c = λ p over.
    let (pieces, number, are, opened, gate_is, responds) = c.loop-reads.invariant.served in
    let (text, to_all, written) = responds p over in
    let piece : List ℕ = take c.in-Ok.n c.read.new.buf in
    let few : length pieces < most_reads = search rules in
    let some : ¬ (c.in-Ok.n ≡ 0) = c.if-n-eq0.false in
    let within : c.in-Ok.n ≤ length c.read.new.buf = search rules in
    let small : length c.read.new.buf ≤ longest_piece = search rules in
    let more = read-more _ _ _ pieces piece are opened few (is_piece _ _ some within small) c.in-Ok.ensures.bytes.0 in
    let to_front = responds-before p pieces piece text to_all in
    given_up p _ c.send_out_of_memory.result c.send_out_of_memory.ensures.kinds
    (λ memory. (pieces ++ piece ∷ [], text, more, to_front, Appends-trans _ _ _ _ _ written (c.send_out_of_memory.ensures.whole memory)))
    (pieces ++ piece ∷ [], text, more, inr (to_front, more_front _ _ _ _ _ written c.send_out_of_memory.ensures.begun))

pub returns-in_err-write_whole-clause-ended : goal.returns-in_err-write_whole-clause-ended
returns-in_err-write_whole-clause-ended g c = λ p over.
    let (pieces, number, are, opened, gate_is, responds) = c.loop-reads.invariant.served in
    let (text, to_all, written) = responds p over in
    let piece : List ℕ = take c.in-Ok.n c.read.new.buf in
    let few : length pieces < most_reads = search rules in
    let some : ¬ (c.in-Ok.n ≡ 0) = c.if-n-eq0.false in
    let within : c.in-Ok.n ≤ length c.read.new.buf = search rules in
    let small : length c.read.new.buf ≤ longest_piece = search rules in
    let all = read-more _ _ _ pieces piece are opened few (is_piece _ _ some within small) c.in-Ok.ensures.bytes.0 in
    let gate : Rest = g.C.Connection.rest c.loop-reads.connection in
    let more : List ℕ = c.deref.result.now in
    let to_piece : Responds p (requests_next gate piece).complete more = rw c.deref.ensures.value (c.in-Ok-feed.ensures.responses p (g.met.C.Connection.same_over _ _ p c.loop-reads.invariant.later over)) in
    broken_writer p _ c.from_residual.result c.from_residual.ensures.1 (
      pieces ++ piece ∷ [],
      text ++ more,
      all,
      inl (responds-on p pieces piece text more gate gate_is to_all to_piece, more_front _ _ _ _ _ written c.write_whole.ensures.begun),
    )

pub returns-then-closed-clause-ended : goal.returns-then-closed-clause-ended
returns-then-closed-clause-ended g c = λ p over.
    let (pieces, number, are, opened, gate_is, responds) = c.loop-reads.invariant.served in
    let (text, to_all, written) = responds p over in
    let piece : List ℕ = take c.in-Ok.n c.read.new.buf in
    let few : length pieces < most_reads = search rules in
    let some : ¬ (c.in-Ok.n ≡ 0) = c.if-n-eq0.false in
    let within : c.in-Ok.n ≤ length c.read.new.buf = search rules in
    let small : length c.read.new.buf ≤ longest_piece = search rules in
    let all = read-more _ _ _ pieces piece are opened few (is_piece _ _ some within small) c.in-Ok.ensures.bytes.0 in
    let gate : Rest = g.C.Connection.rest c.loop-reads.connection in
    let more : List ℕ = c.deref.result.now in
    let to_piece : Responds p (requests_next gate piece).complete more = rw c.deref.ensures.value (c.in-Ok-feed.ensures.responses p (g.met.C.Connection.same_over _ _ p c.loop-reads.invariant.later over)) in
    let now_is = c.in-Ok-feed.ensures.rest ∙ rest-on pieces piece gate gate_is in
    let is_shut : (g.C.Connection.rest c.feed.new.self).is_closed ≡ true = sym c.closed.ensures ∙ c.if-closed.true in (
      pieces ++ piece ∷ [],
      text ++ more,
      all,
      inl (ap (λ (r : Rest). r.is_closed) (sym now_is) ∙ is_shut),
      responds-on p pieces piece text more gate gate_is to_all to_piece,
      Appends-trans _ _ _ _ _ written c.in_ok-write_whole.ensures.whole,
    )

pub returns-then-closed-clause-done : goal.returns-then-closed-clause-done
returns-then-closed-clause-done g c = λ p over.
    let (pieces, number, are, opened, gate_is, responds) = c.loop-reads.invariant.served in
    let (text, to_all, written) = responds p over in
    let piece : List ℕ = take c.in-Ok.n c.read.new.buf in
    let few : length pieces < most_reads = search rules in
    let some : ¬ (c.in-Ok.n ≡ 0) = c.if-n-eq0.false in
    let within : c.in-Ok.n ≤ length c.read.new.buf = search rules in
    let small : length c.read.new.buf ≤ longest_piece = search rules in
    let all = read-more _ _ _ pieces piece are opened few (is_piece _ _ some within small) c.in-Ok.ensures.bytes.0 in
    let gate : Rest = g.C.Connection.rest c.loop-reads.connection in
    let more : List ℕ = c.deref.result.now in
    let to_piece : Responds p (requests_next gate piece).complete more = rw c.deref.ensures.value (c.in-Ok-feed.ensures.responses p (g.met.C.Connection.same_over _ _ p c.loop-reads.invariant.later over)) in
    let now_is = c.in-Ok-feed.ensures.rest ∙ rest-on pieces piece gate gate_is in
    let is_shut : (g.C.Connection.rest c.feed.new.self).is_closed ≡ true = sym c.closed.ensures ∙ c.if-closed.true in
    closed_whole p _ _ _ (text ++ more) _ _ all.consumed (ap (λ (r : Rest). r.is_closed) (sym now_is) ∙ is_shut)
    (responds-on p pieces piece text more gate gate_is to_all to_piece) (Appends-trans _ _ _ _ _ written c.in_ok-write_whole.ensures.whole)

pub loop-reads-preserved : goal.loop-reads-preserved
loop-reads-preserved g c =
    let (pieces, number, are, opened, gate_is, responds) = c.loop-reads.invariant.served in
    let piece : List ℕ = take c.in-Ok.n c.read.new.buf in
    let few : length pieces < most_reads = search rules in
    let some : ¬ (c.in-Ok.n ≡ 0) = c.if-n-eq0.false in
    let within : c.in-Ok.n ≤ length c.read.new.buf = search rules in
    let small : length c.read.new.buf ≤ longest_piece = search rules in
    let all = read-more _ _ _ pieces piece are opened few (is_piece _ _ some within small) c.in-Ok.ensures.bytes.0 in
    let gate : Rest = g.C.Connection.rest c.loop-reads.connection in
    let more : List ℕ = c.deref.result.now in
    let now_is = c.in-Ok-feed.ensures.rest ∙ rest-on pieces piece gate gate_is in
    let is_open : (g.C.Connection.rest c.feed.new.self).is_closed ≡ false = sym c.closed.ensures ∙ c.if-closed.false in
    record {
      few = search rules;
      later = g.met.C.Connection.chained _ _ _ c.loop-reads.invariant.later c.in-Ok-feed.ensures.later;
      served = (
        pieces ++ piece ∷ [],
        one_longer pieces piece c.loop-reads.reads number,
        all,
        ap (λ (r : Rest). r.is_closed) (sym now_is) ∙ is_open,
        now_is,
        λ p over.
            let (text, to_all, written) = responds p over in
            let to_piece : Responds p (requests_next gate piece).complete more = rw c.deref.ensures.value (c.in-Ok-feed.ensures.responses p (g.met.C.Connection.same_over _ _ p c.loop-reads.invariant.later over)) in (
              text ++ more,
              responds-on p pieces piece text more gate gate_is to_all to_piece,
              Appends-trans _ _ _ _ _ written c.in_ok-write_whole.ensures.whole,
            ),
      );
    }

-- ---- after the last read

pub returns-clause-ended : goal.returns-clause-ended
returns-clause-ended g c = λ p over.
    let (pieces, number, are, opened, gate_is, responds) = c.loop-reads.invariant.served in
    let (text, to_all, written) = responds p over in
    let many : length pieces ≡ most_reads = search rules in
    (pieces, text, are, (opened, many), to_all, written)
