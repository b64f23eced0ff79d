use Rattle.std.proofs.Common.{◌≡◌, ◌∙◌, ◌+◌, List, [], ℕ, ap, arith, refl, rules, subst, sym, true}
use Rattle.std.specs.Prelude.{Ok, if◌then◌else◌, length}
use Rattle.osm_relay.specs.Events.{room_at}
use Rattle.osm_relay.specs.Relayed.{Standing}
use Rattle.osm_relay.specs.internal.Relaying.{Moves, Setting}
use Rattle.osm_relay.proofs.RelayingLemmas.{begins, done, endless, free_room, shows_stop, waits_in_vain, waits_on}
use Rattle.osm_relay.proofs.relaying.relay_many.Goals as goal
use Rattle.osm_relay.proofs.relaying.relay_many.Goals.{then-branch, else-branch}

pub returns-then-connections-eq0 : goal.returns-then-connections-eq0
returns-then-connections-eq0 g c = λ base is. ([], is, record { orderly = tt; told = tt }, (sym c.if-connections-eq0.true, refl))

pub loop-round-init : goal.loop-round-init
loop-round-init g c = record {
  few = omega arith;
  stands = λ base is.
      let s : Setting = record { wanted = c.args.connections; trusts = g.R.Roots.may_tell c.args.roots.now; most = c.args.most; tells = g.W.Wire.tells; base = base } in
      subst (λ (xs : List Standing). Moves s 0 0 (g.N.Network.log c.args.network.now) xs) (sym c.new-conversations.ensures.items) ([], begins s _ is, refl);
  more = λ all none. c.if-connections-eq0.false (sym all);
  roots = λ root e. e;
}

pub loop-round-preserved : goal.loop-round-preserved
loop-round-preserved g c =
    let next : c.if-branch.taken ≡ (if c.in_ok-turn.field-0 then c.loop-round.taken + 1 else c.loop-round.taken) = elim c.if-branch.branch [
      | then-branch w ↦ w.taken-is ∙ sym (ap (λ b. if b then c.loop-round.taken + 1 else c.loop-round.taken) w.if-branch.true)
      | else-branch w ↦ w.taken-is ∙ sym (ap (λ b. if b then c.loop-round.taken + 1 else c.loop-round.taken) w.if-branch.false)
    ] in
    record {
      few = elim c.if-branch.branch [
        | then-branch w ↦
            (let free = free_room c.args.connections c.loop-round.taken c.len.result (sym (c.in_ok-turn.ensures.only_room w.if-branch.true) ∙ c.room_for-room.ensures) in
            let below = free.0 in
            let is = w.taken-is in omega arith)
        | else-branch w ↦ (let is = w.taken-is in let few = c.loop-round.invariant.few in omega arith)
      ];
      stands = λ base is.
          let s : Setting = record { wanted = c.args.connections; trusts = g.R.Roots.may_tell c.args.roots.now; most = c.args.most; tells = g.W.Wire.tells; base = base } in
          let (events, st, heeded) = c.loop-round.invariant.stands base is in
          let room_is : c.room_for-room.result ≡ room_at c.args.connections c.loop-round.taken (length c.loop-round.conversations.items) = search rules in
          let w = waits_on s events _ _ _ _ st _ c.room_for-room.result (Ok c.in_ok-news.news) heeded room_is c.loop-round.invariant.more c.in_ok-news.ensures in
          let t = c.in_ok-turn.ensures.stands s events _ refl refl w c.loop-round.invariant.roots room_is in
          subst (λ (n : ℕ). Moves s (c.loop-round._round + 1) n (g.N.Network.log c.turn.new.network) c.turn.new.conversations.items) (sym next) t;
      more = λ all none.
          let count : c.len-in-loop-round.result ≡ 0 = search rules in
          let yes : c.is_done.result ≡ true = c.is_done.ensures.1 (all, count) in
          cc (yes, c.if-is_done.false);
      roots = λ root e. c.loop-round.invariant.roots root (c.in_ok-turn.ensures.roots root e);
    }

pub returns-in_err-news : goal.returns-in_err-news
returns-in_err-news g c = λ base is.
    let s : Setting = record { wanted = c.args.connections; trusts = g.R.Roots.may_tell c.args.roots.now; most = c.args.most; tells = g.W.Wire.tells; base = base } in
    let (events, st, heeded) = c.loop-round.invariant.stands base is in
    let room_is : c.room_for-room.result ≡ room_at c.args.connections c.loop-round.taken (length c.loop-round.conversations.items) = search rules in
    shows_stop s _ c.from_residual.result c.in_err-news.field-0.0 c.from_residual.ensures.1
    (waits_in_vain s events _ _ _ _ st _ c.room_for-room.result c.in_err-news.field-0.0 heeded room_is c.loop-round.invariant.more c.in_err-news.ensures)

pub returns-in_err-turn : goal.returns-in_err-turn
returns-in_err-turn g c = λ base is.
    let s : Setting = record { wanted = c.args.connections; trusts = g.R.Roots.may_tell c.args.roots.now; most = c.args.most; tells = g.W.Wire.tells; base = base } in
    let (events, st, heeded) = c.loop-round.invariant.stands base is in
    let room_is : c.room_for-room.result ≡ room_at c.args.connections c.loop-round.taken (length c.loop-round.conversations.items) = search rules in
    let w = waits_on s events _ _ _ _ st _ c.room_for-room.result (Ok c.in_ok-news.news) heeded room_is c.loop-round.invariant.more c.in_ok-news.ensures in
    shows_stop s _ c.from_residual-in_err-turn.result c.in_err-turn.field-0.0 c.from_residual-in_err-turn.ensures.1
    (c.in_err-turn.ensures.stands s events _ refl refl w c.loop-round.invariant.roots room_is)

pub returns-then-is_done : goal.returns-then-is_done
returns-then-is_done g c = λ base is.
    let next : c.if-branch.taken ≡ (if c.in_ok-turn.field-0 then c.loop-round.taken + 1 else c.loop-round.taken) = elim c.if-branch.branch [
      | then-branch w ↦ w.taken-is ∙ sym (ap (λ b. if b then c.loop-round.taken + 1 else c.loop-round.taken) w.if-branch.true)
      | else-branch w ↦ w.taken-is ∙ sym (ap (λ b. if b then c.loop-round.taken + 1 else c.loop-round.taken) w.if-branch.false)
    ] in
    let s : Setting = record { wanted = c.args.connections; trusts = g.R.Roots.may_tell c.args.roots.now; most = c.args.most; tells = g.W.Wire.tells; base = base } in
    let (events, st, heeded) = c.loop-round.invariant.stands base is in
    let room_is : c.room_for-room.result ≡ room_at c.args.connections c.loop-round.taken (length c.loop-round.conversations.items) = search rules in
    let w = waits_on s events _ _ _ _ st _ c.room_for-room.result (Ok c.in_ok-news.news) heeded room_is c.loop-round.invariant.more c.in_ok-news.ensures in
    let (all, u, quiet) = c.in_ok-turn.ensures.stands s events _ refl refl w c.loop-round.invariant.roots room_is in
    let facts = c.is_done.ensures.0 c.if-is_done.true in
    let count : c.len-in-loop-round.result ≡ 0 = facts.1 in
    let none : length c.turn.new.conversations.items ≡ 0 = search rules in
    (all, u.logged, u.run, done s all _ _ _ _ u (sym next ∙ facts.0) none)

pub returns : goal.returns
returns g c = λ base is.
    let s : Setting = record { wanted = c.args.connections; trusts = g.R.Roots.may_tell c.args.roots.now; most = c.args.most; tells = g.W.Wire.tells; base = base } in
    let (events, st, heeded) = c.loop-round.invariant.stands base is in
    let last : c.loop-round._round ≡ 18446744073709551615 = omega arith in
    (events, st.logged, st.run, endless s events _ _ _ _ st last c.loop-round.invariant.more)
