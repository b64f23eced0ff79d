use Rattle.ql_eval.proofs.announcing.announce_cells.Goals as goal

pub loop-keys-init : goal.loop-keys-init
loop-keys-init g c = record {
  stays = λ x. ((λ _ is. is), (λ is. is));
  used = λ x. ((λ is. is), (λ is. is));
}

pub loop-keys-preserved : goal.loop-keys-preserved
loop-keys-preserved g c = record {
  stays = λ x. ((λ e is. (c.loop-keys.invariant.stays x).0 e ((c.announce.ensures.stays x).0 e is)), (λ is. (c.announce.ensures.stays x).1 ((c.loop-keys.invariant.stays x).1 is)));
  used = λ x. ((λ is. (c.loop-keys.invariant.used x).0 ((c.announce.ensures.used x).0 is)), (λ is. (c.announce.ensures.used x).1 ((c.loop-keys.invariant.used x).1 is)));
}
