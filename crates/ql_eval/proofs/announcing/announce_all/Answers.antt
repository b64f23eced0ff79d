use Rattle.ql_eval.proofs.announcing.announce_all.Goals as goal

pub loop-name-init : goal.loop-name-init
loop-name-init g c = record {
  later = g.met.W.Source.itself _;
  walked = g.met.W.Source.no_walk _;
  truly = λ p is under. under;
  used = λ x. ((λ is. is), (λ is. is));
}

pub loop-name-preserved : goal.loop-name-preserved
loop-name-preserved g c = record {
  later = g.met.W.Source.chained _ _ _ c.loop-name.invariant.later c.announce.ensures.later;
  walked = g.met.W.Source.more_walks _ _ _ c.loop-name.invariant.later c.announce.ensures.later c.loop-name.invariant.walked c.announce.ensures.walked;
  truly = λ p is under. c.announce.ensures.truly p is (c.loop-name.invariant.truly p is under);
  used = λ x. ((λ is. (c.loop-name.invariant.used x).0 ((c.announce.ensures.used x).0 is)), (λ is. (c.announce.ensures.used x).1 ((c.loop-name.invariant.used x).1 is)));
}
