use Rattle.node_pack.proofs.led.leads.Goals as goal

pub returns-then-is_at_most : goal.returns-then-is_at_most
returns-then-is_at_most c =
    ((λ is. record { low = c.is_at_most.ensures.0 c.if-is_at_most.true; high = c.goes_on.ensures.0 is }), (λ led. c.goes_on.ensures.1 led.high))

pub returns-else-is_at_most : goal.returns-else-is_at_most
returns-else-is_at_most c = ((λ is. absurd (cc (is, c.if-is_at_most.false))), (λ led. c.is_at_most.ensures.1 led.low))
