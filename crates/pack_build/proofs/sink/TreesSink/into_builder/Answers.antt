use Rattle.pack_build.proofs.sink.TreesSink.into_builder.Goals as goal

pub returns : goal.returns
returns g c = rw (← c.self.view_is) c.self.invariant
