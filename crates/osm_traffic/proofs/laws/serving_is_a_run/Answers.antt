use Rattle.osm_traffic.proofs.RunLemmas.{finds_in_order, ran_in_order}
use Rattle.osm_traffic.proofs.laws.serving_is_a_run.Goals as goal

pub returns-clause-run : goal.returns-clause-run
returns-clause-run c = λ terms wanted d deeds s. ran_in_order terms d deeds s.ran

pub returns-clause-room : goal.returns-clause-room
returns-clause-room c = λ terms n wanted d deeds s. finds_in_order terms n d deeds s.ran s.room
