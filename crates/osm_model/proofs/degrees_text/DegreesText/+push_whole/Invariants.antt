use Rattle.osm_model.proofs.degrees_text.DegreesText.+push_whole.Given as goal

abbrev pub decreases-push_whole : goal.decreases-push_whole
decreases-push_whole l = l.whole
