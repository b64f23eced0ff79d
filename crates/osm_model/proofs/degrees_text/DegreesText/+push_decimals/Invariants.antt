use Rattle.osm_model.proofs.degrees_text.DegreesText.+push_decimals.Given as goal

abbrev pub decreases-push_decimals : goal.decreases-push_decimals
decreases-push_decimals l = l.places
