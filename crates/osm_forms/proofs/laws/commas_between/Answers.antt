use Rattle.osm_forms.proofs.Commas as commas
use Rattle.osm_forms.proofs.laws.commas_between.Goals as goal

pub returns : goal.returns
returns c = commas.commas_between
