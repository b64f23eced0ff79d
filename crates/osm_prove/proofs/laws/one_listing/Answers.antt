use Rattle.osm_prove.proofs.shared.ListingLaws.{one_listing}
use Rattle.osm_prove.proofs.laws.one_listing.Goals as goal

pub returns : goal.returns
returns c = one_listing
