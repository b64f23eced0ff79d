use Rattle.std.proofs.Common.{rules, refl, inr, FitsSigned, to_z-of_z}
use Rattle.std.specs.Int.{w64}
use Rattle.osm_model.specs.Limits.{Refuses}
use Rattle.opl_codec.specs.LineParts.{meta_of, tags_of}
use Rattle.opl_codec.proofs.LineObjects.{body_made, lat_kept, lon_kept, object_refused}
use Rattle.opl_codec.proofs.line_object.object_of.Goals as goal

pub place_of-place-requires-clause-lon_within : goal.place_of-place-requires-clause-lon_within
place_of-place-requires-clause-lon_within c = lon_kept c.requires.spelled.rest c.args.parts c.requires.spelled.says

pub place_of-place-requires-clause-lat_within : goal.place_of-place-requires-clause-lat_within
place_of-place-requires-clause-lat_within c = lat_kept c.requires.spelled.rest c.args.parts c.requires.spelled.says

pub returns-in-Err-clause-refused : goal.returns-in-Err-clause-refused
returns-in-Err-clause-refused c =
    let is = body_made c.args.parts c.place_of-place.result c.in-Some.body c.place_of-place.ensures c.in-Some.ensures.1 in
    let id_small : FitsSigned w64 c.args.name.id = search rules in
    let changeset_small : FitsSigned w64 c.unwrap_or-2.result = search rules in
    let uid_small : FitsSigned w64 c.unwrap_or-4.result = search rules in
    let numbers = simp to_z-of_z at c.in-Err.ensures.refused in
    let same : Refuses c.args.name.id (meta_of c.args.parts) (tags_of c.args.parts) c.in-Some.body c.in-Err.field-0 =
    rw (c.unwrap_or.ensures, c.unwrap_or-2.ensures, c.unwrap_or-3.ensures, c.unwrap_or-4.ensures, c.user_of.ensures, c.tags_of-tags.ensures) at numbers in
    inr (refl, object_refused c.args.line.now c.args.name c.args.parts c.requires.spelled c.requires.visible c.in-Some.body c.in-Some.ensures.0 is c.in-Err.field-0 same)
