use Rattle.std.proofs.Common.{arith, ap, length}
use Rattle.osm_keys.proofs.ReadLemmas.{four_read, four_wide, front_long}
use Rattle.light_keys.proofs.manifest.read_tops.Goals as goal

pub returns-clause-some : goal.returns-clause-some
returns-clause-some c =
    let objects = c.in_ok-objects.ensures.cases in
    let tags = c.in_ok-tags.ensures.cases in
    let cells = c.in_ok-cells.ensures.cases in
    four_read c.args.bytes.now c.in_ok-objects.objects.now c.in_ok-tags.tags.now c.in_ok-cells.cells.now c.in_ok-backs.backs.now c.in_ok-objects.rest.now c.in_ok-tags.rest.now c.in_ok-cells.backs.now
    objects.0 objects.1 tags.0 tags.1 cells.0 cells.1 c.in_ok-backs.ensures.cases.same

pub returns-clause-width : goal.returns-clause-width
returns-clause-width c =
    let objects = c.in_ok-objects.ensures.cases in
    let tags = c.in_ok-tags.ensures.cases in
    let cells = c.in_ok-cells.ensures.cases in
    let backs = c.in_ok-backs.ensures.cases in
    four_wide c.in_ok-objects.objects.now c.in_ok-tags.tags.now c.in_ok-cells.cells.now c.in_ok-backs.backs.now
    (front_long 32 c.args.bytes.now c.in_ok-objects.objects.now c.in_ok-objects.rest.now objects.0 objects.2)
    (front_long 32 c.in_ok-objects.rest.now c.in_ok-tags.tags.now c.in_ok-tags.rest.now tags.0 tags.2)
    (front_long 32 c.in_ok-tags.rest.now c.in_ok-cells.cells.now c.in_ok-cells.backs.now cells.0 cells.2)
    (let e = ap length backs.same in let f = backs.long in omega (arith, e, f))
