use Rattle.ql_syntax.specs.internal.NumberParts.{decimal_of}
use Rattle.ql_syntax.proofs.AreaLemmas.{edge_of, box_made, box_refused, no_edge, refused_by}
use Rattle.ql_syntax.proofs.area.new_box.Goals as goal

pub returns-in_err-south-clause-refused : goal.returns-in_err-south-clause-refused
returns-in_err-south-clause-refused c = refused_by _ (λ are. no_edge (λ (within : _). c.in_err-south.ensures.only (decimal_of c.args.south) c.requires.south within) are.south)

pub returns-in_err-west-clause-refused : goal.returns-in_err-west-clause-refused
returns-in_err-west-clause-refused c = refused_by _ (λ are. no_edge (λ (within : _). c.in_err-west.ensures.only (decimal_of c.args.west) c.requires.west within) are.west)

pub returns-in_err-north-clause-refused : goal.returns-in_err-north-clause-refused
returns-in_err-north-clause-refused c = refused_by _ (λ are. no_edge (λ (within : _). c.in_err-north.ensures.only (decimal_of c.args.north) c.requires.north within) are.north)

pub returns-in_err-east-clause-refused : goal.returns-in_err-east-clause-refused
returns-in_err-east-clause-refused c = refused_by _ (λ are. no_edge (λ (within : _). c.in_err-east.ensures.only (decimal_of c.args.east) c.requires.east within) are.east)

pub returns-clause-made : goal.returns-clause-made
returns-clause-made c =
    box_made (edge_of c.requires.south c.in_ok-south.ensures.read) (edge_of c.requires.west c.in_ok-west.ensures.read) (edge_of c.requires.north c.in_ok-north.ensures.read) (edge_of c.requires.east c.in_ok-east.ensures.read) c.new.result c.new.ensures.made

pub returns-clause-refused : goal.returns-clause-refused
returns-clause-refused c =
    box_refused (edge_of c.requires.south c.in_ok-south.ensures.read) (edge_of c.requires.west c.in_ok-west.ensures.read) (edge_of c.requires.north c.in_ok-north.ensures.read) (edge_of c.requires.east c.in_ok-east.ensures.read) c.new.result c.new.ensures.refused
