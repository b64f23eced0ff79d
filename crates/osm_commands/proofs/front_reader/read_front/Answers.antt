use Rattle.std.proofs.Common.{◌≡◌, ◌≤◌, ◌<◌, ◌++◌, ◌∷◌, ◌+◌, [], refl, inl, inr, List, ℕ, length, take, rules, arith, length-take-le}
use Rattle.std.specs.List.{concat}
use Rattle.osm_commands.specs.WholeFiles.{longest_piece, most_reads}
use Rattle.osm_commands.specs.declared.command_fault.CommandFault.TheVariants.{Memory}
use Rattle.osm_commands.proofs.WholeFileLemmas.{broken_memory, bytes-more, is_piece, longer, one_longer, read-end, read-kept, read-more, read-none}
use Rattle.osm_commands.proofs.front_reader.read_front.Goals as goal

pub loop-reads-init : goal.loop-reads-init
loop-reads-init g c = record { few = omega arith; read = ([], read-none _, refl, search rules, omega arith) }

pub returns-in_default : goal.returns-in_default
returns-in_default g c =
    let (pieces, are, number, is, sum) = c.loop-reads.invariant.read in
    let few : length pieces < most_reads = search rules in
    let within : length (concat pieces) ≤ c.args.limit + 1 = omega (arith, sum) in
    (pieces, read-kept _ _ _ pieces are c.in_default.ensures.bytes, (within, few))

pub returns-then-n-eq0 : goal.returns-then-n-eq0
returns-then-n-eq0 g c =
    let (pieces, are, number, is, sum) = c.loop-reads.invariant.read in
    let few : length pieces < most_reads = search rules in
    let within : length (concat pieces) ≤ c.args.limit = omega (arith, sum) in
    let none = rw c.if-n-eq0.true at c.in-Ok.ensures.bytes.0 in
    (pieces, read-end _ _ _ pieces are none, (is, inl (few, c.in-Ok.ensures.bytes.1 c.if-n-eq0.true (search rules), within)))

pub returns-in_err-extend_from_slice : goal.returns-in_err-extend_from_slice
returns-in_err-extend_from_slice g c =
    let (pieces, are, number, is, sum) = c.loop-reads.invariant.read in
    let buf = c.read_piece.new.piece in
    let piece : List ℕ = take c.in-Ok.n buf in
    let some : ¬ (c.in-Ok.n ≡ 0) = c.if-n-eq0.false in
    let inside : c.in-Ok.n ≤ length buf = c.in-Ok.ensures.bound.0 in
    let small : length buf ≤ longest_piece = search rules in
    let few : length pieces < most_reads = search rules in
    let within : length (concat (pieces ++ piece ∷ [])) ≤ c.args.limit + 1 = omega (arith, sum, longer pieces piece, length-take-le c.in-Ok.n buf inside, c.in-Ok.ensures.bound.1) in
    broken_memory c.args.limit _ _ c.from_residual.result Memory c.from_residual.ensures.1 refl (
      pieces ++ piece ∷ [],
      read-more _ _ _ pieces piece are (is_piece _ _ some inside small) c.in-Ok.ensures.bytes.0,
      (within, omega (arith, few, one_longer pieces piece (length pieces) refl)),
    )

pub returns-then-count-room : goal.returns-then-count-room
returns-then-count-room g c =
    let (pieces, are, number, is, sum) = c.loop-reads.invariant.read in
    let buf = c.read_piece.new.piece in
    let piece : List ℕ = take c.in-Ok.n buf in
    let some : ¬ (c.in-Ok.n ≡ 0) = c.if-n-eq0.false in
    let inside : c.in-Ok.n ≤ length buf = c.in-Ok.ensures.bound.0 in
    let small : length buf ≤ longest_piece = search rules in
    let few : length pieces < most_reads = search rules in
    let beyond : length (concat (pieces ++ piece ∷ [])) ≡ c.args.limit + 1 = omega (arith, sum, longer pieces piece, length-take-le c.in-Ok.n buf inside, c.in-Ok.ensures.bound.1, c.if-count-room.true) in (
      pieces ++ piece ∷ [],
      read-more _ _ _ pieces piece are (is_piece _ _ some inside small) c.in-Ok.ensures.bytes.0,
      (
        bytes-more pieces piece c.loop-reads.bytes.items _ is (search rules),
        inr (omega (arith, few, one_longer pieces piece (length pieces) refl), beyond),
      ),
    )

pub loop-reads-preserved : goal.loop-reads-preserved
loop-reads-preserved g c =
    let (pieces, are, number, is, sum) = c.loop-reads.invariant.read in
    let buf = c.read_piece.new.piece in
    let piece : List ℕ = take c.in-Ok.n buf in
    let some : ¬ (c.in-Ok.n ≡ 0) = c.if-n-eq0.false in
    let inside : c.in-Ok.n ≤ length buf = c.in-Ok.ensures.bound.0 in
    let small : length buf ≤ longest_piece = search rules in
    record {
      few = search rules;
      read = (
        pieces ++ piece ∷ [],
        read-more _ _ _ pieces piece are (is_piece _ _ some inside small) c.in-Ok.ensures.bytes.0,
        one_longer pieces piece c.loop-reads.reads number,
        bytes-more pieces piece c.loop-reads.bytes.items _ is (search rules),
        omega (arith, sum, longer pieces piece, length-take-le c.in-Ok.n buf inside, c.if-count-room.false),
      );
    }

pub returns : goal.returns
returns g c =
    let (pieces, are, number, is, sum) = c.loop-reads.invariant.read in
    let many : length pieces ≡ most_reads = search rules in
    let within : length (concat pieces) ≤ c.args.limit + 1 = omega (arith, sum) in
    (pieces, are, (within, many))
