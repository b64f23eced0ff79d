use Rattle.std.proofs.Common.{◌≡◌, ◌≢◌, ◌++◌, ◌∷◌, [], ℕ, ◌+◌, ◌-◌, ◌<◌, ◌≤◌, List, length, Bool, refl, sym, ap, ◌∙◌, arith}
use Rattle.tree_build.specs.Shapes.{shape_of}
use Rattle.tree_node.specs.NodeRefs.{link_of, number_of}
use Rattle.tree_node.specs.Nodes.{Link, Node}
use Rattle.tree_node.specs.Trees.{Shape}
use Rattle.tree_stream.specs.internal.Cutting.{inner_done, links_left}
use Rattle.tree_stream.specs.internal.Holding.{HoldsAt}
use Rattle.tree_stream.specs.internal.Opening.{CanAdd}
use Rattle.tree_stream.proofs.OkLemmas.{on_ok, on_ok_all}
use Rattle.tree_stream.proofs.OpenLemmas.{add_closed, add_next, add_open, ends_in, low, parent, piece, piece_few, piece_held, piece_within}
use Rattle.tree_stream.proofs.add.+add.Goals as goal

-- whether the piece ends, as the code asks it
told_by : (shape : Shape) (number : ℕ) (left : List Link) (link : Link) (ended : Bool) → number ≡ length left + 1 → ended ≡ ends_in shape number link → ended ≡ ends_in shape (length left + 1) link
told_by shape number left link ended counted told = told ∙ ap (λ (m : ℕ). ends_in shape m link) counted

pub returns-then-not-inner_ends-clause-added : goal.returns-then-not-inner_ends-clause-added
returns-then-not-inner_ends-clause-added g t c = λ nodes node can.
    let left = links_left (shape_of c.args.shape) nodes in
    let held = piece_held _ _ _ _ _ _ _ _ can in
    let told = told_by (shape_of c.args.shape) c.in_ok-number.number left (link_of c.args.child.now) c.inner_ends.result (c.in_ok-number.ensures.number left held) (c.inner_ends.ensures (link_of c.args.child.now) refl) in
    add_open _ _ _ _ _ _ _ _ can c.inner_ends.result told c.if-not-inner_ends.true c.push_at.new.levels.items
    (c.in_ok-number.ensures.here left held) c.in_ok-number.ensures.others c.in_ok-number.ensures.len

pub write_at-requires-clause-there : goal.write_at-requires-clause-there
write_at-requires-clause-there g t c =
    let can = c.requires.2 in
    let left = links_left (shape_of c.args.shape) c.requires.0 in
    let held = piece_held _ _ _ _ _ _ _ _ can in
    let told = told_by (shape_of c.args.shape) c.in_ok-number.number left (link_of c.args.child.now) c.inner_ends.result (c.in_ok-number.ensures.number left held) (c.inner_ends.ensures (link_of c.args.child.now) refl) in
    let under = low _ _ _ _ _ _ _ _ can c.inner_ends.result told c.if-not-inner_ends.false in
    (omega (arith, c.in_ok-number.ensures.len, can.reach), omega (arith, under))

pub write_at-requires-clause-held : goal.write_at-requires-clause-held
write_at-requires-clause-held g t c =
    let can = c.requires.2 in
    let held = piece_held _ _ _ _ _ _ _ _ can in
    (piece _ _ _ _ _ _ _ _ can, c.in_ok-number.ensures.here (links_left (shape_of c.args.shape) c.requires.0) held, piece_few _ _ _ _ _ _ _ _ can, piece_within _ _ _ _ _ _ _ _ can)

pub add-requires : goal.add-requires
add-requires g t c κs within =
    let can = c.requires.2 in
    let left = links_left (shape_of c.args.shape) c.requires.0 in
    let held = piece_held _ _ _ _ _ _ _ _ can in
    let told = told_by (shape_of c.args.shape) c.in_ok-number.number left (link_of c.args.child.now) c.inner_ends.result (c.in_ok-number.ensures.number left held) (c.inner_ends.ensures (link_of c.args.child.now) refl) in
    let under = low _ _ _ _ _ _ _ _ can c.inner_ends.result told c.if-not-inner_ends.false in
    let here = c.in_ok-number.ensures.here left held in
    let links = piece _ _ _ _ _ _ _ _ can in
    let put = c.in_ok-sum.ensures.put links here in
    let next = link_of (record { greatest = c.args.child.now.greatest; number = c.in_ok-sum.sum.number; digest = c.in_ok-sum.sum.digest }) in (
      omega (arith, under, c.decreases),
      (
        within,
        (
          inner_done (shape_of c.args.shape) (number_of c.args.tree) (c.args.at + 1) c.requires.0,
          parent _ _ _ _ _ _ _ _ can c.inner_ends.result told c.if-not-inner_ends.false,
          add_next _ _ _ _ _ _ _ _ can c.inner_ends.result told c.if-not-inner_ends.false next refl c.in_ok-sum.sum refl refl (c.in_ok-sum.ensures.states links here)
              c.write_at.new.levels.items (g.W.NodeWriter.given c.write_at.new.writer)
              (λ place ls ne h. c.in_ok-sum.ensures.others place ls ne (c.in_ok-number.ensures.others place ls ne h)) (c.in_ok-sum.ensures.len ∙ c.in_ok-number.ensures.len) put.others,
        ),
      ),
    )

pub returns-clause-added : goal.returns-clause-added
returns-clause-added g t c = λ nodes node can.
    let left = links_left (shape_of c.args.shape) nodes in
    let held = piece_held _ _ _ _ _ _ _ _ can in
    let told = told_by (shape_of c.args.shape) c.in_ok-number.number left (link_of c.args.child.now) c.inner_ends.result (c.in_ok-number.ensures.number left held) (c.inner_ends.ensures (link_of c.args.child.now) refl) in
    let here = c.in_ok-number.ensures.here left held in
    let links = piece _ _ _ _ _ _ _ _ can in
    let put = c.in_ok-sum.ensures.put links here in
    let next = link_of (record { greatest = c.args.child.now.greatest; number = c.in_ok-sum.sum.number; digest = c.in_ok-sum.sum.digest }) in
    on_ok_all c.add.result
    (λ added below same reach. add_closed _ _ _ _ _ _ _ _ can c.inner_ends.result told c.if-not-inner_ends.false c.write_at.new.levels.items c.add.new.levels.items
    (g.W.NodeWriter.given c.write_at.new.writer) (g.W.NodeWriter.given c.add.new.writer) c.in_ok-sum.ensures.left put below same reach added)
    (c.add.ensures.added _ _ (add_next _ _ _ _ _ _ _ _ can c.inner_ends.result told c.if-not-inner_ends.false next refl c.in_ok-sum.sum refl refl (c.in_ok-sum.ensures.states links here)
    c.write_at.new.levels.items (g.W.NodeWriter.given c.write_at.new.writer)
    (λ place ls ne h. c.in_ok-sum.ensures.others place ls ne (c.in_ok-number.ensures.others place ls ne h)) (c.in_ok-sum.ensures.len ∙ c.in_ok-number.ensures.len) put.others))
    c.add.ensures.below c.add.ensures.given c.add.ensures.reach

pub returns-clause-given : goal.returns-clause-given
returns-clause-given g t c =
    let can = c.requires.2 in
    let held = piece_held _ _ _ _ _ _ _ _ can in
    let put = c.in_ok-sum.ensures.put (piece _ _ _ _ _ _ _ _ can) (c.in_ok-number.ensures.here (links_left (shape_of c.args.shape) c.requires.0) held) in
    on_ok c.add.result (λ same level le. same level (omega (arith, le)) ∙ put.others level (omega (arith, le))) c.add.ensures.given
