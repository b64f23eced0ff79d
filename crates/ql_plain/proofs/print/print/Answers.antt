use Rattle.std.proofs.Common.{◌≡◌, ℕ, ◌++◌, List, Vec, Global, Bool, true, take, sym, ap, subst, ◌∙◌, arith}
use Rattle.std.proofs.lemmas.List.{take_all}
use Rattle.std.proofs.lemmas.List.Sums.{count_by-le-length, length-filter}
use Rattle.std.specs.List.{Contains, filter, flat_map}
use Rattle.osm_model.specs.Elements.{Element}
use Rattle.osm_model.specs.declared.reference.Ref.{Ref}
use Rattle.opl_codec.specs.Text.{text_of}
use Rattle.ql_plain.proofs.Printing.{cut_is, in_set, left_none, left_one, of_set, not_next, printed_none, printed_one}
use Rattle.ql_meaning.specs.Meanings.{cut, is_in}
use Rattle.ql_plain.proofs.print.print.Goals as goal
use Rattle.ql_plain.proofs.print.print.Goals.{then-is_next+in_ok-write_object, else-is_next}

pub loop-object-preserved : goal.loop-object-preserved
loop-object-preserved c =
    let refs = c.args.refs.now in
    let Is : Element → Bool = λ o. is_in refs o in
    let line : Element → List ℕ = λ o. text_of o c.args.mode in
    let objects = c.as_slice-objects.result.now in
    let k = c.loop-object.object-index in
    let o = c.object-item.result in
    let lt = c.loop-object-test.true in
    let is = c.object-item.is in
    let most = c.unwrap_or-left.result in
    let left = c.loop-object.left in
    let so = c.loop-object.invariant.left in
    let old = c.args.text.now.items in
    let text = c.loop-object.text.items in
    let printed = c.loop-object.invariant.printed in
    elim c.if-is_next.branch [
      | then-is_next+in_ok-write_object w ↦
          (let next = c.is_next.ensures.0 w.if-is_next.true in
          let taken = in_set refs o (subst (λ (r : Ref). Contains refs r) c.reference.ensures.value next.1) in
          record {
            printed = ap (λ (v : Vec ℕ Global). v.items) w.text-is ∙ printed_one Is line objects k o lt is most left so old text printed _ taken next.0 w.in_ok-write_object.ensures.written;
            left = w.left-is ∙ left_one Is line objects k o lt is most left so old text printed taken next.0;
          })
      | else-is_next w ↦
          (let none : Is o ≡ true → left ≡ 0 = λ taken. not_next left (Contains refs c.reference.result) c.is_next.result c.is_next.ensures w.if-is_next.false (subst (λ (r : Ref). Contains refs r) (sym c.reference.ensures.value) (of_set refs o taken)) in
          record {
            printed = printed_none Is line objects k o lt is most left so old text printed _ (ap (λ (v : Vec ℕ Global). v.items) w.text-is) none;
            left = left_none Is line objects k o lt is most left so old text printed _ w.left-is none;
          })
    ]

pub returns : goal.returns
returns c =
    let refs = c.args.refs.now in
    let Is : Element → Bool = λ o. is_in refs o in
    let line : Element → List ℕ = λ o. text_of o c.args.mode in
    let objects = c.as_slice-objects.result.now in
    let old = c.args.text.now.items in
    let whole : take c.loop-object.object-index objects ≡ objects = take_all c.loop-object.object-index objects c.loop-object-test.false in
    c.loop-object.invariant.printed
    ∙ ap (λ (os : List Element). old ++ flat_map line (take c.unwrap_or-left.result (filter Is os))) whole
    ∙ ap (λ (n : ℕ). old ++ flat_map line (take n (filter Is objects))) c.unwrap_or-left.ensures
    ∙ ap (λ (os : List Element). old ++ flat_map line os) (cut_is c.args.limit (filter Is objects) _ (omega (arith, length-filter Is objects, count_by-le-length Is objects)))
    ∙ ap (λ (os : List Element). old ++ flat_map line (cut c.args.limit (filter Is os))) c.as_slice-objects.ensures.value
