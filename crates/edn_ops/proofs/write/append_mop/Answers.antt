use Rattle.std.proofs.Common.{◌∙◌, ◌++◌, Some, ap}
use Rattle.std.specs.Prelude.{codes}
use Rattle.edn_ops.proofs.Appended.{then_extended, longer, longer_itself, longer_than, longer_unless, on_err}
use Rattle.edn_ops.proofs.MopTexts.{key_of, value_of, parts, appended_in_a_row}
use Rattle.edn_ops.proofs.write.append_mop.Goals as goal

pub append_value-requires : goal.append_value-requires
append_value-requires c = (Some (key_of c.requires.0), (parts c.args.mop c.requires.0 c.requires.1).key)

pub returns-in_err-extend_from_slice-2-clause-err : goal.returns-in_err-extend_from_slice-2-clause-err
returns-in_err-extend_from_slice-2-clause-err c =
    let key = c.in_ok-append_value.ensures.ok (Some (key_of c.requires.0)) (parts c.args.mop c.requires.0 c.requires.1).key in
    on_err _
    (longer_than _ _ _ (longer_itself _ _ c.in_err-extend_from_slice-2.ensures.items)
    (longer_than _ _ _ (longer _ _ _ key) (longer _ _ _ c.in_ok-extend_from_slice.ensures.items)))

pub append_value-requires-2 : goal.append_value-requires-2
append_value-requires-2 c = (value_of c.requires.0, (parts c.args.mop c.requires.0 c.requires.1).value)

pub returns-in_err-append_value-2-clause-err : goal.returns-in_err-append_value-2-clause-err
returns-in_err-append_value-2-clause-err c =
    let key = c.in_ok-append_value.ensures.ok (Some (key_of c.requires.0)) (parts c.args.mop c.requires.0 c.requires.1).key in
    on_err _
    (longer_than _ _ _ c.in_err-append_value-2.ensures.err
    (longer_than _ _ _ (longer _ _ _ c.in_ok-extend_from_slice-2.ensures.items)
    (longer_than _ _ _ (longer _ _ _ key) (longer _ _ _ c.in_ok-extend_from_slice.ensures.items))))

pub returns-clause-ok : goal.returns-clause-ok
returns-clause-ok c m h =
    let p = parts c.args.mop m h in
    let first = c.in_ok-extend_from_slice.ensures.items in
    let key = c.in_ok-append_value.ensures.ok (Some (key_of m)) p.key in
    let gap = c.in_ok-extend_from_slice-2.ensures.items in
    let value = c.in_ok-append_value-2.ensures.ok (value_of m) p.value in
    then_extended c.extend_from_slice-3.result _ c.append_value-2.new.out.items (codes "]") c.extend_from_slice-3.ensures.items
    (λ last.
    appended_in_a_row _ _ _ _ _ _ _ _ _ _ _ (first ∙ ap (λ xs. c.args.out.now.items ++ xs) c.mop_front.ensures) key gap value last
    ∙ ap (λ xs. c.args.out.now.items ++ xs) p.text)

pub returns-clause-err : goal.returns-clause-err
returns-clause-err c =
    let key = c.in_ok-append_value.ensures.ok (Some (key_of c.requires.0)) (parts c.args.mop c.requires.0 c.requires.1).key in
    let value = c.in_ok-append_value-2.ensures.ok (value_of c.requires.0) (parts c.args.mop c.requires.0 c.requires.1).value in
    on_err _
    (longer_than _ _ _ (longer_unless _ _ _ _ c.extend_from_slice-3.ensures.items)
    (longer_than _ _ _ (longer _ _ _ value)
    (longer_than _ _ _ (longer _ _ _ c.in_ok-extend_from_slice-2.ensures.items)
    (longer_than _ _ _ (longer _ _ _ key) (longer _ _ _ c.in_ok-extend_from_slice.ensures.items)))))
