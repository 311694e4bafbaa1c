use Rattle.std.proofs.Common.{[], List, Ok, Some, refl, sym, subst}
use Rattle.std.proofs.lemmas.Result.{err_from_is_err_and}
use Rattle.edn_ops.specs.declared.flat.FlatFields.{FlatFields}
use Rattle.edn_ops.specs.declared.types.MopShape.{MopShape}
use Rattle.edn_ops.specs.Flat.{AreFlat, ReadsFields, fields_of}
use Rattle.edn_ops.proofs.FlatMaps.{no_fields, no_gap, transaction_reached, map_read, operation_given}
use Rattle.edn_ops.proofs.flat.flat_entry.Goals as goal

pub returns-in_default : goal.returns-in_default
returns-in_default c =
    let flat = subst (λ (shapes : List MopShape). AreFlat c.new.result shapes []) (sym c.requires.empty) c.new.ensures in
    c.in_ok-entry.ensures c.args.opener [] refl (no_fields c.args.text.now c.args.opener.end c.new.result c.args.mops.now.items c.requires.opener flat)

pub returns-in_err-entry : goal.returns-in_err-entry
returns-in_err-entry c =
    let flat = subst (λ (shapes : List MopShape). AreFlat c.new.result shapes []) (sym c.requires.empty) c.new.ensures in
    let p = err_from_is_err_and c.from_residual.result c.from_residual.ensures.1 in
    rw (p.1, p.2)
    (c.in_err-entry.ensures c.args.opener [] refl (no_fields c.args.text.now c.args.opener.end c.new.result c.args.mops.now.items c.requires.opener flat))

pub returns-in_err-end : goal.returns-in_err-end
returns-in_err-end c =
    let front = c.in-Some.ensures in
    let p = err_from_is_err_and c.from_residual-in_err-end.result c.from_residual-in_err-end.ensures.1 in
    rw (p.1, p.2) (c.in_err-end.ensures.reads c.requires.empty front.reached.1 front.opener front.end_is front.reached.2)

pub returns-in_default-map_closer : goal.returns-in_default-map_closer
returns-in_default-map_closer c =
    let text = c.args.text.now in
    let opener = c.args.opener in
    let front = c.in-Some.ensures in
    let items = c.flat_members.new.mops.items in
    let end = c.in-Some-2.end in
    let read = transaction_reached text opener.end (fields_of c.in-Some.front) [] items front.opener (Ok (Some end)) front.reached
    (λ empty at opens. rw c.in-Some-2.is at (c.in_ok-end.ensures.reads c.requires.empty at front.opener front.end_is opens)) in
    c.in_ok-entry-2.ensures opener read.0 refl (subst (λ (f : FlatFields). ReadsFields text opener.end read.0 f items end) (sym c.fields.ensures) read.1)

pub returns-in_err-entry-2 : goal.returns-in_err-entry-2
returns-in_err-entry-2 c =
    let text = c.args.text.now in
    let opener = c.args.opener in
    let front = c.in-Some.ensures in
    let items = c.flat_members.new.mops.items in
    let end = c.in-Some-2.end in
    let read = transaction_reached text opener.end (fields_of c.in-Some.front) [] items front.opener (Ok (Some end)) front.reached
    (λ empty at opens. rw c.in-Some-2.is at (c.in_ok-end.ensures.reads c.requires.empty at front.opener front.end_is opens)) in
    let p = err_from_is_err_and c.from_residual-in_err-entry-2.result c.from_residual-in_err-entry-2.ensures.1 in
    rw (p.1, p.2) (c.in_err-entry-2.ensures opener read.0 refl (subst (λ (f : FlatFields). ReadsFields text opener.end read.0 f items end) (sym c.fields.ensures) read.1))

pub returns : goal.returns
returns c =
    let text = c.args.text.now in
    let opener = c.args.opener in
    let front = c.in-Some.front in
    let is = c.in-Some.ensures in
    let mops = c.flat_members.new.mops in
    let end = c.in-Some-2.end in
    let closer = c.in-Some-map_closer in
    let within = rw c.in-Some-2.is at c.in_ok-end.ensures.within in
    let read = transaction_reached text opener.end (fields_of front) [] mops.items is.opener (Ok (Some end)) is.reached
    (λ empty at opens. rw c.in-Some-2.is at (c.in_ok-end.ensures.reads c.requires.empty at is.opener is.end_is opens)) in
    operation_given text opener (fields_of front) mops opener.start closer.closer.end front.kind front.process c.operation_of.result c.operation_of.ensures refl
    (map_read text opener.end read.0 (fields_of front) mops.items end closer.closer read.1 (closer.ensures.gives end (no_gap text end within)) closer.ensures.fits) refl (refl, sym is.mops)
