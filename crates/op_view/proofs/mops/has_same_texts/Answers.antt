use Rattle.std.proofs.Common.{◌≡◌, ◌+◌, ◌∙◌, take, sym, ap₂, subst}
use Rattle.std.proofs.lemmas.Bool.{OnTrue_at, OnTrue_from}
use Rattle.op_view.proofs.SameMops.{same_kind, alike}
use Rattle.op_view.proofs.mops.has_same_texts.Goals as goal

pub returns : goal.returns
returns c =
    let a = c.args.text.now in
    let b = c.args.other_text.now in
    let m = c.args.mop in
    let len = ap₂ (λ k v. k + v) c.from.ensures c.written_len-value_len.ensures in
    OnTrue_from _ _ (λ is.
    alike a b m c.args.other (same_kind m.is_write c.args.other.is_write c.if-mop-other.false) c.if-mop-other-2.false (sym c.written_len-value_len.ensures ∙ (c.if-value_len-written_len.false ∙ c.written_len.ensures))
    (subst (λ n. take n a ≡ take n b) len (OnTrue_at is c.begin_alike.ensures)))
