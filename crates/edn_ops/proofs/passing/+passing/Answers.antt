use Rattle.std.proofs.Common.{◌≡◌, ℕ, ◌+◌, ◌-◌, [], ◌∷◌, ◌++◌, ap, arith, subst}
use Rattle.hist_types.specs.Forms.{collection, forms_of}
use Rattle.hist_types.specs.Tokens.{closer_of}
use Rattle.edn_lex.specs.Kinds.{kind_of, item_of}
use Rattle.edn_ops.specs.Flat.{PassesAhead}
use Rattle.edn_ops.proofs.FlatForms.{nothing_up_to, one_up_to, collection_ahead, passes_opener, passes_closer, passes_lone, lone_kind}
use Rattle.edn_ops.proofs.passing.+passing.Goals as goal

pub collection_end-loop-token-init : goal.collection_end-loop-token-init
collection_end-loop-token-init t c = ([], nothing_up_to c.args.text.now c.args.levels c.args.opener.end c.if-opener-text.false)

pub collection_end-returns-then-is_closed_by : goal.collection_end-returns-then-is_closed_by
collection_end-returns-then-is_closed_by t c offset g =
    let text = c.args.text.now in
    let opener = c.args.opener in
    let closer = c.in-Some.token in
    let inside = c.loop-token.invariant in
    let is_opener = ap kind_of c.requires in
    let is_closer = ap kind_of (c.closes.ensures.yes c.if-closes.true) in (
      collection (item_of text opener) (item_of text closer) (forms_of inside.0),
      collection_ahead text c.args.levels offset c.loop-token.at (closer_of (item_of text opener).bytes) opener closer inside.0 is_opener (passes_opener text offset opener is_opener g) inside.1 is_closer
          (passes_closer text c.loop-token.at (closer_of (item_of text opener).bytes) closer is_closer (c.is_closed_by.ensures c.if-is_closed_by.true) c.in-Some.ensures.gives),
    )

pub collection_end-loop-token-smaller : goal.collection_end-loop-token-smaller
collection_end-loop-token-smaller t c =
    let one = c.in_ok-at.ensures c.loop-token.at c.in-Some.ensures.gives in
    let further = one.1.further in
    let within = one.1.within in
    omega arith

pub collection_end-loop-token-preserved : goal.collection_end-loop-token-preserved
collection_end-loop-token-preserved t c =
    let front = c.loop-token.invariant in
    let one = c.in_ok-at.ensures c.loop-token.at c.in-Some.ensures.gives in
    (front.0 ++ one.0 ∷ [], one_up_to c.args.text.now c.args.levels c.args.opener.end front.0 c.loop-token.at one.0 c.in_ok-at.at front.1 one.1)

pub form_end-returns-else-levels-eq0 : goal.form_end-returns-else-levels-eq0
form_end-returns-else-levels-eq0 t c offset g =
    let some = c.if-levels-eq0.false in
    let n : c.args.levels - 1 + 1 ≡ c.args.levels = omega arith in
    subst (λ (deep : ℕ). PassesAhead c.args.text.now deep offset c.collection_end.result) n (c.collection_end.ensures offset g)

pub form_end-returns-in_default : goal.form_end-returns-in_default
form_end-returns-in_default t c offset g =
    passes_lone c.args.text.now c.args.levels offset c.args.token (lone_kind c.args.token.kind c.in_default.not-Open c.in_default.not-Close c.in_default.not-Drop c.in_default.not-Tag) g
