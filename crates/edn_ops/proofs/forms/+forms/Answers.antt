use Rattle.std.proofs.Common.{◌≡◌, ℕ, ◌+◌, ◌-◌, ◌<◌, length, cond, Option, Some, Result, Ok, sym, ◌∙◌, ap, subst, arith}
use Rattle.std.proofs.lemmas.Result.{err_from_is_err_and}
use Rattle.hist_types.specs.declared.types.Fault.{Fault}
use Rattle.edn_lex.specs.declared.types.Token.{Token}
use Rattle.edn_lex.specs.Kinds.{kind_of, item_of}
use Rattle.edn_lex.specs.State.{State, Gives}
use Rattle.edn_ops.specs.declared.forms.Member.{Member}
use Rattle.edn_ops.specs.Leads.{NextMember}
use Rattle.edn_ops.proofs.Steps.{Stops-fault}
use Rattle.edn_ops.proofs.LastMark.{plain-form, role-form, closer-kind}
use Rattle.edn_ops.proofs.LeftOut.{Behind, Behind-mark, Behind-form, Behind-collection, Stops-behind, Stops-told, Stops-told_end, Stops-left_out, GivesMember-behind, GivesMember-closer, GivesMember-first, fewer_calls}
use Rattle.edn_ops.proofs.PassedOver.{Within-plain, Within-collection, PassesCollection-closer, Stops-within, Stops-within_collection, Stops-within_end, PassesCollection-forward}
use Rattle.edn_ops.proofs.Levels.{GivesMember-shorter}
use Rattle.edn_ops.proofs.forms.+forms.Goals as goal
use Rattle.edn_ops.proofs.forms.+forms.Goals.{member_behind-then-opens+in_ok-skip_collection, member_behind-else-opens}

pub member_behind-returns-in_err-token : goal.member_behind-returns-in_err-token
member_behind-returns-in_err-token t c =
    let P : Result Token Fault → Type 0 = λ x. Gives c.loop-given.lexer (Some x) c.next.new.self in
    let p = err_from_is_err_and c.from_residual.result c.from_residual.ensures.1 in
    let g = subst P c.in_err-token.was c.in-Some.ensures.steps in
    rw (p.1, p.2) (λ s first.
    Stops-behind s c.args.lexer.now c.args.mark first c.requires.mark c.loop-given.lexer c.loop-given.waiting.drops c.loop-given.waiting.tag c.loop-given.invariant.2 c.in_err-token.field-0.0
    (λ o. Stops-fault c.loop-given.lexer c.next.new.self _ c.in_err-token.field-0.0 g))

pub member_behind-loop-given-preserved-then-is_mark : goal.member_behind-loop-given-preserved-then-is_mark
member_behind-loop-given-preserved-then-is_mark t c =
    let P : Result Token Fault → Type 0 = λ x. Gives c.loop-given.lexer (Some x) c.next.new.self in
    let g = subst P c.in_ok-token.was c.in-Some.ensures.steps in (
      tt,
      tt,
      Behind-mark _ _ _ _ c.in_ok-token.token _ _ _ _ c.loop-given.invariant.2 g (sym c.is_mark.ensures ∙ c.if-is_mark.true)
          c.and-waiting.ensures.waits c.and-waiting.ensures.few,
    )

pub member_behind-returns-then-is_some : goal.member_behind-returns-then-is_some
member_behind-returns-then-is_some t c =
    let P : Result Token Fault → Type 0 = λ x. Gives c.loop-given.lexer (Some x) c.next.new.self in
    let g = subst P c.in_ok-token.was c.in-Some.ensures.steps in
    let b = c.loop-given.invariant.2 in
    λ s first. Stops-behind s c.args.lexer.now c.args.mark first c.requires.mark c.loop-given.lexer c.loop-given.waiting.drops c.loop-given.waiting.tag b c.dangling.result
    (Stops-told c.args.lexer.now c.loop-given.lexer c.next.new.self c.args.mark c.in_ok-token.token c.loop-given.waiting.drops c.loop-given.waiting.tag b g
    (ap kind_of (c.closes.ensures.yes c.if-closes.true)) (sym (c.is_some.ensures b.marks b.waits) ∙ c.if-is_some.true)
    c.copy-start.result c.copy-start.ensures c.dangling.result c.dangling.ensures)

pub member_behind-returns-then-closes : goal.member_behind-returns-then-closes
member_behind-returns-then-closes t c =
    let P : Result Token Fault → Type 0 = λ x. Gives c.loop-given.lexer (Some x) c.next.new.self in
    let g = subst P c.in_ok-token.was c.in-Some.ensures.steps in
    let b = c.loop-given.invariant.2 in
    λ s first. GivesMember-closer s c.args.lexer.now c.args.mark first c.requires.mark c.loop-given.lexer c.next.new.self c.in_ok-token.token _ _ b g
    (sym c.is_mark.ensures ∙ c.if-is_mark.false) (sym (c.is_some.ensures b.marks b.waits) ∙ c.if-is_some.false)

pub member_behind-returns-then-waiting-eq0 : goal.member_behind-returns-then-waiting-eq0
member_behind-returns-then-waiting-eq0 t c =
    let P : Result Token Fault → Type 0 = λ x. Gives c.loop-given.lexer (Some x) c.next.new.self in
    let g = subst P c.in_ok-token.was c.in-Some.ensures.steps in
    let Q : ℕ → Type 0 = λ n. Behind c.args.lexer.now (item_of c.args.lexer.now.text c.args.mark) c.loop-given.lexer n c.loop-given.waiting.tag in
    let b = subst Q c.if-waiting-eq0.true c.loop-given.invariant.2 in
    λ s first. GivesMember-behind s c.args.lexer.now c.args.mark first c.requires.mark c.loop-given.lexer c.next.new.self c.in_ok-token.token c.loop-given.waiting.tag b g
    (sym c.is_mark.ensures ∙ c.if-is_mark.false) (λ h. c.closes.ensures.no c.if-closes.false (closer-kind c.in_ok-token.token.kind h))

pub member_behind-returns-in_err-skip_collection : goal.member_behind-returns-in_err-skip_collection
member_behind-returns-in_err-skip_collection t c =
    let P : Result Token Fault → Type 0 = λ x. Gives c.loop-given.lexer (Some x) c.next.new.self in
    let g = subst P c.in_ok-token.was c.in-Some.ensures.steps in
    let p = err_from_is_err_and c.from_residual-in_err-skip_collection.result c.from_residual-in_err-skip_collection.ensures.1 in
    let some = c.if-waiting-eq0.false in
    rw (p.1, p.2) (λ s first.
    Stops-behind s c.args.lexer.now c.args.mark first c.requires.mark c.loop-given.lexer c.loop-given.waiting.drops c.loop-given.waiting.tag c.loop-given.invariant.2
    c.in_err-skip_collection.field-0.0
    (Stops-left_out c.args.lexer.now c.loop-given.lexer c.next.new.self _ c.in_ok-token.token _ _ c.loop-given.invariant.2 g
    (ap kind_of (c.opens.ensures.yes c.if-opens.true)) (omega arith) c.in_err-skip_collection.field-0.0 c.in_err-skip_collection.ensures))

pub member_behind-loop-given-smaller : goal.member_behind-loop-given-smaller
member_behind-loop-given-smaller t c =
    let P : Result Token Fault → Type 0 = λ x. Gives c.loop-given.lexer (Some x) c.next.new.self in
    let g = subst P c.in_ok-token.was c.in-Some.ensures.steps in
    let Q : State → Type 0 = λ u. cond u.ended 0 (length u.text - u.offset + 1) < cond c.loop-given.lexer.ended 0 (length c.loop-given.lexer.text - c.loop-given.lexer.offset + 1) in
    elim c.if-opens.branch [
      | member_behind-then-opens+in_ok-skip_collection w ↦
          (let f = PassesCollection-forward c.next.new.self w.skip_collection.new.lexer _ w.in_ok-skip_collection.ensures in
          subst Q (sym w.lexer-is) (fewer_calls c.loop-given.lexer c.next.new.self w.skip_collection.new.lexer c.in_ok-token.token g f.0 (f.1 ∙ g.text)))
      | member_behind-else-opens w ↦
          subst Q (sym w.lexer-is) (fewer_calls c.loop-given.lexer c.next.new.self c.next.new.self c.in_ok-token.token g (omega arith) g.text)
    ]

pub member_behind-loop-given-preserved : goal.member_behind-loop-given-preserved
member_behind-loop-given-preserved t c =
    let P : Result Token Fault → Type 0 = λ x. Gives c.loop-given.lexer (Some x) c.next.new.self in
    let g = subst P c.in_ok-token.was c.in-Some.ensures.steps in
    let Q : State → Type 0 = λ u. Behind c.args.lexer.now (item_of c.args.lexer.now.text c.args.mark) u (c.loop-given.waiting.drops - 1) c.loop-given.waiting.tag in
    let some = c.if-waiting-eq0.false in
    elim c.if-opens.branch [
      | member_behind-then-opens+in_ok-skip_collection w ↦ (
        tt,
        tt,
        subst Q (sym w.lexer-is) (Behind-collection _ c.loop-given.lexer c.next.new.self _ _ c.in_ok-token.token _ _ c.loop-given.invariant.2 g
            (ap kind_of (c.opens.ensures.yes w.if-opens.true)) w.in_ok-skip_collection.ensures (omega arith)),
      )
      | member_behind-else-opens w ↦
          (let none = sym c.is_mark.ensures ∙ c.if-is_mark.false in
          let a = c.opens.ensures.no w.if-opens.false in
          let b = c.closes.ensures.no c.if-closes.false in (
            tt,
            tt,
            subst Q (sym w.lexer-is) (Behind-form _ c.loop-given.lexer c.next.new.self _ c.in_ok-token.token _ _ c.loop-given.invariant.2 g
                (plain-form c.in_ok-token.token.kind none a b) (role-form c.in_ok-token.token.kind none a b) (omega arith)),
          ))
    ]

pub member_behind-returns-then-is_some-2 : goal.member_behind-returns-then-is_some-2
member_behind-returns-then-is_some-2 t c =
    let P : Option (Result Token Fault) → Type 0 = λ x. Gives c.loop-given.lexer x c.next.new.self in
    let g = subst P c.in_default.is c.next.ensures.steps in
    let b = c.loop-given.invariant.2 in
    λ s first. Stops-behind s c.args.lexer.now c.args.mark first c.requires.mark c.loop-given.lexer c.loop-given.waiting.drops c.loop-given.waiting.tag b c.dangling-then-is_some-2.result
    (Stops-told_end c.args.lexer.now c.loop-given.lexer c.next.new.self c.args.mark c.loop-given.waiting.drops c.loop-given.waiting.tag b g
    (sym (c.is_some-2.ensures b.marks b.waits) ∙ c.if-is_some-2.true)
    c.copy-start.result c.copy-start.ensures c.dangling-then-is_some-2.result c.dangling-then-is_some-2.ensures)

pub next_member-returns-else-is_mark : goal.next_member-returns-else-is_mark
next_member-returns-else-is_mark t c =
    let P : Result Token Fault → Type 0 = λ x. Gives c.args.lexer.now (Some x) c.next.new.self in
    let g = subst P c.in-Some-Ok.field-0-is c.in-Some-Ok.ensures.steps in
    GivesMember-first c.args.lexer.now c.next.new.self c.in-Some-Ok.token g (sym c.is_mark.ensures ∙ c.if-is_mark.false)

pub skip_collection-returns-in_err-member : goal.skip_collection-returns-in_err-member
skip_collection-returns-in_err-member t c =
    let p = err_from_is_err_and c.from_residual.result c.from_residual.ensures.1 in
    rw (p.1, p.2) (Stops-within c.args.lexer.now c.loop-member.lexer _ c.in_err-member.field-0.0 c.loop-member.invariant c.in_err-member.ensures)

pub skip_collection-returns-in-Close : goal.skip_collection-returns-in-Close
skip_collection-returns-in-Close t c =
    let P : Option Member → Type 0 = λ x. NextMember c.loop-member.lexer (Ok x) c.next_member.new.lexer in
    let h = subst P c.in-Some.is c.in_ok-member.ensures in
    PassesCollection-closer c.args.lexer.now c.loop-member.lexer c.next_member.new.lexer _ c.in-Some.member c.loop-member.invariant h c.in-Close.is

pub skip_collection-skip_collection-requires : goal.skip_collection-skip_collection-requires
skip_collection-skip_collection-requires t c =
    let P : Option Member → Type 0 = λ x. NextMember c.loop-member.lexer (Ok x) c.next_member.new.lexer in
    let h = subst P c.in-Some.is c.in_ok-member.ensures in
    let short = GivesMember-shorter c.loop-member.lexer c.next_member.new.lexer c.in-Some.member h in
    let low = c.loop-member.invariant.forward in
    let same : length c.loop-member.lexer.text ≡ length c.args.lexer.now.text = ap length c.loop-member.invariant.text in
    let after : length c.next_member.new.lexer.text ≡ length c.loop-member.lexer.text = ap length short.2 in
    let measure = c.decreases in
    (omega arith, tt)

pub skip_collection-loop-member-smaller-in-Continue-branch-3 : goal.skip_collection-loop-member-smaller-in-Continue-branch-3
skip_collection-loop-member-smaller-in-Continue-branch-3 t c =
    let P : Option Member → Type 0 = λ x. NextMember c.loop-member.lexer (Ok x) c.next_member.new.lexer in
    let h = subst P c.in-Some.is c.in_ok-member.ensures in
    let short = GivesMember-shorter c.loop-member.lexer c.next_member.new.lexer c.in-Some.member h in
    let low = c.loop-member.invariant.forward in
    let same : length c.loop-member.lexer.text ≡ length c.args.lexer.now.text = ap length c.loop-member.invariant.text in
    let after : length c.next_member.new.lexer.text ≡ length c.loop-member.lexer.text = ap length short.2 in
    let f = PassesCollection-forward c.next_member.new.lexer c.skip_collection.new.lexer _ c.in_ok-skip_collection-in-Open.ensures in
    let end : length c.skip_collection.new.lexer.text ≡ length c.next_member.new.lexer.text = ap length f.1 in
    omega arith

pub skip_collection-loop-member-preserved-in-Continue-branch-3 : goal.skip_collection-loop-member-preserved-in-Continue-branch-3
skip_collection-loop-member-preserved-in-Continue-branch-3 t c =
    let P : Option Member → Type 0 = λ x. NextMember c.loop-member.lexer (Ok x) c.next_member.new.lexer in
    let h = subst P c.in-Some.is c.in_ok-member.ensures in
    Within-collection c.args.lexer.now c.loop-member.lexer c.next_member.new.lexer c.skip_collection.new.lexer _ c.in-Some.member c.loop-member.invariant h
    c.in-Open.is c.in_ok-skip_collection-in-Open.ensures

pub skip_collection-returns-in_err-skip_collection-in-Open : goal.skip_collection-returns-in_err-skip_collection-in-Open
skip_collection-returns-in_err-skip_collection-in-Open t c =
    let P : Option Member → Type 0 = λ x. NextMember c.loop-member.lexer (Ok x) c.next_member.new.lexer in
    let h = subst P c.in-Some.is c.in_ok-member.ensures in
    let p = err_from_is_err_and c.from_residual-in_err-skip_collection-in-Open.result c.from_residual-in_err-skip_collection-in-Open.ensures.1 in
    rw (p.1, p.2)
    (Stops-within_collection c.args.lexer.now c.loop-member.lexer c.next_member.new.lexer _ c.in-Some.member c.in_err-skip_collection-in-Open.field-0.0
    c.loop-member.invariant h c.in-Open.is c.in_err-skip_collection-in-Open.ensures)

pub skip_collection-loop-member-smaller : goal.skip_collection-loop-member-smaller
skip_collection-loop-member-smaller t c =
    let P : Option Member → Type 0 = λ x. NextMember c.loop-member.lexer (Ok x) c.next_member.new.lexer in
    let h = subst P c.in-Some.is c.in_ok-member.ensures in
    let short = GivesMember-shorter c.loop-member.lexer c.next_member.new.lexer c.in-Some.member h in
    let low = c.loop-member.invariant.forward in
    let same : length c.loop-member.lexer.text ≡ length c.args.lexer.now.text = ap length c.loop-member.invariant.text in
    let after : length c.next_member.new.lexer.text ≡ length c.loop-member.lexer.text = ap length short.2 in
    omega arith

pub skip_collection-loop-member-preserved : goal.skip_collection-loop-member-preserved
skip_collection-loop-member-preserved t c =
    let P : Option Member → Type 0 = λ x. NextMember c.loop-member.lexer (Ok x) c.next_member.new.lexer in
    let h = subst P c.in-Some.is c.in_ok-member.ensures in
    Within-plain c.args.lexer.now c.loop-member.lexer c.next_member.new.lexer _ c.in-Some.member c.loop-member.invariant h
    c.in_default-kind.not-Open c.in_default-kind.not-Close

pub skip_collection-returns : goal.skip_collection-returns
skip_collection-returns t c =
    let P : Option Member → Type 0 = λ x. NextMember c.loop-member.lexer (Ok x) c.next_member.new.lexer in
    let h = subst P c.in_default.is c.in_ok-member.ensures in
    Stops-within_end c.args.lexer.now c.loop-member.lexer c.next_member.new.lexer _ c.loop-member.invariant h
