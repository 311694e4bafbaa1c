use Rattle.std.proofs.Common.{◌∙◌, ◌==◌, ◌++◌, List, Option, Some, ℕ, length, sym, ap, option_to_list, append-nil}
use Rattle.dep_edges.specs.Pieces.{Piece}
use Rattle.dep_edges.specs.Possible.{either}
use Rattle.dep_edges.proofs.Ruled.{sees_unread, sees_read}
use Rattle.dep_edges.proofs.pieces.PieceDeps.see.Goals as goal

pub returns-then-is_empty : goal.returns-then-is_empty
returns-then-is_empty c =
    sees_unread c.args.history.now c.args.self.now c.args.number
    (ap (λ (rs : List ℕ). length rs == 0) (sym c.readers.ensures.value) ∙ sym c.is_empty.ensures ∙ c.if-is_empty.true)

pub returns-in_ok-push : goal.returns-in_ok-push
returns-in_ok-push c =
    let front : List ℕ = c.args.self.now.writers in
    sees_read c.args.history.now c.args.self.now _ c.args.number c.by_reads_of.result
    (c.or-self-inside.ensures ∙ ap (λ (p : Piece). either p.possible c.by_reads_of.result) c.self.view_is)
    c.by_reads_of.ensures
    (c.in_ok-push.ensures.items
    ∙ ap (λ (p : Piece). p.writers ++ option_to_list (Some c.in-Some.place)) c.self.view_is
    ∙ ap (λ (o : Option ℕ). front ++ option_to_list o) (sym c.in-Some.is ∙ c.read_writer.ensures))

pub returns-in_default : goal.returns-in_default
returns-in_default c =
    let front : List ℕ = c.args.self.now.writers in
    sees_read c.args.history.now c.args.self.now _ c.args.number c.by_reads_of.result
    (c.or-self-inside.ensures ∙ ap (λ (p : Piece). either p.possible c.by_reads_of.result) c.self.view_is)
    c.by_reads_of.ensures
    (ap (λ (p : Piece). p.writers) c.self.view_is
    ∙ sym (append-nil front)
    ∙ ap (λ (o : Option ℕ). front ++ option_to_list o) (sym c.in_default.is ∙ c.read_writer.ensures))
