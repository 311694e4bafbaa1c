use Rattle.std.proofs.Common.{◌≡◌, ◌∙◌, ap, sym, subst}
use Rattle.key_versions.specs.Histories.{writer_of}
use Rattle.dep_edges.specs.Histories.{History, AreOfHistory}
use Rattle.dep_edges.specs.Tables.{version_at}
use Rattle.dep_edges.specs.Reads.{failed_one, other_over}
use Rattle.dep_edges.proofs.Writers.{aborted_by_writer, intermediate_by_writer}
use Rattle.dep_edges.proofs.Places.{writer_told, writer_within}
use Rattle.dep_edges.proofs.history.History.writer.Goals as goal

kept : (c : goal.After-writer) → AreOfHistory c.args.self.now.txns
kept c = subst (λ (h : History). AreOfHistory h.txns) c.self.view_is c.self.invariant.kept

told : (c : goal.After-writer) → c.writer.result ≡ writer_of c.args.self.now.txns (version_at c.args.self.now.table c.args.number)
told c =
    subst (λ (h : History). c.writer.result ≡ writer_of h.txns (version_at h.table c.args.number)) c.self.view_is
    (writer_told c.self.inside.versions.now.keys c.self.inside.txns.now c.self.inside.versions.now c.args.number c.writer.result c.self.invariant.versions c.writer.ensures)

pub returns-clause-value : goal.returns-clause-value
returns-clause-value c = told c

pub returns-clause-within : goal.returns-clause-within
returns-clause-within c = writer_within c.args.self.now.txns (version_at c.args.self.now.table c.args.number) c.writer.result (told c)

pub returns-clause-aborted : goal.returns-clause-aborted
returns-clause-aborted c =
    let v = version_at c.args.self.now.table c.args.number in
    aborted_by_writer c.args.self.now.txns (kept c) v ∙ ap (failed_one c.args.self.now.txns) (sym (told c))

pub returns-clause-intermediate : goal.returns-clause-intermediate
returns-clause-intermediate c = λ reader.
    let v = version_at c.args.self.now.table c.args.number in
    intermediate_by_writer c.args.self.now.txns (kept c) reader v ∙ ap (other_over c.args.self.now.txns reader) (sym (told c))
