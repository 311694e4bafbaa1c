use Rattle.std.proofs.Common.{◌≡◌, ◌∙◌, sym, ap, subst}
use Rattle.std.proofs.lemmas.Option.{none-some, same_Some}
use Rattle.key_versions.specs.Histories.{writer_of}
use Rattle.key_versions.specs.declared.types.Writer.{Writer}
use Rattle.dep_edges.specs.Histories.{History}
use Rattle.dep_edges.specs.Tables.{version_at}
use Rattle.cycle_find.specs.TwoDependencies.{IsIn}
use Rattle.cycle_find.proofs.Equal.{is_not_rw}
use Rattle.cycle_find.proofs.Mutual.{starts_installed, installer_writes}
use Rattle.cycle_find.proofs.two_dependencies.TwoDependencies.mark_sources.Goals as goal

pub returns-in-Some-clause-marked : goal.returns-in-Some-clause-marked
returns-in-Some-clause-marked c = λ place source.
    let h = c.args.self.now.deps.now in
    let version = c.args.version in
    let told : c.writer.result ≡ writer_of h.txns (version_at h.table version) =
    subst (λ (h : History). c.writer.result ≡ writer_of h.txns (version_at h.table version)) c.history-history.ensures.history c.writer.ensures.value in
    let start = starts_installed h _ version place (λ same. is_not_rw c.needed.result (sym c.eq.ensures ∙ c.if-eq.false) (c.needed.ensures ∙ same)) source in
    let (w, is, at) = installer_writes h c.history-history.ensures.kept version place c.writer.result told start in
    let one = same_Some c.in-Some.writer w (sym c.in-Some.is ∙ is) in
    subst (IsIn c.add-in-Some.new.self) (ap (λ (w : Writer). w.txn) one ∙ at) c.add-in-Some.ensures.added

pub returns-in_default-clause-marked : goal.returns-in_default-clause-marked
returns-in_default-clause-marked c = λ place source.
    let h = c.args.self.now.deps.now in
    let version = c.args.version in
    let told : c.writer.result ≡ writer_of h.txns (version_at h.table version) =
    subst (λ (h : History). c.writer.result ≡ writer_of h.txns (version_at h.table version)) c.history-history.ensures.history c.writer.ensures.value in
    let start = starts_installed h _ version place (λ same. is_not_rw c.needed.result (sym c.eq.ensures ∙ c.if-eq.false) (c.needed.ensures ∙ same)) source in
    let (w, is, at) = installer_writes h c.history-history.ensures.kept version place c.writer.result told start in
    absurd (none-some w (sym c.in_default.is ∙ is))
