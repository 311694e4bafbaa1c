use Rattle.std.proofs.Common.{rules, ◌≡◌, ◌∙◌, ◌++◌, [], ℕ, Option, map, true, cond, refl, sym, ap, subst}
use Rattle.hist_types.specs.Transactions.{is_ok, external_reads}
use Rattle.hist_types.specs.Versions.{version_in}
use Rattle.key_versions.specs.Numbering.{AreAccesses}
use Rattle.key_versions.specs.LastSeen.{last_seen}
use Rattle.key_versions.specs.Steps.{seen_after, firsts, steps_to}
use Rattle.key_versions.proofs.Stepping.{stepped_ok, stepped_not}
use Rattle.key_versions.proofs.steps.Steps.take.Goals as goal

pub take_ok-requires : goal.take_ok-requires
take_ok-requires c =
    let (versions, has) = c.requires in
    let ok : c.eq.result ≡ is_ok c.args.txn.now = search rules in
    has.of_keys refl (sym ok ∙ c.if-eq.true)

pub returns-in_ok-take_ok : goal.returns-in_ok-take_ok
returns-in_ok-take_ok c = λ versions ts numbered old has sees.
    let t = c.args.txn.now in
    let last : ℕ → ℕ → Option ℕ = last_seen c.args.self.now.last in
    let before = c.args.self.now.taken.items in
    let reads = c.args.reads.now in
    let writes = c.args.writes.now in
    let seen = c.args.seen.now in
    let ok : c.eq.result ≡ is_ok t = search rules in
    let is : is_ok t ≡ true = sym ok ∙ c.if-eq.true in
    let read : AreAccesses versions (external_reads t) reads = subst (λ b. AreAccesses versions (cond b (external_reads t) []) reads) is has.reads in
    let saw : AreAccesses versions (map version_in t.mops) seen = subst (λ b. AreAccesses versions (cond b (map version_in t.mops) []) seen) is sees.seen in
    let done =
    stepped_ok ts t versions numbered reads writes seen last (last_seen c.take_ok.new.self.last)
    before c.take_ok.new.self.taken.items is read has.writes saw old.seen old.steps
    (λ one nil. c.in_ok-take_ok.ensures.last one nil ∙ ap (λ p. seen_after p seen one nil (last one nil)) c.process.ensures)
    (c.in_ok-take_ok.ensures.taken ∙ ap (λ p. before ++ steps_to (last p) (firsts reads writes)) c.process.ensures) in
    record { seen = done.0; steps = done.1 }

pub returns-else-eq : goal.returns-else-eq
returns-else-eq c = λ versions ts numbered old has sees.
    let t = c.args.txn.now in
    let ok : c.eq.result ≡ is_ok t = search rules in
    let done = stepped_not ts t versions (last_seen c.args.self.now.last) c.args.self.now.taken.items (sym ok ∙ c.if-eq.false) old.seen old.steps in
    record { seen = done.0; steps = done.1 }
