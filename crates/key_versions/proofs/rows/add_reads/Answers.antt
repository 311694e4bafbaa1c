use Rattle.std.proofs.Common.{◌≡◌, ◌<◌, ◌+◌, ◌++◌, ◌∷◌, [], ◌∙◌, List, All, length, take, drop, get_or, sym, ap, subst}
use Rattle.std.proofs.lemmas.List.{at_drop_more, take_more}
use Rattle.key_versions.specs.declared.pending.Access.{Access}
use Rattle.key_versions.specs.Rows.{Known, with_reader, read_rows}
use Rattle.key_versions.proofs.Changed.{length-change, one_read, none_read}
use Rattle.key_versions.specs.Steps.{FollowersAreUpTo}
use Rattle.key_versions.proofs.UpTo.{up_to_read}
use Rattle.key_versions.proofs.rows.add_reads.Goals.{then-not-has_version+in_ok-read, else-not-has_version}
use Rattle.key_versions.proofs.rows.add_reads.Goals as goal

pub read-requires-clause-version : goal.read-requires-clause-version
read-requires-clause-version c =
    let i = c.loop-i.i in
    let r = get_or c.args.reads.now i (record { nil = 0; version = 0 }) in
    subst (λ n. r.version < n) (sym c.loop-i.invariant.0) (c.requires.within i (record { nil = 0; version = 0 }) c.loop-i-test.true).1

pub loop-i-preserved : goal.loop-i-preserved
loop-i-preserved c =
    let i = c.loop-i.i in
    let reads = c.args.reads.now in
    let r = get_or reads i (record { nil = 0; version = 0 }) in
    let rest = drop (i + 1) reads in
    let before = take i reads in
    let step = at_drop_more (read_rows c.args.place c.args.installs.now c.loop-i.rows before) reads i (record { nil = 0; version = 0 }) c.loop-i-test.true in
    let more = take_more reads i (record { nil = 0; version = 0 }) c.loop-i-test.true in
    let behind = λ (rows : List Known) (e : read_rows c.args.place c.args.installs.now rows (before ++ r ∷ []) rest ≡ read_rows c.args.place c.args.installs.now c.loop-i.rows before (r ∷ rest)).
    ap (λ (seen : List Access). read_rows c.args.place c.args.installs.now rows seen rest) more ∙ e ∙ sym step ∙ c.loop-i.invariant.2 in
    elim c.if-not-has_version.branch [
      | then-not-has_version+in_ok-read w ↦ rw w.rows-is (
        ap length w.in_ok-read.ensures ∙ length-change (with_reader c.args.place r c.args.installs.now) r.version c.loop-i.rows ∙ c.loop-i.invariant.0,
        subst (λ (rows : List Known). All (FollowersAreUpTo c.args.place) rows) (sym w.in_ok-read.ensures) (up_to_read c.args.place r c.args.installs.now r.version c.loop-i.rows c.loop-i.invariant.1),
        behind _ (
            ap (λ (rows : List Known). read_rows c.args.place c.args.installs.now rows (before ++ r ∷ []) rest) w.in_ok-read.ensures
            ∙ one_read c.args.place c.args.installs.now c.loop-i.rows before r rest (sym w.if-not-has_version.ensures)),
      )
      | else-not-has_version w ↦ rw w.rows-is (
        c.loop-i.invariant.0,
        c.loop-i.invariant.1,
        behind c.loop-i.rows (none_read c.args.place c.args.installs.now c.loop-i.rows before r rest (sym w.if-not-has_version.ensures)),
      )
    ]
