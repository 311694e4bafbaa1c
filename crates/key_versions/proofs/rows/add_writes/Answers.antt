use Rattle.std.proofs.Common.{◌≡◌, ◌<◌, ◌+◌, ◌++◌, ◌∙◌, List, true, false, length, drop, get_or, sym, ap, subst}
use Rattle.std.proofs.lemmas.List.{at_drop_more, take_rest}
use Rattle.key_versions.specs.declared.pending.Access.{Access}
use Rattle.key_versions.specs.Rows.{Known, has_nil, with_writer, written_rows, lasts, change}
use Rattle.key_versions.proofs.Changed.{length-change, one_installed, none_installed}
use Rattle.key_versions.proofs.rows.add_writes.Goals.{then-not-over+in_ok-push, else-not-over}
use Rattle.key_versions.proofs.rows.add_writes.Goals as goal

pub write-requires : goal.write-requires
write-requires c =
    let i = c.loop-i.i in
    let w = get_or c.args.writes.now i (record { nil = 0; version = 0 }) in
    subst (λ n. w.version < n) (sym c.loop-i.invariant.0) (c.requires i (record { nil = 0; version = 0 }) c.loop-i-test.true).1

pub loop-i-preserved : goal.loop-i-preserved
loop-i-preserved c =
    let i = c.loop-i.i in
    let writes = c.args.writes.now in
    let w = get_or writes i (record { nil = 0; version = 0 }) in
    let rest = drop (i + 1) writes in
    let rows_step = at_drop_more (written_rows c.args.place c.loop-i.rows) writes i (record { nil = 0; version = 0 }) c.loop-i-test.true in
    let lasts_step = at_drop_more lasts writes i (record { nil = 0; version = 0 }) c.loop-i-test.true in
    let over : c.has_key-over.result ≡ has_nil w.nil rest = c.has_key-over.ensures ∙ ap (has_nil w.nil) (take_rest writes (i + 1)) in
    let long = ap length c.write.ensures ∙ length-change (with_writer (record { txn = c.args.place; over = c.has_key-over.result })) w.version c.loop-i.rows ∙ c.loop-i.invariant.0 in
    let rows = ap (λ (rows : List Known). written_rows c.args.place rows rest) c.write.ensures
    ∙ ap (λ b. written_rows c.args.place (change (with_writer (record { txn = c.args.place; over = b })) w.version c.loop-i.rows) rest) over
    ∙ sym rows_step ∙ c.loop-i.invariant.1 in
    elim c.if-not-over.branch [
      | then-not-over+in_ok-push w' ↦ (
          let is : has_nil w.nil rest ≡ false = sym over ∙ w'.if-not-over.true in
          (long, rows, rw (w'.installs-is, w'.in_ok-push.ensures.items) (one_installed w c.loop-i.installs.items rest is ∙ sym (ap (λ (ws : List Access). c.loop-i.installs.items ++ ws) lasts_step) ∙ c.loop-i.invariant.2)))
      | else-not-over w' ↦ (
          let is : has_nil w.nil rest ≡ true = sym over ∙ w'.if-not-over.false in
          (long, rows, rw w'.installs-is (none_installed w c.loop-i.installs.items rest is ∙ sym (ap (λ (ws : List Access). c.loop-i.installs.items ++ ws) lasts_step) ∙ c.loop-i.invariant.2)))
    ]
