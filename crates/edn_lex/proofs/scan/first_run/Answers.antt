use Rattle.std.proofs.Common.{◌≡◌, drop, get_or, true, arith}
use Rattle.std.specs.Char.{is_ascii_digit}
use Rattle.std.specs.List.{prefix_len}
use Rattle.std.proofs.lemmas.List.Sums.{prefix_len-drop_yes, prefix_len-drop_no, prefix_len-drop_all}
use Rattle.hist_types.specs.Bytes.{is_run_byte}
use Rattle.edn_lex.specs.declared.scan.TheConstants.{ENDS_RUN}
use Rattle.edn_lex.specs.Kinds.{is_low}
use Rattle.edn_lex.proofs.Flags.{no_flag, some_flag, seen_more}
use Rattle.edn_lex.proofs.scan.first_run.Goals as goal
use Rattle.edn_lex.proofs.scan.first_run.Goals.{else-loop-len-test, then-loop-len-test+then-flags-ne0}

pub loop-len-preserved : goal.loop-len-preserved
loop-len-preserved c =
    let text = c.args.text.now in
    let len = c.loop-len.len in
    let flags = c.flags_of-flags.ensures in
    let runs : is_run_byte (get_or text len 0) ≡ true = no_flag _ ENDS_RUN _ c.if-flags-ne0.false flags.run in
    let more = prefix_len-drop_yes is_run_byte text len 0 c.loop-len-test.true runs in (
      omega arith,
      omega arith,
      seen_more is_low 1 text len c.loop-len.seen _ (omega arith) c.loop-len-test.true c.loop-len.invariant.2 flags.ascii,
      seen_more is_ascii_digit 0 text len c.loop-len.seen _ (omega arith) c.loop-len-test.true c.loop-len.invariant.3 flags.digit,
    )

pub returns-clause-len : goal.returns-clause-len
returns-clause-len c =
    let text = c.args.text.now in
    let len = c.loop-len.len in
    let nothing : prefix_len is_run_byte (drop len text) ≡ 0 =
    elim c.loop-len-test.branch [
      | else-loop-len-test w ↦ prefix_len-drop_all is_run_byte text len w.loop-len-test.false
      | then-loop-len-test+then-flags-ne0 w ↦
          prefix_len-drop_no is_run_byte text len 0 w.loop-len-test.true (some_flag _ ENDS_RUN _ w.if-flags-ne0.true w.flags_of-flags.ensures.run)
    ] in
    let so_far = c.loop-len.invariant.1 in
    omega arith
