use Rattle.std.proofs.Common.{refl, arith, not}
use Rattle.std.specs.Char.{is_ascii_digit}
use Rattle.hist_types.specs.Bytes.{is_blank, is_run_byte}
use Rattle.edn_lex.specs.Kinds.{is_low}
use Rattle.edn_lex.specs.declared.scan.TheConstants.{FLAGS, NOT_DIGIT, PAST_ASCII, BLANK, ENDS_RUN}
use Rattle.edn_lex.proofs.Flags.{agree_below, from_table}
use Rattle.edn_lex.proofs.scan.flags_of.Goals as goal

pub returns-clause-run : goal.returns-clause-run
unfolding agree_below
returns-clause-run c = from_table FLAGS ENDS_RUN (λ b. not (is_run_byte b)) c.args.b (omega arith) refl

pub returns-clause-blank : goal.returns-clause-blank
unfolding agree_below
returns-clause-blank c = from_table FLAGS BLANK is_blank c.args.b (omega arith) refl

pub returns-clause-ascii : goal.returns-clause-ascii
unfolding agree_below
returns-clause-ascii c = from_table FLAGS PAST_ASCII (λ b. not (is_low b)) c.args.b (omega arith) refl

pub returns-clause-digit : goal.returns-clause-digit
unfolding agree_below
returns-clause-digit c = from_table FLAGS NOT_DIGIT (λ b. not (is_ascii_digit b)) c.args.b (omega arith) refl
