use Rattle.std.proofs.Common.{sym, ap}
use Rattle.hist_types.specs.Texts.{level_text}
use Rattle.report_text.proofs.lines.name_of.Goals as goal

pub returns-in-Plain : goal.returns-in-Plain
returns-in-Plain c = sym (ap level_text c.in-Plain.is)

pub returns-in-Process : goal.returns-in-Process
returns-in-Process c = sym (ap level_text c.in-Process.is)

pub returns-in-Realtime : goal.returns-in-Realtime
returns-in-Realtime c = sym (ap level_text c.in-Realtime.is)
