use Rattle.hist_types.specs.Sessions.{served_lines}
use Rattle.verdict_serve.proofs.Alone.{session_alone}
use Rattle.verdict_serve.proofs.laws.sessions_alone.Goals as goal

pub returns : goal.returns
returns c = λ keys cells seat bytes replies new own session. session_alone keys cells seat (served_lines bytes) replies new own session
