-- A line that was read and answered.
use Rattle.std.proofs.Common.{◌≡◌, ◌∙◌, ℕ, ◌<◌, List, length, Bool, true, false, Ok, Err, refl, sym, ap}
use Rattle.std.proofs.lemmas.Bool.{lt-ltb}
use Rattle.hist_types.specs.Sessions.{Saying, overlong, quit, verdict, read, import, is_quit, saying_of}
use Rattle.hist_types.specs.declared.device.Failed.{Failed}
use Rattle.hist_types.specs.declared.device.Sink.{Ghosts as Sink}
use Rattle.hist_types.specs.declared.device.Source.{Ghosts as Source}
use Rattle.hist_types.specs.declared.limits.TheConstants.{MAX_LINE_BYTES}
use Rattle.live_journal.specs.Seats.{Seat}
use Rattle.verdict_serve.specs.Cuts.{Cut}
use Rattle.verdict_serve.specs.Sources.{GivesNext}
use Rattle.verdict_serve.specs.Steps.{HasAnswered, IsSaidBy, GivesLine, HasAnsweredLine, HasStepped, step_for, HasLostReply}
use Rattle.verdict_serve.specs.declared.lines.Next.{Next}
use Rattle.verdict_serve.specs.declared.lines.Next.TheVariants.{Line, Overlong, End}

too_long : (l : List ℕ) → MAX_LINE_BYTES < length l → overlong ≡ saying_of l
too_long l long = rw (lt-ltb MAX_LINE_BYTES (length l) long) refl

module _ {S T : Type 0} (reads : Source S) (prints : Sink T) where
  -- what came says what its line says
  pub record SaysLine (saying : Saying) (before rest : List ℕ) (source source' : S) : Type 0 where
    pub line : List ℕ
    pub given : GivesLine reads before source source' line rest
    pub said_is : saying ≡ saying_of line

  pub says_line :
      (next : Next) (saying : Saying) (before : List ℕ) (source source' : S) (cut : Cut)
      → GivesNext reads next before source source' cut
      → IsSaidBy next cut.line saying
      → SaysLine saying before cut.unread source source'
  says_line Line saying before source source' cut gives is =
      record { line = cut.line; given = record { bytes = gives.0; given = gives.1; begins = gives.2.0 }; said_is = is }
  says_line Overlong saying before source source' cut gives is = record {
    line = gives.2.0;
    given = record { bytes = gives.0; given = gives.1; begins = gives.2.1 };
    said_is = is ∙ too_long gives.2.0 gives.2.2;
  }
  says_line End saying before source source' cut gives is = absurd is

  answered_line :
      (quits : Bool) (saying : Saying) (u : Unit {0}) (before rest : List ℕ) (old new : Seat) (source source' : S) (sink sink' : T)
      → is_quit saying ≡ quits
      → SaysLine saying before rest source source'
      → HasAnswered prints saying (Ok u) old new sink sink'
      → HasAnsweredLine reads prints quits before rest old new source source' sink sink'
  answered_line quits saying u before rest old new source source' sink sink' e says answered = record {
    line = says.line;
    reply = answered.reply;
    given = says.given;
    says = ap is_quit (sym says.said_is) ∙ e;
    legal = rw (sym says.said_is) answered.legal;
    printed = answered.printed;
  }

  pub stepped :
      (saying : Saying) (u : Unit {0}) (before rest : List ℕ) (old new : Seat) (source source' : S) (sink sink' : T)
      → SaysLine saying before rest source source'
      → HasAnswered prints saying (Ok u) old new sink sink'
      → HasStepped reads prints (step_for saying) before rest old new source source' sink sink'
  stepped overlong u before rest old new source source' sink sink' says answered = answered_line false overlong u before rest old new source source' sink sink' refl says answered
  stepped quit u before rest old new source source' sink sink' says answered = answered_line true quit u before rest old new source source' sink sink' refl says answered
  stepped verdict u before rest old new source source' sink sink' says answered = answered_line false verdict u before rest old new source source' sink sink' refl says answered
  stepped (read from to) u before rest old new source source' sink sink' says answered = answered_line false (read from to) u before rest old new source source' sink sink' refl says answered
  stepped (import text) u before rest old new source source' sink sink' says answered = answered_line false (import text) u before rest old new source source' sink sink' refl says answered

  pub lost_reply :
      (saying : Saying) (failed : Failed) (before rest : List ℕ) (old new : Seat) (source source' : S) (sink sink' : T)
      → SaysLine saying before rest source source'
      → HasAnswered prints saying (Err failed) old new sink sink'
      → HasLostReply reads prints before old new source source' sink sink'
  lost_reply saying failed before rest old new source source' sink sink' says answered = record {
    line = says.line;
    rest = rest;
    reply = answered.reply;
    given = says.given;
    legal = rw (sym says.said_is) answered.legal;
    failed = answered.printed;
  }
