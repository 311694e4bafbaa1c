-- What a session has done so far, and what a line more makes of it.
use Rattle.std.proofs.Common.{◌≡◌, ◌∙◌, ℕ, ◌+◌, List, [], ◌∷◌, ◌++◌, length, take, min, Bool, true, false, cond, Option, Some, None, Result, Ok, Err, IfOk, refl, sym, ap, subst}
use Rattle.std.specs.Io.KnownBytes.{Appends}
use Rattle.std.proofs.lemmas.List.{append-nil, append_assoc, take_at}
use Rattle.hist_types.specs.Devices.{CountsFailure}
use Rattle.hist_types.specs.LegalAnswers.{View, IsLegal}
use Rattle.hist_types.specs.Sessions.{Saying, Answering, IsReply, AreReplies, lines_of, served_lines, up_to_quit, say_quit, says_quit, saying_of}
use Rattle.hist_types.specs.declared.device.Sink.{Ghosts as Sink}
use Rattle.hist_types.specs.declared.device.Source.{Ghosts as Source}
use Rattle.live_journal.specs.Seats.{Seat, IsSameSeat}
use Rattle.hist_types.specs.Pieces.{HasTaken}
use Rattle.verdict_serve.specs.Cuts.{IsUnbroken}
use Rattle.verdict_serve.specs.Served.{joined, counted, HasServed, HasLostSource, HasLostSink, HasLostDevice, HasComeTo}
use Rattle.verdict_serve.specs.Sources.{HasGiven}
use Rattle.verdict_serve.specs.Steps.{IsLegalReply, HasAnsweredLine, HasFoundEnd, HasLostNext, HasLostReply}
use Rattle.verdict_serve.specs.declared.session.Ended.{Ended}
use Rattle.verdict_serve.specs.declared.session.Ended.TheVariants.{Quit, Eof}
use Rattle.verdict_serve.specs.declared.session.SessionFault.{SessionFault}
use Rattle.verdict_serve.specs.declared.session.SessionFault.TheVariants.{Device, Memory}
use Rattle.verdict_serve.proofs.Sessions.{AreCut, cut_more, cut_longer, lines_of-cut, lines_of-unbroken, SayNoQuit, no_quit-more, up_to_quit-none, any-none, replies_more, as_many, joined-more, counted-more}
use Rattle.verdict_serve.proofs.Windows.{given_none, given_both, failed_later}

-- ---- sinks

none_appended : (known : Option (List ℕ)) → Appends known known []
none_appended None = tt
none_appended (Some xs) = sym (append-nil xs)

appended_both : (a b c : Option (List ℕ)) (xs ys : List ℕ) → Appends a b xs → Appends b c ys → Appends a c (xs ++ ys)
appended_both None b c xs ys first second = tt
appended_both (Some p) None c xs ys first second = absurd first
appended_both (Some p) (Some q) None xs ys first second = absurd second
appended_both (Some p) (Some q) (Some r) xs ys first second = second ∙ ap (λ (t : List ℕ). t ++ ys) first ∙ append_assoc p xs ys

-- ---- which lines are served

-- a line is the first that is served, whatever it says
served_first : (quits : Bool) (l : List ℕ) (more : List (List ℕ)) → says_quit l ≡ quits → up_to_quit (l ∷ more) ≡ l ∷ cond quits [] (up_to_quit more)
served_first true l more e = rw e refl
served_first false l more e = rw e refl

-- the lines before come first
served_after : (bytes : List ℕ) (lines : List (List ℕ)) (rest : List ℕ) → AreCut bytes lines rest → SayNoQuit lines
    → served_lines bytes ≡ lines ++ up_to_quit (lines_of rest)
served_after bytes lines rest cut none = ap up_to_quit (lines_of-cut bytes lines rest cut) ∙ up_to_quit-none lines (lines_of rest) none

-- and then one more
served_with : (quits : Bool) (bytes : List ℕ) (lines : List (List ℕ)) (l rest : List ℕ) → AreCut bytes (lines ++ l ∷ []) rest → SayNoQuit lines → says_quit l ≡ quits
    → served_lines bytes ≡ (lines ++ l ∷ []) ++ cond quits [] (up_to_quit (lines_of rest))
served_with quits bytes lines l rest cut none e =
    let more = lines_of rest in
    ap up_to_quit (lines_of-cut bytes (lines ++ l ∷ []) rest cut ∙ append_assoc lines (l ∷ []) more)
    ∙ up_to_quit-none lines (l ∷ more) none
    ∙ ap (λ (ls : List (List ℕ)). lines ++ ls) (served_first quits l more e)
    ∙ sym (append_assoc lines (l ∷ []) (cond quits [] (up_to_quit more)))

-- where more bytes have no whole line, the lines before are all
served_whole :
    (bytes : List ℕ) (lines : List (List ℕ)) (unread given : List ℕ)
    → AreCut bytes lines unread
    → SayNoQuit lines
    → IsUnbroken (unread ++ given)
    → served_lines (bytes ++ given) ≡ lines
served_whole bytes lines unread given cut none unbroken =
    let cut' = cut_longer bytes lines unread given cut in
    served_after (bytes ++ given) lines (unread ++ given) cut' none
    ∙ ap (λ (ls : List (List ℕ)). lines ++ up_to_quit ls) (lines_of-unbroken (unread ++ given) unbroken)
    ∙ append-nil lines

no_quit_in :
    (bytes : List ℕ) (lines : List (List ℕ)) (unread given : List ℕ)
    → AreCut bytes lines unread
    → SayNoQuit lines
    → IsUnbroken (unread ++ given)
    → say_quit (bytes ++ given) ≡ false
no_quit_in bytes lines unread given cut none unbroken =
    let cut' = cut_longer bytes lines unread given cut in
    rw (lines_of-cut (bytes ++ given) lines (unread ++ given) cut', lines_of-unbroken (unread ++ given) unbroken, any-none lines [] none) refl

-- a line that says quit is said by the bytes
says_with : (bytes : List ℕ) (lines : List (List ℕ)) (l rest : List ℕ) → AreCut bytes (lines ++ l ∷ []) rest → SayNoQuit lines → says_quit l ≡ true → say_quit bytes ≡ true
says_with bytes lines l rest cut none e =
    rw (lines_of-cut bytes (lines ++ l ∷ []) rest cut, append_assoc lines (l ∷ []) (lines_of rest), any-none lines (l ∷ lines_of rest) none, e) refl

-- ---- sessions

-- the legal answers to a seat
abbrev legal_to : Seat → Answering
legal_to seat = IsLegal seat.keys (length seat.row) seat.number

-- answers to a seat in the same place
legal_there : (old seat new : Seat) (saying : Saying) (reply : List ℕ) → IsSameSeat old seat → IsLegalReply saying reply seat new
    → IsReply (legal_to old) saying reply seat.view new.view
legal_there old seat new saying reply same legal =
    let row = subst (λ (row : List ℕ). IsReply (IsLegal seat.keys (length row) seat.number) saying reply seat.view new.view) same.0 legal in
    let number = subst (λ (n : ℕ). IsReply (IsLegal seat.keys (length old.row) n) saying reply seat.view new.view) same.1 row in
    subst (λ keys. IsReply (IsLegal keys (length old.row) old.number) saying reply seat.view new.view) same.2 number

pub same_there : (old seat new : Seat) → IsSameSeat old seat → IsSameSeat seat new → IsSameSeat old new
same_there old seat new first second = (second.0 ∙ first.0, second.1 ∙ first.1, second.2 ∙ first.2)

module _ {S T : Type 0} (reads : Source S) (prints : Sink T) (old : Seat) (source : S) (sink : T) where
  -- lines were answered of which none said quit
  pub record Serving (unread : List ℕ) (answered : ℕ) (seat : Seat) (source' : S) (sink' : T) : Type 0 where
    pub bytes : List ℕ
    pub lines : List (List ℕ)
    pub replies : List (List ℕ)
    pub given : HasGiven reads source source' bytes
    pub cut : AreCut bytes lines unread
    pub no_quit : SayNoQuit lines
    pub replies_are : AreReplies (legal_to old) lines replies old.view seat.view
    pub printed : HasTaken prints sink sink' (joined replies)
    pub answered_are : answered ≡ counted replies
    pub same : IsSameSeat old seat

  pub nothing_served : Serving [] 0 old source sink
  nothing_served = record {
    bytes = [];
    lines = [];
    replies = [];
    given = given_none reads source;
    cut = record { whole = refl; unbroken = tt };
    no_quit = tt;
    replies_are = refl;
    printed = record { taken = none_appended (prints.contents sink); no_failure = refl };
    answered_are = refl;
    same = (refl, refl, refl);
  }

  -- the replies with one more
  with_reply :
      (replies : List (List ℕ)) (reply : List ℕ) (k k' : T)
      → HasTaken prints sink k (joined replies)
      → HasTaken prints k k' reply
      → HasTaken prints sink k' (joined (replies ++ reply ∷ []))
  with_reply replies reply k k' first second = record {
    taken = subst (Appends (prints.contents sink) (prints.contents k')) (sym (joined-more replies reply))
        (appended_both (prints.contents sink) (prints.contents k) (prints.contents k') (joined replies) reply first.taken second.taken);
    no_failure = second.no_failure ∙ first.no_failure;
  }

  pub served_more :
      (unread rest : List ℕ) (answered more : ℕ) (seat new : Seat) (s s' : S) (k k' : T)
      → Serving unread answered seat s k
      → HasAnsweredLine reads prints false unread rest seat new s s' k k'
      → IsSameSeat seat new
      → more ≡ min (answered + 1) 18446744073709551615
      → Serving rest more new s' k'
  served_more unread rest answered more seat new s s' k k' so_far one same count = record {
    bytes = so_far.bytes ++ one.given.bytes;
    lines = so_far.lines ++ one.line ∷ [];
    replies = so_far.replies ++ one.reply ∷ [];
    given = given_both reads source s s' so_far.bytes one.given.bytes so_far.given one.given.given;
    cut = cut_more so_far.bytes so_far.lines unread one.given.bytes one.line rest so_far.cut one.given.begins;
    no_quit = no_quit-more so_far.lines one.line so_far.no_quit one.says;
    replies_are = replies_more (legal_to old) so_far.lines so_far.replies one.line one.reply old.view seat.view new.view so_far.replies_are (legal_there old seat new (saying_of one.line) one.reply so_far.same one.legal);
    printed = with_reply so_far.replies one.reply k k' so_far.printed one.printed;
    answered_are = counted-more so_far.replies one.reply answered more so_far.answered_are count;
    same = same_there old seat new so_far.same same;
  }

  pub served_quit :
      (unread rest : List ℕ) (answered : ℕ) (seat new : Seat) (s s' : S) (k k' : T)
      → Serving unread answered seat s k
      → HasAnsweredLine reads prints true unread rest seat new s s' k k'
      → HasServed reads prints Quit old new source s' sink k'
  served_quit unread rest answered seat new s s' k k' so_far one =
      let bytes = so_far.bytes ++ one.given.bytes in
      let lines = so_far.lines ++ one.line ∷ [] in
      let cut = cut_more so_far.bytes so_far.lines unread one.given.bytes one.line rest so_far.cut one.given.begins in
      let served : served_lines bytes ≡ lines = served_with true bytes so_far.lines one.line rest cut so_far.no_quit one.says ∙ append-nil lines in
      let are = replies_more (legal_to old) so_far.lines so_far.replies one.line one.reply old.view seat.view new.view so_far.replies_are (legal_there old seat new (saying_of one.line) one.reply so_far.same one.legal) in
      record {
        bytes = bytes;
        replies = so_far.replies ++ one.reply ∷ [];
        given = given_both reads source s s' so_far.bytes one.given.bytes so_far.given one.given.given;
        session = subst (λ (ls : List (List ℕ)). AreReplies (legal_to old) ls (so_far.replies ++ one.reply ∷ []) old.view new.view) (sym served) are;
        printed = with_reply so_far.replies one.reply k k' so_far.printed one.printed;
        ended_so = says_with bytes so_far.lines one.line rest cut so_far.no_quit one.says;
      }

  pub served_all :
      (unread : List ℕ) (answered : ℕ) (seat new : Seat) (s s' : S) (k k' : T)
      → Serving unread answered seat s k
      → HasFoundEnd reads unread seat new s s' k k'
      → HasServed reads prints Eof old new source s' sink k'
  served_all unread answered seat new s s' k k' so_far end =
      let bytes = so_far.bytes ++ end.bytes in
      let served = served_whole so_far.bytes so_far.lines unread end.bytes so_far.cut so_far.no_quit end.unbroken in
      let are = subst (λ (v : View). AreReplies (legal_to old) so_far.lines so_far.replies old.view v) (ap (λ (x : Seat). x.view) (sym end.same_seat)) so_far.replies_are in
      record {
        bytes = bytes;
        replies = so_far.replies;
        given = given_both reads source s s' so_far.bytes end.bytes so_far.given end.given;
        session = subst (λ (ls : List (List ℕ)). AreReplies (legal_to old) ls so_far.replies old.view new.view) (sym served) are;
        printed = subst (λ (x : T). HasTaken prints sink x (joined so_far.replies)) (sym end.same_sink) so_far.printed;
        ended_so = (no_quit_in so_far.bytes so_far.lines unread end.bytes so_far.cut so_far.no_quit end.unbroken, end.at_end);
      }

  pub lost_source :
      (unread : List ℕ) (answered : ℕ) (seat new : Seat) (s s' : S) (k k' : T)
      → Serving unread answered seat s k
      → HasLostNext reads unread seat new s s' k k'
      → HasLostSource reads prints answered old new source s' sink k'
  lost_source unread answered seat new s s' k k' so_far lost =
      let given : List ℕ = lost.failed.0 in
      let bytes = so_far.bytes ++ given in
      let served = served_whole so_far.bytes so_far.lines unread given so_far.cut so_far.no_quit lost.failed.2 in
      let are = subst (λ (v : View). AreReplies (legal_to old) so_far.lines so_far.replies old.view v) (ap (λ (x : Seat). x.view) (sym lost.same_seat)) so_far.replies_are in
      record {
        bytes = bytes;
        replies = so_far.replies;
        failed = failed_later reads source s s' so_far.bytes given so_far.given lost.failed.1;
        session = subst (λ (ls : List (List ℕ)). AreReplies (legal_to old) ls so_far.replies old.view new.view) (sym served) are;
        no_quit = no_quit_in so_far.bytes so_far.lines unread given so_far.cut so_far.no_quit lost.failed.2;
        printed = subst (λ (x : T). HasTaken prints sink x (joined so_far.replies)) (sym lost.same_sink) so_far.printed;
        answered_are = so_far.answered_are;
      }

  pub lost_sink :
      (unread : List ℕ) (answered : ℕ) (seat new : Seat) (s s' : S) (k k' : T)
      → Serving unread answered seat s k
      → HasLostReply reads prints unread seat new s s' k k'
      → HasLostSink reads prints answered old new source s' sink k'
  lost_sink unread answered seat new s s' k k' so_far lost =
      let bytes = so_far.bytes ++ lost.given.bytes in
      let lines = so_far.lines ++ lost.line ∷ [] in
      let replies = so_far.replies ++ lost.reply ∷ [] in
      let cut = cut_more so_far.bytes so_far.lines unread lost.given.bytes lost.line lost.rest so_far.cut lost.given.begins in
      let are = replies_more (legal_to old) so_far.lines so_far.replies lost.line lost.reply old.view seat.view new.view so_far.replies_are (legal_there old seat new (saying_of lost.line) lost.reply so_far.same lost.legal) in
      let many = as_many (legal_to old) lines replies old.view new.view are in
      let more = cond (says_quit lost.line) [] (up_to_quit (lines_of lost.rest)) in
      let served : take (length replies) (served_lines bytes) ≡ lines =
      ap (take (length replies)) (served_with (says_quit lost.line) bytes so_far.lines lost.line lost.rest cut so_far.no_quit refl) ∙ take_at lines more (length replies) many in
      record {
        bytes = bytes;
        replies = so_far.replies;
        next = lost.reply;
        count = lost.failed.count;
        given = given_both reads source s s' so_far.bytes lost.given.bytes so_far.given lost.given.given;
        session = subst (λ (ls : List (List ℕ)). AreReplies (legal_to old) ls replies old.view new.view) (sym served) are;
        printed = appended_both (prints.contents sink) (prints.contents k) (prints.contents k') (joined so_far.replies) (take lost.failed.count lost.reply) so_far.printed.taken lost.failed.taken;
        failed = subst (λ (n : ℕ). CountsFailure n (prints.failures k')) so_far.printed.no_failure lost.failed.failed;
        answered_are = so_far.answered_are;
      }

-- ---- whichever way it ended

pub came_to :
    {S T : Type 0} (reads : Source S) (prints : Sink T) (end : Result Ended SessionFault) (old new : Seat) (source source' : S) (sink sink' : T)
    → IfOk end (λ ended. HasServed reads prints ended old new source source' sink sink')
    → ((answered : ℕ) → end ≡ Err (Device answered) → HasLostDevice reads prints answered old new source source' sink sink')
    → (end ≡ Err Memory → new ≡ old)
    → (end ≡ Err Memory → source' ≡ source)
    → (end ≡ Err Memory → sink' ≡ sink)
    → HasComeTo reads prints end old new source source' sink sink'
came_to reads prints (Ok ended) old new source source' sink sink' served lost seat from to = served
came_to reads prints (Err (Device answered)) old new source source' sink sink' served lost seat from to = lost answered refl
came_to reads prints (Err Memory) old new source source' sink sink' served lost seat from to = (seat refl, from refl, to refl)
