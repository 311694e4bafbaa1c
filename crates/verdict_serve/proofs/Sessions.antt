-- Lines and replies, one after the other.
use Rattle.std.proofs.Common.{◌≡◌, ◌∙◌, ℕ, suc, ◌+◌, List, [], ◌∷◌, ◌++◌, length, min, false, refl, sym, ap, subst, arith}
use Rattle.std.specs.List.{list_any, AllByRecursion}
use Rattle.std.specs.Prelude.{flat_map}
use Rattle.std.proofs.lemmas.Bool.{ne_eqb}
use Rattle.std.proofs.lemmas.List.{append_assoc, append-nil, length-append}
use Rattle.hist_types.specs.Bytes.{line_feed}
use Rattle.hist_types.specs.LegalAnswers.{View}
use Rattle.hist_types.specs.Sessions.{lines_of, says_quit, up_to_quit, saying_of, Answering, IsReply, AreReplies}
use Rattle.hist_types.specs.Texts.{line}
use Rattle.verdict_serve.specs.Cuts.{IsUnbroken, BeginsWithLine}
use Rattle.verdict_serve.specs.Served.{joined, counted}

-- ---- lines

pub lines_of-unbroken : (bytes : List ℕ) → IsUnbroken bytes → lines_of bytes ≡ []
lines_of-unbroken [] unbroken = refl
lines_of-unbroken (b ∷ bytes) unbroken = rw (ne_eqb b line_feed unbroken.0, lines_of-unbroken bytes unbroken.1) refl

pub lines_of-line : (l rest : List ℕ) → IsUnbroken l → lines_of (l ++ line_feed ∷ rest) ≡ l ∷ lines_of rest
lines_of-line [] rest unbroken = refl
lines_of-line (b ∷ l) rest unbroken = rw (ne_eqb b line_feed unbroken.0, lines_of-line l rest unbroken.1) refl

-- the bytes are these lines, each with its byte 10, and then the rest
pub record AreCut (bytes : List ℕ) (lines : List (List ℕ)) (rest : List ℕ) : Type 0 where
  pub whole : bytes ≡ flat_map line lines ++ rest
  pub unbroken : AllByRecursion IsUnbroken lines

lines_of-all : (lines : List (List ℕ)) (rest : List ℕ) → AllByRecursion IsUnbroken lines → lines_of (flat_map line lines ++ rest) ≡ lines ++ lines_of rest
lines_of-all [] rest unbroken = refl
lines_of-all (l ∷ lines) rest unbroken =
    let after = flat_map line lines ++ rest in
    let front : (l ++ line_feed ∷ []) ++ flat_map line lines ++ rest ≡ l ++ line_feed ∷ after =
    append_assoc (l ++ line_feed ∷ []) (flat_map line lines) rest ∙ append_assoc l (line_feed ∷ []) after in
    ap lines_of front ∙ lines_of-line l after unbroken.0 ∙ ap (λ (ls : List (List ℕ)). l ∷ ls) (lines_of-all lines rest unbroken.1)

pub lines_of-cut : (bytes : List ℕ) (lines : List (List ℕ)) (rest : List ℕ) → AreCut bytes lines rest → lines_of bytes ≡ lines ++ lines_of rest
lines_of-cut bytes lines rest cut = ap lines_of cut.whole ∙ lines_of-all lines rest cut.unbroken

flat_map-more : (lines : List (List ℕ)) (l : List ℕ) → flat_map line (lines ++ l ∷ []) ≡ flat_map line lines ++ line l
flat_map-more [] l = append-nil (line l)
flat_map-more (k ∷ lines) l = ap (λ (t : List ℕ). line k ++ t) (flat_map-more lines l) ∙ sym (append_assoc (line k) (flat_map line lines) (line l))

all-more : (lines : List (List ℕ)) (l : List ℕ) → AllByRecursion IsUnbroken lines → IsUnbroken l → AllByRecursion IsUnbroken (lines ++ l ∷ [])
all-more [] l all one = (one, tt)
all-more (k ∷ lines) l all one = (all.0, all-more lines l all.1 one)

-- one line more
pub cut_more : (bytes : List ℕ) (lines : List (List ℕ)) (unread given l rest : List ℕ) → AreCut bytes lines unread → BeginsWithLine (unread ++ given) l rest
    → AreCut (bytes ++ given) (lines ++ l ∷ []) rest
cut_more bytes lines unread given l rest cut begins =
    let before = flat_map line lines in
    record {
      whole = ap (λ (t : List ℕ). t ++ given) cut.whole
          ∙ append_assoc before unread given
          ∙ ap (λ (t : List ℕ). before ++ t) (begins.whole ∙ sym (append_assoc l (line_feed ∷ []) rest))
          ∙ sym (append_assoc before (line l) rest)
          ∙ ap (λ (t : List ℕ). t ++ rest) (sym (flat_map-more lines l));
      unbroken = all-more lines l cut.unbroken begins.unbroken;
    }

-- more bytes without a line
pub cut_longer : (bytes : List ℕ) (lines : List (List ℕ)) (unread given : List ℕ) → AreCut bytes lines unread → AreCut (bytes ++ given) lines (unread ++ given)
cut_longer bytes lines unread given cut = record {
  whole = ap (λ (t : List ℕ). t ++ given) cut.whole ∙ append_assoc (flat_map line lines) unread given;
  unbroken = cut.unbroken;
}

-- ---- quit

-- lines of which none says quit
abbrev pub SayNoQuit : List (List ℕ) → Type 0
SayNoQuit lines = AllByRecursion (λ (l : List ℕ). says_quit l ≡ false) lines

pub no_quit-more : (lines : List (List ℕ)) (l : List ℕ) → SayNoQuit lines → says_quit l ≡ false → SayNoQuit (lines ++ l ∷ [])
no_quit-more [] l none goes_on = (goes_on, tt)
no_quit-more (k ∷ lines) l none goes_on = (none.0, no_quit-more lines l none.1 goes_on)

pub up_to_quit-none : (lines more : List (List ℕ)) → SayNoQuit lines → up_to_quit (lines ++ more) ≡ lines ++ up_to_quit more
up_to_quit-none [] more none = refl
up_to_quit-none (l ∷ lines) more none = rw (none.0, up_to_quit-none lines more none.1) refl

pub any-none : (lines more : List (List ℕ)) → SayNoQuit lines → list_any says_quit (lines ++ more) ≡ list_any says_quit more
any-none [] more none = refl
any-none (l ∷ lines) more none = rw (none.0, any-none lines more none.1) refl

-- ---- replies

module _ (answers : Answering) where
  pub replies_more :
      (lines replies : List (List ℕ)) (l reply : List ℕ) (old mid new : View)
      → AreReplies answers lines replies old mid
      → IsReply answers (saying_of l) reply mid new
      → AreReplies answers (lines ++ l ∷ []) (replies ++ reply ∷ []) old new
  replies_more [] [] l reply old mid new are is = (new, subst (λ (v : View). IsReply answers (saying_of l) reply v new) are is, refl)
  replies_more [] (r ∷ replies) l reply old mid new are is = absurd are
  replies_more (k ∷ lines) [] l reply old mid new are is = absurd are
  replies_more (k ∷ lines) (r ∷ replies) l reply old mid new are is = (are.0, are.1, replies_more lines replies l reply are.0 mid new are.2 is)

  pub as_many :
      (lines replies : List (List ℕ)) (old new : View)
      → AreReplies answers lines replies old new
      → length lines ≡ length replies
  as_many [] [] old new are = refl
  as_many [] (r ∷ replies) old new are = absurd are
  as_many (l ∷ lines) [] old new are = absurd are
  as_many (l ∷ lines) (r ∷ replies) old new are = ap suc (as_many lines replies are.0 new are.2)

pub joined-more : (replies : List (List ℕ)) (reply : List ℕ) → joined (replies ++ reply ∷ []) ≡ joined replies ++ reply
joined-more [] reply = append-nil reply
joined-more (r ∷ replies) reply = ap (λ (t : List ℕ). r ++ t) (joined-more replies reply) ∙ sym (append_assoc r (joined replies) reply)

pub counted-more : (replies : List (List ℕ)) (reply : List ℕ) (answered more : ℕ) → answered ≡ counted replies → more ≡ min (answered + 1) 18446744073709551615
    → more ≡ counted (replies ++ reply ∷ [])
counted-more replies reply answered more so_far one = omega (arith, length-append replies (reply ∷ []))
