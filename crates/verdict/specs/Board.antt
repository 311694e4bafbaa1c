-- What is known of the phenomena that cycles show, while a verdict is made.
use Rattle.std.specs.Prelude.{◌≡◌, ◌<◌, ◌≤◌, ◌+◌, ◌⊎◌, ℕ, List, IfSome, IsSomeAnd}
use Rattle.cycle_find.specs.Found.{ShowsByFewest}
use Rattle.hist_types.specs.Edges.{Edge, edges_at}
use Rattle.hist_types.specs.Phenomena.{height, IsThere, Shows}
use Rattle.hist_types.specs.Transactions.{Transaction}
use Rattle.hist_types.specs.Witness.{dependencies_in}
use Rattle.hist_types.specs.declared.types.KeyOrder.{KeyOrder}
use Rattle.hist_types.specs.declared.types.Level.{Level}
use Rattle.hist_types.specs.declared.types.Level.TheVariants.{Realtime}
use Rattle.hist_types.specs.declared.types.Phenomenon.{Phenomenon}
use Rattle.hist_types.specs.declared.types.Phenomenon.TheVariants.{G0, G1c, GSingle, G2Item}
use Rattle.verdict.specs.declared.board.Board.{Board}
use Rattle.verdict.specs.declared.known.Known.{Known}

-- what is known of the phenomenon
abbrev pub known : Board → Phenomenon → Known
known board G0 = board.g0
known board G1c = board.g1c
known board GSingle = board.single
known board G2Item = board.item

-- ---- right

-- the phenomenon is there at no level lower than this height
abbrev pub IsNotBelow : (top : ℕ) → KeyOrder → Phenomenon → List Transaction → Type 0
IsNotBelow top keys phenomenon ts =
    (level : Level) → height level < top → ¬ IsThere keys phenomenon level ts

-- each walk that shows the phenomenon at a level of this height has so many dependency edges at
-- least
abbrev pub Needs : (least top : ℕ) → KeyOrder → Phenomenon → List Transaction → Type 0
Needs least top keys phenomenon ts =
    (level : Level) (walk : List Edge)
    → height level ≡ top
    → Shows phenomenon (edges_at keys level ts) walk
    → least ≤ dependencies_in walk

-- what is known of the phenomenon is so
pub record IsKnown (keys : KeyOrder) (phenomenon : Phenomenon) (ts : List Transaction)
    (about : Known) : Type 0 where
  pub none_below : IsNotBelow about.none_below keys phenomenon ts
  pub needs : Needs about.needs about.none_below keys phenomenon ts
  pub seen :
      IfSome about.seen (λ seen. ShowsByFewest phenomenon (edges_at keys seen.level ts) seen.walk)

-- what is known of each phenomenon is so
abbrev pub IsRight : KeyOrder → List Transaction → Board → Type 0
IsRight keys ts board =
    (phenomenon : Phenomenon) → IsKnown keys phenomenon ts (known board phenomenon)

-- ---- settled

-- it is at no level lower than this height, or is seen at the lowest level at which it may be
abbrev pub IsSettledBelow : (top : ℕ) → Known → Type 0
IsSettledBelow top about =
    (top ≤ about.none_below)
    ⊎ IsSomeAnd about.seen (λ seen. height seen.level ≡ about.none_below)

-- it is at no level, or is seen at its lowest one
abbrev pub IsSettled : Known → Type 0
IsSettled about = IsSettledBelow (height Realtime + 1) about

-- each phenomenon is settled
abbrev pub AreSettled : Board → Type 0
AreSettled board = (phenomenon : Phenomenon) → IsSettled (known board phenomenon)

-- what was settled below some height still is
abbrev pub IsStillSettled : (before after : Known) → Type 0
IsStillSettled before after = (top : ℕ) → IsSettledBelow top before → IsSettledBelow top after

abbrev pub AreStillSettled : (before after : Board) → Type 0
AreStillSettled before after =
    (phenomenon : Phenomenon) → IsStillSettled (known before phenomenon) (known after phenomenon)
