-- Where a level of a text ends: an open collection, or the top level.
use Rattle.std.specs.Prelude.{◌≡◌, List, [], ◌∷◌, Option}
use Rattle.hist_types.specs.Forms.{still_waiting}
use Rattle.hist_types.specs.Tokens.{Item, ItemKind, Opener, Closer, Drop, Tag}
use Rattle.hist_types.specs.declared.types.Fault.{Fault}
use Rattle.edn_lex.specs.State.{State, Rest}

-- what a token does to a level
pub data Role : Type 0 where
  opens closes waits stands : Role

abbrev pub role_of : ItemKind → Role
role_of Opener = opens
role_of Closer = closes
role_of Drop = waits
role_of Tag = waits
role_of kind = stands

-- What waits when a level ends, and the tokens from its closer on; none where the text ends before
-- it.
pub record LevelEnd : Type 0 where
  pub marks : List Item
  pub tokens : List Item

-- one token; `inner` are the openers of the collections that are open within the level, the
-- innermost first
abbrev pub passed_by :
    Role → (inner marks : List Item) → Item → List Item → (List Item → List Item → LevelEnd) →
    LevelEnd
passed_by opens inner marks t ts rest = rest (t ∷ inner) marks
passed_by closes [] marks t ts rest = record { marks = marks; tokens = t ∷ ts }
passed_by closes (i ∷ []) marks t ts rest = rest [] (still_waiting marks)
passed_by closes (i ∷ j ∷ more) marks t ts rest = rest (j ∷ more) marks
passed_by waits [] marks t ts rest = rest [] (t ∷ marks)
passed_by waits (i ∷ more) marks t ts rest = rest (i ∷ more) marks
passed_by stands [] marks t ts rest = rest [] (still_waiting marks)
passed_by stands (i ∷ more) marks t ts rest = rest (i ∷ more) marks

-- the end of the level in which these tokens begin and these marks wait
abbrev pub level_end : (inner marks : List Item) → List Item → LevelEnd
level_end inner marks [] = record { marks = marks; tokens = [] }
level_end inner marks (t ∷ ts) =
    passed_by (role_of t.kind) inner marks t ts (λ i m. level_end i m ts)

-- the same, after the closer of a collection in these
abbrev pub end_behind : (inner marks : List Item) → List Item → LevelEnd
end_behind [] marks tokens = level_end [] (still_waiting marks) tokens
end_behind (i ∷ more) marks tokens = level_end (i ∷ more) marks tokens

-- s and t are in one level, where `before` wait at s and `marks` at t
abbrev pub SameLevel : State → List Item → State → List Item → Type 0
SameLevel s before t marks =
    (tokens : List Item) (ending : Option Fault) → Rest s tokens ending →
    (later : List Item) × Rest t later ending
    × (level_end [] before tokens ≡ level_end [] marks later)

-- s is after the opener of a collection, and t after its closer
abbrev pub LevelEnds : State → State → Type 0
LevelEnds s t =
    (tokens : List Item) (ending : Option Fault) → Rest s tokens ending →
    (later : List Item) × Rest t later ending
    × ((opener : Item) (inner marks : List Item) →
    level_end (opener ∷ inner) marks tokens ≡ end_behind inner marks later)

-- These marks wait when the level ends in which s is, where `before` wait at s.
abbrev pub WaitAtEnd : State → List Item → List Item → Type 0
WaitAtEnd s before marks =
    (tokens : List Item) (ending : Option Fault) → Rest s tokens ending →
    (level_end [] before tokens).marks ≡ marks
