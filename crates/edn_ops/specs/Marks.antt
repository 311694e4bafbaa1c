-- What is kept of the marks that wait in a level.
use Rattle.std.specs.Prelude.{◌≡◌, ℕ, zero, suc, ◌==◌, List, [], ◌∷◌, Bool, true, false, Option, if◌then◌else◌}
use Rattle.hist_types.specs.Forms.{is_drop, has_drop, still_waiting}
use Rattle.hist_types.specs.Tokens.{Item}
use Rattle.edn_lex.specs.Kinds.{item_of}
use Rattle.edn_lex.specs.declared.types.Token.{Token}
use Rattle.edn_ops.specs.declared.marks.LastMark.{LastMark}
use Rattle.edn_ops.specs.Leads.{first_place}

-- These marks have n `#_`; after n forms tags are left, and the first is there.
abbrev pub Waits : ℕ → Option ℕ → List Item → Type 0
Waits zero tag marks = (has_drop marks ≡ false) × (tag ≡ first_place marks)
Waits (suc drops) tag marks = (has_drop marks ≡ true) × Waits drops tag (still_waiting marks)

-- how many of these marks leave a form out
abbrev pub drops_among : List Item → ℕ
drops_among [] = 0
drops_among (mark ∷ marks) = if is_drop mark then suc (drops_among marks) else drops_among marks

-- whether there is a mark
abbrev pub any_mark : List Item → Bool
any_mark [] = false
any_mark (mark ∷ marks) = true

-- ---- the last mark after which n wait

-- the marks up to the last after which n wait
abbrev pub up_to : ℕ → List Item → List Item
up_to drops [] = []
up_to drops (mark ∷ marks) =
    if drops_among (mark ∷ marks) == drops then mark ∷ marks else up_to drops marks

-- the first of them, if there is one, is at the place
abbrev pub FirstAt : List Item → ℕ → Type 0
FirstAt marks place = (mark : Item) (rest : List Item) → marks ≡ mark ∷ rest → place ≡ mark.start

abbrev pub LastAt : ℕ → List Item → ℕ → Type 0
LastAt drops marks place = FirstAt (up_to drops marks) place

abbrev pub IsLastOf : LastMark → List Item → Type 0
IsLastOf last marks = (drops_among marks ≡ last.waiting) × LastAt last.drops marks last.place

-- the token is one more of the marks
abbrev pub IsOneMore : LastMark → Token → LastMark → Type 0
IsOneMore old mark new =
    (text : List ℕ) (marks : List Item) → IsLastOf old marks →
    IsLastOf new (item_of text mark ∷ marks)

-- a form has settled against the marks
abbrev pub IsSettled : LastMark → LastMark → Type 0
IsSettled old new = (marks : List Item) → IsLastOf old marks → IsLastOf new (still_waiting marks)
