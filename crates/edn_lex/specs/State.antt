-- What a lexer is seen as between two tokens, and what it has still to give.
use Rattle.std.specs.Prelude.{◌≡◌, ℕ, List, ◌∷◌, [], ◌++◌, take, drop, length, Bool, true, false, ◌<◌, ◌≤◌, ◌+◌, ◌-◌, cond, Option, Some, None, Result, Ok, Err, refl}
use Rattle.std.specs.Iterator.{Count, at_most}
use Rattle.std.specs.Coded.{Coded, code_by, coded×, coded_ℕ, coded_bool, coded_list}
use Rattle.hist_types.specs.declared.types.Fault.{Fault}
use Rattle.hist_types.specs.Tokens.{ItemKind, Item, IsCut, is_token, tokens_of, HasTokens, BeginsWith, BeginsWithFault, item_fault, nesting_refusal, open_after}
use Rattle.edn_lex.specs.declared.types.Token.{Token}
use Rattle.edn_lex.specs.Kinds.{kind_of, item_of}

-- The whole text, the offset up to which it has been passed, the closers that the open collections
-- wait for with the innermost first, and whether a fault has been given.
pub record State : Type 0 where
  pub text : List ℕ
  pub offset : ℕ
  pub closers : List ℕ
  pub ended : Bool

-- a state is stored as the tuple of its fields
abbrev pub state_code : Coded State
state_code =
    code_by (List ℕ × (ℕ × (List ℕ × Bool)))
    (coded× (coded_list coded_ℕ) (coded× coded_ℕ (coded× (coded_list coded_ℕ) coded_bool)))
    (λ s. (s.text, (s.offset, (s.closers, s.ended))))
    (λ p. record { text = p.0; offset = p.1.0; closers = p.1.1.0; ended = p.1.1.1 })
    (λ _. refl)

-- a lexer at this offset, where nothing is open
abbrev pub state_at : List ℕ → ℕ → State
state_at text offset = record { text = text; offset = offset; closers = []; ended = false }

-- a lexer that has given nothing yet
abbrev pub state_at_start : List ℕ → State
state_at_start text = state_at text 0

-- the text that has not been passed
abbrev pub left : State → List ℕ
left s = drop s.offset s.text

-- what is left is cut into these items, and then it ends or there is the fault
abbrev pub IsCutFrom : State → List Item → Option Fault → Type 0
IsCutFrom s items ending = IsCut (left s) s.offset s.closers items ending

-- what is left to give, by whether a fault has been given
abbrev pub RestIf : (ended : Bool) → State → List Item → Option Fault → Type 0
RestIf false s tokens ending =
    (items : List Item) × IsCutFrom s items ending × (tokens ≡ tokens_of items)
RestIf true s tokens ending = (tokens ≡ []) × (ending ≡ None)

-- What a lexer has still to give: these tokens, and then nothing or the fault. After a fault it
-- gives nothing.
abbrev pub Rest : State → List Item → Option Fault → Type 0
Rest s tokens ending = RestIf s.ended s tokens ending

-- the tokens and the ending that a lexer has still to give are such
abbrev pub GivesOnly : (List Item → Option Fault → Type 0) → State → Type 0
GivesOnly Has s =
    (tokens : List Item) (ending : Option Fault) → Rest s tokens ending → Has tokens ending

-- such tokens and such an ending are what a lexer has still to give
abbrev pub GivesAll : (List Item → Option Fault → Type 0) → State → Type 0
GivesAll Has s =
    (tokens : List Item) (ending : Option Fault) → Has tokens ending → Rest s tokens ending

-- a call gave the token, of which only blanks and comments stand in front
pub record GivesToken (s : State) (token : Token) (t : State) : Type 0 where
  pub text : t.text ≡ s.text
  pub going : s.ended ≡ false
  pub still_going : t.ended ≡ false
  pub low : s.offset ≤ token.start
  pub some : token.start < token.end
  pub fits : token.end ≤ length s.text
  pub next : t.offset ≡ token.end
  pub nests : nesting_refusal (kind_of token.kind) (item_of s.text token).bytes s.closers ≡ None
  pub closers : t.closers ≡ open_after (kind_of token.kind) (item_of s.text token).bytes s.closers
  pub gap : List Item
  pub is_gap : tokens_of gap ≡ []
  pub cut :
      (items : List Item) (ending : Option Fault) → IsCutFrom t items ending →
      IsCutFrom s (gap ++ (item_of s.text token ∷ items)) ending
  pub first :
      (tokens : List Item) (ending : Option Fault) → Rest t tokens ending →
      Rest s (item_of s.text token ∷ tokens) ending
  pub only :
      (tokens : List Item) (ending : Option Fault) → Rest s tokens ending →
      (later : List Item) × (tokens ≡ item_of s.text token ∷ later) × Rest t later ending

-- a call gave the fault, and later calls give nothing
pub record GivesFault (s : State) (fault : Fault) (t : State) : Type 0 where
  pub text : t.text ≡ s.text
  pub going : s.ended ≡ false
  pub ended : t.ended ≡ true
  pub rest : Rest s [] (Some fault)
  pub only :
      (tokens : List Item) (ending : Option Fault) → Rest s tokens ending →
      (tokens ≡ []) × (ending ≡ Some fault)

-- a call gave nothing, nor does a later one
pub record GivesEnd (s : State) (t : State) : Type 0 where
  pub text : t.text ≡ s.text
  pub low : s.offset ≤ t.offset
  pub rest : Rest s [] None
  pub only :
      (tokens : List Item) (ending : Option Fault) → Rest s tokens ending →
      (tokens ≡ []) × (ending ≡ None)
  pub after : Rest t [] None

-- what a call of `next` gives
abbrev pub Gives : State → Option (Result Token Fault) → State → Type 0
Gives s None t = GivesEnd s t
Gives s (Some (Ok token)) t = GivesToken s token t
Gives s (Some (Err fault)) t = GivesFault s fault t

-- no more calls give something
abbrev pub calls_left : State → Count
calls_left s = at_most (cond s.ended 0 (length s.text - s.offset + 1))

-- s has passed over an item of this kind
abbrev pub after_item : State → ItemKind → ℕ → State
after_item s kind len =
    record s { offset = s.offset + len; closers = open_after kind (take len (left s)) s.closers }

-- A call passed over one item: it is at the front of what was left and has no fault there.
pub record PassesOver (s : State) (kind : ItemKind) (len : ℕ) (t : State) : Type 0 where
  pub some : 0 < len
  pub fits : s.offset + len ≤ length s.text
  pub begins : BeginsWith (left s) kind (take len (left s))
  pub no_fault : item_fault kind s.offset (take len (left s)) s.closers ≡ None
  pub after : t ≡ after_item s kind len

-- What a call that looks at one item does: it passes over a comment, or over a token that it gives,
-- or gives the fault there.
abbrev pub Passes : State → Result (Option Token) Fault → State → Type 0
Passes s (Ok None) t =
    (kind : ItemKind) × (len : ℕ) × (is_token kind ≡ false) × PassesOver s kind len t
Passes s (Ok (Some token)) t =
    (token.start ≡ s.offset) × PassesOver s (kind_of token.kind) (token.end - token.start) t
Passes s (Err fault) t = BeginsWithFault (left s) s.offset s.closers fault × (t.text ≡ s.text)

-- the tokens that calls gave before a fault, as items of the text
abbrev pub items_given : List ℕ → List (Result Token Fault) → List Item
items_given text [] = []
items_given text (Ok token ∷ results) = item_of text token ∷ items_given text results
items_given text (Err fault ∷ results) = []

-- the fault that calls gave
abbrev pub fault_given : List (Result Token Fault) → Option Fault
fault_given [] = None
fault_given (Ok token ∷ results) = fault_given results
fault_given (Err fault ∷ results) = Some fault

-- what calls gave are the text's tokens and its ending
abbrev pub AreTokensOf : List ℕ → List (Result Token Fault) → Type 0
AreTokensOf text given = HasTokens text (items_given text given) (fault_given given)
