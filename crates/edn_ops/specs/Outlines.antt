-- Members of an operation's map and of its transaction: what its checks ask of a form without
-- looking into it.
use Rattle.std.specs.Prelude.{Option, Some, None, option_map, IfSome, ◌≡◌, ℕ, ℤ, ◌≤◌, List, [], length, Bool, true, slice_range}
use Rattle.hist_types.specs.AtomTokens.{int_value}
use Rattle.hist_types.specs.Entries.{int_of}
use Rattle.hist_types.specs.Forms.{Form, Forms, plain, collection, tagged, no_form, place_of, is_vector_or_list}
use Rattle.hist_types.specs.Tokens.{Item, ItemKind, Opener, Tag, Int, is_int}
use Rattle.edn_ops.specs.Leads.{is_plain_kind, IsBehind}
use Rattle.edn_lex.specs.declared.types.Token.{Token}
use Rattle.edn_lex.specs.declared.types.TokenKind.{TokenKind}
use Rattle.edn_lex.specs.declared.types.TokenKind.TheVariants as kinds
use Rattle.edn_ops.specs.declared.forms.Member.{Member}
use Rattle.edn_lex.specs.Kinds.{kind_of, item_of}
use Rattle.edn_ops.specs.declared.outline.Outline.{Outline}
use Rattle.edn_ops.specs.declared.outline.Outline.TheVariants as outlines

-- an integer is spelled as one
abbrev pub IsSpelled : ItemKind → List ℕ → Type 0
IsSpelled Int bytes = is_int bytes ≡ true
IsSpelled kind bytes = Unit {0}

-- the text has the token
pub record IsTokenIn (text : List ℕ) (token : Token) : Type 0 where
  pub ordered : token.start ≤ token.end
  pub within : token.end ≤ length text
  pub spelled : IsSpelled (kind_of token.kind) (slice_range text token.start token.end)

-- the text has the token, an integer
pub record IsIntIn (text : List ℕ) (token : Token) : Type 0 where
  pub token_in : IsTokenIn text token
  pub int : is_int (slice_range text token.start token.end) ≡ true

abbrev pub number_of : List ℕ → Token → ℤ
number_of text token = int_value (slice_range text token.start token.end)

abbrev pub IsOutlineIn : List ℕ → Outline → Type 0
IsOutlineIn text (outlines.Plain token) = IsTokenIn text token
IsOutlineIn text (outlines.Collection opener) = IsTokenIn text opener
IsOutlineIn text (outlines.Tagged place) = Unit {0}

-- what a token begins that has no tag in front of it
abbrev pub untagged : TokenKind → Token → Outline
untagged kinds.Open token = outlines.Collection token
untagged kind token = outlines.Plain token

-- the outline of the form that a member begins
abbrev pub outline_by : Option ℕ → Token → Outline
outline_by None token = untagged token.kind token
outline_by (Some place) token = outlines.Tagged place

abbrev pub outline_for : Member → Outline
outline_for m = outline_by m.tag m.token

-- a tag at the offset
abbrev pub tag_at : ℕ → Item
tag_at offset = record { kind = Tag; start = offset; bytes = [] }

-- A form without what is in it: of a collection the opener is left, and of a tagged form the place.
abbrev pub outline : Form → Form
outline (plain t) = plain t
outline (collection opener closer members) = collection opener opener no_form
outline (tagged tag f) = tagged (tag_at tag.start) (plain (tag_at tag.start))

-- the outline of the form that a member is
abbrev pub outline_of : List ℕ → Outline → Form
outline_of text (outlines.Plain token) = plain (item_of text token)
outline_of text (outlines.Collection opener) =
    collection (item_of text opener) (item_of text opener) no_form
outline_of text (outlines.Tagged place) = tagged (tag_at place) (plain (tag_at place))

-- a token that is the member has this outline
abbrev pub IsPlainOutline : Member → Outline → Type 0
IsPlainOutline m o =
    (text : List ℕ) (form : Form) →
    is_plain_kind (kind_of m.token.kind) ≡ true →
    IsBehind m.tag (plain (item_of text m.token)) form → outline form ≡ outline_of text o

-- a collection that is the member has this outline
abbrev pub IsCollectionOutline : Member → Outline → Type 0
IsCollectionOutline m o =
    (text : List ℕ) (closer : Item) (members : Forms) (form : Form) →
    kind_of m.token.kind ≡ Opener →
    IsBehind m.tag (collection (item_of text m.token) closer members) form →
    outline form ≡ outline_of text o

-- ---- what a form is by its outline

-- whether the token opens a vector or a list
abbrev pub begins_sequence : List ℕ → Token → Bool
begins_sequence text token = is_vector_or_list (item_of text token)

-- the token is the integer that the form is, if it is one
abbrev pub IsItsInteger : Outline → Option Token → Type 0
IsItsInteger o found =
    (text : List ℕ) → int_of (outline_of text o) ≡ option_map (number_of text) found

-- the token, if there is one, is where the form begins
abbrev pub IsAtItsPlace : Outline → Option Token → Type 0
IsAtItsPlace o found =
    (text : List ℕ) → IfSome found (λ token. token.start ≡ place_of (outline_of text o))
