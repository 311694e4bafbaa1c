-- What a lexer gives first tells whether a text is one token.
use Rattle.std.proofs.Common.{◌≡◌, ℕ, ◌-◌, ◌≤◌, List, [], ◌∷◌, length, take, Bool, false, Option, Some, None, Result, Ok, Err, refl, sym, ◌∙◌, ap, subst, arith, length-take-le}
use Rattle.std.specs.Prelude.{slice_range}
use Rattle.std.specs.Result.{result_ok}
use Rattle.std.proofs.lemmas.List.{drop_all, take_all}
use Rattle.hist_types.specs.declared.types.Fault.{Fault}
use Rattle.hist_types.specs.Tokens.{Item, ItemKind, HasTokens}
use Rattle.edn_lex.specs.declared.types.Token.{Token}
use Rattle.edn_lex.specs.Kinds.{kind_of, item_of}
use Rattle.edn_lex.specs.State.{State, state_at_start, Rest, RestIf, Gives, GivesToken, GivesFault, GivesEnd}
use Rattle.reading_laws.specs.Placed.{IsTokenAlone}
use Rattle.op_view.specs.AtomTexts.{whole_token}

-- a lexer of the text, before its first call
pub record IsAtStart (text : List ℕ) (s : State) : Type 0 where
  pub start : s ≡ state_at_start text
  pub rest : (tokens : List Item) (ending : Option Fault) → Rest s tokens ending → HasTokens text tokens ending
  pub all : (tokens : List Item) (ending : Option Fault) → HasTokens text tokens ending → Rest s tokens ending

nothing_left : (t : State) → t.ended ≡ false → length t.text ≤ t.offset → Rest t [] None
nothing_left t going end =
    subst (λ (ended : Bool). RestIf ended t [] None) (sym going) ([], drop_all t.offset t.text end, refl)

abbrev the_item : ItemKind → ℕ → List ℕ → Item
the_item kind start bytes = record { kind = kind; start = start; bytes = bytes }

pub whole_from_token : (text : List ℕ) (s t : State) (token : Token) → IsAtStart text s → GivesToken s token t → token.start ≡ 0 → token.end ≡ length text → IsTokenAlone (kind_of token.kind) text
whole_from_token text s t token at given first last =
    let same : s.text ≡ text = ap (λ (x : State). x.text) at.start in
    let kept : t.text ≡ text = given.text ∙ same in
    let end : length t.text ≤ t.offset = omega (arith, ap length kept, given.next) in
    let tokens = at.rest (item_of s.text token ∷ []) None (given.first [] None (nothing_left t given.still_going end)) in
    let bytes : slice_range s.text token.start token.end ≡ text =
    ap (λ (n : ℕ). slice_range s.text n token.end) first ∙ take_all (token.end - 0) s.text (omega (arith, last, ap length same)) ∙ same in
    let item : item_of s.text token ≡ whole_token (kind_of token.kind) text =
    ap (λ (bs : List ℕ). the_item (kind_of token.kind) token.start bs) bytes ∙ ap (λ (n : ℕ). the_item (kind_of token.kind) n text) first in
    subst (λ (i : Item). HasTokens text (i ∷ []) None) item tokens

no_items : (t : Item) (ts : List Item) → t ∷ ts ≡ [] → ⊥
no_items t ts e = cc

same_first : (t u : Item) (ts us : List Item) → t ∷ ts ≡ u ∷ us → t ≡ u
same_first t u ts us e = cc

-- the token that takes up the whole text is the first that is given
pub record IsWhole (text : List ℕ) (token : Token) : Type 0 where
  pub start : token.start ≡ 0
  pub end : token.end ≡ length text

pub token_from_whole : (text : List ℕ) (s t : State) (token : Token) (kind : ItemKind) → IsAtStart text s → GivesToken s token t → IsTokenAlone kind text → IsWhole text token
token_from_whole text s t token kind at given whole =
    let only = given.only (whole_token kind text ∷ []) None (at.all _ _ whole) in
    let item : whole_token kind text ≡ item_of s.text token = same_first _ _ [] only.0 only.1 in
    let start : token.start ≡ 0 = sym (ap (λ (i : Item). i.start) item) in
    let bytes : text ≡ slice_range s.text token.start token.end = ap (λ (i : Item). i.bytes) item in
    let size : length text ≡ length (take (token.end - 0) s.text) = ap length bytes ∙ ap (λ (n : ℕ). length (slice_range s.text n token.end)) start in
    let within : token.end - 0 ≤ length s.text = omega (arith, given.fits) in
    record { start = start; end = omega (arith, size, length-take-le (token.end - 0) s.text within) }

pub no_token_at_end : (text : List ℕ) (s t : State) (kind : ItemKind) → IsAtStart text s → GivesEnd s t → IsTokenAlone kind text → ⊥
no_token_at_end text s t kind at given whole = no_items _ _ (given.only (whole_token kind text ∷ []) None (at.all _ _ whole)).0

pub no_token_at_fault : (text : List ℕ) (s t : State) (fault : Fault) (kind : ItemKind) → IsAtStart text s → GivesFault s fault t → IsTokenAlone kind text → ⊥
no_token_at_fault text s t fault kind at given whole = no_items _ _ (given.only (whole_token kind text ∷ []) None (at.all _ _ whole)).0

no_value : {A : Type 0} (x : A) → None ≡ Some x → ⊥
no_value x e = cc

same_value : (x y : Token) → Some x ≡ Some y → x ≡ y
same_value x y e = cc

pub no_token_at_error :
    (text : List ℕ) (s t : State) (first : Result Token Fault) (kind : ItemKind) → IsAtStart text s → Gives s (Some first) t
    → None ≡ result_ok first → IsTokenAlone kind text → ⊥
no_token_at_error text s t (Err fault) kind at given none whole = no_token_at_fault text s t fault kind at given whole
no_token_at_error text s t (Ok token) kind at given none whole = no_value token none

pub gives_token : (s t : State) (first : Result Token Fault) (token : Token) → Gives s (Some first) t → Some token ≡ result_ok first → GivesToken s token t
gives_token s t (Err fault) token given is = absurd (no_value token (sym is))
gives_token s t (Ok other) token given is = subst (λ (x : Token). GivesToken s x t) (sym (same_value token other is)) given
