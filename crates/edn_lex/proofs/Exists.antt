-- What a lexer still gives: there is such a list, and only one.
use Rattle.std.proofs.Common.{◌≡◌, List, [], Bool, true, false, Option, None, refl, sym, ◌∙◌, ap}
use Rattle.hist_types.specs.declared.types.Fault.{Fault}
use Rattle.hist_types.specs.Tokens.{Item, tokens_of}
use Rattle.reading_laws.proofs.EachCut.{each_cut}
use Rattle.reading_laws.proofs.OneCut.{one_cut}
use Rattle.edn_lex.specs.State.{State, left, RestIf, Rest}

-- a lexer has something to give, or nothing, in one way
pub Rest-exists : (s : State) → (tokens : List Item) × (ending : Option Fault) × Rest s tokens ending
Rest-exists s =
    let P : Bool → Type 0 = λ b. (tokens : List Item) × (ending : Option Fault) × RestIf b s tokens ending in
    let found = each_cut (left s) s.offset s.closers in
    elim s.ended as P [ true ↦ ([], None, (refl, refl)) | false ↦ (tokens_of found.0, found.1, (found.0, found.2, refl)) ]

rest_unique :
    (b : Bool) (s : State) (ts us : List Item) (e f : Option Fault) → RestIf b s ts e → RestIf b s us f → (ts ≡ us) × (e ≡ f)
rest_unique true s ts us e f first second = (first.0 ∙ sym second.0, first.1 ∙ sym second.1)
rest_unique false s ts us e f first second =
    let same = one_cut (left s) s.offset s.closers first.0 second.0 e f first.1 second.1 in
    (first.2 ∙ ap tokens_of same.0 ∙ sym second.2, same.1)

pub Rest-unique : (s : State) (ts us : List Item) (e f : Option Fault) → Rest s ts e → Rest s us f → (ts ≡ us) × (e ≡ f)
Rest-unique s ts us e f first second = rest_unique s.ended s ts us e f first second
