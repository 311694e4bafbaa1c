-- The spelling of a text that is an atom.
use Rattle.std.proofs.Common.{◌≡◌, ℕ, ℤ, List, Bool, true, cond, Option, Some, None, refl, sym, ◌∙◌, ap, subst}
use Rattle.std.specs.Option.{IsSome}
use Rattle.hist_types.specs.Atoms.{Atom, integer}
use Rattle.hist_types.specs.AtomTokens.{atom_of_token, int_value, is_64_bit}
use Rattle.hist_types.specs.Tokens.{ItemKind, Int}
use Rattle.op_view.specs.declared.spelling.Spelling.{Spelling}
use Rattle.op_view.specs.declared.spelling.Spelling.TheVariants as spellings
use Rattle.reading_laws.specs.Placed.{IsTokenAlone}
use Rattle.edn_ops.specs.SourceTexts.{IsTokenOf, IsAtomText, IsNumberOf}
use Rattle.op_view.specs.Spellings.{IsSpelled, IsSpellingOf, kind_spelled, atom_spelled}
use Rattle.edn_ops.proofs.KindsByFront.{digits_told}
use Rattle.edn_ops.proofs.Tokens.{one_kind}

no_atom : (atom : Atom) → None ≡ Some atom → ⊥
no_atom atom e = cc

same_atom : (a b : Atom) → Some a ≡ Some b → a ≡ b
same_atom a b e = cc

-- a token that is an atom is spelled in some way
pub has_spelling :
    (kind : ItemKind) (text : List ℕ) (atom : Atom) (found : Option Spelling)
    → atom_of_token kind text ≡ Some atom → IsSpellingOf kind text found → IsSome found
has_spelling kind text atom None is none = absurd (no_atom atom (sym none ∙ is))
has_spelling kind text atom (Some spelling) is spelled = refl

-- what is spelled so is the atom that is known
pub spelled_token : (kind : ItemKind) (text : List ℕ) (spelling : Spelling) → IsTokenAlone kind text → IsSpelled kind text spelling → IsTokenOf (kind_spelled spelling) text (atom_spelled spelling text)
spelled_token kind text spelling token spelled =
    subst (λ (k : ItemKind). IsTokenOf k text (atom_spelled spelling text)) (sym spelled.of_kind) (token, spelled.atom)

-- digits alone that are an atom spell their number
pub spelled_digits :
    (kind : ItemKind) (text : List ℕ) (atom : Atom) (number : ℤ)
    → IsTokenOf kind text atom
    → IsNumberOf text number
    → IsSpelled kind text (spellings.Integer number)
spelled_digits kind text atom number token is =
    let of_kind : Int ≡ kind = digits_told kind text atom token is.digits in
    let holds : is_64_bit (int_value text) ≡ true = ap is_64_bit is.means ∙ is.fits in
    let atom_is : atom_of_token Int text ≡ Some (integer number) =
    ap (λ (b : Bool). cond b (Some (integer (int_value text))) None) holds ∙ ap (λ (n : ℤ). Some (integer n)) is.means in
    record { of_kind = of_kind; atom = subst (λ (k : ItemKind). atom_of_token k text ≡ Some (integer number)) of_kind atom_is }

pub spelled_atom : (kind : ItemKind) (text : List ℕ) (spelling : Spelling) (atom : Atom) → IsTokenAlone kind text → IsSpelled kind text spelling → IsAtomText text atom → atom_spelled spelling text ≡ atom
spelled_atom kind text spelling atom token spelled h =
    let same = one_kind text h.0 kind h.1 token in
    same_atom (atom_spelled spelling text) atom (sym spelled.atom ∙ subst (λ (k : ItemKind). atom_of_token k text ≡ Some atom) same h.2)
