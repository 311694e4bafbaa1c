-- Tokens and the forms that they are.
use Rattle.std.proofs.Common.{◌≡◌, ℕ, List, [], ◌∷◌, length, Bool, false, ◌==◌, Some, None, Result, Ok, Err, codes, refl, sym, ◌∙◌, ap}
use Rattle.std.proofs.lemmas.Bool.{false≢true}
use Rattle.hist_types.specs.Entries.{PlacedOperation, operation}
use Rattle.hist_types.specs.Forms.{Form, plain, collection, tagged, no_form, form, OpenCollection, Open}
use Rattle.reading_laws.specs.Nesting.{AreForms, nothing, alone, nested, with_tag, without, open_after_all, alone_with, entries_by_form}
use Rattle.hist_types.specs.Tokens.{Item, ItemKind, Opener, Closer, Drop, Tag, Int, Keyword}
use Rattle.hist_types.specs.declared.types.Fault.{Fault}
use Rattle.hist_types.specs.declared.types.OpKind.TheVariants as kinds
use Rattle.reading_laws.proofs.Nesting.{fill_alone}

-- a token by its kind, the offset of its first byte, and its bytes
abbrev token : ItemKind → ℕ → List ℕ → Item
token kind start bytes = record { kind = kind; start = start; bytes = bytes }

abbrev one : ℕ → Item
one start = token Int start (codes "1")

abbrev two : ℕ → Item
two start = token Int start (codes "2")

abbrev left_out : ℕ → Item
left_out start = token Drop start (codes "#_")

abbrev tag_a : ℕ → Item
tag_a start = token Tag start (codes "#a")

abbrev open_vector : ℕ → Item
open_vector start = token Opener start (codes "[")

abbrev close_vector : ℕ → Item
close_vector start = token Closer start (codes "]")

-- ---- what is a form

-- `1 #_ [1 2] #a [2]`: the first vector is left out, and the tag joins the second.
abbrev with_vectors : List Item
with_vectors =
    one 0
    ∷ left_out 2
    ∷ open_vector 5
    ∷ one 6
    ∷ two 8
    ∷ close_vector 9
    ∷ tag_a 11
    ∷ open_vector 14
    ∷ two 15
    ∷ close_vector 16
    ∷ []

abbrev with_vectors_forms : List Form
with_vectors_forms =
    plain (one 0)
    ∷ tagged (tag_a 11) (collection (open_vector 14) (close_vector 16) (form (plain (two 15)) no_form))
    ∷ []

with_vectors-are : AreForms with_vectors with_vectors_forms
with_vectors-are =
    alone (one 0) _ _ refl
    (without (left_out 2) _ _ _ refl
    (nested (open_vector 5) (close_vector 9) (one 6 ∷ two 8 ∷ []) _ (plain (one 6) ∷ plain (two 8) ∷ []) _ refl refl
    (alone (one 6) _ _ refl (alone (two 8) _ _ refl nothing))
    (with_tag (tag_a 11) _ _ _ refl
    (nested (open_vector 14) (close_vector 16) (two 15 ∷ []) _ (plain (two 15) ∷ []) _ refl refl
    (alone (two 15) _ _ refl nothing)
    nothing))))

-- the opener of a map
abbrev a_map : Item
a_map = token Opener 0 (codes "{")

-- Read one by one in a map they give the same members.
with_vectors-read : open_after_all (alone_with a_map []) with_vectors ≡ Ok (alone_with a_map with_vectors_forms)
with_vectors-read = refl

-- `#_ #_ 1 2 1`: each `#_` leaves out one form, and the last one stays.
two_left_out-are : AreForms (left_out 0 ∷ left_out 3 ∷ one 6 ∷ two 8 ∷ one 10 ∷ []) (plain (one 10) ∷ [])
two_left_out-are =
    without (left_out 0) _ _ _ refl
    (without (left_out 3) _ _ _ refl
    (alone (one 6) _ _ refl (alone (two 8) _ _ refl (alone (one 10) _ _ refl nothing))))

-- `#a #_ 1 2`: the tag joins the form that stays.
tag_before-are : AreForms (tag_a 0 ∷ left_out 3 ∷ one 6 ∷ two 8 ∷ []) (tagged (tag_a 0) (plain (two 8)) ∷ [])
tag_before-are =
    with_tag (tag_a 0) _ _ _ refl
    (without (left_out 3) _ _ _ refl (alone (one 6) _ _ refl (alone (two 8) _ _ refl nothing)))

-- `#_ #a 1`: the tagged form is left out.
tagged_left_out-are : AreForms (left_out 0 ∷ tag_a 3 ∷ one 6 ∷ []) []
tagged_left_out-are =
    without (left_out 0) _ _ _ refl (with_tag (tag_a 3) _ _ _ refl (alone (one 6) _ _ refl nothing))

-- ---- what is no form

abbrev AreNoForms : List Item → Type 0
AreNoForms tokens = (forms : List Form) → AreForms tokens forms → ⊥

abbrev is_one_without_marks : List OpenCollection → Bool
is_one_without_marks [] = false
is_one_without_marks (c ∷ []) = length c.marks == 0
is_one_without_marks (c ∷ d ∷ outer) = false

abbrev is_filled : Result Open Fault → Bool
is_filled (Ok o) = is_one_without_marks o.collections
is_filled (Err f) = false

-- what leaves a mark or a collection open in a map, or closes the map, is no row of forms
no_forms : (tokens : List Item) → is_filled (open_after_all (alone_with a_map []) tokens) ≡ false → AreNoForms tokens
no_forms tokens e forms are = absurd (false≢true (sym e ∙ ap is_filled (fill_alone tokens forms are a_map refl)))

-- A `#_` needs a form.
lone_left_out : AreNoForms (left_out 0 ∷ [])
lone_left_out = no_forms (left_out 0 ∷ []) refl

-- So does a tag.
lone_tag : AreNoForms (one 0 ∷ tag_a 2 ∷ [])
lone_tag = no_forms (one 0 ∷ tag_a 2 ∷ []) refl

-- Of two `#_` the second needs another form.
two_left_out_of_one : AreNoForms (left_out 0 ∷ left_out 2 ∷ one 4 ∷ [])
two_left_out_of_one = no_forms (left_out 0 ∷ left_out 2 ∷ one 4 ∷ []) refl

-- An opener needs a closer.
lone_opener : AreNoForms (open_vector 0 ∷ one 1 ∷ [])
lone_opener = no_forms (open_vector 0 ∷ one 1 ∷ []) refl

-- A closer needs an opener.
lone_closer : AreNoForms (one 0 ∷ close_vector 1 ∷ [])
lone_closer = no_forms (one 0 ∷ close_vector 1 ∷ []) refl

-- ---- what forms give

-- `{:type :info :process 1}`
abbrev an_info : Form
an_info =
    collection (token Opener 0 (codes "{")) (token Closer 24 (codes "}"))
    (form (plain (token Keyword 1 (codes ":type")))
    (form (plain (token Keyword 7 (codes ":info")))
    (form (plain (token Keyword 13 (codes ":process")))
    (form (plain (token Int 22 (codes "1"))) no_form))))

abbrev its_operation : PlacedOperation
its_operation = record { kind = kinds.Info; process = 1; mops = []; start = 0; end = 25 }

-- A map gives its operation, also after a tag, and in a vector.
info-gives : entries_by_form an_info ≡ Some (operation its_operation) ∷ []
info-gives = refl

tagged_info-gives : entries_by_form (tagged (tag_a 0) an_info) ≡ Some (operation its_operation) ∷ []
tagged_info-gives = refl

vector-gives :
    entries_by_form (collection (open_vector 0) (close_vector 9) (form an_info (form (tagged (tag_a 0) an_info) no_form)))
    ≡ Some (operation its_operation)
    ∷ Some (operation its_operation)
    ∷ []
vector-gives = refl

-- A vector in a vector, a set, and a token give none.
vector_in_vector-gives :
    entries_by_form
    (collection (open_vector 0) (close_vector 9) (form (collection (open_vector 1) (close_vector 8) (form an_info no_form)) no_form))
    ≡ None
    ∷ []
vector_in_vector-gives = refl

set-gives : entries_by_form (collection (token Opener 0 (codes "#{")) (token Closer 9 (codes "}")) (form an_info no_form)) ≡ None ∷ []
set-gives = refl

token-gives : entries_by_form (plain (one 0)) ≡ None ∷ []
token-gives = refl
