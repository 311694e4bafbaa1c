-- The versions that micro-operations name, by texts, atoms and numbers.
use Rattle.std.proofs.Common.{◌≡◌, ◌<◌, ℕ, List, [], ◌∷◌, true, length, get_or, Option, Some, None, option_map, sym, ◌∙◌, ap, subst}
use Rattle.std.specs.Prelude.{slice_get}
use Rattle.std.proofs.lemmas.Bool.{false≢true}
use Rattle.std.proofs.lemmas.List.{get_or_default}
use Rattle.std.proofs.lemmas.Option.{slice_get-map}
use Rattle.hist_types.specs.Atoms.{Atom, atom_eq}
use Rattle.hist_types.specs.Operations.{Mop, read, write}
use Rattle.hist_types.specs.Transactions.{Version, version_eq}
use Rattle.hist_types.specs.Versions.{nil_of}
use Rattle.hist_types.proofs.Equality.{version_eq-same, version_eq-itself}
use Rattle.atom_index.specs.Numbers.{number_in, with_item, pair_eq}
use Rattle.edn_ops.specs.Shapes.{is_write}
use Rattle.edn_ops.specs.SourceTexts.{IsAtomText, IsMopText}
use Rattle.edn_ops.specs.declared.write.MopText.{MopText}
use Rattle.op_block.specs.MopTexts.{atom_in}
use Rattle.op_view.specs.Mops.{key_of, value_of}
use Rattle.op_block.proofs.SpelledMops.{atom_in-is}
use Rattle.key_versions.specs.Named.{version_named}
use Rattle.key_versions.specs.Numbering.{Numbers, IsNumbering, version_with, version_by, versions_of, with_versions, IsAccess, IsVersionOfKey}
use Rattle.key_versions.proofs.Numbered.{access_by, access_versions, key_is, new_nil, new_version}
use Rattle.key_versions.proofs.Places.{number_within, with_item-there, with_item-twice}

abbrev pair_by : ℕ → Option ℕ → ℕ × Option ℕ
pair_by a v = (a, v)

-- ---- texts

-- one text is one atom
same_atom : (first second : List ℕ) (a b : Atom) → IsAtomText first a → IsAtomText second b → first ≡ second → a ≡ b
same_atom first second a b is other same = sym (atom_in-is first a is) ∙ ap atom_in same ∙ atom_in-is second b other

-- a write whose texts are those of a key and of a value
pub same_texts :
    (t : MopText) (m : Mop) (key_text value_text : List ℕ) (key value : Atom) → IsMopText t m → is_write m ≡ true
    → IsAtomText key_text key → IsAtomText value_text value → key_text ≡ t.key.now → value_text ≡ t.value.now
    → true ≡ version_eq (version_with key (Some value)) (version_named m)
same_texts t (read k v) key_text value_text key value is writes key_is value_is same_key same_value = absurd (false≢true writes)
same_texts t (write k v) key_text value_text key value is writes key_is value_is same_key same_value =
    sym (
    ap (λ (a : Atom). version_eq (version_with a (Some value)) (version_with k (Some v))) (same_atom key_text t.key.now key k key_is is.1 same_key)
    ∙ ap (λ (a : Atom). version_eq (version_with k (Some a)) (version_with k (Some v))) (same_atom value_text t.value.now value v value_is is.2 same_value)
    ∙ version_eq-itself (version_with k (Some v)))

-- ---- numbers

-- the version with a number, by the numbers of its key and its value
pub version_written :
    (s : Numbers) (number m : ℕ) (p : ℕ × Option ℕ) (v : Version) → IsNumbering s.keys s.values s.pairs s.nils
    → slice_get s.pairs number ≡ Some p → p.1 ≡ Some m → version_eq (version_by s.keys s.values (p.0, Some m)) v ≡ true
    → IsVersionOfKey s number p.0 v
version_written s number m p v is at valued same =
    let made : version_by s.keys s.values (p.0, Some m) ≡ v = version_eq-same (version_by s.keys s.values (p.0, Some m)) v same in (
      (is.in_range number p at).0,
      ap (λ (u : Version). u.key) made,
      slice_get-map (version_by s.keys s.values) s.pairs number ∙ ap (option_map (version_by s.keys s.values)) at
          ∙ ap (λ (n : Option ℕ). Some (version_by s.keys s.values (pair_by p.0 n))) valued
          ∙ ap Some made,
    )

-- the nil version of a key, by the entry of the key
pub known_nil :
    (s : Numbers) (key : Atom) (k n : ℕ) (entry : Option ℕ) → IsNumbering s.keys s.values s.pairs s.nils → number_in atom_eq key s.keys ≡ Some k
    → entry ≡ get_or s.nils k entry → entry ≡ Some n → slice_get (versions_of s) n ≡ Some (version_with key None)
known_nil s key k n entry is numbered at_entry is_some =
    let below : k < length s.keys = number_within atom_eq key s.keys k numbered in
    let within : k < length s.nils = subst (λ m. k < m) (sym is.nil_of_each) below in
    let nil_is : number_in pair_eq (k, None) s.pairs ≡ Some n = sym (is.nils_numbered k within) ∙ get_or_default s.nils k None entry within ∙ sym at_entry ∙ is_some in
    (new_nil s k n s.pairs is below (sym (with_item-there pair_eq s.pairs (pair_by k None) n nil_is)) nil_is).1
    ∙ ap (λ (a : Atom). Some (version_with a None)) (key_is s key k numbered)

-- the version of a key with a value
pub known_value :
    (s : Numbers) (key value : Atom) (k m n : ℕ) → IsNumbering s.keys s.values s.pairs s.nils → number_in atom_eq key s.keys ≡ Some k
    → number_in atom_eq value s.values ≡ Some m → number_in pair_eq (k, Some m) s.pairs ≡ Some n
    → slice_get (versions_of s) n ≡ Some (version_with key (Some value))
known_value s key value k m n is numbered valued at =
    (new_version s k value m n s.values s.pairs is (number_within atom_eq key s.keys k numbered) (sym (with_item-there atom_eq s.values value m valued)) valued
    (sym (with_item-there pair_eq s.pairs (pair_by k (Some m)) n at)) at).2
    ∙ ap (λ (a : Atom). Some (version_with a (Some value))) (key_is s key k numbered)

-- what a micro-operation of a key and a value names has these numbers
pub named_numbers :
    (vs : List Version) (m : Mop) (key : Atom) (value : Option Atom) (nil n : ℕ) → key ≡ key_of m → value ≡ value_of m
    → slice_get vs nil ≡ Some (version_with key None) → slice_get vs n ≡ Some (version_with key value) → IsAccess vs (version_named m) (access_by nil n)
named_numbers vs m key value nil n same_key same_value nil_at at = (
  nil_at ∙ ap (λ (a : Atom). Some (version_with a None)) same_key,
  at ∙ ap (λ (a : Atom). Some (version_with a value)) same_key ∙ ap (λ (v : Option Atom). Some (version_with (key_of m) v)) same_value,
)

-- the nil version of a key is the version that was named
pub nil_access :
    (first before : List Version) (key : Atom) (value : Option Atom) (nil : ℕ) → value ≡ None → before ≡ with_item version_eq first (nil_of key) → slice_get before nil ≡ Some (nil_of key)
    → (before ≡ with_versions first (nil_of key ∷ version_with key value ∷ [])) × IsAccess before (version_with key value) (access_by nil nil)
nil_access first before key value nil none keyed at =
    let again : before ≡ with_item version_eq before (nil_of key) =
    keyed ∙ sym (with_item-twice version_eq version_eq-itself first (nil_of key)) ∙ ap (λ (vs : List Version). with_item version_eq vs (nil_of key)) (sym keyed) in
    access_versions first before before key value nil nil keyed at (again ∙ ap (λ (v : Option Atom). with_item version_eq before (version_with key v)) (sym none))
    (at ∙ ap (λ (v : Option Atom). Some (version_with key v)) (sym none))
