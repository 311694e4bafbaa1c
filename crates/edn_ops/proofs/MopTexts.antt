-- The parts of a micro-operation's text.
use Rattle.std.proofs.Common.{◌≡◌, ℕ, zero, suc, ◌+◌, ◌<◌, ◌≤◌, List, [], ◌∷◌, ◌++◌, length, take, get_or, Bool, Some, arith, refl, sym, ◌∙◌, ap}
use Rattle.std.specs.Prelude.{codes, flat_map}
use Rattle.std.specs.List.{join_by}
use Rattle.std.proofs.lemmas.List.{append_assoc, append-nil, take_all}
use Rattle.std.proofs.lemmas.List.Concat.{flat_map-append}
use Rattle.hist_types.specs.Atoms.{Atom, Value}
use Rattle.hist_types.specs.Operations.{Mop, read, write}
use Rattle.hist_types.specs.CanonicalText.{atom_text, value_text, mop_text}
use Rattle.edn_ops.specs.SourceTexts.{IsAtomText, IsValueText, IsMopText, AreMopTexts, front_of_mop}
use Rattle.edn_ops.specs.declared.write.MopText.{MopText}

abbrev pub key_of : Mop → Atom
key_of (read key value) = key
key_of (write key value) = key

-- nil only for a read
abbrev pub value_of : Mop → Value
value_of (read key value) = value
value_of (write key value) = Some value

pub record HasParts (t : MopText) (m : Mop) : Type 0 where
  pub key : IsAtomText t.key.now (key_of m)
  pub value : IsValueText t.value.now (value_of m)
  pub text : front_of_mop t.is_write ++ atom_text (key_of m) ++ codes " " ++ value_text (value_of m) ++ codes "]" ≡ mop_text m

with_front : (is_write known : Bool) (key value : List ℕ) → is_write ≡ known → front_of_mop is_write ++ key ++ codes " " ++ value ++ codes "]" ≡ front_of_mop known ++ key ++ codes " " ++ value ++ codes "]"
with_front is_write known key value e = ap (λ (b : Bool). front_of_mop b ++ key ++ codes " " ++ value ++ codes "]") e

pub parts : (t : MopText) (m : Mop) → IsMopText t m → HasParts t m
parts t (read key value) h = record { key = h.1; value = h.2; text = with_front t.is_write _ (atom_text key) (value_text value) h.0 }
parts t (write key value) h = record { key = h.1; value = h.2; text = with_front t.is_write _ (atom_text key) (atom_text value) h.0 }

-- five parts that are appended in a row
pub appended_in_a_row :
    (old a b c d e s1 s2 s3 s4 new : List ℕ)
    → s1 ≡ old ++ a → s2 ≡ s1 ++ b → s3 ≡ s2 ++ c → s4 ≡ s3 ++ d → new ≡ s4 ++ e
    → new ≡ old ++ (a ++ b ++ c ++ d ++ e)
appended_in_a_row old a b c d e s1 s2 s3 s4 new e1 e2 e3 e4 e5 =
    e5
    ∙ ap (λ (xs : List ℕ). xs ++ e) (e4 ∙ ap (λ (xs : List ℕ). xs ++ d) (e3 ∙ ap (λ (xs : List ℕ). xs ++ c) (e2 ∙ ap (λ (xs : List ℕ). xs ++ b) e1)))
    ∙ all old a b c d e
  where
    all : (old a b c d e : List ℕ) → ((((old ++ a) ++ b) ++ c) ++ d) ++ e ≡ old ++ (a ++ b ++ c ++ d ++ e)
    all old a b c d e = simp append_assoc

-- ---- many micro-operations

-- what is before the micro-operation with this index
abbrev pub gap_before : ℕ → List ℕ
gap_before zero = []
gap_before (suc n) = codes " "

joined_more : (ms : List Mop) (m : Mop) → join_by mop_text (codes " ") (ms ++ m ∷ []) ≡ join_by mop_text (codes " ") ms ++ gap_before (length ms) ++ mop_text m
joined_more [] m = append-nil (mop_text m)
joined_more (x ∷ ms) m =
    let behind : Mop → List ℕ = λ (y : Mop). codes " " ++ mop_text y in
    ap (λ (xs : List ℕ). mop_text x ++ xs) (flat_map-append behind ms (m ∷ []) ∙ ap (λ (xs : List ℕ). flat_map behind ms ++ xs) (append-nil (codes " " ++ mop_text m)))
    ∙ sym (append_assoc (mop_text x) (flat_map behind ms) (codes " " ++ mop_text m))
    ∙ sym (append_assoc (mop_text x ++ flat_map behind ms) (codes " ") (mop_text m))

-- the micro-operation of the text with this index, behind those before it
pub record HasMopAt (texts : List MopText) (ms : List Mop) (k : ℕ) (d : MopText) : Type 0 where
  pub mop : Mop
  pub text : IsMopText (get_or texts k d) mop
  pub joined : join_by mop_text (codes " ") (take (k + 1) ms) ≡ join_by mop_text (codes " ") (take k ms) ++ gap_before k ++ mop_text mop

-- one more behind these
record NextIs (texts : List MopText) (ms : List Mop) (k : ℕ) (d : MopText) : Type 0 where
  mop : Mop
  text : IsMopText (get_or texts k d) mop
  next : take (suc k) ms ≡ take k ms ++ mop ∷ []
  size : length (take k ms) ≡ k

next_is : (texts : List MopText) (ms : List Mop) (k : ℕ) (d : MopText) → AreMopTexts texts ms → k < length texts → NextIs texts ms k d
next_is [] ms k d h lt = absurd (omega (arith, lt))
next_is (t ∷ texts) [] k d h lt = absurd h
next_is (t ∷ texts) (m ∷ ms) zero d h lt = record { mop = m; text = h.0; next = refl; size = refl }
next_is (t ∷ texts) (m ∷ ms) (suc k) d h lt =
    let more = next_is texts ms k d h.1 (omega (arith, lt)) in
    record { mop = more.mop; text = more.text; next = ap (λ (xs : List Mop). m ∷ xs) more.next; size = ap suc more.size }

next_index : (k : ℕ) → k + 1 ≡ suc k
next_index k = omega arith

pub mop_at : (texts : List MopText) (ms : List Mop) (k : ℕ) (d : MopText) → AreMopTexts texts ms → k < length texts → HasMopAt texts ms k d
mop_at texts ms k d h lt =
    let n = next_is texts ms k d h lt in
    record {
      mop = n.mop;
      text = n.text;
      joined = ap (λ (i : ℕ). join_by mop_text (codes " ") (take i ms)) (next_index k) ∙ ap (join_by mop_text (codes " ")) n.next ∙ joined_more (take k ms) n.mop
          ∙ ap (λ (i : ℕ). join_by mop_text (codes " ") (take k ms) ++ gap_before i ++ mop_text n.mop) n.size;
    }

-- all of them
pub all_taken : (texts : List MopText) (ms : List Mop) (k : ℕ) → AreMopTexts texts ms → length texts ≤ k → take k ms ≡ ms
all_taken [] [] k h le = take_all k [] (omega arith)
all_taken [] (m ∷ ms) k h le = absurd h
all_taken (t ∷ texts) [] k h le = absurd h
all_taken (t ∷ texts) (m ∷ ms) zero h le = absurd (omega (arith, le))
all_taken (t ∷ texts) (m ∷ ms) (suc k) h le = ap (λ (xs : List Mop). m ∷ xs) (all_taken texts ms k h.1 (omega (arith, le)))

-- there is a blank before each but the first
pub gap_next : (k : ℕ) → codes " " ≡ gap_before (k + 1)
gap_next k = ap gap_before (sym (next_index k))

pub appended_one_more :
    (old front before gap known more s t new : List ℕ)
    → s ≡ old ++ (front ++ before) → t ≡ s ++ gap → gap ≡ known → new ≡ t ++ more
    → new ≡ old ++ (front ++ (before ++ known ++ more))
appended_one_more old front before gap known more s t new e1 e2 same e3 =
    e3
    ∙ ap (λ (xs : List ℕ). xs ++ more) (e2 ∙ ap (λ (xs : List ℕ). xs ++ gap) e1 ∙ ap (λ (xs : List ℕ). (old ++ (front ++ before)) ++ xs) same)
    ∙ all old front before known more
  where
    all : (old a b c d : List ℕ) → ((old ++ (a ++ b)) ++ c) ++ d ≡ old ++ (a ++ (b ++ c ++ d))
    all old a b c d = simp append_assoc
