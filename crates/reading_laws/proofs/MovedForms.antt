-- Forms at other places of a text, and what a map of such forms gives.
use Rattle.std.proofs.Common.{◌≡◌, ℕ, ℤ, suc, ◌-◌, ◌%◌, List, [], ◌∷◌, length, map, Bool, true, false, ◌==◌, if◌then◌else◌, Option, Some, None, option_map, Result, Ok, Err, filter, refl, sym, ◌∙◌, ap, ap₂, subst, codes}
use Rattle.std.proofs.lemmas.List.{length-map}
use Rattle.std.specs.Prelude.{nat_le, nat_lt}
use Rattle.hist_types.specs.Atoms.{Atom, Value}
use Rattle.hist_types.specs.AtomTokens.{atom_of_token, is_nil_kind, process_of}
use Rattle.hist_types.specs.Entries.{PlacedMop, Entry, operation, skipped, atom_of, is_nil, value_of, is_named, int_of, elements_of, ◌>>=◌, refuse_if, or_refuse, pairs_of, the_one, field, kind_of, is_write_of, read_or_write, micro_op_of, micro_ops_of, transaction_of, mops_of, client_operation, entry_by, end_of, entry_of}
use Rattle.hist_types.specs.Forms.{Form, plain, collection, tagged, Forms, no_form, form, forms_of, list_of, place_of, is_vector_or_list}
use Rattle.hist_types.specs.Tokens.{Item, byte_fault}
use Rattle.hist_types.specs.declared.limits.TheConstants.{MAX_MICRO_OPS, MAX_OPERATION_BYTES}
use Rattle.hist_types.specs.declared.types.At.{At}
use Rattle.hist_types.specs.declared.types.At.TheVariants.{Byte, Event, Nowhere}
use Rattle.hist_types.specs.declared.types.Fault.{Fault}
use Rattle.hist_types.specs.declared.types.OpKind.{OpKind}
use Rattle.hist_types.specs.declared.types.OpKind.TheVariants as kinds
use Rattle.hist_types.specs.declared.types.Refusal.{Refusal}
use Rattle.hist_types.specs.declared.types.Refusal.TheVariants.{OddMap, MissingField, DuplicateField, BadType, BadProcess, NotTxn, BadAtom, NilWritten, TooLong, TooManyMicroOps}

-- ---- tokens at other places

-- the token, with another place for each
abbrev pub item_moved : (ℕ → ℕ) → Item → Item
item_moved to item = record { kind = item.kind; start = to item.start; bytes = item.bytes }

abbrev pub mop_moved : (ℕ → ℕ) → PlacedMop → PlacedMop
mop_moved to m = record { mop = m.mop; key = item_moved to m.key; value = item_moved to m.value }

-- ---- forms

abbrev mutual
  pub form_moved : (ℕ → ℕ) → Form → Form
  form_moved to (plain t) = plain (item_moved to t)
  form_moved to (collection opener closer members) =
      collection (item_moved to opener) (item_moved to closer) (forms_moved to members)
  form_moved to (tagged tag f) = tagged (item_moved to tag) (form_moved to f)

  pub forms_moved : (ℕ → ℕ) → Forms → Forms
  forms_moved to no_form = no_form
  forms_moved to (form f fs) = form (form_moved to f) (forms_moved to fs)

pub list_of-moved : (to : ℕ → ℕ) (fs : Forms) → list_of (forms_moved to fs) ≡ map (form_moved to) (list_of fs)
list_of-moved to no_form = refl
list_of-moved to (form f fs) = ap (λ gs. form_moved to f ∷ gs) (list_of-moved to fs)

pub forms_of-moved : (to : ℕ → ℕ) (fs : List Form) → forms_of (map (form_moved to) fs) ≡ forms_moved to (forms_of fs)
forms_of-moved to [] = refl
forms_of-moved to (f ∷ fs) = ap (form (form_moved to f)) (forms_of-moved to fs)

-- ---- results

abbrev at_moved : (ℕ → ℕ) → At → At
at_moved to (Byte place) = Byte (to place)
at_moved to (Event index) = Event index
at_moved to Nowhere = Nowhere

-- the fault, with another place
abbrev pub fault_moved : (ℕ → ℕ) → Fault → Fault
fault_moved to fault = record { refusal = fault.refusal; at = at_moved to fault.at }

-- what g makes of the value, or the fault with another place
abbrev pub result_moved : {A B : Type 0} → (ℕ → ℕ) → (A → B) → Result A Fault → Result B Fault
result_moved to g (Ok x) = Ok (g x)
result_moved to g (Err fault) = Err (fault_moved to fault)

-- s is what becomes of r at other places
abbrev pub Follows : {A B : Type 0} → (ℕ → ℕ) → (A → B) → Result A Fault → Result B Fault → Type 0
Follows {A} to g r s = s ≡ result_moved to g r

pub follows_value :
    {A B : Type 0} (to : ℕ → ℕ) (g : A → B) (r : Result A Fault) (s : Result B Fault) (x : A)
    → Follows to g r s
    → r ≡ Ok x
    → s ≡ Ok (g x)
follows_value to g r s x follows e = follows ∙ ap (result_moved to g) e

follows_fault :
    {A B : Type 0} (to : ℕ → ℕ) (g : A → B) (refusal : Refusal) (m n : ℕ)
    → n ≡ to m
    → Follows to g (Err (byte_fault refusal m)) (Err (byte_fault refusal n))
follows_fault to g refusal m n place = ap (λ k. Err (byte_fault refusal k)) place

follows_then :
    {A B C D : Type 0} (to : ℕ → ℕ) (g : A → B) (h : C → D) (r : Result A Fault) (s : Result B Fault)
    (next : A → Result C Fault) (further : B → Result D Fault)
    → Follows to g r s
    → ((x : A) → Follows to h (next x) (further (g x)))
    → Follows to h (r >>= next) (s >>= further)
follows_then to g h (Ok x) s next further first rest = ap (λ z. z >>= further) first ∙ rest x
follows_then to g h (Err f) s next further first rest = ap (λ z. z >>= further) first

follows_refuse :
    (to : ℕ → ℕ) (test other : Bool) (refusal : Refusal) (m n : ℕ)
    → other ≡ test
    → n ≡ to m
    → Follows to (λ u. u) (refuse_if test refusal m) (refuse_if other refusal n)
follows_refuse to true other refusal m n same place = ap₂ (λ b k. refuse_if b refusal k) same place
follows_refuse to false other refusal m n same place = ap (λ b. refuse_if b refusal n) same

follows_or :
    {A B : Type 0} (to : ℕ → ℕ) (g : A → B) (o : Option A) (p : Option B) (refusal : Refusal) (m n : ℕ)
    → p ≡ option_map g o
    → n ≡ to m
    → Follows to g (or_refuse o refusal m) (or_refuse p refusal n)
follows_or to g None p refusal m n same place = ap₂ (λ q k. or_refuse q refusal k) same place
follows_or to g (Some y) p refusal m n same place = ap (λ q. or_refuse q refusal n) same

option_map-same : {A : Type 0} (o : Option A) → o ≡ option_map (λ (x : A). x) o
option_map-same None = refl
option_map-same (Some x) = refl

-- ---- what a form spells

abbrev atom_moved : (ℕ → ℕ) → Item × Atom → Item × Atom
atom_moved to p = (item_moved to p.0, p.1)

abbrev value_moved : (ℕ → ℕ) → Item × Value → Item × Value
value_moved to p = (item_moved to p.0, p.1)

with_token :
    (to : ℕ → ℕ) (t : Item) (o : Option Atom)
    → option_map (λ atom. (item_moved to t, atom)) o ≡ option_map (atom_moved to) (option_map (λ atom. (t, atom)) o)
with_token to t None = refl
with_token to t (Some atom) = refl

atom_of-moved : (to : ℕ → ℕ) (f : Form) → atom_of (form_moved to f) ≡ option_map (atom_moved to) (atom_of f)
atom_of-moved to (plain t) = with_token to t (atom_of_token t.kind t.bytes)
atom_of-moved to (collection opener closer members) = refl
atom_of-moved to (tagged tag f) = refl

nil_or_atom : Bool → Item → Option Atom → Option (Item × Value)
nil_or_atom nil t o = if nil then Some (t, None) else option_map (λ atom. (t, Some atom)) o

with_value :
    (to : ℕ → ℕ) (nil : Bool) (t : Item) (o : Option Atom)
    → nil_or_atom nil (item_moved to t) o ≡ option_map (value_moved to) (nil_or_atom nil t o)
unfolding nil_or_atom
with_value to true t o = refl
with_value to false t None = refl
with_value to false t (Some atom) = refl

value_of-moved : (to : ℕ → ℕ) (f : Form) → value_of (form_moved to f) ≡ option_map (value_moved to) (value_of f)
unfolding nil_or_atom
value_of-moved to (plain t) = with_value to (is_nil_kind t.kind) t (atom_of_token t.kind t.bytes)
value_of-moved to (collection opener closer members) = refl
value_of-moved to (tagged tag f) = refl

if_members : (to : ℕ → ℕ) (b : Bool) (fs : Forms) →
    (let none : Option (List Form) = None in
    (if b then Some (list_of (forms_moved to fs)) else none) ≡ option_map (map (form_moved to))
    (if b then Some (list_of fs) else none))
if_members to true fs = ap Some (list_of-moved to fs)
if_members to false fs = refl

elements_of-moved : (to : ℕ → ℕ) (f : Form) → elements_of (form_moved to f) ≡ option_map (map (form_moved to)) (elements_of f)
elements_of-moved to (plain t) = refl
elements_of-moved to (collection opener closer members) = if_members to (is_vector_or_list opener) members
elements_of-moved to (tagged tag f) = refl

is_named-moved : (name : List ℕ) (to : ℕ → ℕ) (f : Form) → is_named name (form_moved to f) ≡ is_named name f
is_named-moved name to (plain t) = refl
is_named-moved name to (collection opener closer members) = refl
is_named-moved name to (tagged tag f) = refl

kind_of-moved : (to : ℕ → ℕ) (f : Form) → kind_of (form_moved to f) ≡ kind_of f
kind_of-moved to (plain t) = refl
kind_of-moved to (collection opener closer members) = refl
kind_of-moved to (tagged tag f) = refl

is_write_of-moved : (to : ℕ → ℕ) (f : Form) → is_write_of (form_moved to f) ≡ is_write_of f
is_write_of-moved to (plain t) = refl
is_write_of-moved to (collection opener closer members) = refl
is_write_of-moved to (tagged tag f) = refl

int_of-moved : (to : ℕ → ℕ) (f : Form) → int_of (form_moved to f) ≡ int_of f
int_of-moved to (plain t) = refl
int_of-moved to (collection opener closer members) = refl
int_of-moved to (tagged tag f) = refl

is_nil-moved : (to : ℕ → ℕ) (f : Form) → is_nil (form_moved to f) ≡ is_nil f
is_nil-moved to (plain t) = refl
is_nil-moved to (collection opener closer members) = refl
is_nil-moved to (tagged tag f) = refl

place_of-moved : (to : ℕ → ℕ) (f : Form) → place_of (form_moved to f) ≡ to (place_of f)
place_of-moved to (plain t) = refl
place_of-moved to (collection opener closer members) = refl
place_of-moved to (tagged tag f) = refl

-- ---- fields

abbrev pair_moved : (ℕ → ℕ) → Form × Form → Form × Form
pair_moved to p = (form_moved to p.0, form_moved to p.1)

pairs_of-moved : (to : ℕ → ℕ) (fs : List Form) → pairs_of (map (form_moved to) fs) ≡ map (pair_moved to) (pairs_of fs)
pairs_of-moved to [] = refl
pairs_of-moved to (f ∷ []) = refl
pairs_of-moved to (f ∷ g ∷ fs) = ap (λ ps. (form_moved to f, form_moved to g) ∷ ps) (pairs_of-moved to fs)

kept_pair :
    (to : ℕ → ℕ) (b c : Bool) (p : Form × Form) (ps qs : List (Form × Form))
    → c ≡ b
    → qs ≡ map (pair_moved to) ps
    → (if c then pair_moved to p ∷ qs else qs) ≡ map (pair_moved to) (if b then p ∷ ps else ps)
kept_pair to true c p ps qs test rest =
    ap (λ t. if t then pair_moved to p ∷ qs else qs) test ∙ ap (λ xs. pair_moved to p ∷ xs) rest
kept_pair to false c p ps qs test rest = ap (λ t. if t then pair_moved to p ∷ qs else qs) test ∙ rest

named-moved :
    (name : List ℕ) (to : ℕ → ℕ) (ps : List (Form × Form))
    → filter (λ pair. is_named name pair.0) (map (pair_moved to) ps) ≡ map (pair_moved to)
    (filter (λ pair. is_named name pair.0) ps)
named-moved name to [] = refl
named-moved name to (p ∷ ps) =
    kept_pair to (is_named name p.0) (is_named name (form_moved to p.0)) p _ _ (is_named-moved name to p.0)
    (named-moved name to ps)

the_one-moved :
    (to : ℕ → ℕ) (m n : ℕ) (ps : List (Form × Form))
    → n ≡ to m
    → Follows to (form_moved to) (the_one m ps) (the_one n (map (pair_moved to) ps))
the_one-moved to m n [] place = follows_fault to (form_moved to) MissingField m n place
the_one-moved to m n (p ∷ []) place = refl
the_one-moved to m n (p ∷ q ∷ ps) place = follows_fault to (form_moved to) DuplicateField _ _ (place_of-moved to q.0)

field-moved :
    (name : List ℕ) (to : ℕ → ℕ) (m n : ℕ) (ps : List (Form × Form))
    → n ≡ to m
    → Follows to (form_moved to) (field name m ps) (field name n (map (pair_moved to) ps))
field-moved name to m n ps place =
    subst (λ qs. Follows to (form_moved to) (field name m ps) (the_one n qs)) (sym (named-moved name to ps))
    (the_one-moved to m n (filter (λ pair. is_named name pair.0) ps) place)

-- ---- micro-operations

read_or_write-moved :
    (to : ℕ → ℕ) (is_write : Bool) (key : Item × Atom) (f : Form)
    → Follows to (mop_moved to) (read_or_write is_write key f) (read_or_write is_write (atom_moved to key) (form_moved to f))
read_or_write-moved to true key f =
    follows_then to (λ u. u) (mop_moved to) _ _ _ _
    (follows_refuse to (is_nil f) (is_nil (form_moved to f)) NilWritten _ _ (is_nil-moved to f) (place_of-moved to f)) (λ u.
    follows_then to (atom_moved to) (mop_moved to) _ _ _ _
    (follows_or to (atom_moved to) (atom_of f) _ BadAtom _ _ (atom_of-moved to f) (place_of-moved to f)) (λ value. refl))
read_or_write-moved to false key f =
    follows_then to (value_moved to) (mop_moved to) _ _ _ _
    (follows_or to (value_moved to) (value_of f) _ BadAtom _ _ (value_of-moved to f) (place_of-moved to f)) (λ value. refl)

micro_op_of-moved :
    (to : ℕ → ℕ) (m n : ℕ) (o : Option (List Form))
    → n ≡ to m
    → Follows to (mop_moved to) (micro_op_of m o) (micro_op_of n (option_map (map (form_moved to)) o))
micro_op_of-moved to m n None place = follows_fault to (mop_moved to) NotTxn m n place
micro_op_of-moved to m n (Some []) place = follows_fault to (mop_moved to) NotTxn m n place
micro_op_of-moved to m n (Some (a ∷ [])) place = follows_fault to (mop_moved to) NotTxn m n place
micro_op_of-moved to m n (Some (a ∷ b ∷ [])) place = follows_fault to (mop_moved to) NotTxn m n place
micro_op_of-moved to m n (Some (a ∷ b ∷ c ∷ [])) place =
    follows_then to (λ (w : Bool). w) (mop_moved to) _ _ _ _
    (follows_or to (λ (w : Bool). w) (is_write_of a) (is_write_of (form_moved to a)) NotTxn m n
    (is_write_of-moved to a ∙ option_map-same (is_write_of a)) place) (λ is_write.
    follows_then to (atom_moved to) (mop_moved to) _ _ _ _
    (follows_or to (atom_moved to) (atom_of b) _ BadAtom _ _ (atom_of-moved to b) (place_of-moved to b)) (λ key.
    read_or_write-moved to is_write key c))
micro_op_of-moved to m n (Some (a ∷ b ∷ c ∷ d ∷ more)) place = follows_fault to (mop_moved to) NotTxn m n place

micro_ops_of-moved :
    (to : ℕ → ℕ) (fs : List Form) (before : ℕ)
    → Follows to (map (mop_moved to)) (micro_ops_of before fs) (micro_ops_of before (map (form_moved to) fs))
micro_ops_of-moved to [] before = refl
micro_ops_of-moved to (f ∷ fs) before =
    follows_then to (λ u. u) (map (mop_moved to)) _ _ _ _
    (follows_refuse to (nat_le MAX_MICRO_OPS before) (nat_le MAX_MICRO_OPS before) TooManyMicroOps _ _ refl (place_of-moved to f)) (λ u.
    follows_then to (mop_moved to) (map (mop_moved to)) _ _ _ _
    (subst (λ o. Follows to (mop_moved to) (micro_op_of (place_of f) (elements_of f))
    (micro_op_of (place_of (form_moved to f)) o)) (sym (elements_of-moved to f))
    (micro_op_of-moved to _ _ (elements_of f) (place_of-moved to f))) (λ mop.
    follows_then to (map (mop_moved to)) (map (mop_moved to)) _ _ _ _ (micro_ops_of-moved to fs (suc before)) (λ mops. refl)))

transaction_of-moved :
    (to : ℕ → ℕ) (f : Form)
    → Follows to (map (mop_moved to)) (transaction_of f) (transaction_of (form_moved to f))
transaction_of-moved to f =
    follows_then to (map (form_moved to)) (map (mop_moved to)) _ _ _ _
    (follows_or to (map (form_moved to)) (elements_of f) _ NotTxn _ _ (elements_of-moved to f) (place_of-moved to f)) (λ fs.
    micro_ops_of-moved to fs 0)

mops_of-moved :
    (to : ℕ → ℕ) (kind : OpKind) (m n : ℕ) (ps : List (Form × Form))
    → n ≡ to m
    → Follows to (map (mop_moved to)) (mops_of kind m ps) (mops_of kind n (map (pair_moved to) ps))
mops_of-moved to kinds.Invoke m n ps place =
    follows_then to (form_moved to) (map (mop_moved to)) _ _ _ _ (field-moved (codes ":value") to m n ps place)
    (λ f. transaction_of-moved to f)
mops_of-moved to kinds.Ok m n ps place =
    follows_then to (form_moved to) (map (mop_moved to)) _ _ _ _ (field-moved (codes ":value") to m n ps place)
    (λ f. transaction_of-moved to f)
mops_of-moved to kinds.Fail m n ps place = refl
mops_of-moved to kinds.Info m n ps place = refl

-- ---- a closed map

-- the entry at other places; its map goes from `start` to `end`
abbrev pub entry_at : (to : ℕ → ℕ) (start end : ℕ) → Entry → Entry
entry_at to start end (operation o) =
    operation (record { kind = o.kind; process = o.process; mops = map (mop_moved to) o.mops; start = start; end = end })
entry_at to start end skipped = skipped

client_operation-moved :
    (to : ℕ → ℕ) (number : ℤ) (place there m n start end : ℕ) (ps : List (Form × Form))
    → (end - start) ≡ (n - m)
    → there ≡ to place
    → start ≡ to m
    → Follows to (entry_at to start end) (client_operation number place m n ps)
    (client_operation number there start end (map (pair_moved to) ps))
client_operation-moved to number place there m n start end ps len is begins =
    follows_then to (λ (p : ℕ). p) (entry_at to start end) _ _ _ _
    (follows_or to (λ (p : ℕ). p) (process_of number) (process_of number) BadProcess _ _
    (option_map-same (process_of number)) is) (λ process.
    follows_then to (λ u. u) (entry_at to start end) _ _ _ _
    (follows_refuse to (nat_lt MAX_OPERATION_BYTES (n - m)) (nat_lt MAX_OPERATION_BYTES (end - start)) TooLong m start
    (ap (nat_lt MAX_OPERATION_BYTES) len) begins) (λ u.
    follows_then to (form_moved to) (entry_at to start end) _ _ _ _ (field-moved (codes ":type") to m start ps begins) (λ type.
    follows_then to (λ (x : OpKind). x) (entry_at to start end) _ _ _ _
    (follows_or to (λ (x : OpKind). x) (kind_of type) (kind_of (form_moved to type)) BadType _ _
    (kind_of-moved to type ∙ option_map-same (kind_of type)) (place_of-moved to type)) (λ kind.
    follows_then to (map (mop_moved to)) (entry_at to start end) _ _ _ _ (mops_of-moved to kind m start ps begins) (λ mops. refl)))))

entry_by-moved :
    (to : ℕ → ℕ) (number : Option ℤ) (place there m n start end : ℕ) (ps : List (Form × Form))
    → (end - start) ≡ (n - m)
    → there ≡ to place
    → start ≡ to m
    → Follows to (entry_at to start end) (entry_by number place m n ps)
    (entry_by number there start end (map (pair_moved to) ps))
entry_by-moved to None place there m n start end ps len is begins = refl
entry_by-moved to (Some number) place there m n start end ps len is begins =
    client_operation-moved to number place there m n start end ps len is begins

pub entry_of-moved :
    (to : ℕ → ℕ) (opener closer : Item) (fs : List Form)
    → (end_of (item_moved to closer) - to opener.start) ≡ (end_of closer - opener.start)
    → Follows to (entry_at to (to opener.start) (end_of (item_moved to closer))) (entry_of opener closer fs)
    (entry_of (item_moved to opener) (item_moved to closer) (map (form_moved to) fs))
entry_of-moved to opener closer fs len =
    let at = entry_at to (to opener.start) (end_of (item_moved to closer)) in
    follows_then to (λ u. u) at _ _ _ _
    (follows_refuse to (length fs % 2 == 1) (length (map (form_moved to) fs) % 2 == 1) OddMap _ _
    (ap (λ n. n % 2 == 1) (length-map fs (form_moved to))) refl) (λ u.
    subst (λ qs. Follows to at
    (field (codes ":process") opener.start (pairs_of fs) >>= λ process. entry_by (int_of process)
    (place_of process) opener.start (end_of closer) (pairs_of fs))
    (field (codes ":process") (to opener.start) qs >>= λ process. entry_by (int_of process) (place_of process)
    (to opener.start) (end_of (item_moved to closer)) qs))
    (sym (pairs_of-moved to fs))
    (follows_then to (form_moved to) at _ _ _ _
    (field-moved (codes ":process") to opener.start (to opener.start) (pairs_of fs) refl) (λ process.
    subst (λ number. Follows to at
    (entry_by (int_of process) (place_of process) opener.start (end_of closer) (pairs_of fs))
    (entry_by number (place_of (form_moved to process)) (to opener.start) (end_of (item_moved to closer))
    (map (pair_moved to) (pairs_of fs))))
    (sym (int_of-moved to process))
    (entry_by-moved to (int_of process) _ _ _ _ _ _ (pairs_of fs) len (place_of-moved to process) refl))))

-- ---- counted from a later offset

abbrev pub form_from : ℕ → Form → Form
form_from k f = form_moved (λ n. n - k) f
