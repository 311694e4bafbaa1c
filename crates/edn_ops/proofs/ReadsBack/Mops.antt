-- Micro-operations: their texts are chunks, and the forms that these make are read as the same micro-operations.
use Rattle.std.proofs.Common.{◌≡◌, ℕ, suc, ◌+◌, ◌<◌, ◌≤◌, List, [], ◌∷◌, ◌++◌, length, Option, Some, None, Ok, refl, sym, ◌∙◌, ap, arith}
use Rattle.std.specs.Prelude.{codes, map}
use Rattle.std.specs.List.{flat_map, join_by, All}
use Rattle.std.proofs.lemmas.Bool.{lt-leb}
use Rattle.std.proofs.lemmas.List.{append_assoc, append-nil, length-append}
use Rattle.std.proofs.lemmas.List.Elements.{All-head, All-tail}
use Rattle.hist_types.specs.Atoms.{Atom, Value}
use Rattle.hist_types.specs.Operations.{Mop, read, write}
use Rattle.hist_types.specs.declared.limits.TheConstants.{MAX_MICRO_OPS}
use Rattle.hist_types.specs.declared.types.Fault.{Fault}
use Rattle.hist_types.specs.Tokens.{Item, Opener, Closer, Keyword, run_len}
use Rattle.hist_types.specs.Entries.{PlacedMop, elements_of, micro_op_of, micro_ops_of}
use Rattle.hist_types.specs.Forms.{Form, plain, collection, forms_of, OpenCollection, Open}
use Rattle.hist_types.specs.Reading.{reading_from}
use Rattle.hist_types.specs.CanonicalText.{atom_text, value_text, mop_text}
use Rattle.edn_ops.specs.Canonical.{CanBeRead, ValueCanBeRead, MopCanBeRead}
use Rattle.edn_ops.proofs.ReadsBack.Chunks.{Chunk, gap, token, text_of, TokenFits, WellCut, item_at, tokens_at, ascii_utf8}
use Rattle.edn_ops.proofs.ReadsBack.Runs.{run_fits}
use Rattle.edn_ops.proofs.ReadsBack.Atoms.{token_kind, value_kind, atom_cut, value_cut, value_step, atom_back, atom_no_nil}

-- ---- chunks

-- a micro-operation's first member, its key and its value, nil only for a read
abbrev pub name_text : Mop → List ℕ
name_text (read key value) = codes ":r"
name_text (write key value) = codes ":w"

-- its key
abbrev pub key_of : Mop → Atom
key_of (read key value) = key
key_of (write key value) = key

-- its value
abbrev pub value_of : Mop → Value
value_of (read key value) = value
value_of (write key value) = Some value

-- the chunks of its text
abbrev pub mop_chunks : Mop → List Chunk → List Chunk
mop_chunks m more =
    token Opener (91 ∷ []) ∷ token Keyword (name_text m) ∷ gap 32
    ∷ token (token_kind (key_of m)) (atom_text (key_of m)) ∷ gap 32
    ∷ token (value_kind (value_of m)) (value_text (value_of m)) ∷ token Closer (93 ∷ []) ∷ more

-- each behind a blank
abbrev pub more_chunks : List Mop → List Chunk → List Chunk
more_chunks [] more = more
more_chunks (m ∷ ms) more = gap 32 ∷ mop_chunks m (more_chunks ms more)

-- the first with no blank before it
abbrev pub mops_chunks : List Mop → List Chunk → List Chunk
mops_chunks [] more = more
mops_chunks (m ∷ ms) more = mop_chunks m (more_chunks ms more)

-- the chunks of a micro-operation have its text
pub mop_written : (m : Mop) (more : List Chunk) → text_of (mop_chunks m more) ≡ mop_text m ++ text_of more
mop_written (read key value) more = simp append_assoc
mop_written (write key value) more = simp append_assoc

-- so have those behind blanks
pub more_written : (ms : List Mop) (more : List Chunk) → text_of (more_chunks ms more) ≡ flat_map (λ (y : Mop). codes " " ++ mop_text y) ms ++ text_of more
more_written [] more = refl
more_written (m ∷ ms) more = ap (λ (t : List ℕ). 32 ∷ t) (mop_written m (more_chunks ms more) ∙ ap (λ (t : List ℕ). mop_text m ++ t) (more_written ms more) ∙ sym (append_assoc (mop_text m) _ (text_of more)))

-- so have all of them
pub mops_written : (ms : List Mop) (more : List Chunk) → text_of (mops_chunks ms more) ≡ join_by mop_text (codes " ") ms ++ text_of more
mops_written [] more = refl
mops_written (m ∷ ms) more = mop_written m (more_chunks ms more) ∙ ap (λ (t : List ℕ). mop_text m ++ t) (more_written ms more) ∙ sym (append_assoc (mop_text m) _ (text_of more))

-- the first member is one token
name_fits : (m : Mop) (rest closers : List ℕ) → run_len rest ≡ 0 → TokenFits Keyword (name_text m) rest closers
name_fits (read key value) rest closers e = record { fits = run_fits 58 (114 ∷ []) rest refl refl refl e; utf8 = ascii_utf8 (codes ":r") refl; nests = refl; counts = refl }
name_fits (write key value) rest closers e = record { fits = run_fits 58 (119 ∷ []) rest refl refl refl e; utf8 = ascii_utf8 (codes ":w") refl; nests = refl; counts = refl }

-- its key can be read
key_can : (m : Mop) → MopCanBeRead m → CanBeRead (key_of m)
key_can (read key value) h = h.0
key_can (write key value) h = h.0

-- its value can be read
value_can : (m : Mop) → MopCanBeRead m → ValueCanBeRead (value_of m)
value_can (read key value) h = h.1
value_can (write key value) h = h.1

-- a micro-operation stands in a vector in a map
abbrev pub inside : List ℕ
inside = 93 ∷ 125 ∷ []

-- the chunks of a micro-operation may stand there
pub mop_cut : (m : Mop) (more : List Chunk) → MopCanBeRead m → WellCut more inside → WellCut (mop_chunks m more) inside
mop_cut m more h w =
    let closer = token Closer (93 ∷ []) ∷ more in
    let value = token (value_kind (value_of m)) (value_text (value_of m)) ∷ closer in
    let key = token (token_kind (key_of m)) (atom_text (key_of m)) ∷ gap 32 ∷ value in
    let closes : WellCut closer (93 ∷ inside) = (record { fits = refl; utf8 = ascii_utf8 (93 ∷ []) refl; nests = refl; counts = refl }, w) in
    let values : WellCut value (93 ∷ inside) = value_cut (value_of m) closer (93 ∷ inside) (value_can m h) refl closes in
    let keys : WellCut key (93 ∷ inside) = atom_cut (key_of m) (gap 32 ∷ value) (93 ∷ inside) (key_can m h) refl (refl, omega arith, values) in (
      record { fits = refl; utf8 = ascii_utf8 (91 ∷ []) refl; nests = refl; counts = refl },
      (name_fits m (text_of (gap 32 ∷ key)) (93 ∷ inside) refl, (refl, omega arith, keys)),
    )

-- and so may those behind blanks
pub more_cut : (ms : List Mop) (more : List Chunk) → All MopCanBeRead ms → WellCut more inside → WellCut (more_chunks ms more) inside
more_cut [] more h w = w
more_cut (m ∷ ms) more h w = (refl, omega arith, mop_cut m (more_chunks ms more) (All-head MopCanBeRead m ms h) (more_cut ms more (All-tail MopCanBeRead m ms h) w))

-- and so may all of them
pub mops_cut : (ms : List Mop) (more : List Chunk) → All MopCanBeRead ms → WellCut more inside → WellCut (mops_chunks ms more) inside
mops_cut [] more h w = w
mops_cut (m ∷ ms) more h w = mop_cut m (more_chunks ms more) (All-head MopCanBeRead m ms h) (more_cut ms more (All-tail MopCanBeRead m ms h) w)

-- ---- forms

-- where a micro-operation's key begins, its value, its closer and what comes after it
abbrev pub key_at : ℕ → Mop → ℕ
key_at at m = at + 1 + length (name_text m) + 1

-- where its value begins
abbrev pub value_at : ℕ → Mop → ℕ
value_at at m = key_at at m + length (atom_text (key_of m)) + 1

-- where its closer stands
abbrev pub closer_at : ℕ → Mop → ℕ
closer_at at m = value_at at m + length (value_text (value_of m))

-- what comes after it
abbrev pub after_mop : ℕ → Mop → ℕ
after_mop at m = closer_at at m + 1

-- the tokens of its key and of its value
abbrev pub key_token : ℕ → Mop → Item
key_token at m = item_at (key_at at m) (token_kind (key_of m)) (atom_text (key_of m))

-- and of its value
abbrev pub value_token : ℕ → Mop → Item
value_token at m = item_at (value_at at m) (value_kind (value_of m)) (value_text (value_of m))

-- its members
abbrev pub mop_members : ℕ → Mop → List Form
mop_members at m = plain (item_at (at + 1) Keyword (name_text m)) ∷ plain (key_token at m) ∷ plain (value_token at m) ∷ []

-- the form that its tokens make
abbrev pub mop_form : ℕ → Mop → Form
mop_form at m = collection (item_at at Opener (91 ∷ [])) (item_at (closer_at at m) Closer (93 ∷ [])) (forms_of (mop_members at m))

-- the micro-operation in its place
abbrev pub mop_placed : ℕ → Mop → PlacedMop
mop_placed at m = record { mop = m; key = key_token at m; value = value_token at m }

-- what is made of those behind blanks
abbrev pub more_made : {A : Type 0} → (ℕ → Mop → A) → ℕ → List Mop → List A
more_made make at [] = []
more_made make at (m ∷ ms) = make (at + 1) m ∷ more_made make (after_mop (at + 1) m) ms

-- what comes after those
abbrev pub after_more : ℕ → List Mop → ℕ
after_more at [] = at
after_more at (m ∷ ms) = after_more (after_mop (at + 1) m) ms

-- what is made of all of them
abbrev pub mops_made : {A : Type 0} → (ℕ → Mop → A) → ℕ → List Mop → List A
mops_made make at [] = []
mops_made make at (m ∷ ms) = make at m ∷ more_made make (after_mop at m) ms

-- what comes after all of them
abbrev pub after_mops : ℕ → List Mop → ℕ
after_mops at [] = at
after_mops at (m ∷ ms) = after_more (after_mop at m) ms

-- what is open inside a vector inside a map
abbrev pub inside_vector : Item → List Form → OpenCollection → Open
inside_vector vector members around =
    record { marks = []; collections = record { opener = vector; members = members; marks = [] } ∷ around ∷ [] }

-- the tokens of a micro-operation make its form
mop_read :
    (at : ℕ) (m : Mop) (more : List Chunk) (ending : Option Fault) (vector : Item) (members : List Form) (around : OpenCollection)
    → reading_from (inside_vector vector members around) (tokens_at at (mop_chunks m more)) ending
    ≡ reading_from (inside_vector vector (members ++ mop_form at m ∷ []) around) (tokens_at (after_mop at m) more) ending
mop_read at m more ending vector members around = rw (value_step (Some (key_of m)), value_step (value_of m)) refl

-- and so do those behind blanks
more_read :
    (at : ℕ) (ms : List Mop) (more : List Chunk) (ending : Option Fault) (vector : Item) (members : List Form) (around : OpenCollection)
    → reading_from (inside_vector vector members around) (tokens_at at (more_chunks ms more)) ending
    ≡ reading_from (inside_vector vector (members ++ more_made mop_form at ms) around) (tokens_at (after_more at ms) more) ending
more_read at [] more ending vector members around =
    ap (λ (fs : List Form). reading_from (inside_vector vector fs around) (tokens_at at more) ending) (sym (append-nil members))
more_read at (m ∷ ms) more ending vector members around =
    mop_read (at + 1) m (more_chunks ms more) ending vector members around
    ∙ more_read (after_mop (at + 1) m) ms more ending vector (members ++ mop_form (at + 1) m ∷ []) around
    ∙ ap (λ (fs : List Form). reading_from (inside_vector vector fs around) (tokens_at (after_more (after_mop (at + 1) m) ms) more) ending)
    (append_assoc members (mop_form (at + 1) m ∷ []) (more_made mop_form (after_mop (at + 1) m) ms))

-- and so do all of them
pub mops_read :
    (at : ℕ) (ms : List Mop) (more : List Chunk) (ending : Option Fault) (vector : Item) (around : OpenCollection)
    → reading_from (inside_vector vector [] around) (tokens_at at (mops_chunks ms more)) ending
    ≡ reading_from (inside_vector vector (mops_made mop_form at ms) around) (tokens_at (after_mops at ms) more) ending
mops_read at [] more ending vector around = refl
mops_read at (m ∷ ms) more ending vector around =
    mop_read at m (more_chunks ms more) ending vector [] around
    ∙ more_read (after_mop at m) ms more ending vector (mop_form at m ∷ []) around

-- ---- what is read

-- the form of a micro-operation is read as it
mop_back : (offset at : ℕ) (m : Mop) → MopCanBeRead m → micro_op_of offset (elements_of (mop_form at m)) ≡ Ok (mop_placed at m)
mop_back offset at (read key None) h = rw (atom_back key h.0) refl
mop_back offset at (read key (Some value)) h = rw (atom_back key h.0, atom_no_nil value, atom_back value h.1) refl
mop_back offset at (write key value) h = rw (atom_back key h.0, atom_no_nil value, atom_back value h.1) refl

-- the next of at most 256 is read as itself
next_back :
    (before at : ℕ) (m : Mop) (forms : List Form) (ms : List PlacedMop)
    → before < MAX_MICRO_OPS → MopCanBeRead m → micro_ops_of (suc before) forms ≡ Ok ms
    → micro_ops_of before (mop_form at m ∷ forms) ≡ Ok (mop_placed at m ∷ ms)
next_back before at m forms ms few h rest = rw (lt-leb MAX_MICRO_OPS before few, mop_back at at m h, rest) refl

-- many are read as themselves
more_back : (before at : ℕ) (ms : List Mop) → before + length ms ≤ MAX_MICRO_OPS → All MopCanBeRead ms → micro_ops_of before (more_made mop_form at ms) ≡ Ok (more_made mop_placed at ms)
more_back before at [] few h = refl
more_back before at (m ∷ ms) few h =
    next_back before (at + 1) m (more_made mop_form (after_mop (at + 1) m) ms) (more_made mop_placed (after_mop (at + 1) m) ms) (omega (arith, few)) (All-head MopCanBeRead m ms h)
    (more_back (suc before) (after_mop (at + 1) m) ms (omega (arith, few)) (All-tail MopCanBeRead m ms h))

-- all of them are read as themselves
pub mops_back : (at : ℕ) (ms : List Mop) → length ms ≤ MAX_MICRO_OPS → All MopCanBeRead ms → micro_ops_of 0 (mops_made mop_form at ms) ≡ Ok (mops_made mop_placed at ms)
mops_back at [] few h = refl
mops_back at (m ∷ ms) few h =
    next_back 0 at m (more_made mop_form (after_mop at m) ms) (more_made mop_placed (after_mop at m) ms) (omega arith) (All-head MopCanBeRead m ms h)
    (more_back 1 (after_mop at m) ms (omega (arith, few)) (All-tail MopCanBeRead m ms h))

-- what is placed are the micro-operations
more_placed : (at : ℕ) (ms : List Mop) → map (λ (p : PlacedMop). p.mop) (more_made mop_placed at ms) ≡ ms
more_placed at [] = refl
more_placed at (m ∷ ms) = ap (λ (xs : List Mop). m ∷ xs) (more_placed (after_mop (at + 1) m) ms)

-- and so are all of them
pub mops_placed : (at : ℕ) (ms : List Mop) → map (λ (p : PlacedMop). p.mop) (mops_made mop_placed at ms) ≡ ms
mops_placed at [] = refl
mops_placed at (m ∷ ms) = ap (λ (xs : List Mop). m ∷ xs) (more_placed (after_mop at m) ms)

-- ---- lengths

-- a micro-operation is as long as its text
mop_length : (at : ℕ) (m : Mop) → after_mop at m ≡ at + length (mop_text m)
mop_length at (read key value) = simp length-append (omega arith)
mop_length at (write key value) = simp length-append (omega arith)

-- and so are those behind blanks
more_length : (at : ℕ) (ms : List Mop) → after_more at ms ≡ at + length (flat_map (λ (y : Mop). codes " " ++ mop_text y) ms)
more_length at [] = omega arith
more_length at (m ∷ ms) =
    more_length (after_mop (at + 1) m) ms ∙ omega (arith, mop_length (at + 1) m, length-append (mop_text m) (flat_map (λ (y : Mop). codes " " ++ mop_text y) ms))

-- and so are all of them
pub mops_length : (at : ℕ) (ms : List Mop) → after_mops at ms ≡ at + length (join_by mop_text (codes " ") ms)
mops_length at [] = omega arith
mops_length at (m ∷ ms) =
    more_length (after_mop at m) ms ∙ omega (arith, mop_length at m, length-append (mop_text m) (flat_map (λ (y : Mop). codes " " ++ mop_text y) ms))
