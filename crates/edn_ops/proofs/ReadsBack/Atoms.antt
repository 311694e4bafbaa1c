-- Atoms and values: the text of each is one token, which means that atom.
use Rattle.std.proofs.Common.{◌≡◌, ◌≢◌, Result, Ok, inl, inr, ℕ, ℤ, pos, negsuc, suc, ◌^◌, List, [], ◌∷◌, ◌++◌, length, true, false, Some, None, refl, sym, ◌∙◌, ap, subst, arith}
use Rattle.std.specs.Prelude.{if◌then◌else◌, option_map, codes, decimal}
use Rattle.std.specs.List.{flat_map}
use Rattle.std.specs.Str.{IsUtf8}
use Rattle.std.specs.Fmt.{signed_decimal}
use Rattle.std.proofs.lemmas.Bool.{cases_Bool, ne_eqb, ltb-true}
use Rattle.std.proofs.lemmas.Str.{IsUtf8-from_ascii, IsUtf8-append}
use Rattle.std.proofs.lemmas.Str.Ascii.{IsAscii-cons}
use Rattle.std.proofs.lemmas.Fmt.{IsAscii-decimal}
use Rattle.hist_types.specs.Bytes.{quote, backslash, hash}
use Rattle.hist_types.specs.Atoms.{Atom, integer, keyword, string, symbol, Value}
use Rattle.hist_types.specs.Tokens.{Item, ItemKind, Str, Int, Keyword, Symbol, Nil, Other, run_len, run_kind, is_int, open_after}
use Rattle.hist_types.specs.AtomTokens.{is_64_bit, int_value, atom_of_token, is_nil_kind, decoded}
use Rattle.hist_types.specs.Entries.{◌>>=◌, refuse_if}
use Rattle.hist_types.specs.Forms.{Open, plain, with_form}
use Rattle.hist_types.specs.Reading.{Step, only_opens, in_operation_place, step_by}
use Rattle.hist_types.specs.declared.types.Fault.{Fault}
use Rattle.hist_types.specs.declared.types.Refusal.TheVariants.{NotAMap}
use Rattle.hist_types.specs.CanonicalText.{atom_text, value_text, written_byte}
use Rattle.edn_ops.specs.Canonical.{IsSpelling, CanBeRead, ValueCanBeRead}
use Rattle.edn_ops.proofs.ReadsBack.Chunks.{Chunk, token, text_of, WellCut, Fits, TokenFits, ascii_utf8}
use Rattle.edn_ops.proofs.ReadsBack.Runs.{decimal_is, decimal_value, negative_value, run_fits, decimal_fits, negative_fits}
use Rattle.edn_ops.proofs.ReadsBack.Strings.{string_fits, decoded_written, between_written, written_utf8}

-- the kind of an atom's token
abbrev pub token_kind : Atom → ItemKind
token_kind (integer n) = Int
token_kind (keyword spelling) = Keyword
token_kind (string content) = Str
token_kind (symbol spelling) = Symbol

-- the kind of a value's token
abbrev pub value_kind : Value → ItemKind
value_kind None = Nil
value_kind (Some atom) = token_kind atom

-- what begins with a `#` is no keyword and no symbol
hash_kind : (kind : ItemKind) (bs : List ℕ) → Int ≢ kind → Other ≢ kind → run_kind (hash ∷ bs) ≡ kind → ⊥
hash_kind kind bs no_int no_other e = elim (cases_Bool (is_int (hash ∷ bs))) [
  | inl is ↦ no_int (rw is at e)
  | inr is_not ↦ no_other (rw is_not at e)
]

-- a keyword or a symbol is one token
spelling_fits : (kind : ItemKind) (spelling rest : List ℕ) → Int ≢ kind → Other ≢ kind → IsSpelling kind spelling → run_len rest ≡ 0 → Fits kind spelling rest
spelling_fits kind [] rest no_int no_other s e = absurd (omega (arith, s.nonempty))
spelling_fits kind (b ∷ bs) rest no_int no_other s e =
    let no_backslash = ne_eqb b backslash s.no_character in
    let no_hash = ne_eqb b hash (λ (q : b ≡ hash). hash_kind kind bs no_int no_other (subst (λ (c : ℕ). run_kind (c ∷ bs) ≡ kind) q s.of_kind)) in
    run_fits b bs rest s.one_run no_backslash no_hash e ∙ ap (λ (k : ItemKind). (k, Some (suc (length bs)))) s.of_kind

-- an integer is one token
integer_fits : (n : ℤ) (rest : List ℕ) → is_64_bit n ≡ true → run_len rest ≡ 0 → Fits Int (signed_decimal n) rest
integer_fits (pos n) rest h e = let low = ltb-true n (2 ^ 63) h in decimal_fits (decimal n) rest (decimal_is n (omega (arith, low))) e
integer_fits (negsuc n) rest h e = let low = ltb-true n (2 ^ 63) h in negative_fits (decimal (suc n)) rest (decimal_is (suc n) (omega (arith, low))) e

-- and its text is ASCII
integer_utf8 : (n : ℤ) → is_64_bit n ≡ true → IsUtf8 (signed_decimal n)
integer_utf8 (pos n) h = let low = ltb-true n (2 ^ 63) h in IsUtf8-from_ascii (decimal n) (IsAscii-decimal n (omega (arith, low)))
integer_utf8 (negsuc n) h =
    let low = ltb-true n (2 ^ 63) h in
    IsUtf8-from_ascii (45 ∷ decimal (suc n)) (IsAscii-cons 45 (decimal (suc n)) (omega arith) (IsAscii-decimal (suc n) (omega (arith, low))))

-- one quote is UTF-8
quote_utf8 : IsUtf8 (quote ∷ [])
quote_utf8 = ascii_utf8 (quote ∷ []) refl

-- an atom is one token
pub atom_fits : (a : Atom) (rest closers : List ℕ) → CanBeRead a → run_len rest ≡ 0 → TokenFits (token_kind a) (atom_text a) rest closers
atom_fits (integer n) rest closers h e = record { fits = integer_fits n rest h e; utf8 = integer_utf8 n h; nests = refl; counts = refl }
atom_fits (keyword s) rest closers h e = record { fits = spelling_fits Keyword s rest (λ q. cc) (λ q. cc) h e; utf8 = h.utf8; nests = refl; counts = refl }
atom_fits (string content) rest closers h e = record {
  fits = string_fits content rest;
  utf8 = IsUtf8-append (quote ∷ []) (flat_map written_byte content ++ quote ∷ []) quote_utf8 (IsUtf8-append (flat_map written_byte content) (quote ∷ []) (written_utf8 content h) quote_utf8);
  nests = refl;
  counts = refl;
}
atom_fits (symbol s) rest closers h e = record { fits = spelling_fits Symbol s rest (λ q. cc) (λ q. cc) h e; utf8 = h.utf8; nests = refl; counts = refl }

-- a value is one token
pub value_fits : (v : Value) (rest closers : List ℕ) → ValueCanBeRead v → run_len rest ≡ 0 → TokenFits (value_kind v) (value_text v) rest closers
value_fits None rest closers h e = record {
  fits = run_fits 110 (105 ∷ 108 ∷ []) rest refl refl refl e;
  utf8 = ascii_utf8 (codes "nil") refl;
  nests = refl;
  counts = refl;
}
value_fits (Some a) rest closers h e = atom_fits a rest closers h e

-- what a token that stands alone makes of what is open
abbrev pub step_alone : Open → Item → Result Step Fault
step_alone o t = refuse_if (in_operation_place o) NotAMap t.start >>= λ _. Ok (only_opens (with_form (plain t) o.marks o.collections))

-- the token of an atom stands alone
atom_step : (a : Atom) (o : Open) (t : Item) → step_by (token_kind a) o t ≡ step_alone o t
atom_step a o t = grind arith

-- and so does that of a value
pub value_step : (v : Value) (o : Open) (t : Item) → step_by (value_kind v) o t ≡ step_alone o t
value_step None o t = refl
value_step (Some a) o t = atom_step a o t

-- the number is read back
integer_back : (n : ℤ) → is_64_bit n ≡ true → int_value (signed_decimal n) ≡ n
integer_back (pos n) h = let low = ltb-true n (2 ^ 63) h in decimal_value n (omega (arith, low))
integer_back (negsuc n) h = let low = ltb-true n (2 ^ 63) h in negative_value n (omega (arith, low))

-- an atom is read back from its token
pub atom_back : (a : Atom) → CanBeRead a → atom_of_token (token_kind a) (atom_text a) ≡ Some a
atom_back (integer n) h = let e = integer_back n h in subst (λ (m : ℤ). (if is_64_bit m then Some (integer m) else None) ≡ Some (integer n)) (sym e) (rw h refl)
atom_back (keyword s) h = refl
atom_back (string content) h =
    ap (λ (xs : List ℕ). option_map string (decoded false xs)) (between_written (flat_map written_byte content)) ∙ ap (option_map string) (decoded_written content)
atom_back (symbol s) h = refl

-- and is no nil
pub atom_no_nil : (a : Atom) → is_nil_kind (token_kind a) ≡ false
atom_no_nil a = grind arith

-- an atom's token opens and closes nothing
atom_open : (a : Atom) (bytes closers : List ℕ) → open_after (token_kind a) bytes closers ≡ closers
atom_open a bytes closers = grind arith

-- nor does a value's
value_open : (v : Value) (bytes closers : List ℕ) → open_after (value_kind v) bytes closers ≡ closers
value_open None bytes closers = refl
value_open (Some a) bytes closers = atom_open a bytes closers

-- an atom may stand before chunks that begin with no byte of a run
pub atom_cut : (a : Atom) (more : List Chunk) (closers : List ℕ) → CanBeRead a → run_len (text_of more) ≡ 0 → WellCut more closers → WellCut (token (token_kind a) (atom_text a) ∷ more) closers
atom_cut a more closers h e w = (atom_fits a (text_of more) closers h e, subst (WellCut more) (sym (atom_open a (atom_text a) closers)) w)

-- and so may a value
pub value_cut : (v : Value) (more : List Chunk) (closers : List ℕ) → ValueCanBeRead v → run_len (text_of more) ≡ 0 → WellCut more closers → WellCut (token (value_kind v) (value_text v) ∷ more) closers
value_cut v more closers h e w = (value_fits v (text_of more) closers h e, subst (WellCut more) (sym (value_open v (value_text v) closers)) w)
