-- Texts and what they read as: tokens, operations, and the fault with its byte.
use Rattle.std.proofs.Common.{◌≡◌, ℕ, List, [], ◌∷◌, ◌++◌, Some, None, codes, replicate, refl, negsuc, Err}
use Rattle.hist_types.specs.Atoms.{integer, string, symbol}
use Rattle.hist_types.specs.Operations.{read, write}
use Rattle.hist_types.specs.Tokens.{Item, ItemKind, Opener, Closer, Str, Drop, Tag, Nil, Int, Keyword, Other, HasTokens, byte_fault, nesting_refusal}
use Rattle.hist_types.specs.Entries.{PlacedOperation, operation, micro_ops_of}
use Rattle.hist_types.specs.Forms.{Form, plain, collection, forms_of}
use Rattle.hist_types.specs.Reading.{Reading, reading_of, Reads}
use Rattle.hist_types.specs.declared.types.OpKind.TheVariants as kinds
use Rattle.hist_types.specs.declared.types.Refusal.{Refusal}
use Rattle.hist_types.specs.declared.types.Refusal.TheVariants.{BadUtf8, UnclosedString, StrayCloser, TooDeep, Unclosed, OddMap, DanglingTag, NotAMap, MissingField, DuplicateField, BadType, BadProcess, NotTxn, BadAtom, NilWritten, TooLong, TooManyMicroOps}
use Rattle.hist_types.proofs.Rows.History.{x, number, sets, gets, invoke, ok, fail, info}
use Rattle.hist_types.proofs.Rows.Cutting.{has_tokens, reads, ReadsAs, reads_as, refused, RefusedAt, cutting_texts}

-- a token by its kind, the offset of its first byte, and its bytes
abbrev pub token : ItemKind → ℕ → List ℕ → Item
token kind start bytes = record { kind = kind; start = start; bytes = bytes }

-- ---- lines of a history

-- A line as it could be printed by a test, with a tag before it, fields that are not looked at, and a comment after it.
abbrev pub tagged_line : List ℕ
tagged_line = codes "#jepsen.history.Op{:type :invoke, :f :txn, :process 0, :value [[:w :x 1]], :error [:odd 0.5 #_ 5 \"a;b\"]} ; first"

-- Its tokens.
tagged_line-tokens :
    HasTokens tagged_line
    (
    token Tag 0 (codes "#jepsen.history.Op")
    ∷ token Opener 18 (codes "{")
    ∷ token Keyword 19 (codes ":type")
    ∷ token Keyword 25 (codes ":invoke")
    ∷ token Keyword 34 (codes ":f")
    ∷ token Keyword 37 (codes ":txn")
    ∷ token Keyword 43 (codes ":process")
    ∷ token Int 52 (codes "0")
    ∷ token Keyword 55 (codes ":value")
    ∷ token Opener 62 (codes "[")
    ∷ token Opener 63 (codes "[")
    ∷ token Keyword 64 (codes ":w")
    ∷ token Keyword 67 (codes ":x")
    ∷ token Int 70 (codes "1")
    ∷ token Closer 71 (codes "]")
    ∷ token Closer 72 (codes "]")
    ∷ token Keyword 75 (codes ":error")
    ∷ token Opener 82 (codes "[")
    ∷ token Keyword 83 (codes ":odd")
    ∷ token Other 88 (codes "0.5")
    ∷ token Drop 92 (codes "#_")
    ∷ token Int 95 (codes "5")
    ∷ token Str 97 (codes "\"a;b\"")
    ∷ token Closer 102 (codes "]")
    ∷ token Closer 103 (codes "}")
    ∷ []
    )
    None
unfolding cutting_texts
tagged_line-tokens = has_tokens 112 tagged_line _ None refl

-- It reads as an invocation that writes 1 to :x.
tagged_line-reads : ReadsAs tagged_line (Some (invoke 0 (sets x 1 ∷ [])) ∷ []) None
unfolding cutting_texts
tagged_line-reads = reads_as 112 _ _ None refl

-- The same operation, written plainly.
abbrev pub plain_line : List ℕ
plain_line = codes "{:type :invoke, :process 0, :value [[:w :x 1]]}"

-- Its tokens.
plain_line-tokens :
    HasTokens plain_line
    (
    token Opener 0 (codes "{")
    ∷ token Keyword 1 (codes ":type")
    ∷ token Keyword 7 (codes ":invoke")
    ∷ token Keyword 16 (codes ":process")
    ∷ token Int 25 (codes "0")
    ∷ token Keyword 28 (codes ":value")
    ∷ token Opener 35 (codes "[")
    ∷ token Opener 36 (codes "[")
    ∷ token Keyword 37 (codes ":w")
    ∷ token Keyword 40 (codes ":x")
    ∷ token Int 43 (codes "1")
    ∷ token Closer 44 (codes "]")
    ∷ token Closer 45 (codes "]")
    ∷ token Closer 46 (codes "}")
    ∷ []
    )
    None
unfolding cutting_texts
plain_line-tokens = has_tokens 47 plain_line _ None refl

-- It reads as the same invocation.
plain_line-reads : ReadsAs plain_line (Some (invoke 0 (sets x 1 ∷ [])) ∷ []) None
unfolding cutting_texts
plain_line-reads = reads_as 47 _ _ None refl

-- In the tagged line the map begins at 18.
abbrev pub tagged_operation : PlacedOperation
tagged_operation = record {
  kind = kinds.Invoke;
  process = 0;
  mops = record { mop = sets x 1; key = token Keyword 67 (codes ":x"); value = token Int 70 (codes "1") } ∷ [];
  start = 18;
  end = 104;
}

tagged_line-places : Reads tagged_line (operation tagged_operation ∷ []) None
unfolding cutting_texts
tagged_line-places = reads 112 tagged_line (operation tagged_operation ∷ []) None refl

-- An operation whose process is no integer is skipped: by keyword, nil, decimal and tag.
other_process :
    (ReadsAs (codes "{:type :info, :process :nemesis, :f :kill, :value nil}") (None ∷ []) None)
    × (ReadsAs (codes "{:process nil}") (None ∷ []) None)
    × (ReadsAs (codes "{:process 1.5 :type 7}") (None ∷ []) None)
    × (ReadsAs (codes "{:process #t 5}") (None ∷ []) None)
unfolding cutting_texts
other_process = (
  reads_as 54 _ _ None refl,
  reads_as 14 _ _ None refl,
  reads_as 22 _ _ None refl,
  reads_as 15 _ _ None refl,
)

-- Both inside one vector, and in a list with a tag before it, read alike.
in_a_vector :
    (ReadsAs (codes "[{:type :invoke, :process 0, :value [[:w :x 1]]}\n{:type :info, :process :nemesis, :f :kill, :value nil}]") (Some (invoke 0 (sets x 1 ∷ [])) ∷ None ∷ []) None)
    × (ReadsAs (codes "#t ({:type :info, :process :nemesis, :f :kill, :value nil} #u {:type :invoke, :process 0, :value [[:w :x 1]]})") (None ∷ Some (invoke 0 (sets x 1 ∷ [])) ∷ []) None)
unfolding cutting_texts
in_a_vector = (
  reads_as 104 _ _ None refl,
  reads_as 110 _ _ None refl,
)

-- Fields with an index and a time are passed over.
indexed_line : ReadsAs (codes "{:index 0, :time 5, :type :invoke, :process 0, :f :txn, :value [[:w :x 1]]}") (Some (invoke 0 (sets x 1 ∷ [])) ∷ []) None
unfolding cutting_texts
indexed_line = reads_as 75 _ _ None refl

-- A fail and an info have no micro-operations, whatever their value, and however many.
completions :
    (ReadsAs (codes "{:type :fail, :process 7, :value [[:w :x]]}") (Some (fail 7) ∷ []) None)
    × (ReadsAs (codes "{:type :fail, :process 7, :value 1, :value 2}") (Some (fail 7) ∷ []) None)
    × (ReadsAs (codes "{:process 7 :type :info}") (Some (info 7) ∷ []) None)
unfolding cutting_texts
completions = (
  reads_as 43 _ _ None refl,
  reads_as 44 _ _ None refl,
  reads_as 24 _ _ None refl,
)

-- Blanks, comments and forms that are left out are no operation.
no_operation :
    (ReadsAs (codes "") [] None)
    × (ReadsAs (codes " ,\n; {\n") [] None)
    × (ReadsAs (codes "#_ {:bad} #_ #_ 1 2") [] None)
    × (ReadsAs (codes "[] ()") [] None)
unfolding cutting_texts
no_operation = (
  reads_as 0 _ _ None refl,
  reads_as 7 _ _ None refl,
  reads_as 19 _ _ None refl,
  reads_as 5 _ _ None refl,
)

-- ---- atoms

-- A sign, a trailing N and a zero's sign change no number.
equal_integers : ReadsAs (codes "{:type :ok :process +0N :value [[:r x -0] [:w :x +5N] [:w -7 0]]}") (Some (ok 0 (gets (symbol (codes "x")) 0 ∷ sets x 5 ∷ sets (integer (negsuc 6)) 0 ∷ [])) ∷ []) None
unfolding cutting_texts
equal_integers = reads_as 65 _ _ None refl

-- Strings are decoded: an escaped tab is the byte 9.
strings : ReadsAs (codes "{:type :ok :process 0 :value [[:w \"a\\tb\" \"\\b\\f\\n\\r\\\"\\\\\"]]}") (Some (ok 0 (write (string (97 ∷ 9 ∷ 98 ∷ [])) (string (8 ∷ 12 ∷ 10 ∷ 13 ∷ 34 ∷ 92 ∷ [])) ∷ [])) ∷ []) None
unfolding cutting_texts
strings = reads_as 58 _ _ None refl

-- Integers go up to 64 bits,
greatest_integers : ReadsAs (codes "{:type :ok :process 0 :value [[:w 9223372036854775807 -9223372036854775808]]}") (Some (ok 0 (write (number 9223372036854775807) (integer (negsuc 9223372036854775807)) ∷ [])) ∷ []) None
unfolding cutting_texts
greatest_integers = reads_as 77 _ _ None refl

-- and no further, neither as values nor as keys.
past_64_bits :
    (RefusedAt (codes "{:type :ok :process 0 :value [[:w :x 9223372036854775808]]}") BadAtom 37)
    × (RefusedAt (codes "{:type :ok :process 0 :value [[:w -9223372036854775809 1]]}") BadAtom 34)
unfolding cutting_texts
past_64_bits = (
  refused 59 _ BadAtom 37 refl,
  refused 59 _ BadAtom 34 refl,
)

-- What looks like a number or nil, and is none, is a symbol.
symbols : ReadsAs (codes "{:type :ok :process 0 :value [[:w nil? N] [:r - ..5] [:w a#b a\\b]]}") (Some (ok 0 (write (symbol (codes "nil?")) (symbol (codes "N")) ∷ read (symbol (codes "-")) (Some (symbol (codes "..5"))) ∷ write (symbol (codes "a#b")) (symbol (codes "a\\b")) ∷ [])) ∷ []) None
unfolding cutting_texts
symbols = reads_as 67 _ _ None refl

-- A `#_` inside a run leaves nothing out.
one_symbol : ReadsAs (codes "{:type :ok :process 0 :value [[:w nil#_5 1]]}") (Some (ok 0 (sets (symbol (codes "nil#_5")) 1 ∷ [])) ∷ []) None
unfolding cutting_texts
one_symbol = reads_as 45 _ _ None refl

-- ---- faults

-- A text that ends in an open collection is told at the innermost one.
truncated : RefusedAt (codes "{:type :invoke, :process 0, :value [[:w :x 1]") Unclosed 35
unfolding cutting_texts
truncated = refused 45 _ Unclosed 35 refl

-- A process is at most 2147483647, and at least 0.
bad_process :
    (RefusedAt (codes "{:type :invoke, :process 2147483648, :value []}") BadProcess 25)
    × (ReadsAs (codes "{:type :invoke, :process 2147483647, :value []}") (Some (invoke 2147483647 []) ∷ []) None)
    × (RefusedAt (codes "{:type :info, :process -1}") BadProcess 23)
unfolding cutting_texts
bad_process = (
  refused 47 _ BadProcess 25 refl,
  reads_as 47 _ _ None refl,
  refused 26 _ BadProcess 23 refl,
)

-- A string with an escape that has no meaning here is no atom.
bad_escape : RefusedAt (codes "{:type :invoke, :process 0, :value [[:w \"\\q\" 1]]}") BadAtom 40
unfolding cutting_texts
bad_escape = refused 49 _ BadAtom 40 refl

-- nil is not written, but a key that is no atom is told before that, and a tagged nil is no nil.
nil_written :
    (RefusedAt (codes "{:type :invoke, :process 0, :value [[:w :x nil]]}") NilWritten 43)
    × (RefusedAt (codes "{:type :invoke, :process 0, :value [[:w nil nil]]}") BadAtom 40)
    × (RefusedAt (codes "{:type :invoke, :process 0, :value [[:w :x #t nil]]}") BadAtom 43)
unfolding cutting_texts
nil_written = (
  refused 49 _ NilWritten 43 refl,
  refused 50 _ BadAtom 40 refl,
  refused 52 _ BadAtom 43 refl,
)

-- A closer of another kind, also where a tag waits, and one where nothing is open.
stray_closer :
    (RefusedAt (codes "{:type :invoke, :process 0)") StrayCloser 26)
    × (RefusedAt (codes "{:error #a ]") StrayCloser 11)
    × (ReadsAs (codes "{:process a} )") (None ∷ []) (Some (byte_fault StrayCloser 13)))
unfolding cutting_texts
stray_closer = (
  refused 27 _ StrayCloser 26 refl,
  refused 12 _ StrayCloser 11 refl,
  reads_as 14 _ _ (Some (byte_fault StrayCloser 13)) refl,
)

-- A map that is cut off is told at its opener, wherever it is cut, and whole it is an operation.
unclosed_map :
    (RefusedAt (codes "{") Unclosed 0)
    × (RefusedAt (codes "{:type :info, :process 1") Unclosed 0)
    × (ReadsAs (codes "{:type :info, :process 1}") (Some (info 1) ∷ []) None)
unfolding cutting_texts
unclosed_map = (
  refused 1 _ Unclosed 0 refl,
  refused 24 _ Unclosed 0 refl,
  reads_as 25 _ _ None refl,
)

-- A string that nothing closes is told at its quote, also where its bytes are no UTF-8.
unclosed_string :
    (RefusedAt (codes "{:error \"a") UnclosedString 8)
    × (RefusedAt (codes "{:error \"" ++ 195 ∷ []) UnclosedString 8)
unfolding cutting_texts
unclosed_string = (
  refused 10 _ UnclosedString 8 refl,
  refused 10 _ UnclosedString 8 refl,
)

-- A byte that begins no character is told itself.
bad_utf8 :
    (RefusedAt (codes "{:error " ++ 195 ∷ []) BadUtf8 8)
    × (RefusedAt (codes "abc" ++ 195 ∷ []) BadUtf8 3)
    × (RefusedAt (34 ∷ 237 ∷ 160 ∷ 128 ∷ 34 ∷ []) BadUtf8 1)
unfolding cutting_texts
bad_utf8 = (
  refused 9 _ BadUtf8 8 refl,
  refused 4 _ BadUtf8 3 refl,
  refused 5 _ BadUtf8 1 refl,
)

-- A tag or `#_` without a form is told at the last one that waits,
dangling :
    (RefusedAt (codes "[#a]") DanglingTag 1)
    × (RefusedAt (codes "[#a") DanglingTag 1)
    × (RefusedAt (codes "{:error #_") DanglingTag 8)
    × (RefusedAt (codes "{:error #x") DanglingTag 8)
    × (RefusedAt (codes "{:error #_ #_ 1") DanglingTag 8)
    × (RefusedAt (codes "#") DanglingTag 0)
unfolding cutting_texts
dangling = (
  refused 4 _ DanglingTag 1 refl,
  refused 3 _ DanglingTag 1 refl,
  refused 10 _ DanglingTag 8 refl,
  refused 10 _ DanglingTag 8 refl,
  refused 15 _ DanglingTag 8 refl,
  refused 1 _ DanglingTag 0 refl,
)

-- and not where a collection has been opened behind it, or has a member.
not_dangling :
    (RefusedAt (codes "#a [") Unclosed 3)
    × (RefusedAt (codes "{:error #x [") Unclosed 11)
    × (RefusedAt (codes "#_ [5") Unclosed 3)
unfolding cutting_texts
not_dangling = (
  refused 4 _ Unclosed 3 refl,
  refused 12 _ Unclosed 11 refl,
  refused 5 _ Unclosed 3 refl,
)

-- Only maps are operations: no number, no set, no vector in a vector, and no form behind a tag but a map; and a
-- member of a tagged vector is in an operation's place too.
not_a_map :
    (RefusedAt (codes "5") NotAMap 0)
    × (RefusedAt (codes "#{}") NotAMap 0)
    × (RefusedAt (codes "[[]]") NotAMap 1)
    × (RefusedAt (codes "#foo 5") NotAMap 5)
    × (RefusedAt (codes "[5") NotAMap 1)
    × (RefusedAt (codes "#t [5") NotAMap 4)
unfolding cutting_texts
not_a_map = (
  refused 1 _ NotAMap 0 refl,
  refused 3 _ NotAMap 0 refl,
  refused 4 _ NotAMap 1 refl,
  refused 6 _ NotAMap 5 refl,
  refused 2 _ NotAMap 1 refl,
  refused 5 _ NotAMap 4 refl,
)

-- A map with an odd number of forms, told before its fields are looked for.
odd_map :
    (RefusedAt (codes "{:process}") OddMap 0)
    × (RefusedAt (codes "{:process 0 :type}") OddMap 0)
unfolding cutting_texts
odd_map = (
  refused 10 _ OddMap 0 refl,
  refused 18 _ OddMap 0 refl,
)

-- A field that is missing is told at the `{`, one that stands twice at its second key, also a process that is skipped.
fields :
    (RefusedAt (codes "{}") MissingField 0)
    × (RefusedAt (codes "{:type :info :process 1 :process 2}") DuplicateField 24)
    × (RefusedAt (codes "{:process 1 :type :info :type :ok :type :fail}") DuplicateField 24)
    × (RefusedAt (codes "{:process a :process b}") DuplicateField 12)
    × (RefusedAt (codes "{:process 0 :type :ok}") MissingField 0)
    × (RefusedAt (codes "{#t :process 5}") MissingField 0)
unfolding cutting_texts
fields = (
  refused 2 _ MissingField 0 refl,
  refused 35 _ DuplicateField 24 refl,
  refused 45 _ DuplicateField 24 refl,
  refused 23 _ DuplicateField 12 refl,
  refused 22 _ MissingField 0 refl,
  refused 15 _ MissingField 0 refl,
)

-- A type that is none of the four.
bad_type :
    (RefusedAt (codes "{:process 0 :type ok}") BadType 18)
    × (RefusedAt (codes "{:process 0 :type #t :ok}") BadType 18)
unfolding cutting_texts
bad_type = (
  refused 21 _ BadType 18 refl,
  refused 25 _ BadType 18 refl,
)

-- A value that is no list of reads and writes, told at the value or at the member.
not_txn :
    (RefusedAt (codes "{:process 0 :type :ok :value nil}") NotTxn 29)
    × (RefusedAt (codes "{:process 0 :type :ok :value #t []}") NotTxn 29)
    × (RefusedAt (codes "{:process 0 :type :ok :value [[:r :x]]}") NotTxn 30)
    × (RefusedAt (codes "{:process 0 :type :ok :value [[:r :x 1 2]]}") NotTxn 30)
    × (RefusedAt (codes "{:process 0 :type :ok :value [#_ 5 [:append :x 1]]}") NotTxn 35)
unfolding cutting_texts
not_txn = (
  refused 33 _ NotTxn 29 refl,
  refused 35 _ NotTxn 29 refl,
  refused 39 _ NotTxn 30 refl,
  refused 43 _ NotTxn 30 refl,
  refused 51 _ NotTxn 35 refl,
)

-- What has been read before a fault stands; an operation's own faults come before those of the text behind it.
first_fault :
    (ReadsAs (codes "{:process a} {:process 0 :type :fail} 5") (None ∷ Some (fail 0) ∷ []) (Some (byte_fault NotAMap 38)))
    × (RefusedAt (codes "{} \"abc") MissingField 0)
unfolding cutting_texts
first_fault = (
  reads_as 39 _ _ (Some (byte_fault NotAMap 38)) refl,
  refused 7 _ MissingField 0 refl,
)

-- ---- long operations

-- the reading of `{:process NUMBER}` with its closer at this place; what else stands between is left out
abbrev process_alone : (number : List ℕ) → (closer : ℕ) → Reading
process_alone number closer =
    reading_of (token Opener 0 (codes "{") ∷ token Keyword 1 (codes ":process") ∷ token Int 10 number ∷ token Closer closer (codes "}") ∷ []) None

abbrev refused_reading : Refusal → ℕ → Reading
refused_reading refusal offset = record { entries = []; fault = Some (byte_fault refusal offset) }

-- A map of 65,536 bytes is not too long, and one of a byte more is, before its type is looked for; but a process that is out of
-- range comes before that.
too_long :
    (process_alone (codes "0") 65535 ≡ refused_reading MissingField 0)
    × (process_alone (codes "0") 65536 ≡ refused_reading TooLong 0)
    × (process_alone (codes "-1") 65536 ≡ refused_reading BadProcess 10)
too_long = (refl, refl, refl)

-- `[:r :x nil]`
abbrev one_read : Form
one_read =
    collection (token Opener 30 (codes "[")) (token Closer 40 (codes "]"))
    (forms_of (plain (token Keyword 31 (codes ":r")) ∷ plain (token Keyword 34 (codes ":x")) ∷ plain (token Nil 37 (codes "nil")) ∷ []))

-- a member that is no micro-operation
abbrev no_read : Form
no_read = plain (token Int 70 (codes "5"))

-- The 257th member is refused at its place, whatever it is; the 256th isn't, for that.
too_many_micro_ops :
    (micro_ops_of 0 (replicate 256 one_read ++ no_read ∷ []) ≡ Err (byte_fault TooManyMicroOps 70))
    × (micro_ops_of 0 (replicate 256 one_read ++ one_read ∷ []) ≡ Err (byte_fault TooManyMicroOps 30))
    × (micro_ops_of 0 (replicate 255 one_read ++ no_read ∷ []) ≡ Err (byte_fault NotTxn 70))
too_many_micro_ops = (refl, refl, refl)

-- ---- depth

-- The 65th opener is refused,
too_deep : RefusedAt (codes "{:error " ++ replicate 64 91) TooDeep 71
unfolding cutting_texts
too_deep = refused 100 _ TooDeep 71 refl

-- and the 64th is not.
not_too_deep : (nesting_refusal Opener (codes "[") (replicate 64 93) ≡ Some TooDeep) × (nesting_refusal Opener (codes "[") (replicate 63 93) ≡ None)
not_too_deep = (refl, refl)
