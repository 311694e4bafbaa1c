-- What is printed: atoms, operations, edges in their order, and the lines of refusals.
use Rattle.std.proofs.Common.{◌≡◌, List, [], ◌∷◌, Some, None, codes, negsuc, refl}
use Rattle.std.specs.Fmt.{digits}
use Rattle.hist_types.specs.Atoms.{Atom, integer, keyword, string, symbol}
use Rattle.hist_types.specs.Edges.{dependency_edges}
use Rattle.hist_types.specs.Operations.{read, write, Operation}
use Rattle.hist_types.specs.CanonicalText.{atom_text, operation_text}
use Rattle.hist_types.specs.Reports.{edges_report}
use Rattle.hist_types.specs.Texts.{edges_text, refusal_line}
use Rattle.hist_types.specs.Transactions.{transactions_of}
use Rattle.hist_types.specs.declared.types.At.TheVariants.{Byte, Event, Nowhere}
use Rattle.hist_types.specs.declared.types.Refusal.TheVariants.{Busy, Full, TooManyEvents, Unclosed}
use Rattle.hist_types.specs.declared.types.KeyOrder.TheVariants.{Basic}
use Rattle.hist_types.proofs.Rows.History.{x, number, sets, gets, finds_nil, invoke, ok, fail, info, wr_edge, rw_nil_edge, rw_edge}

-- ---- atoms

-- Integers are printed in decimal, with a minus where they are below 0.
integers :
    (atom_text (integer (negsuc 6)) ≡ codes "-7")
    × (atom_text (number 0) ≡ codes "0")
    × (atom_text (number 9223372036854775807) ≡ codes "9223372036854775807")
    × (atom_text (integer (negsuc 9223372036854775807)) ≡ codes "-9223372036854775808")
unfolding digits
integers = (refl, refl, refl, refl)

-- Keywords and symbols are printed as they are.
spellings :
    (atom_text (keyword (codes ":a/b#")) ≡ codes ":a/b#")
    × (atom_text (symbol (codes "a.b")) ≡ codes "a.b")
    × (atom_text (symbol (195 ∷ 169 ∷ [])) ≡ 195 ∷ 169 ∷ [])
spellings = (refl, refl, refl)

-- Seven bytes are escaped in a string.
escapes : atom_text (string (8 ∷ 9 ∷ 10 ∷ 12 ∷ 13 ∷ 34 ∷ 92 ∷ [])) ≡ codes "\"\\b\\t\\n\\f\\r\\\"\\\\\""
escapes = refl

-- Every other byte stands as it is, be it below a blank or one of several that make a character.
unescaped :
    (atom_text (string (7 ∷ 11 ∷ 47 ∷ 195 ∷ 169 ∷ [])) ≡ 34 ∷ 7 ∷ 11 ∷ 47 ∷ 195 ∷ 169 ∷ 34 ∷ [])
    × (atom_text (string []) ≡ codes "\"\"")
unescaped = (refl, refl)

-- ---- operations

-- An invoke and an ok have their micro-operations.
operations :
    (operation_text (invoke 3 (write (symbol (codes "a")) (string (codes "q\"\\")) ∷ read (integer (negsuc 6)) None ∷ []))
    ≡ codes "{:type :invoke, :process 3, :value [[:w a \"q\\\"\\\\\"] [:r -7 nil]]}")
    × (operation_text (ok 2147483647 (read (string (codes "k")) (Some (symbol (codes "b"))) ∷ write x (integer (negsuc 11)) ∷ []))
    ≡ codes "{:type :ok, :process 2147483647, :value [[:r \"k\" b] [:w :x -12]]}")
    × (operation_text (ok 0 []) ≡ codes "{:type :ok, :process 0, :value []}")
unfolding digits
operations = (refl, refl, refl)

-- A fail and an info have none.
without_value :
    (operation_text (fail 7) ≡ codes "{:type :fail, :process 7}")
    × (operation_text (info 12) ≡ codes "{:type :info, :process 12}")
unfolding digits
without_value = (refl, refl)

-- ---- edges in order

abbrev text_key : Atom
text_key = string (codes "s")

-- keys of three kinds, which the later transaction reads as the first one wrote them, and two keys whose nil it writes over
abbrev mixed_keys : List Operation
mixed_keys =
    invoke 0 (finds_nil (number 10) ∷ finds_nil (number 9) ∷ finds_nil (number 9) ∷ sets text_key 1 ∷ sets x 1 ∷ sets (integer (negsuc 0)) 1 ∷ [])
    ∷ ok 0 (finds_nil (number 10) ∷ gets (number 9) 5 ∷ finds_nil (number 9) ∷ sets text_key 1 ∷ sets x 1 ∷ sets (integer (negsuc 0)) 1 ∷ [])
    ∷ invoke 1 (finds_nil (number 9) ∷ finds_nil x ∷ finds_nil text_key ∷ finds_nil (integer (negsuc 0)) ∷ sets (number 10) 7 ∷ sets (number 9) 6 ∷ [])
    ∷ ok 1 (gets (number 9) 5 ∷ gets x 1 ∷ gets text_key 1 ∷ gets (integer (negsuc 0)) 1 ∷ sets (number 10) 7 ∷ sets (number 9) 6 ∷ [])
    ∷ []

-- All its edges lead from the first one to the later one. They are found as the writes stand, and by nil before 5.
mixed_keys-edges :
    dependency_edges Basic (transactions_of mixed_keys)
    ≡ wr_edge 0 2 text_key 1
    ∷ wr_edge 0 2 x 1
    ∷ wr_edge 0 2 (integer (negsuc 0)) 1
    ∷ rw_nil_edge 0 2 (number 10) 7
    ∷ rw_nil_edge 0 2 (number 9) 6
    ∷ rw_edge 0 2 (number 9) 5 6
    ∷ []
mixed_keys-edges = refl

-- They are printed in order: wr before rw, then integers by number before keywords before strings, and nil before 5.
mixed_keys-text : edges_text (edges_report Basic mixed_keys) ≡ codes "prefix 4\ntxns 2\nT0 -wr -1 1-> T2\nT0 -wr :x 1-> T2\nT0 -wr \"s\" 1-> T2\nT0 -rw 9 nil 6-> T2\nT0 -rw 9 5 6-> T2\nT0 -rw 10 nil 7-> T2\nedges 6\n"
unfolding digits
mixed_keys-text = refl

-- ---- refusals

-- A line has the number and the name, and the place, if there is one.
refusals :
    (refusal_line (record { refusal = Busy; at = Event 1 }) ≡ codes "refused 1 Busy event 1\n")
    × (refusal_line (record { refusal = TooManyEvents; at = Event 1048576 }) ≡ codes "refused 8 TooManyEvents event 1048576\n")
    × (refusal_line (record { refusal = Unclosed; at = Byte 35 }) ≡ codes "refused 24 Unclosed byte 35\n")
    × (refusal_line (record { refusal = Full; at = Nowhere }) ≡ codes "refused 7 Full\n")
unfolding digits
refusals = (refl, refl, refl, refl)
