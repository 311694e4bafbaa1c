-- Texts that are printed (this project's own).
--
-- Each line ends with a byte 10. Numbers are decimal, atoms are written canonically. Transactions are
-- written `T` and their index.
use Rattle.std.specs.Prelude.{◌≡◌, ℕ, List, [], ◌∷◌, ◌++◌, length, codes, decimal, Option, Some, None, flat_map}
use Rattle.hist_types.specs.Bytes.{line_feed}
use Rattle.hist_types.specs.Operations.{Operation}
use Rattle.hist_types.specs.Transactions.{Version}
use Rattle.hist_types.specs.Edges.{Label, ww, wr, rw, process, realtime, Edge}
use Rattle.hist_types.specs.Phenomena.{BadRead}
use Rattle.hist_types.specs.Witness.{Finding}
use Rattle.hist_types.specs.Reports.{Report, IsVerdictOf, strict_of, ReadsReport, EdgesReport}
use Rattle.hist_types.specs.declared.types.At.{At}
use Rattle.hist_types.specs.declared.types.At.TheVariants.{Byte, Event, Nowhere}
use Rattle.hist_types.specs.declared.types.Fault.{Fault}
use Rattle.hist_types.specs.declared.types.Level.{Level}
use Rattle.hist_types.specs.declared.types.Level.TheVariants.{Plain, Process, Realtime}
use Rattle.hist_types.specs.declared.types.Strict.{Strict}
use Rattle.hist_types.specs.declared.types.Strict.TheVariants.{Refuted, Open}
use Rattle.hist_types.specs.Refusals.{number_of, name_of}
use Rattle.hist_types.specs.CanonicalText.{atom_text, value_text}
use Rattle.hist_types.specs.declared.types.KeyOrder.{KeyOrder}

-- ---- lines

abbrev pub line : List ℕ → List ℕ
line text = text ++ line_feed ∷ []

-- a word and a number
abbrev pub number_line : List ℕ → ℕ → List ℕ
number_line word n = line (word ++ codes " " ++ decimal n)

abbrev pub transaction_name : ℕ → List ℕ
transaction_name index = codes "T" ++ decimal index

-- a key and its value
abbrev pub version_text : Version → List ℕ
version_text v = atom_text v.key ++ codes " " ++ value_text v.value

-- of two versions the key is written once
abbrev pub label_text : Label → List ℕ
label_text (ww earlier later) =
    codes "ww " ++ version_text earlier ++ codes " " ++ value_text later.value
label_text (wr version) = codes "wr " ++ version_text version
label_text (rw earlier later) =
    codes "rw " ++ version_text earlier ++ codes " " ++ value_text later.value
label_text (process p) = codes "process " ++ decimal p
label_text (realtime completion invocation) =
    codes "realtime " ++ decimal completion ++ codes " " ++ decimal invocation

abbrev pub edge_text : Edge → List ℕ
edge_text e =
    transaction_name e.from
    ++ codes " -" ++ label_text e.label ++ codes "-> "
    ++ transaction_name e.to

-- witness lines are indented
abbrev pub indented : List ℕ → List ℕ
indented text = line (codes "  " ++ text)

abbrev pub bad_read_text : BadRead → List ℕ
bad_read_text r =
    transaction_name r.reader
    ++ codes " read " ++ version_text r.version
    ++ codes " of " ++ transaction_name r.writer

-- ---- the text of `reads`

abbrev pub bad_read_lines : List ℕ → Option BadRead → List ℕ
bad_read_lines name None = line (name ++ codes " none")
bad_read_lines name (Some r) = line (name ++ codes " yes") ++ indented (bad_read_text r)

-- how many events there are, and how many transactions
abbrev pub head_lines : (events txns : ℕ) → List ℕ
head_lines events txns = number_line (codes "prefix") events ++ number_line (codes "txns") txns

abbrev pub reads_text : ReadsReport → List ℕ
reads_text r =
    head_lines r.prefix r.txns
    ++ bad_read_lines (codes "G1a") r.g1a
    ++ bad_read_lines (codes "G1b") r.g1b
    ++ number_line (codes "stray") r.stray

-- ---- the text of `edges`

abbrev pub edge_lines : List Edge → List ℕ
edge_lines es = flat_map (λ (e : Edge). line (edge_text e)) es

abbrev pub edges_text : EdgesReport → List ℕ
edges_text r =
    head_lines r.prefix r.txns
    ++ edge_lines r.edges
    ++ number_line (codes "edges") (length r.edges)

-- ---- the text of a verdict

abbrev pub level_text : Level → List ℕ
level_text Plain = codes "plain"
level_text Process = codes "process"
level_text Realtime = codes "realtime"

abbrev pub witness_lines : List Edge → List ℕ
witness_lines es = flat_map (λ (e : Edge). indented (edge_text e)) es

abbrev pub finding_lines : List ℕ → Option Finding → List ℕ
finding_lines name None = line (name ++ codes " none")
finding_lines name (Some found) =
    line (name ++ codes " " ++ level_text found.level) ++ witness_lines found.walk

abbrev pub strict_text : Strict → List ℕ
strict_text Refuted = codes "strict refuted"
strict_text Open = codes "strict open"

abbrev pub verdict_text : Report → List ℕ
verdict_text r =
    head_lines r.prefix r.txns
    ++ finding_lines (codes "G0") r.findings.g0
    ++ bad_read_lines (codes "G1a") r.g1a
    ++ bad_read_lines (codes "G1b") r.g1b
    ++ finding_lines (codes "G1c") r.findings.g1c
    ++ finding_lines (codes "G-single") r.findings.single
    ++ finding_lines (codes "G2-item") r.findings.item
    ++ number_line (codes "stray") r.stray
    ++ line (strict_text (strict_of r))

-- the text of a verdict of the events; any witness of the right form fits
abbrev pub IsVerdictText : KeyOrder → List Operation → List ℕ → Type 0
IsVerdictText keys events text =
    (r : Report) × IsVerdictOf keys events r × (text ≡ verdict_text r)

-- ---- the line of a refusal

-- where the cause is, after a blank
abbrev pub place_text : At → List ℕ
place_text (Byte offset) = codes " byte " ++ decimal offset
place_text (Event index) = codes " event " ++ decimal index
place_text Nowhere = []

abbrev pub fault_text : Fault → List ℕ
fault_text fault =
    codes "refused " ++ decimal (number_of fault.refusal)
    ++ codes " " ++ name_of fault.refusal
    ++ place_text fault.at

abbrev pub refusal_line : Fault → List ℕ
refusal_line fault = line (fault_text fault)
