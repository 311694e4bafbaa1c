-- Whole operations: their texts are chunks, and the forms that these make are read as the same operations.
use Rattle.std.proofs.Common.{◌≡◌, ℕ, ◌<◌, ◌^◌, List, [], ◌∷◌, ◌++◌, refl, sym, ◌∙◌, ap, arith}
use Rattle.std.specs.Prelude.{codes, decimal}
use Rattle.std.specs.List.{join_by, All}
use Rattle.std.proofs.lemmas.List.{append_assoc}
use Rattle.std.proofs.lemmas.Str.{IsUtf8-from_ascii}
use Rattle.std.proofs.lemmas.Fmt.{IsAscii-decimal}
use Rattle.hist_types.specs.Operations.{Mop, Operation}
use Rattle.hist_types.specs.declared.types.OpKind.{OpKind}
use Rattle.hist_types.specs.declared.types.OpKind.TheVariants as kinds
use Rattle.hist_types.specs.Tokens.{Opener, Closer, Keyword, Int, run_len}
use Rattle.hist_types.specs.CanonicalText.{mop_text, kind_text, value_field_text, operation_text}
use Rattle.edn_ops.specs.Canonical.{MopCanBeRead, MopsCanBeRead, OperationCanBeRead}
use Rattle.edn_ops.proofs.ReadsBack.Chunks.{Chunk, gap, token, text_of, TokenFits, WellCut, ascii_utf8}
use Rattle.edn_ops.proofs.ReadsBack.Runs.{run_fits, decimal_is, decimal_fits}
use Rattle.edn_ops.proofs.ReadsBack.Mops.{mops_chunks, mops_written, mops_cut}

-- ---- chunks

-- the field that an invoke and an ok have more
abbrev pub value_chunks : OpKind → List Mop → List Chunk → List Chunk
value_chunks kinds.Invoke mops more = gap 44 ∷ gap 32 ∷ token Keyword (codes ":value") ∷ gap 32 ∷ token Opener (91 ∷ []) ∷ mops_chunks mops (token Closer (93 ∷ []) ∷ more)
value_chunks kinds.Ok mops more = gap 44 ∷ gap 32 ∷ token Keyword (codes ":value") ∷ gap 32 ∷ token Opener (91 ∷ []) ∷ mops_chunks mops (token Closer (93 ∷ []) ∷ more)
value_chunks kinds.Fail mops more = more
value_chunks kinds.Info mops more = more

-- the chunks of an operation's text
abbrev pub operation_chunks : Operation → List Chunk → List Chunk
operation_chunks o more =
    token Opener (123 ∷ []) ∷ token Keyword (codes ":type") ∷ gap 32 ∷ token Keyword (kind_text o.kind)
    ∷ gap 44 ∷ gap 32 ∷ token Keyword (codes ":process") ∷ gap 32 ∷ token Int (decimal o.process)
    ∷ value_chunks o.kind o.mops (token Closer (125 ∷ []) ∷ more)

-- the field has its text
value_written : (kind : OpKind) (mops : List Mop) (more : List Chunk) → text_of (value_chunks kind mops more) ≡ value_field_text kind mops ++ text_of more
value_written kinds.Invoke mops more = ap (λ (t : List ℕ). codes ", :value [" ++ t) (mops_written mops (token Closer (93 ∷ []) ∷ more) ∙ sym (append_assoc (join_by mop_text (codes " ") mops) (93 ∷ []) (text_of more)))
value_written kinds.Ok mops more = ap (λ (t : List ℕ). codes ", :value [" ++ t) (mops_written mops (token Closer (93 ∷ []) ∷ more) ∙ sym (append_assoc (join_by mop_text (codes " ") mops) (93 ∷ []) (text_of more)))
value_written kind mops more = grind arith

-- parts in a row
in_a_row : (a b c d t : List ℕ) → a ++ (b ++ (c ++ (d ++ t))) ≡ (((a ++ b) ++ c) ++ d) ++ t
in_a_row a b c d t = simp append_assoc

-- the chunks have the operation's text
with_head : (head : List ℕ) (kind : OpKind) (process : ℕ) (mops : List Mop) (more : List Chunk) → head ++ (decimal process ++ text_of (value_chunks kind mops (token Closer (125 ∷ []) ∷ more))) ≡ (((head ++ decimal process) ++ value_field_text kind mops) ++ 125 ∷ []) ++ text_of more
with_head head kind process mops more =
    ap (λ (t : List ℕ). head ++ (decimal process ++ t)) (value_written kind mops (token Closer (125 ∷ []) ∷ more))
    ∙ in_a_row head (decimal process) (value_field_text kind mops) (125 ∷ []) (text_of more)

-- for each kind
written : (kind : OpKind) (process : ℕ) (mops : List Mop) (more : List Chunk) → text_of (operation_chunks (record { kind = kind; process = process; mops = mops }) more) ≡ operation_text (record { kind = kind; process = process; mops = mops }) ++ text_of more
written kinds.Invoke process mops more = with_head (codes "{:type :invoke, :process ") kinds.Invoke process mops more
written kinds.Ok process mops more = with_head (codes "{:type :ok, :process ") kinds.Ok process mops more
written kinds.Fail process mops more = with_head (codes "{:type :fail, :process ") kinds.Fail process mops more
written kinds.Info process mops more = with_head (codes "{:type :info, :process ") kinds.Info process mops more

-- the chunks have the operation's text
pub operation_written : (o : Operation) (more : List Chunk) → text_of (operation_chunks o more) ≡ operation_text o ++ text_of more
operation_written o more = written o.kind o.process o.mops more

-- a kind is one token
kind_fits : (kind : OpKind) (rest closers : List ℕ) → run_len rest ≡ 0 → TokenFits Keyword (kind_text kind) rest closers
kind_fits kinds.Invoke rest closers e = record { fits = run_fits 58 (105 ∷ 110 ∷ 118 ∷ 111 ∷ 107 ∷ 101 ∷ []) rest refl refl refl e; utf8 = ascii_utf8 (codes ":invoke") refl; nests = refl; counts = refl }
kind_fits kinds.Ok rest closers e = record { fits = run_fits 58 (111 ∷ 107 ∷ []) rest refl refl refl e; utf8 = ascii_utf8 (codes ":ok") refl; nests = refl; counts = refl }
kind_fits kinds.Fail rest closers e = record { fits = run_fits 58 (102 ∷ 97 ∷ 105 ∷ 108 ∷ []) rest refl refl refl e; utf8 = ascii_utf8 (codes ":fail") refl; nests = refl; counts = refl }
kind_fits kinds.Info rest closers e = record { fits = run_fits 58 (105 ∷ 110 ∷ 102 ∷ 111 ∷ []) rest refl refl refl e; utf8 = ascii_utf8 (codes ":info") refl; nests = refl; counts = refl }

-- a vector with the micro-operations behind its name
vector_cut : (mops : List Mop) (more : List Chunk) → All MopCanBeRead mops → WellCut more (125 ∷ []) → WellCut (gap 44 ∷ gap 32 ∷ token Keyword (codes ":value") ∷ gap 32 ∷ token Opener (91 ∷ []) ∷ mops_chunks mops (token Closer (93 ∷ []) ∷ more)) (125 ∷ [])
vector_cut mops more h w = (
  refl,
  omega arith,
  (
    refl,
    omega arith,
    (
      record { fits = run_fits 58 (118 ∷ 97 ∷ 108 ∷ 117 ∷ 101 ∷ []) (32 ∷ 91 ∷ text_of (mops_chunks mops (token Closer (93 ∷ []) ∷ more))) refl refl refl refl; utf8 = ascii_utf8 (codes ":value") refl; nests = refl; counts = refl },
      (
        refl,
        omega arith,
        (
          record { fits = refl; utf8 = ascii_utf8 (91 ∷ []) refl; nests = refl; counts = refl },
          mops_cut mops (token Closer (93 ∷ []) ∷ more) h
              (record { fits = refl; utf8 = ascii_utf8 (93 ∷ []) refl; nests = refl; counts = refl }, w),
        ),
      ),
    ),
  ),
)

-- the field may stand in a map
value_cut : (kind : OpKind) (mops : List Mop) (more : List Chunk) → MopsCanBeRead kind mops → WellCut more (125 ∷ []) → WellCut (value_chunks kind mops more) (125 ∷ [])
value_cut kinds.Invoke mops more h w = vector_cut mops more h.1 w
value_cut kinds.Ok mops more h w = vector_cut mops more h.1 w
value_cut kinds.Fail mops more h w = w
value_cut kinds.Info mops more h w = w

-- behind the process comes no byte of a run
process_stops : (kind : OpKind) (mops : List Mop) (more : List Chunk) → run_len (text_of (value_chunks kind mops (token Closer (125 ∷ []) ∷ more))) ≡ 0
process_stops kind mops more = grind arith

-- the chunks of an operation may stand at the top
pub operation_cut : (o : Operation) (more : List Chunk) → OperationCanBeRead o → WellCut more [] → WellCut (operation_chunks o more) []
operation_cut o more h w =
    let tail = value_chunks o.kind o.mops (token Closer (125 ∷ []) ∷ more) in
    let small : o.process < 2 ^ 64 = omega (arith, h.process) in
    let closes : WellCut tail (125 ∷ []) = value_cut o.kind o.mops (token Closer (125 ∷ []) ∷ more) h.mops
    (record { fits = refl; utf8 = ascii_utf8 (125 ∷ []) refl; nests = refl; counts = refl }, w) in
    let process : WellCut (token Int (decimal o.process) ∷ tail) (125 ∷ []) = (
      record { fits = decimal_fits (decimal o.process) (text_of tail) (decimal_is o.process small) (process_stops o.kind o.mops more); utf8 = IsUtf8-from_ascii (decimal o.process) (IsAscii-decimal o.process small); nests = refl; counts = refl },
      closes,
    ) in
    let processes = gap 44 ∷ gap 32 ∷ token Keyword (codes ":process") ∷ gap 32 ∷ token Int (decimal o.process) ∷ tail in
    let named : WellCut processes (125 ∷ []) = (
      refl,
      omega arith,
      (
        refl,
        omega arith,
        (
          record { fits = run_fits 58 (112 ∷ 114 ∷ 111 ∷ 99 ∷ 101 ∷ 115 ∷ 115 ∷ []) (text_of (gap 32 ∷ token Int (decimal o.process) ∷ tail)) refl refl refl refl; utf8 = ascii_utf8 (codes ":process") refl; nests = refl; counts = refl },
          (refl, omega arith, process),
        ),
      ),
    ) in (
      record { fits = refl; utf8 = ascii_utf8 (123 ∷ []) refl; nests = refl; counts = refl },
      (
        record { fits = run_fits 58 (116 ∷ 121 ∷ 112 ∷ 101 ∷ []) (text_of (gap 32 ∷ token Keyword (kind_text o.kind) ∷ processes)) refl refl refl refl; utf8 = ascii_utf8 (codes ":type") refl; nests = refl; counts = refl },
        (refl, omega arith, (kind_fits o.kind (text_of processes) (125 ∷ []) refl, named)),
      ),
    )
