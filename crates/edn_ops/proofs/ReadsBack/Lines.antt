-- Lines of operations are read as these operations and as nothing else.
use Rattle.std.proofs.Common.{◌≡◌, inl, inr, ℕ, ◌+◌, List, [], ◌∷◌, ◌++◌, length, None, refl, sym, ◌∙◌, ap, subst, arith}
use Rattle.std.specs.Prelude.{map}
use Rattle.std.specs.List.{All}
use Rattle.std.proofs.lemmas.List.{append_assoc, append-nil, append_cancel_right, length-append}
use Rattle.std.proofs.lemmas.List.Elements.{All-head, All-tail}
use Rattle.hist_types.specs.Atoms.{Atom}
use Rattle.hist_types.specs.Entries.{Entry, operation, PlacedOperation, operation_of}
use Rattle.hist_types.specs.Operations.{Operation}
use Rattle.hist_types.specs.Reading.{reading_from, nothing_open, after_entries}
use Rattle.hist_types.specs.CanonicalText.{atom_text, operation_text}
use Rattle.hist_types.specs.Tokens.{HasTokens}
use Rattle.edn_ops.specs.Canonical.{CanBeRead, OperationCanBeRead, AreOperations, IsMapOf, ReadsAsOperations, ReadsOnlyAs, operation_lines, AreLines}
use Rattle.edn_ops.specs.SourceTexts.{IsAtomText}
use Rattle.reading_laws.proofs.OneReading.{same_reading}
use Rattle.edn_ops.proofs.ReadsBack.Atoms.{token_kind, atom_cut, atom_back}
use Rattle.edn_ops.proofs.ReadsBack.Chunks.{Chunk, gap, token, text_of, WellCut, item_at, tokens_at, has_tokens}
use Rattle.edn_ops.proofs.ReadsBack.Whole.{operation_chunks, operation_written, operation_cut}
use Rattle.edn_ops.proofs.ReadsBack.Read.{placed_at, placed_back, after_operation, operation_read, operation_length}

-- the text of an atom is one token, which spells it
pub atom_reads : (a : Atom) → CanBeRead a → IsAtomText (atom_text a) a
atom_reads a h =
    let alone = has_tokens (token (token_kind a) (atom_text a) ∷ []) (atom_cut a [] [] h refl tt) in
    (token_kind a, subst (λ (bs : List ℕ). HasTokens bs (item_at 0 (token_kind a) (atom_text a) ∷ []) None) (append-nil (atom_text a)) alone, atom_back a h)

-- operations, each followed by a byte 10
abbrev ended_chunks : List Operation → List Chunk
ended_chunks [] = []
ended_chunks (o ∷ os) = operation_chunks o (gap 10 ∷ ended_chunks os)

-- operations with a byte 10 between each two
abbrev joined_chunks : Operation → List Operation → List Chunk
joined_chunks o [] = operation_chunks o []
joined_chunks o (p ∷ os) = operation_chunks o (gap 10 ∷ joined_chunks p os)

-- chunks that are read as these operations
record Make (os : List Operation) (chunks : List Chunk) : Type 0 where
  cut : WellCut chunks []
  placed : ℕ → List PlacedOperation
  read : (at : ℕ) → reading_from nothing_open (tokens_at at chunks) None ≡ record { entries = map operation (placed at); fault = None }
  back : (at : ℕ) → map operation_of (placed at) ≡ os

-- no chunks are read as no operations
none_made : Make [] []
none_made = record { cut = tt; placed = (λ at. []); read = (λ at. refl); back = (λ at. refl) }

-- one operation, with nothing behind it
last_made : (o : Operation) → OperationCanBeRead o → Make (o ∷ []) (operation_chunks o [])
last_made o h = record {
  cut = operation_cut o [] h tt;
  placed = (λ at. placed_at at o ∷ []);
  read = (λ at. operation_read at o [] None h);
  back = (λ at. ap (λ (p : Operation). p ∷ []) (placed_back at o h));
}

-- one operation before others, with a byte 10 between
next_made : (o : Operation) (os : List Operation) (chunks : List Chunk) → OperationCanBeRead o → Make os chunks → Make (o ∷ os) (operation_chunks o (gap 10 ∷ chunks))
next_made o os chunks h m = record {
  cut = operation_cut o (gap 10 ∷ chunks) h (refl, omega arith, m.cut);
  placed = (λ at. placed_at at o ∷ m.placed (after_operation at o + 1));
  read = (λ at. operation_read at o (gap 10 ∷ chunks) None h ∙ ap (after_entries (operation (placed_at at o) ∷ [])) (m.read (after_operation at o + 1)));
  back = (λ at. ap (λ (p : Operation). p ∷ map operation_of (m.placed (after_operation at o + 1))) (placed_back at o h) ∙ ap (λ (ps : List Operation). o ∷ ps) (m.back (after_operation at o + 1)));
}

-- operations, each followed by a byte 10, are read as these
ended_made : (os : List Operation) → All OperationCanBeRead os → Make os (ended_chunks os)
ended_made [] h = none_made
ended_made (o ∷ os) h = next_made o os (ended_chunks os) (All-head OperationCanBeRead o os h) (ended_made os (All-tail OperationCanBeRead o os h))

-- and so are they with none behind the last
joined_made : (o : Operation) (os : List Operation) → All OperationCanBeRead (o ∷ os) → Make (o ∷ os) (joined_chunks o os)
joined_made o [] h = last_made o (All-head OperationCanBeRead o [] h)
joined_made o (p ∷ os) h = next_made o (p ∷ os) (joined_chunks p os) (All-head OperationCanBeRead o (p ∷ os) h) (joined_made p os (All-tail OperationCanBeRead o (p ∷ os) h))

-- the chunks have the lines' text
ended_written : (os : List Operation) → text_of (ended_chunks os) ≡ operation_lines os
ended_written [] = refl
ended_written (o ∷ os) =
    operation_written o (gap 10 ∷ ended_chunks os)
    ∙ ap (λ (t : List ℕ). operation_text o ++ 10 ∷ t) (ended_written os)
    ∙ sym (append_assoc (operation_text o) (10 ∷ []) (operation_lines os))

-- and so have they with none behind the last
joined_written : (o : Operation) (os : List Operation) → text_of (joined_chunks o os) ++ 10 ∷ [] ≡ operation_lines (o ∷ os)
joined_written o [] = ap (λ (t : List ℕ). t ++ 10 ∷ []) (operation_written o [] ∙ append-nil (operation_text o)) ∙ sym (append-nil (operation_text o ++ 10 ∷ []))
joined_written o (p ∷ os) =
    ap (λ (t : List ℕ). t ++ 10 ∷ []) (operation_written o (gap 10 ∷ joined_chunks p os))
    ∙ append_assoc (operation_text o) (10 ∷ text_of (joined_chunks p os)) (10 ∷ [])
    ∙ ap (λ (t : List ℕ). operation_text o ++ 10 ∷ t) (joined_written p os)
    ∙ sym (append_assoc (operation_text o) (10 ∷ []) (operation_lines (p ∷ os)))

-- lines are chunks
abbrev IsMade : List ℕ → List Operation → Type 0
IsMade text os = (chunks : List Chunk) × (text ≡ text_of chunks) × Make os chunks

-- each text of lines is made so
lines_made : (text : List ℕ) (os : List Operation) → All OperationCanBeRead os → AreLines text os → IsMade text os
lines_made text [] h lines = elim lines [
  | inl e ↦ ([], e, none_made)
  | inr e ↦ absurd (omega (arith, length-append text (10 ∷ []), ap length e))
]
lines_made text (o ∷ os) h lines = elim lines [
  | inl e ↦ (ended_chunks (o ∷ os), e ∙ sym (ended_written (o ∷ os)), ended_made (o ∷ os) h)
  | inr e ↦ (joined_chunks o os, append_cancel_right text (text_of (joined_chunks o os)) (10 ∷ []) (e ∙ sym (joined_written o os)), joined_made o os h)
]

-- what is made of chunks is read back
made_reads : (text : List ℕ) (os : List Operation) → IsMade text os → ReadsAsOperations text os
made_reads text os m =
    let chunks = m.0 in
    let made = m.2 in (
      map operation (made.placed 0),
      (
        tokens_at 0 chunks,
        None,
        subst (λ (t : List ℕ). HasTokens t (tokens_at 0 chunks) None) (sym m.1) (has_tokens chunks made.cut),
        made.read 0,
      ),
      (made.placed 0, refl, made.back 0),
    )

-- what reads as operations reads as nothing else
only : (text : List ℕ) (os : List Operation) → ReadsAsOperations text os → ReadsOnlyAs text os
only text os r entries fault other =
    let same = same_reading text entries r.0 fault None other r.1 in
    (subst (λ (es : List Entry). AreOperations es os) (sym same.0) r.2, same.1)

-- lines are read as their operations
pub lines_read : (text : List ℕ) (os : List Operation) → All OperationCanBeRead os → AreLines text os → ReadsAsOperations text os
lines_read text os h lines = made_reads text os (lines_made text os h lines)

-- and as nothing else
pub lines_only : (text : List ℕ) (os : List Operation) → All OperationCanBeRead os → AreLines text os → ReadsOnlyAs text os
lines_only text os h lines = only text os (lines_read text os h lines)

-- an operation's text is the operation's map
pub operation_reads : (o : Operation) → OperationCanBeRead o → IsMapOf (operation_text o) o
operation_reads o h =
    let tokens = tokens_at 0 (operation_chunks o []) in
    let written : operation_text o ≡ text_of (operation_chunks o []) = sym (operation_written o [] ∙ append-nil (operation_text o)) in
    let row = subst (λ (t : List ℕ). HasTokens t tokens None) (sym written) (has_tokens (operation_chunks o []) (operation_cut o [] h tt)) in
    (placed_at 0 o, (refl, operation_length 0 o ∙ omega arith, (tokens, None, row, operation_read 0 o [] None h)), placed_back 0 o h)

-- and is read as nothing else
pub operation_only : (o : Operation) → OperationCanBeRead o → ReadsOnlyAs (operation_text o) (o ∷ [])
operation_only o h =
    let found = operation_reads o h in
    only (operation_text o) (o ∷ [])
    (operation found.0 ∷ [], found.1.2, (found.0 ∷ [], refl, ap (λ (p : Operation). p ∷ []) found.2))
