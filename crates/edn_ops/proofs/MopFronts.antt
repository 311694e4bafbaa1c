-- How printed micro-operations begin.
use Rattle.std.proofs.Common.{◌≡◌, ℕ, ◌+◌, List, Bool, true, false, codes, Option, Some, None, take, drop, get_or, refl, sym, ◌∙◌, ap, arith, lit≤, lit<}
use Rattle.std.specs.Prelude.{IfSome}
use Rattle.hist_types.specs.Bytes.{open_square}
use Rattle.hist_types.specs.Entries.{is_write_of}
use Rattle.hist_types.specs.Forms.{plain}
use Rattle.hist_types.specs.Tokens.{Keyword}
use Rattle.edn_lex.specs.Ahead.{IsGap, IsLoneAt}
use Rattle.edn_lex.specs.Kinds.{item_of}
use Rattle.edn_lex.specs.declared.types.Token.{Token}
use Rattle.edn_lex.specs.declared.types.TokenKind.TheVariants as kinds
use Rattle.edn_lex.proofs.Phrases.{Has, byte_in, word_in, word_bytes_in}
use Rattle.edn_ops.specs.declared.types.Span.{Span}
use Rattle.edn_ops.specs.Flat.{front_bytes, GivesMop, shape_of}

-- the name of a micro-operation that begins here
abbrev pub name_at : ℕ → Token
name_at start = record { kind = kinds.Keyword; start = start + 1; end = start + 1 + 2 }

-- an opener, a name and a space
pub record IsMopFront (text : List ℕ) (start : ℕ) (is_write : Bool) : Type 0 where
  pub opens : get_or text start 0 ≡ open_square
  pub lone : IsLoneAt text (start + 1) (name_at start)
  pub named : is_write_of (plain (item_of text (name_at start))) ≡ Some is_write
  pub space : get_or text (start + 3) 0 ≡ 32

pub mop_front_read : (text : List ℕ) (start : ℕ) (is_write : Bool) → take 4 (drop start text) ≡ front_bytes is_write → IsMopFront text start is_write
mop_front_read text start true h =
    let front = codes "[:w " in
    let has : Has text start front = sym h in
    let first : start ≡ start + 0 = omega arith in
    record {
      opens = ap (λ (n : ℕ). get_or text n 0) first ∙ byte_in text start front 0 has (lit< tt);
      lone = word_in text start front 1 (codes ":w") Keyword 32 (name_at start) has (lit< tt) refl refl refl (refl, refl, refl, refl, refl, refl) (refl, refl, refl);
      named = ap (λ (bs : List ℕ). is_write_of (plain (record { kind = Keyword; start = start + 1; bytes = bs }))) (word_bytes_in text start front 1 (codes ":w") has (lit≤ tt) refl);
      space = byte_in text start front 3 has (lit< tt);
    }
mop_front_read text start false h =
    let front = codes "[:r " in
    let has : Has text start front = sym h in
    let first : start ≡ start + 0 = omega arith in
    record {
      opens = ap (λ (n : ℕ). get_or text n 0) first ∙ byte_in text start front 0 has (lit< tt);
      lone = word_in text start front 1 (codes ":r") Keyword 32 (name_at start) has (lit< tt) refl refl refl (refl, refl, refl, refl, refl, refl) (refl, refl, refl);
      named = ap (λ (bs : List ℕ). is_write_of (plain (record { kind = Keyword; start = start + 1; bytes = bs }))) (word_bytes_in text start front 1 (codes ":r") has (lit≤ tt) refl);
      space = byte_in text start front 3 has (lit< tt);
    }

-- from each place before it
pub mop_from :
    (text : List ℕ) (start offset : ℕ) (o : Option (Bool × Span × Span × ℕ)) → IsGap text offset start →
    IfSome o (λ m. (from : ℕ) → IsGap text from start → GivesMop text from (shape_of m.0 m.1 m.2) m.3) → IfSome o (λ m. GivesMop text offset (shape_of m.0 m.1 m.2) m.3)
mop_from text start offset None gap h = h
mop_from text start offset (Some m) gap h = h offset gap
