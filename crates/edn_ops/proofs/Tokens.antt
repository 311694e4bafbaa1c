-- What a text that is one token says of its bytes.
use Rattle.std.proofs.Common.{◌≡◌, inl, inr, ℕ, ◌+◌, ◌<◌, ◌≤◌, List, [], ◌∷◌, length, drop, Bool, false, cond, Option, Some, None, option_map, refl, sym, ◌∙◌, ap, subst, arith}
use Rattle.std.specs.Prelude.{◌==◌}
use Rattle.std.proofs.lemmas.Bool.{cases_Bool}
use Rattle.hist_types.specs.declared.types.Fault.{Fault}
use Rattle.hist_types.specs.Bytes.{is_blank, is_opener, is_closer, quote, semicolon, backslash, hash, open_brace, underscore}
use Rattle.hist_types.specs.Tokens.{ItemKind, Str, Item, first_byte, content_len, hash_front, front, BeginsWith, IsCut, is_token, tokens_of}
use Rattle.edn_lex.proofs.Cuts.{BeginsWith-unique}
use Rattle.reading_laws.specs.Placed.{IsTokenAlone}

-- ---- items have bytes

abbrev HasByte : Option ℕ → Type 0
HasByte None = Unit {0}
HasByte (Some n) = 0 < n

either : (t : Bool) (p q : ItemKind × Option ℕ) → HasByte p.1 → HasByte q.1 → HasByte (cond t p q).1
either t p q h g = grind arith

string_bytes : (o : Option ℕ) → HasByte (option_map (λ n. n + 2) o)
string_bytes None = tt
string_bytes (Some n) = omega arith

hash_bytes : (rest : List ℕ) → HasByte (hash_front rest).1
hash_bytes rest =
    either (first_byte rest == open_brace) _ _ (omega arith)
    (either (first_byte rest == underscore) _ _ (omega arith) (either (first_byte rest == hash) _ _ (omega arith) (omega arith)))

front_bytes : (b : ℕ) (rest : List ℕ) → HasByte (front b rest).1
front_bytes b rest =
    either (is_blank b) _ _ (omega arith)
    (either (b == semicolon) _ _ (omega arith)
    (either (b == quote) (Str, option_map (λ n. n + 2) (content_len false rest)) _ (string_bytes (content_len false rest))
    (either (b == backslash) _ _ (omega arith)
    (either (is_opener b) _ _ (omega arith)
    (either (is_closer b) _ _ (omega arith)
    (either (b == hash) (hash_front rest) _ (hash_bytes rest) (omega arith)))))))

item_bytes : (text : List ℕ) (kind : ItemKind) (bytes : List ℕ) → BeginsWith text kind bytes → 0 < length bytes
item_bytes [] kind bytes h = absurd h
item_bytes (b ∷ rest) kind bytes h = subst (λ (p : ItemKind × Option ℕ). HasByte p.1) h.0 (front_bytes b rest)

-- ---- one token

same_first : (t u : Item) (ts us : List Item) → t ∷ ts ≡ u ∷ us → t ≡ u
same_first t u ts us e = cc

no_first : (t : Item) (ts : List Item) → [] ≡ t ∷ ts → ⊥
no_first t ts e = cc

-- no token begins before the place from which a text is cut
token_starts :
    (text : List ℕ) (offset : ℕ) (closers : List ℕ) (items : List Item) (ending : Option Fault) (t : Item)
    → IsCut text offset closers items ending → tokens_of items ≡ t ∷ [] → offset ≤ t.start
token_starts text offset closers [] ending t cut e = absurd (no_first t [] e)
token_starts text offset closers (i ∷ items) ending t cut e = elim (cases_Bool (is_token i.kind)) [
  | inl is ↦ (
      let same : i ≡ t = same_first i t (tokens_of items) [] (rw is at e) in
      let at : t.start ≡ offset = ap (λ (x : Item). x.start) (sym same) ∙ cut.1 in
      omega (arith, at))
  | inr is_not ↦ (
      let later = token_starts (drop (length i.bytes) text) (offset + length i.bytes) _ items ending t cut.3 (rw is_not at e) in
      omega (arith, later))
]

token_item :
    (text : List ℕ) (items : List Item) (ending : Option Fault) (t : Item)
    → IsCut text 0 [] items ending → tokens_of items ≡ t ∷ [] → t.start ≡ 0 → BeginsWith text t.kind t.bytes
token_item text [] ending t cut e at = absurd (no_first t [] e)
token_item text (i ∷ items) ending t cut e at = elim (cases_Bool (is_token i.kind)) [
  | inl is ↦ (
      let same : i ≡ t = same_first i t (tokens_of items) [] (rw is at e) in
      subst (λ (x : Item). BeginsWith text x.kind x.bytes) same cut.0)
  | inr is_not ↦ (
      let some = item_bytes text i.kind i.bytes cut.0 in
      let later = token_starts (drop (length i.bytes) text) (0 + length i.bytes) _ items ending t cut.3 (rw is_not at e) in
      absurd (omega (arith, some, later, at)))
]

pub token_begins : (kind : ItemKind) (text : List ℕ) → IsTokenAlone kind text → BeginsWith text kind text
token_begins kind text h = token_item text h.0 None (record { kind = kind; start = 0; bytes = text }) h.1 (sym h.2) refl

-- a text is one token of one kind
pub one_kind : (text : List ℕ) (kind other : ItemKind) → IsTokenAlone kind text → IsTokenAlone other text → kind ≡ other
one_kind text kind other is is_other = (BeginsWith-unique text kind other text text (token_begins kind text is) (token_begins other text is_other)).0
