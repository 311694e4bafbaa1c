-- Members and collections in no operation's place, as calls read them.
use Rattle.std.proofs.Common.{◌≡◌, ◌≢◌, ℕ, suc, ◌+◌, List, [], ◌∷◌, ◌++◌, length, take, drop, Bool, true, false, cond, ◌==◌, inl, inr, ◌⊎◌, not, Option, Some, None, Result, Ok, Err, refl, sym, ◌∙◌, ap, arith, subst}
use Rattle.std.specs.Prelude.{IsErrAnd, bytes_eq, codes}
use Rattle.hist_types.specs.Bytes.{is_blank, semicolon, quote, backslash, is_opener, is_closer, hash, open_brace, underscore, line_feed}
use Rattle.hist_types.specs.Forms.{Form, plain, collection, forms_of, Open, with_form, with_opener}
use Rattle.hist_types.specs.Reading.{nothing_open}
use Rattle.hist_types.specs.Tokens.{Item, ItemKind, Blank, Comment, Opener, Closer, Str, Char, Drop, Tag, Nil, True, False, Int, Keyword, Symbol, Other, IsCut, BeginsWith, front, hash_front, run_kind, run_of, run_len, is_int, is_keyword, is_symbol, first_byte, character_len, content_len, open_after}
use Rattle.std.specs.List.{prefix_len}
use Rattle.std.specs.Option.{option_map}
use Rattle.std.proofs.lemmas.Bool.{eqb-true, true≢false}
use Rattle.hist_types.specs.declared.types.Fault.{Fault}
use Rattle.edn_lex.specs.declared.types.Token.{Token}
use Rattle.edn_lex.specs.declared.types.TokenKind.{TokenKind}
use Rattle.edn_lex.specs.declared.types.TokenKind.TheVariants as kinds
use Rattle.edn_lex.specs.Kinds.{kind_of, item_of}
use Rattle.edn_lex.specs.State.{State, left, IsCutFrom, RestIf, GivesToken}
use Rattle.edn_lex.proofs.Exists.{Rest-exists}
use Rattle.edn_ops.specs.declared.forms.Member.{Member}
use Rattle.edn_ops.specs.declared.outline.Outline.{Outline}
use Rattle.edn_ops.specs.Leads.{Leads, Stops, inside, first_place, behind, is_plain_kind, is_mark_kind, GivesMember, PassesCollection, SkipsCollection}
use Rattle.edn_ops.specs.Outlines.{IsTokenIn, IsSpelled, IsOutlineIn, tag_at, untagged, outline_by, outline_for, IsPlainOutline, IsCollectionOutline}
use Rattle.edn_ops.specs.declared.outline.Outline.TheVariants as outlines
use Rattle.edn_ops.specs.Collections.{ReadsMember, StopsInside, PassesMember, ReadsCollection, StopsBehind}
use Rattle.edn_ops.proofs.Steps.{Leads-stops}
use Rattle.edn_ops.proofs.Levels.{behind_member, Leads-plain, Leads-opener, Leads-skipped, Leads-member, GivesMember-shorter}

-- ---- integers are spelled as such

-- the fourth of six tests
run_if : (nil yes_word no_word int key name : Bool) → cond nil Nil (cond yes_word True (cond no_word False (cond int Int (cond key Keyword (cond name Symbol Other))))) ≡ Int → int ≡ true
run_if nil yes_word no_word int key name h = grind arith

-- a run that is an integer
int_run : (run : List ℕ) → run_kind run ≡ Int → is_int run ≡ true
int_run run e = run_if (bytes_eq run (codes "nil")) (bytes_eq run (codes "true")) (bytes_eq run (codes "false")) (is_int run) (is_keyword run) (is_symbol run) e

-- which of two choices was taken
which : {A : Type 0} (t : Bool) (x y z : A) → cond t x y ≡ z → ((t ≡ true) × (x ≡ z)) ⊎ ((t ≡ false) × (y ≡ z))
which true x y z e = inl (refl, e)
which false x y z e = inr (refl, e)

-- another kind is no integer
abbrev Found : Type 0
Found = ItemKind × Option ℕ

other_kind : (kind : ItemKind) (o p : Option ℕ) → kind ≢ Int → (let x : Found = (kind, o) in x) ≡ (Int, p) → ⊥
other_kind kind o p differs e = differs (ap (λ (x : Found). x.0) e)

-- an integer at the front is the run there
pub record IsIntRun (b : ℕ) (rest : List ℕ) (n : ℕ) : Type 0 where
  pub int : is_int (b ∷ run_of rest) ≡ true
  pub len : n ≡ suc (run_len rest)

a_run : (b : ℕ) (rest : List ℕ) (n : ℕ) → (let x : Found = (run_kind (b ∷ run_of rest), Some (suc (run_len rest))) in x) ≡ (Int, Some n) → IsIntRun b rest n
a_run b rest n e =
    let kind : run_kind (b ∷ run_of rest) ≡ Int = ap (λ (x : Found). x.0) e in
    let len : Some (suc (run_len rest)) ≡ Some n = ap (λ (x : Found). x.1) e in
    record { int = int_run (b ∷ run_of rest) kind; len = cc }

hash_int : (rest : List ℕ) (n : ℕ) → hash_front rest ≡ (Int, Some n) → IsIntRun hash rest n
hash_int rest n e =
    elim (which (first_byte rest == open_brace) (Opener, Some 2) (cond (first_byte rest == underscore) (Drop, Some 2) (cond (first_byte rest == hash) (run_kind (hash ∷ run_of rest), Some (suc (run_len rest))) (Tag, Some (suc (run_len rest))))) (Int, Some n) e) [
      | inl p ↦ absurd (other_kind Opener (Some 2) (Some n) (λ x. cc) p.1)
      | inr p ↦ elim (which (first_byte rest == underscore) (Drop, Some 2) (cond (first_byte rest == hash) (run_kind (hash ∷ run_of rest), Some (suc (run_len rest))) (Tag, Some (suc (run_len rest)))) (Int, Some n) p.1) [
        | inl q ↦ absurd (other_kind Drop (Some 2) (Some n) (λ x. cc) q.1)
        | inr q ↦ elim (which (first_byte rest == hash) (run_kind (hash ∷ run_of rest), Some (suc (run_len rest))) (Tag, Some (suc (run_len rest))) (Int, Some n) q.1) [
          | inl r ↦ a_run hash rest n r.1
          | inr r ↦ absurd (other_kind Tag (Some (suc (run_len rest))) (Some n) (λ x. cc) r.1)
        ]
      ]
    ]

front_int : (b : ℕ) (rest : List ℕ) (n : ℕ) → front b rest ≡ (Int, Some n) → IsIntRun b rest n
front_int b rest n e =
    let run : Found = (run_kind (b ∷ run_of rest), Some (suc (run_len rest))) in
    let after_closer = cond (b == hash) (hash_front rest) run in
    let after_opener = cond (is_closer b) (Closer, Some 1) after_closer in
    let after_backslash = cond (is_opener b) (Opener, Some 1) after_opener in
    let after_quote = cond (b == backslash) (Char, Some (suc (character_len rest))) after_backslash in
    let after_semicolon = cond (b == quote) (Str, option_map (λ n. n + 2) (content_len false rest)) after_quote in
    let after_blank = cond (b == semicolon) (Comment, Some (suc (prefix_len (λ c. not (c == line_feed)) rest))) after_semicolon in
    elim (which (is_blank b) (Blank, Some 1) after_blank (Int, Some n) e) [
      | inl p ↦ absurd (other_kind Blank (Some 1) (Some n) (λ x. cc) p.1)
      | inr p ↦ elim (which (b == semicolon) (Comment, Some (suc (prefix_len (λ c. not (c == line_feed)) rest))) after_semicolon (Int, Some n) p.1) [
        | inl q ↦ absurd (other_kind Comment (Some (suc (prefix_len (λ c. not (c == line_feed)) rest))) (Some n) (λ x. cc) q.1)
        | inr q ↦ elim (which (b == quote) (Str, option_map (λ n. n + 2) (content_len false rest)) after_quote (Int, Some n) q.1) [
          | inl r ↦ absurd (other_kind Str (option_map (λ n. n + 2) (content_len false rest)) (Some n) (λ x. cc) r.1)
          | inr r ↦ elim (which (b == backslash) (Char, Some (suc (character_len rest))) after_backslash (Int, Some n) r.1) [
            | inl t ↦ absurd (other_kind Char (Some (suc (character_len rest))) (Some n) (λ x. cc) t.1)
            | inr t ↦ elim (which (is_opener b) (Opener, Some 1) after_opener (Int, Some n) t.1) [
              | inl u ↦ absurd (other_kind Opener (Some 1) (Some n) (λ x. cc) u.1)
              | inr u ↦ elim (which (is_closer b) (Closer, Some 1) after_closer (Int, Some n) u.1) [
                | inl v ↦ absurd (other_kind Closer (Some 1) (Some n) (λ x. cc) v.1)
                | inr v ↦ elim (which (b == hash) (hash_front rest) run (Int, Some n) v.1) [
                  | inl w ↦ let same : b ≡ hash = eqb-true b hash w.0 in subst (λ (c : ℕ). IsIntRun c rest n) (sym same) (hash_int rest n w.1)
                  | inr w ↦ a_run b rest n w.1
                ]
              ]
            ]
          ]
        ]
      ]
    ]

begins_int : (text : List ℕ) (bytes : List ℕ) → BeginsWith text Int bytes → is_int bytes ≡ true
begins_int [] bytes h = absurd h
begins_int (b ∷ rest) bytes h =
    let run = front_int b rest (length bytes) h.0 in
    let same : bytes ≡ b ∷ run_of rest = h.1 ∙ ap (λ (n : ℕ). take n (b ∷ rest)) run.len in
    subst (λ (bs : List ℕ). is_int bs ≡ true) (sym same) run.int

begins_spelled : (kind : ItemKind) (text bytes : List ℕ) → BeginsWith text kind bytes → IsSpelled kind bytes
begins_spelled kind text bytes = elim kind as (λ k. BeginsWith text k bytes → IsSpelled k bytes) [
  | Int ↦ λ h. begins_int text bytes h
  | _ ↦ λ h. tt
]

-- an item of a text that was cut
cut_spelled : (text : List ℕ) (offset : ℕ) (closers : List ℕ) (gap : List Item) (item : Item) (items : List Item) (ending : Option Fault) → IsCut text offset closers (gap ++ (item ∷ items)) ending → IsSpelled item.kind item.bytes
cut_spelled text offset closers [] item items ending cut = begins_spelled item.kind text item.bytes cut.0
cut_spelled text offset closers (g ∷ gap) item items ending cut =
    cut_spelled (drop (length g.bytes) text) (offset + length g.bytes) (open_after g.kind g.bytes closers) gap item items ending cut.3

cut_exists : (b : Bool) (s : State) → b ≡ false → (tokens : List Item) × (ending : Option Fault) × RestIf b s tokens ending → (items : List Item) × (ending : Option Fault) × IsCutFrom s items ending
cut_exists true s e rest = absurd (true≢false e)
cut_exists false s e rest = (rest.2.0, rest.1, rest.2.1)

pub token_in : (s t : State) (token : Token) → GivesToken s token t → IsTokenIn s.text token
token_in s t token g =
    let some = g.some in
    let cut = cut_exists t.ended t g.still_going (Rest-exists t) in
    record { ordered = omega arith; within = g.fits; spelled = cut_spelled (left s) s.offset s.closers g.gap (item_of s.text token) cut.0 cut.1 (g.cut cut.0 cut.1 cut.2) }

pub member_in : (s t : State) (m : Member) → GivesMember s m t → IsTokenIn s.text m.token
member_in s t m h = subst (λ (text : List ℕ). IsTokenIn text m.token) (h.leads nothing_open).text (token_in h.before t m.token h.token)

-- ---- members

-- a member that is neither a collection nor the closer
plain_kind : (kind : ItemKind) → is_mark_kind kind ≡ false → kind ≢ Opener → kind ≢ Closer → is_plain_kind kind ≡ true
plain_kind kind = elim kind as (λ k. is_mark_kind k ≡ false → k ≢ Opener → k ≢ Closer → is_plain_kind k ≡ true) [
  | Opener ↦ λ no_mark no_opener no_closer. absurd (no_opener refl)
  | Closer ↦ λ no_mark no_opener no_closer. absurd (no_closer refl)
  | Drop ↦ λ no_mark no_opener no_closer. cc
  | Tag ↦ λ no_mark no_opener no_closer. cc
  | _ ↦ λ no_mark no_opener no_closer. refl
]

-- what is asked of the code's word for a member
pub record IsOf (m : Member) (o : Outline) : Type 0 where
  pub plain_one : IsPlainOutline m o
  pub collection_one : IsCollectionOutline m o
  pub within : (text : List ℕ) → IsTokenIn text m.token → IsOutlineIn text o

pub passes_plain : (s t : State) (m : Member) (o : Outline) → GivesMember s m t → kind_of m.token.kind ≢ Opener → kind_of m.token.kind ≢ Closer → IsOf m o → PassesMember s (Ok o) t
passes_plain s t m o h no_opener no_closer of =
    let kind = plain_kind (kind_of m.token.kind) h.no_mark no_opener no_closer in
    let f = plain (item_of s.text m.token) in
    let shorter = GivesMember-shorter s t m h in (
      behind h.tags f,
      record { text = shorter.2; forward = shorter.0; leads = λ opener members around no_place. Leads-plain s t m h opener members around kind no_place },
      record { outline_is = of.plain_one s.text (behind h.tags f) kind (behind_member s t m h f); within = of.within s.text (member_in s t m h) },
    )

pub passes_collection : (s t u : State) (m : Member) (o : Outline) → GivesMember s m t → kind_of m.token.kind ≡ Opener → PassesCollection t (item_of t.text m.token) u → IsOf m o → PassesMember s (Ok o) u
passes_collection s t u m o h is_opener p of =
    let f = collection (item_of s.text m.token) p.closer (forms_of p.members) in
    let shorter = GivesMember-shorter s t m h in
    let low = shorter.0 in
    let inner : Open = inside (tag_at 0) [] [] (inside (tag_at 0) [] [] nothing_open) in
    let lead = p.leads inner refl in
    let high = lead.forward in (
      behind h.tags f,
      record { text = lead.text ∙ shorter.2; forward = omega arith; leads = λ opener members around no_place. Leads-skipped s t u m h opener members around is_opener no_place p },
      record { outline_is = of.collection_one s.text p.closer (forms_of p.members) (behind h.tags f) is_opener (behind_member s t m h f); within = of.within s.text (member_in s t m h) },
    )

pub stops_member : (s t u : State) (m : Member) (fault : Fault) → GivesMember s m t → kind_of m.token.kind ≡ Opener → SkipsCollection t (item_of t.text m.token) (Err fault) u → PassesMember s (Err fault) u
stops_member s t u m fault h is_opener stops opener members around no_place =
    let i = item_of s.text m.token in
    let o = inside opener members h.tags around in
    let shorter = GivesMember-shorter s t m h in
    let same : item_of t.text m.token ≡ i = ap (λ text. item_of text m.token) shorter.2 in
    Leads-stops s t (inside opener members [] around) (with_opener i o) fault (Leads-opener s t m h opener members around is_opener no_place)
    (subst (λ (x : Item). Stops t (with_opener x o) fault) same (stops o (no_place members h.tags)))

-- ---- kinds of tokens

pub opener_kind : (k : TokenKind) → kind_of k ≡ Opener → k ≡ kinds.Open
opener_kind k = elim k as (λ k. kind_of k ≡ Opener → k ≡ kinds.Open) [ kinds.Open ↦ λ e. refl | _ ↦ λ e. cc ]

pub closer_kind : (k : TokenKind) → kind_of k ≡ Closer → k ≡ kinds.Close
closer_kind k = elim k as (λ k. kind_of k ≡ Closer → k ≡ kinds.Close) [ kinds.Close ↦ λ e. refl | _ ↦ λ e. cc ]

-- what `?` gives for an error
pub member_fails : (s u : State) (fault : Fault) (result : Result Outline Fault) → IsErrAnd result (λ e. e ≡ fault) → PassesMember s (Err fault) u → PassesMember s result u
member_fails s u fault (Ok o) h stops = absurd h
member_fails s u fault (Err other) h stops = subst (λ (f : Fault). PassesMember s (Err f) u) (sym h) stops

-- ---- vectors and lists

untagged_is : (k : TokenKind) (token opener : Token) → untagged k token ≡ outlines.Collection opener → (k ≡ kinds.Open) × (token ≡ opener)
untagged_is k token opener = elim k as (λ k. untagged k token ≡ outlines.Collection opener → (k ≡ kinds.Open) × (token ≡ opener)) [ kinds.Open ↦ λ e. (refl, cc) | _ ↦ λ e. cc ]

-- a collection with no tag in front of it
pub record IsBare (m : Member) (opener : Token) : Type 0 where
  pub tag : m.tag ≡ None
  pub token : m.token ≡ opener
  pub kind : kind_of m.token.kind ≡ Opener

bare_by : (tag : Option ℕ) (token opener : Token) → outline_by tag token ≡ outlines.Collection opener → (tag ≡ None) × (token ≡ opener) × (token.kind ≡ kinds.Open)
bare_by None token opener e = let is = untagged_is token.kind token opener e in (refl, is.1, is.0)
bare_by (Some place) token opener e = cc

pub bare : (m : Member) (opener : Token) → outline_for m ≡ outlines.Collection opener → IsBare m opener
bare m opener e = let is = bare_by m.tag m.token opener e in record { tag = is.0; token = is.1; kind = ap kind_of is.2 }

no_tags : (tags : List Item) → None ≡ first_place tags → tags ≡ []
no_tags [] e = refl
no_tags (tag ∷ tags) e = cc

pub bare_member : (s t u : State) (m : Member) (closer : Item) (members : List Form) → GivesMember s m t → m.tag ≡ None → kind_of m.token.kind ≡ Opener → ReadsCollection t (item_of t.text m.token) members closer u
    → ReadsMember s (collection (item_of s.text m.token) closer (forms_of members)) u
bare_member s t u m closer members h tag is r =
    let i = item_of s.text m.token in
    let f = collection i closer (forms_of members) in
    let none : h.tags ≡ [] = no_tags h.tags (sym tag ∙ h.first) in
    let shorter = GivesMember-shorter s t m h in
    let low = shorter.0 in
    let high = r.forward in
    let same : item_of t.text m.token ≡ i = ap (λ text. item_of text m.token) shorter.2 in
    record {
      text = r.text ∙ shorter.2;
      forward = omega arith;
      leads = λ opener before around no_place.
          let o = inside opener before h.tags around in
          let P : Item → Type 0 = λ x. Leads t (with_opener x o) [] u (with_form (collection x closer (forms_of members)) o.marks o.collections) in
          subst (λ (tags : List Item). Leads s (inside opener before [] around) [] u (inside opener (before ++ behind tags f ∷ []) [] around)) none
          (Leads-member s t u m h opener closer before members around is no_place (subst P same (r.leads o (no_place before h.tags))));
    }

-- reading stops within it
pub stops_bare : (s t : State) (m : Member) (fault : Fault) → GivesMember s m t → kind_of m.token.kind ≡ Opener → StopsBehind t (item_of t.text m.token) fault → StopsInside s fault
stops_bare s t m fault h is stops opener members around no_place =
    let i = item_of s.text m.token in
    let o = inside opener members h.tags around in
    let shorter = GivesMember-shorter s t m h in
    let same : item_of t.text m.token ≡ i = ap (λ text. item_of text m.token) shorter.2 in
    Leads-stops s t (inside opener members [] around) (with_opener i o) fault (Leads-opener s t m h opener members around is no_place)
    (subst (λ (x : Item). Stops t (with_opener x o) fault) same (stops o (no_place members h.tags)))
