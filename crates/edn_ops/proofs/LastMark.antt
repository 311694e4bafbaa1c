-- The last mark that waits when a level ends.
use Rattle.std.proofs.Common.{◌≡◌, ℕ, suc, ◌+◌, ◌-◌, ◌<◌, ◌≤◌, List, [], ◌∷◌, length, Bool, true, false, refl, sym, ◌∙◌, ap, arith, subst, ◌⊎◌, inl, inr, Option}
use Rattle.hist_types.specs.Forms.{still_waiting}
use Rattle.hist_types.specs.Tokens.{Item, ItemKind, Blank, Comment, Opener, Closer, Str, Char, Drop, Tag, Nil, True, False, Int, Keyword, Symbol, Other}
use Rattle.hist_types.specs.declared.types.Fault.{Fault}
use Rattle.edn_lex.specs.declared.types.Token.{Token}
use Rattle.edn_lex.specs.declared.types.TokenKind.{TokenKind}
use Rattle.edn_lex.specs.declared.types.TokenKind.TheVariants as kinds
use Rattle.edn_lex.specs.Kinds.{kind_of, item_of}
use Rattle.edn_lex.specs.State.{State, Rest, GivesToken}
use Rattle.edn_ops.specs.declared.marks.LastMark.{LastMark}
use Rattle.edn_ops.specs.Leads.{is_mark_kind, is_plain_kind}
use Rattle.edn_ops.specs.LevelEnds.{Role, opens, closes, waits, stands, role_of, passed_by, level_end, WaitAtEnd}
use Rattle.edn_ops.specs.Marks.{drops_among, IsLastOf}
use Rattle.edn_ops.proofs.LevelSteps.{InLevel, InLevel-step, passes, WaitAtEnd-closer, WaitAtEnd-end, WaitAtEnd-unique}
use Rattle.edn_ops.proofs.MarksKept.{LastAt-whole}

-- ---- roles

pub role-mark : (kind : ItemKind) → is_mark_kind kind ≡ true → role_of kind ≡ waits
role-mark kind = elim kind as (λ k. is_mark_kind k ≡ true → role_of k ≡ waits) [
  | Blank ↦ λ h. cc
  | Comment ↦ λ h. cc
  | Opener ↦ λ h. cc
  | Closer ↦ λ h. cc
  | Str ↦ λ h. cc
  | Char ↦ λ h. cc
  | Drop ↦ λ h. refl
  | Tag ↦ λ h. refl
  | Nil ↦ λ h. cc
  | True ↦ λ h. cc
  | False ↦ λ h. cc
  | Int ↦ λ h. cc
  | Keyword ↦ λ h. cc
  | Symbol ↦ λ h. cc
  | Other ↦ λ h. cc
]

-- a token that is no mark and neither opens nor closes
pub role-form : (kind : TokenKind) → is_mark_kind (kind_of kind) ≡ false → (kind ≡ kinds.Open → ⊥) → (kind ≡ kinds.Close → ⊥) → role_of (kind_of kind) ≡ stands
role-form kind = elim kind as (λ k. is_mark_kind (kind_of k) ≡ false → (k ≡ kinds.Open → ⊥) → (k ≡ kinds.Close → ⊥) → role_of (kind_of k) ≡ stands) [
  | kinds.Open ↦ λ h a b. absurd (a refl)
  | kinds.Close ↦ λ h a b. absurd (b refl)
  | kinds.Str ↦ λ h a b. refl
  | kinds.Char ↦ λ h a b. refl
  | kinds.Drop ↦ λ h a b. cc
  | kinds.Tag ↦ λ h a b. cc
  | kinds.Nil ↦ λ h a b. refl
  | kinds.True ↦ λ h a b. refl
  | kinds.False ↦ λ h a b. refl
  | kinds.Int ↦ λ h a b. refl
  | kinds.Keyword ↦ λ h a b. refl
  | kinds.Symbol ↦ λ h a b. refl
  | kinds.Other ↦ λ h a b. refl
]

pub plain-form : (kind : TokenKind) → is_mark_kind (kind_of kind) ≡ false → (kind ≡ kinds.Open → ⊥) → (kind ≡ kinds.Close → ⊥) → is_plain_kind (kind_of kind) ≡ true
plain-form kind = elim kind as (λ k. is_mark_kind (kind_of k) ≡ false → (k ≡ kinds.Open → ⊥) → (k ≡ kinds.Close → ⊥) → is_plain_kind (kind_of k) ≡ true) [
  | kinds.Open ↦ λ h a b. absurd (a refl)
  | kinds.Close ↦ λ h a b. absurd (b refl)
  | kinds.Str ↦ λ h a b. refl
  | kinds.Char ↦ λ h a b. refl
  | kinds.Drop ↦ λ h a b. cc
  | kinds.Tag ↦ λ h a b. cc
  | kinds.Nil ↦ λ h a b. refl
  | kinds.True ↦ λ h a b. refl
  | kinds.False ↦ λ h a b. refl
  | kinds.Int ↦ λ h a b. refl
  | kinds.Keyword ↦ λ h a b. refl
  | kinds.Symbol ↦ λ h a b. refl
  | kinds.Other ↦ λ h a b. refl
]

pub closer-kind : (kind : TokenKind) → kind_of kind ≡ Closer → kind ≡ kinds.Close
closer-kind kind = elim kind as (λ k. kind_of k ≡ Closer → k ≡ kinds.Close) [
  | kinds.Open ↦ λ h. cc
  | kinds.Close ↦ λ h. refl
  | kinds.Str ↦ λ h. cc
  | kinds.Char ↦ λ h. cc
  | kinds.Drop ↦ λ h. cc
  | kinds.Tag ↦ λ h. cc
  | kinds.Nil ↦ λ h. cc
  | kinds.True ↦ λ h. cc
  | kinds.False ↦ λ h. cc
  | kinds.Int ↦ λ h. cc
  | kinds.Keyword ↦ λ h. cc
  | kinds.Symbol ↦ λ h. cc
  | kinds.Other ↦ λ h. cc
]

-- ---- the walk

-- Behind t so many collections are open within the level that begins at s with a mark, and this is the last mark.
pub record Walk (s : State) (first : Item) (t : State) (last : LastMark) (depth : ℕ) : Type 0 where
  pub inner : List Item
  pub marks : List Item
  pub deep : length inner ≡ depth
  pub is_last : IsLastOf last marks
  pub few : last.waiting ≤ t.offset
  pub shallow : depth ≤ t.offset
  pub level : InLevel s (first ∷ []) t inner marks

-- behind the first mark
pub Walk-start :
    (s : State) (first : Token) (last : LastMark) → first.start < s.offset → IsLastOf last (item_of s.text first ∷ []) → last.waiting ≤ 1 →
    Walk s (item_of s.text first) s last 0
Walk-start s first last behind is few =
    record {
      inner = [];
      marks = item_of s.text first ∷ [];
      deep = refl;
      is_last = is;
      few = omega arith;
      shallow = omega arith;
      level = λ tokens ending rest. (tokens, rest, refl);
    }

-- a token takes the lexer further
further : (t u : State) (token : Token) → GivesToken t token u → t.offset < u.offset
further t u token g =
    let low = g.low in
    let some = g.some in
    let next = g.next in
    omega arith

pub Walk-opener :
    (s t u : State) (first : Item) (token : Token) (last : LastMark) (depth : ℕ) → Walk s first t last depth → GivesToken t token u →
    token.kind ≡ kinds.Open → Walk s first u last (depth + 1)
Walk-opener s t u first token last depth w g is =
    let i = item_of t.text token in
    let more = further t u token g in
    let deep = w.deep in
    let few = w.few in
    let shallow = w.shallow in
    let role : role_of i.kind ≡ opens = ap (λ k. role_of (kind_of k)) is in
    record {
      inner = i ∷ w.inner;
      marks = w.marks;
      deep = omega arith;
      is_last = w.is_last;
      few = omega arith;
      shallow = omega arith;
      level = InLevel-step s t u token (first ∷ []) w.inner w.marks (i ∷ w.inner) w.marks w.level g (λ ts. passes i ts w.inner w.marks opens role);
    }

-- the closer of a collection within another
closes_inner : (i : Item) (inner marks ts : List Item) → 1 < length inner → role_of i.kind ≡ closes →
    (j : Item) × (more : List Item) × (length inner ≡ suc (length (j ∷ more))) × ((ts : List Item) → level_end inner marks (i ∷ ts) ≡ level_end (j ∷ more) marks ts)
closes_inner i [] marks ts deep role = absurd (omega arith)
closes_inner i (k ∷ []) marks ts deep role = absurd (omega arith)
closes_inner i (k ∷ j ∷ more) marks ts deep role = (j, more, refl, λ ts. passes i ts (k ∷ j ∷ more) marks closes role)

pub Walk-closer :
    (s t u : State) (first : Item) (token : Token) (last : LastMark) (depth : ℕ) → Walk s first t last depth → GivesToken t token u →
    token.kind ≡ kinds.Close → 0 < depth - 1 → Walk s first u last (depth - 1)
Walk-closer s t u first token last depth w g is some =
    let i = item_of t.text token in
    let more = further t u token g in
    let deep = w.deep in
    let few = w.few in
    let shallow = w.shallow in
    let role : role_of i.kind ≡ closes = ap (λ k. role_of (kind_of k)) is in
    let x = closes_inner i w.inner w.marks [] (omega arith) role in
    let e = x.2 in
    record {
      inner = x.0 ∷ x.1;
      marks = w.marks;
      deep = omega arith;
      is_last = w.is_last;
      few = omega arith;
      shallow = omega arith;
      level = InLevel-step s t u token (first ∷ []) w.inner w.marks (x.0 ∷ x.1) w.marks w.level g x.3;
    }

-- the closer of a collection directly in the level
closes_last : (i : Item) (inner marks : List Item) → length inner ≡ 1 → role_of i.kind ≡ closes →
    (ts : List Item) → level_end inner marks (i ∷ ts) ≡ level_end [] (still_waiting marks) ts
closes_last i [] marks deep role = λ ts. absurd (let e : 0 ≡ 1 = deep in omega arith)
closes_last i (k ∷ []) marks deep role = λ ts. passes i ts (k ∷ []) marks closes role
closes_last i (k ∷ j ∷ more) marks deep role = λ ts. absurd (omega arith)

pub Walk-closed :
    (s t u : State) (first : Item) (token : Token) (last settled : LastMark) (depth : ℕ) → Walk s first t last depth → GivesToken t token u →
    token.kind ≡ kinds.Close → depth ≡ 1 → ((marks : List Item) → IsLastOf last marks → IsLastOf settled (still_waiting marks)) →
    settled.waiting ≤ last.waiting → Walk s first u settled 0
Walk-closed s t u first token last settled depth w g is one settles fewer =
    let i = item_of t.text token in
    let more = further t u token g in
    let few = w.few in
    let role : role_of i.kind ≡ closes = ap (λ k. role_of (kind_of k)) is in
    record {
      inner = [];
      marks = still_waiting w.marks;
      deep = refl;
      is_last = settles w.marks w.is_last;
      few = omega arith;
      shallow = omega arith;
      level = InLevel-step s t u token (first ∷ []) w.inner w.marks [] (still_waiting w.marks) w.level g (closes_last i w.inner w.marks (w.deep ∙ one) role);
    }

-- a token within a collection
inside_inner : (i : Item) (inner marks : List Item) (role : Role) → 0 < length inner → role_of i.kind ≡ role → (role ≡ waits) ⊎ (role ≡ stands) →
    (ts : List Item) → level_end inner marks (i ∷ ts) ≡ level_end inner marks ts
inside_inner i [] marks role some is h = absurd (omega arith)
inside_inner i (k ∷ more) marks role some is (inl h) = λ ts. passes i ts (k ∷ more) marks waits (is ∙ h)
inside_inner i (k ∷ more) marks role some is (inr h) = λ ts. passes i ts (k ∷ more) marks stands (is ∙ h)

role-either : (kind : TokenKind) (b : Bool) → is_mark_kind (kind_of kind) ≡ b → (kind ≡ kinds.Open → ⊥) → (kind ≡ kinds.Close → ⊥) →
    (role_of (kind_of kind) ≡ waits) ⊎ (role_of (kind_of kind) ≡ stands)
role-either kind true h a b = inl (role-mark (kind_of kind) h)
role-either kind false h a b = inr (role-form kind h a b)

pub Walk-inside :
    (s t u : State) (first : Item) (token : Token) (last : LastMark) (depth : ℕ) → Walk s first t last depth → GivesToken t token u →
    (token.kind ≡ kinds.Open → ⊥) → (token.kind ≡ kinds.Close → ⊥) → 0 < depth → Walk s first u last depth
Walk-inside s t u first token last depth w g a b some =
    let i = item_of t.text token in
    let more = further t u token g in
    let deep = w.deep in
    let few = w.few in
    let shallow = w.shallow in
    let role = role-either token.kind (is_mark_kind (kind_of token.kind)) refl a b in
    record {
      inner = w.inner;
      marks = w.marks;
      deep = w.deep;
      is_last = w.is_last;
      few = omega arith;
      shallow = omega arith;
      level = InLevel-step s t u token (first ∷ []) w.inner w.marks w.inner w.marks w.level g
          (inside_inner i w.inner w.marks (role_of i.kind) (omega arith) refl role);
    }

-- a token directly in the level
at_level : (i : Item) (inner marks : List Item) (role : Role) → length inner ≡ 0 → role_of i.kind ≡ role →
    (ts : List Item) → level_end inner marks (i ∷ ts) ≡ passed_by role [] marks i ts (λ a m. level_end a m ts)
at_level i [] marks role none is = λ ts. passes i ts [] marks role is
at_level i (k ∷ more) marks role none is = λ ts. absurd (omega arith)

pub Walk-here :
    (s t u : State) (first : Item) (token : Token) (last next : LastMark) (depth : ℕ) → Walk s first t last depth → GivesToken t token u →
    (token.kind ≡ kinds.Open → ⊥) → (token.kind ≡ kinds.Close → ⊥) → depth ≡ 0 →
    (is_mark_kind (kind_of token.kind) ≡ true → (text : List ℕ) (marks : List Item) → IsLastOf last marks → IsLastOf next (item_of text token ∷ marks)) →
    (is_mark_kind (kind_of token.kind) ≡ false → (marks : List Item) → IsLastOf last marks → IsLastOf next (still_waiting marks)) →
    next.waiting ≤ last.waiting + 1 → Walk s first u next depth
Walk-here s t u first token last next depth w g a b none mark form fewer =
    let i = item_of t.text token in
    let more = further t u token g in
    let few = w.few in
    let deep = w.deep in
    let shallow = w.shallow in
    let P : Bool → Type 0 = λ x. is_mark_kind (kind_of token.kind) ≡ x → Walk s first u next depth in
    elim (is_mark_kind (kind_of token.kind)) as P [
      | true ↦ λ is. record {
        inner = [];
        marks = i ∷ w.marks;
        deep = sym none;
        is_last = mark is t.text w.marks w.is_last;
        few = omega arith;
        shallow = omega arith;
        level = InLevel-step s t u token (first ∷ []) w.inner w.marks [] (i ∷ w.marks) w.level g
            (at_level i w.inner w.marks waits (w.deep ∙ none) (role-mark (kind_of token.kind) is));
      }
      | false ↦ λ is. record {
        inner = [];
        marks = still_waiting w.marks;
        deep = sym none;
        is_last = form is w.marks w.is_last;
        few = omega arith;
        shallow = omega arith;
        level = InLevel-step s t u token (first ∷ []) w.inner w.marks [] (still_waiting w.marks) w.level g
            (at_level i w.inner w.marks stands (w.deep ∙ none) (role-form token.kind is a b));
      }
    ] refl

-- ---- the end

no_inner : (inner : List Item) → length inner ≡ 0 → inner ≡ []
no_inner [] h = refl
no_inner (k ∷ more) h = absurd (omega arith)

last_is : (s : State) (first : Item) (t : State) (last : LastMark) (depth : ℕ) (w : Walk s first t last depth) (mark : Item) (marks : List Item) →
    w.marks ≡ mark ∷ marks → drops_among (mark ∷ marks) ≡ last.drops → last.place ≡ mark.start
last_is s first t last depth w mark marks same is =
    LastAt-whole last.drops mark marks last.place is (let P : List Item → Type 0 = λ ms. IsLastOf last ms in (subst P same w.is_last).1)

pub Walk-closer_ends :
    (s t u : State) (first : Item) (token : Token) (last : LastMark) (depth : ℕ) → Walk s first t last depth → GivesToken t token u →
    token.kind ≡ kinds.Close → depth ≡ 0 → (mark : Item) (marks : List Item) → drops_among (mark ∷ marks) ≡ last.drops → WaitAtEnd s (first ∷ []) (mark ∷ marks) →
    last.place ≡ mark.start
Walk-closer_ends s t u first token last depth w g is none mark marks count wait =
    let level : InLevel s (first ∷ []) t [] w.marks = subst (λ inner. InLevel s (first ∷ []) t inner w.marks) (no_inner w.inner (w.deep ∙ none)) w.level in
    let here = WaitAtEnd-closer s t u token (first ∷ []) w.marks level g (ap (λ k. role_of (kind_of k)) is) in
    last_is s first t last depth w mark marks (WaitAtEnd-unique s (first ∷ []) w.marks (mark ∷ marks) here wait) count

pub Walk-ends :
    (s t : State) (first : Item) (last : LastMark) (depth : ℕ) → Walk s first t last depth →
    ((tokens : List Item) (ending : Option Fault) → Rest t tokens ending → tokens ≡ []) →
    (mark : Item) (marks : List Item) → drops_among (mark ∷ marks) ≡ last.drops → WaitAtEnd s (first ∷ []) (mark ∷ marks) →
    last.place ≡ mark.start
Walk-ends s t first last depth w none mark marks count wait =
    let here = WaitAtEnd-end s t (first ∷ []) w.inner w.marks w.level none in
    last_is s first t last depth w mark marks (WaitAtEnd-unique s (first ∷ []) w.marks (mark ∷ marks) here wait) count
