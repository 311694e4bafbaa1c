-- How a lexer goes from one state to the next.
use Rattle.std.proofs.Common.{◌≡◌, ℕ, ◌+◌, ◌-◌, ◌<◌, ◌≤◌, List, [], ◌∷◌, ◌++◌, length, drop, take, Bool, true, false, Option, Some, None, option_map, nat_lt, Result, Ok, Err, refl, sym, ◌∙◌, ap, arith, subst, length-take-le, length-drop, drop-drop, append_assoc}
use Rattle.std.specs.Iterator.{Yields}
use Rattle.std.proofs.lemmas.List.{drop_all}
use Rattle.std.proofs.lemmas.List.Elements.{filter-append}
use Rattle.hist_types.specs.declared.types.Fault.{Fault}
use Rattle.std.specs.Bool.{if◌then◌else◌}
use Rattle.std.specs.Str.Lossy.{utf8_valid_len}
use Rattle.hist_types.specs.declared.types.Refusal.{Refusal}
use Rattle.hist_types.specs.Tokens.{tokens_of, ItemKind, Blank, Comment, Opener, Closer, Str, Char, Drop, Tag, Nil, True, False, Int, Keyword, Symbol, Other, Item, BeginsWithFault, IsCut, item_fault, byte_fault, nesting_refusal, open_after, is_token}
use Rattle.edn_lex.specs.declared.types.Token.{Token}
use Rattle.edn_lex.specs.declared.types.TokenKind.{TokenKind}
use Rattle.edn_lex.specs.declared.types.TokenKind.TheVariants as kinds
use Rattle.edn_lex.specs.Kinds.{kind_of, item_of}
use Rattle.edn_lex.specs.State.{State, left, IsCutFrom, RestIf, Rest, GivesToken, GivesFault, GivesEnd, PassesOver, Passes, after_item, Gives, items_given, fault_given}
use Rattle.edn_lex.proofs.Cuts.{item, IsCut-first}
use Rattle.reading_laws.proofs.OneCut.{one_cut}

-- the item that was passed over
abbrev pub item_at : State → ItemKind → ℕ → Item
item_at s kind len = item kind s.offset (take len (left s))

-- ---- a step over one item

module _ (s : State) (kind : ItemKind) (len : ℕ) (t : State) (step : PassesOver s kind len t) where
  -- the item's bytes are as many as it has
  bytes_len : length (take len (left s)) ≡ len
  bytes_len = length-take-le len (left s) (let h = step.fits in omega (arith, length-drop s.offset s.text))

  -- what is left after the item
  left_after : drop (length (take len (left s))) (left s) ≡ left (after_item s kind len)
  left_after = ap (λ n. drop n (left s)) bytes_len ∙ drop-drop len s.offset s.text

  -- where the cut goes on
  after : (let p : List ℕ × ℕ × List ℕ =
      (drop (length (take len (left s))) (left s), s.offset + length (take len (left s)), open_after kind (take len (left s)) s.closers) in
      p ≡ (left t, t.offset, t.closers))
  after =
      ap (λ xs. (xs, s.offset + length (take len (left s)), open_after kind (take len (left s)) s.closers)) left_after
      ∙ ap (λ n. (left (after_item s kind len), s.offset + n, open_after kind (take len (left s)) s.closers)) bytes_len
      ∙ ap (λ (u : State). (left u, u.offset, u.closers)) (sym step.after)

  -- a cut of what follows gives a cut of all
  pub step_cut : (items : List Item) (ending : Option Fault) → IsCutFrom t items ending → IsCutFrom s (item_at s kind len ∷ items) ending
  step_cut items ending cut =
      let P : List ℕ × ℕ × List ℕ → Type 0 = λ p. IsCut p.0 p.1 p.2 items ending in
      (step.begins, refl, step.no_fault, subst P (sym after) cut)

  -- each cut of all begins with the item
  pub step_back :
      (items : List Item) (ending : Option Fault) → IsCutFrom s items ending →
      (later : List Item) × (items ≡ item_at s kind len ∷ later) × IsCutFrom t later ending
  step_back items ending cut =
      let found = IsCut-first (left s) s.offset s.closers kind (take len (left s)) items ending step.begins step.no_fault cut in
      let P : List ℕ × ℕ × List ℕ → Type 0 = λ p. IsCut p.0 p.1 p.2 found.0 ending in
      (found.0, found.1, subst P after found.2)

-- ---- a gap of blanks and comments

-- only blanks and comments have been passed over from s to t
pub record Gapped (s : State) (t : State) : Type 0 where
  pub text : t.text ≡ s.text
  pub ended : t.ended ≡ s.ended
  pub closers : t.closers ≡ s.closers
  pub low : s.offset ≤ t.offset
  pub gap : List Item
  pub is_gap : tokens_of gap ≡ []
  pub cut : (items : List Item) (ending : Option Fault) → IsCutFrom t items ending → IsCutFrom s (gap ++ items) ending
  pub back :
      (items : List Item) (ending : Option Fault) → IsCutFrom s items ending →
      (later : List Item) × (items ≡ gap ++ later) × IsCutFrom t later ending

-- what is no token opens and closes nothing
gap_closers : (kind : ItemKind) (bytes closers : List ℕ) → is_token kind ≡ false → open_after kind bytes closers ≡ closers
gap_closers kind bytes closers = elim kind as (λ k. is_token k ≡ false → open_after k bytes closers ≡ closers) [
  | Blank ↦ λ h. refl
  | Comment ↦ λ h. refl
  | Opener ↦ λ h. cc
  | Closer ↦ λ h. cc
  | Str ↦ λ h. refl
  | Char ↦ λ h. refl
  | Drop ↦ λ h. refl
  | Tag ↦ λ h. refl
  | Nil ↦ λ h. refl
  | True ↦ λ h. refl
  | False ↦ λ h. refl
  | Int ↦ λ h. refl
  | Keyword ↦ λ h. refl
  | Symbol ↦ λ h. refl
  | Other ↦ λ h. refl
]

-- nothing passed over is a gap
pub Gapped-refl : (s : State) → Gapped s s
Gapped-refl s =
    record { text = refl; ended = refl; closers = refl; low = omega arith; gap = []; is_gap = refl; cut = λ items ending cut. cut; back = λ items ending cut. (items, refl, cut) }

-- the tokens of two lists after one another
tokens_of-append : (xs ys : List Item) → tokens_of (xs ++ ys) ≡ tokens_of xs ++ tokens_of ys
tokens_of-append xs ys = filter-append (λ (i : Item). is_token i.kind) xs ys

-- an item that is no token, or one that is
tokens_of-gap : (i : Item) (xs : List Item) → is_token i.kind ≡ false → tokens_of (i ∷ xs) ≡ tokens_of xs
tokens_of-gap i xs h = rw h refl

-- an item that is a token
tokens_of-token : (i : Item) (xs : List Item) → is_token i.kind ≡ true → tokens_of (i ∷ xs) ≡ i ∷ tokens_of xs
tokens_of-token i xs h = rw h refl

-- the gap grows by an item that is no token
pub Gapped-more :
    (s t u : State) (kind : ItemKind) (len : ℕ) → Gapped s t → PassesOver t kind len u → is_token kind ≡ false → Gapped s u
Gapped-more s t u kind len g step none =
    let i = item_at t kind len in
    record {
      text = ap (λ (x : State). x.text) step.after ∙ g.text;
      ended = ap (λ (x : State). x.ended) step.after ∙ g.ended;
      closers = ap (λ (x : State). x.closers) step.after ∙ gap_closers kind (take len (left t)) t.closers none ∙ g.closers;
      low = (let at : u.offset ≡ t.offset + len = ap (λ (x : State). x.offset) step.after in let low = g.low in omega arith);
      gap = g.gap ++ (i ∷ []);
      is_gap = tokens_of-append g.gap (i ∷ []) ∙ ap (λ xs. xs ++ tokens_of (i ∷ [])) g.is_gap ∙ tokens_of-gap i [] none;
      cut = λ items ending cut.
          subst (λ xs. IsCutFrom s xs ending) (sym (append_assoc g.gap (i ∷ []) items)) (g.cut (i ∷ items) ending (step_cut t kind len u step items ending cut));
      back = λ items ending cut.
          let first = g.back items ending cut in
          let second = step_back t kind len u step first.0 ending first.2 in
          (second.0, first.1 ∙ ap (λ xs. g.gap ++ xs) second.1 ∙ sym (append_assoc g.gap (i ∷ []) second.0), second.2);
    }

-- ---- what is left to give

-- a lexer that goes on
rest_going : (s : State) (tokens : List Item) (ending : Option Fault) → s.ended ≡ false →
    (items : List Item) × IsCutFrom s items ending × (tokens ≡ tokens_of items) → Rest s tokens ending
rest_going s tokens ending going h = let P : Bool → Type 0 = λ b. RestIf b s tokens ending in subst P (sym going) h

-- the same, the other way round
rest_cut : (s : State) (tokens : List Item) (ending : Option Fault) → s.ended ≡ false →
    Rest s tokens ending → (items : List Item) × IsCutFrom s items ending × (tokens ≡ tokens_of items)
rest_cut s tokens ending going h = let P : Bool → Type 0 = λ b. RestIf b s tokens ending in subst P going h

-- ---- what a call gives

-- every kind of token
is_token-kind_of : (k : TokenKind) → is_token (kind_of k) ≡ true
is_token-kind_of k = elim k as (λ k. is_token (kind_of k) ≡ true) [
  | kinds.Open ↦ refl
  | kinds.Close ↦ refl
  | kinds.Str ↦ refl
  | kinds.Char ↦ refl
  | kinds.Drop ↦ refl
  | kinds.Tag ↦ refl
  | kinds.Nil ↦ refl
  | kinds.True ↦ refl
  | kinds.False ↦ refl
  | kinds.Int ↦ refl
  | kinds.Keyword ↦ refl
  | kinds.Symbol ↦ refl
  | kinds.Other ↦ refl
]

-- behind a gap stands a token
gap_token : (gap : List Item) (i : Item) (later : List Item) → tokens_of gap ≡ [] → is_token i.kind ≡ true → tokens_of (gap ++ (i ∷ later)) ≡ i ∷ tokens_of later
gap_token gap i later none some =
    tokens_of-append gap (i ∷ later) ∙ ap (λ xs. xs ++ tokens_of (i ∷ later)) none ∙ tokens_of-token i later some

-- behind a gap comes nothing
gap_nothing : (gap : List Item) → tokens_of gap ≡ [] → tokens_of (gap ++ []) ≡ []
gap_nothing gap none = tokens_of-append gap [] ∙ ap (λ xs. xs ++ []) none

-- a token, as the item of the text
item_at-token :
    (s t : State) (token : Token) → t.text ≡ s.text → token.start ≡ t.offset → item_at t (kind_of token.kind) (token.end - token.start) ≡ item_of s.text token
item_at-token s t token same start =
    ap (λ x. item (kind_of token.kind) x (take (token.end - token.start) (drop x t.text))) (sym start)
    ∙ ap (λ x. item (kind_of token.kind) token.start (take (token.end - token.start) (drop token.start x))) same

-- a choice of faults that is none
without_fault :
    (b : Bool) (fault : Fault) (offset : ℕ) (o : Option Refusal) →
    (if b then Some fault else option_map (λ refusal. byte_fault refusal offset) o) ≡ None → o ≡ None
without_fault true fault offset o h = cc
without_fault false fault offset None h = refl
without_fault false fault offset (Some r) h = cc

-- an item that has no fault may stand where it stands
nests_where_it_stands :
    (kind : ItemKind) (offset : ℕ) (bytes closers : List ℕ) → item_fault kind offset bytes closers ≡ None → nesting_refusal kind bytes closers ≡ None
nests_where_it_stands kind offset bytes closers fine = without_fault (nat_lt (utf8_valid_len bytes) (length bytes)) _ offset _ fine

-- behind a gap a token was passed over
pub GivesToken-from :
    (s t u : State) (token : Token) → Gapped s t → t.ended ≡ false → Passes t (Ok (Some token)) u → GivesToken s token u
GivesToken-from s t u token g going passed =
    let step = passed.1 in
    let kind = kind_of token.kind in
    let len = token.end - token.start in
    let was_going : s.ended ≡ false = sym g.ended ∙ going in
    let still_going : u.ended ≡ false = ap (λ (x : State). x.ended) step.after ∙ going in
    let at : u.offset ≡ t.offset + len = ap (λ (x : State). x.offset) step.after in
    let start : token.start ≡ t.offset = passed.0 in
    let some : 0 < len = step.some in
    let fits : t.offset + len ≤ length t.text = step.fits in
    let fits_s : t.offset + len ≤ length s.text = subst (λ xs. t.offset + len ≤ length xs) g.text fits in
    let low : s.offset ≤ t.offset = g.low in
    let same : item_at t kind len ≡ item_of s.text token = item_at-token s t token g.text start in
    let is : is_token kind ≡ true = is_token-kind_of token.kind in
    let cut_of : (items : List Item) (ending : Option Fault) → IsCutFrom u items ending → IsCutFrom s (g.gap ++ (item_of s.text token ∷ items)) ending =
    λ items ending cut. subst (λ i. IsCutFrom s (g.gap ++ (i ∷ items)) ending) same (g.cut (item_at t kind len ∷ items) ending (step_cut t kind len u step items ending cut)) in
    record {
      text = ap (λ (x : State). x.text) step.after ∙ g.text;
      going = was_going;
      still_going = still_going;
      low = omega arith;
      some = omega arith;
      fits = omega arith;
      next = omega arith;
      nests =
          (let fine = nests_where_it_stands kind t.offset (take len (left t)) t.closers step.no_fault in
          ap (λ (x : Item). nesting_refusal kind x.bytes s.closers) (sym same) ∙ ap (λ cs. nesting_refusal kind (take len (left t)) cs) (sym g.closers) ∙ fine);
      closers =
          ap (λ (x : State). x.closers) step.after
          ∙ ap (λ cs. open_after kind (take len (left t)) cs) g.closers
          ∙ ap (λ (x : Item). open_after kind x.bytes s.closers) same;
      gap = g.gap;
      is_gap = g.is_gap;
      cut = cut_of;
      first = λ tokens ending rest.
          let split = rest_cut u tokens ending still_going rest in
          rest_going s (item_of s.text token ∷ tokens) ending was_going (
            g.gap ++ (item_of s.text token ∷ split.0),
            cut_of split.0 ending split.1,
            ap (λ xs. item_of s.text token ∷ xs) split.2 ∙ sym (gap_token g.gap (item_of s.text token) split.0 g.is_gap is),
          );
      only = λ tokens ending rest.
          let split = rest_cut s tokens ending was_going rest in
          let first = g.back split.0 ending split.1 in
          let second = step_back t kind len u step first.0 ending first.2 in (
            tokens_of second.0,
            split.2 ∙ ap tokens_of (first.1 ∙ ap (λ xs. g.gap ++ xs) (second.1 ∙ ap (λ i. i ∷ second.0) same))
                ∙ gap_token g.gap (item_of s.text token) second.0 g.is_gap is,
            rest_going u (tokens_of second.0) ending still_going (second.0, second.2, refl),
          );
    }

-- a fault ends each cut
fault_only :
    (t : State) (fault : Fault) (items : List Item) (ending : Option Fault) → BeginsWithFault (left t) t.offset t.closers fault → IsCutFrom t items ending →
    (items ≡ []) × (ending ≡ Some fault)
fault_only t fault items ending bad cut = one_cut (left t) t.offset t.closers items [] ending (Some fault) cut bad

-- behind a gap a fault stands
pub GivesFault-from :
    (s t u : State) (fault : Fault) → Gapped s t → t.ended ≡ false → Passes t (Err fault) u → (v : State) → v.text ≡ u.text → v.ended ≡ true → GivesFault s fault v
GivesFault-from s t u fault g going passed v text ended =
    let was_going : s.ended ≡ false = sym g.ended ∙ going in
    record {
      text = text ∙ passed.1 ∙ g.text;
      going = was_going;
      ended = ended;
      rest = rest_going s [] (Some fault) was_going (g.gap ++ [], g.cut [] (Some fault) passed.0, sym (gap_nothing g.gap g.is_gap));
      only = λ tokens ending rest.
          let split = rest_cut s tokens ending was_going rest in
          let first = g.back split.0 ending split.1 in
          let end = fault_only t fault first.0 ending passed.0 first.2 in
          (split.2 ∙ ap tokens_of (first.1 ∙ ap (λ xs. g.gap ++ xs) end.0) ∙ gap_nothing g.gap g.is_gap, end.1);
    }

-- nothing is left
pub GivesEnd-at_end : (s t : State) → Gapped s t → t.ended ≡ false → length t.text ≤ t.offset → GivesEnd s t
GivesEnd-at_end s t g going end =
    let was_going : s.ended ≡ false = sym g.ended ∙ going in
    let nothing : left t ≡ [] = drop_all t.offset t.text end in
    record {
      text = g.text;
      low = g.low;
      rest = rest_going s [] None was_going (g.gap ++ [], g.cut [] None nothing, sym (gap_nothing g.gap g.is_gap));
      only = λ tokens ending rest.
          let split = rest_cut s tokens ending was_going rest in
          let first = g.back split.0 ending split.1 in
          let done = one_cut (left t) t.offset t.closers first.0 [] ending None first.2 nothing in
          (split.2 ∙ ap tokens_of (first.1 ∙ ap (λ xs. g.gap ++ xs) done.0) ∙ gap_nothing g.gap g.is_gap, done.1);
      after = rest_going t [] None going ([], nothing, refl);
    }

-- what all calls give is what was left
pub Rest-yielded :
    (given : List (Result Token Fault)) (s t u : State) → Yields Gives s given t → Gives t None u → Rest s (items_given s.text given) (fault_given given)
Rest-yielded [] s t u same end = subst (λ x. Rest x [] None) (sym same) end.rest
Rest-yielded (Ok token ∷ given) s t u calls end =
    let later = Rest-yielded given calls.0 t u calls.2 end in
    calls.1.first _ _ (subst (λ x. Rest calls.0 (items_given x given) (fault_given given)) calls.1.text later)
Rest-yielded (Err fault ∷ given) s t u calls end = calls.1.rest
