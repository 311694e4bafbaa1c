-- What stands at the front of what is left, from what was found there.
use Rattle.std.proofs.Common.{◌≡◌, ℕ, ◌+◌, ◌-◌, ◌<◌, ◌≤◌, List, [], ◌∷◌, length, drop, take, get_or, true, false, nat_lt, Option, Some, None, Ok, refl, sym, ◌∙◌, ap, arith, subst, inr, length-drop}
use Rattle.std.specs.Option.{MatchOption, option_map}
use Rattle.std.specs.Str.Lossy.{utf8_valid_len}
use Rattle.std.proofs.lemmas.Bool.{and_from}
use Rattle.std.proofs.lemmas.Bool.Decides.{nat_tests}
use Rattle.std.proofs.lemmas.List.{get_or-drop}
use Rattle.std.proofs.lemmas.Str.{utf8_valid_len-IsUtf8, IsUtf8-from_ascii}
use Rattle.hist_types.specs.declared.types.Fault.{Fault}
use Rattle.hist_types.specs.declared.types.Refusal.{Refusal}
use Rattle.hist_types.specs.declared.types.Refusal.TheVariants.{BadUtf8}
use Rattle.hist_types.specs.Bytes.{is_blank}
use Rattle.hist_types.specs.Tokens.{ItemKind, Blank, first_byte, front, BeginsWith, BeginsWithFault, item_fault, open_after, nesting_refusal, is_token, byte_fault}
use Rattle.edn_lex.specs.declared.types.Token.{Token}
use Rattle.edn_lex.specs.Kinds.{is_low, kind_of}
use Rattle.edn_lex.specs.State.{State, left, PassesOver, Passes}
use Rattle.edn_lex.proofs.Flags.{IsAscii_from_low}
use Rattle.edn_lex.proofs.Fronts.{BeginsWith-front, front-blank}

-- an item with a fault is a fault
BeginsWithFault-item :
    (text : List ℕ) (offset : ℕ) (closers : List ℕ) (kind : ItemKind) (bytes : List ℕ) (fault : Fault) →
    BeginsWith text kind bytes → item_fault kind offset bytes closers ≡ Some fault → BeginsWithFault text offset closers fault
BeginsWithFault-item [] offset closers kind bytes fault h bad = absurd h
BeginsWithFault-item (b ∷ rest) offset closers kind bytes fault h bad = inr (kind, bytes, h, bad)

-- the test of an order that holds
is_lt : (m n : ℕ) → m < n → nat_lt m n ≡ true
is_lt m n h = grind (arith, nat_tests)

-- the test of an order between equal numbers
not_lt : (m n : ℕ) → m ≡ n → nat_lt m n ≡ false
not_lt m n h = grind (arith, nat_tests)

-- xs is what is left of s, and the item at its front has this kind and length
module _ (s : State) (xs : List ℕ) (kind : ItemKind) (len : ℕ) (same : xs ≡ left s) (nonempty : 0 < length xs) (fits : len ≤ length xs) (found : front (first_byte xs) (drop 1 xs) ≡ (kind, Some len)) where
  -- the item stands there
  begins : BeginsWith (left s) kind (take len (left s))
  begins = subst (λ ys. BeginsWith ys kind (take len ys)) same (BeginsWith-front xs kind len nonempty fits found)

  -- bytes that are no UTF-8
  pub fault-utf8 :
      (valid : ℕ) (fault : Fault) → utf8_valid_len (take len xs) ≡ valid → valid < length (take len xs) → fault ≡ byte_fault BadUtf8 (s.offset + valid) →
      BeginsWithFault (left s) s.offset s.closers fault
  fault-utf8 valid fault is short told =
      let bytes = take len xs in
      let test : nat_lt (utf8_valid_len bytes) (length bytes) ≡ true = is_lt _ _ (subst (λ n. n < length bytes) (sym is) short) in
      let bad : item_fault kind s.offset bytes s.closers ≡ Some (byte_fault BadUtf8 (s.offset + utf8_valid_len bytes)) = rw test refl in
      BeginsWithFault-item (left s) s.offset s.closers kind (take len (left s)) fault begins
      (ap (λ ys. item_fault kind s.offset (take len ys) s.closers) (sym same) ∙ bad ∙ ap (λ n. Some (byte_fault BadUtf8 (s.offset + n))) is ∙ ap (λ f. Some f) (sym told))

  -- an item that may not stand here
  pub fault-nesting :
      (refusal : Refusal) (fault : Fault) → utf8_valid_len (take len xs) ≡ length (take len xs) → Some refusal ≡ nesting_refusal kind (take len xs) s.closers → fault ≡ byte_fault refusal s.offset →
      BeginsWithFault (left s) s.offset s.closers fault
  fault-nesting refusal fault valid refused told =
      let bytes = take len xs in
      let test : nat_lt (utf8_valid_len bytes) (length bytes) ≡ false = not_lt _ _ valid in
      let bad : item_fault kind s.offset bytes s.closers ≡ option_map (λ r. byte_fault r s.offset) (nesting_refusal kind bytes s.closers) = rw test refl in
      BeginsWithFault-item (left s) s.offset s.closers kind (take len (left s)) fault begins
      (ap (λ ys. item_fault kind s.offset (take len ys) s.closers) (sym same) ∙ bad ∙ ap (option_map (λ r. byte_fault r s.offset)) (sym refused) ∙ ap (λ f. Some f) (sym told))

  -- an item that has no fault
  passes_over :
      (closers : List ℕ) → s.offset ≤ length s.text → 0 < len → utf8_valid_len (take len xs) ≡ length (take len xs) → None ≡ nesting_refusal kind (take len xs) s.closers →
      closers ≡ open_after kind (take len xs) s.closers →
      PassesOver s kind len (record s { offset = s.offset + len; closers = closers })
  passes_over closers within some valid fine after =
      let bytes = take len xs in
      let test : nat_lt (utf8_valid_len bytes) (length bytes) ≡ false = not_lt _ _ valid in
      let good : item_fault kind s.offset bytes s.closers ≡ option_map (λ r. byte_fault r s.offset) (nesting_refusal kind bytes s.closers) = rw test refl in
      record {
        some = some;
        fits = (let e : length xs ≡ length (left s) = ap length same in omega (arith, length-drop s.offset s.text));
        begins = begins;
        no_fault = ap (λ ys. item_fault kind s.offset (take len ys) s.closers) (sym same) ∙ good ∙ ap (option_map (λ r. byte_fault r s.offset)) (sym fine);
        after =
            ap (λ cs. record s { offset = s.offset + len; closers = cs }) (after ∙ ap (λ ys. open_after kind (take len ys) s.closers) same);
      }

  -- the same, with the token that is given if it is one
  pub passes :
      (closers : List ℕ) (o : Option Token) → s.offset ≤ length s.text → 0 < len → utf8_valid_len (take len xs) ≡ length (take len xs) → None ≡ nesting_refusal kind (take len xs) s.closers →
      closers ≡ open_after kind (take len xs) s.closers →
      MatchOption o (is_token kind ≡ false) (λ t. (kind_of t.kind ≡ kind) × (t.start ≡ s.offset) × (t.end ≡ s.offset + len)) →
      Passes s (Ok o) (record s { offset = s.offset + len; closers = closers })
  passes closers None within some valid fine after none = (kind, len, none, passes_over closers within some valid fine after)
  passes closers (Some t) within some valid fine after is =
      let e : len ≡ t.end - t.start = (let start = is.1 in let end = is.2 in omega arith) in
      let u : State = record s { offset = s.offset + len; closers = closers } in (
        is.1,
        subst (λ n. PassesOver s (kind_of t.kind) n u) e
            (subst (λ k. PassesOver s k len u) (sym is.0) (passes_over closers within some valid fine after)),
      )

-- ---- a blank

blank_low : (b : ℕ) → is_blank b ≡ true → is_low b ≡ true
blank_low b h = grind (arith, nat_tests)

-- a text that begins with a blank
blank_found :
    (xs : List ℕ) → 0 < length xs → is_blank (first_byte xs) ≡ true →
    (front (first_byte xs) (drop 1 xs) ≡ (Blank, Some 1)) × (utf8_valid_len (take 1 xs) ≡ length (take 1 xs))
blank_found [] some h = absurd (omega arith)
blank_found (b ∷ rest) some h =
    (front-blank b rest h, utf8_valid_len-IsUtf8 (b ∷ []) (IsUtf8-from_ascii (b ∷ []) (IsAscii_from_low (b ∷ []) (and_from (is_low b) true (blank_low b h) refl))))

-- a blank is passed over
pub passes_blank :
    (s : State) → s.offset < length s.text → is_blank (get_or s.text s.offset 0) ≡ true → PassesOver s Blank 1 (record s { offset = s.offset + 1 })
passes_blank s within h =
    let xs = left s in
    let some : 0 < length xs = omega (arith, length-drop s.offset s.text) in
    let begins_with : is_blank (first_byte xs) ≡ true = ap is_blank (get_or-drop s.offset s.text 0 0 ∙ ap (λ n. get_or s.text n 0) (omega arith)) ∙ h in
    let found = blank_found xs some begins_with in
    passes_over s xs Blank 1 refl some some found.0 s.closers (omega arith) (omega arith) found.1 refl refl
