-- Fields that are printed before a transaction.
use Rattle.std.proofs.Common.{◌≡◌, ℕ, ◌+◌, ◌<◌, ◌≤◌, List, [], codes, length, get_or, refl, sym, ap, arith, subst, lit≤, lit<}
use Rattle.hist_types.specs.Entries.{is_named, kind_of as kind_of_form}
use Rattle.hist_types.specs.Forms.{plain}
use Rattle.hist_types.specs.Tokens.{Keyword, Item}
use Rattle.hist_types.specs.declared.types.OpKind.TheVariants as op_kinds
use Rattle.edn_lex.specs.Ahead.{IsGap, IsLoneAt, GivesLone}
use Rattle.edn_lex.specs.Kinds.{item_of}
use Rattle.edn_lex.specs.declared.types.Token.{Token}
use Rattle.edn_lex.specs.declared.types.TokenKind.TheVariants as kinds
use Rattle.edn_lex.proofs.LookAhead.{opener_given}
use Rattle.edn_lex.proofs.Phrases.{Has, byte_in, word_in, word_bytes_in, word_first, word_bytes_first}
use Rattle.edn_ops.specs.declared.flat.Front.{Front}
use Rattle.edn_ops.specs.declared.flat.Owner.TheVariants as owners
use Rattle.edn_ops.specs.Flat.{IsPrintedKind, IsPrintedOwner, IsPrintedValue, IsFrontAt, IsFrontOf, IsBehindOthers, PassesFields, AreFlat, no_fields_yet, NamesOwner}
use Rattle.edn_ops.proofs.FlatMaps.{comma_here, space_here, gap_more, field_passed, front_read, front_begins}
use Rattle.edn_ops.proofs.Gathering.{function_other}

abbrev keyword_item : ℕ → List ℕ → Item
keyword_item start bytes = record { kind = Keyword; start = start; bytes = bytes }

abbrev keyword : ℕ → ℕ → Token
keyword start len = record { kind = kinds.Keyword; start = start; end = start + len }

-- a space before the next place
space_to : (text : List ℕ) (at next : ℕ) → at < length text → get_or text at 0 ≡ 32 → at + 1 ≡ next → IsGap text at next
space_to text at next within is e = subst (IsGap text at) e (space_here text at within is)

-- a comma and a space
comma_to : (text : List ℕ) (at : ℕ) → at + 1 < length text → get_or text (at + 0) 0 ≡ 44 → get_or text (at + 1) 0 ≡ 32 → IsGap text at (at + 2)
comma_to text at within comma space =
    let here : at + 0 ≡ at = omega arith in
    gap_more text at (at + 1) (at + 2) (comma_here text at (omega arith) (subst (λ (n : ℕ). get_or text n 0 ≡ 44) here comma)) (space_to text (at + 1) (at + 2) within space (omega arith))

pub invoke_printed : (text : List ℕ) (start : ℕ) → start + 14 ≤ length text → Has text start (codes ":type :invoke,") → IsPrintedKind text start (op_kinds.Invoke, start + 13)
invoke_printed text start within has =
    let phrase = codes ":type :invoke," in
    record {
      key = keyword start 5;
      token = keyword (start + 6) 7;
      key_lone = word_first text start phrase (codes ":type") Keyword 32 (keyword start 5) has (lit< tt) refl refl refl (refl, refl, refl, refl, refl, refl) (refl, refl, refl);
      named = ap (λ (bs : List ℕ). is_named (codes ":type") (plain (keyword_item start bs))) (word_bytes_first text start phrase (codes ":type") has (lit≤ tt) refl);
      lone = word_in text start phrase 6 (codes ":invoke") Keyword 44 (keyword (start + 6) 7) has (lit< tt) refl refl refl (refl, refl, refl, refl, refl, refl) (refl, refl, refl) (start + 5)
          (space_to text (start + 5) (start + 6) (omega arith) (byte_in text start phrase 5 has (lit< tt)) (omega arith));
      fits = omega arith;
      kind = sym (ap (λ (bs : List ℕ). kind_of_form (plain (keyword_item (start + 6) bs))) (word_bytes_in text start phrase 6 (codes ":invoke") has (lit≤ tt) refl));
      mops = refl;
      end = omega arith;
    }

pub ok_printed : (text : List ℕ) (start : ℕ) → start + 14 ≤ length text → Has text start (codes ":type :ok,") → IsPrintedKind text start (op_kinds.Ok, start + 9)
ok_printed text start within has =
    let phrase = codes ":type :ok," in
    record {
      key = keyword start 5;
      token = keyword (start + 6) 3;
      key_lone = word_first text start phrase (codes ":type") Keyword 32 (keyword start 5) has (lit< tt) refl refl refl (refl, refl, refl, refl, refl, refl) (refl, refl, refl);
      named = ap (λ (bs : List ℕ). is_named (codes ":type") (plain (keyword_item start bs))) (word_bytes_first text start phrase (codes ":type") has (lit≤ tt) refl);
      lone = word_in text start phrase 6 (codes ":ok") Keyword 44 (keyword (start + 6) 3) has (lit< tt) refl refl refl (refl, refl, refl, refl, refl, refl) (refl, refl, refl) (start + 5)
          (space_to text (start + 5) (start + 6) (omega arith) (byte_in text start phrase 5 has (lit< tt)) (omega arith));
      fits = omega arith;
      kind = sym (ap (λ (bs : List ℕ). kind_of_form (plain (keyword_item (start + 6) bs))) (word_bytes_in text start phrase 6 (codes ":ok") has (lit≤ tt) refl));
      mops = refl;
      end = omega arith;
    }

-- a process's number after its key
pub owner_printed :
    (text : List ℕ) (comma process : ℕ) (number : Token) → comma + 11 < length text → Has text comma (codes ", :process ") → IsLoneAt text (comma + 11) number → number.end ≤ length text →
    NamesOwner (plain (item_of text number)) (owners.Client process) → IsPrintedOwner text comma (process, number.end)
owner_printed text comma process number within has lone fits owner =
    let phrase = codes ", :process " in
    let key = keyword (comma + 2) 8 in
    let behind : comma + 10 ≡ comma + 2 + 8 = omega arith in
    record {
      key = key;
      token = number;
      key_lone = word_in text comma phrase 2 (codes ":process") Keyword 32 key has (lit< tt) refl refl refl (refl, refl, refl, refl, refl, refl) (refl, refl, refl) comma
          (comma_to text comma (omega arith) (byte_in text comma phrase 0 has (lit< tt)) (byte_in text comma phrase 1 has (lit< tt)));
      named = ap (λ (bs : List ℕ). is_named (codes ":process") (plain (keyword_item (comma + 2) bs))) (word_bytes_in text comma phrase 2 (codes ":process") has (lit≤ tt) refl);
      lone = lone (comma + 2 + 8) (subst (λ (n : ℕ). IsGap text n (comma + 11)) behind (space_to text (comma + 10) (comma + 11) (omega arith) (byte_in text comma phrase 10 has (lit< tt)) (omega arith)));
      fits = fits;
      owner = owner;
      end = refl;
    }

pub txn_printed : (text : List ℕ) (comma : ℕ) → comma + 10 ≤ length text → Has text comma (codes ", :f :txn,") → PassesFields text comma (comma + 9)
txn_printed text comma within has =
    let phrase = codes ", :f :txn," in
    let key = keyword (comma + 2) 2 in
    let token = keyword (comma + 5) 4 in
    let ends : comma + 5 + 4 ≡ comma + 9 = omega arith in
    let behind : comma + 4 ≡ comma + 2 + 2 = omega arith in
    let named = ap (λ (bs : List ℕ). is_named (codes ":f") (plain (keyword_item (comma + 2) bs))) (word_bytes_in text comma phrase 2 (codes ":f") has (lit≤ tt) refl) in
    subst (PassesFields text comma) ends
    (field_passed text (comma + 2) key token (word_in text comma phrase 2 (codes ":f") Keyword 32 key has (lit< tt) refl refl refl (refl, refl, refl, refl, refl, refl) (refl, refl, refl))
    (function_other (plain (item_of text key)) named)
    (word_in text comma phrase 5 (codes ":txn") Keyword 44 token has (lit< tt) refl refl refl (refl, refl, refl, refl, refl, refl) (refl, refl, refl) (comma + 2 + 2)
    (subst (λ (n : ℕ). IsGap text n (comma + 5)) behind (space_to text (comma + 4) (comma + 5) (omega arith) (byte_in text comma phrase 4 has (lit< tt)) (omega arith))))
    (omega arith) comma (comma_to text comma (omega arith) (byte_in text comma phrase 0 has (lit< tt)) (byte_in text comma phrase 1 has (lit< tt))))

pub value_printed : (text : List ℕ) (comma : ℕ) → comma + 10 ≤ length text → Has text comma (codes ", :value [") → IsPrintedValue text comma (comma + 10)
value_printed text comma within has =
    let phrase = codes ", :value [" in
    let key = keyword (comma + 2) 6 in
    let behind : comma + 8 ≡ comma + 2 + 6 = omega arith in
    let gap = subst (λ (n : ℕ). IsGap text n (comma + 9)) behind (space_to text (comma + 8) (comma + 9) (omega arith) (byte_in text comma phrase 8 has (lit< tt)) (omega arith)) in
    record {
      key = key;
      opener = record { kind = kinds.Open; start = comma + 9; end = comma + 9 + 1 };
      key_lone = word_in text comma phrase 2 (codes ":value") Keyword 32 key has (lit< tt) refl refl refl (refl, refl, refl, refl, refl, refl) (refl, refl, refl) comma
          (comma_to text comma (omega arith) (byte_in text comma phrase 0 has (lit< tt)) (byte_in text comma phrase 1 has (lit< tt)));
      named = ap (λ (bs : List ℕ). is_named (codes ":value") (plain (keyword_item (comma + 2) bs))) (word_bytes_in text comma phrase 2 (codes ":value") has (lit≤ tt) refl);
      opens = opener_given text (comma + 2 + 6) (comma + 9) (omega arith) (omega arith) gap.blanks (byte_in text comma phrase 9 has (lit< tt));
      end_is = omega arith;
    }

-- all of them
pub front_printed :
    (text : List ℕ) (start kind_end owner_end at : ℕ) (front : Front) → IsPrintedKind text start (front.kind, kind_end) → IsPrintedOwner text kind_end (front.process, owner_end) → PassesFields text owner_end at →
    IsPrintedValue text at front.members → front.members ≤ length text → IsFrontAt text start front
front_printed text start kind_end owner_end at front kind owner passed value within =
    record {
      opener = value.opener;
      end_is = value.end_is;
      within = within;
      mops = kind.mops;
      reads = front_read text start at kind.key kind.token owner.key owner.token value.key value.opener no_fields_yet front.kind (owners.Client front.process) refl refl refl kind.key_lone kind.named kind.lone kind.fits kind.kind kind.mops
          (subst (λ (n : ℕ). GivesLone text n owner.key) (sym kind.end) owner.key_lone) owner.named owner.lone owner.fits owner.owner (subst (λ (n : ℕ). PassesFields text n at) (sym owner.end) passed) value.key_lone value.named value.opens;
    }

nothing_yet : AreFlat no_fields_yet [] []
nothing_yet = record { kind = refl; owner = refl; value = λ may. refl; empty = λ none. refl }

pub front_from : (text : List ℕ) (offset start : ℕ) (front : Front) → offset ≤ length text → IsBehindOthers text offset start → IsFrontAt text start front → IsFrontOf text offset front
front_from text offset start front within behind h =
    record { opener = h.opener; end_is = h.end_is; within = h.within; mops = h.mops; reached = front_begins text offset behind.0 start no_fields_yet _ h.opener within nothing_yet behind.1 behind.2 h.reads }
