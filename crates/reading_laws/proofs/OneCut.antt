-- A text is cut in one way.
use Rattle.std.proofs.Common.{◌≡◌, inl, inr, ℕ, ◌+◌, List, [], ◌∷◌, length, take, drop, Option, Some, None, refl, sym, ◌∙◌, ap, subst, arith}
use Rattle.std.proofs.lemmas.Option.{none-some, same_Some}
use Rattle.hist_types.specs.Tokens.{Item, ItemKind, front, item_fault, open_after, BeginsWith, BeginsWithFault, tokens_of, IsCut, HasTokens}
use Rattle.hist_types.specs.declared.types.Fault.{Fault}

abbrev pub the_item : ItemKind → ℕ → List ℕ → Item
the_item kind start bytes = record { kind = kind; start = start; bytes = bytes }

same_front :
    (f : ItemKind × Option ℕ) (k l : ItemKind) (m n : ℕ)
    → f ≡ (k, Some m)
    → f ≡ (l, Some n)
    → (k ≡ l) × (m ≡ n)
same_front f k l m n p q =
    let both : (k, Some m) ≡ (l, Some n) = sym p ∙ q in
    (ap (λ (x : ItemKind × Option ℕ). x.0) both, same_Some m n (ap (λ (x : ItemKind × Option ℕ). x.1) both))

no_end : (f : ItemKind × Option ℕ) (k l : ItemKind) (n : ℕ) → f ≡ (k, None) → f ≡ (l, Some n) → ⊥
no_end f k l n p q =
    let both : (k, None) ≡ (l, Some n) = sym p ∙ q in
    none-some n (ap (λ (x : ItemKind × Option ℕ). x.1) both)

one_front : (text : List ℕ) (k l : ItemKind) (a b : List ℕ) → BeginsWith text k a → BeginsWith text l b → (k ≡ l) × (a ≡ b)
one_front [] k l a b first second = elim first [ ]
one_front (c ∷ rest) k l a b first second =
    let same = same_front (front c rest) k l (length a) (length b) first.0 second.0 in
    (same.0, first.1 ∙ (ap (λ n. take n (c ∷ rest)) same.1 ∙ sym second.1))

not_empty : (b : ℕ) (rest : List ℕ) → (b ∷ rest) ≡ [] → ⊥
not_empty b rest e = let none : length (b ∷ rest) ≡ 0 = ap length e in omega (arith, none)

empty_begins : (text : List ℕ) (k : ItemKind) (a : List ℕ) → text ≡ [] → BeginsWith text k a → ⊥
empty_begins [] k a e begins = begins
empty_begins (b ∷ rest) k a e begins = not_empty b rest e

empty_faulty : (text : List ℕ) (offset : ℕ) (closers : List ℕ) (f : Fault) → text ≡ [] → BeginsWithFault text offset closers f → ⊥
empty_faulty [] offset closers f e begins = begins
empty_faulty (b ∷ rest) offset closers f e begins = not_empty b rest e

same_item_fault :
    (offset : ℕ) (closers : List ℕ) (k l : ItemKind) (a b : List ℕ)
    → (k ≡ l) × (a ≡ b)
    → item_fault k offset a closers ≡ item_fault l offset b closers
same_item_fault offset closers k l a b same = ap (λ kind. item_fault kind offset a closers) same.0 ∙ ap (λ bytes. item_fault l offset bytes closers) same.1

one_fault : (text : List ℕ) (offset : ℕ) (closers : List ℕ) (f g : Fault) → BeginsWithFault text offset closers f → BeginsWithFault text offset closers g → f ≡ g
one_fault [] offset closers f g first second = elim first [ ]
one_fault (b ∷ rest) offset closers f g (inl first) (inl second) = first.1 ∙ sym second.1
one_fault (b ∷ rest) offset closers f g (inl first) (inr second) = elim (no_end (front b rest) _ second.0 (length second.1) first.0 second.2.0) [ ]
one_fault (b ∷ rest) offset closers f g (inr first) (inl second) = elim (no_end (front b rest) _ first.0 (length first.1) second.0 first.2.0) [ ]
one_fault (b ∷ rest) offset closers f g (inr first) (inr second) =
    same_Some f g
    (sym first.3 ∙ (same_item_fault offset closers first.0 second.0 first.1 second.1 (one_front (b ∷ rest) first.0 second.0 first.1 second.1 first.2 second.2) ∙ second.3))

-- an item without a fault, and a fault, do not stand at one place
good_or_faulty :
    (text : List ℕ) (offset : ℕ) (closers : List ℕ) (k : ItemKind) (a : List ℕ) (f : Fault)
    → BeginsWith text k a
    → item_fault k offset a closers ≡ None
    → BeginsWithFault text offset closers f
    → ⊥
good_or_faulty [] offset closers k a f begins good faulty = begins
good_or_faulty (b ∷ rest) offset closers k a f begins good (inl faulty) = no_end (front b rest) _ k (length a) faulty.0 begins.0
good_or_faulty (b ∷ rest) offset closers k a f begins good (inr faulty) =
    none-some f
    (sym good ∙ (same_item_fault offset closers k faulty.0 a faulty.1 (one_front (b ∷ rest) k faulty.0 a faulty.1 begins faulty.2) ∙ faulty.3))

same_items : (i j : Item) → i.kind ≡ j.kind → i.start ≡ j.start → i.bytes ≡ j.bytes → i ≡ j
same_items i j k s b =
    ap (λ kind. the_item kind i.start i.bytes) k ∙ (ap (λ start. the_item j.kind start i.bytes) s ∙ ap (the_item j.kind j.start) b)

pub one_cut :
    (text : List ℕ) (offset : ℕ) (closers : List ℕ) (is js : List Item) (e d : Option Fault)
    → IsCut text offset closers is e
    → IsCut text offset closers js d
    → (is ≡ js) × (e ≡ d)
one_cut text offset closers [] [] None None first second = (refl, refl)
one_cut text offset closers [] [] None (Some g) first second = elim (empty_faulty text offset closers g first second) [ ]
one_cut text offset closers [] [] (Some f) None first second = elim (empty_faulty text offset closers f second first) [ ]
one_cut text offset closers [] [] (Some f) (Some g) first second = (refl, ap Some (one_fault text offset closers f g first second))
one_cut text offset closers [] (j ∷ js) None d first second = elim (empty_begins text j.kind j.bytes first second.0) [ ]
one_cut text offset closers [] (j ∷ js) (Some f) d first second = elim (good_or_faulty text offset closers j.kind j.bytes f second.0 second.2 first) [ ]
one_cut text offset closers (i ∷ is) [] e None first second = elim (empty_begins text i.kind i.bytes second first.0) [ ]
one_cut text offset closers (i ∷ is) [] e (Some g) first second = elim (good_or_faulty text offset closers i.kind i.bytes g first.0 first.2 second) [ ]
one_cut text offset closers (i ∷ is) (j ∷ js) e d first second =
    let fronts = one_front text i.kind j.kind i.bytes j.bytes first.0 second.0 in
    let same : i ≡ j = same_items i j fronts.0 (first.1 ∙ sym second.1) fronts.1 in
    let rest = one_cut (drop (length i.bytes) text) (offset + length i.bytes) (open_after i.kind i.bytes closers) is js e d first.3
    (subst (λ (k : Item). IsCut (drop (length k.bytes) text) (offset + length k.bytes) (open_after k.kind k.bytes closers) js d) (sym same) second.3) in
    (ap (λ (k : Item). k ∷ is) same ∙ ap (λ (ks : List Item). j ∷ ks) rest.0, rest.1)

pub one_row_of_tokens : (text : List ℕ) (ts us : List Item) (e d : Option Fault) → HasTokens text ts e → HasTokens text us d → (ts ≡ us) × (e ≡ d)
one_row_of_tokens text ts us e d first second =
    let same = one_cut text 0 [] first.0 second.0 e d first.1 second.1 in
    (first.2 ∙ (ap tokens_of same.0 ∙ sym second.2), same.1)
