-- One item after the other: what stands at a place is determined.
use Rattle.std.proofs.Common.{◌≡◌, ℕ, ◌+◌, List, [], ◌∷◌, length, drop, take, Option, Some, None, sym, ◌∙◌, ap, subst, inl, inr}
use Rattle.hist_types.specs.declared.types.Fault.{Fault}
use Rattle.hist_types.specs.Tokens.{ItemKind, Str, Item, front, BeginsWith, BeginsWithFault, IsCut, item_fault, open_after}

-- ---- one item

-- the item with these parts
abbrev pub item : ItemKind → ℕ → List ℕ → Item
item kind start bytes = record { kind = kind; start = start; bytes = bytes }

-- equal pairs have equal parts
pub same_front :
    (kind kind' : ItemKind) (o o' : Option ℕ) → (let p : ItemKind × Option ℕ = (kind, o) in p ≡ (kind', o')) → (kind ≡ kind') × (o ≡ o')
same_front kind kind' o o' e = (ap (λ (p : ItemKind × Option ℕ). p.0) e, ap (λ (p : ItemKind × Option ℕ). p.1) e)

-- equal values that are there are equal
same_some : (m n : ℕ) → Some m ≡ Some n → m ≡ n
same_some m n e = cc

-- no two items begin a text
pub BeginsWith-unique :
    (text : List ℕ) (kind kind' : ItemKind) (bytes bytes' : List ℕ) → BeginsWith text kind bytes → BeginsWith text kind' bytes' →
    (kind ≡ kind') × (bytes ≡ bytes')
BeginsWith-unique [] kind kind' bytes bytes' h h' = absurd h
BeginsWith-unique (b ∷ rest) kind kind' bytes bytes' h h' =
    let same = same_front kind kind' (Some (length bytes)) (Some (length bytes')) (sym h.0 ∙ h'.0) in
    (same.0, h.1 ∙ ap (λ n. take n (b ∷ rest)) (same_some _ _ same.1) ∙ sym h'.1)

-- a string that nothing closes is no item
BeginsWith-closed : (b : ℕ) (rest : List ℕ) (kind kind' : ItemKind) (bytes : List ℕ) → BeginsWith (b ∷ rest) kind bytes → front b rest ≡ (kind', None) → ⊥
BeginsWith-closed b rest kind kind' bytes h e =
    let same = same_front kind kind' (Some (length bytes)) None (sym h.0 ∙ e) in
    absurd (let none : Some (length bytes) ≡ None = same.1 in cc)

-- an item that has no fault is no fault
pub BeginsWith-no_fault :
    (text : List ℕ) (offset : ℕ) (closers : List ℕ) (kind : ItemKind) (bytes : List ℕ) (fault : Fault) →
    BeginsWith text kind bytes → item_fault kind offset bytes closers ≡ None → BeginsWithFault text offset closers fault → ⊥
BeginsWith-no_fault [] offset closers kind bytes fault h fine bad = absurd h
BeginsWith-no_fault (b ∷ rest) offset closers kind bytes fault h fine (inl open_string) =
    BeginsWith-closed b rest kind Str bytes h open_string.0
BeginsWith-no_fault (b ∷ rest) offset closers kind bytes fault h fine (inr bad) =
    let same = BeginsWith-unique (b ∷ rest) kind bad.0 bytes bad.1 h bad.2 in
    let moved : item_fault bad.0 offset bad.1 closers ≡ None =
    ap (λ k. item_fault k offset bad.1 closers) (sym same.0) ∙ ap (λ bs. item_fault kind offset bs closers) (sym same.1) ∙ fine in
    absurd (let clash : None ≡ Some fault = sym moved ∙ bad.3 in cc)

-- what follows an item, in a cut
abbrev pub IsCutAfter : List ℕ → ℕ → List ℕ → ItemKind → List ℕ → List Item → Option Fault → Type 0
IsCutAfter text offset closers kind bytes items ending =
    IsCut (drop (length bytes) text) (offset + length bytes) (open_after kind bytes closers) items ending

-- an item is made of its parts
same_item :
    (i : Item) (kind : ItemKind) (start : ℕ) (bytes : List ℕ) → i.kind ≡ kind → i.start ≡ start → i.bytes ≡ bytes → i ≡ item kind start bytes
same_item i kind start bytes k s b =
    ap (λ x. item x i.start i.bytes) k ∙ ap (λ x. item kind x i.bytes) s ∙ ap (λ x. item kind start x) b

-- the item at the front is the first of each cut
pub IsCut-first :
    (text : List ℕ) (offset : ℕ) (closers : List ℕ) (kind : ItemKind) (bytes : List ℕ) (items : List Item) (ending : Option Fault) →
    BeginsWith text kind bytes → item_fault kind offset bytes closers ≡ None → IsCut text offset closers items ending →
    (later : List Item) × (items ≡ item kind offset bytes ∷ later) × IsCutAfter text offset closers kind bytes later ending
IsCut-first [] offset closers kind bytes items ending h fine cut = absurd h
IsCut-first (b ∷ rest) offset closers kind bytes [] None h fine cut = absurd (let clash : b ∷ rest ≡ [] = cut in cc)
IsCut-first (b ∷ rest) offset closers kind bytes [] (Some fault) h fine cut =
    absurd (BeginsWith-no_fault (b ∷ rest) offset closers kind bytes fault h fine cut)
IsCut-first (b ∷ rest) offset closers kind bytes (i ∷ items) ending h fine cut =
    let same = BeginsWith-unique (b ∷ rest) i.kind kind i.bytes bytes cut.0 h in
    let after : ItemKind × List ℕ → Type 0 = λ p. IsCutAfter (b ∷ rest) offset closers p.0 p.1 items ending in (
      items,
      ap (λ x. x ∷ items) (same_item i kind offset bytes same.0 cut.1 same.1),
      subst after (ap (λ k. (k, i.bytes)) same.0 ∙ ap (λ bs. (kind, bs)) same.1) cut.3,
    )
