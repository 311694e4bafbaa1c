-- Strict serial explanations (strict serializability, after Papadimitriou; outcomes are Jepsen's,
-- and registers as in Elle).
--
-- An explanation is a choice of transactions, all ok ones among them, no failed one, and any of the
-- others, in a total order in which T comes before U wherever T is ok and completed before U's
-- invocation, and in which each ok transaction's reads are what running the order from nil
-- registers gives.
use Rattle.std.specs.Prelude.{◌≡◌, List, [], ◌∷◌, nat_eq, if◌then◌else◌, IsTrue, IsFalse, Some, None, map, All, Contains, ⊤}
use Rattle.std.specs.List.{IsDistinct}
use Rattle.hist_types.specs.Atoms.{Atom, Value, atom_eq}
use Rattle.hist_types.specs.Operations.{Mop, read, write}
use Rattle.hist_types.specs.Transactions.{Transaction, is_ok, is_failed}
use Rattle.hist_types.specs.Edges.{is_ok_before}

-- what each register holds
abbrev pub Registers : Type 0
Registers = Atom → Value

abbrev pub all_nil : Registers
all_nil key = None

abbrev pub after_mop : Registers → Mop → Registers
after_mop registers (read key value) = registers
after_mop registers (write key value) = λ k. if atom_eq k key then Some value else registers k

-- the registers after a transaction, and after each micro-operation of it
abbrev pub after_mops : Registers → List Mop → Registers
after_mops registers [] = registers
after_mops registers (mop ∷ mops) = after_mops (after_mop registers mop) mops

-- a read returns what its register holds
abbrev pub IsRead : Registers → Mop → Type 0
IsRead registers (read key value) = registers key ≡ value
IsRead registers (write key value) = ⊤

-- each read returns what its register holds when it comes
abbrev pub AreRead : Registers → List Mop → Type 0
AreRead registers [] = ⊤
AreRead registers (mop ∷ mops) = IsRead registers mop × AreRead (after_mop registers mop) mops

-- Run in this order, the reads of the ok transactions are what the registers hold. Nobody knows
-- what the others read.
abbrev pub Runs : Registers → List Transaction → Type 0
Runs registers [] = ⊤
Runs registers (t ∷ ts) =
    (IsTrue (is_ok t) → AreRead registers t.mops) × Runs (after_mops registers t.mops) ts

-- no transaction comes after one that it completed before
abbrev pub KeepsRealtime : List Transaction → Type 0
KeepsRealtime [] = ⊤
KeepsRealtime (t ∷ ts) = All (λ later. IsFalse (is_ok_before later t)) ts × KeepsRealtime ts

pub record Explains (ts : List Transaction) (order : List Transaction) : Type 0 where
  pub chosen : All (λ t. Contains ts t × IsFalse (is_failed t)) order
  pub all_ok : (t : Transaction) → Contains ts t → IsTrue (is_ok t) → Contains order t
  pub different : IsDistinct nat_eq (map (λ (t : Transaction). t.invocation) order)
  pub realtime : KeepsRealtime order
  pub runs : Runs all_nil order

-- some order explains the transactions
abbrev pub AreExplained : List Transaction → Type 0
AreExplained ts = (order : List Transaction) × Explains ts order
