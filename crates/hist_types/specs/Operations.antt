-- Operations (Jepsen's, of register transactions as in Elle).
-- An operation says of a process that it invokes a transaction, or how one ended. A transaction is
-- a list of micro-operations; a fail and an info carry none.
use Rattle.std.specs.Prelude.{ℕ, List, Option}
use Rattle.hist_types.specs.Atoms.{Atom}
use Rattle.hist_types.specs.declared.types.OpKind.{OpKind}

-- a read of a key with what it returned, nil or an atom, or a write of a value to a key
pub data Mop : Type 0 where
  read : (key : Atom) → (value : Option Atom) → Mop
  write : (key : Atom) → (value : Atom) → Mop

pub record Operation : Type 0 where
  pub kind : OpKind
  pub process : ℕ
  pub mops : List Mop
