-- How the logic stores the plain data of these definitions, for the types of code that contracts
-- see as such data.
use Rattle.std.specs.Prelude.{◌≡◌, ℕ, ℤ, pos, List, [], Bool, true, false, cond, ◌==◌, Option, Some, None, refl}
use Rattle.std.specs.Coded.{Coded, code_by, coded×, coded_ℕ, coded_ℤ, coded_bool, coded_list, coded_option}
use Rattle.hist_types.specs.Atoms.{Atom, integer, keyword, string, symbol}
use Rattle.hist_types.specs.Operations.{Mop, read, write, Operation}
use Rattle.hist_types.specs.Transactions.{Status, Ok, Fail, Info, Open, Transaction}
use Rattle.hist_types.specs.declared.types.OpKind.{OpKind}
use Rattle.hist_types.specs.declared.types.OpKind.TheVariants as kinds

-- ---- atoms

abbrev atom_parts : Atom → ℕ × (ℤ × List ℕ)
atom_parts (integer n) = (0, (n, []))
atom_parts (keyword s) = (1, (pos 0, s))
atom_parts (string s) = (2, (pos 0, s))
atom_parts (symbol s) = (3, (pos 0, s))

abbrev atom_from : ℕ × (ℤ × List ℕ) → Atom
atom_from p =
    cond (p.0 == 0) (integer p.1.0)
    (cond (p.0 == 1) (keyword p.1.1) (cond (p.0 == 2) (string p.1.1) (symbol p.1.1)))

pub atom_from-parts : (a : Atom) → atom_from (atom_parts a) ≡ a
atom_from-parts (integer n) = refl
atom_from-parts (keyword s) = refl
atom_from-parts (string s) = refl
atom_from-parts (symbol s) = refl

abbrev pub coded_atom : Coded Atom
coded_atom =
    code_by (ℕ × (ℤ × List ℕ)) (coded× coded_ℕ (coded× coded_ℤ (coded_list coded_ℕ)))
    atom_parts atom_from atom_from-parts

-- ---- micro-operations and operations

abbrev mop_parts : Mop → Bool × (Atom × Option Atom)
mop_parts (read key value) = (false, (key, value))
mop_parts (write key value) = (true, (key, Some value))

abbrev mop_from_value : Bool → Atom → Option Atom → Mop
mop_from_value true key (Some value) = write key value
mop_from_value true key None = read key None
mop_from_value false key value = read key value

abbrev mop_from : Bool × (Atom × Option Atom) → Mop
mop_from p = mop_from_value p.0 p.1.0 p.1.1

pub mop_from-parts : (m : Mop) → mop_from (mop_parts m) ≡ m
mop_from-parts (read key value) = refl
mop_from-parts (write key value) = refl

abbrev pub coded_mop : Coded Mop
coded_mop =
    code_by (Bool × (Atom × Option Atom))
    (coded× coded_bool (coded× coded_atom (coded_option coded_atom)))
    mop_parts mop_from mop_from-parts

abbrev kind_number : OpKind → ℕ
kind_number kinds.Invoke = 0
kind_number kinds.Ok = 1
kind_number kinds.Fail = 2
kind_number kinds.Info = 3

abbrev kind_from : ℕ → OpKind
kind_from n =
    cond (n == 0) kinds.Invoke (cond (n == 1) kinds.Ok (cond (n == 2) kinds.Fail kinds.Info))

pub kind_from-number : (k : OpKind) → kind_from (kind_number k) ≡ k
kind_from-number kinds.Invoke = refl
kind_from-number kinds.Ok = refl
kind_from-number kinds.Fail = refl
kind_from-number kinds.Info = refl

abbrev pub coded_kind : Coded OpKind
coded_kind = code_by ℕ coded_ℕ kind_number kind_from kind_from-number

abbrev pub coded_operation : Coded Operation
coded_operation =
    code_by (OpKind × (ℕ × List Mop)) (coded× coded_kind (coded× coded_ℕ (coded_list coded_mop)))
    (λ o. (o.kind, (o.process, o.mops)))
    (λ p. record { kind = p.0; process = p.1.0; mops = p.1.1 })
    (λ _. refl)

-- ---- transactions

abbrev status_number : Status → ℕ
status_number Ok = 0
status_number Fail = 1
status_number Info = 2
status_number Open = 3

abbrev status_from : ℕ → Status
status_from n = cond (n == 0) Ok (cond (n == 1) Fail (cond (n == 2) Info Open))

pub status_from-number : (s : Status) → status_from (status_number s) ≡ s
status_from-number Ok = refl
status_from-number Fail = refl
status_from-number Info = refl
status_from-number Open = refl

abbrev pub coded_status : Coded Status
coded_status = code_by ℕ coded_ℕ status_number status_from status_from-number

abbrev pub coded_transaction : Coded Transaction
coded_transaction =
    code_by (ℕ × (ℕ × (Option ℕ × (Status × List Mop))))
    (coded× coded_ℕ
    (coded× coded_ℕ
    (coded× (coded_option coded_ℕ) (coded× coded_status (coded_list coded_mop)))))
    (λ t. (t.process, (t.invocation, (t.completion, (t.status, t.mops)))))
    (λ p. record {
      process = p.0;
      invocation = p.1.0;
      completion = p.1.1.0;
      status = p.1.1.1.0;
      mops = p.1.1.1.1;
    })
    (λ _. refl)
