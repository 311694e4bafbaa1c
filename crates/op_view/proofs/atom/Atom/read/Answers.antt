use Rattle.std.proofs.Common.{◌≡◌, Some, None, sym, subst, ◌∙◌, Option}
use Rattle.hist_types.specs.Atoms.{Atom}
use Rattle.hist_types.specs.AtomTokens.{atom_of_token}
use Rattle.hist_types.specs.Tokens.{ItemKind}
use Rattle.edn_lex.specs.Kinds.{kind_of}
use Rattle.edn_ops.proofs.Tokens.{one_kind}
use Rattle.op_view.proofs.atom.Atom.read.Goals as goal

no_atom : (o : Option Atom) (atom : Atom) → o ≡ None → o ≡ Some atom → ⊥
no_atom o atom e f = let none : None ≡ Some atom = sym e ∙ f in cc

pub returns-in_err-kind : goal.returns-in_err-kind
returns-in_err-kind c = rw c.from_residual.ensures (λ atom h. c.in_err-kind.ensures h.0 h.1)

pub returns-in_err-spelling : goal.returns-in_err-spelling
returns-in_err-spelling c =
    rw c.from_residual-in_err-spelling.ensures
    (λ atom h.
    let same = one_kind c.args.text.now (kind_of c.in_ok-kind.kind) h.0 c.in_ok-kind.ensures h.1 in
    no_atom (atom_of_token h.0 c.args.text.now) atom
    (subst (λ (k : ItemKind). atom_of_token k c.args.text.now ≡ None) same c.in_err-spelling.ensures) h.2)
