-- What an operation's checks ask of a form they can ask of its outline.
use Rattle.std.proofs.Common.{arith, ◌≡◌, ℕ, List}
use Rattle.hist_types.specs.Entries.{is_named, int_of, atom_of, kind_of, is_write_of}
use Rattle.hist_types.specs.Forms.{Form, place_of}
use Rattle.edn_ops.specs.Outlines.{outline}

pub place_of-outline : (f : Form) → place_of (outline f) ≡ place_of f
place_of-outline f = grind arith

pub is_named-outline : (name : List ℕ) (f : Form) → is_named name (outline f) ≡ is_named name f
is_named-outline name f = grind arith

pub int_of-outline : (f : Form) → int_of (outline f) ≡ int_of f
int_of-outline f = grind arith

pub atom_of-outline : (f : Form) → atom_of (outline f) ≡ atom_of f
atom_of-outline f = grind arith

pub kind_of-outline : (f : Form) → kind_of (outline f) ≡ kind_of f
kind_of-outline f = grind arith

pub is_write_of-outline : (f : Form) → is_write_of (outline f) ≡ is_write_of f
is_write_of-outline f = grind arith
