use Rattle.std.proofs.Common.{Option, None, ◌≡◌, ◌≤◌, ◌∙◌, ◌-◌, ◌++◌, ℕ, List, Ok, Err, Result, cond, length, map, replicate, take, sym, ap, subst}
use Rattle.std.specs.Prelude.{is_ok, OnOk}
use Rattle.std.specs.declared.alloc.AllocError.{AllocError}
use Rattle.std.proofs.lemmas.List.{length-map, map-append, take_all}
use Rattle.atom_index.specs.Slots.{number_of_entry, IsLengthened}
use Rattle.atom_index.proofs.Tables.{map-replicate}
use Rattle.atom_index.proofs.table.Table.lengthen.Goals as goal

-- a table whose entries were filled up with zeros is longer
longer :
    (r : Result (Unit {0}) AllocError) (slots : ℕ) (old new : List ℕ)
    → length (map number_of_entry old) ≤ slots
    → new ≡ cond (is_ok r) (take slots old ++ replicate (slots - length old) 0) old
    → OnOk r (IsLengthened slots (map number_of_entry old) (map number_of_entry new))
longer (Err e) slots old new short items = tt
longer (Ok v) slots old new short items =
    let len = length-map old number_of_entry in
    let nothing : Option ℕ = None in
    ap (map number_of_entry) (items ∙ ap (λ (xs : List ℕ). xs ++ replicate (slots - length old) 0) (take_all slots old (subst (λ (n : ℕ). n ≤ slots) len short)))
    ∙ map-append number_of_entry old (replicate (slots - length old) 0)
    ∙ ap (λ (xs : List _). map number_of_entry old ++ xs) (map-replicate number_of_entry (slots - length old) 0 ∙ ap (λ (n : ℕ). replicate (slots - n) nothing) (sym len))

pub returns-clause-ok : goal.returns-clause-ok
returns-clause-ok c =
    let entries = c.self.inside.entries in
    subst (λ (table : List _). OnOk c.resize.result (IsLengthened c.args.slots table (map number_of_entry c.resize.new.self.items))) c.self.view_is
    (longer c.resize.result c.args.slots entries.items c.resize.new.self.items (subst (λ (table : List _). length table ≤ c.args.slots) (sym c.self.view_is) c.requires)
    (rw entries.ok.0 at c.resize.ensures.items))
