use Rattle.std.proofs.Common.{◌∙◌, ◌++◌, ◌∷◌, [], List, ℕ, Option, None, sym, ap}
use Rattle.key_versions.specs.Numbering.{versions_of}
use Rattle.key_versions.proofs.Numbered.{new_key}
use Rattle.key_versions.proofs.numbering.Numbering.key.Goals as goal

pub invariant_of-self-2 : goal.invariant_of-self-2
invariant_of-self-2 g c =
    (new_key c.self.inside.keys.items c.self.inside.values.items c.self.inside.pairs.items c.self.inside.nils.items c.args.key c.insert.new.self.items c.push_reserved.new.self.items c.self.invariant
    c.in_ok-number.ensures.items (sym c.in_default.ensures) (c.push_reserved.ensures.items ∙ ap (λ (ns : List (Option ℕ)). ns ++ None ∷ []) c.try_reserve.ensures.items)).0

pub returns-clause-versions : goal.returns-clause-versions
returns-clause-versions g c =
    (new_key c.self.inside.keys.items c.self.inside.values.items c.self.inside.pairs.items c.self.inside.nils.items c.args.key c.insert.new.self.items c.push_reserved.new.self.items c.self.invariant
    c.in_ok-number.ensures.items (sym c.in_default.ensures) (c.push_reserved.ensures.items ∙ ap (λ (ns : List (Option ℕ)). ns ++ None ∷ []) c.try_reserve.ensures.items)).1
    ∙ ap versions_of c.self.view_is
