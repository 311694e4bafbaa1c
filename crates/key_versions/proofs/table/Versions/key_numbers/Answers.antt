use Rattle.std.proofs.Common.{◌≡◌, ◌∙◌, ℕ, Option, length, map, sym, ap, subst, arith}
use Rattle.key_versions.specs.KeyNumbers.{AreKeyNumbers}
use Rattle.key_versions.specs.Tables.{Table}
use Rattle.key_versions.proofs.KeyNumbers.{are_key_numbers}
use Rattle.key_versions.proofs.table.Versions.key_numbers.Goals as goal

pub returns : goal.returns
returns c =
    let keys = c.self.inside.keys.items in
    let pairs = c.self.inside.pairs.items in
    let numbers : c.in_ok-keys_in.field-0.items ≡ map (λ p. p.0) pairs = c.in_ok-keys_in.ensures ∙ ap (map (λ (p : ℕ × Option ℕ). p.0)) c.as_slice.ensures.value in
    let count : c.len.result ≡ length keys = omega (arith, c.len.ensures, c.self.inside.keys.ok) in
    subst (AreKeyNumbers c.args.self.now.versions c.len.result) (sym numbers)
    (subst (λ n. AreKeyNumbers c.args.self.now.versions n (map (λ p. p.0) pairs)) (sym count)
    (subst (λ (t : Table). AreKeyNumbers t.versions (length keys) (map (λ p. p.0) pairs)) c.self.view_is
    (are_key_numbers keys c.self.inside.values.items pairs c.self.invariant.keys_numbered c.self.invariant.in_range)))
