-- The content of a string without escapes.
use Rattle.std.proofs.Common.{◌≡◌, ℕ, suc, List, [], ◌∷◌, length, false, Some, refl, ap, arith}
use Rattle.std.specs.Prelude.{◌==◌}
use Rattle.std.specs.Option.{option_map}
use Rattle.std.proofs.lemmas.Bool.{false_from_ne_true}
use Rattle.hist_types.specs.AtomTokens.{decoded}
use Rattle.memchr.specs.Find.{Passes, Nowhere, is_byte}

-- with no backslash, the content is what stands there
pub plain_content : (between : List ℕ) → Nowhere (Passes (is_byte 92) between) 0 (length between) → decoded false between ≡ Some between
plain_content [] none = refl
plain_content (b ∷ rest) none =
    let plain : (b == 92) ≡ false = false_from_ne_true _ (λ h. none 0 (omega arith) (omega arith) h) in
    let later : decoded false rest ≡ Some rest = plain_content rest (λ k low high h. none (suc k) (omega arith) (omega (arith, high)) h) in
    rw plain (ap (option_map (λ (cs : List ℕ). b ∷ cs)) later)
